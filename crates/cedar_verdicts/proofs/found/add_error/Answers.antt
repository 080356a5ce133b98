use Rattle.std.proofs.Common.{◌∙◌, Bool, ◌||◌, List, map, sym, ap}
use Rattle.std.specs.List.{list_any}
use Rattle.std.specs.Map.{keys_of}
use Rattle.std.specs.Ordering.{is_eq}
use Rattle.cedar_types.specs.ErrorOrder.{error_cmp}
use Rattle.cedar_types.specs.Errors.{finding_of}
use Rattle.cedar_typing.proofs.Policies.Tallies.{tie_decides}
use Rattle.cedar_verdicts.proofs.Members.{or_false, with_key}
use Rattle.cedar_verdicts.proofs.found.add_error.Goals as goal

pub returns : goal.returns
returns c = λ p.
    let es = c.args.errors.now.entries in
    ap (λ fs. list_any p (map finding_of (keys_of fs))) c.in_ok-insert.ensures.entries
    ∙ with_key error_cmp finding_of (λ a b e. (tie_decides a b).0 (ap is_eq e)) p c.args.error c.none.result es
    ∙ ap (λ b. b || list_any p (map finding_of (keys_of es))) (sym (or_false (p (finding_of c.args.error))))
