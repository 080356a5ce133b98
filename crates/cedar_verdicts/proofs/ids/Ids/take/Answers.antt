use Rattle.std.proofs.Common.{◌≡◌, ◌∙◌, Bool, true, ◌||◌, List, map, is_some, sym, ap}
use Rattle.std.specs.List.{list_any}
use Rattle.std.specs.Map.{keys_of}
use Rattle.cedar_types.specs.Names.{Text, text_eq, text_of}
use Rattle.cedar_verdicts.specs.Ids.{has_id}
use Rattle.cedar_verdicts.proofs.KnownIds.{found, no_more, one_more_key}
use Rattle.cedar_verdicts.proofs.ids.Ids.take.Goals as goal

pub returns-in-Some-clause-known : goal.returns-in-Some-clause-known
returns-in-Some-clause-known c =
    let ids = c.args.self.now in
    ap is_some c.in-Some.ensures.value ∙ found c.in_ok-id.id ids.starts.entries
    ∙ ap (has_id ids) c.in_ok-id.ensures.cases

pub returns-in-Some-clause-taken : goal.returns-in-Some-clause-taken
returns-in-Some-clause-taken c =
    let ids = c.args.self.now in
    let known : true ≡ has_id ids (text_of c.args.id.now.text) = ap is_some c.in-Some.ensures.value ∙ (found c.in_ok-id.id ids.starts.entries
    ∙ ap (has_id ids) c.in_ok-id.ensures.cases) in
    no_more (text_of c.args.id.now.text) (map text_of (keys_of ids.starts.entries)) (sym known)

pub returns-clause-known : goal.returns-clause-known
returns-clause-known c =
    let ids = c.args.self.now in
    ap is_some c.in_default.ensures.value ∙ found c.in_ok-id.id ids.starts.entries
    ∙ ap (has_id ids) c.in_ok-id.ensures.cases

pub returns-clause-taken : goal.returns-clause-taken
returns-clause-taken c =
    let ids = c.args.self.now in
    λ t.
    ap (λ es. list_any (text_eq t) (map text_of (keys_of es))) c.in_ok-insert.ensures.entries
    ∙ one_more_key c.in_ok-id.id c.args.start t ids.starts.entries
    ∙ ap (λ x. text_eq t x || has_id ids t) c.in_ok-id.ensures.cases
