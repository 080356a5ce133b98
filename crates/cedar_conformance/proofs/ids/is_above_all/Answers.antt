use Rattle.std.proofs.Common.{◌≡◌, ◌∙◌, sym, subst}
use Rattle.std.specs.List.{AllByRecursion}
use Rattle.std.specs.List.Sorted.{IsStrictlySortedBy}
use Rattle.std.specs.declared.cmp.Ordering.TheVariants.{Less}
use Rattle.cedar_conformance.specs.Ids.{shared_cmp}
use Rattle.cedar_conformance.proofs.SharedIds.{above_all, lt_less}
use Rattle.cedar_conformance.proofs.ids.is_above_all.Goals as goal

pub returns-in-Some : goal.returns-in-Some
returns-in-Some c = λ below.
    let split = c.in-Some.ensures.cases.0 in
    let less = sym c.cmp.ensures ∙ lt_less c.cmp.result (sym c.is_lt.ensures ∙ below) in
    subst (λ xs. AllByRecursion (λ own. shared_cmp own c.args.id.now ≡ Less) xs) (sym split)
    (above_all c.in-Some._rest.now c.in-Some.last.now c.args.id.now (subst (IsStrictlySortedBy shared_cmp) split c.requires) less)
