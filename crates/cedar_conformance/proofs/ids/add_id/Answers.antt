use Rattle.std.proofs.Common.{◌≡◌, sym, subst, insert, ◌++◌, ◌∷◌, [], is_ok}
use Rattle.std.specs.List.{AllByRecursion}
use Rattle.std.specs.declared.cmp.Ordering.TheVariants.{Less}
use Rattle.std.specs.List.Sorted.{IsStrictlySortedBy}
use Rattle.cedar_types.proofs.Entries.Ascending.{sorted_push}
use Rattle.cedar_types.proofs.Entries.Searches.{there_already, inserted_sorted, inserted_more}
use Rattle.cedar_conformance.specs.Ids.{shared_cmp, shared_id, ids_of, AddsId}
use Rattle.cedar_conformance.proofs.SharedIds.{shared_total, adds, either, pushed}
use Rattle.cedar_conformance.proofs.ids.add_id.Goals as goal

pub returns-in-Ok-clause-added : goal.returns-in-Ok-clause-added
returns-in-Ok-clause-added c =
    subst (λ xs. AddsId (ids_of xs) (shared_id c.args.id) (ids_of xs)) c.deref-2.ensures.value
    (adds c.deref-2.result.now c.args.id c.deref-2.result.now
    (there_already shared_total c.deref-2.result.now c.in-Ok.field-0 c.args.id c.in-Ok.ensures.bound c.in-Ok.ensures.position))

pub returns-in_ok-insert-in-Err-clause-ascending :
    goal.returns-in_ok-insert-in-Err-clause-ascending
returns-in_ok-insert-in-Err-clause-ascending c =
    subst (IsStrictlySortedBy shared_cmp) (sym c.in_ok-insert-in-Err.ensures.items)
    (subst (λ xs. IsStrictlySortedBy shared_cmp (insert xs c.in-Err.place c.args.id)) c.deref-2.ensures.value
    (inserted_sorted shared_total c.deref-2.result.now c.in-Err.place c.args.id
    (subst (IsStrictlySortedBy shared_cmp) (sym c.deref-2.ensures.value) c.requires) c.in-Err.ensures.position))

pub returns-in_ok-insert-in-Err-clause-added : goal.returns-in_ok-insert-in-Err-clause-added
returns-in_ok-insert-in-Err-clause-added c =
    subst (λ zs. AddsId (ids_of c.args.ids.now.items) (shared_id c.args.id) (ids_of zs)) (sym c.in_ok-insert-in-Err.ensures.items)
    (adds c.args.ids.now.items c.args.id _ (inserted_more shared_total c.args.ids.now.items c.in-Err.place c.args.id))

pub returns-then-is_above_all-clause-ascending : goal.returns-then-is_above_all-clause-ascending
returns-then-is_above_all-clause-ascending c =
    let above = c.is_above_all.ensures c.if-is_above_all.true in
    let sorted = sorted_push shared_total c.args.ids.now.items c.args.id c.requires
    (subst (λ xs. AllByRecursion (λ own. shared_cmp own c.args.id ≡ Less) xs) c.deref.ensures.value above) in
    subst (IsStrictlySortedBy shared_cmp) (sym c.push.ensures.items)
    (either (IsStrictlySortedBy shared_cmp) (is_ok c.push.result) (c.args.ids.now.items ++ c.args.id ∷ []) c.args.ids.now.items sorted
    c.requires)
