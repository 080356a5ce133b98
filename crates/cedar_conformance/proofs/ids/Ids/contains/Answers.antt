use Rattle.std.proofs.Common.{rules, ◌∙◌}
use Rattle.std.proofs.lemmas.Fn.{always_returns_same}
use Rattle.cedar_types.specs.Names.Comparisons.{entity_uid_cmp}
use Rattle.cedar_conformance.proofs.SharedIds.{searched}
use Rattle.cedar_conformance.proofs.ids.Ids.contains.Goals as goal

pub returns : goal.returns
returns c =
    let facts = c.binary_search_by.ensures in
    let by_id = facts.position (λ own. entity_uid_cmp own.value c.args.id.now) (always_returns_same _ _ _ (λ a r g called. (search rules, search rules))) in
    c.is_ok.ensures.value
    ∙ rw (← c.self.view_is, ← c.deref.ensures.value)
    (searched _ c.args.id.now _ (rw c.deref.ensures.value c.self.invariant) facts.bound by_id)
