use Rattle.std.proofs.Common.{◌∙◌, sym, rules, tests, not, is_some}
use Rattle.std.proofs.lemmas.Iterator.{YieldsList-from_slice}
use Rattle.std.proofs.lemmas.Iterator.Search.{any_from_yields_List}
use Rattle.std.proofs.lemmas.List.Sorted.{list_any-IsPermutation}
use Rattle.cedar_types.specs.Schemas.Declarations.{declared_action}
use Rattle.cedar_types.specs.Schemas.{DeclaredAction}
use Rattle.cedar_types.proofs.Schema.Places.{any_mapped}
use Rattle.cedar_conformance.proofs.schemas.has_external_action.Goals as goal

pub returns : goal.returns
returns c =
    let is_external = λ (t : DeclaredAction). not (is_some t.applies_to) in
    any_from_yields_List (λ a. is_external (declared_action a.now)) _ _ _ c.any.ensures.ran
    (YieldsList-from_slice c.in_ok-actions.actions.items cc) (λ x b q k. search (rules, tests))
    ∙ any_mapped (λ a. declared_action a.now) is_external c.in_ok-actions.actions.items
    ∙ sym (list_any-IsPermutation is_external _ _ c.in_ok-actions.ensures)
