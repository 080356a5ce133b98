use Rattle.std.proofs.Common.{◌∙◌, sym, rules, tests}
use Rattle.std.proofs.lemmas.Iterator.{YieldsList-from_slice}
use Rattle.std.proofs.lemmas.Iterator.Search.{any_from_yields_List}
use Rattle.std.proofs.lemmas.List.Sorted.{list_any-IsPermutation}
use Rattle.cedar_types.specs.Schemas.Declarations.{declared_type}
use Rattle.cedar_types.specs.Schemas.{DeclaredType, is_external_kind}
use Rattle.cedar_types.proofs.Schema.Places.{any_mapped}
use Rattle.cedar_conformance.proofs.schemas.has_external_type.Goals as goal

pub returns : goal.returns
returns c =
    let is_external = λ (t : DeclaredType). is_external_kind t.kind in
    any_from_yields_List (λ a. is_external (declared_type a.now)) _ _ _ c.any.ensures.ran
    (YieldsList-from_slice c.in_ok-types.types.items cc) (λ x b q k. search (rules, tests))
    ∙ any_mapped (λ a. declared_type a.now) is_external c.in_ok-types.types.items
    ∙ sym (list_any-IsPermutation is_external _ _ c.in_ok-types.ensures)
