-- Each premise of slice soundness is needed, put together.
use Rattle.std.proofs.Common.{inl, inr, refl}
use Rattle.cedar_types.specs.declared.base.types.ValidationMode.{ValidationMode}
use Rattle.cedar_types.specs.declared.base.types.ValidationMode.TheVariants.{Strict, Permissive}
use Rattle.cedar_typechecker.specs.Slices.NeededPremises.{SlicePremisesAreNeededIn, SlicePremisesAreNeeded}
use Rattle.cedar_typechecker.proofs.Slices.Examples.Modes.{IsEither}
use Rattle.cedar_typechecker.proofs.Slices.Examples.NeededLevels.{levels_needed}
use Rattle.cedar_typechecker.proofs.Slices.Examples.NeededParts.{parts_needed}
use Rattle.cedar_typechecker.proofs.Slices.Examples.NeededPolicies.{policies_needed}
use Rattle.cedar_typechecker.proofs.Slices.Examples.NeededSchemas.{schemas_needed, form_needed}
use Rattle.cedar_typechecker.proofs.Slices.Examples.NeededSettings.{links_needed, partial_wrong}
use Rattle.cedar_typechecker.proofs.Slices.Examples.NeededWorlds.{worlds_needed}

needed_in : (m : ValidationMode) → IsEither m → SlicePremisesAreNeededIn m
needed_in m either = record {
  levels = levels_needed m either;
  parts = parts_needed m either;
  policies = policies_needed m either;
  worlds = worlds_needed m either;
  schemas = schemas_needed m either;
  links = links_needed m either;
}

pub slice_premises_needed : SlicePremisesAreNeeded
slice_premises_needed = record {
  strict = needed_in Strict (inl refl);
  permissive = needed_in Permissive (inr refl);
  form = form_needed;
  mode = partial_wrong;
}
