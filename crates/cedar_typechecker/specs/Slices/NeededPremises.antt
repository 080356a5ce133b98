-- Each premise of slice soundness is needed, in Strict and in Permissive. Each example meets all
-- premises but the one that its comment names, and evaluates over the part of the store otherwise
-- than over the store.
use Rattle.cedar_types.specs.declared.base.types.ValidationMode.{ValidationMode}
use Rattle.cedar_types.specs.declared.base.types.ValidationMode.TheVariants.{Strict, Permissive}
use Rattle.cedar_typechecker.specs.Slices.NeededPremises.Levels.{LevelsAreNeededIn}
use Rattle.cedar_typechecker.specs.Slices.NeededPremises.Parts.{PartsAreNeededIn}
use Rattle.cedar_typechecker.specs.Slices.NeededPremises.Policies.{PoliciesAreNeededIn}
use Rattle.cedar_typechecker.specs.Slices.NeededPremises.Schemas.{SchemasAreNeededIn, FormIsNeeded}
use Rattle.cedar_typechecker.specs.Slices.NeededPremises.Settings.{UnlinkedSlotsGoWrongIn, PartialGoesWrong}
use Rattle.cedar_typechecker.specs.Slices.NeededPremises.Worlds.{WorldsAreNeededIn}
pub mod Differing
pub mod Levels
pub mod Parts
pub mod Policies
pub mod Worlds
pub mod Schemas
pub mod Settings

pub record SlicePremisesAreNeededIn (m : ValidationMode) : Type 0 where
  -- the level pass is silent
  pub levels : LevelsAreNeededIn m
  -- the part holds the slice, and has entries of the store alone
  pub parts : PartsAreNeededIn m
  -- the policy passes, and is well-formed
  pub policies : PoliciesAreNeededIn m
  -- the request and the store conform
  pub worlds : WorldsAreNeededIn m
  -- the schema and the table have no faults, and nothing is external
  pub schemas : SchemasAreNeededIn m
  -- both slots are linked, if there is one environment alone
  pub links : UnlinkedSlotsGoWrongIn m

pub record SlicePremisesAreNeeded : Type 0 where
  pub strict : SlicePremisesAreNeededIn Strict
  pub permissive : SlicePremisesAreNeededIn Permissive
  -- names ascend in the types of the schema, in Permissive
  pub form : FormIsNeeded
  -- the mode is one of these two
  pub mode : PartialGoesWrong
