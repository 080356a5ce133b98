-- The premises of both halves hold together, at the least level that is enough, in worlds that
-- leave much open: the principal is the resource, the resource is an action, the principal is not
-- stored, no slot is bound, or an id stands twice in the store.
use Rattle.std.specs.Prelude.{◌≡◌, true, None}
use Rattle.cedar_types.specs.declared.base.types.ValidationMode.{ValidationMode}
use Rattle.cedar_types.specs.declared.base.types.ValidationMode.TheVariants.{Strict, Permissive}
use Rattle.cedar_types.specs.Templates.{PlainTemplate, condition_of}
use Rattle.cedar_types.specs.Values.Stores.{entity_at}
use Rattle.cedar_types.specs.Values.{VBool}
use Rattle.cedar_typing.specs.Evaluation.Eval.{eval}
use Rattle.cedar_typing.specs.Evaluation.World.{World, MissingEntity, Outcome, Gives, Fails}
use Rattle.cedar_typing.specs.Examples.LeftOpen.{AllHoldIn, visit_basis, visiting, visiting_an_action, users_visit, action_is_visited}
use Rattle.cedar_typing.specs.Examples.World.{bob}
use Rattle.cedar_typechecker.specs.Levels.Errors.{exceeds}
use Rattle.cedar_typechecker.specs.Slices.Examples.World.{slice_of}
use Rattle.cedar_typechecker.specs.Slices.Examples.{HasLevelError}
use Rattle.cedar_typechecker.specs.Slices.Policies.{PolicyIsWithinLevel}
use Rattle.cedar_typechecker.specs.Slices.Reach.{HoldsSlice}
use Rattle.cedar_typechecker.specs.Slices.Soundness.{with_store}

-- all premises hold at level 1, and not at 0. The slice leaves out bob, and the outcome over it is
-- that over the store
pub record HoldsAtOne (m : ValidationMode) (t : PlainTemplate) (world : World) (o : Outcome) :
    Type 0 where
  pub premises : AllHoldIn m (visit_basis m) t world
  pub within : PolicyIsWithinLevel (visit_basis m) t 1
  pub beyond : HasLevelError (visit_basis m) t 0 (exceeds 0 1)
  pub held : HoldsSlice world.request world.store 1 (slice_of world 1)
  pub left_out : entity_at (slice_of world 1) bob ≡ None
  pub in_slice : eval (with_store world (slice_of world 1)) (condition_of t) ≡ o
  pub in_store : eval world (condition_of t) ≡ o

pub record SlicePremisesLeaveOpenIn (m : ValidationMode) : Type 0 where
  pub herself : HoldsAtOne m users_visit visiting (Gives (VBool true))
  pub an_action : HoldsAtOne m action_is_visited visiting_an_action (Fails MissingEntity)

pub record SlicePremisesLeaveOpen : Type 0 where
  pub strict : SlicePremisesLeaveOpenIn Strict
  pub permissive : SlicePremisesLeaveOpenIn Permissive
