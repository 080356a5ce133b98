-- The premises of both halves hold in worlds that leave much open.
use Rattle.std.proofs.Common.{◌≡◌, [], inl, inr, None, refl}
use Rattle.cedar_types.specs.declared.base.types.ValidationMode.{ValidationMode}
use Rattle.cedar_types.specs.declared.base.types.ValidationMode.TheVariants.{Strict, Permissive}
use Rattle.cedar_types.specs.Errors.{Finding}
use Rattle.cedar_types.specs.Templates.{PlainTemplate, condition_of}
use Rattle.cedar_types.specs.Values.Stores.{entity_at}
use Rattle.cedar_typing.specs.Evaluation.Conformance.{IsOneOf}
use Rattle.cedar_typing.specs.Evaluation.Eval.{eval}
use Rattle.cedar_typing.specs.Evaluation.World.{World, Outcome}
use Rattle.cedar_typing.specs.Examples.LeftOpen.{AllHoldIn, visit_basis, visiting, visiting_an_action, users_visit, action_is_visited}
use Rattle.cedar_typing.specs.Examples.World.{bob}
use Rattle.cedar_typing.proofs.Examples.LeftOpen.{strict_herself, strict_action, permissive_herself, permissive_action}
use Rattle.cedar_typechecker.specs.Levels.Errors.{exceeds}
use Rattle.cedar_typechecker.specs.Slices.Examples.LeftOpen.{HoldsAtOne, SlicePremisesLeaveOpenIn, SlicePremisesLeaveOpen}
use Rattle.cedar_typechecker.specs.Slices.Examples.World.{slice_of}
use Rattle.cedar_typechecker.specs.Slices.Soundness.{with_store}
use Rattle.cedar_typechecker.proofs.Slices.Examples.Levels.{level_findings, within, has_error}
use Rattle.cedar_typechecker.proofs.Slices.Examples.Modes.{IsEither, in_either}
use Rattle.cedar_typechecker.proofs.Slices.Stores.{slices_hold}

-- the facts that are computed in each mode
abbrev IsMet : PlainTemplate → World → ValidationMode → Type 0
IsMet t world m =
    AllHoldIn m (visit_basis m) t world × (level_findings (visit_basis m) t 1 ≡ [])
    × (e : Finding) × IsOneOf e (level_findings (visit_basis m) t 0) × (e.fault ≡ exceeds 0 1)

at_one : (m : ValidationMode) (t : PlainTemplate) (world : World) (o : Outcome) → IsMet t world m
    → entity_at (slice_of world 1) bob ≡ None
    → eval (with_store world (slice_of world 1)) (condition_of t) ≡ o
    → eval world (condition_of t) ≡ o → HoldsAtOne m t world o
at_one m t world o h left_out in_slice in_store = record {
  premises = h.0;
  within = within (visit_basis m) t 1 h.1;
  beyond = has_error (visit_basis m) t 0 (exceeds 0 1) h.2 h.3 h.4;
  held = (slices_hold world.request world.store 1).0;
  left_out = left_out;
  in_slice = in_slice;
  in_store = in_store;
}

left_open : (m : ValidationMode) → IsEither m → SlicePremisesLeaveOpenIn m
left_open m either = record {
  herself =
      at_one m users_visit visiting _
      (in_either m (IsMet users_visit visiting) (strict_herself, refl, _, inl refl, refl)
      (permissive_herself, refl, _, inl refl, refl) either) refl refl refl;
  an_action =
      at_one m action_is_visited visiting_an_action _
      (in_either m (IsMet action_is_visited visiting_an_action)
      (strict_action, refl, _, inl refl, refl) (permissive_action, refl, _, inl refl, refl) either)
      refl refl refl;
}

pub slice_premises_leave_open : SlicePremisesLeaveOpen
slice_premises_leave_open =
    record { strict = left_open Strict (inl refl); permissive = left_open Permissive (inr refl) }
