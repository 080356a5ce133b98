-- Worlds in which some slots are bound to nothing: what typing tells there of an expression and of its copies.
use Rattle.std.proofs.Common.{◌≡◌, ℕ, true, false, Option, Some, None, ap}
use Rattle.cedar_types.specs.declared.base.types.BoolType.TheVariants.{True, False}
use Rattle.cedar_types.specs.Extensions.Functions.{table_fault}
use Rattle.cedar_types.specs.Schemas.{has_fault}
use Rattle.cedar_types.specs.Types.{Ty, TBool}
use Rattle.cedar_typing.specs.Capabilities.{Caps}
use Rattle.cedar_typing.specs.Evaluation.Conformance.{AllHold}
use Rattle.cedar_typing.specs.Evaluation.Eval.{eval}
use Rattle.cedar_typing.specs.Evaluation.World.{World, Failure, Fails}
use Rattle.cedar_typing.specs.Modes.{IsFormedFor}
use Rattle.cedar_typing.specs.Rules.{rules}
use Rattle.cedar_typing.specs.Setting.{Setting}
use Rattle.cedar_typing.specs.Soundness.{HasFound, IsReliable, IsWorldOf}
use Rattle.cedar_typing.specs.TypeTests.{is_true, is_false, annotation_passes}
use Rattle.cedar_typing.specs.TypedExpr.{Source}
use Rattle.cedar_typing.proofs.Composition.Slots.{slots_bound}
use Rattle.cedar_typing.proofs.Soundness.Capabilities.{hold_either}
use Rattle.cedar_typing.proofs.Soundness.Induction.{sounds_in}
use Rattle.cedar_typing.proofs.TypedCopies.Filled.{filled_world, all_filled, filled_fits, eval_below, told_below}
use Rattle.cedar_typing.proofs.TypedCopies.Induction.{copies}
use Rattle.cedar_typing.proofs.TypedCopies.Laws.{Any, any_closed, told_by_soundness}
use Rattle.cedar_typing.proofs.TypedCopies.Same.{Told, Copies}
use Rattle.cedar_typing.proofs.TypeTests.{false_type, true_type}

-- ---- types that were found

pub true_found : (x : Option Ty) → annotation_passes is_true x ≡ true → x ≡ Some (TBool True)
true_found None h = cc
true_found (Some t) h = ap Some (true_type t h)

pub false_found : (x : Option Ty) → annotation_passes is_false x ≡ true → x ≡ Some (TBool False)
false_found None h = cc
false_found (Some t) h = ap Some (false_type t h)

pub failed_has : (found : Option Ty) (f : Failure) → HasFound found (Fails f)
failed_has None f = tt
failed_has (Some t) f = tt

-- ---- the world in which those slots are bound too

module _ (s : Setting) (world : World) (faults : has_fault s.env.schema ≡ false)
    (formed : IsFormedFor s.env.mode s.env.schema) (table_faults : table_fault s.functions ≡ None) (r : IsReliable s)
    (i : IsWorldOf s world) where
  abbrev filled : World
  filled = filled_world world

  pub filled_is_world : IsWorldOf s filled
  filled_is_world = record {
    environment = filled_fits s.env.request_env world i.environment;
    store = i.store;
    functions = i.functions;
  }

  pub told_unbound : (e : Source) (prior : Caps) (d : ℕ) → AllHold filled prior
      → Told Any (AllHold filled) (Unit {0}) (eval world e) (rules s e prior d)
  told_unbound e prior d h =
      told_below Any (AllHold filled) (Unit {0}) (eval world e) (eval filled e) (rules s e prior d) (eval_below world e)
      (told_by_soundness filled (eval filled e) (rules s e prior d)
      (sounds_in s filled faults formed table_faults r filled_is_world e (slots_bound filled.slots (all_filled world) e) prior d h))

  pub any_copies : (e : Source) (prior : Caps) (d : ℕ) → AllHold filled prior
      → Copies Any (Unit {0}) world (eval world e) (rules s e prior d)
  any_copies e prior d h =
      copies Any (AllHold filled) (Unit {0}) s world filled.slots any_closed (λ c c' h k. hold_either filled c c' h k)
      (λ e b prior d h. told_unbound e prior d h) e (slots_bound filled.slots (all_filled world) e) prior d h
