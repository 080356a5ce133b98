-- The promise of a check on evaluation, from type soundness.
use Rattle.std.proofs.Common.{◌≡◌, true, false, Option, Some, None, refl, subst}
use Rattle.cedar_types.specs.declared.base.types.BoolType.TheVariants.{False}
use Rattle.cedar_types.specs.Types.{Ty, TBool}
use Rattle.cedar_types.specs.Extensions.Functions.{table_fault}
use Rattle.cedar_types.specs.Schemas.{has_fault}
use Rattle.cedar_types.specs.Values.{Value, VBool, HasType}
use Rattle.cedar_typing.specs.Capabilities.{no_caps}
use Rattle.cedar_typing.specs.Evaluation.Eval.{eval}
use Rattle.cedar_typing.specs.Evaluation.World.{World, Outcome, Gives, Fails}
use Rattle.cedar_typing.specs.Modes.{IsFormedFor}
use Rattle.cedar_typing.specs.PolicyCheck.{Verdict, PolicyChecks, check_true, check_false, check_refused_false, check_refused, check_cut}
use Rattle.cedar_typing.specs.Rules.{rules}
use Rattle.cedar_typing.specs.Setting.{Setting}
use Rattle.cedar_typing.specs.Soundness.PolicyCheck.{IsBoolean, IsFalse, Promises, IsSoundPolicyCheck}
use Rattle.cedar_typing.specs.Soundness.{OnValue, HasFound}
use Rattle.cedar_typing.specs.TypeTests.{accepts, bool_types, is_false, annotation_passes}
use Rattle.cedar_typing.specs.TypedExpr.{Source, annotation, place_of}
use Rattle.cedar_typing.proofs.Soundness.Capabilities.{hold_none}
use Rattle.cedar_typing.proofs.Soundness.Induction.{sounds_in}
use Rattle.cedar_typing.proofs.Soundness.Parts.{Sounds, operand_sound}
use Rattle.cedar_typing.proofs.Soundness.Tests.{BoolSort, NoValue, AnyValue, OnlyTrue, OnlyFalse, sort_ty, accepted_sort}
use Rattle.cedar_typing.proofs.TypeTests.{false_type}

sort_boolean : (k : BoolSort) (v : Value) → HasType (sort_ty k) v → IsBoolean v
sort_boolean NoValue v h = absurd h
sort_boolean AnyValue v h = any v h
  where
    any : (v : Value) → HasType (sort_ty AnyValue) v → IsBoolean v
    any (VBool b) h = tt
    any v h = absurd h
sort_boolean OnlyTrue v h = any v h
  where
    any : (v : Value) → HasType (sort_ty OnlyTrue) v → IsBoolean v
    any (VBool b) h = tt
    any v h = absurd h
sort_boolean OnlyFalse v h = any v h
  where
    any : (v : Value) → HasType (sort_ty OnlyFalse) v → IsBoolean v
    any (VBool b) h = tt
    any v h = absurd h

-- a value of a type that is accepted as Boolean is a boolean
pub boolean : (t : Ty) → accepts bool_types t ≡ true → (o : Outcome) → OnValue (HasType t) o → OnValue IsBoolean o
boolean t a (Gives v) h =
    let k = accepted_sort t a in
    sort_boolean k.0 v (subst (λ u. HasType u v) k.1 h)
boolean t a (Fails f) h = tt

false_value : (o : Outcome) → OnValue (HasType (TBool False)) o → OnValue IsFalse o
false_value (Gives v) h = h
false_value (Fails f) h = tt

false_found : (x : Option Ty) (o : Outcome) → annotation_passes is_false x ≡ true → HasFound x o → OnValue IsFalse o
false_found None o n h = cc
false_found (Some t) o n h = false_value o (subst (λ u. OnValue (HasType u) o) (false_type t n) h)

module _ (s : Setting) (e : Source) (world : World) (sound : Sounds world (eval world e) (rules s e no_caps 1)) where
  pub promised : (v : Verdict) → PolicyChecks s e v → Promises v (eval world e)
  promised v (check_true t c d a n) =
      let r = sound.derivations t c _ d in
      (r.safe refl, boolean t a (eval world e) r.typed)
  promised v (check_false c d) = false_value (eval world e) (sound.derivations _ c _ d).typed
  promised v (check_refused_false {e' = x} {es = es} (c, o) n p) =
      false_found (annotation x) (eval world e) n
      (operand_sound world (eval world e) _ sound s.env bool_types (place_of e) false c x es o).typed
  promised v (check_refused o n p) = tt
  promised v (check_cut c p) = tt

pub check_sound : (s : Setting) (e : Source) (v : Verdict) → has_fault s.env.schema ≡ false
    → IsFormedFor s.env.mode s.env.schema → table_fault s.functions ≡ None → PolicyChecks s e v
    → IsSoundPolicyCheck s e v
check_sound s e v f w t c r world i b =
    promised s e world (sounds_in s world f w t r i e b no_caps 1 (hold_none world)) v c
