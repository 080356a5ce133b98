-- Calls do not go wrong: a value that a function gives is of its return type, and a call without a
-- value fails in an allowed way.
use Rattle.std.proofs.Common.{◌≡◌, Bool, List, [], ◌∷◌, Option, Some, None, refl, sym, subst}
use Rattle.cedar_types.specs.Names.{Path}
use Rattle.cedar_types.specs.Types.{Ty}
use Rattle.cedar_types.specs.Expressions.Tree.{call, Trees}
use Rattle.cedar_types.specs.Expressions.View.{Written}
use Rattle.cedar_types.specs.Errors.{Finding}
use Rattle.cedar_types.specs.Extensions.Functions.{ExtensionFunction, function_named}
use Rattle.cedar_types.specs.Values.{Value, Values, HasType}
use Rattle.cedar_typing.specs.Eager.{Expectation}
use Rattle.cedar_typing.specs.Evaluation.Conformance.{KeepsTable}
use Rattle.cedar_typing.specs.Evaluation.Eval.{called, eval}
use Rattle.cedar_typing.specs.Evaluation.Outcomes.{Outcomes, GiveAll, FailAt, on_values}
use Rattle.cedar_typing.specs.Evaluation.World.{call_value, World, Outcome}
use Rattle.cedar_typing.specs.Rules.Calls.{arguments, return_type, call_decides, form_of_call, call_form}
use Rattle.cedar_typing.specs.Rules.Eager.{Judgments, eager_rules}
use Rattle.cedar_typing.specs.Setting.{Setting, table}
use Rattle.cedar_typing.specs.Soundness.{HasFound, IsSafe}
use Rattle.cedar_typing.proofs.KeptTypes.Calls.{call_type}
use Rattle.cedar_typing.proofs.Soundness.Eager.{GiftIsSound, SoundForm, SoundsAll, of_any, form_sounds}
use Rattle.cedar_typing.proofs.Soundness.FixedTypes.{silent_gift}
use Rattle.cedar_typing.proofs.Soundness.Parts.{Sounds}
use Rattle.cedar_typing.proofs.Soundness.Sets.{outcomes, together, evaluated_together, AreSafe, together_safe}

-- ---- the outcome of a call

-- the value of a call, if there is one, has the type that each value of the function has
value_has : (t : Ty) (o : Option Value) → ((v : Value) → o ≡ Some v → HasType t v) → HasFound (Some t) (called o)
value_has t None h = tt
value_has t (Some v) h = h v refl

value_safe : (o : Option Value) → IsSafe (called o)
value_safe None = tt
value_safe (Some v) = tt

module _ (s : Setting) (world : World) (keeps : KeepsTable (table s) world.functions) (n : Path) where
  -- a call with these outcomes of its arguments
  abbrev call_from : Outcomes → Outcome
  call_from os = on_values os (λ vs. called (call_value world.functions.calls n vs))

  from_has : (t : Ty) (os : Outcomes)
      → ((vs : Values) (v : Value) → call_value world.functions.calls n vs ≡ Some v → HasType t v)
      → HasFound (Some t) (call_from os)
  from_has t (GiveAll vs) h = value_has t (call_value world.functions.calls n vs) (h vs)
  from_has t (FailAt f) h = tt

  from_safe : (os : Outcomes) → AreSafe os → IsSafe (call_from os)
  from_safe (GiveAll vs) h = value_safe (call_value world.functions.calls n vs)
  from_safe (FailAt f) h = h

  returned : (f : Option ExtensionFunction) → function_named n s.functions ≡ f → (os : Outcomes) → HasFound (return_type f) (call_from os)
  returned None e os = tt
  returned (Some f) e os = from_has f.return_type os (keeps.returns n f e)

  -- ---- the form

  module _ (m : Written) (os : List Outcome) where
    abbrev whole : Outcome
    whole = call_from (together os)

    call_gift : (t : Option Ty) (es : List Finding) → GiftIsSound world os whole (call_decides t es)
    call_gift None es = tt
    call_gift (Some t) [] = silent_gift world os whole t (λ h. from_safe (together os) (together_safe os h))
    call_gift (Some t) (e ∷ es) = tt

    call_sound : (t : Option Ty) (qs : List Expectation) (es : List Finding) → HasFound t whole
        → SoundForm world (form_of_call m n t qs es) os whole
    call_sound t qs es h = record {
      typed = λ ts a. subst (λ z. HasFound z whole) (sym (call_type t es)) h;
      succeeds = λ ts a k. call_gift t es;
      failed = λ u k. k;
    }

  -- ---- evaluation

  pub call_sounds : (strictly : Bool) (m : Written) (ts : Trees Written) (Js : Judgments)
      → SoundsAll strictly world (call_form s.env s.functions m n (arguments ts)).expects (outcomes world ts) Js
      → Sounds world (eval world (call m n ts)) (eager_rules (call_form s.env s.functions m n (arguments ts)) Js)
  call_sounds strictly m ts Js operands =
      let f = call_form s.env s.functions m n (arguments ts) in
      let os = outcomes world ts in
      let h = returned (function_named n s.functions) refl (together os) in
      subst (λ z. Sounds world (call_from z) (eager_rules f Js)) (evaluated_together world ts)
      (form_sounds strictly world f (λ k xs. refl) os (call_from (together os))
      (of_any strictly world f os (call_from (together os)) (call_sound m os _ _ _ h)) Js operands)
