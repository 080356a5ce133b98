-- The outcomes that keep the promises, computed; and proofs that the promises on conditions and policies that go wrong
-- are false.
use Rattle.std.proofs.Common.{◌≡◌, inl, true, false, refl}
use Rattle.cedar_types.specs.declared.base.types.ValidationMode.{ValidationMode}
use Rattle.cedar_types.specs.declared.base.types.ValidationMode.TheVariants.{Strict, Permissive}
use Rattle.cedar_typing.specs.Examples.Greeting.{greeting}
use Rattle.cedar_typing.specs.Examples.PolicySoundness.{sample_basis, meeting}
use Rattle.cedar_typing.specs.Examples.Promises.{wrong_policy, PromiseExamples, PromisesCanBreakIn, PromisesCanBreak}
use Rattle.cedar_typing.specs.Examples.World.{sample}
use Rattle.cedar_typing.specs.Modes.{IsSoundMode}
use Rattle.cedar_typing.specs.Soundness.Policies.{IsSoundAndClosed, IsConforming}
use Rattle.cedar_typing.specs.Soundness.{IsReliable, IsWorldOf}
use Rattle.cedar_typing.proofs.Examples.PolicySoundness.{formed, meeting_conforms}
use Rattle.cedar_typing.proofs.Examples.World.{greeting_conforms}

false_is_not_true : false ≡ true → ⊥
false_is_not_true h = cc

pub promise_examples : PromiseExamples
promise_examples = record {
  true_value = (tt, tt);
  false_value = (tt, tt);
  missing_entity = (tt, tt);
  overflow = (tt, tt);
  extension_failure = (tt, tt);
  number = λ h. h.1;
  text = λ h. h.1;
  entity = λ h. h.1;
  set = λ h. h.1;
  record_value = λ h. h.1;
  extension_value = λ h. h.1;
  type_failure = λ h. h.0;
  absent_attribute = λ h. h.0;
  absent_tag = λ h. h.0;
  unlinked_slot = λ h. h.0;
  unknown_value = λ h. h.0;
  success = λ x. (tt, tt);
  success_number = λ x h. h.1;
  success_type_failure = λ x h. h.0;
  irrelevant_false = λ es x. refl;
  irrelevant_failure = λ es x f. tt;
  irrelevant_true = λ es x h. false_is_not_true h;
  irrelevant_number = λ es x h. h;
  found = tt;
  found_boolean = λ h. h;
  found_failure = λ f. tt;
  not_found = λ v. tt;
  is_true = refl;
  false_is_true = λ h. false_is_not_true h;
  number_is_true = λ h. h;
  failure_is_true = λ f h. h;
}

module _ (m : ValidationMode) (sound : IsSoundMode m) where
  reliable : IsReliable (sample m)
  reliable = record { mode = sound; closed = refl; environment = inl refl }

  world_fits : IsWorldOf (sample m) greeting
  world_fits = record {
    environment = greeting_conforms.environment;
    store = greeting_conforms.store;
    functions = greeting_conforms.functions;
  }

  closed : IsSoundAndClosed (sample_basis m)
  closed = record { mode = sound; closed = refl }

  conforming : IsConforming (sample_basis m) meeting
  conforming = record {
    request = meeting_conforms.request;
    store = meeting_conforms.store;
    functions = meeting_conforms.functions;
  }

  can_break : PromisesCanBreakIn m
  can_break = record {
    condition = λ x promise. (promise reliable greeting world_fits (tt, tt)).0;
    condition_refused = λ es r world w b. tt;
    policy = λ promise.
        (promise refl closed (record { types = refl; actions = refl }) meeting (formed wrong_policy refl (λ x. refl)) conforming).0;
    policy_refused = λ passes c n world f w. absurd (false_is_not_true passes);
    warned = λ promise. promise (λ i. i) (inl refl) closed (λ x. refl) meeting conforming refl;
    not_warned = λ new there c a world w h. there;
    warned_before = λ new there c a world w h. new (inl refl);
  }

pub promises_can_break : PromisesCanBreak
promises_can_break = record { strict = can_break Strict refl; permissive = can_break Permissive refl }
