-- A policy that was left out allowed the request, if one of the premises is missing.
use Rattle.std.proofs.Common.{◌≡◌, inl, true, true≢false, [], ◌∷◌, refl, sym, ◌∙◌}
use Rattle.cedar_types.specs.declared.base.names.slots.SlotId.{SlotId}
use Rattle.cedar_types.specs.declared.base.types.ValidationMode.TheVariants.{Strict}
use Rattle.cedar_typing.specs.Composition.{SlotsInScopeAlone}
use Rattle.cedar_typing.specs.Evaluation.World.{World}
use Rattle.cedar_typing.specs.Examples.Composition.{robots_template, robot_slots}
use Rattle.cedar_typing.specs.Examples.NeededPremises.{guest_basis, guest_greeting, guest_has_role}
use Rattle.cedar_typing.specs.Examples.PolicySoundness.{sample_basis, policy_when, meeting_slots, meeting}
use Rattle.cedar_typing.specs.Examples.Promises.{true_policy}
use Rattle.cedar_typing.specs.PolicyCheck.Outcome.{impossible}
use Rattle.cedar_typing.specs.Soundness.Policies.{Basis, IsConforming}
use Rattle.cedar_typing.proofs.Examples.NeededPremises.{premises_needed}
use Rattle.cedar_typing.proofs.Examples.PolicySoundness.{passing, strict_sample, meeting_conforms}
use Rattle.cedar_typing.proofs.Soundness.Policies.{promises_are_kept}
use Rattle.cedar_host.specs.ResponseLaws.{MayBeLeftOut}
use Rattle.cedar_host.specs.Responses.{LinkedPolicy, allow, deny, response}
use Rattle.cedar_host.specs.Safety.{IsNeverTrue}
use Rattle.cedar_examples.specs.LeftOut.{permits, robots_alone, LeftOutPremises}

allow_or_deny : allow ≡ deny → ⊥
allow_or_deny h = cc

-- a policy alone that allows the request in a world that conforms may not be left out
allows_alone : (b : Basis) (p : LinkedPolicy) (world : World) → IsConforming b world
    → (response world (p ∷ [])).decision ≡ allow → MayBeLeftOut b p → ⊥
allows_alone b p world conforming h left = allow_or_deny (sym h ∙ (left world conforming [] []).decision)

-- the slots of `?principal is Robot || ?resource is Robot` do not stand in the scope alone
in_the_rest : SlotsInScopeAlone robots_template → ⊥
in_the_rest h = true≢false (h SlotId.Principal)

robots_are_impossible : IsNeverTrue (sample_basis Strict) robots_alone
robots_are_impossible closed slots world conforming =
    (promises_are_kept (sample_basis Strict) robots_alone refl refl refl true [] [] [] (impossible robots_alone ∷ [])
    (passing (sample_basis Strict) robots_alone (impossible robots_alone ∷ []) refl refl refl)).never_true
    (λ i. i) (inl refl) strict_sample slots world conforming

pub left_out_premises : LeftOutPremises
left_out_premises = record {
  never_true = allows_alone (sample_basis Strict) (permits true_policy meeting_slots) meeting meeting_conforms refl;
  closed = refl;
  slots_in_scope = record {
    never_true = λ closed slots world conforming h. in_the_rest slots;
    needed = allows_alone (sample_basis Strict) (permits robots_template robot_slots) meeting meeting_conforms refl;
  };
  in_scope = λ x. refl;
  not_external = record {
    never_true = λ closed slots world conforming h. true≢false closed;
    needed =
        allows_alone (guest_basis Strict) (permits (policy_when guest_has_role) meeting_slots) guest_greeting
        premises_needed.strict.closed.conforming refl;
  };
  impossible = robots_are_impossible;
  conforming = λ alike. allow_or_deny alike.decision;
  goes_wrong = λ closed slots world conforming h. h;
  errs = refl;
}
