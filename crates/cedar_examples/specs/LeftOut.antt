-- Each premise is needed for an impossible policy to be left out: without it, the permit that is
-- left out allowed the request. Errors of a policy that is left out go with it.
use Rattle.std.specs.Prelude.{◌≡◌, false, [], ◌∷◌, codes}
use Rattle.cedar_types.specs.declared.base.templates.effects.Effect.TheVariants.{Permit}
use Rattle.cedar_types.specs.declared.base.types.ValidationMode.TheVariants.{Strict}
use Rattle.cedar_types.specs.Expressions.Tree.{is_type}
use Rattle.cedar_types.specs.Templates.{PlainTemplate}
use Rattle.cedar_typing.specs.Composition.{SlotsInScopeAlone}
use Rattle.cedar_typing.specs.Evaluation.Conformance.{has_external}
use Rattle.cedar_typing.specs.Evaluation.World.{Slots, TypeFailure}
use Rattle.cedar_typing.specs.Examples.Composition.{robots_template, robot_slots}
use Rattle.cedar_typing.specs.Examples.Expressions.{principal}
use Rattle.cedar_typing.specs.Examples.NeededPremises.{a_robot_greets, guest_basis, guest_has_role}
use Rattle.cedar_typing.specs.Examples.PolicySoundness.{sample_basis, policy_when, meeting_slots, meeting}
use Rattle.cedar_typing.specs.Examples.Promises.{true_policy, wrong_policy}
use Rattle.cedar_typing.specs.Examples.World.{robot, sample_schema}
use Rattle.cedar_typing.specs.Soundness.Policies.{Basis}
use Rattle.cedar_host.specs.ResponseLaws.{DecidesAlike, MayBeLeftOut}
use Rattle.cedar_host.specs.Responses.{LinkedPolicy, response}
use Rattle.cedar_host.specs.Safety.{IsNeverTrue}

-- a permit with these slots
abbrev pub permits : PlainTemplate → Slots → LinkedPolicy
permits t slots = record { name = codes "p"; effect = Permit; template = t; slots = slots }

-- a policy that is never true, but that may not be left out
pub record IsNeededBy (b : Basis) (t : PlainTemplate) (slots : Slots) : Type 0 where
  pub never_true : IsNeverTrue b t
  pub needed : MayBeLeftOut b (permits t slots) → ⊥

-- `principal is Robot`, by a schema in which users greet users
abbrev pub robots_alone : PlainTemplate
robots_alone = policy_when (is_type tt principal robot)

pub record LeftOutPremises : Type 0 where
  -- a policy that is true
  pub never_true : MayBeLeftOut (sample_basis Strict) (permits true_policy meeting_slots) → ⊥
  -- a policy whose slots stand in the rest
  pub closed : has_external sample_schema ≡ false
  pub slots_in_scope : IsNeededBy (sample_basis Strict) robots_template robot_slots
  -- a policy about external types
  pub in_scope : SlotsInScopeAlone (policy_when guest_has_role)
  pub not_external : IsNeededBy (guest_basis Strict) (policy_when guest_has_role) meeting_slots
  -- a world that does not conform, in which a robot greets
  pub impossible : IsNeverTrue (sample_basis Strict) robots_alone
  pub conforming : DecidesAlike (response a_robot_greets (permits robots_alone meeting_slots ∷ [])) (response a_robot_greets []) → ⊥
  -- an impossible policy may err, and its error is left out with it
  pub goes_wrong : IsNeverTrue (sample_basis Strict) wrong_policy
  pub errs : (response meeting (permits wrong_policy meeting_slots ∷ [])).erring
      ≡ record { policy = codes "p"; failure = TypeFailure } ∷ []
