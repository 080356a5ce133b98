-- Examples of an authoriser's response to some policies, by the outcome of each.
use Rattle.std.specs.Prelude.{◌≡◌, true, false, List, [], ◌∷◌, None, codes}
use Rattle.cedar_types.specs.declared.base.templates.effects.Effect.{Effect}
use Rattle.cedar_types.specs.declared.base.templates.effects.Effect.TheVariants.{Permit, Forbid}
use Rattle.cedar_types.specs.Names.{Text}
use Rattle.cedar_typing.specs.Evaluation.Outcomes.{Test, Says, Stops}
use Rattle.cedar_typing.specs.Evaluation.World.{Failure, MissingEntity, Overflow}
use Rattle.cedar_typing.specs.Examples.Expressions.{true_lit}
use Rattle.cedar_typing.specs.Examples.PolicySoundness.{policy_when}
use Rattle.cedar_host.specs.Responses.{LinkedPolicy, Answer, PolicyError, Decision, allow, deny, Response, response_to}

-- a permit and a forbid with their outcomes. Their conditions do not matter here
abbrev pub named : Effect → Text → LinkedPolicy
named e n = record { name = n; effect = e; template = policy_when true_lit; slots = λ x. None }

abbrev pub permits : Test → Answer
permits o = record { policy = named Permit (codes "p"); test = o }

abbrev pub forbids : Test → Answer
forbids o = record { policy = named Forbid (codes "f"); test = o }

-- another permit and another forbid
abbrev pub also_permits : Test → Answer
also_permits o = record { policy = named Permit (codes "q"); test = o }

abbrev pub also_forbids : Test → Answer
also_forbids o = record { policy = named Forbid (codes "g"); test = o }

abbrev pub answered : Decision → List Text → List PolicyError → Response
answered d by es = record { decision = d; determining = by; erring = es }

abbrev pub error_of : Text → Failure → PolicyError
error_of n f = record { policy = n; failure = f }

pub record ResponseExamples : Type 0 where
  -- a request is denied without a policy, and if no permit is satisfied
  pub none : response_to [] ≡ answered deny [] []
  pub not_permitted : response_to (permits (Says false) ∷ []) ≡ answered deny [] []
  -- a satisfied permit allows the request
  pub permitted : response_to (permits (Says true) ∷ []) ≡ answered allow (codes "p" ∷ []) []
  pub not_forbidden : response_to (permits (Says true) ∷ forbids (Says false) ∷ [])
      ≡ answered allow (codes "p" ∷ []) []
  -- a satisfied forbid denies the request, wherever it stands, and it alone determines the decision
  pub forbidden : response_to (permits (Says true) ∷ forbids (Says true) ∷ [])
      ≡ answered deny (codes "f" ∷ []) []
  pub forbidden_first : response_to (forbids (Says true) ∷ permits (Says true) ∷ [])
      ≡ answered deny (codes "f" ∷ []) []
  -- a permit that fails does not allow, and a forbid that fails does not deny: both err
  pub failing_permit : response_to (permits (Stops MissingEntity) ∷ [])
      ≡ answered deny [] (error_of (codes "p") MissingEntity ∷ [])
  pub failing_forbid : response_to (permits (Says true) ∷ forbids (Stops Overflow) ∷ [])
      ≡ answered allow (codes "p" ∷ []) (error_of (codes "f") Overflow ∷ [])
  -- each satisfied permit determines a decision to allow, and each satisfied forbid one to deny, in their order
  pub two_permits : response_to (permits (Says true) ∷ also_permits (Says true) ∷ [])
      ≡ answered allow (codes "p" ∷ codes "q" ∷ []) []
  pub second_permit : response_to (permits (Says false) ∷ also_permits (Says true) ∷ [])
      ≡ answered allow (codes "q" ∷ []) []
  pub two_forbids : response_to (also_forbids (Says true) ∷ permits (Says true) ∷ forbids (Says true) ∷ [])
      ≡ answered deny (codes "g" ∷ codes "f" ∷ []) []
  -- each policy that errs is listed, in their order, and the others count as ever
  pub two_errors : response_to (forbids (Stops Overflow) ∷ permits (Says true) ∷ also_permits (Stops MissingEntity) ∷ [])
      ≡ answered allow (codes "p" ∷ []) (error_of (codes "f") Overflow ∷ error_of (codes "q") MissingEntity ∷ [])
