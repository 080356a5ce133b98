-- The response of an authoriser to a set of policies: a decision, the policies that determine it, and those that err.
use Rattle.std.specs.Prelude.{◌≡◌, ℕ, Bool, true, false, ◌&&◌, List, [], ◌∷◌, if◌then◌else◌}
use Rattle.cedar_types.specs.declared.base.templates.effects.Effect.{Effect}
use Rattle.cedar_types.specs.declared.base.templates.effects.Effect.TheVariants.{Permit, Forbid}
use Rattle.cedar_types.specs.Names.{Text}
use Rattle.cedar_types.specs.Templates.{PlainTemplate, template_of, condition_of}
use Rattle.cedar_types.specs.Values.Stores.{Store}
use Rattle.cedar_typing.specs.Evaluation.Conformance.{IsOneOf, has_external}
use Rattle.cedar_typing.specs.Evaluation.Eval.{eval}
use Rattle.cedar_typing.specs.Evaluation.Outcomes.{Test, Says, Stops, test_of}
use Rattle.cedar_typing.specs.Evaluation.World.{Slots, World, Failure}
use Rattle.cedar_typing.specs.Soundness.{IsAllowed}
use Rattle.cedar_typing.specs.TypedExpr.{TypedTree}
use Rattle.cedar_typing.specs.Soundness.Policies.{Basis, IsWellFormed, IsConforming}
use Rattle.cedar_typechecker.specs.Slices.Reach.{HoldsSlice}
use Rattle.cedar_typechecker.specs.Slices.Soundness.{with_store}
use Rattle.cedar_typechecker.specs.Slices.TypedCopies.{EvaluatesInPartAs}
use Rattle.cedar_host.specs.declared.slices.SliceReport.{SliceReport}
use Rattle.cedar_host.specs.Safety.{IsNeverTrue}
use Rattle.cedar_host.specs.Slices.{NeedsSliceAlone, IsRightForSlices}

-- ---- policies of an authoriser

abbrev pub same_effect : Effect → Effect → Bool
same_effect Permit Permit = true
same_effect Permit Forbid = false
same_effect Forbid Permit = false
same_effect Forbid Forbid = true

-- a template with the entities to which its slots are bound, under a name of its own. A policy without slots is linked
-- too
pub record LinkedPolicy : Type 0 where
  pub name : Text
  pub effect : Effect
  pub template : PlainTemplate
  pub slots : Slots

-- ---- the outcome of each policy

abbrev pub linked_world : World → LinkedPolicy → World
linked_world world p = record world { slots = p.slots }

-- the outcome of a policy: its condition gives a boolean, or it stops, with a failure or because the condition gives
-- another value
pub record Answer : Type 0 where
  pub policy : LinkedPolicy
  pub test : Test

abbrev pub answer : World → LinkedPolicy → Answer
answer world p = record { policy = p; test = test_of (eval (linked_world world p) (condition_of p.template)) }

abbrev pub answers : World → List LinkedPolicy → List Answer
answers world [] = []
answers world (p ∷ ps) = answer world p ∷ answers world ps

-- ---- the response

abbrev pub says_true : Test → Bool
says_true (Says b) = b
says_true (Stops f) = false

-- the policies of an effect that are satisfied, in their order
abbrev pub satisfied : Effect → List Answer → List Text
satisfied e [] = []
satisfied e (a ∷ rest) =
    if same_effect e a.policy.effect && says_true a.test then a.policy.name ∷ satisfied e rest
    else satisfied e rest

pub record PolicyError : Type 0 where
  pub policy : Text
  pub failure : Failure

abbrev pub with_error : Text → Test → List PolicyError → List PolicyError
with_error name (Says b) es = es
with_error name (Stops f) es = record { policy = name; failure = f } ∷ es

-- the policies that err, in their order
abbrev pub erring : List Answer → List PolicyError
erring [] = []
erring (a ∷ rest) = with_error a.policy.name a.test (erring rest)

pub data Decision : Type 0 where
  allow deny : Decision

-- a request is allowed if some permit is satisfied and no forbid is: by the satisfied permits and the satisfied forbids
abbrev pub decision : List Text → List Text → Decision
decision (p ∷ ps) [] = allow
decision ps fs = deny

-- the determining policies: the satisfied forbids, if there are any; else the satisfied permits, if there are any
abbrev pub determining : List Text → List Text → List Text
determining ps [] = ps
determining ps (f ∷ fs) = f ∷ fs

pub record Response : Type 0 where
  pub decision : Decision
  pub determining : List Text
  pub erring : List PolicyError

abbrev pub response_to : List Answer → Response
response_to rest = record {
  decision = decision (satisfied Permit rest) (satisfied Forbid rest);
  determining = determining (satisfied Permit rest) (satisfied Forbid rest);
  erring = erring rest;
}

abbrev pub response : World → List LinkedPolicy → Response
response world ps = response_to (answers world ps)

-- ---- policies that need only the slice

-- each policy needs only the slice of n steps
abbrev pub NeedSliceAlone : Basis → ℕ → List LinkedPolicy → Type 0
NeedSliceAlone b n ps = (p : LinkedPolicy) → IsOneOf p ps → NeedsSliceAlone b p.template n

-- each policy has no unknowns, has slots only in its scope, and all of them are bound
abbrev pub AreWellFormed : List LinkedPolicy → Type 0
AreWellFormed ps = (p : LinkedPolicy) → IsOneOf p ps → IsWellFormed p.template p.slots

-- the response is equal in each part of the store that has the slice: decision, determining policies and errors
abbrev pub ResponsesNeedSliceAlone : Type 0
ResponsesNeedSliceAlone =
    (b : Basis) (n : ℕ) (ps : List LinkedPolicy) → NeedSliceAlone b n ps → has_external b.schema ≡ false
    → (world : World) → AreWellFormed ps → IsConforming b world
    → (part : Store) → HoldsSlice world.request world.store n part
    → response (with_store world part) ps ≡ response world ps

-- each error is a missing entity, an overflow or a failed extension call
abbrev pub ErrorsAreAllowed : Type 0
ErrorsAreAllowed =
    (b : Basis) (n : ℕ) (ps : List LinkedPolicy) → NeedSliceAlone b n ps → has_external b.schema ≡ false
    → (world : World) → AreWellFormed ps → IsConforming b world
    → (e : PolicyError) → IsOneOf e (response world ps).erring → IsAllowed e.failure

-- ---- policies that were accepted for slices

-- the policy's template is the one of a report that accepts it
abbrev pub IsAcceptedIn : List SliceReport → LinkedPolicy → Type 0
IsAcceptedIn reports p =
    (r : SliceReport) × IsOneOf r reports
    × (r.report.is_accepted ≡ true) × (template_of r.report.policy.now.template ≡ p.template)

-- if the reports claim no more than holds, accepted templates need only the slice, however they are linked
abbrev pub AcceptedNeedSliceAlone : Type 0
AcceptedNeedSliceAlone =
    (b : Basis) (n : ℕ) (reports : List SliceReport)
    → ((r : SliceReport) → IsOneOf r reports → IsRightForSlices b n r)
    → (ps : List LinkedPolicy) → ((p : LinkedPolicy) → IsOneOf p ps → IsAcceptedIn reports p)
    → NeedSliceAlone b n ps

-- accepted policies with bound slots have equal responses in each part of the store that has the slice of this many
-- steps, whatever their names, effects and slots are
abbrev pub HaveSameResponses : Basis → ℕ → List SliceReport → Type 0
HaveSameResponses b n reports =
    (ps : List LinkedPolicy) → ((p : LinkedPolicy) → IsOneOf p ps → IsAcceptedIn reports p)
    → has_external b.schema ≡ false
    → (world : World) → AreWellFormed ps → IsConforming b world
    → (part : Store) → HoldsSlice world.request world.store n part
    → response (with_store world part) ps ≡ response world ps

-- ---- policies that are impossible

-- a policy that is never true is satisfied in no conforming world
abbrev pub ImpossibleIsNeverSatisfied : Type 0
ImpossibleIsNeverSatisfied =
    (b : Basis) (p : LinkedPolicy) → IsNeverTrue b p.template → has_external b.schema ≡ false
    → (world : World) → IsWellFormed p.template p.slots → IsConforming b world
    → says_true (answer world p).test ≡ false

-- ---- policies whose conditions were typed

-- a policy with a typed copy of its condition, which an authoriser evaluates in place of the condition
pub record TypedPolicy : Type 0 where
  pub policy : LinkedPolicy
  pub condition : TypedTree

abbrev pub typed_answer : World → TypedPolicy → Answer
typed_answer world p = record {
  policy = p.policy;
  test = test_of (eval (linked_world world p.policy) p.condition);
}

abbrev pub typed_answers : World → List TypedPolicy → List Answer
typed_answers world [] = []
typed_answers world (p ∷ ps) = typed_answer world p ∷ typed_answers world ps

abbrev pub policies_of : List TypedPolicy → List LinkedPolicy
policies_of [] = []
policies_of (p ∷ ps) = p.policy ∷ policies_of ps

-- if each copy evaluates in the part as the condition does in the whole store, the responses are equal
abbrev pub TypedResponsesAreTheSame : Type 0
TypedResponsesAreTheSame =
    (world : World) (part : Store) (ps : List TypedPolicy)
    → ((p : TypedPolicy) → IsOneOf p ps
    → EvaluatesInPartAs (linked_world world p.policy) part p.condition (condition_of p.policy.template))
    → response_to (typed_answers (with_store world part) ps) ≡ response world (policies_of ps)
