-- Responses to a request over a part of the store.
use Rattle.std.proofs.Common.{◌≡◌, inl, inr, ℕ, true, false, List, [], ◌∷◌, All, refl, sym, ap, subst}
use Rattle.cedar_types.specs.Names.{Text}
use Rattle.cedar_types.specs.Templates.{condition_of}
use Rattle.cedar_types.specs.Values.{VBool}
use Rattle.cedar_types.specs.Values.Stores.{Store}
use Rattle.cedar_typing.specs.Evaluation.Conformance.{IsOneOf, has_external}
use Rattle.cedar_typing.specs.Evaluation.Eval.{eval}
use Rattle.cedar_typing.specs.Evaluation.Outcomes.{test_of}
use Rattle.cedar_typing.specs.Evaluation.World.{World, Outcome, Gives, Fails}
use Rattle.cedar_typing.specs.Soundness.{IsAllowed, IsTrueOutcome}
use Rattle.cedar_typing.specs.Soundness.PolicyCheck.{IsBooleanOrAllowed}
use Rattle.cedar_typing.specs.Soundness.Policies.{Basis, IsConforming}
use Rattle.cedar_typechecker.specs.Slices.Reach.{HoldsSlice}
use Rattle.cedar_typechecker.specs.Slices.Soundness.{with_store}
use Rattle.cedar_typechecker.specs.Slices.Validation.{IsKeptInSlices}
use Rattle.cedar_typing.proofs.Basics.Members.{each_one}
use Rattle.cedar_host.specs.declared.slices.SliceReport.{SliceReport}
use Rattle.cedar_host.specs.Slices.{NeedsSliceAlone, IsRightForSlices}
use Rattle.cedar_typechecker.specs.Slices.TypedCopies.{EvaluatesInPartAs}
use Rattle.cedar_host.specs.Responses.{TypedPolicy, typed_answers, policies_of, TypedResponsesAreTheSame}
use Rattle.cedar_host.specs.Responses.{LinkedPolicy, linked_world, answers, says_true, PolicyError, with_error, erring}
use Rattle.cedar_host.specs.Responses.{response_to, response, NeedSliceAlone, AreWellFormed, ResponsesNeedSliceAlone, ErrorsAreAllowed}
use Rattle.cedar_host.specs.Responses.{IsAcceptedIn, AcceptedNeedSliceAlone, HaveSameResponses, ImpossibleIsNeverSatisfied}

-- if each policy has an equal outcome, the answers are equal
pub answers_alike : (world world' : World) (ps : List LinkedPolicy)
    → ((p : LinkedPolicy) → IsOneOf p ps
    → eval (linked_world world' p) (condition_of p.template) ≡ eval (linked_world world p) (condition_of p.template))
    → answers world' ps ≡ answers world ps
answers_alike world world' [] h = refl
answers_alike world world' (p ∷ ps) h =
    let e = h p (inl refl) in
    let f = answers_alike world world' ps (λ q i. h q (inr i)) in
    λ j. (record { policy = p; test = test_of (e j) }) ∷ f j

-- a world conforms whatever the slots are bound to
pub linked_conforms : (b : Basis) (world : World) (p : LinkedPolicy) → IsConforming b world → IsConforming b (linked_world world p)
linked_conforms b world p i = record { request = i.request; store = i.store; functions = i.functions }

module _ (b : Basis) (n : ℕ) (ps : List LinkedPolicy) (need : NeedSliceAlone b n ps) (closed : has_external b.schema ≡ false)
    (world : World) (formed : AreWellFormed ps) (i : IsConforming b world) where
  kept : (p : LinkedPolicy) → IsOneOf p ps → IsKeptInSlices p.template n (linked_world world p)
  kept p one = need p one closed (linked_world world p) (formed p one) (linked_conforms b world p i)

  same_response : (part : Store) → HoldsSlice world.request world.store n part
      → response (with_store world part) ps ≡ response world ps
  same_response part holds =
      ap response_to (answers_alike world (with_store world part) ps (λ p one. (kept p one).same part holds))

pub responses_need_slice_alone : ResponsesNeedSliceAlone
responses_need_slice_alone b n ps need closed world formed i part holds = same_response b n ps need closed world formed i part holds

-- ---- errors

stops_allowed : (o : Outcome) → IsBooleanOrAllowed o → (name : Text) (es : List PolicyError)
    → ((e : PolicyError) → IsOneOf e es → IsAllowed e.failure)
    → (e : PolicyError) → IsOneOf e (with_error name (test_of o) es) → IsAllowed e.failure
stops_allowed (Gives (VBool b)) h name es f e one = f e one
stops_allowed (Gives v) h name es f e one = absurd h.1
stops_allowed (Fails g) h name es f e (inl q) = subst (λ (z : PolicyError). IsAllowed z.failure) (sym q) h.0
stops_allowed (Fails g) h name es f e (inr one) = f e one

all_allowed : (world : World) (ps : List LinkedPolicy)
    → ((p : LinkedPolicy) → IsOneOf p ps → IsBooleanOrAllowed (eval (linked_world world p) (condition_of p.template)))
    → (e : PolicyError) → IsOneOf e (erring (answers world ps)) → IsAllowed e.failure
all_allowed world [] h e one = absurd one
all_allowed world (p ∷ ps) h e one =
    stops_allowed (eval (linked_world world p) (condition_of p.template)) (h p (inl refl)) p.name (erring (answers world ps))
    (all_allowed world ps (λ q i. h q (inr i))) e one

pub errors_are_allowed : ErrorsAreAllowed
errors_are_allowed b n ps need closed world formed i =
    all_allowed world ps (λ p one. (kept b n ps need closed world formed i p one).safe)

-- ---- accepted policies

pub accepted_need_slice_alone : AcceptedNeedSliceAlone
accepted_need_slice_alone b n reports right ps accepted p one = by (accepted p one)
  where
    by : IsAcceptedIn reports p → NeedsSliceAlone b p.template n
    by (r, there, h, e) = subst (λ t. NeedsSliceAlone b t n) e ((right r there).sliced h)

-- policies that a host's reports accept give equal responses
pub accepted_respond_alike : (b : Basis) (n : ℕ) (reports : List SliceReport) → All (IsRightForSlices b n) reports
    → HaveSameResponses b n reports
accepted_respond_alike b n reports right ps accepted closed world formed i part holds =
    responses_need_slice_alone b n ps
    (accepted_need_slice_alone b n reports (λ r one. each_one (IsRightForSlices b n) reports right r one) ps accepted)
    closed world formed i part holds

-- ---- impossible policies

pub never_says : (o : Outcome) → (IsTrueOutcome o → ⊥) → says_true (test_of o) ≡ false
never_says (Gives (VBool true)) f = absurd (f refl)
never_says (Gives (VBool false)) f = refl
never_says (Gives v) f = refl
never_says (Fails g) f = refl

pub impossible_is_never_satisfied : ImpossibleIsNeverSatisfied
impossible_is_never_satisfied b p never closed world w i =
    never_says (eval (linked_world world p) (condition_of p.template))
    (never closed w.slots_in_scope (linked_world world p) (linked_conforms b world p i))

-- ---- typed policies

typed_alike : (world : World) (part : Store) (ps : List TypedPolicy)
    → ((p : TypedPolicy) → IsOneOf p ps
    → EvaluatesInPartAs (linked_world world p.policy) part p.condition (condition_of p.policy.template))
    → typed_answers (with_store world part) ps ≡ answers world (policies_of ps)
typed_alike world part [] h = refl
typed_alike world part (p ∷ ps) h =
    let e = h p (inl refl) in
    let f = typed_alike world part ps (λ q i. h q (inr i)) in
    λ j. (record { policy = p.policy; test = test_of (e j) }) ∷ f j

pub typed_responses_are_the_same : TypedResponsesAreTheSame
typed_responses_are_the_same world part ps h = ap response_to (typed_alike world part ps h)
