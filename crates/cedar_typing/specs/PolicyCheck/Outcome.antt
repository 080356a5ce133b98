-- The outcome of the check of a policy in all of its environments.
use Rattle.std.specs.Prelude.{◌≡◌, ◌↔◌, Bool, true, false, cond, List, [], ◌∷◌, ◌++◌, IsPermutation}
use Rattle.std.specs.List.{flat_map, list_all}
use Rattle.cedar_types.specs.Errors.{Finding, Warning, impossible_policy}
use Rattle.cedar_types.specs.Environments.RequestEnvs.{Env}
use Rattle.cedar_types.specs.Templates.{PlainTemplate}
use Rattle.cedar_typing.specs.Evaluation.Conformance.{IsOneOf}
use Rattle.cedar_typing.specs.PolicyCheck.{Verdict, succeeds, irrelevant, fails}

-- ---- one environment

abbrev pub is_silent : List Finding → Bool
is_silent [] = true
is_silent (f ∷ fs) = false

-- a success passes, and so does an irrelevant condition without errors
abbrev pub passes : Verdict → Bool
passes (succeeds e) = true
passes (irrelevant es e) = is_silent es
passes (fails es) = false

abbrev pub is_irrelevant : Verdict → Bool
is_irrelevant (succeeds e) = false
is_irrelevant (irrelevant es e) = true
is_irrelevant (fails es) = false

abbrev pub errors_in : Verdict → List Finding
errors_in (succeeds e) = []
errors_in (irrelevant es e) = es
errors_in (fails es) = es

-- ---- all environments

-- a verdict for each environment, by a relation between an environment and a verdict
abbrev pub VerdictsOf : (Env → Verdict → Type 0) → List Env → List Verdict → Type 0
VerdictsOf Checks [] [] = Unit {0}
VerdictsOf Checks [] (v ∷ vs) = ⊥
VerdictsOf Checks (e ∷ es) [] = ⊥
VerdictsOf Checks (e ∷ es) (v ∷ vs) = Checks e v × VerdictsOf Checks es vs

-- the policy passes if each environment passes
abbrev pub all_pass : List Verdict → Bool
all_pass = list_all passes

-- the policy is impossible if it is irrelevant in each environment, so also if there is none
abbrev pub all_irrelevant : List Verdict → Bool
all_irrelevant = list_all is_irrelevant

abbrev pub all_errors : List Verdict → List Finding
all_errors = flat_map errors_in

-- the warning that a policy is impossible, at the policy's own place
abbrev pub impossible : PlainTemplate → Warning
impossible t = record { place = t.place; policy = t.id; slip = impossible_policy }

-- the warning is given if the policy is impossible
abbrev pub warnings_of : PlainTemplate → List Verdict → List Warning
warnings_of t vs = cond (all_irrelevant vs) (impossible t ∷ []) []

-- the members of the new set are those of the old one and of the list
abbrev pub Adds : {A : Type 0} → List A → List A → List A → Type 0
Adds {A} old these new = (x : A) → IsOneOf x new ↔ IsOneOf x (old ++ these)

-- the outcome of the check of a policy. `Checks` relates an environment to its verdicts, and both sets are given before
-- and after
pub record PolicyOutcome (Checks : Env → Verdict → Type 0) (envs : List Env)
    (t : PlainTemplate) (answer : Bool)
    (errors errors' : List Finding) (warnings warnings' : List Warning) : Type 0 where
  -- the environments in some order, and a verdict of each
  pub listed : List Env
  pub verdicts : List Verdict
  pub in_some_order : IsPermutation listed envs
  pub checked : VerdictsOf Checks listed verdicts
  -- the answer tells whether the policy passes
  pub answered : answer ≡ all_pass verdicts
  -- all errors are added, and so is the warning if the policy is impossible
  pub errors_added : Adds errors (all_errors verdicts) errors'
  pub warnings_added : Adds warnings (warnings_of t verdicts) warnings'
