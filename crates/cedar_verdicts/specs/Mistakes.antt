-- Mistakes in a policy, by the causes of its findings.
use Rattle.std.specs.Prelude.{◌≡◌, ℕ, ◌-◌, min, Bool, true, false, List, ◌∷◌, length, IsPermutation}
use Rattle.std.specs.List.{flat_map, list_all}
use Rattle.cedar_verdicts.specs.declared.causes.Cause.{Cause}
use Rattle.cedar_verdicts.specs.declared.causes.Cause.TheVariants as Cause
use Rattle.cedar_verdicts.specs.declared.causes.Found.{Found}
use Rattle.cedar_verdicts.specs.declared.wording.FirstFindings.{FirstFindings}
use Rattle.cedar_verdicts.specs.declared.wording.Mistake.{Mistake}

-- ---- causes

abbrev pub is_of_error : Cause → Bool
is_of_error (Cause.Error e s) = true
is_of_error _ = false

-- an error is the cause
abbrev pub is_error : Found → Bool
is_error c = is_of_error c.cause

abbrev pub is_that_impossible : Cause → Bool
is_that_impossible (Cause.Impossible w p) = true
is_that_impossible _ = false

-- the cause is that the policy is impossible
abbrev pub says_impossible : Found → Bool
says_impossible c = is_that_impossible c.cause

abbrev pub may_be_that_impossible : Cause → Bool
may_be_that_impossible (Cause.Impossible w p) = true
may_be_that_impossible (Cause.Error e s) = true
may_be_that_impossible _ = false

-- the cause is that the policy is impossible, or an error, whose code is not said here
abbrev pub may_say_impossible : Found → Bool
may_say_impossible c = may_be_that_impossible c.cause

-- ---- mistakes

-- the causes of a mistake, the first one in front
abbrev pub causes_in : Mistake → List Found
causes_in m = m.first ∷ m.others.items

-- each cause behind the first one is an error
abbrev pub is_one_mistake : Mistake → Bool
is_one_mistake m = list_all is_error m.others.items

abbrev pub is_of_impossible : Mistake → Bool
is_of_impossible m = says_impossible m.first

abbrev pub may_be_of_impossible : Mistake → Bool
may_be_of_impossible m = may_say_impossible m.first

-- the findings and the number of the others are those of mistakes, which these causes make, each cause in one mistake
pub record AreFirstOf (most : ℕ) (causes : List Found) (f : FirstFindings) : Type 0 where
  pub mistakes : List Mistake
  pub all : IsPermutation causes (flat_map causes_in mistakes)
  pub each : list_all is_one_mistake mistakes ≡ true
  -- as many are listed as there is room for, and the others are counted
  pub listed : length f.listed.items ≡ min most (length mistakes)
  pub others : f.others ≡ length mistakes - most
