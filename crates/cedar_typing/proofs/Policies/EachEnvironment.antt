-- A statement on each verdict of a policy's check holds in each of its environments.
use Rattle.std.proofs.Common.{◌≡◌, Bool, true, List, [], ◌∷◌}
use Rattle.std.specs.Prelude.{IsPermutation}
use Rattle.std.specs.List.{list_all, AllByRecursion}
use Rattle.cedar_types.specs.Lemmas.Comparisons.{and_left, and_right}
use Rattle.cedar_types.specs.Environments.RequestEnvs.{Env}
use Rattle.cedar_typing.specs.Evaluation.Conformance.{IsOneOf}
use Rattle.cedar_typing.specs.PolicyCheck.{Verdict}
use Rattle.cedar_typing.specs.PolicyCheck.Outcome.{VerdictsOf}
use Rattle.cedar_typing.proofs.Basics.Members.{one_of_all, reordered}

module _ (Checks : Env → Verdict → Type 0) (p : Verdict → Bool) where
  -- the environment has a verdict that passes the test
  abbrev pub HasPassing : Env → Type 0
  HasPassing e = (v : Verdict) × Checks e v × (p v ≡ true)

  listed_pass : (es : List Env) (vs : List Verdict) → VerdictsOf Checks es vs → list_all p vs ≡ true → AllByRecursion HasPassing es
  listed_pass [] [] c h = tt
  listed_pass [] (v ∷ vs) c h = absurd c
  listed_pass (e ∷ es) [] c h = absurd c
  listed_pass (e ∷ es) (v ∷ vs) c h =
      ((v, c.0, and_left (p v) (list_all p vs) h), listed_pass es vs c.1 (and_right (p v) (list_all p vs) h))

  pub each_has_passing : (listed envs : List Env) (vs : List Verdict) → IsPermutation listed envs
      → VerdictsOf Checks listed vs → list_all p vs ≡ true
      → (e : Env) → IsOneOf e envs → HasPassing e
  each_has_passing listed envs vs m c h =
      reordered HasPassing listed envs m (one_of_all HasPassing listed (listed_pass listed vs c h))
