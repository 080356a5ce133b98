-- Facts that are computed in Strict and in Permissive hold in either of the two modes.
use Rattle.std.proofs.Common.{◌≡◌, ℕ, [], inl, inr, ◌⊎◌, refl, sym, subst}
use Rattle.cedar_types.specs.declared.base.types.ValidationMode.{ValidationMode}
use Rattle.cedar_types.specs.declared.base.types.ValidationMode.TheVariants.{Strict, Permissive}
use Rattle.cedar_types.specs.Templates.{PlainTemplate}
use Rattle.cedar_typing.specs.Modes.{IsSoundMode}
use Rattle.cedar_typing.specs.Soundness.Policies.{Basis}
use Rattle.cedar_typechecker.specs.Slices.Policies.{PolicyIsWithinLevel}
use Rattle.cedar_typechecker.proofs.Slices.Examples.Levels.{level_findings, within}

abbrev pub IsEither : ValidationMode → Type 0
IsEither m = (m ≡ Strict) ⊎ (m ≡ Permissive)

-- the policy's check has this outcome, and the policy is within the level
abbrev pub IsFine : (Basis → PlainTemplate → Type 0) → Basis → PlainTemplate → ℕ → Type 0
IsFine Passed b t n = Passed b t × PolicyIsWithinLevel b t n

module _ (m : ValidationMode) where
  pub in_either : (P : ValidationMode → Type 0) → P Strict → P Permissive → IsEither m → P m
  in_either P strict permissive (inl q) = subst P (sym q) strict
  in_either P strict permissive (inr q) = subst P (sym q) permissive

  pub sound : IsEither m → IsSoundMode m
  sound = in_either IsSoundMode refl refl

  -- a policy is so in either mode if in both its check has this outcome, and no level error is
  -- found
  pub fine : IsEither m → (Passed : Basis → PlainTemplate → Type 0) (b : ValidationMode → Basis)
      (t : PlainTemplate) (n : ℕ) → Passed (b Strict) t → Passed (b Permissive) t
      → level_findings (b Strict) t n ≡ [] → level_findings (b Permissive) t n ≡ []
      → IsFine Passed (b m) t n
  fine either Passed b t n strict permissive none none' =
      in_either (λ k. IsFine Passed (b k) t n) (strict, within (b Strict) t n none)
      (permissive, within (b Permissive) t n none') either
