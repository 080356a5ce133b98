-- Conclusions that a host draws from laws of the libraries. Each needs the whole of a law: it does
-- not follow if the law says less, for example of types alone, or of answers alone.
use Rattle.std.specs.Prelude.{◌≡◌, ℕ, true, List, [], ◌∷◌, Some}
use Rattle.cedar_types.specs.declared.base.types.ValidationMode.TheVariants.{Strict, Permissive, Partial}
use Rattle.cedar_types.specs.Errors.{Warning}
use Rattle.cedar_types.specs.Types.{Ty}
use Rattle.cedar_typing.specs.Capabilities.{Caps, no_caps}
use Rattle.cedar_typing.specs.Evaluation.Conformance.{SlotsBound}
use Rattle.cedar_typing.specs.Evaluation.Eval.{eval}
use Rattle.cedar_typing.specs.Evaluation.World.{Failure, Fails}
use Rattle.cedar_typing.specs.PolicyCheck.Outcome.{impossible}
use Rattle.cedar_typing.specs.Refinement.{in_mode, basis_in_mode, WhereStrictPasses}
use Rattle.cedar_typing.specs.Rules.{Derives}
use Rattle.cedar_typing.specs.Setting.{Setting}
use Rattle.cedar_typing.specs.Soundness.Policies.{CheckedOn}
use Rattle.cedar_typing.specs.TypedExpr.{Source, TypedTree}
use Rattle.cedar_typechecker.specs.Levels.Errors.{IsWithinLevel}
use Rattle.cedar_typechecker.specs.Levels.Outcome.{LevelOutcome}
use Rattle.cedar_typechecker.specs.Levels.Required.{IsRequiredLevel}
use Rattle.cedar_typechecker.specs.Slices.Soundness.{with_store, levels_in, OfEachSlice}

-- ---- slices

-- if an expression fails over the store, its typed copy fails alike over a part that holds the
-- slice
abbrev pub CopiesFailAlike : Type 0
CopiesFailAlike =
    OfEachSlice
    (λ s world n part. (e : Source) → SlotsBound world.slots e
    → (t : Ty) (c : Caps) (x : TypedTree) → Derives s e no_caps 1 t c x → IsWithinLevel (levels_in s n) x
    → (f : Failure) → eval world e ≡ Fails f → eval (with_store world part) x ≡ Fails f)

-- ---- modes

-- if Permissive types an expression, Partial finds no other type, no other capabilities and no
-- other copy
abbrev pub PartialFindsNoOther : Type 0
PartialFindsNoOther =
    (s : Setting) (e : Source) (prior : Caps) (d : ℕ) (t u : Ty) (c c' : Caps) (x y : TypedTree)
    → Derives (in_mode Permissive s) e prior d t c x → Derives (in_mode Partial s) e prior d u c' y
    → (t ≡ u) × (c ≡ c') × (x ≡ y)

-- if the check of a policy passes in Strict, and finds only that the policy is impossible, so does
-- the check in Permissive
abbrev pub ImpossibleInBothModes : Type 0
ImpossibleInBothModes =
    WhereStrictPasses
    (λ b t. CheckedOn (basis_in_mode Strict b) t true [] [] [] (impossible t ∷ [])
    → CheckedOn (basis_in_mode Permissive b) t true [] [] [] (impossible t ∷ []))

-- a policy that passes in Strict requires in Permissive the level that it requires in Strict
abbrev pub RequiredInBothModes : Type 0
RequiredInBothModes =
    WhereStrictPasses
    (λ b t. (n : ℕ) → IsRequiredLevel (basis_in_mode Strict b) t (Some n)
    → IsRequiredLevel (basis_in_mode Permissive b) t (Some n))

-- if validation with levels finds no error in Strict, it finds none in Permissive
abbrev pub SilentInBothModes : Type 0
SilentInBothModes =
    WhereStrictPasses
    (λ b t. (n : ℕ) (warnings : List Warning) → LevelOutcome (basis_in_mode Strict b) t n [] warnings
    → LevelOutcome (basis_in_mode Permissive b) t n [] warnings)
