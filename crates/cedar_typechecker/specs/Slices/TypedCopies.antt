-- The promise to a host that evaluates typed conditions over a part of a store.
use Rattle.std.specs.Prelude.{◌≡◌, ℕ}
use Rattle.cedar_types.specs.Environments.{DeclaredEnv, environments_of}
use Rattle.cedar_types.specs.Templates.{PlainTemplate, condition_of}
use Rattle.cedar_types.specs.Types.{Ty}
use Rattle.cedar_types.specs.Values.Stores.{Store}
use Rattle.cedar_typing.specs.Capabilities.{Caps}
use Rattle.cedar_typing.specs.Composition.{own_env}
use Rattle.cedar_typing.specs.Evaluation.Conformance.{IsOneOf, FitsRequest, SlotsBound, AllHold}
use Rattle.cedar_typing.specs.Evaluation.Eval.{eval}
use Rattle.cedar_typing.specs.Evaluation.World.{World}
use Rattle.cedar_typing.specs.PolicyCheck.{Verdict, succeeds, irrelevant, fails}
use Rattle.cedar_typing.specs.Rules.{Derives}
use Rattle.cedar_typing.specs.Setting.{Setting}
use Rattle.cedar_typing.specs.Soundness.Policies.{Basis, IsSoundAndClosed, IsNamedBySchema, IsWellFormed, IsConforming}
use Rattle.cedar_typing.specs.TypedExpr.{Source, TypedTree}
use Rattle.cedar_typechecker.specs.Levels.Errors.{IsWithinLevel}
use Rattle.cedar_typechecker.specs.Levels.Outcome.{ChecksOn}
use Rattle.cedar_typechecker.specs.Slices.Policies.{PolicyIsWithinLevel, OfEachPassing}
use Rattle.cedar_typechecker.specs.Slices.Reach.{HoldsSlice}
use Rattle.cedar_typechecker.specs.Slices.Soundness.{with_store, levels_in, OfEachSlice}

-- ---- an expression

-- the copy evaluates over the part of the store as the expression does over the whole store
abbrev pub EvaluatesInPartAs : World → Store → TypedTree → Source → Type 0
EvaluatesInPartAs world part x e = eval (with_store world part) x ≡ eval world e

-- each typed copy without level errors at n does so
abbrev pub CopiesMeanTheSameInPart : Setting → World → ℕ → Store → Type 0
CopiesMeanTheSameInPart s world n part =
    (e : Source) → SlotsBound world.slots e
    → (prior : Caps) (d : ℕ) → AllHold world prior
    → (t : Ty) (c : Caps) (x : TypedTree) → Derives s e prior d t c x
    → IsWithinLevel (levels_in s n) x → EvaluatesInPartAs world part x e

-- typed copies do so over each part that holds the slice of n steps, if typing can be relied on in
-- the world
abbrev pub CopiesNeedSliceAlone : Type 0
CopiesNeedSliceAlone = OfEachSlice CopiesMeanTheSameInPart

-- ---- a policy

-- the typed condition of a check does so. A failed check has none
abbrev pub VerdictMeansTheSameInPart : World → Store → Source → Verdict → Type 0
VerdictMeansTheSameInPart world part e (succeeds x) = EvaluatesInPartAs world part x e
VerdictMeansTheSameInPart world part e (irrelevant es x) = EvaluatesInPartAs world part x e
VerdictMeansTheSameInPart world part e (fails es) = Unit {0}

-- the typed condition of the request's own environment evaluates over each part that has the slice
-- of n steps as the template's condition does over the whole store, in each world that conforms, at
-- each n at which the level pass is silent
abbrev pub OwnCopySuffices : Basis → PlainTemplate → Type 0
OwnCopySuffices b t =
    (n : ℕ) → IsSoundAndClosed b → IsNamedBySchema b.schema t → PolicyIsWithinLevel b t n
    → (world : World) → IsWellFormed t world.slots → IsConforming b world
    → (d : DeclaredEnv) → IsOneOf d (environments_of b.schema.actions) → FitsRequest d world.request
    → (part : Store) → HoldsSlice world.request world.store n part
    → (v : Verdict) → ChecksOn b t (own_env t d) v
    → VerdictMeansTheSameInPart world part (condition_of t) v

-- so the typed conditions of a policy that passes need the slice alone, if the schema and the table
-- have no faults
abbrev pub PassingCopyNeedsSliceAlone : Type 0
PassingCopyNeedsSliceAlone = OfEachPassing OwnCopySuffices
