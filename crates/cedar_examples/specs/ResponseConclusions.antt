-- Conclusions that a host draws from laws of responses and of loaded entities. Each needs the whole
-- of a law: it does not follow if the law says less, for example of permits alone, or of the store
-- alone.
use Rattle.std.specs.Prelude.{◌≡◌, ℕ, false, List, [], ◌∷◌}
use Rattle.cedar_types.specs.declared.base.templates.effects.Effect.TheVariants.{Forbid}
use Rattle.cedar_types.specs.Names.{Text}
use Rattle.cedar_types.specs.Templates.{PlainTemplate, condition_of}
use Rattle.cedar_types.specs.Values.Stores.{Store}
use Rattle.cedar_typechecker.specs.Slices.Soundness.{with_store}
use Rattle.cedar_typing.specs.Evaluation.Conformance.{IsOneOf, has_external}
use Rattle.cedar_typing.specs.Evaluation.Eval.{eval}
use Rattle.cedar_typing.specs.Evaluation.World.{World, TypeFailure}
use Rattle.cedar_typing.specs.Soundness.Policies.{Basis, IsWellFormed, IsConforming}
use Rattle.cedar_host.specs.LoadedOutcomes.{IsLoadedFor}
use Rattle.cedar_host.specs.Responses.{LinkedPolicy, answer, satisfied, response, NeedSliceAlone, AreWellFormed}
use Rattle.cedar_host.specs.Safety.{IsNeverTrue}
use Rattle.cedar_host.specs.Slices.{NeedsSliceAlone}

-- no policy errs for a value of the wrong kind
abbrev pub NoTypeFailures : Type 0
NoTypeFailures =
    (b : Basis) (n : ℕ) (ps : List LinkedPolicy) → NeedSliceAlone b n ps → has_external b.schema ≡ false
    → (world : World) → AreWellFormed ps → IsConforming b world
    → (name : Text) → IsOneOf (record { policy = name; failure = TypeFailure }) (response world ps).erring → ⊥

-- an impossible forbid is not among the satisfied policies
abbrev pub ImpossibleForbidsAreNotSatisfied : Type 0
ImpossibleForbidsAreNotSatisfied =
    (b : Basis) (p : LinkedPolicy) → p.effect ≡ Forbid → IsNeverTrue b p.template → has_external b.schema ≡ false
    → (world : World) → IsWellFormed p.template p.slots → IsConforming b world
    → satisfied Forbid (answer world p ∷ []) ≡ []

-- over two parts that were loaded for a request, a policy evaluates alike
abbrev pub LoadedPartsAgree : Type 0
LoadedPartsAgree =
    (b : Basis) (t : PlainTemplate) (steps : ℕ) → NeedsSliceAlone b t steps → has_external b.schema ≡ false
    → (world : World) → IsWellFormed t world.slots → IsConforming b world
    → (one other : Store) → IsLoadedFor world steps one → IsLoadedFor world steps other
    → eval (with_store world one) (condition_of t) ≡ eval (with_store world other) (condition_of t)

-- over two parts that were loaded for a request, an authoriser responds alike
abbrev pub LoadedPartsRespondAlike : Type 0
LoadedPartsRespondAlike =
    (b : Basis) (steps : ℕ) (ps : List LinkedPolicy) → NeedSliceAlone b steps ps → has_external b.schema ≡ false
    → (world : World) → AreWellFormed ps → IsConforming b world
    → (one other : Store) → IsLoadedFor world steps one → IsLoadedFor world steps other
    → response (with_store world one) ps ≡ response (with_store world other) ps
