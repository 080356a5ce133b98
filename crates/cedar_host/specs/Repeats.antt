-- Ids that several policies of a set have.
use Rattle.std.specs.Prelude.{◌≡◌, List, [], ◌∷◌, ◌++◌}
use Rattle.cedar_types.specs.Names.{Text, text_of}
use Rattle.cedar_typing.specs.Evaluation.Conformance.{IsOneOf}
use Rattle.cedar_host.specs.Distinct.{AreDistinct}
use Rattle.cedar_host.specs.declared.policy_sets.WrittenPolicy.{WrittenPolicy}

abbrev pub id_in : WrittenPolicy → Text
id_in p = text_of p.template.id.text

-- a text comes in the list, and again behind that place
abbrev pub ComesAgain : Text → List Text → Type 0
ComesAgain t ts =
    (before : List Text) × (after : List Text) × (ts ≡ before ++ t ∷ after) × IsOneOf t after

-- the ids that come behind an equal one, in their order, each as often as it does so: one id more at the end is listed if an
-- equal one stands before it
pub data ComeAgain : List Text → List Text → Type 0 where
  no_ids : ComeAgain [] []
  first : (t : Text) {ids repeated : List Text} → ComeAgain ids repeated → (IsOneOf t ids → ⊥)
      → ComeAgain (ids ++ t ∷ []) repeated
  again : (t : Text) {ids repeated : List Text} → ComeAgain ids repeated → IsOneOf t ids
      → ComeAgain (ids ++ t ∷ []) (repeated ++ t ∷ [])

-- these repeats are listed. So each listed id comes again, and if none is listed, all ids differ
pub record AreRepeats (ids repeated : List Text) : Type 0 where
  pub all : ComeAgain ids repeated
  pub none : repeated ≡ [] → AreDistinct ids
  pub each : (t : Text) → IsOneOf t repeated → ComesAgain t ids
