-- Lists of distinct elements.
use Rattle.std.specs.Prelude.{List, [], ◌∷◌}
use Rattle.cedar_typing.specs.Evaluation.Conformance.{IsOneOf}

-- each element comes once
abbrev pub AreDistinct : {A : Type 0} → List A → Type 0
AreDistinct [] = Unit {0}
AreDistinct (x ∷ xs) = (IsOneOf x xs → ⊥) × AreDistinct xs
