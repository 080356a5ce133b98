-- Verdicts on the policies of a set.
use Rattle.std.specs.Prelude.{ℕ, Bool, List, [], ◌∷◌, ◌++◌, map, Option}
use Rattle.std.specs.List.{list_any}
use Rattle.cedar_types.specs.Names.{Text, text_eq}
use Rattle.cedar_types.specs.Templates.{PlainTemplate}
use Rattle.cedar_typing.specs.Soundness.Policies.{Basis}
use Rattle.cedar_findings.specs.declared.findings.Verdict.{Verdict}
use Rattle.cedar_verdicts.specs.Verdicts.{IsRightVerdict, IsWholeVerdict}

-- some policy of this list has this id
abbrev pub has_policy : List PlainTemplate → Text → Bool
has_policy ts id = list_any (text_eq id) (map (λ t. t.id) ts)

-- a right and whole verdict on each policy, in their order; an id is repeated if a policy before it
-- has it
pub data AreVerdictsOn (b : Basis) (level : Option ℕ) : List PlainTemplate → List Verdict → Type 0 where
  none_yet : AreVerdictsOn b level [] []
  one_more : (t : PlainTemplate) (v : Verdict) {ts : List PlainTemplate} {vs : List Verdict}
      → AreVerdictsOn b level ts vs → IsRightVerdict b level t v → IsWholeVerdict b level t (has_policy ts t.id) v
      → AreVerdictsOn b level (ts ++ t ∷ []) (vs ++ v ∷ [])
