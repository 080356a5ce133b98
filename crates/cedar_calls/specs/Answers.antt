-- Promises of the verdicts on the policies of a call.
use Rattle.std.specs.Prelude.{ℕ, false, Option}
use Rattle.cedar_types.specs.Templates.{template_of}
use Rattle.cedar_typing.specs.Soundness.Policies.{Basis}
use Rattle.cedar_verdicts.specs.Verdicts.{IsRightVerdict, IsWholeVerdict}
use Rattle.cedar_calls.specs.declared.answered.Answered.{Answered}

-- a right answer: the verdict on a policy of a call claims no more than is true
abbrev pub IsRightAnswer : Basis → Option ℕ → Answered → Type 0
IsRightAnswer b level a = IsRightVerdict b level (template_of a.given.now.policy) a.verdict

-- a whole answer: the verdict claims no less, and no policy of a call has the id of another
abbrev pub IsWholeAnswer : Basis → Option ℕ → Answered → Type 0
IsWholeAnswer b level a = IsWholeVerdict b level (template_of a.given.now.policy) false a.verdict
