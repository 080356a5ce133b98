use Rattle.std.proofs.Common.{◌≡◌, take, map, All}
use Rattle.cedar_verdicts.specs.Verdicts.{basis_of}
use Rattle.cedar_calls.specs.Answers.{IsRightAnswer, IsWholeAnswer}
use Rattle.cedar_calls.proofs.answered.judge_all.Given as goal

-- the answers so far are on the policies so far, right and whole
abbrev pub invariant-loop-policy : goal.invariant-loop-policy
invariant-loop-policy g l = record {
  each : map (λ a. a.given.now) l.all.items ≡ take l.policy-index l.given;
  right : All (IsRightAnswer (basis_of g.C.ArgumentCheck.refusal l.fn.settings) l.fn.settings.level) l.all.items;
  whole : All (IsWholeAnswer (basis_of g.C.ArgumentCheck.refusal l.fn.settings) l.fn.settings.level) l.all.items;
}
