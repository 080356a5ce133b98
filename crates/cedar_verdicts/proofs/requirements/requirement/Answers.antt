use Rattle.std.proofs.Common.{◌≡◌, ◌||◌, Bool, true, false, not, refl, true≢false}
use Rattle.cedar_verdicts.proofs.requirements.requirement.Goals as goal

-- a requirement is given only if the mode has levels and the policy passes
passed : (has passes : Bool) → (not has || not passes) ≡ false → passes ≡ true
passed has true h = refl
passed true false h = absurd (true≢false h)
passed false false h = absurd (true≢false h)

pub returns-in-Some-clause-only : goal.returns-in-Some-clause-only
returns-in-Some-clause-only g c = λ said refused.
    c.in_ok-passes.ensures.refused (passed c.has_levels.result c.in_ok-passes.passes c.if-has_levels-passes.false) refused

pub returns-in-None-clause-only : goal.returns-in-None-clause-only
returns-in-None-clause-only g c = λ said refused.
    c.in_ok-passes.ensures.refused (passed c.has_levels.result c.in_ok-passes.passes c.if-has_levels-passes.false) refused
