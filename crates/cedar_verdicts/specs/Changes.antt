-- Policies that are worse off by a second verdict.
use Rattle.std.specs.Prelude.{Bool, true, false, not, ◌&&◌, ◌||◌, nat_lt}
use Rattle.cedar_findings.specs.declared.findings.Requirement.{Requirement}
use Rattle.cedar_findings.specs.declared.findings.Requirement.TheVariants as Requirement
use Rattle.cedar_findings.specs.declared.findings.Verdict.{Verdict}
use Rattle.cedar_verdicts.specs.Impossible.{has_impossible}

-- a level is greater than another, or no level is enough any more
abbrev pub needs_more : Requirement → Requirement → Bool
needs_more Requirement.Unsaid r = false
needs_more Requirement.NoLevel r = false
needs_more (Requirement.Level l) Requirement.Unsaid = false
needs_more (Requirement.Level l) Requirement.NoLevel = true
needs_more (Requirement.Level l) (Requirement.Level m) = nat_lt l.level m.level

-- a policy that was accepted is refused, newly impossible, or needs more steps; one that was refused cannot be worse off
abbrev pub is_worse_by : Verdict → Verdict → Bool
is_worse_by old new =
    old.is_accepted
    && (not new.is_accepted || ((has_impossible new && not (has_impossible old)) || needs_more old.requirement new.requirement))
