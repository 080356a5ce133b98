use Rattle.std.proofs.Common.{◌≡◌, map, take}
use Rattle.cedar_types.specs.Names.{Text}
use Rattle.cedar_types.specs.Templates.{template_of}
use Rattle.cedar_verdicts.specs.Ids.{has_id}
use Rattle.cedar_verdicts.specs.Sets.{AreVerdictsOn, has_policy}
use Rattle.cedar_verdicts.specs.Verdicts.{basis_of}
use Rattle.cedar_verdicts.proofs.sets.judge_set.Given as goal

-- the ids of the policies so far are known, and each policy so far has its verdict
abbrev pub invariant-loop-policy : goal.invariant-loop-policy
invariant-loop-policy g l = record {
  known : (t : Text) → has_id l.judge.ids t ≡ has_policy (map template_of (take l.policy-index l.policies)) t;
  said : AreVerdictsOn (basis_of g.C.ArgumentCheck.refusal l.fn.settings) l.fn.settings.level
      (map template_of (take l.policy-index l.policies)) l.verdicts.items;
}
