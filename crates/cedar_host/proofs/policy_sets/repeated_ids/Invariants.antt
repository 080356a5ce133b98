use Rattle.std.proofs.Common.{◌≡◌, map, take}
use Rattle.std.specs.List.{list_any}
use Rattle.cedar_types.specs.Names.{Text, text_of, text_eq}
use Rattle.cedar_host.specs.Repeats.{AreRepeats, id_in}
use Rattle.cedar_host.proofs.policy_sets.repeated_ids.Given as goal

-- the ids so far were seen, and their repeats are listed
abbrev pub invariant-loop-policy : goal.invariant-loop-policy
invariant-loop-policy l = record {
  seen : (t : Text) → list_any (text_eq t) (map text_of l.seen.keys)
      ≡ list_any (text_eq t) (map id_in (take l.policy-index l.policies));
  repeats : AreRepeats (map id_in (take l.policy-index l.policies))
      (map (λ i. text_of i.text) l.repeated.items);
}
