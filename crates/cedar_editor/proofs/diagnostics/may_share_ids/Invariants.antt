use Rattle.std.proofs.Common.{◌≡◌, ℕ, ◌<◌, false, map, nat_eq, take}
use Rattle.std.specs.HashSet.{contains}
use Rattle.std.specs.List.{list_any}
use Rattle.cedar_editor.specs.Ids.{has_earlier_id, ids_from, sum_of}
use Rattle.cedar_editor.proofs.diagnostics.may_share_ids.Given as goal

-- the set has the sums of the ids so far, and none of these ids is that of an earlier policy
abbrev pub invariant-loop-number : goal.invariant-loop-number
invariant-loop-number l = record {
  known : (sum : ℕ) → contains nat_eq l.seen sum ≡ list_any (nat_eq sum) (take l.number (map sum_of (ids_from 0 l.policies)));
  differ : (k : ℕ) → k < l.number → has_earlier_id l.policies k ≡ false;
}
