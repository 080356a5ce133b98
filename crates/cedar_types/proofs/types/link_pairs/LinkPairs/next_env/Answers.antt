use Rattle.std.proofs.Common.{rules}
use Rattle.cedar_types.proofs.Linking.Pairs.{no_principal, no_resource, step_in_row, step_row_end}
use Rattle.cedar_types.proofs.types.link_pairs.LinkPairs.next_env.Goals as goal
use Rattle.cedar_types.proofs.types.link_pairs.LinkPairs.next_env.Goals.{then-self-len, else-self-len}

pub returns-then-principal_at-len-clause-next : goal.returns-then-principal_at-len-clause-next
returns-then-principal_at-len-clause-next c =
    let s = c.args.self.now in
    let none = no_principal s.place s.principals.items s.resources.items s.principal_at s.resource_at (search rules) in
    (none, none)

pub returns-then-resource_at-len-clause-next : goal.returns-then-resource_at-len-clause-next
returns-then-resource_at-len-clause-next c =
    let s = c.args.self.now in
    let none = no_resource s.place s.principals.items s.resources.items s.principal_at s.resource_at (search rules) s.in_row in
    (none, none)

pub returns-clause-next : goal.returns-clause-next
returns-clause-next c =
    let s = c.args.self.now in
    elim c.if-self-len.branch [
      | then-self-len w ↦ rw w.self-is (rw c.in_ok-principal_slot.ensures (rw c.in_ok-resource_slot.ensures
          (step_in_row s.place s.principals.items s.resources.items s.principal_at s.resource_at c.index.result.now
          c.index-2.result.now (search rules) (search rules) (search rules) (search rules) (search rules))))
      | else-self-len w ↦ rw w.self-is (rw c.in_ok-principal_slot.ensures (rw c.in_ok-resource_slot.ensures
          (step_row_end s.place s.principals.items s.resources.items s.principal_at s.resource_at c.index.result.now
          c.index-2.result.now (search rules) (search rules) (search rules) (search rules) (search rules))))
    ]
