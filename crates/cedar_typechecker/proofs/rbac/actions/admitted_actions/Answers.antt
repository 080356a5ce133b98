use Rattle.std.proofs.Common.{map, sym}
use Rattle.std.proofs.lemmas.List.Sorted.{list_any-IsPermutation}
use Rattle.cedar_types.specs.Schemas.Declarations.{declared_action}
use Rattle.cedar_types.specs.Schemas.Contents.{schema_of}
use Rattle.cedar_typechecker.proofs.rbac.actions.admitted_actions.Goals as goal

pub returns-in_ok-actions-in-Any : goal.returns-in_ok-actions-in-Any
returns-in_ok-actions-in-Any c =
    rw c.in-Any.is (λ p. sym
    (list_any-IsPermutation p (schema_of c.args.schema.now).actions
    (map (λ a. declared_action a.now) c.in_ok-actions-in-Any.actions.items) c.in_ok-actions-in-Any.ensures))
