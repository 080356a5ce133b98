use Rattle.std.proofs.Common.{ap, sym, ◌∙◌}
use Rattle.cedar_types.specs.Accesses.{shape_on}
use Rattle.cedar_types.proofs.Expressions.Marks.{one_shape}
use Rattle.cedar_types.proofs.types.capability.owners.Owner.try_clone.Goals as goal

pub returns-in_ok-try_clone-in-Made : goal.returns-in_ok-try_clone-in-Made
returns-in_ok-try_clone-in-Made c =
    one_shape c.in_ok-try_clone-in-Made.field-0 c.in-Made.e c.in_ok-try_clone-in-Made.ensures ∙ ap shape_on (sym c.in-Made.is)
