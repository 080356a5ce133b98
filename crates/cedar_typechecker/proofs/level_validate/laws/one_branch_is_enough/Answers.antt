use Rattle.cedar_typechecker.proofs.Levels.Demands.{demands_tell_errors, demands_are_met}
use Rattle.cedar_typechecker.proofs.Levels.Typing.{typed_branches_are_shared}
use Rattle.cedar_typechecker.proofs.level_validate.laws.one_branch_is_enough.Goals as goal

pub returns : goal.returns
returns c =
    record { shared = typed_branches_are_shared; errors = demands_tell_errors; met = demands_are_met }
