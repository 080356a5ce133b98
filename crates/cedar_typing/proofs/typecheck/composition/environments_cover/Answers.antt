use Rattle.cedar_typing.proofs.Composition.Coverage.{coverage}
use Rattle.cedar_typing.proofs.Composition.ScopeValues.{scope_is_boolean}
use Rattle.cedar_typing.proofs.typecheck.composition.environments_cover.Goals as goal

pub returns : goal.returns
returns c = record { boolean = scope_is_boolean; covered = coverage }
