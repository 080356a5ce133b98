use Rattle.std.proofs.Common.{◌∙◌}
use Rattle.cedar_types.proofs.Comparisons.Types.{types_same}
use Rattle.cedar_typing.proofs.typecheck.type_tests.is_same_type.Goals as goal

pub returns : goal.returns
returns c = c.eq.ensures ∙ types_same c.args.one.now c.args.other.now
