use Rattle.std.proofs.Common.{◌∙◌}
use Rattle.cedar_types.proofs.Names.Paths.{names_eq}
use Rattle.cedar_where.proofs.terms.is_same_type.Goals as goal

pub returns : goal.returns
returns c = c.eq.ensures ∙ names_eq c.args.left.now.name c.args.right.now.name
