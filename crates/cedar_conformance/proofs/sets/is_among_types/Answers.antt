use Rattle.std.proofs.Common.{◌∙◌}
use Rattle.cedar_types.specs.Names.{type_of}
use Rattle.cedar_types.proofs.Names.Paths.{contained, names_cmp}
use Rattle.cedar_conformance.proofs.sets.is_among_types.Goals as goal

pub returns : goal.returns
returns c =
    c.contains.ensures ∙ contained _ (type_of c.args.name.now) (λ k. names_cmp c.args.name.now.name k.name) c.args.types.now.keys
