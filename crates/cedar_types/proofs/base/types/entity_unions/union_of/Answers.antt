use Rattle.std.proofs.Common.{ap, ◌∙◌}
use Rattle.cedar_types.specs.Names.{type_of}
use Rattle.cedar_types.specs.Types.{types_of}
use Rattle.cedar_types.specs.Types.Bounds.{union}
use Rattle.cedar_types.proofs.Names.Paths.{clones_alike}
use Rattle.cedar_types.proofs.base.types.entity_unions.union_of.Goals as goal

pub returns : goal.returns
returns c =
    c.in_ok-all.ensures
    ∙ ap (λ ks. union ks (types_of c.args.ys.now))
    (clones_alike type_of c.args.xs.now.keys c.in_ok-mine.mine.keys (λ x y e. ap (λ p. p.name) e) c.in_ok-mine.ensures.cases)
