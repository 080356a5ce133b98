use Rattle.std.proofs.Common.{ap, ◌∙◌, sym, map}
use Rattle.cedar_types.specs.Names.{type_of}
use Rattle.cedar_types.specs.Types.{types_of}
use Rattle.cedar_types.specs.Types.Bounds.{union, insert_path}
use Rattle.cedar_types.proofs.Names.Paths.{inserted, names_cmp}
use Rattle.cedar_types.proofs.base.types.entity_unions.add_types.Goals as goal

pub loop-y-init : goal.loop-y-init
loop-y-init c =
    ap (λ ks. union (types_of c.args.xs) (map type_of ks))
    (c.into_iter-y-iterator.ensures.into_iter_gives ∙ c.iter-y-items.ensures.rest)

pub loop-y-preserved : goal.loop-y-preserved
loop-y-preserved c =
    let rest = map type_of c.next.new.self in
    ap (λ ks. union (map type_of ks) rest) c.in_ok-insert.ensures.keys
    ∙ ap (λ ks. union ks rest) (inserted _ (λ a b. names_cmp a.name b.name) c.loop-y.all.keys c.in_ok-clone.field-0)
    ∙ ap (λ p. union (insert_path p (types_of c.loop-y.all)) rest) (ap (λ p. p.name) c.in_ok-clone.ensures.cases)
    ∙ ap (λ ks. union (types_of c.loop-y.all) (map type_of ks)) (sym c.in-Some.ensures.steps)
    ∙ c.loop-y.invariant
