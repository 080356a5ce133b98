use Rattle.std.proofs.Common.{Some, ap, sym, ◌∙◌}
use Rattle.cedar_types.specs.Types.{TEntity, lub_of}
use Rattle.cedar_types.specs.Types.Bounds.{lub}
use Rattle.cedar_types.proofs.Bounds.Steps.{entity_wide}
use Rattle.cedar_types.proofs.base.types.CedarType.flat_bound_with.Goals as goal

pub returns-in_ok-all-in-Ok : goal.returns-in_ok-all-in-Ok
unfolding lub_of
returns-in_ok-all-in-Ok c =
    let m = c.args.mode in
    let types = c.in-Ok.types in
    let others = c.in-Some.others.now in
    ap Some (c.of_entity_types.ensures ∙ ap TEntity c.in_ok-all-in-Ok.ensures)
    ∙ sym (entity_wide m (lub_of types) (lub_of others) (sym c.is_strict.ensures ∙ c.if-is_strict.false) types.ascends)
    ∙ (λ i. lub m (sym c.in-Ok.ensures.types i) (sym c.in-Some.ensures i))
