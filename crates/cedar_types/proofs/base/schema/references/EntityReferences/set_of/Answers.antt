use Rattle.std.proofs.Common.{ap, ◌∙◌}
use Rattle.cedar_types.specs.Names.{type_of}
use Rattle.cedar_types.specs.Types.{lub_of, types_of}
use Rattle.cedar_types.proofs.Names.Ids.{type_lookup}
use Rattle.cedar_types.proofs.Names.Paths.{names_cmp}
use Rattle.cedar_types.proofs.Schema.References.{found_is}
use Rattle.cedar_types.proofs.base.schema.references.EntityReferences.set_of.Goals as goal

pub returns-in_ok-clone-in-Some : goal.returns-in_ok-clone-in-Some
unfolding lub_of
returns-in_ok-clone-in-Some c =
    let q = c.args.name.now in
    let es = c.args.self.now.sets.entries in
    ap types_of c.in_ok-clone-in-Some.ensures.cases
    ∙ found_is (type_of q) c.in-Some.set.now _
    (c.in-Some.ensures.value ∙ type_lookup _ (type_of q) (λ k. names_cmp q.name k.name) es)
    (c.args.self.now.own q)
