use Rattle.std.proofs.Common.{◌∙◌, ap}
use Rattle.cedar_types.specs.Names.{uid_of}
use Rattle.cedar_types.specs.Schemas.Contents.{schema_of}
use Rattle.cedar_types.specs.Schemas.{uid_is_among, action_descendants}
use Rattle.cedar_conformance.proofs.DeclaredActions.{ancestors_named, apart}
use Rattle.cedar_conformance.proofs.actions.is_declared_ancestor.Goals as goal

pub returns-in-Some : goal.returns-in-Some
returns-in-Some c =
    let own = uid_of c.args.id.now in
    c.has_id.ensures ∙ ap (λ o. uid_is_among (action_descendants o) own) c.in-Some.ensures
    ∙ ancestors_named (schema_of c.args.schema.now).actions own (uid_of c.args.ancestor.now) (apart c.args.schema.now)

pub returns-in-None : goal.returns-in-None
returns-in-None c =
    let own = uid_of c.args.id.now in
    ap (λ o. uid_is_among (action_descendants o) own) c.in-None.ensures
    ∙ ancestors_named (schema_of c.args.schema.now).actions own (uid_of c.args.ancestor.now) (apart c.args.schema.now)
