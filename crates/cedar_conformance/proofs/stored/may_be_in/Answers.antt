use Rattle.std.proofs.Common.{◌∙◌, ap}
use Rattle.cedar_types.specs.Names.{type_of, uid_of}
use Rattle.cedar_types.specs.Schemas.Contents.{schema_of}
use Rattle.cedar_types.specs.Schemas.{is_among, type_descendants}
use Rattle.cedar_conformance.proofs.DeclaredTypes.{fits_by_descendants}
use Rattle.cedar_conformance.proofs.stored.may_be_in.Goals as goal

pub returns-in-Some : goal.returns-in-Some
returns-in-Some c =
    let own = type_of c.args.id.now.entity_type in
    c.is_among_types.ensures ∙ ap (λ o. is_among (type_descendants o) own) c.in-Some.ensures
    ∙ fits_by_descendants (schema_of c.args.schema.now).types own (uid_of c.args.ancestor.now)

pub returns-in-None : goal.returns-in-None
returns-in-None c =
    let own = type_of c.args.id.now.entity_type in
    ap (λ o. is_among (type_descendants o) own) c.in-None.ensures
    ∙ fits_by_descendants (schema_of c.args.schema.now).types own (uid_of c.args.ancestor.now)
