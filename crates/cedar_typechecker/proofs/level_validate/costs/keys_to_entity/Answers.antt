use Rattle.std.proofs.Common.{◌∷◌, map, Some, None, ap, ◌∙◌}
use Rattle.cedar_types.specs.Names.{text_of}
use Rattle.cedar_types.specs.Schemas.Contents.{schema_of}
use Rattle.cedar_types.specs.Types.{ty_of}
use Rattle.cedar_typechecker.proofs.Levels.Costs.{keys_counted}
use Rattle.cedar_typechecker.proofs.level_validate.costs.keys_to_entity.Goals as goal

pub returns-in-Some : goal.returns-in-Some
returns-in-Some c =
    let x = text_of c.args.first.now in
    ap (λ ks. Some (x ∷ ks)) c.first_keys.ensures
    ∙ keys_counted (schema_of c.args.schema.now) (ty_of c.args.root.now) x
    (map text_of c.args.rest.now) c.in_ok-count.field-0 (Some c.in-Some.count)
    c.in_ok-count.ensures c.in-Some.is

pub returns-in-None : goal.returns-in-None
returns-in-None c =
    keys_counted (schema_of c.args.schema.now) (ty_of c.args.root.now) (text_of c.args.first.now)
    (map text_of c.args.rest.now) c.in_ok-count.field-0 None c.in_ok-count.ensures c.in-None.is
