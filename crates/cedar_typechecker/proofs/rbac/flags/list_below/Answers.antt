use Rattle.std.proofs.Common.{◌∙◌, List, rules, tests}
use Rattle.std.proofs.lemmas.Iterator.{YieldsList-from_slice}
use Rattle.std.proofs.lemmas.Iterator.Search.{any_from_yields_List}
use Rattle.std.specs.List.{list_any}
use Rattle.cedar_types.specs.Schemas.Declarations.{application}
use Rattle.cedar_types.specs.Names.{Path, type_of}
use Rattle.cedar_types.specs.Schemas.Contents.{schema_of}
use Rattle.cedar_types.specs.Schemas.{is_among, descendants_of}
use Rattle.cedar_types.proofs.Schema.Places.{any_mapped}
use Rattle.cedar_typechecker.specs.Applications.{types_on}
use Rattle.cedar_typechecker.proofs.rbac.flags.list_below.Goals as goal

pub returns : goal.returns
returns c =
    let below : List Path = descendants_of (schema_of c.args.schema.now).types (type_of c.args.named.now) in
    any_from_yields_List (λ a. list_any (is_among below) (types_on c.args.side (application a.now))) _ _ _ c.any.ensures.ran
    (YieldsList-from_slice c.args.applications.now cc) (λ x b q k. search (rules, tests))
    ∙ any_mapped (λ a. application a.now) (λ a. list_any (is_among below) (types_on c.args.side a)) c.args.applications.now
