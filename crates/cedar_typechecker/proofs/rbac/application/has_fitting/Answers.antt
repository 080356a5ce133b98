use Rattle.std.proofs.Common.{◌∙◌, List, rules, tests}
use Rattle.std.proofs.lemmas.Iterator.{YieldsList-from_slice}
use Rattle.std.proofs.lemmas.Iterator.Search.{any_from_yields_List}
use Rattle.cedar_types.specs.Schemas.Declarations.{application}
use Rattle.cedar_types.specs.Names.{Path}
use Rattle.cedar_types.specs.Schemas.Contents.{schema_of}
use Rattle.cedar_types.specs.Templates.{scope_of}
use Rattle.cedar_types.proofs.Schema.Places.{any_mapped}
use Rattle.cedar_typechecker.specs.Applications.{fits}
use Rattle.cedar_typechecker.specs.Scopes.{admitted_types}
use Rattle.cedar_typechecker.proofs.rbac.application.has_fitting.Goals as goal

pub returns : goal.returns
returns c =
    let ps : List Path = admitted_types (schema_of c.args.schema.now) (scope_of c.args.principal.now) in
    let rs : List Path = admitted_types (schema_of c.args.schema.now) (scope_of c.args.resource.now) in
    any_from_yields_List (λ a. fits ps rs (application a.now)) _ _ _ c.any.ensures.ran
    (YieldsList-from_slice c.args.applications.now cc) (λ x b q k. search (rules, tests))
    ∙ any_mapped (λ a. application a.now) (fits ps rs) c.args.applications.now
