use Rattle.std.proofs.Common.{◌∙◌, rules, tests}
use Rattle.std.proofs.lemmas.Iterator.{YieldsList-from_slice}
use Rattle.std.proofs.lemmas.Iterator.Search.{any_from_yields_List}
use Rattle.cedar_types.specs.Schemas.Declarations.{application}
use Rattle.cedar_types.specs.Names.{type_of}
use Rattle.cedar_types.specs.Schemas.{is_among}
use Rattle.cedar_types.proofs.Schema.Places.{any_mapped}
use Rattle.cedar_typechecker.specs.Applications.{types_on}
use Rattle.cedar_typechecker.proofs.rbac.flags.list_type.Goals as goal

pub returns : goal.returns
returns c =
    any_from_yields_List (λ a. is_among (types_on c.args.side (application a.now)) (type_of c.args.named.now)) _ _ _ c.any.ensures.ran
    (YieldsList-from_slice c.args.applications.now cc) (λ x b q k. search (rules, tests))
    ∙ any_mapped (λ a. application a.now) (λ a. is_among (types_on c.args.side a) (type_of c.args.named.now)) c.args.applications.now
