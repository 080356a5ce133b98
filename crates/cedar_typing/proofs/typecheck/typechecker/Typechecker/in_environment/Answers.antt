use Rattle.std.proofs.Common.{List, ap}
use Rattle.cedar_types.specs.Names.{Path}
use Rattle.cedar_types.specs.Extensions.{functions_of, overloaded_types_of}
use Rattle.cedar_types.specs.Schemas.Contents.{schema_of}
use Rattle.cedar_typing.specs.Views.Checks.{schema_by, extensions_by, mode_by}
use Rattle.cedar_typing.specs.Views.ExpressionChecks.{setting_by}
use Rattle.cedar_typing.specs.Setting.{Setting}
use Rattle.cedar_typing.proofs.typecheck.typechecker.Typechecker.in_environment.Goals as goal

-- the setting with these comparable extension types
abbrev comparing : Setting → List Path → Setting
comparing s ps = record s { env = record (s.env) { overloaded_types = ps } }

pub returns : goal.returns
unfolding schema_of functions_of overloaded_types_of schema_by extensions_by mode_by
returns g c =
    let x : Setting = setting_by g.C.ArgumentCheck.refusal c.args.self.now c.args.policy_id.now c.args.request_env.now in
    ap (comparing x) c.overloaded_types.ensures
