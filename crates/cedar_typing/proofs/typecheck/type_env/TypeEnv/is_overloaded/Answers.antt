use Rattle.std.proofs.Common.{◌∙◌}
use Rattle.cedar_types.proofs.Names.Paths.{names_cmp}
use Rattle.cedar_types.specs.Names.{path_of}
use Rattle.cedar_typing.proofs.Rules.Numbers.{overloaded}
use Rattle.cedar_typing.proofs.typecheck.type_env.TypeEnv.is_overloaded.Goals as goal

pub returns : goal.returns
returns c =
    c.contains.ensures
    ∙ overloaded _ (path_of c.args.name.now) (λ k. names_cmp c.args.name.now k) c.args.self.now.overloaded_types.now.keys
