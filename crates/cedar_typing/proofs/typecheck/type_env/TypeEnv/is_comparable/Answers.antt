use Rattle.std.proofs.Common.{◌≡◌, ◌∙◌, ap, sym, Some, None, option_map}
use Rattle.cedar_types.specs.Names.{path_of}
use Rattle.cedar_types.specs.Types.{ty_of}
use Rattle.cedar_typing.specs.Views.{env_at, extension_named}
use Rattle.cedar_typing.proofs.Rules.Numbers.{comparable_if}
use Rattle.cedar_typing.proofs.typecheck.type_env.TypeEnv.is_comparable.Goals as goal

pub returns-in-Some : goal.returns-in-Some
returns-in-Some c =
    let env = env_at c.args.self.now in
    let named : Some (path_of c.in-Some.name.now) ≡ extension_named (ty_of c.args.ty.now) =
    sym (ap (option_map (λ n. path_of n.now)) c.in-Some.is) ∙ c.extension_name.ensures in
    c.is_overloaded.ensures ∙ comparable_if env.overloaded_types (ty_of c.args.ty.now) _ named

pub returns-in-None : goal.returns-in-None
returns-in-None c =
    let env = env_at c.args.self.now in
    let named : None ≡ extension_named (ty_of c.args.ty.now) =
    sym (ap (option_map (λ n. path_of n.now)) c.in-None.is) ∙ c.extension_name.ensures in
    c.is_long.ensures ∙ comparable_if env.overloaded_types (ty_of c.args.ty.now) None named
