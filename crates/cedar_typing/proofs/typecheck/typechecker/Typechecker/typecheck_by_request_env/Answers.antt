use Rattle.std.proofs.Common.{List, sym, subst}
use Rattle.std.specs.Prelude.{IsPermutation}
use Rattle.std.proofs.lemmas.List.Sorted.{IsPermutation-refl}
use Rattle.cedar_types.specs.Environments.Linking.{checked_envs}
use Rattle.cedar_types.specs.Environments.RequestEnvs.{Env}
use Rattle.cedar_types.specs.Schemas.Contents.{schema_of}
use Rattle.cedar_types.specs.Templates.{template_of}
use Rattle.cedar_typing.specs.Views.Checks.{schema_by, mode_by}
use Rattle.cedar_typing.specs.Views.EnvironmentChecks.{checks_left}
use Rattle.cedar_typing.proofs.typecheck.typechecker.Typechecker.typecheck_by_request_env.Goals as goal

pub returns-clause-left : goal.returns-clause-left
unfolding checks_left schema_by mode_by
returns-clause-left g c =
    let all : List Env = checked_envs (schema_of c.args.self.now.schema.now) c.args.self.now.mode (template_of c.args.t.now) in
    let P : List Env → Type 0 = λ es. IsPermutation es all in
    subst P (sym c.in_ok-linked.ensures.left) (IsPermutation-refl all)
