use Rattle.std.proofs.Common.{ap, ◌∙◌}
use Rattle.std.specs.Prelude.{if◌then◌else◌}
use Rattle.cedar_typing.specs.Infer.Eager.{all_typed, cut_after, infer_form}
use Rattle.cedar_typing.specs.Rules.Records.{record_form}
use Rattle.cedar_typing.specs.Views.{at, env_at, keys_in, trees_in}
use Rattle.cedar_typing.proofs.typecheck.type_env.TypeEnv.record_answer.Goals as goal

pub returns : goal.returns
returns c es =
    let values = c.args.values in
    let xs = trees_in values.typed.entries in
    ap (λ b. infer_form (record_form (env_at c.args.self.now) (at c.args.loc) (keys_in values.typed.entries))
    (if b then cut_after xs else all_typed values.succeeded xs) es) c.if-values.false
    ∙ c.in_ok-answer.ensures (env_at c.args.self.now) es
