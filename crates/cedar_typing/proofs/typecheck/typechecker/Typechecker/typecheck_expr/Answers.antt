use Rattle.std.proofs.Common.{◌≡◌, [], sym, ◌∙◌}
use Rattle.cedar_types.proofs.Expressions.SortedTables.{no_fault}
use Rattle.cedar_types.specs.Capability.{caps}
use Rattle.cedar_types.specs.Expressions.View.{written}
use Rattle.cedar_types.specs.Extensions.{functions_of}
use Rattle.cedar_types.specs.Schemas.Contents.{schema_of}
use Rattle.cedar_typing.specs.Infer.{infer}
use Rattle.cedar_typing.specs.Setting.{Setting}
use Rattle.cedar_typing.specs.Views.Checks.{schema_by, extensions_by}
use Rattle.cedar_typing.specs.Views.ExpressionChecks.{setting_by}
use Rattle.cedar_typing.specs.Views.{answer_of, findings}
use Rattle.cedar_typing.proofs.Modes.{formed_for}
use Rattle.cedar_typing.proofs.Policies.Expressions.{expression_checked, answer_sound}
use Rattle.cedar_typing.proofs.typecheck.typechecker.Typechecker.typecheck_expr.Goals as goal

pub returns : goal.returns
unfolding schema_of functions_of schema_by extensions_by
returns g c =
    let s : Setting = setting_by g.C.ArgumentCheck.refusal c.args.self.now c.args.policy_id.now c.args.env.now in
    let e = written c.args.e.now in
    let prior = caps c.args.prior.now in
    let a = answer_of c.in_ok-answer.answer in
    let es = findings c.typecheck.new.errors.items in
    let is : infer s e prior 1 [] ≡ (a, es) =
    (λ i. infer (sym c.in_ok-checker.ensures i) e (sym c.of-known.ensures i) 1
    (findings (sym c.new-errors.ensures.items i))) ∙ c.in_ok-answer.ensures in
    let checks = expression_checked s e prior (a, es) is in
    let schema = c.args.self.now.schema.now in
    let table = no_fault g.C.ArgumentCheck.refusal c.args.self.now.extensions.now.functions.items
    c.args.self.now.extensions.now.faultless in
    record {
      exact = checks;
      sound =
          answer_sound s e prior schema.faultless (formed_for s.env.mode s.env.schema schema.formed) table a es checks;
    }
