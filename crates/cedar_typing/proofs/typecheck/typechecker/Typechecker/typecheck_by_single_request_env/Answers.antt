use Rattle.std.proofs.Common.{sym, subst}
use Rattle.cedar_types.proofs.Expressions.SortedTables.{no_fault}
use Rattle.cedar_types.specs.Extensions.{functions_of}
use Rattle.cedar_types.specs.Schemas.Contents.{schema_of}
use Rattle.cedar_types.specs.Expressions.View.{written}
use Rattle.cedar_types.specs.Templates.{template_of, condition_of, with_rest}
use Rattle.cedar_typing.specs.Views.Checks.{verdict_of, schema_by, extensions_by, setting_for}
use Rattle.cedar_typing.specs.PolicyCheck.{Verdict, PolicyChecks}
use Rattle.cedar_typing.specs.Setting.{Setting}
use Rattle.cedar_typing.specs.TypedExpr.{Source}
use Rattle.cedar_typing.proofs.Modes.{formed_for}
use Rattle.cedar_typing.proofs.Policies.Check.{checked}
use Rattle.cedar_typing.proofs.Soundness.PolicyCheck.{check_sound}
use Rattle.cedar_typing.proofs.TypedCopies.Laws.{checks_mean_the_same}
use Rattle.cedar_typing.proofs.typecheck.typechecker.Typechecker.typecheck_by_single_request_env.Goals as goal

pub returns : goal.returns
unfolding schema_of functions_of schema_by extensions_by
returns g c =
    let x : Setting = setting_for g.C.ArgumentCheck.refusal c.args.self.now c.args.t.now c.args.env.now in
    let t = template_of c.args.t.now in
    let e = with_rest t.place (written c.in_ok-scope.scope) t.rest in
    let P : Verdict → Type 0 = λ v. PolicyChecks x e v in
    let Q : Source → Type 0 = λ s. PolicyChecks x (with_rest t.place s t.rest) (verdict_of c.in_ok-check.check) in
    let checks = subst Q c.in_ok-scope.ensures (subst P (sym c.in_ok-check.ensures) (checked x e)) in
    let v = verdict_of c.in_ok-check.check in
    let schema = c.args.self.now.schema.now in
    let formed = formed_for x.env.mode x.env.schema schema.formed in
    let table = no_fault g.C.ArgumentCheck.refusal c.args.self.now.extensions.now.functions.items
    c.args.self.now.extensions.now.faultless in
    record {
      exact = checks;
      sound = check_sound x (condition_of t) v schema.faultless formed table checks;
      same = checks_mean_the_same x (condition_of t) v schema.faultless formed table checks;
    }
