use Rattle.std.proofs.Common.{◌≡◌, ◌∙◌, ap, sym, map, Some, None, option_map}
use Rattle.cedar_types.specs.Extensions.Functions.{function_of, function_named}
use Rattle.cedar_types.specs.Names.{path_of}
use Rattle.cedar_types.specs.Expressions.View.{written}
use Rattle.cedar_typing.specs.Rules.Calls.{call_errors, return_type, types_wanted}
use Rattle.cedar_typing.specs.Views.Settings.{setting_at}
use Rattle.cedar_typing.specs.Views.{findings}
use Rattle.cedar_typing.proofs.typecheck.single_env.SingleEnvTypechecker.call_of.Goals as goal

pub returns-in_default : goal.returns-in_default
returns-in_default g c =
    let m = g.C.ArgumentCheck.refusal in
    let s = setting_at m c.args.self.now in
    let n = path_of c.args.name.now in
    let xs = map written c.args.arguments.now in
    let none : None ≡ function_named n s.functions =
    sym (ap (option_map (λ f. function_of m f.now)) c.in_default.is) ∙ c.func_type.ensures m in
    record {
      returns = ap return_type none;
      wanted = ap (λ f. types_wanted f (call_errors s.env c.args.loc f n xs)) none;
      errors = c.in_ok-errors.ensures xs ∙ ap (λ f. call_errors s.env c.args.loc f n xs) none;
    }

pub returns : goal.returns
returns g c =
    let m = g.C.ArgumentCheck.refusal in
    let s = setting_at m c.args.self.now in
    let n = path_of c.args.name.now in
    let xs = map written c.args.arguments.now in
    let f = Some (function_of m c.in-Some.function.now) in
    let found : f ≡ function_named n s.functions =
    sym (ap (option_map (λ f. function_of m f.now)) c.in-Some.is) ∙ c.func_type.ensures m in
    record {
      returns = ap return_type found;
      wanted = c.types_wanted-argument_types.ensures m
          ∙ ap (λ es. types_wanted f (findings es)) c.deref.ensures.value
          ∙ ap (types_wanted f) (c.in_ok-errors-2.ensures n)
          ∙ ap (λ f. types_wanted f (call_errors s.env c.args.loc f n xs)) found;
      errors = c.in_ok-errors-2.ensures n ∙ ap (λ f. call_errors s.env c.args.loc f n xs) found;
    }
