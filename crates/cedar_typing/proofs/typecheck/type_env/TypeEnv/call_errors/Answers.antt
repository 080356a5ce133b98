use Rattle.std.proofs.Common.{◌≡◌, ◌∙◌, refl, ap, sym, map, Option, Some, None, is_some, option_map}
use Rattle.std.proofs.lemmas.List.{length-map}
use Rattle.cedar_types.specs.Extensions.Functions.{function_of}
use Rattle.cedar_types.specs.Expressions.View.{written}
use Rattle.cedar_typing.specs.Rules.Calls.{number_faults, check_faults, literal_faults}
use Rattle.cedar_typing.specs.Views.{env_at, findings}
use Rattle.cedar_typing.proofs.Rules.CallErrors.{three_added}
use Rattle.cedar_typing.proofs.typecheck.type_env.TypeEnv.call_errors.Goals as goal

some_mapped : {A B : Type 0} (f : A → B) (o : Option A) → is_some (option_map f o) ≡ is_some o
some_mapped f None = refl
some_mapped f (Some x) = refl

pub returns : goal.returns
returns g c n =
    let env = env_at c.args.self.now in
    let f = function_of g.C.ArgumentCheck.refusal c.args.function.now in
    let xs = map written c.args.arguments.now in
    three_added env c.args.loc (number_faults f xs) (check_faults f.check xs) (literal_faults env.mode f.check xs) _ _ _ _
    (ap findings c.new-errors.ensures.items)
    (c.in_ok-add_number_error.ensures g.C.ArgumentCheck.refusal xs (length-map c.args.arguments.now written))
    c.in_ok-add_refusal.ensures
    (c.in_ok-add_literal_error.ensures f.check
    (some_mapped g.C.ArgumentCheck.refusal c.args.function.now.check_arguments ∙ sym c.is_some.ensures))
