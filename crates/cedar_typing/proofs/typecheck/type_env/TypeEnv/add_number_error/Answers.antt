use Rattle.std.proofs.Common.{◌∙◌, ap, sym, true, false, [], ◌∷◌, ◌++◌, append-nil}
use Rattle.std.proofs.lemmas.List.{map-append}
use Rattle.cedar_types.specs.Errors.{finding_of, wrong_number_arguments}
use Rattle.cedar_typing.specs.Views.Calls.{added_at}
use Rattle.cedar_typing.specs.TypeEnv.{finding}
use Rattle.cedar_typing.specs.Views.{env_at, findings}
use Rattle.cedar_typing.proofs.Rules.CallErrors.{number_added}
use Rattle.cedar_typing.proofs.typecheck.type_env.TypeEnv.add_number_error.Goals as goal

pub returns-then-takes : goal.returns-then-takes
returns-then-takes g c meaning xs count =
    let env = env_at c.args.self.now in
    let l = c.args.loc in
    let es = findings c.args.errors.now.items in
    let none = number_added env l meaning c.args.function.now xs c.args.count true count (c.if-takes.ensures meaning) in
    sym (append-nil es) ∙ ap (λ fs. es ++ added_at env l fs) (sym none)

pub returns : goal.returns
returns g c meaning xs count =
    let env = env_at c.args.self.now in
    let l = c.args.loc in
    let es = c.args.errors.now.items in
    let e = c.in_ok-number_error.field-0 in
    let one = number_added env l meaning c.args.function.now xs c.args.count false count (c.if-takes.ensures meaning) in
    ap findings c.in_ok-push.ensures.items
    ∙ map-append finding_of es (e ∷ [])
    ∙ ap (λ f. findings es ++ f ∷ []) c.in_ok-number_error.ensures
    ∙ ap (λ n. findings es ++ finding env l (wrong_number_arguments n c.args.count) ∷ [])
    (c.len.ensures ∙ c.args.function.now.argument_types.ok.0)
    ∙ ap (λ fs. findings es ++ added_at env l fs) (sym one)
