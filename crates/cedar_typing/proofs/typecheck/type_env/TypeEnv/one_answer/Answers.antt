use Rattle.std.proofs.Common.{◌≡◌, [], ◌∷◌, ◌∙◌, sym, ap, option_map}
use Rattle.cedar_types.specs.Types.{ty_of}
use Rattle.cedar_types.specs.Expressions.View.{written}
use Rattle.cedar_types.specs.Capability.{caps, expr_in}
use Rattle.cedar_typing.specs.Capabilities.Priors.{known_in}
use Rattle.cedar_typing.specs.Eager.{gives, refuses}
use Rattle.cedar_typing.specs.Infer.Eager.{infer_decided, infer_of_one}
use Rattle.cedar_typing.specs.Infer.Parts.{failure, answer_if}
use Rattle.cedar_typing.specs.TypedExpr.{annotation, typed_tree}
use Rattle.cedar_typing.specs.Views.{env_at, answer_of, findings, decision_of, form_of_one, mark_of_one, part_of}
use Rattle.cedar_typing.proofs.Rules.TypesGiven.{given_is, one_keeps}
use Rattle.cedar_typing.proofs.Views.Typed.{annotation_is}
use Rattle.cedar_typing.proofs.typecheck.type_env.TypeEnv.one_answer.Goals as goal

pub returns-in-Gives-clause-typed : goal.returns-in-Gives-clause-typed
returns-in-Gives-clause-typed c =
    let env = env_at c.args.self.now in
    let prior = known_in c.args.prior.now in
    let e = written (expr_in c.args.base.now) in
    let f = form_of_one env (mark_of_one c.args.loc c.args.form) prior e c.args.form in
    let x = typed_tree c.in-Some.part.typed.value in
    let es = findings c.args.errors.now.items in
    let d : f.decides (annotation x ∷ []) ≡ gives (ty_of c.in-Gives.ty) (caps c.in-Gives.capabilities) =
    ap (λ a. f.decides (a ∷ [])) (annotation_is c.in-Some.part.typed.value)
    ∙ (λ i. f.decides (option_map ty_of (sym c.deref.ensures i).annotation ∷ [])) ∙ sym c.in_ok-ty.ensures.decides ∙ ap decision_of c.in-Gives.is in
    ap (λ p. infer_of_one f (option_map part_of p) es) c.in-Some.is
    ∙ ap (infer_decided f c.in-Some.part.succeeded (x ∷ []) es) d
    ∙ given_is f (one_keeps env (mark_of_one c.args.loc c.args.form) prior e c.args.form) c.in-Some.part.succeeded (x ∷ []) es _ _
    ∙ (λ i. (answer_if c.in-Some.part.succeeded (sym (c.in_ok-typed-in-Gives.ensures env prior e) i) (caps c.in-Gives.capabilities), es))
    ∙ ap (λ a. (a, es)) (sym c.with_capabilities.ensures)

pub returns-clause-typed : goal.returns-clause-typed
returns-clause-typed c =
    let env = env_at c.args.self.now in
    let prior = known_in c.args.prior.now in
    let e = written (expr_in c.args.base.now) in
    let f = form_of_one env (mark_of_one c.args.loc c.args.form) prior e c.args.form in
    let x = typed_tree c.in-Some.part.typed.value in
    let d : f.decides (annotation x ∷ []) ≡ refuses (option_map ty_of c.in-Refuses.ty) (findings c.in-Refuses.found.items) =
    ap (λ a. f.decides (a ∷ [])) (annotation_is c.in-Some.part.typed.value)
    ∙ (λ i. f.decides (option_map ty_of (sym c.deref.ensures i).annotation ∷ [])) ∙ sym c.in_ok-ty.ensures.decides
    ∙ ap decision_of c.in-Refuses.is in
    let es = findings c.args.errors.now.items in
    ap (λ p. infer_of_one f (option_map part_of p) es) c.in-Some.is
    ∙ ap (infer_decided f c.in-Some.part.succeeded (x ∷ []) es) d
    ∙ (λ i. (failure (sym (c.in_ok-typed-in-Refuses.ensures env prior e) i), sym c.in_ok-add_errors-in-Refuses.ensures i))
    ∙ ap (λ a. (answer_of a, findings c.add_errors.new.errors.items)) (sym c.fail.ensures)
