use Rattle.std.proofs.Common.{◌≡◌, ◌&&◌, [], ◌∷◌, ◌∙◌, Some, sym, ap, option_map}
use Rattle.cedar_types.specs.Types.{ty_of}
use Rattle.cedar_types.specs.Expressions.Tree.{binary}
use Rattle.cedar_types.specs.Expressions.View.{written}
use Rattle.cedar_types.specs.Capability.{caps}
use Rattle.cedar_typing.specs.Capabilities.Priors.{known_in}
use Rattle.cedar_typing.specs.Eager.{gives, refuses}
use Rattle.cedar_typing.specs.Infer.Eager.{infer_decided, type_given}
use Rattle.cedar_typing.specs.Infer.Parts.{failure, answer_if}
use Rattle.cedar_typing.specs.TypedExpr.{annotation, typed_as, typed_tree}
use Rattle.cedar_typing.specs.Views.{env_at, answer_of, findings, at, decision_of, form_of_two}
use Rattle.cedar_typing.proofs.Rules.TwoOperands.{form_at}
use Rattle.cedar_typing.proofs.Views.Typed.{annotation_is}
use Rattle.cedar_typing.proofs.typecheck.type_env.TypeEnv.two_parts_answer.Goals as goal

pub returns-in-Gives : goal.returns-in-Gives
returns-in-Gives c =
    let env = env_at c.args.self.now in
    let prior = known_in c.args.prior.now in
    let a = written c.args.operands.left.now in
    let b = written c.args.operands.right.now in
    let m = at c.args.loc in
    let f = form_of_two env m prior a b c.args.form in
    let x = typed_tree c.args.parts.0.typed.value in
    let y = typed_tree c.args.parts.1.typed.value in
    let es = findings c.args.errors.now.items in
    let succeeded = c.args.parts.1.succeeded && c.args.parts.0.succeeded in
    let t = ty_of c.in-Gives.ty in
    let d : f.decides (annotation x ∷ annotation y ∷ []) ≡ gives t (caps c.in-Gives.capabilities) =
    (λ i. f.decides (annotation_is c.args.parts.0.typed.value i ∷ annotation_is c.args.parts.1.typed.value i ∷ []))
    ∙ (λ i. f.decides (option_map ty_of (sym c.deref.ensures i).annotation
    ∷ option_map ty_of (sym c.deref-2.ensures i).annotation ∷ [])) ∙ sym c.in_ok-ty.ensures
    ∙ ap decision_of c.in-Gives.is in
    let u = type_given f succeeded t in
    let node : f.node (typed_as (Some u) f.at) (x ∷ y ∷ []) ≡ typed_tree c.in_ok-typed-in-Gives.typed.value =
    c.op.ensures env m prior a b (typed_as (Some u) f.at) x y
    ∙ ap (λ z. binary (typed_as (Some z) f.at) c.op.result x y) (sym (c.type_given-ty.ensures env m prior a b))
    ∙ ap (λ p. binary (typed_as (Some (ty_of c.type_given-ty.result)) p) c.op.result x y)
    (form_at env m prior a b c.args.form) ∙ sym c.in_ok-typed-in-Gives.ensures in
    ap (infer_decided f succeeded (x ∷ y ∷ []) es) d
    ∙ (λ i. (answer_if succeeded (node i) (caps c.in-Gives.capabilities), es))
    ∙ ap (λ z. (z, es)) (sym c.with_capabilities.ensures)

pub returns : goal.returns
returns c =
    let env = env_at c.args.self.now in
    let prior = known_in c.args.prior.now in
    let a = written c.args.operands.left.now in
    let b = written c.args.operands.right.now in
    let m = at c.args.loc in
    let f = form_of_two env m prior a b c.args.form in
    let x = typed_tree c.args.parts.0.typed.value in
    let y = typed_tree c.args.parts.1.typed.value in
    let es = findings c.args.errors.now.items in
    let succeeded = c.args.parts.1.succeeded && c.args.parts.0.succeeded in
    let t = option_map ty_of c.in-Refuses.ty in
    let d : f.decides (annotation x ∷ annotation y ∷ []) ≡ refuses t (findings c.in-Refuses.found.items) =
    (λ i. f.decides (annotation_is c.args.parts.0.typed.value i ∷ annotation_is c.args.parts.1.typed.value i ∷ []))
    ∙ (λ i. f.decides (option_map ty_of (sym c.deref.ensures i).annotation
    ∷ option_map ty_of (sym c.deref-2.ensures i).annotation ∷ [])) ∙ sym c.in_ok-ty.ensures
    ∙ ap decision_of c.in-Refuses.is in
    let node : f.node (typed_as t f.at) (x ∷ y ∷ []) ≡ typed_tree c.in_ok-typed-in-Refuses.typed.value =
    c.op-in-Refuses.ensures env m prior a b (typed_as t f.at) x y
    ∙ ap (λ p. binary (typed_as t p) c.op-in-Refuses.result x y) (form_at env m prior a b c.args.form)
    ∙ sym c.in_ok-typed-in-Refuses.ensures in
    ap (infer_decided f succeeded (x ∷ y ∷ []) es) d
    ∙ (λ i. (failure (node i), sym c.in_ok-add_errors-in-Refuses.ensures i))
    ∙ ap (λ z. (answer_of z, findings c.add_errors.new.errors.items)) (sym c.fail.ensures)
