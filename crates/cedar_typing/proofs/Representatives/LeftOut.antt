-- If the scope does not admit the action, and the schema alone decides that, then the first tests are irrelevant, and add no
-- error to those of the principal's test.
use Rattle.std.proofs.Common.{◌≡◌, true, false, ◌&&◌, List, [], Option, Some, refl, sym, ◌∙◌, ap}
use Rattle.cedar_types.specs.declared.base.expressions.operators.Var.{Var}
use Rattle.cedar_types.specs.declared.base.location.Loc.{Loc}
use Rattle.cedar_types.specs.declared.base.names.slots.SlotId.{SlotId}
use Rattle.cedar_types.specs.declared.base.types.BoolType.{BoolType}
use Rattle.cedar_types.specs.declared.base.types.BoolType.TheVariants.{AnyBool, False, True}
use Rattle.cedar_types.specs.Environments.Representatives.{IsLeftOut}
use Rattle.cedar_types.specs.Environments.RequestEnvs.{Env, Declared, Undeclared}
use Rattle.cedar_types.specs.Errors.{Finding}
use Rattle.cedar_types.specs.Expressions.Tree.{and}
use Rattle.cedar_types.specs.Expressions.View.{Written}
use Rattle.cedar_types.specs.Templates.{PlainTemplate, made, scope_at}
use Rattle.cedar_types.specs.Templates.{action_scope_at, condition_of}
use Rattle.cedar_types.specs.Types.{TBool}
use Rattle.cedar_typing.specs.Capabilities.{Caps, no_caps, union}
use Rattle.cedar_typing.specs.Composition.{in_env}
use Rattle.cedar_typing.specs.Infer.{infer}
use Rattle.cedar_typing.specs.Infer.Parts.{Part, AnswerAndErrors, expect, after}
use Rattle.cedar_typing.specs.Infer.ShortCircuit.{infer_sides, infer_right}
use Rattle.cedar_typing.specs.PolicyCheck.{irrelevant, out_verdict, policy_check}
use Rattle.cedar_typing.specs.Representatives.{first_tests, names_alike, IsOfAction}
use Rattle.cedar_typing.specs.Rules.ShortCircuit.{conjunction}
use Rattle.cedar_typing.specs.Setting.{Setting}
use Rattle.cedar_typing.specs.TypeEnv.{TypeEnv}
use Rattle.cedar_typing.specs.TypeTests.{bool_types, is_false, annotation_passes}
use Rattle.cedar_typing.specs.TypedExpr.{TypedTree, typed, annotation, at_place, place_of}
use Rattle.cedar_typing.proofs.Representatives.Decide.{right_ends, first_tests_decide}
use Rattle.cedar_typing.proofs.Views.Marks.{annotation-at_place}
use Rattle.cedar_typing.proofs.Representatives.Booleans.{bool_part}
use Rattle.cedar_typing.proofs.Representatives.PrincipalTests.{goes_on, both_sides, principal_bool}
use Rattle.cedar_typing.proofs.Representatives.ActionTests.{IsFalse, false_part, false_verdict, action_false}

-- a left side that is not False, beside a right side that is
not_false_beside : (env : TypeEnv) (m : Written) (l : Option Loc) (prior : Caps) (p : Part) (es : List Finding)
    (right : Caps → List Finding → AnswerAndErrors) (j : BoolType) → annotation p.tree ≡ Some (TBool j) → annotation_passes is_false (annotation p.tree) ≡ false
    → ((known : Caps) → IsFalse (right known es) es) → IsFalse (infer_right env conjunction m l prior p es right) es
not_false_beside env m l prior p es right j e h is_right =
    let known = union prior p.capabilities in
    let q = false_part env l (right known es) es (is_right known) in
    record {
      succeeded = p.succeeded && q.part.succeeded;
      tree = and (typed (TBool False) m) p.tree q.part.tree;
      caps = no_caps;
      is =
          goes_on env m l prior p es right h
          ∙ ap (λ z. after z (λ b es'. (infer_sides conjunction m p b (annotation p.tree) (annotation b.tree), es'))) q.is
          ∙ ap (λ a. (a, es)) (both_sides env m l prior p es right q.part j False e q.typed_false);
      typed_false = refl;
    }

false_beside : (env : TypeEnv) (m : Written) (l : Option Loc) (prior : Caps) (p : Part) (es : List Finding)
    (right : Caps → List Finding → AnswerAndErrors) (j : BoolType) → annotation p.tree ≡ Some (TBool j)
    → ((known : Caps) → IsFalse (right known es) es) → IsFalse (infer_right env conjunction m l prior p es right) es
false_beside env m l prior p es right False e is_right = record {
  succeeded = p.succeeded;
  tree = at_place m.place p.tree;
  caps = no_caps;
  is = right_ends env m l prior p es right (ap (annotation_passes is_false) e);
  typed_false = annotation-at_place m.place p.tree ∙ e;
}
false_beside env m l prior p es right AnyBool e is_right =
    not_false_beside env m l prior p es right AnyBool e (ap (annotation_passes is_false) e) is_right
false_beside env m l prior p es right True e is_right =
    not_false_beside env m l prior p es right True e (ap (annotation_passes is_false) e) is_right

pub first_tests_irrelevant : (s : Setting) (t : PlainTemplate) (e : Env) → IsOfAction e → IsLeftOut s.env.schema t e
    → names_alike s.env.schema.actions t.action ≡ true
    → (es : List Finding) × (x : TypedTree) × (policy_check (in_env s e) (first_tests t) ≡ irrelevant es x)
first_tests_irrelevant s t Undeclared k h n = absurd k
first_tests_irrelevant s t (Declared d ps rs) k h n =
    let here = in_env s (Declared d ps rs) in
    let l = t.place in
    let test = scope_at l Var.Principal SlotId.Principal t.principal in
    let right : Caps → List Finding → AnswerAndErrors = λ known es'. infer here (action_scope_at l t.action) known 2 es' in
    let a = infer here test no_caps 2 [] in
    let p = bool_part here.env (place_of test) a.0 a.1 (principal_bool s d ps rs l t.principal no_caps []) in
    let place = place_of (action_scope_at l t.action) in
    let tests : infer here (first_tests t) no_caps 1 [] ≡ infer_right here.env conjunction (made l) place no_caps p.part p.errors right =
    ap (λ z. after z (λ q es'. infer_right here.env conjunction (made l) place no_caps q es' right)) p.is in
    let both = false_beside here.env (made l) place no_caps p.part p.errors right p.kind p.kind_of
    (λ known. action_false s d ps rs l k h.0 t.action h.1 n known p.errors) in
    let part = false_part here.env l _ p.errors both in
    (p.errors, part.part.tree, ap (λ z. out_verdict (expect here.env bool_types l z)) tests ∙ false_verdict _ p.errors part)

-- the first tests are silent if the whole condition is
pub first_tests_quiet : (s : Setting) (t : PlainTemplate) (e : Env) → IsOfAction e → IsLeftOut s.env.schema t e
    → names_alike s.env.schema.actions t.action ≡ true → (x : TypedTree)
    → policy_check (in_env s e) (condition_of t) ≡ irrelevant [] x → policy_check (in_env s e) (first_tests t) ≡ irrelevant [] x
first_tests_quiet s t e k h n x whole =
    let first = first_tests_irrelevant s t e k h n in
    first.2 ∙ sym (first_tests_decide (in_env s e) t first.0 first.1 first.2) ∙ whole
