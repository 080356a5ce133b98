-- The law on environments whose action the scope does not admit.
use Rattle.std.proofs.Common.{◌≡◌, Bool, true, false, ◌&&◌, ◌||◌, not, if◌then◌else◌, List, [], Option, Some, true≢false, refl, sym, ◌∙◌, ap, subst}
use Rattle.cedar_types.specs.declared.base.expressions.operators.Var.{Var}
use Rattle.cedar_types.specs.declared.base.location.Loc.{Loc}
use Rattle.cedar_types.specs.declared.base.names.slots.SlotId.{SlotId}
use Rattle.cedar_types.specs.declared.base.types.BoolType.{BoolType}
use Rattle.cedar_types.specs.declared.base.types.BoolType.TheVariants.{AnyBool, False, True}
use Rattle.cedar_types.specs.Environments.{DeclaredEnv}
use Rattle.cedar_types.specs.Environments.Representatives.{admits}
use Rattle.cedar_types.specs.Environments.RequestEnvs.{Declared, Undeclared}
use Rattle.cedar_types.specs.Errors.{Finding}
use Rattle.cedar_types.specs.Expressions.Tree.{and}
use Rattle.cedar_types.specs.Lemmas.Comparisons.{and_right}
use Rattle.cedar_types.specs.Names.{Path, Uid}
use Rattle.cedar_types.specs.Schemas.{DeclaredAction, declares_action}
use Rattle.cedar_types.specs.Templates.{ActionScope, any_action, PlainTemplate, made, scope_at, action_scope_at}
use Rattle.cedar_types.specs.Types.{TBool}
use Rattle.cedar_typing.specs.Capabilities.{Caps, no_caps, union}
use Rattle.cedar_typing.specs.Composition.{in_env}
use Rattle.cedar_typing.specs.Infer.{infer}
use Rattle.cedar_typing.specs.Infer.Parts.{Part, AnswerAndErrors, answer_if, expect, after}
use Rattle.cedar_typing.specs.Infer.ShortCircuit.{infer_sides, infer_right}
use Rattle.cedar_typing.specs.PolicyCheck.{irrelevant, out_verdict, verdict_if, policy_check}
use Rattle.cedar_typing.specs.Representatives.{first_tests, names_alike, tests_variables}
use Rattle.cedar_typing.specs.Rules.Membership.{is_action}
use Rattle.cedar_typing.specs.Rules.ShortCircuit.{conjunction, sides_caps}
use Rattle.cedar_typing.specs.Setting.{Setting}
use Rattle.cedar_typing.specs.TypeTests.{bool_types, is_false, annotation_passes}
use Rattle.cedar_typing.specs.TypedExpr.{Source, TypedTree, typed, annotation, at_place, place_of}
use Rattle.cedar_typing.proofs.Representatives.ActionTests.{action_false}
use Rattle.cedar_typing.proofs.Representatives.Decide.{right_ends}
use Rattle.cedar_typing.proofs.Representatives.Laws as law
use Rattle.cedar_typing.proofs.Representatives.PrincipalTests.{goes_on, both_sides}
use Rattle.cedar_typing.proofs.Views.Marks.{annotation-at_place}
use Rattle.cedar_typechecker.specs.LeftOut.{lists_actions, LeftOutIsQuiet}
use Rattle.cedar_typechecker.specs.Surveys.{surroundings_at}
use Rattle.cedar_typechecker.proofs.LeftOut.ActionTests.{action_adds}
use Rattle.cedar_typechecker.proofs.LeftOut.Asked.{AddsIf, and_adds}
use Rattle.cedar_typechecker.proofs.LeftOut.Declared.{checked_are_declared, checked_have_links, equal_is_linked, IsOfDeclared, HasItsLinks}
use Rattle.cedar_typechecker.proofs.LeftOut.PrincipalTests.{IsTest, part_of, part_tree, expected, principal_test}

-- a scope that does not admit some action tests the action
some_action : (acts : List DeclaredAction) (a : ActionScope) (u : Uid) → admits acts a u ≡ false → a ≡ any_action → ⊥
some_action acts a u h e = true≢false (sym (ap (λ c. admits acts c u) e) ∙ h)

-- an answer that is False without an error is irrelevant
silent_false : (s : Setting) (l : Option Loc) (b : Bool) (x : TypedTree) (c : Caps) → annotation x ≡ Some (TBool False)
    → out_verdict (expect s.env bool_types l (answer_if b x c, [])) ≡ irrelevant [] x
silent_false s l true x c e =
    ap out_verdict (expected s.env l true x c False e)
    ∙ ap (λ o. if annotation_passes is_false o then irrelevant [] x else verdict_if true x []) e
silent_false s l false x c e =
    ap out_verdict (expected s.env l false x c False e)
    ∙ ap (λ o. if annotation_passes is_false o then irrelevant [] x else verdict_if false x []) e

or_none : (a : Bool) → (a || false) ≡ a
or_none true = refl
or_none false = refl

-- a typed copy that the first tests have, without an error, and its demands
record IsCopy (s : Setting) (t : PlainTemplate) (b : Bool) : Type 0 where
  copy : TypedTree
  check : policy_check s (first_tests t) ≡ irrelevant [] copy
  demanded : AddsIf t.place b copy

module _ (s : Setting) (t : PlainTemplate) (d : DeclaredEnv) (ps rs : Option Path) (kind : is_action d.action ≡ true)
    (declared : declares_action s.env.schema.actions d.action ≡ true) (out : admits s.env.schema.actions t.action d.action ≡ false)
    (alike : names_alike s.env.schema.actions t.action ≡ true) where
  abbrev here : Setting
  here = in_env s (Declared d ps rs)

  abbrev l : Option Loc
  l = t.place

  abbrev right : Caps → List Finding → AnswerAndErrors
  right = λ known es. infer here (action_scope_at l t.action) known 2 es

  abbrev place : Option Loc
  place = place_of (action_scope_at l t.action)

  abbrev own : Source
  own = scope_at l Var.Principal SlotId.Principal t.principal

  abbrev both : AnswerAndErrors → AnswerAndErrors
  both o = after (expect here.env bool_types (place_of own) o) (λ p es. infer_right here.env conjunction (made l) place no_caps p es right)

  module _ (visits : Bool → Bool) (p : IsTest l (infer here own no_caps 2 []) visits) where
    abbrev part : Part
    part = part_of p.succeeded p.tree p.caps

    same : part.tree ≡ p.tree
    same = part_tree p.succeeded p.tree p.caps

    kind_of : annotation part.tree ≡ Some (TBool p.kind)
    kind_of = ap annotation same ∙ p.kind_of

    goes_to : both (infer here own no_caps 2 []) ≡ infer_right here.env conjunction (made l) place no_caps part [] right
    goes_to =
        ap both p.is
        ∙ ap (λ z. after z (λ q es. infer_right here.env conjunction (made l) place no_caps q es right))
        (expected here.env (place_of own) p.succeeded p.tree p.caps p.kind p.kind_of)

    by_visits : (b : Bool) (x : TypedTree) → AddsIf l b x → b ≡ (p.own || (not (is_false (TBool p.kind)) && lists_actions t.action))
        → AddsIf l (visits (lists_actions t.action)) x
    by_visits b x h e = subst (λ c. AddsIf l c x) (e ∙ p.visited (lists_actions t.action)) h

    -- the principal's test is False, and is the whole copy
    first_alone : p.kind ≡ False → IsCopy here t (visits (lists_actions t.action))
    first_alone e =
        let x = at_place l part.tree in
        let mark : annotation_passes is_false (annotation part.tree) ≡ true =
        ap (annotation_passes is_false) (kind_of ∙ ap (λ k. Some (TBool k)) e) in
        let false_there : annotation x ≡ Some (TBool False) = annotation-at_place l part.tree ∙ kind_of ∙ ap (λ k. Some (TBool k)) e in
        record {
          copy = x;
          check =
              ap (λ o. out_verdict (expect here.env bool_types l o)) (goes_to ∙ right_ends here.env (made l) place no_caps part [] right mark)
              ∙ silent_false here l part.succeeded x no_caps false_there;
          demanded =
              by_visits p.own x (subst (λ y. AddsIf l p.own (at_place l y)) (sym same) p.demanded_there)
              (sym (or_none p.own) ∙ ap (λ k. p.own || (not (is_false (TBool k)) && lists_actions t.action)) (sym e));
        }

    -- both tests are typed, and the action's is False
    both_typed : annotation_passes is_false (annotation part.tree) ≡ false → not (is_false (TBool p.kind)) ≡ true
        → IsCopy here t (visits (lists_actions t.action))
    both_typed unended not_false =
        let known = union no_caps part.capabilities in
        let a = action_false s d ps rs l kind declared t.action out alike known [] in
        let q = part_of a.succeeded a.tree a.caps in
        let same_right = part_tree a.succeeded a.tree a.caps in
        let of_right : expect here.env bool_types place (right known []) ≡ (Some q, []) =
        ap (expect here.env bool_types place) a.is ∙ expected here.env place a.succeeded a.tree a.caps False a.typed_false in
        let false_right : annotation q.tree ≡ Some (TBool False) = ap annotation same_right ∙ a.typed_false in
        let x : TypedTree = and (typed (TBool False) (made l)) part.tree q.tree in
        let check : policy_check here (first_tests t) ≡ irrelevant [] x =
        ap (λ o. out_verdict (expect here.env bool_types l o))
        (goes_to
        ∙ goes_on here.env (made l) place no_caps part [] right unended
        ∙ ap (λ z. after z (λ w es. (infer_sides conjunction (made l) part w (annotation part.tree) (annotation w.tree), es))) of_right
        ∙ ap (λ o. (o, [])) (both_sides here.env (made l) place no_caps part [] right q p.kind False kind_of false_right))
        ∙ silent_false here l (part.succeeded && q.succeeded) x
        (sides_caps conjunction (TBool p.kind) (TBool False) part.capabilities q.capabilities) refl in
        let tests = law.test_variables here t x (law.by_function here (first_tests t) x check) in
        let of_action : AddsIf l (lists_actions t.action) a.tree =
        action_adds here l t.action known [] [] a.tree a.succeeded a.caps a.is (some_action s.env.schema.actions t.action d.action out)
        (ap tests_variables (sym same_right) ∙ and_right (tests_variables part.tree) (tests_variables q.tree) tests) in
        record {
          copy = x;
          check = check;
          demanded =
              by_visits (p.own || lists_actions t.action) x
              (and_adds l p.own (lists_actions t.action) (typed (TBool False) (made l)) part.tree q.tree
              (subst (AddsIf l p.own) (sym same) p.demanded)
              (subst (AddsIf l (lists_actions t.action)) (sym same_right) of_action))
              (ap (λ b. p.own || (b && lists_actions t.action)) (sym not_false));
        }

    by_kind : (k : BoolType) → p.kind ≡ k → IsCopy here t (visits (lists_actions t.action))
    by_kind False e = first_alone e
    by_kind AnyBool e =
        both_typed (ap (annotation_passes is_false) (kind_of ∙ ap (λ k. Some (TBool k)) e)) (ap (λ k. not (is_false (TBool k))) e)
    by_kind True e =
        both_typed (ap (annotation_passes is_false) (kind_of ∙ ap (λ k. Some (TBool k)) e)) (ap (λ k. not (is_false (TBool k))) e)

pub left_out_is_quiet : LeftOutIsQuiet
left_out_is_quiet s t faultless alike Undeclared i out = absurd out
left_out_is_quiet s t faultless alike (Declared d ps rs) i out =
    let e = Declared d ps rs in
    let declared : IsOfDeclared s.env.schema e = checked_are_declared s.env.schema t faultless s.env.mode e i in
    let links : HasItsLinks s.env.schema t e = checked_have_links s.env.schema t s.env.mode e i in
    let p = principal_test s d ps rs t.place t.principal (equal_is_linked s.env.schema t d ps rs links) in
    let c = by_kind s t d ps rs declared.0 out.0 out.1 alike _ p p.kind refl in
    record {
      copy = c.copy;
      verdict = law.decide (in_env s e) t c.copy (law.by_function (in_env s e) (first_tests t) c.copy c.check);
      demanded = c.demanded (surroundings_at s.env.schema e) [];
    }
