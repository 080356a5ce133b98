-- The scope's first tests are so flat that their answer does not depend on their depth in the
-- condition.
use Rattle.std.proofs.Common.{◌≡◌, ℕ, Bool, List, [], ◌∷◌, map, Option, refl}
use Rattle.cedar_types.specs.declared.base.expressions.operators.BinaryOp.{BinaryOp}
use Rattle.cedar_types.specs.declared.base.expressions.operators.Var.{Var}
use Rattle.cedar_types.specs.declared.base.location.Loc.{Loc}
use Rattle.cedar_types.specs.declared.base.names.slots.SlotId.{SlotId}
use Rattle.cedar_types.specs.Expressions.Tree.{var, set_of}
use Rattle.cedar_types.specs.Expressions.View.{trees_of}
use Rattle.cedar_types.specs.Errors.{Finding}
use Rattle.cedar_types.specs.Names.{PlacedUid}
use Rattle.cedar_types.specs.Templates.{to_entity, to_slot, Scope, any, equal, within, typed, typed_within, ActionScope}
use Rattle.cedar_types.specs.Templates.{any_action, equal_action, within_actions, PlainTemplate, made, uid_at, scope_at, action_scope_at}
use Rattle.cedar_typing.specs.Capabilities.{Caps, no_caps}
use Rattle.cedar_typing.specs.Eager.{Expectation, first_expectation, later_expectations}
use Rattle.cedar_typing.specs.Infer.{infer, infer_all}
use Rattle.cedar_typing.specs.Infer.Eager.{OperandsAndErrors, infer_one_more, infer_operand_list, infer_two_operands}
use Rattle.cedar_typing.specs.Infer.Parts.{AnswerAndErrors, expect, after}
use Rattle.cedar_typing.specs.Infer.ShortCircuit.{infer_right}
use Rattle.cedar_typing.specs.Representatives.{first_tests}
use Rattle.cedar_typing.specs.Rules.Binary.{binary_form}
use Rattle.cedar_typing.specs.Rules.Sets.{set_form}
use Rattle.cedar_typing.specs.Rules.ShortCircuit.{conjunction}
use Rattle.cedar_typing.specs.Setting.{Setting}
use Rattle.cedar_typing.specs.TypeTests.{bool_types}
use Rattle.cedar_typing.specs.TypedExpr.{Source, place_of}

module _ (s : Setting) (l : Option Loc) where
  abbrev principal_test : Scope → Source
  principal_test c = scope_at l Var.Principal SlotId.Principal c

  -- each test at depth 3 and at depth 4 has the answer that it has at depth 2
  principal_deeper : (c : Scope) (prior : Caps)
      → (infer s (principal_test c) prior 3 ≡ infer s (principal_test c) prior 2)
      × (infer s (principal_test c) prior 4 ≡ infer s (principal_test c) prior 2)
  principal_deeper any prior = (refl, refl)
  principal_deeper (equal (to_entity u)) prior = (refl, refl)
  principal_deeper (equal to_slot) prior = (refl, refl)
  principal_deeper (within (to_entity u)) prior = (refl, refl)
  principal_deeper (within to_slot) prior = (refl, refl)
  principal_deeper (typed t) prior = (refl, refl)
  principal_deeper (typed_within t (to_entity u)) prior = (refl, refl)
  principal_deeper (typed_within t to_slot) prior = (refl, refl)

  abbrev listed_at : ℕ → List PlacedUid → Bool → List Expectation → Caps → List Finding → OperandsAndErrors
  listed_at k us goes_on qs prior = infer_all s goes_on qs (trees_of (map (uid_at l) us)) prior k

  listed_deeper : (us : List PlacedUid) (goes_on : Bool) (qs : List Expectation) (prior : Caps)
      → (listed_at 5 us goes_on qs prior ≡ listed_at 4 us goes_on qs prior)
      × (listed_at 6 us goes_on qs prior ≡ listed_at 4 us goes_on qs prior)
  listed_deeper [] goes_on qs prior = (refl, refl)
  listed_deeper (u ∷ us) goes_on qs prior =
      let first = infer_one_more s.env goes_on (first_expectation qs) (place_of (uid_at l u)) (λ es. infer s (uid_at l u) prior 4 es) in
      let others = listed_deeper us goes_on (later_expectations qs) prior in
      (λ i. first (others.0 i), λ i. first (others.1 i))

  abbrev variable : Source
  variable = var (made l) Var.Action

  -- inference of `action in` some actions
  abbrev among : List PlacedUid → Caps → (Bool → List Expectation → List Finding → OperandsAndErrors) → List Finding → AnswerAndErrors
  among us prior listed =
      infer_two_operands s.env
      (binary_form s.env (made l) prior variable (set_of (made l) (trees_of (map (uid_at l) us))) BinaryOp.In) l l
      (λ es. infer s variable prior 3 es) (λ es. infer_operand_list (set_form s.env (made l)) listed es)

  action_deeper : (a : ActionScope) (prior : Caps)
      → (infer s (action_scope_at l a) prior 3 ≡ infer s (action_scope_at l a) prior 2)
      × (infer s (action_scope_at l a) prior 4 ≡ infer s (action_scope_at l a) prior 2)
  action_deeper any_action prior = (refl, refl)
  action_deeper (equal_action u) prior = (refl, refl)
  action_deeper (within_actions us) prior = (
    λ i. among us prior (λ goes_on qs. (listed_deeper us goes_on qs prior).0 i),
    λ i. among us prior (λ goes_on qs. (listed_deeper us goes_on qs prior).1 i),
  )

module _ (s : Setting) (t : PlainTemplate) where
  abbrev principal_place : Option Loc
  principal_place = place_of (scope_at t.place Var.Principal SlotId.Principal t.principal)

  abbrev action_place : Option Loc
  action_place = place_of (action_scope_at t.place t.action)

  -- the first tests have their answer of depth 1 at depth 2 too, where they stand without a rest, and at depth 3, where they
  -- stand beside one
  pub in_scope : infer s (first_tests t) no_caps 2 ≡ infer s (first_tests t) no_caps 1
  in_scope =
      λ i es. after (expect s.env bool_types principal_place ((principal_deeper s t.place t.principal no_caps).0 i es))
      (λ p es'. infer_right s.env conjunction (made t.place) action_place no_caps p es' (λ known es''. (action_deeper s t.place t.action known).0 i es''))

  pub below_rest : infer s (first_tests t) no_caps 3 ≡ infer s (first_tests t) no_caps 1
  below_rest =
      λ i es. after (expect s.env bool_types principal_place ((principal_deeper s t.place t.principal no_caps).1 i es))
      (λ p es'. infer_right s.env conjunction (made t.place) action_place no_caps p es' (λ known es''. (action_deeper s t.place t.action known).1 i es''))
