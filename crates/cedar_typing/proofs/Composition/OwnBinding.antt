-- The outcome of a condition in a world is at most its outcome with own slots, where each slot is
-- bound to its variable's own entity: there the scope's tests of slots are true, and all else is as
-- it was.
use Rattle.std.proofs.Common.{◌≡◌, Bool, true, false, true≢false, Option, Some, None, refl, sym, ◌∙◌, ap, subst}
use Rattle.cedar_types.specs.declared.base.location.Loc.{Loc}
use Rattle.cedar_types.specs.declared.base.names.slots.SlotId.{SlotId}
use Rattle.cedar_types.specs.declared.base.expressions.operators.BinaryOp.{BinaryOp}
use Rattle.cedar_types.specs.declared.base.expressions.operators.Var.{Var}
use Rattle.cedar_types.specs.Lemmas.Comparisons.{uid_same}
use Rattle.cedar_types.specs.Names.{Uid, uid_eq}
use Rattle.cedar_types.specs.Templates.{to_entity, to_slot, Scope, any, equal, within, typed, typed_within, PlainTemplate, typed_at}
use Rattle.cedar_types.specs.Templates.{scope_at, action_scope_at, scope_condition, with_rest, condition_of}
use Rattle.cedar_types.specs.Values.{Value, VBool, VEntity}
use Rattle.cedar_typing.specs.Composition.{MentionsNoSlot, NoSlotIn, SlotsInScopeAlone}
use Rattle.cedar_typing.specs.Evaluation.Conformance.{IsBound, SlotsBound}
use Rattle.cedar_typing.specs.Evaluation.Eval.{variable_value, bound_outcome, binary_outcome, is_in, has_ancestor, eval}
use Rattle.cedar_types.specs.Values.Stores.{entity_at}
use Rattle.cedar_typing.specs.Evaluation.Outcomes.{Test, Says, Stops, test_of, of_test, and_test, on_value}
use Rattle.cedar_typing.specs.Evaluation.World.{Request, Slots, World, UnlinkedSlot, Outcome, Gives, Fails}
use Rattle.cedar_typing.specs.TypedExpr.{Source}
use Rattle.cedar_typing.proofs.Basics.{or_left}
use Rattle.cedar_typing.proofs.Composition.Links.{no_action}
use Rattle.cedar_typing.proofs.Composition.Slots.{with_slots, eval_alike}

-- each slot is bound to its variable's own entity
abbrev pub own_slots : Request → Slots
own_slots r SlotId.Principal = Some r.principal
own_slots r SlotId.Resource = Some r.resource

pub both_bound : (r : Request) (x : SlotId) → IsBound (own_slots r x)
both_bound r SlotId.Principal = tt
both_bound r SlotId.Resource = tt

abbrev pub own_world : World → World
own_world world = with_slots world (own_slots world.request)

-- ---- an outcome is at most another if it equals it, is false, or is an unbound slot while U holds

module _ (U : Type 0) where
  pub data IsAtMost : Outcome → Outcome → Type 0 where
    itself : {o : Outcome} → IsAtMost o o
    is_false : {o : Outcome} → IsAtMost (Gives (VBool false)) o
    unlinked : {o : Outcome} → U → IsAtMost (Fails UnlinkedSlot) o

  below_true : (b : Bool) → IsAtMost (Gives (VBool b)) (Gives (VBool true))
  below_true true = itself
  below_true false = is_false

  pub same : (o o' : Outcome) → o ≡ o' → IsAtMost o o'
  same o o' e = subst (IsAtMost o) e itself

  -- `&&` keeps this relation in its right side
  pub right_most : (s : Test) (p p' : Outcome) → IsAtMost p p'
      → IsAtMost (of_test (and_test s (test_of p))) (of_test (and_test s (test_of p')))
  right_most (Says true) p p' itself = itself
  right_most (Says true) p p' is_false = is_false
  right_most (Says true) p p' (unlinked u) = unlinked u
  right_most (Says false) p p' h = itself
  right_most (Stops f) p p' h = itself

  pub and_most : (o o' p p' : Outcome) → IsAtMost o o' → IsAtMost p p'
      → IsAtMost (of_test (and_test (test_of o) (test_of p))) (of_test (and_test (test_of o') (test_of p')))
  and_most o o' p p' itself h = right_most (test_of o) p p' h
  and_most o o' p p' is_false h = is_false
  and_most o o' p p' (unlinked u) h = unlinked u

  -- a slot test that is true of v gives at most the outcome that it gives for a slot bound to v
  pub against : (f : Value → Outcome) (test : Uid → Bool) → ((w : Uid) → f (VEntity w) ≡ Gives (VBool (test w))) → (v : Uid) → test v ≡ true
      → (b : Option Uid) → ((IsBound b → ⊥) → U) → IsAtMost (on_value (bound_outcome b) f) (f (VEntity v))
  against f test is v h None u = unlinked (u (λ k. k))
  against f test is v h (Some w) u =
      subst (λ o. IsAtMost o (f (VEntity v))) (sym (is w))
      (subst (IsAtMost (Gives (VBool (test w)))) (sym (is v ∙ ap (λ b. Gives (VBool b)) h)) (below_true (test w)))

  module _ (world : World) where
    -- each entity is in itself
    pub itself_in : (v : Uid) → is_in world.store v v ≡ true
    itself_in v = or_left (uid_eq v v) (has_ancestor (entity_at world.store v) v) (uid_same.itself v)

    -- `==` and `in` with an own slot
    pub equal_most : (v : Uid) (b : Option Uid) → ((IsBound b → ⊥) → U)
        → IsAtMost (on_value (bound_outcome b) (binary_outcome world.store world.functions BinaryOp.Eq (VEntity v)))
        (binary_outcome world.store world.functions BinaryOp.Eq (VEntity v) (VEntity v))
    equal_most v = against (binary_outcome world.store world.functions BinaryOp.Eq (VEntity v)) (uid_eq v) (λ w. refl) v (uid_same.itself v)

    pub within_most : (v : Uid) (b : Option Uid) → ((IsBound b → ⊥) → U)
        → IsAtMost (on_value (bound_outcome b) (binary_outcome world.store world.functions BinaryOp.In (VEntity v)))
        (binary_outcome world.store world.functions BinaryOp.In (VEntity v) (VEntity v))
    within_most v =
        against (binary_outcome world.store world.functions BinaryOp.In (VEntity v)) (is_in world.store v)
        (λ w. refl) v (itself_in v)

    -- U holds if a slot of the expression is not bound
    abbrev UnboundIs : Source → Type 0
    UnboundIs e = (SlotsBound world.slots e → ⊥) → U

    abbrev EvalAtMost : Source → Type 0
    EvalAtMost e = IsAtMost (eval world e) (eval (own_world world) e)

    -- the constraint of a variable that is the entity which its slot is bound to in the own world
    module _ (l : Option Loc) (v : Var) (x : SlotId) (own : Uid) (is : VEntity own ≡ variable_value world.request v)
        (bound : own_slots world.request x ≡ Some own) where
      abbrev tested : BinaryOp → Value → Option Uid → Outcome
      tested op w b = on_value (bound_outcome b) (binary_outcome world.store world.functions op w)

      own_test : (op : BinaryOp) → IsAtMost (tested op (VEntity own) (world.slots x)) (tested op (VEntity own) (Some own))
          → IsAtMost (tested op (variable_value world.request v) (world.slots x))
          (tested op (variable_value world.request v) (own_slots world.request x))
      own_test op h =
          subst (λ b. IsAtMost (tested op (variable_value world.request v) (world.slots x)) (tested op (variable_value world.request v) b)) (sym bound)
          (subst (λ w. IsAtMost (tested op w (world.slots x)) (tested op w (Some own))) is h)

      constraint_most : (c : Scope) → UnboundIs (scope_at l v x c) → EvalAtMost (scope_at l v x c)
      constraint_most any u = itself
      constraint_most (equal (to_entity w)) u = itself
      constraint_most (equal to_slot) u = own_test BinaryOp.Eq (equal_most own (world.slots x) (λ n. u (λ b. n b.1)))
      constraint_most (within (to_entity w)) u = itself
      constraint_most (within to_slot) u = own_test BinaryOp.In (within_most own (world.slots x) (λ n. u (λ b. n b.1)))
      constraint_most (typed p) u = itself
      constraint_most (typed_within p (to_entity w)) u = itself
      constraint_most (typed_within p to_slot) u =
          and_most (eval world (typed_at l v p)) (eval (own_world world) (typed_at l v p)) _ _ itself
          (own_test BinaryOp.In (within_most own (world.slots x) (λ n. u (λ b. n b.1.1))))

    -- an expression that mentions no slot is at most itself, because both worlds give it one
    -- outcome
    pub unmentioned : (e : Source) → MentionsNoSlot e → EvalAtMost e
    unmentioned e h =
        same (eval world e) (eval (own_world world) e)
        (eval_alike world world.slots (own_slots world.request) e (λ x m. absurd (true≢false (sym m ∙ h x))))

    scope_most : (t : PlainTemplate) → UnboundIs (scope_condition t) → EvalAtMost (scope_condition t)
    scope_most t u =
        and_most _ _ _ _
        (and_most _ _ _ _
        (constraint_most t.place Var.Principal SlotId.Principal world.request.principal refl refl t.principal (λ n. u (λ b. n b.0.0)))
        (unmentioned (action_scope_at t.place t.action) (λ x. no_action t.place x t.action)))
        (constraint_most t.place Var.Resource SlotId.Resource world.request.resource refl refl t.resource (λ n. u (λ b. n b.1)))

    with_rest_most : (l : Option Loc) (e : Source) (rest : Option Source) → NoSlotIn rest
        → (UnboundIs e → EvalAtMost e) → UnboundIs (with_rest l e rest) → EvalAtMost (with_rest l e rest)
    with_rest_most l e None h k u = k u
    with_rest_most l e (Some f) h k u = and_most _ _ _ _ (k (λ n. u (λ b. n b.0))) (unmentioned f h)

    -- the condition in a world is at most the condition with own slots
    pub condition_most : (t : PlainTemplate) → SlotsInScopeAlone t → UnboundIs (condition_of t) → EvalAtMost (condition_of t)
    condition_most t h u = with_rest_most t.place (scope_condition t) t.rest h (scope_most t) u
