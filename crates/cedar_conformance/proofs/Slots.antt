-- Slots: the test that they are bound, and the places of slots and unknowns.
use Rattle.std.proofs.Common.{◌≡◌, refl, sym, ap, subst, ◌∙◌, Bool, true, false, true≢false, not, ◌&&◌, ◌||◌, List, [], ◌∷◌, ◌++◌, map}
use Rattle.std.proofs.Common.{Option, Some, None, is_some}
use Rattle.std.specs.Bool.{Decides}
use Rattle.std.specs.List.{list_any}
use Rattle.std.proofs.Math.Bool.{or-false}
use Rattle.std.proofs.lemmas.Bool.Decides.{Decides-and, Decides-like}
use Rattle.std.proofs.lemmas.List.Folds.{list_any-append}
use Rattle.cedar_types.specs.declared.base.location.Loc.{Loc}
use Rattle.cedar_types.specs.declared.base.expressions.operators.Var.{Var}
use Rattle.cedar_types.specs.declared.base.names.slots.SlotId.{SlotId}
use Rattle.cedar_types.specs.Environments.Linking.{has_slot}
use Rattle.cedar_types.specs.Expressions.Parts.{subexpressions, subexpressions_of_all, mentions_slot, any_mentions_slot, field_mentions_slot}
use Rattle.cedar_types.specs.Expressions.Tree.{Tree, lit, var, slot, unknown, if_then_else, and, or, unary, binary, call, get_attr}
use Rattle.cedar_types.specs.Expressions.Tree.{has_attr, ext_has_attr, like, is_type, set_of, record_of, Trees, no_trees, tree, Fields}
use Rattle.cedar_types.specs.Expressions.Tree.{no_fields, field}
use Rattle.cedar_types.specs.Expressions.View.{trees_of}
use Rattle.cedar_types.specs.Lemmas.TreeSame.{slot_same}
use Rattle.cedar_types.specs.Names.{Uid, PlacedUid}
use Rattle.cedar_types.specs.Templates.{to_entity, to_slot, Scope, any, equal, within, typed, typed_within, ActionScope, any_action}
use Rattle.cedar_types.specs.Templates.{equal_action, within_actions, PlainTemplate, made, uid_at, scope_at, action_scope_at}
use Rattle.cedar_types.specs.Templates.{scope_condition, with_rest, condition_of}
use Rattle.cedar_typing.specs.Composition.{MentionsNoSlot, NoSlotIn, SlotsInScopeAlone}
use Rattle.cedar_typing.specs.Evaluation.Conformance.{IsBound, SlotsBound, AllSlotsBound, FieldSlotsBound}
use Rattle.cedar_typing.specs.Evaluation.World.{Slots}
use Rattle.cedar_typing.specs.Silence.{is_unknown, HasNoUnknowns}
use Rattle.cedar_typing.specs.Soundness.Policies.{IsWellFormed}
use Rattle.cedar_typing.specs.TypedExpr.{Source}
use Rattle.cedar_typing.proofs.Basics.{or_left, or_right, or_cases, neither_left, neither_right}
use Rattle.cedar_conformance.specs.PolicyTests.{rest_has_unknown, mentions_any_slot, rest_mentions_slot, slot_fits, slots_fit, policy_fits}

-- ---- slots that are bound

module _ (b : Slots) where
  mutual
    pub bound_from : {D : Type 0} (e : Tree D) → ((s : SlotId) → mentions_slot s e ≡ true → IsBound (b s)) → SlotsBound b e
    bound_from (lit m x) f = tt
    bound_from (var m x) f = tt
    bound_from (slot m s) f = f s (slot_same.itself s)
    bound_from (unknown m n) f = tt
    bound_from (if_then_else m x y z) f = (
      bound_from x (λ s h. f s (or_left (mentions_slot s x) (mentions_slot s y || mentions_slot s z) h)),
      bound_from y (λ s h. f s (or_right (mentions_slot s x) (mentions_slot s y || mentions_slot s z)
          (or_left (mentions_slot s y) (mentions_slot s z) h))),
      bound_from z (λ s h. f s (or_right (mentions_slot s x) (mentions_slot s y || mentions_slot s z)
          (or_right (mentions_slot s y) (mentions_slot s z) h))),
    )
    bound_from (and m x y) f = (
      bound_from x (λ s h. f s (or_left (mentions_slot s x) (mentions_slot s y) h)),
      bound_from y (λ s h. f s (or_right (mentions_slot s x) (mentions_slot s y) h)),
    )
    bound_from (or m x y) f = (
      bound_from x (λ s h. f s (or_left (mentions_slot s x) (mentions_slot s y) h)),
      bound_from y (λ s h. f s (or_right (mentions_slot s x) (mentions_slot s y) h)),
    )
    bound_from (unary m o x) f = bound_from x f
    bound_from (binary m o x y) f = (
      bound_from x (λ s h. f s (or_left (mentions_slot s x) (mentions_slot s y) h)),
      bound_from y (λ s h. f s (or_right (mentions_slot s x) (mentions_slot s y) h)),
    )
    bound_from (call m n ts) f = all_bound_from ts f
    bound_from (get_attr m x a) f = bound_from x f
    bound_from (has_attr m x a) f = bound_from x f
    bound_from (ext_has_attr m x a xs) f = bound_from x f
    bound_from (like m x p) f = bound_from x f
    bound_from (is_type m x n) f = bound_from x f
    bound_from (set_of m ts) f = all_bound_from ts f
    bound_from (record_of m fs) f = fields_bound_from fs f

    all_bound_from : {D : Type 0} (ts : Trees D) → ((s : SlotId) → any_mentions_slot s ts ≡ true → IsBound (b s)) → AllSlotsBound b ts
    all_bound_from no_trees f = tt
    all_bound_from (tree t ts) f = (
      bound_from t (λ s h. f s (or_left (mentions_slot s t) (any_mentions_slot s ts) h)),
      all_bound_from ts (λ s h. f s (or_right (mentions_slot s t) (any_mentions_slot s ts) h)),
    )

    fields_bound_from : {D : Type 0} (fs : Fields D) → ((s : SlotId) → field_mentions_slot s fs ≡ true → IsBound (b s))
        → FieldSlotsBound b fs
    fields_bound_from no_fields f = tt
    fields_bound_from (field k t fs) f = (
      bound_from t (λ s h. f s (or_left (mentions_slot s t) (field_mentions_slot s fs) h)),
      fields_bound_from fs (λ s h. f s (or_right (mentions_slot s t) (field_mentions_slot s fs) h)),
    )

  mutual
    pub each_bound : {D : Type 0} (e : Tree D) → SlotsBound b e → (s : SlotId) → mentions_slot s e ≡ true → IsBound (b s)
    each_bound (lit m x) k s h = cc
    each_bound (var m x) k s h = cc
    each_bound (slot m x) k s h = subst (λ t. IsBound (b t)) (slot_same.to x s h) k
    each_bound (unknown m n) k s h = cc
    each_bound (if_then_else m x y z) k s h =
        or_cases (mentions_slot s x) (mentions_slot s y || mentions_slot s z) (IsBound (b s)) (each_bound x k.0 s)
        (or_cases (mentions_slot s y) (mentions_slot s z) (IsBound (b s)) (each_bound y k.1 s) (each_bound z k.2 s)) h
    each_bound (and m x y) k s h =
        or_cases (mentions_slot s x) (mentions_slot s y) (IsBound (b s)) (each_bound x k.0 s) (each_bound y k.1 s) h
    each_bound (or m x y) k s h =
        or_cases (mentions_slot s x) (mentions_slot s y) (IsBound (b s)) (each_bound x k.0 s) (each_bound y k.1 s) h
    each_bound (unary m o x) k s h = each_bound x k s h
    each_bound (binary m o x y) k s h =
        or_cases (mentions_slot s x) (mentions_slot s y) (IsBound (b s)) (each_bound x k.0 s) (each_bound y k.1 s) h
    each_bound (call m n ts) k s h = each_of_all ts k s h
    each_bound (get_attr m x a) k s h = each_bound x k s h
    each_bound (has_attr m x a) k s h = each_bound x k s h
    each_bound (ext_has_attr m x a xs) k s h = each_bound x k s h
    each_bound (like m x p) k s h = each_bound x k s h
    each_bound (is_type m x n) k s h = each_bound x k s h
    each_bound (set_of m ts) k s h = each_of_all ts k s h
    each_bound (record_of m fs) k s h = each_of_fields fs k s h

    each_of_all : {D : Type 0} (ts : Trees D) → AllSlotsBound b ts → (s : SlotId) → any_mentions_slot s ts ≡ true → IsBound (b s)
    each_of_all no_trees k s h = cc
    each_of_all (tree t ts) k s h =
        or_cases (mentions_slot s t) (any_mentions_slot s ts) (IsBound (b s)) (each_bound t k.0 s) (each_of_all ts k.1 s) h

    each_of_fields : {D : Type 0} (fs : Fields D) → FieldSlotsBound b fs → (s : SlotId) → field_mentions_slot s fs ≡ true
        → IsBound (b s)
    each_of_fields no_fields k s h = cc
    each_of_fields (field n t fs) k s h =
        or_cases (mentions_slot s t) (field_mentions_slot s fs) (IsBound (b s)) (each_bound t k.0 s) (each_of_fields fs k.1 s) h

bound_decides : (o : Option Uid) → Decides (is_some o) (IsBound o)
bound_decides None = (λ e. absurd (true≢false (sym e)), λ h. absurd h)
bound_decides (Some u) = (λ e. tt, λ h. refl)

slot_decides : (s : SlotId) (t : PlainTemplate) (b : Slots)
    → Decides (slot_fits s t b) (has_slot s t ≡ true → IsBound (b s))
slot_decides s t b = at (has_slot s t) (b s)
  where
    at : (m : Bool) (o : Option Uid) → Decides (not m || is_some o) (m ≡ true → IsBound o)
    at true o = (λ e h. (bound_decides o).0 e, λ f. (bound_decides o).1 (f refl))
    at false o = (λ e h. absurd (true≢false (sym h)), λ f. refl)

-- each slot that occurs is bound iff both slots fit
pub slots_decide : (t : PlainTemplate) (b : Slots) → Decides (slots_fit t b) (SlotsBound b (condition_of t))
slots_decide t b =
    Decides-like (slots_fit t b)
    (λ h. bound_from b (condition_of t) (both h))
    (λ k. (each_bound b (condition_of t) k SlotId.Principal, each_bound b (condition_of t) k SlotId.Resource))
    (Decides-and (slot_fits SlotId.Principal t b) (slot_fits SlotId.Resource t b) (slot_decides SlotId.Principal t b)
    (slot_decides SlotId.Resource t b))
  where
    both : ((has_slot SlotId.Principal t ≡ true → IsBound (b SlotId.Principal)) × (has_slot SlotId.Resource t ≡ true → IsBound (b SlotId.Resource)))
        → (s : SlotId) → mentions_slot s (condition_of t) ≡ true → IsBound (b s)
    both h SlotId.Principal = h.0
    both h SlotId.Resource = h.1

-- ---- slots outside the scope

not_decides : (b : Bool) → Decides (not b) (b ≡ false)
not_decides true = (λ e. absurd (true≢false (sym e)), λ e. absurd (true≢false e))
not_decides false = (λ e. refl, λ e. refl)

neither_decides : (e : Source) → Decides (not (mentions_any_slot e)) (MentionsNoSlot e)
neither_decides e =
    Decides-like (not (mentions_any_slot e))
    (λ h. each (neither_left p r h) (neither_right p r h))
    (λ f. (λ i. f SlotId.Principal i || r) ∙ f SlotId.Resource)
    (not_decides (mentions_any_slot e))
  where
    p : Bool
    p = mentions_slot SlotId.Principal e

    r : Bool
    r = mentions_slot SlotId.Resource e

    each : mentions_slot SlotId.Principal e ≡ false → mentions_slot SlotId.Resource e ≡ false → (s : SlotId) → mentions_slot s e ≡ false
    each a b SlotId.Principal = a
    each a b SlotId.Resource = b

pub scope_decides : (t : PlainTemplate) → Decides (not (rest_mentions_slot t.rest)) (SlotsInScopeAlone t)
scope_decides t = at t.rest
  where
    at : (o : Option Source) → Decides (not (rest_mentions_slot o)) (NoSlotIn o)
    at None = (λ e. tt, λ h. refl)
    at (Some e) = neither_decides e

-- ---- unknowns

abbrev any_unknown : Source → Bool
any_unknown e = list_any is_unknown (subexpressions e)

scope_known : (l : Option Loc) (v : Var) (s : SlotId) (c : Scope) → any_unknown (scope_at l v s c) ≡ false
scope_known l v s any = refl
scope_known l v s (equal (to_entity u)) = refl
scope_known l v s (equal to_slot) = refl
scope_known l v s (within (to_entity u)) = refl
scope_known l v s (within to_slot) = refl
scope_known l v s (typed t) = refl
scope_known l v s (typed_within t (to_entity u)) = refl
scope_known l v s (typed_within t to_slot) = refl

ids_known : (l : Option Loc) (us : List PlacedUid) → list_any is_unknown (subexpressions_of_all (trees_of (map (uid_at l) us))) ≡ false
ids_known l [] = refl
ids_known l (u ∷ us) =
    list_any-append is_unknown (subexpressions_of_all (trees_of (map (uid_at l) us))) (subexpressions (uid_at l u))
    ∙ ap (λ b. b || false) (ids_known l us)

action_known : (l : Option Loc) (c : ActionScope) → any_unknown (action_scope_at l c) ≡ false
action_known l any_action = refl
action_known l (equal_action u) = refl
action_known l (within_actions us) =
    list_any-append is_unknown (subexpressions_of_all (trees_of (map (uid_at l) us))) _
    ∙ ap (λ b. b || false) (ids_known l us)

-- the parts of two expressions without unknowns have none
both_known : (x y : Source) → any_unknown x ≡ false → any_unknown y ≡ false → list_any is_unknown (subexpressions y ++ subexpressions x) ≡ false
both_known x y h k = list_any-append is_unknown (subexpressions y) (subexpressions x) ∙ (λ i. k i || any_unknown x) ∙ h

whole_scope_known : (t : PlainTemplate) → any_unknown (scope_condition t) ≡ false
whole_scope_known t =
    let l = t.place in
    let p = scope_at l Var.Principal SlotId.Principal t.principal in
    let a = action_scope_at l t.action in
    let r = scope_at l Var.Resource SlotId.Resource t.resource in
    both_known (and (made l) p a) r
    (both_known p a (scope_known l Var.Principal SlotId.Principal t.principal) (action_known l t.action))
    (scope_known l Var.Resource SlotId.Resource t.resource)

pub condition_unknowns : (t : PlainTemplate) → any_unknown (condition_of t) ≡ rest_has_unknown t.rest
condition_unknowns t = at t.rest
  where
    at : (o : Option Source) → any_unknown (with_rest t.place (scope_condition t) o) ≡ rest_has_unknown o
    at None = whole_scope_known t
    at (Some e) =
        list_any-append is_unknown (subexpressions e) (subexpressions (scope_condition t))
        ∙ ap (λ b. any_unknown e || b) (whole_scope_known t) ∙ or-false (any_unknown e)

pub unknowns_decide : (t : PlainTemplate) → Decides (not (rest_has_unknown t.rest)) (HasNoUnknowns (condition_of t))
unknowns_decide t =
    Decides-like (not (rest_has_unknown t.rest)) (λ h. condition_unknowns t ∙ h) (λ h. sym (condition_unknowns t) ∙ h)
    (not_decides (rest_has_unknown t.rest))

-- ---- policies

pub policy_decides : (t : PlainTemplate) (b : Slots) → Decides (policy_fits t b) (IsWellFormed t b)
policy_decides t b =
    Decides-like (policy_fits t b)
    (λ h. record { no_unknowns = h.0; slots_in_scope = h.1.0; bound = h.1.1 })
    (λ w. (w.no_unknowns, (w.slots_in_scope, w.bound)))
    (Decides-and (not (rest_has_unknown t.rest)) (not (rest_mentions_slot t.rest) && slots_fit t b) (unknowns_decide t)
    (Decides-and (not (rest_mentions_slot t.rest)) (slots_fit t b) (scope_decides t) (slots_decide t b)))
