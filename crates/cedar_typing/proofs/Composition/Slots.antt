-- Evaluation looks at the slots that an expression mentions, and at no others.
use Rattle.std.proofs.Common.{◌≡◌, Bool, true, ◌||◌, refl, ap}
use Rattle.cedar_types.specs.declared.base.names.slots.SlotId.{SlotId}
use Rattle.cedar_types.specs.Lemmas.TreeSame.{slot_same}
use Rattle.cedar_types.specs.Expressions.Tree.{lit, var, slot, unknown, if_then_else, and, or, unary, binary, call, get_attr, has_attr}
use Rattle.cedar_types.specs.Expressions.Tree.{ext_has_attr, like, is_type, set_of, record_of, Trees, no_trees, tree, Fields, no_fields}
use Rattle.cedar_types.specs.Expressions.Tree.{field}
use Rattle.cedar_types.specs.Expressions.View.{Written}
use Rattle.cedar_types.specs.Values.{VSet}
use Rattle.cedar_types.specs.Expressions.Parts.{mentions_slot, any_mentions_slot, field_mentions_slot}
use Rattle.cedar_typing.specs.Evaluation.Conformance.{IsBound, SlotsBound, AllSlotsBound, FieldSlotsBound}
use Rattle.cedar_typing.specs.Evaluation.Eval.{bound_outcome, unary_outcome, binary_outcome, get, has_test, path_test, like_outcome, is_of}
use Rattle.cedar_typing.specs.Evaluation.Eval.{called, eval, eval_all, eval_fields}
use Rattle.cedar_typing.specs.Evaluation.Outcomes.{test_of, of_test, and_test, or_test, choose, on_value, then_test, more_outcomes}
use Rattle.cedar_typing.specs.Evaluation.Outcomes.{on_values, more_entry_outcomes, record_outcome}
use Rattle.cedar_typing.specs.Evaluation.World.{Slots, World, call_value, Gives}
use Rattle.cedar_typing.specs.TypedExpr.{Source}
use Rattle.cedar_typing.proofs.Basics.{or_left, or_right}

-- the world with other slots
abbrev pub with_slots : World → Slots → World
with_slots world b = record world { slots = b }

-- ---- evaluation looks at the slots that are mentioned, and at no others

module _ (world : World) (b b' : Slots) where
  abbrev Alike : (SlotId → Bool) → Type 0
  Alike mentions = (x : SlotId) → mentions x ≡ true → b x ≡ b' x

  abbrev left_world : World
  left_world = with_slots world b

  abbrev right_world : World
  right_world = with_slots world b'

  one : (f g : SlotId → Bool) → Alike (λ x. f x || g x) → Alike f
  one f g h x e = h x (or_left (f x) (g x) e)

  other : (f g : SlotId → Bool) → Alike (λ x. f x || g x) → Alike g
  other f g h x e = h x (or_right (f x) (g x) e)

  mutual
    pub eval_alike : (e : Source) → Alike (λ x. mentions_slot x e) → eval left_world e ≡ eval right_world e
    eval_alike (lit m x) h = refl
    eval_alike (var m x) h = refl
    eval_alike (slot m x) h = ap bound_outcome (h x (slot_same.itself x))
    eval_alike (unknown m n) h = refl
    eval_alike (if_then_else m x y z) h =
        let k = other (λ q. mentions_slot q x) (λ q. mentions_slot q y || mentions_slot q z) h in
        λ i. choose (test_of (eval_alike x (one (λ q. mentions_slot q x) (λ q. mentions_slot q y || mentions_slot q z) h) i))
        (eval_alike y (one (λ q. mentions_slot q y) (λ q. mentions_slot q z) k) i)
        (eval_alike z (other (λ q. mentions_slot q y) (λ q. mentions_slot q z) k) i)
    eval_alike (and m x y) h =
        λ i. of_test (and_test (test_of (eval_alike x (one (λ q. mentions_slot q x) (λ q. mentions_slot q y) h) i))
        (test_of (eval_alike y (other (λ q. mentions_slot q x) (λ q. mentions_slot q y) h) i)))
    eval_alike (or m x y) h =
        λ i. of_test (or_test (test_of (eval_alike x (one (λ q. mentions_slot q x) (λ q. mentions_slot q y) h) i))
        (test_of (eval_alike y (other (λ q. mentions_slot q x) (λ q. mentions_slot q y) h) i)))
    eval_alike (unary m o x) h = λ i. unary_outcome o (eval_alike x h i)
    eval_alike (binary m o x y) h =
        let p = eval_alike x (one (λ q. mentions_slot q x) (λ q. mentions_slot q y) h) in
        let q = eval_alike y (other (λ q. mentions_slot q x) (λ q. mentions_slot q y) h) in
        λ i. on_value (p i) (λ v. on_value (q i) (binary_outcome world.store world.functions o v))
    eval_alike (call m f ts) h = λ i. on_values (all_alike ts h i) (λ vs. called (call_value world.functions.calls f vs))
    eval_alike (get_attr m x a) h = λ i. on_value (eval_alike x h i) (get world.store a)
    eval_alike (has_attr m x a) h = λ i. of_test (then_test (eval_alike x h i) (has_test world.store a))
    eval_alike (ext_has_attr m x a xs) h = λ i. of_test (then_test (eval_alike x h i) (path_test world.store a xs))
    eval_alike (like m x p) h = λ i. on_value (eval_alike x h i) (like_outcome p)
    eval_alike (is_type m x n) h = λ i. on_value (eval_alike x h i) (is_of n)
    eval_alike (set_of m ts) h = λ i. on_values (all_alike ts h i) (λ vs. Gives (VSet vs))
    eval_alike (record_of m fs) h = λ i. record_outcome (fields_alike fs h i)

    all_alike : (ts : Trees Written) → Alike (λ x. any_mentions_slot x ts) → eval_all left_world ts ≡ eval_all right_world ts
    all_alike no_trees h = refl
    all_alike (tree t ts) h =
        λ i. more_outcomes (eval_alike t (one (λ q. mentions_slot q t) (λ q. any_mentions_slot q ts) h) i)
        (all_alike ts (other (λ q. mentions_slot q t) (λ q. any_mentions_slot q ts) h) i)

    fields_alike : (fs : Fields Written) → Alike (λ x. field_mentions_slot x fs) → eval_fields left_world fs ≡ eval_fields right_world fs
    fields_alike no_fields h = refl
    fields_alike (field k t fs) h =
        λ i. more_entry_outcomes k (eval_alike t (one (λ q. mentions_slot q t) (λ q. field_mentions_slot q fs) h) i)
        (fields_alike fs (other (λ q. mentions_slot q t) (λ q. field_mentions_slot q fs) h) i)

-- ---- the slots of any expression are bound if both slots are

module _ (b : Slots) (all : (x : SlotId) → IsBound (b x)) where
  mutual
    pub slots_bound : (e : Source) → SlotsBound b e
    slots_bound (lit m x) = tt
    slots_bound (var m x) = tt
    slots_bound (slot m x) = all x
    slots_bound (unknown m n) = tt
    slots_bound (if_then_else m x y z) = (slots_bound x, slots_bound y, slots_bound z)
    slots_bound (and m x y) = (slots_bound x, slots_bound y)
    slots_bound (or m x y) = (slots_bound x, slots_bound y)
    slots_bound (unary m o x) = slots_bound x
    slots_bound (binary m o x y) = (slots_bound x, slots_bound y)
    slots_bound (call m n ts) = all_bound ts
    slots_bound (get_attr m x a) = slots_bound x
    slots_bound (has_attr m x a) = slots_bound x
    slots_bound (ext_has_attr m x a xs) = slots_bound x
    slots_bound (like m x p) = slots_bound x
    slots_bound (is_type m x n) = slots_bound x
    slots_bound (set_of m ts) = all_bound ts
    slots_bound (record_of m fs) = fields_bound fs

    all_bound : (ts : Trees Written) → AllSlotsBound b ts
    all_bound no_trees = tt
    all_bound (tree t ts) = (slots_bound t, all_bound ts)

    fields_bound : (fs : Fields Written) → FieldSlotsBound b fs
    fields_bound no_fields = tt
    fields_bound (field k t fs) = (slots_bound t, fields_bound fs)
