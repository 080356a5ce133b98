-- Each expression within a level evaluates over each part of a store that holds the slice of as
-- many steps as over the whole store.
use Rattle.std.proofs.Common.{ℕ, ◌+◌, Bool, true, List, []}
use Rattle.cedar_types.specs.Names.{Text, Uid}
use Rattle.cedar_types.specs.Values.Stores.{Store}
use Rattle.cedar_types.specs.Expressions.Tree.{lit, var, slot, unknown, if_then_else, and, or, unary, binary, call, get_attr, has_attr}
use Rattle.cedar_types.specs.Expressions.Tree.{ext_has_attr, like, is_type, set_of, record_of, Trees, no_trees, tree, Fields, no_fields}
use Rattle.cedar_types.specs.Expressions.Tree.{field}
use Rattle.cedar_types.specs.Values.{VSet}
use Rattle.cedar_types.specs.Expressions.View.{Written}
use Rattle.cedar_typing.specs.Capabilities.{Caps}
use Rattle.cedar_typing.specs.Eager.{Expectation, later_expectations}
use Rattle.cedar_typing.specs.Evaluation.Conformance.{Fits, SlotsBound, AllSlotsBound, FieldSlotsBound, AllHold}
use Rattle.cedar_typing.specs.Evaluation.Eval.{like_outcome, is_of, called, eval, eval_all, eval_fields}
use Rattle.cedar_typing.specs.Evaluation.Outcomes.{on_value, on_values}
use Rattle.cedar_typing.specs.Evaluation.World.{World, Outcome, Gives, call_value}
use Rattle.cedar_typing.specs.Judgments.{Judgment, visited}
use Rattle.cedar_typing.specs.Rules.{rules, rules_within, rules_all, rules_fields}
use Rattle.cedar_typing.specs.Rules.Chains.{chain_form}
use Rattle.cedar_typing.specs.Rules.Calls.{arguments, call_form}
use Rattle.cedar_typing.specs.Rules.Records.{field_keys}
use Rattle.cedar_typing.specs.Rules.Sets.{set_form}
use Rattle.cedar_typing.specs.Rules.Eager.{one_operand_rules}
use Rattle.cedar_typing.specs.Rules.Unary.{like_form, is_form}
use Rattle.cedar_typing.specs.Setting.{Setting}
use Rattle.cedar_typing.specs.TypedExpr.{Source, place_of}
use Rattle.cedar_typechecker.specs.Slices.Soundness.{with_store, levels_in}
use Rattle.cedar_typechecker.proofs.Slices.Binary.{binary_same}
use Rattle.cedar_typechecker.proofs.Slices.Collections.{AreSame, none_same, more_same, AreSameFields, none_fields, more_fields, record_same}
use Rattle.cedar_typechecker.proofs.Slices.Conditional.{if_same, and_same, or_same}
use Rattle.cedar_typechecker.proofs.Slices.Forms.{unary_same, get_same, has_same, on_one_same, on_all_same}
use Rattle.cedar_typechecker.proofs.Slices.Leaves.{within_same, variable_same, literal_same, slot_same}
use Rattle.cedar_typechecker.proofs.Slices.Same.{IsTold, told_left, IsSame}
use Rattle.cedar_typechecker.proofs.Slices.Stores.{Agrees}

module _ (s : Setting) (world : World) (part : Store) (n : ℕ) (P : ℕ → Uid → Type 0)
    (a : Agrees world.request world.store part n P) where
  abbrev other : World
  other = with_store world part

  abbrev Same : Outcome → Outcome → Judgment → Type 0
  Same = IsSame (levels_in s n) P

  deeper : (d : ℕ) {o o' : Outcome} {J : Judgment} → Same o o' J → Same o o' (visited d J)
  deeper d {o} {o'} {J} i = within_same s world part n P a d o o' J i

  -- ---- all expressions, by type soundness and by the lemma on chains

  module _ (fits : Fits s.env.request_env world.request world.slots)
      (told : (e : Source) → SlotsBound world.slots e → (prior : Caps) (d : ℕ)
      → AllHold world prior → IsTold world (eval world e) (rules s e prior d))
      (chains : (m : Written) (prior : Caps) (e : Source) (x : Text) (xs : List Text) (d : ℕ)
      → SlotsBound world.slots e → AllHold world prior
      → Same (eval world e) (eval other e) (rules s e prior d)
      → Same (eval world (ext_has_attr m e x xs)) (eval other (ext_has_attr m e x xs))
      (one_operand_rules s.env (chain_form s.env m prior e x xs) (place_of e)
      (rules s e prior d))) where
    mutual
      same_within : (e : Source) → SlotsBound world.slots e → (prior : Caps) (d : ℕ)
          → AllHold world prior → Same (eval world e) (eval other e) (rules_within s e prior d)
      same_within (lit m x) b prior d h = literal_same s world part n P a fits m x _
      same_within (var m x) b prior d h = variable_same s world part n P a m x _
      same_within (slot m x) b prior d h = slot_same s world part n P a m x _ _
      same_within (unknown m x) b prior d h = record {
        checked = λ t c y i j. absurd i;
        target = λ t c y i path k le j. absurd i;
      }
      same_within (if_then_else m x y z) b prior d h =
          if_same (levels_in s n) P world s.env m (place_of x) _ _ _ _ _ _ _ _ _ prior h
          (told x b.0 prior (d + 1) h)
          (deeper (d + 1) (same_within x b.0 prior (d + 1) h))
          (λ c k. deeper (d + 1) (same_within y b.1 c (d + 1) k))
          (deeper (d + 1) (same_within z b.2 prior (d + 1) h))
      same_within (and m x y) b prior d h =
          and_same (levels_in s n) P world s.env m (place_of x) (place_of y) _ _ _ _ _ _ prior h
          (told_left world _ _ (told x b.0 prior (d + 1) h))
          (deeper (d + 1) (same_within x b.0 prior (d + 1) h))
          (λ c k. deeper (d + 1) (same_within y b.1 c (d + 1) k))
      same_within (or m x y) b prior d h =
          or_same (levels_in s n) P world s.env m (place_of x) (place_of y) _ _ _ _ _ _ prior
          (told x b.0 prior (d + 1) h)
          (deeper (d + 1) (same_within x b.0 prior (d + 1) h))
          (deeper (d + 1) (same_within y b.1 prior (d + 1) h))
      same_within (unary m op x) b prior d h =
          unary_same s world part n P a (place_of x) _ _ _
          (deeper (d + 1) (same_within x b prior (d + 1) h)) m op
      same_within (binary m op x y) b prior d h =
          binary_same world.request world.store part (levels_in s n) P a world.functions s.env m
          prior x y (place_of x) (place_of y) _ _ _ _ _ _
          (deeper (d + 1) (same_within x b.0 prior (d + 1) h))
          (deeper (d + 1) (same_within y b.1 prior (d + 1) h)) op
      same_within (call m f ts) b prior d h =
          let g = call_form s.env s.functions m f (arguments ts) in
          on_all_same s world part n P a _ _ _ (same_all g.goes_on g.expects ts b prior (d + 1) h) g
          (λ os. on_values os (λ vs. called (call_value world.functions.calls f vs)))
          (λ t xs i. i) (λ t xs path k i. i)
      same_within (get_attr m x y) b prior d h =
          get_same s world part n P a (place_of x) _ _ _
          (deeper (d + 1) (same_within x b prior (d + 1) h)) m prior x y
          (told x b prior (d + 1) h).found
      same_within (has_attr m x y) b prior d h =
          has_same s world part n P a (place_of x) _ _ _
          (deeper (d + 1) (same_within x b prior (d + 1) h)) m prior x y
          (told x b prior (d + 1) h).found
      same_within (ext_has_attr m x y ys) b prior d h =
          chains m prior x y ys (d + 1) b h
          (deeper (d + 1) (same_within x b prior (d + 1) h))
      same_within (like m x p) b prior d h =
          on_one_same s world part n P a (place_of x) _ _ _
          (deeper (d + 1) (same_within x b prior (d + 1) h)) (like_form m p)
          (λ o. on_value o (like_outcome p)) (λ t y i. i) (λ t y path k i. i)
      same_within (is_type m x p) b prior d h =
          on_one_same s world part n P a (place_of x) _ _ _
          (deeper (d + 1) (same_within x b prior (d + 1) h)) (is_form m p)
          (λ o. on_value o (is_of p)) (λ t y i. i) (λ t y path k i. i)
      same_within (set_of m ts) b prior d h =
          on_all_same s world part n P a _ _ _ (same_all true [] ts b prior (d + 1) h)
          (set_form s.env m)
          (λ os. on_values os (λ vs. Gives (VSet vs))) (λ t xs i. i) (λ t xs path k i. i)
      same_within (record_of m fs) b prior d h =
          record_same (levels_in s n) P s.env m (field_keys fs) _ _ _
          (same_fields fs b prior (d + 1) h)

      same_all : (goes_on : Bool) (qs : List Expectation) (ts : Trees Written)
          → AllSlotsBound world.slots ts → (prior : Caps) (d : ℕ) → AllHold world prior
          → AreSame (levels_in s n) P (eval_all world ts) (eval_all other ts)
          (rules_all s goes_on qs ts prior d)
      same_all goes_on qs no_trees b prior d h = none_same (levels_in s n) P _
      same_all goes_on qs (tree e ts) b prior d h =
          more_same (levels_in s n) P s.env goes_on _ (place_of e) _ _ _ _ _ _
          (deeper d (same_within e b.0 prior d h))
          (same_all goes_on (later_expectations qs) ts b.1 prior d h)

      same_fields : (fs : Fields Written) → FieldSlotsBound world.slots fs
          → (prior : Caps) (d : ℕ) → AllHold world prior
          → AreSameFields (levels_in s n) P (field_keys fs) (eval_fields world fs)
          (eval_fields other fs) (rules_fields s fs prior d)
      same_fields no_fields b prior d h = none_fields (levels_in s n) P _
      same_fields (field k e fs) b prior d h =
          more_fields (levels_in s n) P s.env (place_of e) k (field_keys fs) _ _ _ _ _ _
          (deeper d (same_within e b.0 prior d h)) (same_fields fs b.1 prior d h)

    pub all_same : (e : Source) → SlotsBound world.slots e → (prior : Caps) (d : ℕ)
        → AllHold world prior → Same (eval world e) (eval other e) (rules s e prior d)
    all_same e b prior d h = deeper d (same_within e b prior d h)
