-- If the walk finds nothing, the rules find nothing by recursion.
use Rattle.std.proofs.Common.{◌≡◌, ℕ, zero, suc, ◌+◌, ◌≤◌, ◌<◌, Bool, true, false, nat_lt, nat_le, List, [], ◌∷◌, ◌++◌, Option, Some, None}
use Rattle.std.proofs.Common.{if◌then◌else◌, refl, subst, arith}
use Rattle.std.proofs.lemmas.Bool.{ltb-true, leb-true}
use Rattle.cedar_types.specs.declared.base.expressions.operators.BinaryOp.{BinaryOp}
use Rattle.cedar_types.specs.Errors.{Fault, Finding}
use Rattle.cedar_types.specs.Names.{Text, Uid, text_eq, uid_eq}
use Rattle.cedar_types.specs.Expressions.Tree.{Lit, bool, long, string, entity, lit, var, slot, unknown, if_then_else, and, or, unary}
use Rattle.cedar_types.specs.Expressions.Tree.{binary, call, get_attr, has_attr, ext_has_attr, like, is_type, set_of, record_of, Trees}
use Rattle.cedar_types.specs.Expressions.Tree.{no_trees, tree, Fields, no_fields, field}
use Rattle.cedar_typing.specs.TypedExpr.{TypedTree, Mark, annotation}
use Rattle.cedar_typechecker.specs.Levels.Chains.{Base, an_entity, a_record, neither, base_of, is_get_tag, field_at, good_leaf}
use Rattle.cedar_typechecker.specs.Levels.Chains.{literal_leaf, bad_leaf, leaf_of_literal, leaf_of_access, leaf_of_field, chains_of_access}
use Rattle.cedar_typechecker.specs.Levels.Chains.{chains_of_operator, chains, field_chains, greatest, level}
use Rattle.cedar_typechecker.specs.Levels.Costs.{cost_of, keys_of}
use Rattle.cedar_typechecker.specs.Levels.Dereferences.{accesses_first}
use Rattle.cedar_typechecker.specs.Levels.Errors.{unless_below, unless_within, exceeds, faults_of_base, level_at_keys, faults_of_chain}
use Rattle.cedar_typechecker.specs.Levels.Errors.{faults_at_leaf, faults_at_end}
use Rattle.cedar_typechecker.specs.Levels.Setting.{LevelSetting}
use Rattle.cedar_typechecker.specs.Levels.Walk.{found_at, of_base, of_keys, of_value, of_chain, checked_errors, all_errors, field_errors}
use Rattle.cedar_typechecker.specs.Levels.Walk.{target_errors, errors_along}
use Rattle.cedar_typechecker.proofs.Levels.Greatest.{has_chain, greatest_of_both, greatest_more}
use Rattle.cedar_typechecker.proofs.Levels.Silent.{Spends, IfSo, ByBase, IsOwnAction, Leaves, OnKeysOf, ByChain, Silent, AllSilent}
use Rattle.cedar_typechecker.proofs.Levels.Silent.{FieldsSilent, Targeted, FieldTargeted}

pub both_nil : {A : Type 0} (xs ys : List A) → xs ++ ys ≡ [] → (xs ≡ []) × (ys ≡ [])
both_nil [] ys h = (refl, h)
both_nil (x ∷ xs) ys h = cc

found_nil : (s : LevelSetting) (m : Mark) (fs : List Fault) → found_at s m fs ≡ [] → fs ≡ []
found_nil s m [] h = refl
found_nil s m (f ∷ fs) h = cc

if_nil : {A : Type 0} (b : Bool) (x : A) → (if b then [] else x ∷ []) ≡ [] → b ≡ true
if_nil true x h = refl
if_nil false x h = cc

spend : (n k : ℕ) (P : ℕ → Type 0) → unless_below n k ≡ [] → ((j : ℕ) → k ≤ j → P j) → Spends n P
spend n k P h f = go n (ltb-true k n (if_nil (nat_lt k n) (exceeds n (k + 1)) h))
  where
    go : (n : ℕ) → k < n → Spends n P
    go zero l = absurd (omega arith)
    go (suc j) l = f j (omega arith)

spend_one : (k l : ℕ) (P : ℕ → Type 0) → l + 1 ≤ k → ((j : ℕ) → l ≤ j → P j) → Spends k P
spend_one zero l P h f = absurd (omega arith)
spend_one (suc j) l P h f = f j (omega arith)

module _ (s : LevelSetting) where
  own_leaf : (e : Option Uid) (x : Lit) → faults_at_leaf (leaf_of_literal e x) ≡ []
      → IsOwnAction e x
  own_leaf (Some u) (entity v) h = go (uid_eq v u) h
    where
      go : (b : Bool) → faults_at_leaf (if b then good_leaf else literal_leaf) ≡ [] → b ≡ true
      go true h = refl
      go false h = cc
  own_leaf (Some u) (bool b) h = cc
  own_leaf (Some u) (long z) h = cc
  own_leaf (Some u) (string t) h = cc
  own_leaf None (entity v) h = cc
  own_leaf None (bool b) h = cc
  own_leaf None (long z) h = cc
  own_leaf None (string t) h = cc

  module _ (x : TypedTree) (f : checked_errors s x ≡ [] → Silent s x)
      (g : (path : List Text) (k : ℕ) → target_errors s x path ≡ [] → level s.action x path ≤ k
      → Targeted s x path k) where
    base_silent : (b : Base) → faults_of_base s b x ≡ []
        → of_base b (target_errors s x []) (checked_errors s x) ≡ []
        → ByBase b (Spends s.maximum (Targeted s x [])) (Silent s x)
    base_silent an_entity h k =
        spend s.maximum (level s.action x []) (Targeted s x []) h (λ j l. g [] j k l)
    base_silent a_record h k = f k
    base_silent neither h k = cc

    operator_silent : (c : Bool)
        → (if c then unless_below s.maximum (level s.action x []) else []) ≡ []
        → (if c then target_errors s x [] else checked_errors s x) ≡ []
        → IfSo c (Spends s.maximum (Targeted s x [])) (Silent s x)
    operator_silent true h k =
        spend s.maximum (level s.action x []) (Targeted s x []) h (λ j l. g [] j k l)
    operator_silent false h k = f k

    cost_left : (path : List Text) (c : ℕ)
        → unless_within s.maximum (level s.action x path + c) ≡ [] → target_errors s x path ≡ []
        → Leaves s.maximum c (Targeted s x path)
    cost_left path c h k = (
      level s.action x path,
      leb-true (level s.action x path + c) s.maximum
          (if_nil (nat_le (level s.action x path + c) s.maximum) _ h),
      g path (level s.action x path)
          k (omega arith),
    )

    keys_silent : (c : ℕ) (keys : Option (List Text)) → level_at_keys s x keys c ≡ []
        → of_keys keys (target_errors s x) ≡ []
        → OnKeysOf keys (λ path. Leaves s.maximum c (Targeted s x path))
    keys_silent c None h k = tt
    keys_silent c (Some path) h k = cost_left path c h k

    cost_silent : (b : Bool) (fs : List Fault) (es : List Finding) (c : ℕ) (X : Type 0)
        → (if b then fs else exceeds s.maximum c ∷ []) ≡ [] → (if b then es else []) ≡ []
        → (b ≡ true → fs ≡ [] → es ≡ [] → X) → X
    cost_silent true fs es c X h k i = i refl h k
    cost_silent false fs es c X h k i = cc

    chain_silent : (b : Base) (c : ℕ) (keys : Option (List Text))
        → faults_of_chain s b c x keys ≡ []
        → of_chain s.maximum b c keys (target_errors s x) (checked_errors s x) ≡ []
        → ByChain b s.maximum c keys (Silent s x) (Targeted s x)
    chain_silent an_entity c keys h k =
        cost_silent (nat_le c s.maximum) (unless_within s.maximum (level s.action x [] + c))
        (target_errors s x []) c _ h k (λ q i j. cost_left [] c i j)
    chain_silent a_record c keys h k =
        cost_silent (nat_le c s.maximum) (level_at_keys s x keys c)
        (checked_errors s x ++ of_keys keys (target_errors s x)) c _ h k
        (λ q i j. let w = both_nil (checked_errors s x) (of_keys keys (target_errors s x)) j in
        (leb-true c s.maximum q, f w.0, keys_silent c keys i w.1))
    chain_silent neither c keys h k = f k

    access_targeted : (b : Base) (l : Text) (path : List Text) (k : ℕ)
        → faults_at_end (leaf_of_access b) ≡ []
        → of_base b (target_errors s x path) (target_errors s x (l ∷ path)) ≡ []
        → greatest (chains_of_access b l path (chains s.action x)) ≤ k
        → ByBase b (Spends k (Targeted s x path)) (Targeted s x (l ∷ path) k)
    access_targeted an_entity l path k h i le =
        let e = greatest_more (chains s.action x path) (has_chain s.action x path) in
        spend_one k (level s.action x path) (Targeted s x path) (omega arith) (λ j w. g path j i w)
    access_targeted a_record l path k h i le = g (l ∷ path) k i le
    access_targeted neither l path k h i le = cc

    tag_targeted : (o : BinaryOp) (y : TypedTree) (path : List Text) (k : ℕ)
        → (checked_errors s y ≡ [] → Silent s y)
        → faults_at_end (if is_get_tag o then None else Some bad_leaf) ≡ []
        → (if is_get_tag o then target_errors s x path ++ checked_errors s y else []) ≡ []
        → greatest (chains_of_operator o (chains s.action x path)) ≤ k
        → IfSo (is_get_tag o) (Spends k (Targeted s x path) × Silent s y) ⊥
    tag_targeted BinaryOp.GetTag y path k q h i le =
        let e = greatest_more (chains s.action x path) (has_chain s.action x path) in
        let w = both_nil (target_errors s x path) (checked_errors s y) i in (
          spend_one k (level s.action x path) (Targeted s x path) (omega arith)
              (λ j v. g path j w.0 v),
          q w.1,
        )
    tag_targeted BinaryOp.Eq y path k q h i le = cc
    tag_targeted BinaryOp.Less y path k q h i le = cc
    tag_targeted BinaryOp.LessEq y path k q h i le = cc
    tag_targeted BinaryOp.Add y path k q h i le = cc
    tag_targeted BinaryOp.Sub y path k q h i le = cc
    tag_targeted BinaryOp.Mul y path k q h i le = cc
    tag_targeted BinaryOp.In y path k q h i le = cc
    tag_targeted BinaryOp.Contains y path k q h i le = cc
    tag_targeted BinaryOp.ContainsAll y path k q h i le = cc
    tag_targeted BinaryOp.ContainsAny y path k q h i le = cc
    tag_targeted BinaryOp.HasTag y path k q h i le = cc

  field_is : (p : Text) (fs : Fields Mark) → faults_at_end (leaf_of_field (field_at p fs)) ≡ []
      → (t : TypedTree) × (field_at p fs ≡ Some t)
  field_is p fs h = go (field_at p fs) h
    where
      go : (o : Option TypedTree) → faults_at_end (leaf_of_field o) ≡ []
          → (t : TypedTree) × (o ≡ Some t)
      go None h = cc
      go (Some t) h = (t, refl)

  field_by : (b : Bool) (u t : TypedTree) (fs : Fields Mark) (p : Text) (path : List Text) (k : ℕ)
      → (if b then Some u else field_at p fs) ≡ Some t
      → (if b then target_errors s u path ++ field_errors s fs else checked_errors s u
      ++ errors_along s fs p path) ≡ []
      → greatest (if b then chains s.action u path else field_chains s.action fs p path) ≤ k
      → (target_errors s u path ≡ [] → level s.action u path ≤ k → Targeted s u path k)
      → (checked_errors s u ≡ [] → Silent s u) → (field_errors s fs ≡ [] → FieldsSilent s fs)
      → (field_at p fs ≡ Some t → errors_along s fs p path ≡ []
      → greatest (field_chains s.action fs p path) ≤ k → FieldTargeted s fs p path k)
      → IfSo b (Targeted s u path k × FieldsSilent s fs) (Silent s u × FieldTargeted s fs p path k)
  field_by true u t fs p path k q h le f g i j =
      let w = both_nil (target_errors s u path) (field_errors s fs) h in (f w.0 le, i w.1)
  field_by false u t fs p path k q h le f g i j =
      let w = both_nil (checked_errors s u) (errors_along s fs p path) h in (g w.0, j q w.1 le)

  mutual
    pub silent_if_none : (x : TypedTree) → checked_errors s x ≡ [] → Silent s x
    silent_if_none (lit m x) h = tt
    silent_if_none (var m x) h = tt
    silent_if_none (slot m x) h = tt
    silent_if_none (unknown m x) h = tt
    silent_if_none (if_then_else m b c d) h =
        let w = both_nil (checked_errors s b) (checked_errors s c ++ checked_errors s d) h in
        let v = both_nil (checked_errors s c) (checked_errors s d) w.1 in
        (silent_if_none b w.0, silent_if_none c v.0, silent_if_none d v.1)
    silent_if_none (and m b c) h =
        let w = both_nil (checked_errors s b) (checked_errors s c) h in
        (silent_if_none b w.0, silent_if_none c w.1)
    silent_if_none (or m b c) h =
        let w = both_nil (checked_errors s b) (checked_errors s c) h in
        (silent_if_none b w.0, silent_if_none c w.1)
    silent_if_none (unary m o b) h = silent_if_none b h
    silent_if_none (binary m o b c) h =
        let w = both_nil (found_at s m
        (if accesses_first o then unless_below s.maximum (level s.action b []) else []))
        ((if accesses_first o then target_errors s b [] else checked_errors s b)
        ++ checked_errors s c) h in
        let v = both_nil (if accesses_first o then target_errors s b [] else checked_errors s b)
        (checked_errors s c) w.1 in (
          operator_silent b (silent_if_none b) (targeted_if_none b) (accesses_first o)
              (found_nil s m _ w.0) v.0,
          silent_if_none c v.1,
        )
    silent_if_none (call m f ts) h = all_if_none ts h
    silent_if_none (get_attr m b x) h =
        let w = both_nil (found_at s m (faults_of_base s (base_of (annotation b)) b)) (of_base
        (base_of (annotation b)) (target_errors s b []) (checked_errors s b)) h in
        base_silent b (silent_if_none b) (targeted_if_none b) (base_of (annotation b))
        (found_nil s m _ w.0) w.1
    silent_if_none (has_attr m b x) h =
        let w = both_nil (found_at s m (faults_of_base s (base_of (annotation b)) b)) (of_base
        (base_of (annotation b)) (target_errors s b []) (checked_errors s b)) h in
        base_silent b (silent_if_none b) (targeted_if_none b) (base_of (annotation b))
        (found_nil s m _ w.0) w.1
    silent_if_none (ext_has_attr m b x xs) h =
        let c = cost_of s.schema (annotation b) x xs in
        let keys = keys_of s.schema (annotation b) x xs in
        let w = both_nil (found_at s m (faults_of_chain s (base_of (annotation b)) c b keys))
        (of_chain s.maximum (base_of (annotation b)) c keys (target_errors s b)
        (checked_errors s b)) h in
        chain_silent b (silent_if_none b) (targeted_if_none b) (base_of (annotation b)) c keys
        (found_nil s m _ w.0) w.1
    silent_if_none (like m b p) h = silent_if_none b h
    silent_if_none (is_type m b p) h = silent_if_none b h
    silent_if_none (set_of m ts) h = all_if_none ts h
    silent_if_none (record_of m fs) h = fields_if_none fs h

    all_if_none : (ts : Trees Mark) → all_errors s ts ≡ [] → AllSilent s ts
    all_if_none no_trees h = tt
    all_if_none (tree t ts) h =
        let w = both_nil (checked_errors s t) (all_errors s ts) h in
        (silent_if_none t w.0, all_if_none ts w.1)

    fields_if_none : (fs : Fields Mark) → field_errors s fs ≡ [] → FieldsSilent s fs
    fields_if_none no_fields h = tt
    fields_if_none (field k t fs) h =
        let w = both_nil (checked_errors s t) (field_errors s fs) h in
        (silent_if_none t w.0, fields_if_none fs w.1)

    pub targeted_if_none : (x : TypedTree) (path : List Text) (k : ℕ) → target_errors s x path ≡ []
        → level s.action x path ≤ k → Targeted s x path k
    targeted_if_none (lit m x) path k h le = own_leaf s.action x (found_nil s m _ h)
    targeted_if_none (var m x) path k h le = tt
    targeted_if_none (slot m x) path k h le = cc
    targeted_if_none (unknown m x) path k h le = cc
    targeted_if_none (if_then_else m b c d) path k h le =
        let w = both_nil (checked_errors s b) (target_errors s c path ++ target_errors s d path)
        h in
        let v = both_nil (target_errors s c path) (target_errors s d path) w.1 in
        let e = greatest_of_both (chains s.action c path) (chains s.action d path) in (
          silent_if_none b w.0,
          targeted_if_none c path k v.0 (omega arith),
          targeted_if_none d path
              k v.1 (omega arith),
        )
    targeted_if_none (and m b c) path k h le = cc
    targeted_if_none (or m b c) path k h le = cc
    targeted_if_none (unary m o b) path k h le = cc
    targeted_if_none (binary m o b c) path k h le =
        let w = both_nil (found_at s m
        (faults_at_end (if is_get_tag o then None else Some bad_leaf)))
        (if is_get_tag o then target_errors s b path ++ checked_errors s c else []) h in
        tag_targeted b (silent_if_none b) (targeted_if_none b) o c path k (silent_if_none c)
        (found_nil s m _ w.0) w.1 le
    targeted_if_none (call m f ts) path k h le = cc
    targeted_if_none (get_attr m b x) path k h le =
        let w = both_nil (found_at s m (faults_at_end (leaf_of_access (base_of (annotation b)))))
        (of_base (base_of (annotation b)) (target_errors s b path)
        (target_errors s b (x ∷ path))) h in
        access_targeted b (silent_if_none b) (targeted_if_none b) (base_of (annotation b)) x path k
        (found_nil s m _ w.0) w.1 le
    targeted_if_none (has_attr m b x) path k h le = cc
    targeted_if_none (ext_has_attr m b x xs) path k h le = cc
    targeted_if_none (like m b p) path k h le = cc
    targeted_if_none (is_type m b p) path k h le = cc
    targeted_if_none (set_of m ts) path k h le = cc
    targeted_if_none (record_of m fs) [] k h le = cc
    targeted_if_none (record_of m fs) (p ∷ path) k h le =
        let w = both_nil (found_at s m (faults_at_end (leaf_of_field (field_at p fs)))) (of_value
        (field_at p fs) (errors_along s fs p path)) h in
        let v = field_is p fs (found_nil s m _ w.0) in
        along_if_none fs p path v.0 k v.1
        (subst (λ o. of_value o (errors_along s fs p path) ≡ []) v.1 w.1) le

    along_if_none : (fs : Fields Mark) (p : Text) (path : List Text) (t : TypedTree) (k : ℕ)
        → field_at p fs ≡ Some t → errors_along s fs p path ≡ []
        → greatest (field_chains s.action fs p path) ≤ k → FieldTargeted s fs p path k
    along_if_none no_fields p path t k q h le = cc
    along_if_none (field l u fs) p path t k q h le =
        field_by (text_eq p l) u t fs p path k q h le (targeted_if_none u path k) (silent_if_none u)
        (fields_if_none fs) (λ q h le. along_if_none fs p path t k q h le)
