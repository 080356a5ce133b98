-- If the rules find nothing by recursion, the walk finds nothing, and levels are bounded.
use Rattle.std.proofs.Common.{◌≡◌, ℕ, zero, suc, ◌+◌, ◌≤◌, Bool, true, false, nat_lt, nat_le, List, [], ◌∷◌, ◌++◌, Option, Some, None}
use Rattle.std.proofs.Common.{if◌then◌else◌, refl, ap, arith}
use Rattle.std.proofs.lemmas.Bool.{le-leb, lt-ltb}
use Rattle.cedar_types.specs.declared.base.expressions.operators.BinaryOp.{BinaryOp}
use Rattle.cedar_types.specs.Errors.{Fault, Finding}
use Rattle.cedar_types.specs.Names.{Text, Uid, text_eq}
use Rattle.cedar_types.specs.Expressions.Tree.{Lit, bool, long, string, entity, lit, var, slot, unknown, if_then_else, and, or, unary}
use Rattle.cedar_types.specs.Expressions.Tree.{binary, call, get_attr, has_attr, ext_has_attr, like, is_type, set_of, record_of, Trees}
use Rattle.cedar_types.specs.Expressions.Tree.{no_trees, tree, Fields, no_fields, field}
use Rattle.cedar_typing.specs.TypedExpr.{TypedTree, Mark, annotation}
use Rattle.cedar_typechecker.specs.Levels.Chains.{Base, an_entity, a_record, neither, base_of, is_get_tag, field_at, good_leaf}
use Rattle.cedar_typechecker.specs.Levels.Chains.{literal_leaf, bad_leaf, leaf_of_literal, leaf_of_access, leaf_of_field, chains_of_access}
use Rattle.cedar_typechecker.specs.Levels.Chains.{chains_of_operator, chains, field_chains, greatest, level}
use Rattle.cedar_typechecker.specs.Levels.Costs.{cost_of, keys_of}
use Rattle.cedar_typechecker.specs.Levels.Dereferences.{accesses_first}
use Rattle.cedar_typechecker.specs.Levels.Errors.{unless_below, unless_within, exceeds, faults_of_base, level_at_keys, faults_of_chain}
use Rattle.cedar_typechecker.specs.Levels.Errors.{faults_at_leaf, faults_at_end}
use Rattle.cedar_typechecker.specs.Levels.Setting.{LevelSetting}
use Rattle.cedar_typechecker.specs.Levels.Walk.{found_at, of_base, of_keys, of_value, of_chain, checked_errors, all_errors, field_errors}
use Rattle.cedar_typechecker.specs.Levels.Walk.{target_errors, errors_along}
use Rattle.cedar_typechecker.proofs.Levels.Greatest.{has_chain, greatest_of_both, greatest_more}
use Rattle.cedar_typechecker.proofs.Levels.Silent.{Spends, IfSo, ByBase, IsOwnAction, Leaves, OnKeysOf, ByChain, Silent, AllSilent}
use Rattle.cedar_typechecker.proofs.Levels.Silent.{FieldsSilent, Targeted, FieldTargeted}

nil_both : {A : Type 0} (xs ys : List A) → xs ≡ [] → ys ≡ [] → xs ++ ys ≡ []
nil_both [] ys h k = k
nil_both (x ∷ xs) ys h k = cc

nil_if : {A : Type 0} (b : Bool) (x : A) → b ≡ true → (if b then [] else x ∷ []) ≡ []
nil_if true x h = refl
nil_if false x h = cc

spent : (k l : ℕ) (P X : ℕ → Type 0) → ((j : ℕ) → P j → (l ≤ j) × X j) → Spends k P
    → (l + 1 ≤ k) × (j : ℕ) × X j
spent zero l P X f h = absurd h
spent (suc j) l P X f h = let e = f j h in let g : l ≤ j = e.0 in (omega arith, j, e.1)

nil_below : (n l : ℕ) → l + 1 ≤ n → unless_below n l ≡ []
nil_below n l h = nil_if (nat_lt l n) (exceeds n (l + 1)) (lt-ltb l n (omega arith))

nil_within : (n l : ℕ) → l ≤ n → unless_within n l ≡ []
nil_within n l h = nil_if (nat_le l n) (exceeds n l) (le-leb l n h)

left_of : (n l k c : ℕ) → k + c ≤ n → l ≤ k → (c ≤ n) × (l + c ≤ n)
left_of n l k c h i = (omega arith, omega arith)

module _ (s : LevelSetting) where
  own_none : (e : Option Uid) (x : Lit) → IsOwnAction e x
      → faults_at_leaf (leaf_of_literal e x) ≡ []
  own_none (Some u) (entity v) h =
      ap (λ b. faults_at_leaf (if b then good_leaf else literal_leaf)) h
  own_none (Some u) (bool b) h = absurd h
  own_none (Some u) (long z) h = absurd h
  own_none (Some u) (string t) h = absurd h
  own_none None (entity v) h = absurd h
  own_none None (bool b) h = absurd h
  own_none None (long z) h = absurd h
  own_none None (string t) h = absurd h

  both_here : (m : Mark) (fs : List Fault) (es : List Finding) → fs ≡ [] → es ≡ []
      → found_at s m fs ++ es ≡ []
  both_here m fs es h k = nil_both (found_at s m fs) es (ap (found_at s m) h) k

  -- the statement on a target
  abbrev IsBounded : TypedTree → List Text → ℕ → Type 0
  IsBounded x path k = (level s.action x path ≤ k) × (target_errors s x path ≡ [])

  module _ (x : TypedTree) (f : Silent s x → checked_errors s x ≡ [])
      (g : (path : List Text) (k : ℕ) → Targeted s x path k → IsBounded x path k) where
    one_spent : (path : List Text) (k : ℕ) → Spends k (Targeted s x path)
        → (level s.action x path + 1 ≤ k) × (target_errors s x path ≡ [])
    one_spent path k h =
        let w = spent k (level s.action x path) (Targeted s x path) (λ j. target_errors s x path
        ≡ []) (λ j i. g path j i) h in (w.0, w.2)

    base_none : (b : Base) → ByBase b (Spends s.maximum (Targeted s x [])) (Silent s x)
        → (faults_of_base s b x ≡ []) × (of_base b (target_errors s x []) (checked_errors s x) ≡ [])
    base_none an_entity h =
        let w = one_spent [] s.maximum h in (nil_below s.maximum (level s.action x []) w.0, w.1)
    base_none a_record h = (refl, f h)
    base_none neither h = absurd h

    operator_none : (c : Bool) → IfSo c (Spends s.maximum (Targeted s x [])) (Silent s x)
        → ((if c then unless_below s.maximum (level s.action x []) else []) ≡ [])
        × ((if c then target_errors s x [] else checked_errors s x) ≡ [])
    operator_none true h =
        let w = one_spent [] s.maximum h in (nil_below s.maximum (level s.action x []) w.0, w.1)
    operator_none false h = (refl, f h)

    left_none : (path : List Text) (c : ℕ) → Leaves s.maximum c (Targeted s x path)
        → (c ≤ s.maximum) × (unless_within s.maximum (level s.action x path + c) ≡ [])
        × (target_errors s x path ≡ [])
    left_none path c h =
        let w = g path h.0 h.2 in
        let e = left_of s.maximum (level s.action x path) h.0 c h.1 w.0 in
        (e.0, nil_within s.maximum (level s.action x path + c) e.1, w.1)

    keys_none : (c : ℕ) (keys : Option (List Text))
        → OnKeysOf keys (λ path. Leaves s.maximum c (Targeted s x path))
        → (level_at_keys s x keys c ≡ []) × (of_keys keys (target_errors s x) ≡ [])
    keys_none c None h = (refl, refl)
    keys_none c (Some path) h = let w = left_none path c h in (w.1, w.2)

    cost_none : (b : Bool) (fs : List Fault) (es : List Finding) (c : ℕ) → b ≡ true → fs ≡ []
        → es ≡ []
        → ((if b then fs else exceeds s.maximum c ∷ []) ≡ []) × ((if b then es else []) ≡ [])
    cost_none true fs es c q h k = (h, k)
    cost_none false fs es c q h k = cc

    chain_none : (b : Base) (c : ℕ) (keys : Option (List Text))
        → ByChain b s.maximum c keys (Silent s x) (Targeted s x)
        → (faults_of_chain s b c x keys ≡ [])
        × (of_chain s.maximum b c keys (target_errors s x) (checked_errors s x) ≡ [])
    chain_none an_entity c keys h = let w = left_none [] c h in
        cost_none (nat_le c s.maximum) (unless_within s.maximum (level s.action x [] + c))
        (target_errors s x []) c (le-leb c s.maximum w.0) w.1 w.2
    chain_none a_record c keys h =
        let w = keys_none c keys h.2 in
        cost_none (nat_le c s.maximum) (level_at_keys s x keys c)
        (checked_errors s x ++ of_keys keys (target_errors s x)) c (le-leb c s.maximum h.0) w.0
        (nil_both (checked_errors s x) (of_keys keys (target_errors s x)) (f h.1) w.1)
    chain_none neither c keys h = (refl, f h)

    access_bounded : (b : Base) (l : Text) (path : List Text) (k : ℕ)
        → ByBase b (Spends k (Targeted s x path)) (Targeted s x (l ∷ path) k)
        → (greatest (chains_of_access b l path (chains s.action x)) ≤ k)
        × (faults_at_end (leaf_of_access b) ≡ [])
        × (of_base b (target_errors s x path) (target_errors s x (l ∷ path)) ≡ [])
    access_bounded an_entity l path k h =
        let w = one_spent path k h in
        let e = greatest_more (chains s.action x path) (has_chain s.action x path) in
        let i : level s.action x path + 1 ≤ k = w.0 in
        (omega arith, refl, w.1)
    access_bounded a_record l path k h = let w = g (l ∷ path) k h in (w.0, refl, w.1)
    access_bounded neither l path k h = absurd h

    tag_bounded : (o : BinaryOp) (y : TypedTree) (path : List Text) (k : ℕ)
        → (Silent s y → checked_errors s y ≡ [])
        → IfSo (is_get_tag o) (Spends k (Targeted s x path) × Silent s y) ⊥
        → (greatest (chains_of_operator o (chains s.action x path)) ≤ k)
        × (faults_at_end (if is_get_tag o then None else Some bad_leaf) ≡ [])
        × ((if is_get_tag o then target_errors s x path ++ checked_errors s y else []) ≡ [])
    tag_bounded BinaryOp.GetTag y path k q h =
        let w = one_spent path k h.0 in
        let e = greatest_more (chains s.action x path) (has_chain s.action x path) in
        let i : level s.action x path + 1 ≤ k = w.0 in
        (omega arith, refl, nil_both (target_errors s x path) (checked_errors s y) w.1 (q h.1))
    tag_bounded BinaryOp.Eq y path k q h = absurd h
    tag_bounded BinaryOp.Less y path k q h = absurd h
    tag_bounded BinaryOp.LessEq y path k q h = absurd h
    tag_bounded BinaryOp.Add y path k q h = absurd h
    tag_bounded BinaryOp.Sub y path k q h = absurd h
    tag_bounded BinaryOp.Mul y path k q h = absurd h
    tag_bounded BinaryOp.In y path k q h = absurd h
    tag_bounded BinaryOp.Contains y path k q h = absurd h
    tag_bounded BinaryOp.ContainsAll y path k q h = absurd h
    tag_bounded BinaryOp.ContainsAny y path k q h = absurd h
    tag_bounded BinaryOp.HasTag y path k q h = absurd h

  -- the statement on the fields of a record literal that is a target: the key is there too
  abbrev AreBounded : Fields Mark → Text → List Text → ℕ → Type 0
  AreBounded fs p path k =
      (greatest (field_chains s.action fs p path) ≤ k)
      × (faults_at_end (leaf_of_field (field_at p fs)) ≡ []) × (errors_along s fs p path ≡ [])

  along_by : (b : Bool) (u : TypedTree) (fs : Fields Mark) (p : Text) (path : List Text) (k : ℕ)
      → IfSo b (Targeted s u path k × FieldsSilent s fs) (Silent s u × FieldTargeted s fs p path k)
      → (Targeted s u path k → IsBounded u path k) → (Silent s u → checked_errors s u ≡ [])
      → (FieldsSilent s fs → field_errors s fs ≡ [])
      → (FieldTargeted s fs p path k → AreBounded fs p path k)
      → (greatest (if b then chains s.action u path else field_chains s.action fs p path) ≤ k)
      × (faults_at_end (leaf_of_field (if b then Some u else field_at p fs)) ≡ [])
      × ((if b then target_errors s u path ++ field_errors s fs else checked_errors s u
      ++ errors_along s fs p path) ≡ [])
  along_by true u fs p path k h f g i j =
      let w = f h.0 in
      (w.0, refl, nil_both (target_errors s u path) (field_errors s fs) w.1 (i h.1))
  along_by false u fs p path k h f g i j =
      let w = j h.1 in
      (w.0, w.1, nil_both (checked_errors s u) (errors_along s fs p path) (g h.0) w.2)

  of_value_none : (o : Option TypedTree) (es : List Finding) → es ≡ [] → of_value o es ≡ []
  of_value_none None es h = refl
  of_value_none (Some t) es h = h

  mutual
    pub none_if_silent : (x : TypedTree) → Silent s x → checked_errors s x ≡ []
    none_if_silent (lit m x) h = refl
    none_if_silent (var m x) h = refl
    none_if_silent (slot m x) h = refl
    none_if_silent (unknown m x) h = refl
    none_if_silent (if_then_else m b c d) h =
        nil_both (checked_errors s b) _ (none_if_silent b h.0)
        (nil_both (checked_errors s c) _ (none_if_silent c h.1) (none_if_silent d h.2))
    none_if_silent (and m b c) h =
        nil_both (checked_errors s b) _ (none_if_silent b h.0) (none_if_silent c h.1)
    none_if_silent (or m b c) h =
        nil_both (checked_errors s b) _ (none_if_silent b h.0) (none_if_silent c h.1)
    none_if_silent (unary m o b) h = none_if_silent b h
    none_if_silent (binary m o b c) h =
        let w = operator_none b (none_if_silent b) (none_if_targeted b) (accesses_first o) h.0 in
        both_here m _ _ w.0 (nil_both
        (if accesses_first o then target_errors s b [] else checked_errors s b) _ w.1
        (none_if_silent c h.1))
    none_if_silent (call m f ts) h = none_if_all ts h
    none_if_silent (get_attr m b x) h =
        let w = base_none b (none_if_silent b) (none_if_targeted b) (base_of (annotation b)) h in
        both_here m _ _ w.0 w.1
    none_if_silent (has_attr m b x) h =
        let w = base_none b (none_if_silent b) (none_if_targeted b) (base_of (annotation b)) h in
        both_here m _ _ w.0 w.1
    none_if_silent (ext_has_attr m b x xs) h =
        let w = chain_none b (none_if_silent b) (none_if_targeted b) (base_of (annotation b))
        (cost_of s.schema (annotation b) x xs) (keys_of s.schema (annotation b) x xs) h in
        both_here m _ _ w.0 w.1
    none_if_silent (like m b p) h = none_if_silent b h
    none_if_silent (is_type m b p) h = none_if_silent b h
    none_if_silent (set_of m ts) h = none_if_all ts h
    none_if_silent (record_of m fs) h = none_if_fields fs h

    none_if_all : (ts : Trees Mark) → AllSilent s ts → all_errors s ts ≡ []
    none_if_all no_trees h = refl
    none_if_all (tree t ts) h =
        nil_both (checked_errors s t) _ (none_if_silent t h.0) (none_if_all ts h.1)

    none_if_fields : (fs : Fields Mark) → FieldsSilent s fs → field_errors s fs ≡ []
    none_if_fields no_fields h = refl
    none_if_fields (field k t fs) h =
        nil_both (checked_errors s t) _ (none_if_silent t h.0) (none_if_fields fs h.1)

    none_if_targeted : (x : TypedTree) (path : List Text) (k : ℕ) → Targeted s x path k
        → IsBounded x path k
    none_if_targeted (lit m x) path k h = (omega arith, ap (found_at s m) (own_none s.action x h))
    none_if_targeted (var m x) path k h = (omega arith, refl)
    none_if_targeted (slot m x) path k h = absurd h
    none_if_targeted (unknown m x) path k h = absurd h
    none_if_targeted (if_then_else m b c d) path k h =
        let v = none_if_targeted c path k h.1 in
        let w = none_if_targeted d path k h.2 in
        let e = greatest_of_both (chains s.action c path) (chains s.action d path) in
        let i : level s.action c path ≤ k = v.0 in
        let j : level s.action d path ≤ k = w.0 in (
          omega arith,
          nil_both (checked_errors s b) _ (none_if_silent b h.0)
              (nil_both (target_errors s c path) _ v.1 w.1),
        )
    none_if_targeted (and m b c) path k h = absurd h
    none_if_targeted (or m b c) path k h = absurd h
    none_if_targeted (unary m o b) path k h = absurd h
    none_if_targeted (binary m o b c) path k h =
        let w = tag_bounded b (none_if_silent b) (none_if_targeted b) o c path k (none_if_silent c)
        h in (w.0, both_here m _ _ w.1 w.2)
    none_if_targeted (call m f ts) path k h = absurd h
    none_if_targeted (get_attr m b x) path k h =
        let w = access_bounded b (none_if_silent b) (none_if_targeted b) (base_of (annotation b)) x
        path k h in (w.0, both_here m _ _ w.1 w.2)
    none_if_targeted (has_attr m b x) path k h = absurd h
    none_if_targeted (ext_has_attr m b x xs) path k h = absurd h
    none_if_targeted (like m b p) path k h = absurd h
    none_if_targeted (is_type m b p) path k h = absurd h
    none_if_targeted (set_of m ts) path k h = absurd h
    none_if_targeted (record_of m fs) [] k h = absurd h
    none_if_targeted (record_of m fs) (p ∷ path) k h =
        let w = none_if_fields_targeted fs p path k h in
        (w.0, both_here m _ _ w.1 (of_value_none (field_at p fs) _ w.2))

    none_if_fields_targeted : (fs : Fields Mark) (p : Text) (path : List Text) (k : ℕ)
        → FieldTargeted s fs p path k → AreBounded fs p path k
    none_if_fields_targeted no_fields p path k h = absurd h
    none_if_fields_targeted (field l u fs) p path k h =
        along_by (text_eq p l) u fs p path k h (none_if_targeted u path k) (none_if_silent u)
        (none_if_fields fs) (none_if_fields_targeted fs p path k)
