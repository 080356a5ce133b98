-- Typed expressions that are loaded: they have no level errors, or are targets in an expression
-- that has none. Their parts are loaded too.
use Rattle.std.proofs.Common.{◌⊎◌, inl, inr, ℕ, zero, suc, ◌+◌, ◌≤◌, Bool, true, false, List, [], ◌∷◌, Option, arith}
use Rattle.cedar_types.specs.declared.base.expressions.operators.BinaryOp.{BinaryOp}
use Rattle.cedar_types.specs.declared.base.expressions.operators.UnaryOp.{UnaryOp}
use Rattle.cedar_types.specs.declared.base.expressions.patterns.PatternElem.{PatternElem}
use Rattle.cedar_types.specs.Names.{Text, Path, text_eq}
use Rattle.cedar_types.specs.Expressions.Tree.{lit, if_then_else, and, or, unary, binary, call, get_attr, has_attr, ext_has_attr, like}
use Rattle.cedar_types.specs.Expressions.Tree.{is_type, set_of, record_of, Trees, no_trees, tree, Fields, no_fields, field}
use Rattle.cedar_typing.specs.TypedExpr.{TypedTree, Mark, with_mark, annotation}
use Rattle.cedar_typechecker.specs.Levels.Chains.{Base, an_entity, a_record, neither, base_of, is_get_tag}
use Rattle.cedar_typechecker.specs.Levels.Costs.{cost_of, keys_of}
use Rattle.cedar_typechecker.specs.Levels.Dereferences.{accesses_first}
use Rattle.cedar_typechecker.specs.Levels.Setting.{LevelSetting}
use Rattle.cedar_typechecker.proofs.Levels.Silent.{Spends, IfSo, ByBase, Leaves, ByChain, Silent, AllSilent, FieldsSilent}
use Rattle.cedar_typechecker.proofs.Levels.Silent.{Targeted, FieldTargeted}
use Rattle.cedar_typing.proofs.TypedCopies.Same.{AllOf, FieldsOf, IsClosed}

module _ (s : LevelSetting) where
  -- the expression is a target of some level that is no greater than the maximum
  abbrev pub IsAim : TypedTree → Type 0
  IsAim x = (path : List Text) × (k : ℕ) × (k ≤ s.maximum) × Targeted s x path k

  abbrev pub Loaded : TypedTree → Type 0
  Loaded x = Silent s x ⊎ IsAim x

  aim : (x : TypedTree) (path : List Text) (k : ℕ) → k ≤ s.maximum → Targeted s x path k → Loaded x
  aim x path k le h = inr (path, k, le, h)

  spent : (n : ℕ) (P : ℕ → Type 0) → Spends n P → (k : ℕ) × (k ≤ n) × P k
  spent zero P h = absurd h
  spent (suc k) P h = (k, omega arith, h)

  spent_aim : (x : TypedTree) (path : List Text) (n : ℕ) → n ≤ s.maximum → Spends n (Targeted s x path) → Loaded x
  spent_aim x path n le h =
      let r = spent n (Targeted s x path) h in
      aim x path r.0 (below n le r.0 r.1) r.2
    where
      below : (n : ℕ) → n ≤ s.maximum → (k : ℕ) → k ≤ n → k ≤ s.maximum
      below n le k l = omega arith

  itself : s.maximum ≤ s.maximum
  itself = omega arith

  -- ---- forms

  by_base : (c : Base) (x : TypedTree) (path : List Text) (n : ℕ) (Z : Type 0) → n ≤ s.maximum → (Z → Loaded x)
      → ByBase c (Spends n (Targeted s x path)) Z → Loaded x
  by_base an_entity x path n Z le f h = spent_aim x path n le h
  by_base a_record x path n Z le f h = f h
  by_base neither x path n Z le f h = absurd h

  by_chain : (b : Base) (c : ℕ) (keys : Option (List Text)) (x : TypedTree)
      → ByChain b s.maximum c keys (Silent s x) (Targeted s x) → Loaded x
  by_chain an_entity c keys x h = left h
    where
      left : Leaves s.maximum c (Targeted s x []) → Loaded x
      left (k, le, h) = aim x [] k (below k le) h
        where
          below : (k : ℕ) → k + c ≤ s.maximum → k ≤ s.maximum
          below k l = omega arith
  by_chain a_record c keys x h = inl h.1
  by_chain neither c keys x h = inl h

  first_if : (b : Bool) (x : TypedTree) → IfSo b (Spends s.maximum (Targeted s x [])) (Silent s x) → Loaded x
  first_if true x h = spent_aim x [] s.maximum itself h
  first_if false x h = inl h

  both_if : (b : Bool) (x y : TypedTree) (path : List Text) (k : ℕ) → k ≤ s.maximum
      → IfSo b (Spends k (Targeted s x path) × Silent s y) ⊥ → Loaded x × Loaded y
  both_if true x y path k le h = (spent_aim x path k le h.0, inl h.1)
  both_if false x y path k le h = absurd h

  silent_all : (ts : Trees Mark) → AllSilent s ts → AllOf Loaded ts
  silent_all no_trees h = tt
  silent_all (tree t ts) h = (inl h.0, silent_all ts h.1)

  silent_fields : (fs : Fields Mark) → FieldsSilent s fs → FieldsOf Loaded fs
  silent_fields no_fields h = tt
  silent_fields (field k t fs) h = (inl h.0, silent_fields fs h.1)

  field_if : (b : Bool) (t : TypedTree) (fs : Fields Mark) (p : Text) (path : List Text) (k : ℕ) → k ≤ s.maximum
      → (FieldTargeted s fs p path k → FieldsOf Loaded fs)
      → IfSo b (Targeted s t path k × FieldsSilent s fs) (Silent s t × FieldTargeted s fs p path k)
      → Loaded t × FieldsOf Loaded fs
  field_if true t fs p path k le later h = (aim t path k le h.0, silent_fields fs h.1)
  field_if false t fs p path k le later h = (inl h.0, later h.1)

  targeted_fields : (fs : Fields Mark) (p : Text) (path : List Text) (k : ℕ) → k ≤ s.maximum → FieldTargeted s fs p path k
      → FieldsOf Loaded fs
  targeted_fields no_fields p path k le h = absurd h
  targeted_fields (field l t fs) p path k le h = field_if (text_eq p l) t fs p path k le (targeted_fields fs p path k le) h

  -- ---- each form, by its case

  silent_marked : (k : Mark) (x : TypedTree) → Silent s (with_mark k x) → Silent s x
  silent_marked k (lit m x) h = h
  silent_marked k x h = h

  targeted_marked : (k : Mark) (x : TypedTree) (path : List Text) (n : ℕ) → Targeted s (with_mark k x) path n → Targeted s x path n
  targeted_marked k (lit m x) path n h = h
  targeted_marked k x path n h = h

  marked : (k : Mark) (x : TypedTree) → Loaded (with_mark k x) → Loaded x
  marked k x (inl h) = inl (silent_marked k x h)
  marked k x (inr (path, n, le, h)) = aim x path n le (targeted_marked k x path n h)

  choice : (k : Mark) (a b e : TypedTree) → Loaded (if_then_else k a b e) → Loaded a × Loaded b × Loaded e
  choice k a b e (inl h) = (inl h.0, inl h.1, inl h.2)
  choice k a b e (inr (path, n, le, h)) = (inl h.0, aim b path n le h.1, aim e path n le h.2)

  both : (k : Mark) (a b : TypedTree) → Loaded (and k a b) → Loaded a × Loaded b
  both k a b (inl h) = (inl h.0, inl h.1)
  both k a b (inr (path, n, le, h)) = absurd h

  either : (k : Mark) (a b : TypedTree) → Loaded (or k a b) → Loaded a × Loaded b
  either k a b (inl h) = (inl h.0, inl h.1)
  either k a b (inr (path, n, le, h)) = absurd h

  one : (k : Mark) (o : UnaryOp) (a : TypedTree) → Loaded (unary k o a) → Loaded a
  one k o a (inl h) = inl h
  one k o a (inr (path, n, le, h)) = absurd h

  two : (k : Mark) (o : BinaryOp) (a b : TypedTree) → Loaded (binary k o a b) → Loaded a × Loaded b
  two k o a b (inl h) = (first_if (accesses_first o) a h.0, inl h.1)
  two k o a b (inr (path, n, le, h)) = both_if (is_get_tag o) a b path n le h

  arguments : (k : Mark) (n : Path) (ts : Trees Mark) → Loaded (call k n ts) → AllOf Loaded ts
  arguments k n ts (inl h) = silent_all ts h
  arguments k n ts (inr (path, m, le, h)) = absurd h

  base : (k : Mark) (a : TypedTree) (x : Text) → Loaded (get_attr k a x) → Loaded a
  base k a x (inl h) = by_base (base_of (annotation a)) a [] s.maximum (Silent s a) itself (λ w. inl w) h
  base k a x (inr (path, n, le, h)) =
      by_base (base_of (annotation a)) a path n (Targeted s a (x ∷ path) n) le (λ w. aim a (x ∷ path) n le w) h

  tested : (k : Mark) (a : TypedTree) (x : Text) → Loaded (has_attr k a x) → Loaded a
  tested k a x (inl h) = by_base (base_of (annotation a)) a [] s.maximum (Silent s a) itself (λ w. inl w) h
  tested k a x (inr (path, n, le, h)) = absurd h

  chained : (k : Mark) (a : TypedTree) (x : Text) (xs : List Text) → Loaded (ext_has_attr k a x xs) → Loaded a
  chained k a x xs (inl h) =
      by_chain (base_of (annotation a)) (cost_of s.schema (annotation a) x xs) (keys_of s.schema (annotation a) x xs) a h
  chained k a x xs (inr (path, n, le, h)) = absurd h

  matched : (k : Mark) (a : TypedTree) (p : List PatternElem) → Loaded (like k a p) → Loaded a
  matched k a p (inl h) = inl h
  matched k a p (inr (path, n, le, h)) = absurd h

  sorted : (k : Mark) (a : TypedTree) (n : Path) → Loaded (is_type k a n) → Loaded a
  sorted k a n (inl h) = inl h
  sorted k a n (inr (path, m, le, h)) = absurd h

  members : (k : Mark) (ts : Trees Mark) → Loaded (set_of k ts) → AllOf Loaded ts
  members k ts (inl h) = silent_all ts h
  members k ts (inr (path, n, le, h)) = absurd h

  values : (k : Mark) (fs : Fields Mark) → Loaded (record_of k fs) → FieldsOf Loaded fs
  values k fs (inl h) = silent_fields fs h
  values k fs (inr ([], n, le, h)) = absurd h
  values k fs (inr ((p ∷ path), n, le, h)) = targeted_fields fs p path n le h

  pub loaded_closed : IsClosed Loaded
  loaded_closed = record {
    marked = marked;
    choice = choice;
    both = both;
    either = either;
    one = one;
    two = two;
    arguments = arguments;
    base = base;
    tested = tested;
    chained = chained;
    matched = matched;
    sorted = sorted;
    members = members;
    values = values;
  }
