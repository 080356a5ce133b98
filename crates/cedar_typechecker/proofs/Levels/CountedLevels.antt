-- The level that the program counts is the level, up to the greatest number to which it counts.
use Rattle.std.proofs.Common.{◌≡◌, ℕ, ◌+◌, max, Bool, true, false, List, [], ◌∷◌, ◌++◌, map, Option, if◌then◌else◌, refl, sym, ap, ◌∙◌}
use Rattle.std.proofs.Common.{arith}
use Rattle.cedar_types.specs.declared.base.expressions.operators.BinaryOp.{BinaryOp}
use Rattle.cedar_types.specs.Names.{Text, Uid, text_eq}
use Rattle.cedar_types.specs.Expressions.Tree.{lit, var, slot, unknown, if_then_else, and, or, unary, binary, call, get_attr, has_attr}
use Rattle.cedar_types.specs.Expressions.Tree.{ext_has_attr, like, is_type, set_of, record_of, Fields, no_fields, field}
use Rattle.cedar_typing.specs.TypedExpr.{TypedTree, Mark, annotation}
use Rattle.cedar_typechecker.specs.Levels.Chains.{Base, an_entity, a_record, neither, base_of, is_get_tag, Chain, one_more}
use Rattle.cedar_typechecker.specs.Levels.Chains.{chains_of_access, chains_of_operator, chains, field_chains, greatest}
use Rattle.cedar_typechecker.specs.Levels.Demands.{capped, raised, by_base, counted_level, counted_at_key, has_key}
use Rattle.cedar_typechecker.specs.Levels.Shared.{is_constant, BranchesAreShared, FieldsAreShared}
use Rattle.cedar_typechecker.proofs.Levels.Greatest.{IsNotEmpty, has_chain, greatest_of_both, greatest_more}

raised_is : (k j : ℕ) → k ≡ capped j → raised k 1 ≡ capped (j + 1)
raised_is k j h = omega arith

more_is : (k : ℕ) (cs : List Chain) → IsNotEmpty cs → k ≡ capped (greatest cs)
    → raised k 1 ≡ capped (greatest (map one_more cs))
more_is k cs h e = raised_is k (greatest cs) e ∙ ap capped (sym (greatest_more cs h))

twice : (cs : List Chain) → greatest (cs ++ cs) ≡ greatest cs
twice cs = let e = greatest_of_both cs cs in omega arith

either : (j k : ℕ) (cs ds : List Chain) → j ≡ capped (greatest cs) → k ≡ capped (greatest ds)
    → max j k ≡ capped (greatest (cs ++ ds))
either j k cs ds h i = let e = greatest_of_both cs ds in omega arith

module _ (r : Option Uid) where
  abbrev pub Is : ℕ → List Chain → Type 0
  Is k cs = k ≡ capped (greatest cs)

  of_if : (d : Bool) (b c : TypedTree) (path : List Text) → (d ≡ true → b ≡ c)
      → Is (counted_level b path) (chains r b path) → Is (counted_level c path) (chains r c path)
      → Is (if d then counted_level b path else max (counted_level b path) (counted_level c path))
      (chains r b path ++ chains r c path)
  of_if true b c path s h i =
      h ∙ ap capped (sym (twice (chains r b path)) ∙ ap
      (λ x. greatest (chains r b path ++ chains r x path)) (s refl))
  of_if false b c path s h i =
      either (counted_level b path) (counted_level c path) (chains r b path) (chains r c path) h i

  of_operator : (o : BinaryOp) (k : ℕ) (cs : List Chain) → IsNotEmpty cs → Is k cs
      → Is (if is_get_tag o then raised k 1 else 0) (chains_of_operator o cs)
  of_operator BinaryOp.GetTag k cs h e = more_is k cs h e
  of_operator BinaryOp.Eq k cs h e = refl
  of_operator BinaryOp.Less k cs h e = refl
  of_operator BinaryOp.LessEq k cs h e = refl
  of_operator BinaryOp.Add k cs h e = refl
  of_operator BinaryOp.Sub k cs h e = refl
  of_operator BinaryOp.Mul k cs h e = refl
  of_operator BinaryOp.In k cs h e = refl
  of_operator BinaryOp.Contains k cs h e = refl
  of_operator BinaryOp.ContainsAll k cs h e = refl
  of_operator BinaryOp.ContainsAny k cs h e = refl
  of_operator BinaryOp.HasTag k cs h e = refl

  of_access : (b : Base) (a : TypedTree) (x : Text) (path : List Text)
      → ((p : List Text) → Is (counted_level a p) (chains r a p))
      → Is (by_base b (raised (counted_level a path) 1) (counted_level a (x ∷ path)) 0)
      (chains_of_access b x path (chains r a))
  of_access an_entity a x path h =
      more_is (counted_level a path) (chains r a path) (has_chain r a path) (h path)
  of_access a_record a x path h = h (x ∷ path)
  of_access neither a x path h = refl

  with_key : (b c : Bool) (j k : ℕ) → (c ≡ false → k ≡ 0) → (if b then true else c) ≡ false
      → (if b then j else k) ≡ 0
  with_key true c j k h e = cc
  with_key false c j k h e = h e

  no_key : (fs : Fields Mark) (p : Text) (path : List Text) → has_key p fs ≡ false
      → counted_at_key fs p path ≡ 0
  no_key no_fields p path e = refl
  no_key (field k t fs) p path e =
      with_key (text_eq p k) (has_key p fs) (counted_level t path) (counted_at_key fs p path)
      (no_key fs p path) e

  where_keyed : (b : Bool) (k : ℕ) → (b ≡ false → k ≡ 0) → (if b then k else 0) ≡ k
  where_keyed true k h = refl
  where_keyed false k h = sym (h refl)

  of_choice : (b : Bool) (j k : ℕ) (cs ds : List Chain) → Is j cs → Is k ds
      → Is (if b then j else k) (if b then cs else ds)
  of_choice true j k cs ds h i = h
  of_choice false j k cs ds h i = i

  mutual
    pub level_is : (x : TypedTree) (path : List Text) → BranchesAreShared x
        → Is (counted_level x path) (chains r x path)
    level_is (lit m x) path s = refl
    level_is (var m x) path s = refl
    level_is (slot m x) path s = refl
    level_is (unknown m x) path s = refl
    level_is (if_then_else m a b c) path s =
        of_if (is_constant (annotation a)) b c path s.0 (level_is b path s.2) (level_is c path s.3)
    level_is (and m a b) path s = refl
    level_is (or m a b) path s = refl
    level_is (unary m o a) path s = refl
    level_is (binary m o a b) path s =
        of_operator o (counted_level a path) (chains r a path) (has_chain r a path)
        (level_is a path s.0)
    level_is (call m n ts) path s = refl
    level_is (get_attr m a x) path s =
        of_access (base_of (annotation a)) a x path (λ p. level_is a p s)
    level_is (has_attr m a x) path s = refl
    level_is (ext_has_attr m a x xs) path s = refl
    level_is (like m a p) path s = refl
    level_is (is_type m a n) path s = refl
    level_is (set_of m ts) path s = refl
    level_is (record_of m fs) [] s = refl
    level_is (record_of m fs) (p ∷ path) s =
        where_keyed (has_key p fs) (counted_at_key fs p path) (no_key fs p path) ∙ level_at_key_is
        fs p path s

    level_at_key_is : (fs : Fields Mark) (p : Text) (path : List Text) → FieldsAreShared fs
        → Is (counted_at_key fs p path) (field_chains r fs p path)
    level_at_key_is no_fields p path s = refl
    level_at_key_is (field k t fs) p path s =
        of_choice (text_eq p k) (counted_level t path) (counted_at_key fs p path) (chains r t path)
        (field_chains r fs p path) (level_is t path s.0) (level_at_key_is fs p path s.1)
