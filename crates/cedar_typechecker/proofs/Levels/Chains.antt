-- The list of an expression's chains is that of the rules, and its level is the greatest of theirs.
use Rattle.std.proofs.Common.{◌≡◌, ℕ, ◌+◌, ◌≤◌, Bool, true, false, nat_le, List, [], ◌∷◌, map, Option, Some, None, if◌then◌else◌, ◌⊎◌, inl}
use Rattle.std.proofs.Common.{inr, refl, sym, ap, subst, arith}
use Rattle.std.proofs.lemmas.Bool.{leb-true, leb-false}
use Rattle.cedar_types.specs.declared.base.expressions.operators.BinaryOp.{BinaryOp}
use Rattle.cedar_types.specs.Names.{Text, Uid, text_eq}
use Rattle.cedar_types.specs.Expressions.Tree.{lit, var, slot, unknown, if_then_else, and, or, unary, binary, call, get_attr, has_attr}
use Rattle.cedar_types.specs.Expressions.Tree.{ext_has_attr, like, is_type, set_of, record_of, Fields, no_fields, field}
use Rattle.cedar_typing.specs.Evaluation.Conformance.{IsOneOf}
use Rattle.cedar_typing.specs.TypedExpr.{TypedTree, Mark, annotation}
use Rattle.cedar_typing.proofs.Basics.{some_is, none_is}
use Rattle.cedar_typing.proofs.Basics.Members.{in_left, in_right, in_mapped}
use Rattle.cedar_typechecker.specs.Levels.Chains.{Base, an_entity, a_record, neither, base_of, field_at, Leaf, bad_leaf, leaf_of_access}
use Rattle.cedar_typechecker.specs.Levels.Chains.{leaf_of_field, leaf_of, HasChain, ends, of_entity, of_record, of_tag, of_then, of_else}
use Rattle.cedar_typechecker.specs.Levels.Chains.{of_field, Chain, ends_at, one_more, chains_of_access, chains_of_operator, chains}
use Rattle.cedar_typechecker.specs.Levels.Chains.{field_chains, greatest}
use Rattle.cedar_typechecker.specs.Levels.Laws.{ChainsAreListed, LevelIsGreatest}
use Rattle.cedar_typechecker.proofs.Levels.Greatest.{IsNotEmpty, has_chain}
use Rattle.cedar_typechecker.proofs.Levels.Inclusions.{in_either}

abbrev chain : ℕ → Leaf → Chain
chain k l = record { accesses = k; leaf = l }

-- ---- each chain is listed

-- a leaf has one chain
only : (l k : Leaf) → Some l ≡ Some k → IsOneOf (chain 0 k) (ends_at l)
only l k e = inl (ap (λ z. chain 0 z) (sym (some_is e)))

access_ends : (b : Base) (x : Text) (path : List Text) (f : List Text → List Chain) (l : Leaf)
    → leaf_of_access b ≡ Some l → IsOneOf (chain 0 l) (chains_of_access b x path f)
access_ends an_entity x path f l e = cc
access_ends a_record x path f l e = cc
access_ends neither x path f l e = only bad_leaf l e

operator_ends : (o : BinaryOp) (cs : List Chain) (a : Option Uid) (m : Mark) (b c : TypedTree)
    (path : List Text) (l : Leaf)
    → leaf_of a (binary m o b c) path ≡ Some l → IsOneOf (chain 0 l) (chains_of_operator o cs)
operator_ends BinaryOp.GetTag cs a m b c path l e = absurd (none_is e)
operator_ends o cs a m b c path l e = only bad_leaf l e

field_ends : (a : Option Uid) (fs : Fields Mark) (p : Text) (path : List Text) (l : Leaf)
    → leaf_of_field (field_at p fs) ≡ Some l → IsOneOf (chain 0 l) (field_chains a fs p path)
field_ends a no_fields p path l e = only bad_leaf l e
field_ends a (field k t fs) p path l e = by (text_eq p k) e (field_ends a fs p path l)
  where
    by : (b : Bool) → leaf_of_field (if b then Some t else field_at p fs) ≡ Some l
        → (leaf_of_field (field_at p fs) ≡ Some l → IsOneOf (chain 0 l) (field_chains a fs p path))
        → IsOneOf (chain 0 l) (if b then chains a t path else field_chains a fs p path)
    by true e f = absurd (none_is e)
    by false e f = f e

leaf_listed : (a : Option Uid) (x : TypedTree) (path : List Text) (l : Leaf)
    → leaf_of a x path ≡ Some l → IsOneOf (chain 0 l) (chains a x path)
leaf_listed a (lit m v) path l e = only _ l e
leaf_listed a (var m v) path l e = only _ l e
leaf_listed a (slot m v) path l e = only _ l e
leaf_listed a (unknown m n) path l e = only _ l e
leaf_listed a (if_then_else m b c d) path l e = absurd (none_is e)
leaf_listed a (and m b c) path l e = only _ l e
leaf_listed a (or m b c) path l e = only _ l e
leaf_listed a (unary m o b) path l e = only _ l e
leaf_listed a (binary m o b c) path l e = operator_ends o (chains a b path) a m b c path l e
leaf_listed a (call m n ts) path l e = only _ l e
leaf_listed a (get_attr m b x) path l e =
    access_ends (base_of (annotation b)) x path (chains a b) l e
leaf_listed a (has_attr m b x) path l e = only _ l e
leaf_listed a (ext_has_attr m b x xs) path l e = only _ l e
leaf_listed a (like m b p) path l e = only _ l e
leaf_listed a (is_type m b n) path l e = only _ l e
leaf_listed a (set_of m ts) path l e = only _ l e
leaf_listed a (record_of m fs) [] l e = only _ l e
leaf_listed a (record_of m fs) (p ∷ path) l e = field_ends a fs p path l e

field_listed : (a : Option Uid) (fs : Fields Mark) (p : Text) (path : List Text) (t : TypedTree)
    (c : Chain)
    → field_at p fs ≡ Some t → IsOneOf c (chains a t path) → IsOneOf c (field_chains a fs p path)
field_listed a no_fields p path t c e i = absurd (none_is e)
field_listed a (field k u fs) p path t c e i =
    by (text_eq p k) e (λ q. field_listed a fs p path t c q i)
  where
    by : (b : Bool) → (if b then Some u else field_at p fs) ≡ Some t
        → (field_at p fs ≡ Some t → IsOneOf c (field_chains a fs p path))
        → IsOneOf c (if b then chains a u path else field_chains a fs p path)
    by true e f = subst (λ z. IsOneOf c (chains a z path)) (sym (some_is e)) i
    by false e f = f e

listed : (a : Option Uid) {x : TypedTree} {path : List Text} {k : ℕ} {l : Leaf}
    → HasChain a x path k l → IsOneOf (chain k l) (chains a x path)
listed a (ends {x = x} {path = path} {l = l} e) = leaf_listed a x path l e
listed a (of_entity {b = b} {x = x} {path = path} {k = k} {l = l} e h) =
    subst (λ z. IsOneOf (chain (k + 1) l) (chains_of_access z x path (chains a b))) (sym e)
    (in_mapped one_more (chain k l) (chains a b path) (listed a h))
listed a (of_record {b = b} {x = x} {path = path} {k = k} {l = l} e h) =
    subst (λ z. IsOneOf (chain k l) (chains_of_access z x path (chains a b))) (sym e) (listed a h)
listed a (of_tag {b = b} {path = path} {k = k} {l = l} h) =
    in_mapped one_more (chain k l) (chains a b path) (listed a h)
listed a (of_then {c = c} {d = d} {path = path} {k = k} {l = l} h) =
    in_left (chain k l) (chains a c path) (chains a d path) (listed a h)
listed a (of_else {c = c} {d = d} {path = path} {k = k} {l = l} h) =
    in_right (chain k l) (chains a c path) (chains a d path) (listed a h)
listed a (of_field {fs = fs} {t = t} {p = p} {path = path} {k = k} {l = l} e h) =
    field_listed a fs p path t (chain k l) e (listed a h)

-- ---- nothing else is listed

more_back : (c : Chain) (cs : List Chain)
    → IsOneOf c (map one_more cs) → (d : Chain) × IsOneOf d cs × (c ≡ one_more d)
more_back c [] i = absurd i
more_back c (d ∷ cs) (inl e) = (d, inl refl, e)
more_back c (d ∷ cs) (inr i) = let r = more_back c cs i in (r.0, inr r.1, r.2)

module _ (a : Option Uid) where
  abbrev Has : TypedTree → List Text → Chain → Type 0
  Has x path c = HasChain a x path c.accesses c.leaf

  leaf_chain : (x : TypedTree) (path : List Text) (l : Leaf) → leaf_of a x path ≡ Some l
      → (c : Chain) → IsOneOf c (ends_at l) → Has x path c
  leaf_chain x path l q c (inl e) = subst (λ z. Has x path z) (sym e) (ends q)
  leaf_chain x path l q c (inr i) = absurd i

  access_chain : (m : Mark) (b : TypedTree) (x : Text) (path : List Text) (c : Chain)
      → ((path : List Text) (c : Chain) → IsOneOf c (chains a b path) → Has b path c)
      → (k : Base) → base_of (annotation b) ≡ k
      → IsOneOf c (chains_of_access k x path (chains a b)) → Has (get_attr m b x) path c
  access_chain m b x path c f an_entity q i =
      let r = more_back c (chains a b path) i in
      subst (λ z. Has (get_attr m b x) path z) (sym r.2) (of_entity q (f path r.0 r.1))
  access_chain m b x path c f a_record q i = of_record q (f (x ∷ path) c i)
  access_chain m b x path c f neither q i =
      leaf_chain (get_attr m b x) path bad_leaf (ap leaf_of_access q) c i

  operator_chain : (m : Mark) (o : BinaryOp) (b d : TypedTree) (path : List Text) (c : Chain)
      → ((c : Chain) → IsOneOf c (chains a b path) → Has b path c)
      → IsOneOf c (chains_of_operator o (chains a b path)) → Has (binary m o b d) path c
  operator_chain m BinaryOp.GetTag b d path c f i =
      let r = more_back c (chains a b path) i in
      subst (λ z. Has (binary m BinaryOp.GetTag b d) path z) (sym r.2) (of_tag (f r.0 r.1))
  operator_chain m o b d path c f i = leaf_chain (binary m o b d) path bad_leaf refl c i

  -- a chain of the value at a key, or the end if there is no such key
  abbrev FieldHas : Fields Mark → Text → List Text → Chain → Type 0
  FieldHas fs p path c =
      ((t : TypedTree) × (field_at p fs ≡ Some t) × Has t path c)
      ⊎ ((field_at p fs ≡ None) × IsOneOf c (ends_at bad_leaf))

  field_by : (b : Bool) (t : TypedTree) (fs : Fields Mark) (p : Text) (path : List Text) (c : Chain)
      → (IsOneOf c (chains a t path) → Has t path c)
      → (IsOneOf c (field_chains a fs p path) → FieldHas fs p path c)
      → IsOneOf c (if b then chains a t path else field_chains a fs p path)
      → ((u : TypedTree) × ((if b then Some t else field_at p fs) ≡ Some u) × Has u path c)
      ⊎ (((if b then Some t else field_at p fs) ≡ None) × IsOneOf c (ends_at bad_leaf))
  field_by true t fs p path c f g i = inl (t, refl, f i)
  field_by false t fs p path c f g i = g i

  record_chain : (m : Mark) (fs : Fields Mark) (p : Text) (path : List Text) (c : Chain)
      → FieldHas fs p path c → Has (record_of m fs) (p ∷ path) c
  record_chain m fs p path c (inl h) = of_field h.1 h.2
  record_chain m fs p path c (inr h) =
      leaf_chain (record_of m fs) (p ∷ path) bad_leaf (ap leaf_of_field h.0) c h.1

  mutual
    has : (x : TypedTree) (path : List Text) (c : Chain)
        → IsOneOf c (chains a x path) → Has x path c
    has (lit m v) path c i = leaf_chain (lit m v) path _ refl c i
    has (var m v) path c i = leaf_chain (var m v) path _ refl c i
    has (slot m v) path c i = leaf_chain (slot m v) path _ refl c i
    has (unknown m n) path c i = leaf_chain (unknown m n) path _ refl c i
    has (if_then_else m b d e) path c i =
        in_either (chains a d path) (chains a e path) c (Has (if_then_else m b d e) path c) i
        (λ j. of_then (has d path c j)) (λ j. of_else (has e path c j))
    has (and m b d) path c i = leaf_chain (and m b d) path _ refl c i
    has (or m b d) path c i = leaf_chain (or m b d) path _ refl c i
    has (unary m o b) path c i = leaf_chain (unary m o b) path _ refl c i
    has (binary m o b d) path c i = operator_chain m o b d path c (has b path) i
    has (call m n ts) path c i = leaf_chain (call m n ts) path _ refl c i
    has (get_attr m b x) path c i =
        access_chain m b x path c (has b) (base_of (annotation b)) refl i
    has (has_attr m b x) path c i = leaf_chain (has_attr m b x) path _ refl c i
    has (ext_has_attr m b x xs) path c i = leaf_chain (ext_has_attr m b x xs) path _ refl c i
    has (like m b p) path c i = leaf_chain (like m b p) path _ refl c i
    has (is_type m b n) path c i = leaf_chain (is_type m b n) path _ refl c i
    has (set_of m ts) path c i = leaf_chain (set_of m ts) path _ refl c i
    has (record_of m fs) [] c i = leaf_chain (record_of m fs) [] _ refl c i
    has (record_of m fs) (p ∷ path) c i = record_chain m fs p path c (field_has fs p path c i)

    field_has : (fs : Fields Mark) (p : Text) (path : List Text) (c : Chain)
        → IsOneOf c (field_chains a fs p path) → FieldHas fs p path c
    field_has no_fields p path c i = inr (refl, i)
    field_has (field k t fs) p path c i =
        field_by (text_eq p k) t fs p path c (has t path c) (field_has fs p path c) i

pub chains_are_listed : ChainsAreListed
chains_are_listed a x path k l = (λ h. listed a h, λ i. has a x path (chain k l) i)

-- ---- the greatest

reached : (cs : List Chain)
    → IsNotEmpty cs → (c : Chain) × IsOneOf c cs × (c.accesses ≡ greatest cs)
reached [] h = absurd h
reached (c ∷ []) h = (c, inl refl, omega arith)
reached (c ∷ d ∷ cs) h = by (nat_le (greatest (d ∷ cs)) c.accesses) refl (reached (d ∷ cs) tt)
  where
    by : (b : Bool) → nat_le (greatest (d ∷ cs)) c.accesses ≡ b
        → (e : Chain) × IsOneOf e (d ∷ cs) × (e.accesses ≡ greatest (d ∷ cs))
        → (e : Chain) × IsOneOf e (c ∷ d ∷ cs) × (e.accesses ≡ greatest (c ∷ d ∷ cs))
    by true q r =
        let le : greatest (d ∷ cs) ≤ c.accesses = leb-true (greatest (d ∷ cs)) c.accesses q in
        (c, inl refl, omega arith)
    by false q r =
        let less = leb-false (greatest (d ∷ cs)) c.accesses q in
        let same : r.0.accesses ≡ greatest (d ∷ cs) = r.2 in
        (r.0, inr r.1, omega arith)

bounded : (cs : List Chain) (c : Chain) → IsOneOf c cs → c.accesses ≤ greatest cs
bounded [] c i = absurd i
bounded (d ∷ cs) c (inl e) =
    let same : c.accesses ≡ d.accesses = ap (λ z. z.accesses) e in omega arith
bounded (d ∷ cs) c (inr i) = let le = bounded cs c i in omega arith

pub level_is_greatest : LevelIsGreatest
level_is_greatest a x path =
    let r = reached (chains a x path) (has_chain a x path) in (
      (r.0.leaf, subst (λ k. HasChain a x path k r.0.leaf) r.2 (has a x path r.0 r.1)),
      λ k l h. bounded (chains a x path) (chain k l) (listed a h),
    )
