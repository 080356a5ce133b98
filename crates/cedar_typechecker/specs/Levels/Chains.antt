-- Access chains of a typed expression: from the entity that is its value, back through each entity
-- that is accessed on the way, to a leaf, such as `principal`. The expression's level is the
-- greatest number of accesses in a chain. For example, `(if b then principal.user else
-- principal).user` has a chain with two accesses and one with one, so its level is 2.
use Rattle.std.specs.Prelude.{◌≡◌, ℕ, ◌+◌, max, Bool, true, false, List, [], ◌∷◌, ◌++◌, map, Option, Some, None, if◌then◌else◌}
use Rattle.cedar_types.specs.declared.base.expressions.operators.BinaryOp.{BinaryOp}
use Rattle.cedar_types.specs.Names.{Text, Uid, uid_eq, text_eq}
use Rattle.cedar_types.specs.Expressions.Tree.{Lit, entity, lit, var, slot, unknown, if_then_else, and, or, unary, binary, call, get_attr}
use Rattle.cedar_types.specs.Expressions.Tree.{has_attr, ext_has_attr, like, is_type, set_of, record_of, Fields, no_fields, field}
use Rattle.cedar_types.specs.Types.{Ty, TRecord, TEntity}
use Rattle.cedar_typing.specs.TypedExpr.{TypedTree, Mark, annotation}

-- ---- bases of accesses

-- the base of an access, by the type that was found: an entity whose types are known, or a record.
-- An entity of any type is neither, because the schema does not tell its attributes
pub data Base : Type 0 where
  an_entity a_record neither : Base

abbrev pub base_of_type : Ty → Base
base_of_type (TEntity ps) = an_entity
base_of_type (TRecord xs o) = a_record
base_of_type t = neither

abbrev pub base_of : Option Ty → Base
base_of None = neither
base_of (Some t) = base_of_type t

abbrev pub is_get_tag : BinaryOp → Bool
is_get_tag BinaryOp.GetTag = true
is_get_tag o = false

-- the value of a record literal at a key
abbrev pub field_at : Text → Fields Mark → Option TypedTree
field_at p no_fields = None
field_at p (field k t fs) = if text_eq p k then Some t else field_at p fs

-- ---- leaves, at which chains end

pub data Leaf : Type 0 where
  -- a variable, or the literal of the environment's action: each request names their entities
  good_leaf : Leaf
  -- another entity literal, or a slot, whose entity need not be in a slice
  literal_leaf : Leaf
  -- any other expression
  bad_leaf : Leaf

abbrev pub entity_leaf : Option Uid → Uid → Leaf
entity_leaf (Some a) u = if uid_eq u a then good_leaf else literal_leaf
entity_leaf None u = literal_leaf

abbrev pub leaf_of_literal : Option Uid → Lit → Leaf
leaf_of_literal a (entity u) = entity_leaf a u
leaf_of_literal a x = bad_leaf

-- `b.x` is no leaf if b is an entity or a record
abbrev pub leaf_of_access : Base → Option Leaf
leaf_of_access neither = Some bad_leaf
leaf_of_access b = None

-- a record literal is no leaf if it has the first key of the path
abbrev pub leaf_of_field : Option TypedTree → Option Leaf
leaf_of_field None = Some bad_leaf
leaf_of_field (Some t) = None

abbrev pub leaf_of_record : List Text → Fields Mark → Option Leaf
leaf_of_record [] fs = Some bad_leaf
leaf_of_record (p ∷ path) fs = leaf_of_field (field_at p fs)

-- the leaf that an expression is along a path, by the environment's action; `None` if its chains go
-- on
abbrev pub leaf_of : Option Uid → TypedTree → List Text → Option Leaf
leaf_of a (lit m x) path = Some (leaf_of_literal a x)
leaf_of a (var m x) path = Some good_leaf
leaf_of a (slot m x) path = Some literal_leaf
leaf_of a (if_then_else m b c d) path = None
leaf_of a (binary m o b c) path = if is_get_tag o then None else Some bad_leaf
leaf_of a (get_attr m b x) path = leaf_of_access (base_of (annotation b))
leaf_of a (record_of m fs) path = leaf_of_record path fs
leaf_of a x path = Some bad_leaf

-- ---- chains

-- an expression has a chain with this number of accesses that ends at this leaf, along a path of
-- attributes that are selected from its value
pub data HasChain (a : Option Uid) : TypedTree → List Text → ℕ → Leaf → Type 0 where
  -- a leaf is its own chain, without an access
  ends : {x : TypedTree} {path : List Text} {l : Leaf}
      → leaf_of a x path ≡ Some l → HasChain a x path 0 l
  -- `b.x` on an entity has the chains of b along the path, each with one access more
  of_entity : {m : Mark} {b : TypedTree} {x : Text} {path : List Text} {k : ℕ} {l : Leaf}
      → base_of (annotation b) ≡ an_entity
      → HasChain a b path k l → HasChain a (get_attr m b x) path (k + 1) l
  -- `b.x` on a record has the chains of b along x and then the path, because the record is part of
  -- its entity's entry
  of_record : {m : Mark} {b : TypedTree} {x : Text} {path : List Text} {k : ℕ} {l : Leaf}
      → base_of (annotation b) ≡ a_record
      → HasChain a b (x ∷ path) k l → HasChain a (get_attr m b x) path k l
  -- `b.getTag(c)` has the chains of b along the path, each with one access more
  of_tag : {m : Mark} {b c : TypedTree} {path : List Text} {k : ℕ} {l : Leaf}
      → HasChain a b path k l → HasChain a (binary m BinaryOp.GetTag b c) path (k + 1) l
  -- an `if` has the chains of both branches, because either branch may give its value
  of_then : {m : Mark} {b c d : TypedTree} {path : List Text} {k : ℕ} {l : Leaf}
      → HasChain a c path k l → HasChain a (if_then_else m b c d) path k l
  of_else : {m : Mark} {b c d : TypedTree} {path : List Text} {k : ℕ} {l : Leaf}
      → HasChain a d path k l → HasChain a (if_then_else m b c d) path k l
  -- a record literal has the chains of its value at the first key, along the rest of the path
  of_field : {m : Mark} {fs : Fields Mark} {t : TypedTree} {p : Text} {path : List Text} {k : ℕ}
      {l : Leaf}
      → field_at p fs ≡ Some t → HasChain a t path k l → HasChain a (record_of m fs) (p ∷ path) k l

-- ---- all chains of an expression

-- a chain: the number of entities that it accesses, and its leaf
pub record Chain : Type 0 where
  pub accesses : ℕ
  pub leaf : Leaf

abbrev pub ends_at : Leaf → List Chain
ends_at l = record { accesses = 0; leaf = l } ∷ []

abbrev pub one_more : Chain → Chain
one_more c = record { accesses = c.accesses + 1; leaf = c.leaf }

abbrev pub chains_of_access : Base → Text → List Text → (List Text → List Chain) → List Chain
chains_of_access an_entity x path of_base = map one_more (of_base path)
chains_of_access a_record x path of_base = of_base (x ∷ path)
chains_of_access neither x path of_base = ends_at bad_leaf

abbrev pub chains_of_operator : BinaryOp → List Chain → List Chain
chains_of_operator BinaryOp.GetTag of_first = map one_more of_first
chains_of_operator o of_first = ends_at bad_leaf

abbrev pub along_keys : List Text → (Text → List Text → List Chain) → List Chain
along_keys [] of_value = ends_at bad_leaf
along_keys (p ∷ path) of_value = of_value p path

abbrev mutual
  -- the chains of an expression along a path, by the environment's action
  pub chains : Option Uid → TypedTree → List Text → List Chain
  chains a (lit m x) path = ends_at (leaf_of_literal a x)
  chains a (var m x) path = ends_at good_leaf
  chains a (slot m x) path = ends_at literal_leaf
  chains a (unknown m n) path = ends_at bad_leaf
  chains a (if_then_else m b c d) path = chains a c path ++ chains a d path
  chains a (and m b c) path = ends_at bad_leaf
  chains a (or m b c) path = ends_at bad_leaf
  chains a (unary m o b) path = ends_at bad_leaf
  chains a (binary m o b c) path = chains_of_operator o (chains a b path)
  chains a (call m n ts) path = ends_at bad_leaf
  chains a (get_attr m b x) path = chains_of_access (base_of (annotation b)) x path (chains a b)
  chains a (has_attr m b x) path = ends_at bad_leaf
  chains a (ext_has_attr m b x xs) path = ends_at bad_leaf
  chains a (like m b p) path = ends_at bad_leaf
  chains a (is_type m b n) path = ends_at bad_leaf
  chains a (set_of m ts) path = ends_at bad_leaf
  chains a (record_of m fs) path = along_keys path (field_chains a fs)

  -- the chains of a record literal's value at a key
  pub field_chains : Option Uid → Fields Mark → Text → List Text → List Chain
  field_chains a no_fields p path = ends_at bad_leaf
  field_chains a (field k t fs) p path =
      if text_eq p k then chains a t path else field_chains a fs p path

abbrev pub greatest : List Chain → ℕ
greatest [] = 0
greatest (c ∷ cs) = max c.accesses (greatest cs)

-- the level of an expression along a path: the most entities that one of its chains accesses,
-- because evaluation may follow any of them
abbrev pub level : Option Uid → TypedTree → List Text → ℕ
level a x path = greatest (chains a x path)
