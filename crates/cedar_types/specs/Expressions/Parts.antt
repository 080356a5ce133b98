-- The parts of an expression, and the parts of these.
use Rattle.std.specs.Prelude.{Bool, false, ◌||◌, cond, List, [], ◌∷◌, ◌++◌, map}
use Rattle.cedar_types.specs.declared.base.expressions.subexpressions.ExprIterator.{ExprIterator}
use Rattle.cedar_types.specs.declared.base.names.slots.SlotId.{SlotId}
use Rattle.cedar_types.specs.Expressions.Tree.{Tree, lit, var, slot, unknown, if_then_else, and, or, unary, binary, call, get_attr}
use Rattle.cedar_types.specs.Expressions.Tree.{has_attr, ext_has_attr, like, is_type, set_of, record_of, Trees, no_trees, tree, Fields}
use Rattle.cedar_types.specs.Expressions.Tree.{no_fields, field}
use Rattle.cedar_types.specs.Expressions.TreeEq.{slot_eq}
use Rattle.cedar_types.specs.Expressions.View.{Written, written}

abbrev mutual
  -- an expression, then all parts of its parts, from its last part to its first
  pub subexpressions : {D : Type 0} → Tree D → List (Tree D)
  subexpressions (lit d x) = lit d x ∷ []
  subexpressions (var d x) = var d x ∷ []
  subexpressions (slot d x) = slot d x ∷ []
  subexpressions (unknown d x) = unknown d x ∷ []
  subexpressions (if_then_else d a b c) =
      if_then_else d a b c ∷ (subexpressions c ++ (subexpressions b ++ subexpressions a))
  subexpressions (and d a b) = and d a b ∷ (subexpressions b ++ subexpressions a)
  subexpressions (or d a b) = or d a b ∷ (subexpressions b ++ subexpressions a)
  subexpressions (unary d o a) = unary d o a ∷ subexpressions a
  subexpressions (binary d o a b) = binary d o a b ∷ (subexpressions b ++ subexpressions a)
  subexpressions (call d n ts) = call d n ts ∷ subexpressions_of_all ts
  subexpressions (get_attr d a x) = get_attr d a x ∷ subexpressions a
  subexpressions (has_attr d a x) = has_attr d a x ∷ subexpressions a
  subexpressions (ext_has_attr d a x xs) = ext_has_attr d a x xs ∷ subexpressions a
  subexpressions (like d a p) = like d a p ∷ subexpressions a
  subexpressions (is_type d a n) = is_type d a n ∷ subexpressions a
  subexpressions (set_of d ts) = set_of d ts ∷ subexpressions_of_all ts
  subexpressions (record_of d fs) = record_of d fs ∷ subexpressions_of_fields fs

  -- the subexpressions of a list, from its last member to its first
  pub subexpressions_of_all : {D : Type 0} → Trees D → List (Tree D)
  subexpressions_of_all no_trees = []
  subexpressions_of_all (tree t ts) = subexpressions_of_all ts ++ subexpressions t

  -- the subexpressions of a record, from its last field to its first
  pub subexpressions_of_fields : {D : Type 0} → Fields D → List (Tree D)
  subexpressions_of_fields no_fields = []
  subexpressions_of_fields (field k t fs) = subexpressions_of_fields fs ++ subexpressions t

abbrev mutual
  -- whether this slot occurs in an expression
  pub mentions_slot : {D : Type 0} → SlotId → Tree D → Bool
  mentions_slot s (lit d x) = false
  mentions_slot s (var d x) = false
  mentions_slot s (slot d x) = slot_eq x s
  mentions_slot s (unknown d x) = false
  mentions_slot s (if_then_else d a b c) =
      mentions_slot s a || (mentions_slot s b || mentions_slot s c)
  mentions_slot s (and d a b) = mentions_slot s a || mentions_slot s b
  mentions_slot s (or d a b) = mentions_slot s a || mentions_slot s b
  mentions_slot s (unary d o a) = mentions_slot s a
  mentions_slot s (binary d o a b) = mentions_slot s a || mentions_slot s b
  mentions_slot s (call d n ts) = any_mentions_slot s ts
  mentions_slot s (get_attr d a x) = mentions_slot s a
  mentions_slot s (has_attr d a x) = mentions_slot s a
  mentions_slot s (ext_has_attr d a x xs) = mentions_slot s a
  mentions_slot s (like d a p) = mentions_slot s a
  mentions_slot s (is_type d a n) = mentions_slot s a
  mentions_slot s (set_of d ts) = any_mentions_slot s ts
  mentions_slot s (record_of d fs) = field_mentions_slot s fs

  -- whether the slot occurs in any member of a list
  pub any_mentions_slot : {D : Type 0} → SlotId → Trees D → Bool
  any_mentions_slot s no_trees = false
  any_mentions_slot s (tree t ts) = mentions_slot s t || any_mentions_slot s ts

  -- whether the slot occurs in any field of a record
  pub field_mentions_slot : {D : Type 0} → SlotId → Fields D → Bool
  field_mentions_slot s no_fields = false
  field_mentions_slot s (field k t fs) = mentions_slot s t || field_mentions_slot s fs

-- whether an expression is this slot itself
abbrev pub is_slot : {D : Type 0} → SlotId → Tree D → Bool
is_slot s (slot d x) = slot_eq x s
is_slot s _ = false

-- ---- the direct parts, without parts of these

-- the members of a list
abbrev pub listed : {D : Type 0} → Trees D → List (Tree D)
listed no_trees = []
listed (tree t ts) = t ∷ listed ts

-- the field values of a record, by ascending keys
abbrev pub field_values : {D : Type 0} → Fields D → List (Tree D)
field_values no_fields = []
field_values (field k t fs) = t ∷ field_values fs

-- the parts of an expression, from the first to the last
abbrev pub parts : {D : Type 0} → Tree D → List (Tree D)
parts (lit d x) = []
parts (var d x) = []
parts (slot d x) = []
parts (unknown d x) = []
parts (if_then_else d a b c) = a ∷ b ∷ c ∷ []
parts (and d a b) = a ∷ b ∷ []
parts (or d a b) = a ∷ b ∷ []
parts (unary d o a) = a ∷ []
parts (binary d o a b) = a ∷ b ∷ []
parts (call d n ts) = listed ts
parts (get_attr d a x) = a ∷ []
parts (has_attr d a x) = a ∷ []
parts (ext_has_attr d a x xs) = a ∷ []
parts (like d a p) = a ∷ []
parts (is_type d a n) = a ∷ []
parts (set_of d ts) = listed ts
parts (record_of d fs) = field_values fs

-- ---- the expressions that an iterator has still to visit

-- a stack of expressions gives the subexpressions of its last, then those of the one before it
abbrev pub from_last : {D : Type 0} → List (Tree D) → List (Tree D)
from_last [] = []
from_last (t ∷ ts) = from_last ts ++ subexpressions t

-- whether the iterator has ended
unfoldable pub has_ended : {T : Type 0} → ExprIterator T → Bool
has_ended s = s.ended

-- the expressions that are still to come
unfoldable pub expressions_left : {T : Type 0} → ExprIterator T → List (Tree Written)
expressions_left {T} s =
    cond s.ended [] (from_last (map (λ e. written {T = T} e.now) s.stack.items))
