-- Evaluation of expressions. It knows nothing of types, of typing, and of an expression's depth.
use Rattle.std.specs.Prelude.{Bool, true, false, ◌&&◌, ◌||◌, List, [], ◌∷◌, Option, Some, None, is_some, ℤ, pos, neg_ℤ, ◌+ℤ◌, ◌-ℤ◌, ◌*ℤ◌}
use Rattle.std.specs.Prelude.{int_lt, int_le, ◌^◌, nat_eq, encode_utf8, if◌then◌else◌}
use Rattle.std.specs.List.{list_any}
use Rattle.cedar_types.specs.declared.base.expressions.operators.Var.{Var}
use Rattle.cedar_types.specs.declared.base.expressions.operators.UnaryOp.{UnaryOp}
use Rattle.cedar_types.specs.declared.base.expressions.operators.BinaryOp.{BinaryOp}
use Rattle.cedar_types.specs.declared.base.expressions.patterns.PatternElem.{PatternElem}
use Rattle.cedar_types.specs.Names.{Text, Path, Uid, path_eq, uid_eq}
use Rattle.cedar_types.specs.Expressions.Tree.{Lit, bool, long, string, entity, Tree, lit, var, slot, unknown, if_then_else, and, or, unary}
use Rattle.cedar_types.specs.Expressions.Tree.{binary, call, get_attr, has_attr, ext_has_attr, like, is_type, set_of, record_of, Trees}
use Rattle.cedar_types.specs.Expressions.Tree.{no_trees, tree, Fields, no_fields, field}
use Rattle.cedar_types.specs.Schemas.{uid_is_among}
use Rattle.cedar_types.specs.Values.{Value, VBool, VLong, VString, VEntity, VSet, VRecord, VExtension, Values, no_values, more_values}
use Rattle.cedar_types.specs.Values.{no_entries, entry_at}
use Rattle.cedar_types.specs.Values.Stores.{Entity, Store, entity_at}
use Rattle.cedar_typing.specs.Evaluation.Equality.{same_value, all_values, any_value}
use Rattle.cedar_typing.specs.Evaluation.Outcomes.{Test, Says, Stops, test_of, of_test, and_test, or_test, not_test, choose, on_value}
use Rattle.cedar_typing.specs.Evaluation.Outcomes.{then_test, Outcomes, GiveAll, more_outcomes, on_values, EntryOutcomes, GiveEntries}
use Rattle.cedar_typing.specs.Evaluation.Outcomes.{more_entry_outcomes, record_outcome}
use Rattle.cedar_typing.specs.Evaluation.World.{Request, Interpretation, call_value, has_pair, World, TypeFailure, AbsentAttribute}
use Rattle.cedar_typing.specs.Evaluation.World.{AbsentTag, MissingEntity, Overflow, ExtensionFailure, UnlinkedSlot, UnknownValue, Outcome}
use Rattle.cedar_typing.specs.Evaluation.World.{Gives, Fails}

-- ---- leaves

abbrev pub literal_value : Lit → Value
literal_value (bool b) = VBool b
literal_value (long n) = VLong n
literal_value (string t) = VString t
literal_value (entity u) = VEntity u

abbrev pub variable_value : Request → Var → Value
variable_value r Var.Principal = VEntity r.principal
variable_value r Var.Action = VEntity r.action
variable_value r Var.Resource = VEntity r.resource
variable_value r Var.Context = VRecord r.context

-- the value of a slot: the entity to which it is bound
abbrev pub bound_outcome : Option Uid → Outcome
bound_outcome None = Fails UnlinkedSlot
bound_outcome (Some u) = Gives (VEntity u)

-- ---- numbers

abbrev pub long_limit : ℤ
long_limit = pos (2 ^ 63)

-- a number of 64 bits, or overflow
abbrev pub in_range : ℤ → Outcome
in_range n =
    if int_le (neg_ℤ long_limit) n && int_lt n long_limit then Gives (VLong n)
    else Fails Overflow

abbrev pub negation : Value → Outcome
negation (VLong n) = in_range (neg_ℤ n)
negation v = Fails TypeFailure

-- an operator on two longs. On other values it fails
abbrev pub on_longs : (ℤ → ℤ → Outcome) → Value → Value → Outcome
on_longs f (VLong m) (VLong n) = f m n
on_longs f v w = Fails TypeFailure

-- `<` or `<=`: on two longs the test, on two values of one overloaded type the interpretation's pairs
abbrev pub compared : List Path → (ℤ → ℤ → Bool) → List (Value × Value) → Value → Value → Outcome
compared types test pairs (VLong m) (VLong n) = Gives (VBool (test m n))
compared types test pairs (VExtension n s) (VExtension m t) =
    if path_eq n m && list_any (path_eq n) types
    then Gives (VBool (has_pair pairs (VExtension n s) (VExtension m t)))
    else Fails TypeFailure
compared types test pairs v w = Fails TypeFailure

-- ---- sets

abbrev pub is_empty : Value → Outcome
is_empty (VSet no_values) = Gives (VBool true)
is_empty (VSet (more_values v vs)) = Gives (VBool false)
is_empty v = Fails TypeFailure

-- whether the set has the member
abbrev pub has_member : Values → Value → Bool
has_member vs w = any_value (same_value w) vs

abbrev pub contains : Value → Value → Outcome
contains (VSet vs) w = Gives (VBool (has_member vs w))
contains v w = Fails TypeFailure

-- `containsAll` and `containsAny`: whether all members of the right set, or some of them, are in the left one
abbrev pub contains_all : Value → Value → Outcome
contains_all (VSet vs) (VSet ws) = Gives (VBool (all_values (has_member vs) ws))
contains_all v w = Fails TypeFailure

abbrev pub contains_any : Value → Value → Outcome
contains_any (VSet vs) (VSet ws) = Gives (VBool (any_value (has_member vs) ws))
contains_any v w = Fails TypeFailure

-- ---- entities

abbrev pub has_ancestor : Option Entity → Uid → Bool
has_ancestor None v = false
has_ancestor (Some e) v = uid_is_among e.ancestors v

-- whether u is v, or has v among its ancestors in the store
abbrev pub is_in : Store → Uid → Uid → Bool
is_in store u v = uid_eq u v || has_ancestor (entity_at store u) v

-- whether u is in a value that is an entity
abbrev pub is_in_entity : Store → Uid → Value → Bool
is_in_entity store u (VEntity v) = is_in store u v
is_in_entity store u w = false

abbrev pub is_some_entity : Value → Bool
is_some_entity (VEntity u) = true
is_some_entity v = false

-- `in`: whether u is in an entity, or in some member of a set of entities
abbrev pub entity_in : Store → Uid → Value → Outcome
entity_in store u (VEntity v) = Gives (VBool (is_in store u v))
entity_in store u (VSet vs) =
    if all_values is_some_entity vs then Gives (VBool (any_value (is_in_entity store u) vs))
    else Fails TypeFailure
entity_in store u w = Fails TypeFailure

abbrev pub value_in : Store → Value → Value → Outcome
value_in store (VEntity u) w = entity_in store u w
value_in store v w = Fails TypeFailure

-- whether the store has the entity with the attribute
abbrev pub entity_has : Option Entity → Text → Bool
entity_has None x = false
entity_has (Some e) x = is_some (entry_at x e.attributes)

-- `has` on a record, or on an entity. It is false of an entity that is not in the store
abbrev pub has_test : Store → Text → Value → Test
has_test store x (VRecord es) = Says (is_some (entry_at x es))
has_test store x (VEntity u) = Says (entity_has (entity_at store u) x)
has_test store x v = Stops TypeFailure

abbrev pub attribute_value : Option Value → Outcome
attribute_value None = Fails AbsentAttribute
attribute_value (Some v) = Gives v

abbrev pub entity_get : Option Entity → Text → Outcome
entity_get None x = Fails MissingEntity
entity_get (Some e) x = attribute_value (entry_at x e.attributes)

-- `.` on a record, or on an entity, which must be in the store
abbrev pub get : Store → Text → Value → Outcome
get store x (VRecord es) = attribute_value (entry_at x es)
get store x (VEntity u) = entity_get (entity_at store u) x
get store x v = Fails TypeFailure

-- extended `has`: it is false at the first attribute that is not there; each value but the last is tested further
abbrev pub path_test : Store → Text → List Text → Value → Test
path_test store x [] = has_test store x
path_test store x (y ∷ ys) =
    λ v. and_test (has_test store x v) (then_test (get store x v) (path_test store y ys))

abbrev pub entity_has_tag : Option Entity → Text → Bool
entity_has_tag None x = false
entity_has_tag (Some e) x = is_some (entry_at x e.tags)

abbrev pub has_tag : Store → Value → Value → Test
has_tag store (VEntity u) (VString x) = Says (entity_has_tag (entity_at store u) x)
has_tag store v w = Stops TypeFailure

abbrev pub tag_value : Option Value → Outcome
tag_value None = Fails AbsentTag
tag_value (Some v) = Gives v

abbrev pub entity_tag : Option Entity → Text → Outcome
entity_tag None x = Fails MissingEntity
entity_tag (Some e) x = tag_value (entry_at x e.tags)

abbrev pub get_tag : Store → Value → Value → Outcome
get_tag store (VEntity u) (VString x) = entity_tag (entity_at store u) x
get_tag store v w = Fails TypeFailure

-- `is`: whether an entity is of the type
abbrev pub is_of : Path → Value → Outcome
is_of p (VEntity u) = Gives (VBool (path_eq u.entity_type p))
is_of p v = Fails TypeFailure

-- ---- patterns

-- the rest of a text after a prefix, if it begins with it
abbrev pub after_prefix : Text → Text → Option Text
after_prefix [] t = Some t
after_prefix (x ∷ xs) [] = None
after_prefix (x ∷ xs) (y ∷ ys) = if nat_eq x y then after_prefix xs ys else None

abbrev pub on_rest : (Text → Bool) → Option Text → Bool
on_rest p None = false
on_rest p (Some t) = p t

-- whether the text, or some rest of it, passes
abbrev pub some_rest : (Text → Bool) → Text → Bool
some_rest p [] = p []
some_rest p (x ∷ xs) = p (x ∷ xs) || some_rest p xs

-- whether the whole text matches. A character stands for itself, a wildcard for any run of characters, even none. Bytes are
-- compared, because no character of UTF-8 begins within another
abbrev pub matches : List PatternElem → Text → Bool
matches [] [] = true
matches [] (x ∷ xs) = false
matches (PatternElem.Char c ∷ ps) t = on_rest (matches ps) (after_prefix (encode_utf8 c) t)
matches (PatternElem.Wildcard ∷ ps) t = some_rest (matches ps) t

abbrev pub like_outcome : List PatternElem → Value → Outcome
like_outcome p (VString t) = Gives (VBool (matches p t))
like_outcome p v = Fails TypeFailure

-- ---- operators and calls

-- an operator on one outcome: `!` on a boolean, negation of a long, `isEmpty` of a set
abbrev pub unary_outcome : UnaryOp → Outcome → Outcome
unary_outcome UnaryOp.Not o = of_test (not_test (test_of o))
unary_outcome UnaryOp.Neg o = on_value o negation
unary_outcome UnaryOp.IsEmpty o = on_value o is_empty

-- an operator on two values
abbrev pub binary_outcome : Store → Interpretation → BinaryOp → Value → Value → Outcome
binary_outcome store i BinaryOp.Eq v w = Gives (VBool (same_value v w))
binary_outcome store i BinaryOp.Less v w = compared i.overloaded_types int_lt i.less v w
binary_outcome store i BinaryOp.LessEq v w = compared i.overloaded_types int_le i.less_or_equal v w
binary_outcome store i BinaryOp.Add v w = on_longs (λ m n. in_range (m +ℤ n)) v w
binary_outcome store i BinaryOp.Sub v w = on_longs (λ m n. in_range (m -ℤ n)) v w
binary_outcome store i BinaryOp.Mul v w = on_longs (λ m n. in_range (m *ℤ n)) v w
binary_outcome store i BinaryOp.In v w = value_in store v w
binary_outcome store i BinaryOp.Contains v w = contains v w
binary_outcome store i BinaryOp.ContainsAll v w = contains_all v w
binary_outcome store i BinaryOp.ContainsAny v w = contains_any v w
binary_outcome store i BinaryOp.HasTag v w = of_test (has_tag store v w)
binary_outcome store i BinaryOp.GetTag v w = get_tag store v w

abbrev pub called : Option Value → Outcome
called None = Fails ExtensionFailure
called (Some v) = Gives v

-- ---- evaluation: parts from left to right, and the first failure is the outcome

module _ {D : Type 0} (world : World) where
  abbrev mutual
    pub eval : Tree D → Outcome
    -- a literal is its value, a variable is the request's, a slot is the entity to which it is bound; an unknown has no value
    eval (lit m x) = Gives (literal_value x)
    eval (var m x) = Gives (variable_value world.request x)
    eval (slot m s) = bound_outcome (world.slots s)
    eval (unknown m n) = Fails UnknownValue
    -- the test decides which branch is taken
    eval (if_then_else m a b c) = choose (test_of (eval a)) (eval b) (eval c)
    -- the right side counts only if the left one does not decide
    eval (and m a b) = of_test (and_test (test_of (eval a)) (test_of (eval b)))
    eval (or m a b) = of_test (or_test (test_of (eval a)) (test_of (eval b)))
    -- an operator is applied to the values of its operands, from left to right
    eval (unary m o a) = unary_outcome o (eval a)
    eval (binary m o a b) =
        on_value (eval a) (λ x. on_value (eval b) (binary_outcome world.store world.functions o x))
    -- a call gives the result of its function for the values of the arguments
    eval (call m f ts) =
        on_values (eval_all ts) (λ vs. called (call_value world.functions.calls f vs))
    -- attributes are read from the value of the base, or tested
    eval (get_attr m a x) = on_value (eval a) (get world.store x)
    eval (has_attr m a x) = of_test (then_test (eval a) (has_test world.store x))
    eval (ext_has_attr m a x xs) = of_test (then_test (eval a) (path_test world.store x xs))
    -- a text matches or not, an entity is of the type or not
    eval (like m a p) = on_value (eval a) (like_outcome p)
    eval (is_type m a p) = on_value (eval a) (is_of p)
    -- a set has the values of its elements, a record those of its fields
    eval (set_of m ts) = on_values (eval_all ts) (λ vs. Gives (VSet vs))
    eval (record_of m fs) = record_outcome (eval_fields fs)

    pub eval_all : Trees D → Outcomes
    eval_all no_trees = GiveAll no_values
    eval_all (tree t ts) = more_outcomes (eval t) (eval_all ts)

    -- the fields of an expression ascend by their keys
    pub eval_fields : Fields D → EntryOutcomes
    eval_fields no_fields = GiveEntries no_entries
    eval_fields (field k t fs) = more_entry_outcomes k (eval t) (eval_fields fs)
