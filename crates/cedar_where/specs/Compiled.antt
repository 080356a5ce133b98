-- Expressions of SQL for parts of a condition, and the parts that have none.
use Rattle.std.specs.Prelude.{Bool, true, false, not, ◌&&◌, ◌||◌, ℕ, List, [], ◌∷◌, Option, Some, None, option_map, nat_eq, if◌then◌else◌}
use Rattle.std.specs.List.{list_all}
use Rattle.cedar_types.specs.declared.base.expressions.operators.BinaryOp.{BinaryOp}
use Rattle.cedar_types.specs.declared.base.expressions.operators.UnaryOp.{UnaryOp}
use Rattle.cedar_types.specs.declared.base.expressions.operators.Var.{Var}
use Rattle.cedar_types.specs.declared.base.expressions.patterns.PatternElem.{PatternElem}
use Rattle.cedar_types.specs.Expressions.Tree.{bool, long, string, entity, lit, var, slot, unknown, if_then_else, and, or, unary, binary}
use Rattle.cedar_types.specs.Expressions.Tree.{call, get_attr, has_attr, ext_has_attr, like, is_type, set_of, record_of, Trees, no_trees, tree}
use Rattle.cedar_types.specs.Environments.RequestEnvs.{Env, Declared, Undeclared}
use Rattle.cedar_types.specs.Names.{Text, Path, Uid, path_eq}
use Rattle.cedar_types.specs.Schemas.{Schema}
use Rattle.cedar_types.specs.Types.{Ty, TNever, TBool, TLong, TString, TSet, TAnySet, TRecord, TEntity, TAnyEntity, TExtension, sole}
use Rattle.cedar_typing.specs.TypedExpr.{Mark, TypedTree}
use Rattle.cedar_where.specs.Routes.{Route, sql_at, is_plain, follow, behind, route}
use Rattle.cedar_where.specs.Scopes.{Scope, scope_at}
use Rattle.cedar_where.specs.Sql.{Sql, sql_null, sql_truth, sql_number, sql_text, sql_own_id, sql_principal, sql_not}
use Rattle.cedar_where.specs.Sql.{sql_and, sql_or, sql_case, sql_equal, sql_less, sql_less_equal, sql_is_not_null, sql_matches, sql_is_among, sql_is_in, sql_is_in_any}

-- the kind of a part's value, if it has one. SQL has only the id of an entity, so the kind has its type
pub data Kind : Type 0 where
  KBool : Kind
  KLong : Kind
  KText : Kind
  KEntity : Path → Kind

-- an expression of SQL, its kind, and whether it is never NULL
pub record Term : Type 0 where
  pub sql : Sql
  pub kind : Kind
  pub is_total : Bool

abbrev pub term : Sql → Kind → Bool → Term
term e k b = record { sql = e; kind = k; is_total = b }

-- ---- tests

abbrev pub is_bool : Kind → Bool
is_bool KBool = true
is_bool k = false

abbrev pub is_long : Kind → Bool
is_long KLong = true
is_long k = false

abbrev pub is_text : Kind → Bool
is_text KText = true
is_text k = false

abbrev pub is_entity : Kind → Bool
is_entity (KEntity p) = true
is_entity k = false

-- entities are compared by their ids, so only those of one type may be
abbrev pub same_kind : Kind → Kind → Bool
same_kind KBool KBool = true
same_kind KLong KLong = true
same_kind KText KText = true
same_kind (KEntity p) (KEntity q) = path_eq p q
same_kind k l = false

-- the replacement character, and the two that SQLite's GLOB reads as it
abbrev pub is_replaced : ℕ → Bool
is_replaced c = nat_eq c 65533 || (nat_eq c 65534 || nat_eq c 65535)

-- a character of a pattern is neither NUL nor a backslash, and GLOB reads it as itself
abbrev pub is_plain_elem : PatternElem → Bool
is_plain_elem (PatternElem.Char c) = not (nat_eq c 0) && (not (nat_eq c 92) && not (is_replaced c))
is_plain_elem PatternElem.Wildcard = true

abbrev pub is_plain_pattern : List PatternElem → Bool
is_plain_pattern ps = list_all is_plain_elem ps

-- ---- leaves

abbrev pub text_term : Text → Kind → Option Term
text_term t k = if is_plain t then Some (term (sql_text t) k true) else None

abbrev pub entity_term : Uid → Option Term
entity_term u = text_term u.eid (KEntity u.entity_type)

abbrev pub variable_term : Scope → Var → Option Term
variable_term s Var.Principal = Some (term sql_principal (KEntity s.principal) true)
variable_term s Var.Action = entity_term s.action
variable_term s Var.Resource = Some (term sql_own_id (KEntity s.resource) true)
variable_term s Var.Context = None

-- ---- kinds of types

abbrev pub entity_kind : Option Path → Option Kind
entity_kind None = None
entity_kind (Some p) = Some (KEntity p)

-- the kind of the values of a type, if a column holds them: truth values, numbers, texts, entities of one type
abbrev pub column_kind : Ty → Option Kind
column_kind TNever = None
column_kind (TBool k) = Some KBool
column_kind TLong = Some KLong
column_kind TString = Some KText
column_kind (TSet t) = None
column_kind TAnySet = None
column_kind (TRecord xs o) = None
column_kind (TEntity ps) = entity_kind (sole ps)
column_kind TAnyEntity = None
column_kind (TExtension n) = None

-- ---- paths of attributes

abbrev pub value_of_kind : Route → Option Kind → Option Term
value_of_kind r None = None
value_of_kind r (Some k) = Some (term (sql_at r.origin r.path) k r.is_total)

-- the value at the end of a path, if a column or a parameter holds it
abbrev pub value_at : Option Route → Option Term
value_at None = None
value_at (Some r) = value_of_kind r (column_kind r.end)

abbrev pub attribute_term : Scope → TypedTree → Text → Option Term
attribute_term s a x = value_at (behind s a x (route s a))

-- ---- `has`

abbrev pub has_value : Option Term → Option Term
has_value None = None
has_value (Some a) = Some (term (sql_is_not_null a.sql) KBool true)

-- NULL if there is no value before the attributes, and else whether there is one behind them
abbrev pub has_guarded : Option Term → Option Term → Option Term
has_guarded None y = None
has_guarded (Some a) None = None
has_guarded (Some a) (Some b) = Some (term (sql_case (sql_is_not_null a.sql) (sql_is_not_null b.sql) sql_null) KBool false)

-- the test of a value at the end of a longer path
abbrev pub has_behind : Option Route → Option Term → Option Term
has_behind None y = None
has_behind (Some r) y = if r.is_total then has_value y else has_guarded (value_at (Some r)) y

-- the value behind a part, at the end of one attribute or of several
abbrev pub value_behind : Scope → TypedTree → Text → List Text → Option Term
value_behind s a x xs = value_at (follow s.schema xs (behind s a x (route s a)))

-- an entity that is not stored has no attribute, and a path that ends early has no value at its end
abbrev pub is_resource : TypedTree → Bool
is_resource (var m Var.Resource) = true
is_resource e = false

abbrev pub has_at : Bool → Option Route → Option Term → Option Term
has_at b r y = if b then has_value y else has_behind r y

abbrev pub has_term : Scope → TypedTree → Text → List Text → Option Term
has_term s a x xs = has_at (is_resource a) (route s a) (value_behind s a x xs)

-- ---- operators

-- a conjunction is SQL's AND only if the left side is never NULL, because NULL AND FALSE is FALSE, and a failed left side fails
-- the whole
abbrev pub conjunction : Term → Term → Option Term
conjunction a b =
    if is_bool a.kind && is_bool b.kind then
    Some (term (if a.is_total then sql_and a.sql b.sql else sql_case a.sql b.sql (sql_truth false))
    KBool (a.is_total && b.is_total))
    else None

abbrev pub disjunction : Term → Term → Option Term
disjunction a b =
    if is_bool a.kind && is_bool b.kind then
    Some (term (if a.is_total then sql_or a.sql b.sql else sql_case a.sql (sql_truth true) b.sql)
    KBool (a.is_total && b.is_total))
    else None

abbrev pub and_term : Option Term → Option Term → Option Term
and_term (Some a) (Some b) = conjunction a b
and_term (Some a) None = None
and_term None y = None

abbrev pub or_term : Option Term → Option Term → Option Term
or_term (Some a) (Some b) = disjunction a b
or_term (Some a) None = None
or_term None y = None

-- `if` is a case, if its branches are of one kind. Entities are left out, because a test of `in` writes an id more than once
abbrev pub choice : Term → Term → Term → Option Term
choice t a b =
    if is_bool t.kind && (not (is_entity a.kind) && same_kind a.kind b.kind) then
    Some (term (sql_case t.sql a.sql b.sql) a.kind (t.is_total && (a.is_total && b.is_total)))
    else None

abbrev pub if_term : Option Term → Option Term → Option Term → Option Term
if_term (Some t) (Some a) (Some b) = choice t a b
if_term (Some t) (Some a) None = None
if_term (Some t) None z = None
if_term None y z = None

abbrev pub not_term : Option Term → Option Term
not_term None = None
not_term (Some a) = if is_bool a.kind then Some (term (sql_not a.sql) KBool a.is_total) else None

abbrev pub unary_term : UnaryOp → Option Term → Option Term
unary_term UnaryOp.Not x = not_term x
unary_term UnaryOp.Neg x = None
unary_term UnaryOp.IsEmpty x = None

-- the truth value if the test is TRUE, else NULL
abbrev pub unless_null : Sql → Bool → Sql
unless_null t b = sql_case t (sql_truth b) sql_null

-- values of two kinds differ: FALSE if neither side is NULL
abbrev pub difference : Term → Term → Term
difference a b =
    if a.is_total && b.is_total then term (sql_truth false) KBool true
    else term (unless_null (sql_and (sql_is_not_null a.sql) (sql_is_not_null b.sql)) false) KBool false

abbrev pub equality : Term → Term → Option Term
equality a b =
    if same_kind a.kind b.kind
    then Some (term (sql_equal a.sql b.sql) KBool (a.is_total && b.is_total))
    else Some (difference a b)

abbrev pub less : Term → Term → Option Term
less a b =
    if is_long a.kind && is_long b.kind
    then Some (term (sql_less a.sql b.sql) KBool (a.is_total && b.is_total))
    else None

abbrev pub less_or_equal : Term → Term → Option Term
less_or_equal a b =
    if is_long a.kind && is_long b.kind
    then Some (term (sql_less_equal a.sql b.sql) KBool (a.is_total && b.is_total))
    else None

abbrev pub in_kinds : Term → Term → Kind → Kind → Option Term
in_kinds a b (KEntity p) (KEntity q) =
    Some (term (sql_is_in p a.sql q b.sql) KBool (a.is_total && b.is_total))
in_kinds a b k l = None

abbrev pub in_term : Term → Term → Option Term
in_term a b = in_kinds a b a.kind b.kind

abbrev pub binary_of_terms : BinaryOp → Term → Term → Option Term
binary_of_terms BinaryOp.Eq a b = equality a b
binary_of_terms BinaryOp.Less a b = less a b
binary_of_terms BinaryOp.LessEq a b = less_or_equal a b
binary_of_terms BinaryOp.In a b = in_term a b
binary_of_terms o a b = None

abbrev pub binary_term : BinaryOp → Option Term → Option Term → Option Term
binary_term o (Some a) (Some b) = binary_of_terms o a b
binary_term o (Some a) None = None
binary_term o None y = None

-- ---- `in` a set

abbrev pub plain_entity : Uid → Option Uid
plain_entity u = if is_plain u.eid then Some u else None

-- the entity of a literal, if its id is plain
abbrev pub entity_literal : TypedTree → Option Uid
entity_literal (lit m (entity u)) = plain_entity u
entity_literal e = None

abbrev pub and_others : {A : Type 0} → Option A → Option (List A) → Option (List A)
and_others None r = None
and_others (Some u) r = option_map (λ us. u ∷ us) r

-- what all members of a set are, if each is a literal of this form
abbrev pub literals : {A : Type 0} → (TypedTree → Option A) → Trees Mark → Option (List A)
literals f no_trees = Some []
literals f (tree e ts) = and_others (f e) (literals f ts)

-- the entities of all members of a set, if each is written as one
abbrev pub entity_literals : Trees Mark → Option (List Uid)
entity_literals ts = literals entity_literal ts

abbrev pub in_any_of : Term → Kind → List Uid → Option Term
in_any_of a (KEntity p) us = Some (term (sql_is_in_any p a.sql us) KBool a.is_total)
in_any_of a k us = None

abbrev pub in_any : Option Term → Option (List Uid) → Option Term
in_any (Some a) (Some us) = in_any_of a a.kind us
in_any (Some a) None = None
in_any None r = None

abbrev pub in_operand : TypedTree → Option Term → Option Term → Option Term
in_operand (set_of m ts) x y = in_any x (entity_literals ts)
in_operand b x y = binary_term BinaryOp.In x y

-- ---- `contains` of a set of texts

abbrev pub plain_text : Text → Option Text
plain_text t = if is_plain t then Some t else None

-- the text of a literal, if it is plain
abbrev pub text_literal : TypedTree → Option Text
text_literal (lit m (string t)) = plain_text t
text_literal e = None

-- the texts of all members of a set, if each is written as one
abbrev pub text_literals : Trees Mark → Option (List Text)
text_literals ts = literals text_literal ts

abbrev pub among : Term → List Text → Option Term
among a ts = if is_text a.kind then Some (term (sql_is_among a.sql ts) KBool a.is_total) else None

abbrev pub among_texts : Option (List Text) → Option Term → Option Term
among_texts None y = None
among_texts (Some ts) None = None
among_texts (Some ts) (Some a) = among a ts

abbrev pub contains_term : TypedTree → Option Term → Option Term
contains_term (set_of m ts) y = among_texts (text_literals ts) y
contains_term e y = None

-- the right side of `in` may be a set of entities, and the left one of `contains` a set of texts
abbrev pub operator_term : BinaryOp → TypedTree → TypedTree → Option Term → Option Term → Option Term
operator_term BinaryOp.In a b x y = in_operand b x y
operator_term BinaryOp.Contains a b x y = contains_term a y
operator_term o a b x y = binary_term o x y

-- ---- `like` and `is`

abbrev pub like_term : Option Term → List PatternElem → Option Term
like_term None p = None
like_term (Some a) p =
    if is_text a.kind && is_plain_pattern p
    then Some (term (sql_matches a.sql p) KBool a.is_total) else None

-- a type test of an entity is decided by its type, if the entity is not NULL
abbrev pub type_test : Term → Bool → Option Term
type_test a b =
    if a.is_total then Some (term (sql_truth b) KBool true)
    else Some (term (unless_null (sql_is_not_null a.sql) b) KBool false)

abbrev pub is_of_kind : Term → Kind → Path → Option Term
is_of_kind a (KEntity p) q = type_test a (path_eq p q)
is_of_kind a k q = None

abbrev pub is_term : Option Term → Path → Option Term
is_term None q = None
is_term (Some a) q = is_of_kind a a.kind q

-- ---- a part of a condition

abbrev pub compiled : Scope → TypedTree → Option Term
compiled s (lit m (bool b)) = Some (term (sql_truth b) KBool true)
compiled s (lit m (long n)) = Some (term (sql_number n) KLong true)
compiled s (lit m (string t)) = text_term t KText
compiled s (lit m (entity u)) = entity_term u
compiled s (var m x) = variable_term s x
compiled s (slot m x) = None
compiled s (unknown m n) = None
compiled s (if_then_else m a b c) = if_term (compiled s a) (compiled s b) (compiled s c)
compiled s (and m a b) = and_term (compiled s a) (compiled s b)
compiled s (or m a b) = or_term (compiled s a) (compiled s b)
compiled s (unary m o a) = unary_term o (compiled s a)
compiled s (binary m o a b) = operator_term o a b (compiled s a) (compiled s b)
compiled s (call m n ts) = None
compiled s (get_attr m a x) = attribute_term s a x
compiled s (has_attr m a x) = has_term s a x []
compiled s (ext_has_attr m a x xs) = has_term s a x xs
compiled s (like m a p) = like_term (compiled s a) p
compiled s (is_type m a p) = is_term (compiled s a) p
compiled s (set_of m ts) = None
compiled s (record_of m fs) = None

-- ---- a whole condition

-- the clause of a condition is a truth value
abbrev pub clause_of : Option Term → Option Sql
clause_of None = None
clause_of (Some a) = if is_bool a.kind then Some a.sql else None

-- the clause in an environment. There is none for undeclared actions, because nothing is known of their requests
abbrev pub clause_at : Schema → Env → TypedTree → Option Sql
clause_at s (Declared d ps rs) e = clause_of (compiled (scope_at s d) e)
clause_at s Undeclared e = None
