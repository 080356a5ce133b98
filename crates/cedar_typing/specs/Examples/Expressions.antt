-- Short names for the expressions of the examples. An expression is written as its form alone; when
-- it is typed, its nodes stand at the places 1, 2 and so on, in the order in which they are
-- written.
use Rattle.std.specs.Prelude.{ℕ, ◌+◌, ℤ, pos, neg_ℤ, Bool, true, false, List, [], ◌∷◌, Some, codes}
use Rattle.cedar_types.specs.declared.base.expressions.operators.Var.{Var}
use Rattle.cedar_types.specs.declared.base.expressions.operators.BinaryOp.{BinaryOp}
use Rattle.cedar_types.specs.declared.base.expressions.patterns.PatternElem.{PatternElem}
use Rattle.cedar_types.specs.Names.{Text, Path, Uid}
use Rattle.cedar_types.specs.Expressions.Tree.{bool, long, string, entity, Shape, lit, var, slot, unknown, if_then_else, and, or, unary}
use Rattle.cedar_types.specs.Expressions.Tree.{binary, call, get_attr, has_attr, ext_has_attr, like, is_type, set_of, record_of, Trees}
use Rattle.cedar_types.specs.Expressions.Tree.{no_trees, tree, Fields, no_fields, field}
use Rattle.cedar_types.specs.Expressions.View.{Written, no_name}
use Rattle.cedar_typing.specs.Examples.World.{decimal, duration, gone}
use Rattle.cedar_typing.specs.TypedExpr.{Source}

-- ---- literals and variables

-- a Boolean; `true`, `false`
abbrev pub lit_of : Bool → Shape
lit_of b = lit tt (bool b)

abbrev pub true_lit : Shape
true_lit = lit_of true

abbrev pub false_lit : Shape
false_lit = lit_of false

-- a number; `1`, `2`, `3`
abbrev pub num : ℤ → Shape
num n = lit tt (long n)

abbrev pub one : Shape
one = num (pos 1)

abbrev pub two : Shape
two = num (pos 2)

abbrev pub three : Shape
three = num (pos 3)

-- the least and the greatest number of 64 bits
abbrev pub least : ℤ
least = neg_ℤ (pos 9223372036854775808)

abbrev pub greatest : ℤ
greatest = pos 9223372036854775807

-- a text, an entity
abbrev pub text : Text → Shape
text t = lit tt (string t)

abbrev pub the : Uid → Shape
the u = lit tt (entity u)

abbrev pub principal : Shape
principal = var tt Var.Principal

abbrev pub context : Shape
context = var tt Var.Context

-- ---- attributes

-- `a.x`, `a has x`, `a has x.y`
abbrev pub dot : Shape → Text → Shape
dot a x = get_attr tt a x

abbrev pub has : Shape → Text → Shape
has a x = has_attr tt a x

abbrev pub has2 : Shape → Text → Text → Shape
has2 a x y = ext_has_attr tt a x (y ∷ [])

-- `principal has vip`, `principal has age`, `principal.vip`, `principal.boss`
abbrev pub has_vip : Shape
has_vip = has principal (codes "vip")

abbrev pub has_age : Shape
has_age = has principal (codes "age")

abbrev pub get_vip : Shape
get_vip = dot principal (codes "vip")

abbrev pub get_boss : Shape
get_boss = dot principal (codes "boss")

-- `principal.rank`, an attribute that no user has
abbrev pub get_rank : Shape
get_rank = dot principal (codes "rank")

-- `context has friend`, which is True
abbrev pub has_friend : Shape
has_friend = has context (codes "friend")

-- `if context has friend then false else true`, which is False, and produces that there is a friend
abbrev pub false_with_friend : Shape
false_with_friend = if_then_else tt has_friend false_lit true_lit

-- ---- sets, records, calls, patterns and types

-- `[]`, `[a]`, `[a, b]`, `[a, b, c]`
abbrev pub set0 : Shape
set0 = set_of tt no_trees

abbrev pub set1 : Shape → Shape
set1 a = set_of tt (tree a no_trees)

abbrev pub set2 : Shape → Shape → Shape
set2 a b = set_of tt (tree a (tree b no_trees))

abbrev pub set3 : Shape → Shape → Shape → Shape
set3 a b c = set_of tt (tree a (tree b (tree c no_trees)))

-- `{x: a}`, `{x: a, y: b}`
abbrev pub record1 : Text → Shape → Shape
record1 x a = record_of tt (field x a no_fields)

abbrev pub record2 : Text → Shape → Text → Shape → Shape
record2 x a y b = record_of tt (field x a (field y b no_fields))

-- ---- operators

-- `a == b`, `a < b`, `a <= b`, `a + b`
abbrev pub equal : Shape → Shape → Shape
equal a b = binary tt BinaryOp.Eq a b

abbrev pub less : Shape → Shape → Shape
less a b = binary tt BinaryOp.Less a b

abbrev pub at_most : Shape → Shape → Shape
at_most a b = binary tt BinaryOp.LessEq a b

abbrev pub plus : Shape → Shape → Shape
plus a b = binary tt BinaryOp.Add a b

-- `a.contains(b)`, `a.containsAll(b)`, `a.containsAny(b)`
abbrev pub contains : Shape → Shape → Shape
contains a b = binary tt BinaryOp.Contains a b

abbrev pub contains_all : Shape → Shape → Shape
contains_all a b = binary tt BinaryOp.ContainsAll a b

abbrev pub contains_any : Shape → Shape → Shape
contains_any a b = binary tt BinaryOp.ContainsAny a b

-- `a in b`, `a.hasTag(b)`, `a.getTag(b)`
abbrev pub is_in : Shape → Shape → Shape
is_in a b = binary tt BinaryOp.In a b

abbrev pub has_tag : Shape → Shape → Shape
has_tag a b = binary tt BinaryOp.HasTag a b

abbrev pub get_tag : Shape → Shape → Shape
get_tag a b = binary tt BinaryOp.GetTag a b

-- `f()`, `f(a)`, `f(a, b)`, `f(a, b, c)`
abbrev pub call0 : Path → Shape
call0 f = call tt f no_trees

abbrev pub call1 : Path → Shape → Shape
call1 f a = call tt f (tree a no_trees)

abbrev pub call2 : Path → Shape → Shape → Shape
call2 f a b = call tt f (tree a (tree b no_trees))

abbrev pub call3 : Path → Shape → Shape → Shape → Shape
call3 f a b c = call tt f (tree a (tree b (tree c no_trees)))

-- `decimal(a)`; `decimal("1.0")`, `decimal("2.0")`
abbrev pub to_decimal : Shape → Shape
to_decimal a = call1 decimal a

abbrev pub decimal_one : Shape
decimal_one = to_decimal (text (codes "1.0"))

abbrev pub decimal_two : Shape
decimal_two = to_decimal (text (codes "2.0"))

-- `duration(decimal("1.0"), 1)`
abbrev pub a_duration : Shape
a_duration = call2 duration decimal_one one

-- `a like p`, `a is T`
abbrev pub matching : Shape → List PatternElem → Shape
matching a p = like tt a p

abbrev pub is : Shape → Path → Shape
is a p = is_type tt a p

-- ---- expressions that fail in evaluation

-- `User::"gone".age`, a missing entity; `1 + true`, a type failure; `9223372036854775807 + 1`, an
-- overflow
abbrev pub missing : Shape
missing = dot (the gone) (codes "age")

abbrev pub mistyped : Shape
mistyped = binary tt BinaryOp.Add one true_lit

abbrev pub too_great : Shape
too_great = binary tt BinaryOp.Add (num greatest) one

-- ---- places

-- a node at the place n
abbrev pub node : ℕ → Written
node n = record { place = Some (record { start = n; end = n }); names = no_name }

abbrev mutual
  -- the number of nodes of an expression
  pub size : Shape → ℕ
  size (lit m x) = 1
  size (var m x) = 1
  size (slot m s) = 1
  size (unknown m n) = 1
  size (if_then_else m a b c) = 1 + size a + size b + size c
  size (and m a b) = 1 + size a + size b
  size (or m a b) = 1 + size a + size b
  size (unary m o a) = 1 + size a
  size (binary m o a b) = 1 + size a + size b
  size (call m n ts) = 1 + sizes ts
  size (get_attr m a x) = 1 + size a
  size (has_attr m a x) = 1 + size a
  size (ext_has_attr m a x xs) = 1 + size a
  size (like m a p) = 1 + size a
  size (is_type m a n) = 1 + size a
  size (set_of m ts) = 1 + sizes ts
  size (record_of m fs) = 1 + field_sizes fs

  pub sizes : Trees Unit → ℕ
  sizes no_trees = 0
  sizes (tree t ts) = size t + sizes ts

  pub field_sizes : Fields Unit → ℕ
  field_sizes no_fields = 0
  field_sizes (field k t fs) = size t + field_sizes fs

abbrev mutual
  -- the first node stands at the place n, its parts after it, from left to right
  pub numbered_from : ℕ → Shape → Source
  numbered_from n (lit m x) = lit (node n) x
  numbered_from n (var m x) = var (node n) x
  numbered_from n (slot m s) = slot (node n) s
  numbered_from n (unknown m u) = unknown (node n) u
  numbered_from n (if_then_else m a b c) =
      if_then_else (node n) (numbered_from (n + 1) a) (numbered_from (n + 1 + size a) b)
      (numbered_from (n + 1 + size a + size b) c)
  numbered_from n (and m a b) =
      and (node n) (numbered_from (n + 1) a) (numbered_from (n + 1 + size a) b)
  numbered_from n (or m a b) =
      or (node n) (numbered_from (n + 1) a) (numbered_from (n + 1 + size a) b)
  numbered_from n (unary m o a) = unary (node n) o (numbered_from (n + 1) a)
  numbered_from n (binary m o a b) =
      binary (node n) o (numbered_from (n + 1) a) (numbered_from (n + 1 + size a) b)
  numbered_from n (call m f ts) = call (node n) f (numbered_trees (n + 1) ts)
  numbered_from n (get_attr m a x) = get_attr (node n) (numbered_from (n + 1) a) x
  numbered_from n (has_attr m a x) = has_attr (node n) (numbered_from (n + 1) a) x
  numbered_from n (ext_has_attr m a x xs) = ext_has_attr (node n) (numbered_from (n + 1) a) x xs
  numbered_from n (like m a p) = like (node n) (numbered_from (n + 1) a) p
  numbered_from n (is_type m a t) = is_type (node n) (numbered_from (n + 1) a) t
  numbered_from n (set_of m ts) = set_of (node n) (numbered_trees (n + 1) ts)
  numbered_from n (record_of m fs) = record_of (node n) (numbered_fields (n + 1) fs)

  pub numbered_trees : ℕ → Trees Unit → Trees Written
  numbered_trees n no_trees = no_trees
  numbered_trees n (tree t ts) = tree (numbered_from n t) (numbered_trees (n + size t) ts)

  pub numbered_fields : ℕ → Fields Unit → Fields Written
  numbered_fields n no_fields = no_fields
  numbered_fields n (field k t fs) = field k (numbered_from n t) (numbered_fields (n + size t) fs)

-- an expression as it is written: its nodes stand at the places 1, 2 and so on
abbrev pub numbered : Shape → Source
numbered = numbered_from 1
