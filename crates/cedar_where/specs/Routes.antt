-- Paths of attributes: from the principal and from the context, which a request gives, from the resource in the row, and from
-- entities in the tables of their types.
use Rattle.std.specs.Prelude.{Bool, true, false, not, ◌&&◌, ◌||◌, ℕ, List, [], ◌∷◌, ◌++◌, Option, Some, None, option_map, is_some, nat_eq, nat_le, if◌then◌else◌}
use Rattle.std.specs.List.{list_all, list_any}
use Rattle.cedar_types.specs.declared.base.expressions.operators.Var.{Var}
use Rattle.cedar_types.specs.Expressions.Tree.{entity, lit, var, get_attr}
use Rattle.cedar_types.specs.Names.{Text, Path, Uid}
use Rattle.cedar_types.specs.Schemas.{Schema}
use Rattle.cedar_types.specs.Types.{Ty, TRecord, TEntity, sole}
use Rattle.cedar_types.specs.Types.Lookups.{attribute_type}
use Rattle.cedar_typing.specs.TypedExpr.{TypedTree}
use Rattle.cedar_where.specs.Scopes.{Scope}
use Rattle.cedar_where.specs.Sql.{Sql, sql_column, sql_text, sql_parameter, sql_attribute}

-- where a path begins: at a variable of the request, at the resource in the row, or at the entity of a type whose id an
-- expression has
pub data Origin : Type 0 where
  FromVariable : Var → Origin
  FromRow : Origin
  FromEntity : Path → Sql → Origin

-- the cell at the end of a path
abbrev pub sql_at : Origin → List Text → Sql
sql_at (FromVariable v) xs = sql_parameter v xs
sql_at FromRow xs = sql_column xs
sql_at (FromEntity p a) xs = sql_attribute p a xs

-- a path, the type at its end, and whether a value is always there
pub record Route : Type 0 where
  pub origin : Origin
  pub path : List Text
  pub end : Ty
  pub is_total : Bool

-- a text has neither NUL nor a backslash
abbrev pub is_plain : Text → Bool
is_plain t = not (list_any (λ b. nat_eq b 0) t) && not (list_any (λ b. nat_eq b 92) t)

-- a letter of ASCII, a digit or `_`
abbrev pub is_word_byte : ℕ → Bool
is_word_byte b =
    (((nat_le 97 b && nat_le b 122) || (nat_le 65 b && nat_le b 90)) || (nat_le 48 b && nat_le b 57)) || nat_eq b 95

-- a name that may stand in the name of a parameter
abbrev pub is_word : Text → Bool
is_word x = list_all is_word_byte x

-- a name that may stand in a path: in the name of a parameter, or of a column
abbrev pub may_follow : Origin → Text → Bool
may_follow (FromVariable v) x = is_word x
may_follow FromRow x = is_plain x
may_follow (FromEntity p a) x = is_plain x

abbrev pub is_record : Ty → Bool
is_record (TRecord xs o) = true
is_record t = false

-- the entity type of a type of entities, if there is one alone
abbrev pub entity_type_of : Ty → Option Path
entity_type_of (TEntity ps) = sole ps
entity_type_of t = None

-- the types whose attributes a path follows: records, and entities of one type
abbrev pub is_followed : Ty → Bool
is_followed t = is_record t || is_some (entity_type_of t)

-- behind an entity that a table holds, a path begins at the entity's own row; a parameter holds the value at the end of any
-- path from its variable
abbrev pub leaves_row : Origin → List Text → Bool
leaves_row (FromVariable v) xs = false
leaves_row o [] = false
leaves_row o (x ∷ xs) = true

abbrev pub beyond : Origin → List Text → Option Path → Origin × List Text
beyond o xs None = (o, xs)
beyond o xs (Some p) = if leaves_row o xs then (FromEntity p (sql_at o xs), []) else (o, xs)

-- a path with one attribute more. Its value may be missing if the attribute is optional, and if it is an entity's, because
-- the entity may not be stored
abbrev pub longer_from : Route → Text → Ty × Bool → Origin × List Text → Route
longer_from r x a b = record {
  origin = b.0;
  path = b.1 ++ x ∷ [];
  end = a.0;
  is_total = r.is_total && (is_record r.end && a.1);
}

abbrev pub longer : Route → Text → Ty × Bool → Route
longer r x a = longer_from r x a (beyond r.origin r.path (entity_type_of r.end))

abbrev pub next_route : Schema → Text → Option Route → Option Route
next_route s x None = None
next_route s x (Some r) =
    if may_follow r.origin x && is_followed r.end then option_map (longer r x) (attribute_type s r.end x) else None

-- some attributes more, one behind the other
abbrev pub follow : Schema → List Text → Option Route → Option Route
follow s [] r = r
follow s (x ∷ xs) r = follow s xs (next_route s x r)

abbrev pub start : Var → Ty → Route
start v t = record { origin = FromVariable v; path = []; end = t; is_total = true }

-- an attribute of the resource, which is stored
abbrev pub own_route : Text → Ty × Bool → Route
own_route x a = record { origin = FromRow; path = x ∷ []; end = a.0; is_total = a.1 }

abbrev pub resource_route : Scope → Text → Option Route
resource_route s x = if is_plain x then option_map (own_route x) (attribute_type s.schema s.resource_type x) else None

-- an entity that is written, by its id
abbrev pub literal_route : Uid → Option Route
literal_route u =
    if is_plain u.eid then Some (record {
      origin = FromEntity u.entity_type (sql_text u.eid);
      path = [];
      end = TEntity (u.entity_type ∷ []);
      is_total = true;
    }) else None

-- an attribute behind a part that is a path, if it is one
abbrev pub behind : Scope → TypedTree → Text → Option Route → Option Route
behind s (var m Var.Resource) x r = resource_route s x
behind s e x r = next_route s.schema x r

-- the path that a part is, if it is one
abbrev pub route : Scope → TypedTree → Option Route
route s (lit m (entity u)) = literal_route u
route s (var m Var.Principal) = Some (start Var.Principal s.principal_type)
route s (var m Var.Context) = Some (start Var.Context s.context)
route s (get_attr m a x) = behind s a x (route s a)
route s e = None
