-- Plain data for which the values of the program stand.
use Rattle.std.specs.Prelude.{List, [], ◌∷◌, Option, Some, None, Result, Ok, Err, map}
use Rattle.cedar_types.specs.Names.{text_of, type_of, uid_of}
use Rattle.cedar_types.specs.Schemas.Contents.{schema_of}
use Rattle.cedar_types.specs.Types.{ty_of}
use Rattle.cedar_where.specs.declared.refusals.Refusal.{Refusal}
use Rattle.cedar_where.specs.declared.routes.Origin.{Origin}
use Rattle.cedar_where.specs.declared.routes.Origin.TheVariants as origin
use Rattle.cedar_where.specs.declared.routes.Route.{Route}
use Rattle.cedar_where.specs.declared.scopes.Scope.{Scope}
use Rattle.cedar_where.specs.declared.sql.SqlExpr.{SqlExpr, fold-SqlExpr}
use Rattle.cedar_where.specs.declared.sql.SqlExpr.TheOpen as layer
use Rattle.cedar_where.specs.declared.sql.SqlExpr.TheOpen.{SqlExpr-F}
use Rattle.cedar_where.specs.declared.terms.Kind.{Kind}
use Rattle.cedar_where.specs.declared.terms.Kind.TheVariants as kind
use Rattle.cedar_where.specs.declared.terms.Term.{Term}
use Rattle.cedar_where.specs.Compiled as plain
use Rattle.cedar_where.specs.Routes as routes
use Rattle.cedar_where.specs.Scopes as scopes
use Rattle.cedar_where.specs.Compiled.{KBool, KLong, KText, KEntity}
use Rattle.cedar_where.specs.Sql.{Sql, sql_null, sql_truth, sql_number, sql_text, sql_column, sql_own_id, sql_principal, sql_parameter, sql_attribute, sql_not}
use Rattle.cedar_where.specs.Sql.{sql_and, sql_or, sql_case, sql_equal, sql_less, sql_less_equal, sql_is_not_null, sql_is_true}
use Rattle.cedar_where.specs.Sql.{sql_matches, sql_is_among, sql_is_in, sql_is_in_any}

-- a layer of an expression, over the trees of its parts
abbrev pub sql_step : SqlExpr-F Sql → Sql
sql_step layer.Null = sql_null
sql_step (layer.Truth b) = sql_truth b
sql_step (layer.Number n) = sql_number n
sql_step (layer.Text t) = sql_text (text_of t)
sql_step (layer.Column xs) = sql_column (map text_of xs.items)
sql_step layer.OwnId = sql_own_id
sql_step layer.Principal = sql_principal
sql_step (layer.Parameter v xs) = sql_parameter v (map text_of xs.items)
sql_step (layer.Attribute p a xs) = sql_attribute (type_of p) a.value (map text_of xs.items)
sql_step (layer.Not a) = sql_not a.value
sql_step (layer.And a b) = sql_and a.value b.value
sql_step (layer.Or a b) = sql_or a.value b.value
sql_step (layer.Case t a b) = sql_case t.value a.value b.value
sql_step (layer.Equal a b) = sql_equal a.value b.value
sql_step (layer.Less a b) = sql_less a.value b.value
sql_step (layer.LessOrEqual a b) = sql_less_equal a.value b.value
sql_step (layer.IsNotNull a) = sql_is_not_null a.value
sql_step (layer.IsTrue a) = sql_is_true a.value
sql_step (layer.Matches a p) = sql_matches a.value p.items
sql_step (layer.IsAmong a ts) = sql_is_among a.value (map text_of ts.items)
sql_step (layer.IsIn p a q b) = sql_is_in (type_of p) a.value (type_of q) b.value
sql_step (layer.IsInAny p a us) = sql_is_in_any (type_of p) a.value (map uid_of us.items)

-- an expression of SQL
abbrev pub sql_of : SqlExpr → Sql
sql_of = fold-SqlExpr Sql sql_step

-- the expression that is held, if there is one
abbrev pub sql_held : Option SqlExpr → List Sql
sql_held None = []
sql_held (Some e) = sql_of e ∷ []

abbrev pub kind_of : Kind → plain.Kind
kind_of kind.Bool = KBool
kind_of kind.Long = KLong
kind_of kind.Text = KText
kind_of (kind.Entity p) = KEntity (type_of p)

abbrev pub term_of : Term → plain.Term
term_of t = record { sql = sql_of t.sql.value; kind = kind_of t.kind; is_total = t.is_total }

-- a part, if it is compiled
abbrev pub term_in : Result Term Refusal → Option plain.Term
term_in (Ok t) = Some (term_of t)
term_in (Err r) = None

abbrev pub scope_of : Scope → scopes.Scope
scope_of s = record {
  schema = schema_of s.schema.now;
  principal = type_of s.principal.now;
  action = uid_of s.action.now;
  resource = type_of s.resource.now;
  principal_type = ty_of s.principal_type.now;
  resource_type = ty_of s.resource_type.now;
  context = ty_of s.context.now;
}

-- a clause, if there is one
abbrev pub clause_in : Result SqlExpr Refusal → Option Sql
clause_in (Ok e) = Some (sql_of e)
clause_in (Err r) = None

abbrev pub origin_of : Origin → routes.Origin
origin_of (origin.Variable v) = routes.FromVariable v
origin_of origin.Row = routes.FromRow
origin_of (origin.Entity p a) = routes.FromEntity (type_of p) (sql_of a.value)

abbrev pub route_of : Route → routes.Route
route_of r = record {
  origin = origin_of r.origin;
  path = map text_of r.path.items;
  end = ty_of r.end;
  is_total = r.is_total;
}
