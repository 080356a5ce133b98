-- The row of a resource, with the parameters beside it on which a query is run.
use Rattle.std.specs.Prelude.{◌≡◌, List, [], ◌∷◌, Some}
use Rattle.cedar_types.specs.declared.base.expressions.operators.Var.{Var}
use Rattle.cedar_types.specs.Names.{Text, Uid}
use Rattle.cedar_types.specs.Values.{Value, VBool, VLong, VString, VEntity, VSet, VRecord, VExtension}
use Rattle.cedar_types.specs.Values.Stores.{Entity, Store, entity_at}
use Rattle.cedar_typing.specs.Evaluation.Eval.{has_ancestor, get, variable_value}
use Rattle.cedar_typing.specs.Evaluation.Outcomes.{on_value}
use Rattle.cedar_typing.specs.Evaluation.World.{World, Outcome, Gives, Fails}
use Rattle.cedar_where.specs.Sql.{Cell, Null, Truth, Integer, Words, Undefined, Data}

-- the cell of a value in a column: a truth value, a number, a text, or the id of an entity; sets, records and values of
-- extension types have no column
abbrev pub cell_of : Value → Cell
cell_of (VBool b) = Truth b
cell_of (VLong n) = Integer n
cell_of (VString t) = Words t
cell_of (VEntity u) = Words u.eid
cell_of (VSet vs) = Undefined
cell_of (VRecord es) = Undefined
cell_of (VExtension n t) = Undefined

-- the value at the end of a path of attributes, or the failure at the first that is not there
abbrev pub along : Store → List Text → Outcome → Outcome
along store [] o = o
along store (x ∷ xs) o = along store xs (on_value o (get store x))

-- NULL if there is no value
abbrev pub outcome_cell : Outcome → Cell
outcome_cell (Gives v) = cell_of v
outcome_cell (Fails f) = Null

-- the cell at the end of a path of attributes from a value
abbrev pub cell_along : Store → Value → List Text → Cell
cell_along store v xs = outcome_cell (along store xs (Gives v))

-- the row holds the resource of a request, which is in the store: its id, and the value at each path in the path's column; the
-- tables of all types have a row for each entity of the store, and no other; the parameters are the principal's id, and the
-- value at the end of each path; and the table of ancestors has the ancestors of the store
pub record IsRowOf (world : World) (d : Data) : Type 0 where
  pub entity : Entity
  pub stored : entity_at world.store world.request.resource ≡ Some entity
  pub columns : (xs : List Text) → d.cells xs ≡ cell_along world.store (VEntity world.request.resource) xs
  pub tables : (u : Uid) (xs : List Text) → d.stored u xs ≡ cell_along world.store (VEntity u) xs
  pub own_id : d.eid ≡ world.request.resource.eid
  pub principal : d.principal ≡ world.request.principal.eid
  pub parameters : (v : Var) (xs : List Text)
      → d.parameters v xs ≡ cell_along world.store (variable_value world.request v) xs
  pub ancestors : (u v : Uid) → d.has_ancestor u v ≡ has_ancestor (entity_at world.store u) v
