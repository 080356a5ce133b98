-- The demands that each step of the program's walk over a typed condition adds to those that it
-- found before.
use Rattle.std.specs.Prelude.{◌≡◌, ℕ, List, [], ◌∷◌, Option, option_map, if◌then◌else◌}
use Rattle.cedar_types.specs.declared.base.expressions.operators.BinaryOp.{BinaryOp}
use Rattle.cedar_types.specs.declared.base.location.Loc.{Loc}
use Rattle.cedar_types.specs.Expressions.Tree.{Fields, Lit}
use Rattle.cedar_types.specs.Names.{Text, Uid, uid_of}
use Rattle.cedar_types.specs.Types.{Ty}
use Rattle.cedar_typing.specs.TypedExpr.{Mark, TypedTree, annotation}
use Rattle.cedar_typechecker.specs.declared.level_validate.demands.Demand as found
use Rattle.cedar_typechecker.specs.declared.level_validate.walk.LevelWalk.{LevelWalk}
use Rattle.cedar_typechecker.specs.Levels.Chains.{base_of, base_of_type, leaf_of_literal}
use Rattle.cedar_typechecker.specs.Levels.Costs.{chain_cost, keys_to_entity}
use Rattle.cedar_typechecker.specs.Levels.Demands.{Demand, Need, this_level, a_rule, demands, at_leaf, raised, by_base, on_path, has_key}
use Rattle.cedar_typechecker.specs.Levels.Demands.{counted_level, counted_at_key, add_demands, add_target_demands, add_demands_along}
use Rattle.cedar_typechecker.specs.Levels.Demands.{add_demands_of_chain, add_chain_demands}
use Rattle.cedar_typechecker.specs.Levels.Dereferences.{accesses_first}
use Rattle.cedar_typechecker.specs.Levels.Views.{surroundings_of, demands_of}

-- a step adds demands to the old ones, which gives the new ones
abbrev pub Adds : (List Demand → List Demand) → List found.Demand → List found.Demand → Type 0
Adds step old new = step (demands_of old) ≡ demands_of new

module _ (w : LevelWalk) where
  -- a demand at a place
  abbrev pub of_need : Option Loc → Need → List Demand → List Demand
  of_need l need ds = demands l need w.hidden_below ds

  -- those of a checked expression
  abbrev pub of_checked : TypedTree → List Demand → List Demand
  of_checked t ds = add_demands (surroundings_of w) t w.hidden_below ds

  -- those of a target, along a path
  abbrev pub of_target : TypedTree → List Text → List Demand → List Demand
  of_target t path ds = add_target_demands (surroundings_of w) t path w.hidden_below ds

  -- those of an entity that is dereferenced at a cost, and then that of its level with the cost
  abbrev pub of_reached : Option Loc → TypedTree → List Text → ℕ → List Demand → List Demand
  of_reached l t path cost ds =
      of_need l (this_level (raised (counted_level t path) cost)) (of_target t path ds)

  -- those of the first operand of an operator
  abbrev pub of_first : Option Loc → BinaryOp → TypedTree → List Demand → List Demand
  of_first l o t ds = if accesses_first o then of_reached l t [] 1 ds else of_checked t ds

  -- those of an access of an attribute
  abbrev pub of_access : Option Loc → TypedTree → List Demand → List Demand
  of_access l t ds =
      by_base (base_of (annotation t)) (of_reached l t [] 1 ds) (of_checked t ds) (of_need l a_rule ds)

  -- those of an extended `has`
  abbrev pub of_chain : Option Loc → TypedTree → Text × List Text → List Demand → List Demand
  of_chain l t c ds = add_demands_of_chain (surroundings_of w) l t c.0 c.1 w.hidden_below ds

  -- those of an extended `has` on a base of a type
  abbrev pub of_typed_chain : Option Loc → TypedTree → Ty → Text × List Text
      → List Demand → List Demand
  of_typed_chain l t ty c ds =
      let around = surroundings_of w in
      add_chain_demands l (base_of_type ty) (chain_cost around.schema ty c.0 c.1)
      (keys_to_entity around.schema ty c.0 c.1) (counted_level t)
      (add_target_demands around t) (add_demands around t) w.hidden_below ds

  -- those of an access that is a target
  abbrev pub of_access_target : Option Loc → TypedTree → Text → List Text
      → List Demand → List Demand
  of_access_target l t x path ds =
      by_base (base_of (annotation t)) (of_target t path ds) (of_target t (x ∷ path) ds)
      (of_need l a_rule ds)

  -- those of a record literal whose value at a key is a target
  abbrev pub of_followed : Fields Mark → Text → List Text → List Demand → List Demand
  of_followed fs p path ds = add_demands_along (surroundings_of w) fs p path w.hidden_below ds

  -- those of a record literal that is a target along a path
  abbrev pub of_record_target : Option Loc → Fields Mark → List Text → List Demand → List Demand
  of_record_target l fs path ds =
      on_path path (of_need l a_rule ds)
      (λ p rest. if has_key p fs then of_followed fs p rest ds else of_need l a_rule ds)

  -- that of a literal that is a target
  abbrev pub of_literal_target : Option Loc → Lit → List Demand → List Demand
  of_literal_target l x ds =
      at_leaf l (leaf_of_literal (surroundings_of w).action x) w.hidden_below ds

-- the level of an access that is a target: an entity is dereferenced once more, and a record is
-- part of the entry of its entity
abbrev pub access_level : TypedTree → Text → List Text → ℕ
access_level t x path =
    by_base (base_of (annotation t)) (raised (counted_level t path) 1) (counted_level t (x ∷ path)) 0

-- the level of a record literal that is a target: that of its value at the first key of the path
abbrev pub record_level : Fields Mark → List Text → ℕ
record_level fs path =
    on_path path 0 (λ p rest. if has_key p fs then counted_at_key fs p rest else 0)
