use Rattle.std.proofs.Common.{◌≡◌, map, drop}
use Rattle.cedar_types.specs.Names.{text_of}
use Rattle.cedar_types.specs.Expressions.View.{trees_of}
use Rattle.cedar_typing.specs.TypedExpr.{typed_tree}
use Rattle.cedar_typechecker.specs.Levels.Demands.{add_all_demands, add_field_demands, add_demands_along, counted_at_key, unless_found}
use Rattle.cedar_typechecker.specs.Levels.Paths.{keys_along}
use Rattle.cedar_typechecker.specs.Levels.Views.{surroundings_of, demands_of, typed_fields}
use Rattle.cedar_typechecker.proofs.level_validate.walk.LevelWalk.+levels.Given as goal

-- the demands so far, and those of the elements that are left, are those of all
abbrev pub invariant-check_all-loop-e : goal.invariant-check_all-loop-e
invariant-check_all-loop-e l =
    add_all_demands (surroundings_of l.self) (trees_of (map typed_tree (drop l.e-index l.e-items)))
    l.self.hidden_below (demands_of l.found.items)
    ≡ add_all_demands (surroundings_of l.self) (trees_of (map typed_tree l.fn.exprs.items))
    l.self.hidden_below (demands_of l.fn.found.items)

abbrev pub invariant-check_fields-loop-value : goal.invariant-check_fields-loop-value
invariant-check_fields-loop-value l =
    add_field_demands (surroundings_of l.self) (typed_fields l.value-iterator)
    l.self.hidden_below (demands_of l.found.items)
    ≡ add_field_demands (surroundings_of l.self) (typed_fields l.fn.fields.entries)
    l.self.hidden_below (demands_of l.fn.found.items)

abbrev pub invariant-follow-loop-own : goal.invariant-follow-loop-own
invariant-follow-loop-own l =
    (unless_found l.level
    (λ k. add_field_demands (surroundings_of l.self) (typed_fields l.own-iterator)
    l.self.hidden_below (demands_of l.found.items))
    (add_demands_along (surroundings_of l.self) (typed_fields l.own-iterator) (text_of l.key)
    (keys_along l.rest) l.self.hidden_below (demands_of l.found.items))
    ≡ add_demands_along (surroundings_of l.self) (typed_fields l.fn.fields.entries)
    (text_of l.key) (keys_along l.rest) l.self.hidden_below (demands_of l.fn.found.items))
    × (unless_found l.level (λ k. k)
    (counted_at_key (typed_fields l.own-iterator) (text_of l.key) (keys_along l.rest))
    ≡ counted_at_key (typed_fields l.fn.fields.entries) (text_of l.key) (keys_along l.rest))
