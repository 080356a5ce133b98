use Rattle.std.proofs.Common.{◌∙◌, ap, sym, ◌&&◌}
use Rattle.std.specs.List.{list_any}
use Rattle.cedar_types.specs.Names.{type_of, path_eq}
use Rattle.cedar_types.specs.Schemas.Declarations.{declared_action}
use Rattle.cedar_types.specs.Schemas.Tables.{actions_in}
use Rattle.cedar_types.specs.Schemas.Contents.{schema_of}
use Rattle.cedar_types.proofs.Schema.Places.{any_mapped}
use Rattle.cedar_types.proofs.Schema.Memberships.{below_seen, below_is}
use Rattle.cedar_types.proofs.base.schema.ValidatorSchema.is_action_below.Goals as goal

pub returns-then-are_action_types : goal.returns-then-are_action_types
unfolding schema_of
returns-then-are_action_types c =
    c.has_action_below.ensures
    ∙ any_mapped declared_action
    (λ a. path_eq (type_of c.args.right.now) a.name.entity_type
    && list_any (λ d. path_eq (type_of c.args.left.now) d.entity_type) a.descendants)
    c.args.self.now.actions.declared.items
    ∙ ap (λ b. b && below_seen (actions_in c.args.self.now.actions) (type_of c.args.left.now)
    (type_of c.args.right.now)) (sym c.if-are_action_types.true ∙ c.are_action_types.ensures)
    ∙ below_is (schema_of c.args.self.now) c.args.self.now.faultless (type_of c.args.left.now) (type_of c.args.right.now)

pub returns-else-are_action_types : goal.returns-else-are_action_types
unfolding schema_of
returns-else-are_action_types c =
    c.if-are_action_types.false
    ∙ ap (λ b. b && below_seen (actions_in c.args.self.now.actions) (type_of c.args.left.now)
    (type_of c.args.right.now)) (sym c.if-are_action_types.false ∙ c.are_action_types.ensures)
    ∙ below_is (schema_of c.args.self.now) c.args.self.now.faultless (type_of c.args.left.now) (type_of c.args.right.now)
