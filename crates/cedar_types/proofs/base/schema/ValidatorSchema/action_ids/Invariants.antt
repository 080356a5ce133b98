use Rattle.std.proofs.Common.{◌≡◌, take, map}
use Rattle.cedar_types.specs.Schemas.Declarations.{declared_action}
use Rattle.cedar_types.proofs.base.schema.ValidatorSchema.action_ids.Given as goal

-- The listed actions are those so far
abbrev pub invariant-loop-action : goal.invariant-loop-action
invariant-loop-action l = map (λ t. declared_action t.now) l.listed.items ≡ map declared_action (take l.action-index l.action-items)
