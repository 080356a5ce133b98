use Rattle.std.proofs.Common.{ap, map}
use Rattle.cedar_types.specs.Errors.{finding_of}
use Rattle.cedar_types.specs.Schemas.Contents.{schema_of}
use Rattle.cedar_types.specs.Templates.{template_of}
use Rattle.cedar_types.specs.Templates.Findings.{unknown_types, unknown_actions, wrong_members}
use Rattle.cedar_typechecker.specs.Levels.Views.{findings}
use Rattle.cedar_typechecker.specs.Passes.{errors_left}
use Rattle.cedar_typechecker.proofs.Levels.Outcomes.{three_found}
use Rattle.cedar_host.proofs.policy_sets.name_errors.Goals as goal

pub returns : goal.returns
returns c =
    let s = schema_of c.args.schema.now in
    let t = template_of c.args.policy.now in
    three_found (findings c.new-found.result.items) (findings c.collect.new.found.items)
    (findings c.collect-2.new.found.items) (findings c.collect-3.new.found.items)
    (errors_left c.validate_enum_entity.result) (errors_left c.validate_entity_types.result)
    (errors_left c.validate_action_ids.result)
    (wrong_members s t) (unknown_types s t) (unknown_actions s t)
    (ap (map finding_of) c.new-found.ensures.items) c.in_ok-collect.ensures
    c.in_ok-collect-2.ensures c.in_ok-collect-3.ensures c.validate_enum_entity.ensures.left
    c.validate_entity_types.ensures.left c.validate_action_ids.ensures.left
