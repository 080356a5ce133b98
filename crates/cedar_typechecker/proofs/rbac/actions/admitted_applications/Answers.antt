use Rattle.std.proofs.Common.{◌∙◌, ap, map}
use Rattle.std.specs.List.{list_any}
use Rattle.cedar_types.specs.Schemas.Declarations.{declared_action}
use Rattle.cedar_types.specs.Schemas.Contents.{schema_of}
use Rattle.cedar_types.specs.Templates.{action_scope_of}
use Rattle.cedar_typechecker.specs.Scopes.{admitted_actions, applications}
use Rattle.cedar_typechecker.proofs.Answers.{same_applications}
use Rattle.cedar_typechecker.proofs.rbac.actions.admitted_applications.Goals as goal

pub returns : goal.returns
returns c = λ p.
    ap (list_any p) c.in_ok-applications.ensures
    ∙ ap (λ xs. list_any p (applications (map (λ a. declared_action a.now) xs))) c.as_slice.ensures.value
    ∙ same_applications (map (λ a. declared_action a.now) c.in_ok-actions.actions.items)
    (admitted_actions (schema_of c.args.schema.now).actions (action_scope_of c.args.constraint.now))
    c.in_ok-actions.ensures p
