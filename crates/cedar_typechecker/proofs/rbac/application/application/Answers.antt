use Rattle.std.proofs.Common.{◌∙◌, sym, ap, subst, map}
use Rattle.cedar_types.specs.Schemas.Declarations.{application}
use Rattle.cedar_types.specs.Errors.{invalid_action_application}
use Rattle.cedar_types.specs.Schemas.Contents.{schema_of}
use Rattle.cedar_types.specs.Templates.{template_of, scope_of}
use Rattle.cedar_typechecker.specs.declared.rbac.flags.Side.{Side}
use Rattle.cedar_typechecker.specs.Applications.{fits}
use Rattle.cedar_typechecker.specs.Members.{SameMembers}
use Rattle.cedar_typechecker.specs.Scopes.{admitted_types, admitted_applications}
use Rattle.cedar_typechecker.proofs.Answers.{flag_listed}
use Rattle.cedar_typechecker.proofs.rbac.application.application.Goals as goal

pub returns-then-has_fitting : goal.returns-then-has_fitting
returns-then-has_fitting c =
    let s = schema_of c.args.schema.now in
    let apps = subst (λ xs. SameMembers (map (λ a. application a.now) xs) (admitted_applications s (template_of c.args.t.now).action))
    (sym c.as_slice-applications.ensures.value) c.in_ok-listed.ensures in
    sym (apps (fits (admitted_types s (scope_of c.args.principal.now)) (admitted_types s (scope_of c.args.resource.now))))
    ∙ sym c.has_fitting.ensures ∙ c.if-has_fitting.true

pub returns : goal.returns
returns c =
    let s = schema_of c.args.schema.now in
    let t = record (template_of c.args.t.now) { principal = scope_of c.args.principal.now; resource = scope_of c.args.resource.now } in
    let apps = subst (λ xs. SameMembers (map (λ a. application a.now) xs) (admitted_applications s t.action))
    (sym c.as_slice-applications.ensures.value) c.in_ok-listed.ensures in
    let for_principal = c.in_might_help-would_in_fix_principal.ensures ∙ flag_listed s Side.Principal t.principal _ _ apps in
    let for_resource = c.in_might_help-would_in_fix_resource.ensures ∙ flag_listed s Side.Resource t.resource _ _ apps in (
      sym (apps (fits (admitted_types s t.principal) (admitted_types s t.resource))) ∙ sym c.has_fitting.ensures ∙ c.if-has_fitting.false,
      c.in_ok-warning.ensures
          ∙ (λ i. record {
            place = t.place;
            policy = t.id;
            slip =
                invalid_action_application (for_principal i) (for_resource i);
          }),
    )
