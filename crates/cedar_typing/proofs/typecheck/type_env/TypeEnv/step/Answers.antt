use Rattle.std.proofs.Common.{◌≡◌, ap, subst, sym, ◌∙◌}
use Rattle.std.specs.Prelude.{is_some}
use Rattle.cedar_types.specs.Capability.{attribute, cap_of, caps_so_far}
use Rattle.cedar_types.specs.ChainSteps.{step_attr, step_written}
use Rattle.cedar_types.proofs.ChainSteps.{step_form}
use Rattle.cedar_types.specs.Types.Lookups.{attribute_type}
use Rattle.cedar_types.specs.Names.{Text, text_of}
use Rattle.cedar_types.specs.Types.{ty_of, TBool}
use Rattle.cedar_types.specs.declared.base.types.BoolType.TheVariants.{False}
use Rattle.cedar_typing.specs.Capabilities.Priors.{known_in}
use Rattle.cedar_typing.specs.Capabilities.{no_caps, union}
use Rattle.cedar_typing.specs.Eager.{gives}
use Rattle.cedar_typing.specs.Rules.Attributes.{attribute_of}
use Rattle.cedar_typing.specs.Rules.Chains.{Progress, step, step_earns}
use Rattle.cedar_typing.specs.Views.{env_at, progress_of}
use Rattle.cedar_typing.proofs.Rules.Chains.{ends, goes_on, known_after, some_declared}
use Rattle.cedar_typing.proofs.typecheck.type_env.TypeEnv.step.Goals as goal

pub returns-clause-decides : goal.returns-clause-decides
returns-clause-decides c next =
    let env = env_at c.args.self.now in
    let e = step_written c.args.at.now in
    let s = ty_of c.args.ty.now in
    let x = text_of c.attr-attr.result.now in
    let l = c.args.place in
    let a = attribute_type env.schema s x in
    let prior = known_in c.args.prior.now in
    let p = progress_of c.args.progress in
    let same : cap_of c.in_ok-there.there ≡ attribute_of e x =
    c.in_ok-there.ensures ∙ (λ i. attribute (sym (step_form c.args.at.now) i) (sym c.attr-attr.ensures i)) in
    subst
    (λ (y : Text). next (progress_of c.in_ok-progress.progress) ≡ step env l (attribute_of e y) (union prior p.earned (attribute_of e y)) s y p next)
    c.attr-attr.ensures
    (goes_on env l s x prior p next (attribute_of e x) (cap_of c.in_ok-there.there) _ _ _
    same
    c.knows-is_known.ensures
    (c.step_type-step_ty.ensures a (sym c.in_ok-required.ensures))
    (c.in_ok-progress.ensures a (some_declared env l s x a ∙ (λ i. is_some (sym c.in_ok-required.ensures i)) ∙ sym c.is_some-is_declared.ensures))
    (sym c.is_object_type.ensures ∙ c.if-not-is_object_type.false)
    (sym c.is_false_type.ensures ∙ c.if-is_false_type.false))

pub returns-clause-knows : goal.returns-clause-knows
returns-clause-knows c =
    let env = env_at c.args.self.now in
    let e = step_written c.args.at.now in
    let s = ty_of c.args.ty.now in
    let u = ty_of c.step_type-step_ty.result in
    let x = text_of c.attr-attr.result.now in
    let l = c.args.place in
    let a = attribute_type env.schema s x in
    let prior = known_in c.args.prior.now in
    let p = progress_of c.args.progress in
    let q = cap_of c.in_ok-there.there in
    let same : q ≡ attribute_of e (step_attr c.args.at.now) =
    c.in_ok-there.ensures ∙ (λ i. attribute (sym (step_form c.args.at.now) i) (step_attr c.args.at.now)) in
    let declared = some_declared env l s x a ∙ (λ i. is_some (sym c.in_ok-required.ensures i)) ∙ sym c.is_some-is_declared.ensures in
    known_after prior p.earned (caps_so_far c.in_ok-progress.progress.earned) (step_earns u q a) (attribute_of e (step_attr c.args.at.now)) q _ _
    same
    c.knows-is_known.ensures
    (c.knows_after-is_known.ensures a declared q)
    (ap (λ (z : Progress). z.earned) (c.in_ok-progress.ensures a declared))

pub returns-then-is_false_type-clause-decides : goal.returns-then-is_false_type-clause-decides
returns-then-is_false_type-clause-decides c next =
    let env = env_at c.args.self.now in
    let e = step_written c.args.at.now in
    let s = ty_of c.args.ty.now in
    let x = text_of c.attr-attr.result.now in
    let l = c.args.place in
    let a = attribute_type env.schema s x in
    let prior = known_in c.args.prior.now in
    let p = progress_of c.args.progress in
    let same : cap_of c.in_ok-there.there ≡ attribute_of e x =
    c.in_ok-there.ensures ∙ (λ i. attribute (sym (step_form c.args.at.now) i) (sym c.attr-attr.ensures i)) in
    c.gives.ensures
    ∙ ap (λ t. gives t no_caps) c.bool_type.ensures
    ∙ subst
    (λ (y : Text). gives (TBool False) no_caps ≡ step env l (attribute_of e y) (union prior p.earned (attribute_of e y)) s y p next)
    c.attr-attr.ensures
    (ends env l s x prior p next (attribute_of e x) (cap_of c.in_ok-there.there) _ _
    same
    c.knows-is_known.ensures
    (c.step_type-step_ty.ensures a (sym c.in_ok-required.ensures))
    (sym c.is_object_type.ensures ∙ c.if-not-is_object_type.false)
    (sym c.is_false_type.ensures ∙ c.if-is_false_type.true))
