use Rattle.std.proofs.Common.{◌≡◌, ◌∷◌, ◌&&◌, true, false, cond, [], sym, ◌∙◌, ap, subst}
use Rattle.cedar_types.specs.Environments.RequestEnvs.{env_of}
use Rattle.cedar_types.specs.Schemas.Contents.{schema_of}
use Rattle.cedar_types.specs.Templates.{template_of}
use Rattle.cedar_typechecker.specs.LeftOut.{is_left_out_by, visits_in_env}
use Rattle.cedar_typechecker.specs.Surveyed.{TakesIn, admitted_by}
use Rattle.cedar_typechecker.proofs.Surveyed.Growth.{takes_none}
use Rattle.cedar_typechecker.proofs.Surveyed.Listing.{kept_unless}
use Rattle.cedar_typechecker.proofs.survey.Survey.take_in_admitted.Goals as goal

pub returns-then-leaves_out-clause-surveys : goal.returns-then-leaves_out-clause-surveys
returns-then-leaves_out-clause-surveys g c b t on =
    let us = admitted_by c.args.scope in
    let e = env_of c.args.env.now in
    let out : is_left_out_by us e ≡ true = sym c.leaves_out.ensures ∙ c.if-leaves_out.true in
    subst (λ k. TakesIn b t c.args.self.now c.args.self.now (cond k (e ∷ []) [])) (sym (kept_unless us e true out))
    (takes_none b t c.args.self.now)

pub returns-clause-surveys : goal.returns-clause-surveys
returns-clause-surveys g c b t on =
    let us = admitted_by c.args.scope in
    let e = env_of c.args.env.now in
    let out : is_left_out_by us e ≡ false = sym c.leaves_out.ensures ∙ c.if-leaves_out.false in
    subst (λ k. TakesIn b t c.args.self.now c.take_in_env.new.self (cond k (e ∷ []) [])) (sym (kept_unless us e false out))
    (c.in_ok-take_in_env.ensures.surveys b t on)

pub returns-clause-asks : goal.returns-clause-asks
returns-clause-asks g c =
    let d = c.args.scope in
    let e = env_of c.args.env.now in
    let out : is_left_out_by (admitted_by d) e ≡ false = sym c.leaves_out.ensures ∙ c.if-leaves_out.false in
    ap (λ k. k && visits_in_env (schema_of d.schema.now) d.mode (template_of d.template.now) e) (sym out)
