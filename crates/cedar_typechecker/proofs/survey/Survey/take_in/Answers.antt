use Rattle.std.proofs.Common.{◌≡◌, ◌∙◌, ◌+◌, ◌∷◌, false, List, [], map, refl, sym, ap, subst}
use Rattle.std.specs.BTreeMap.{BTreeMap, get}
use Rattle.cedar_types.specs.declared.base.errors.validation_errors.ValidationError.{ValidationError}
use Rattle.cedar_types.specs.Environments.RequestEnvs.{env_of}
use Rattle.cedar_types.specs.ErrorOrder.{error_cmp}
use Rattle.cedar_types.specs.Errors.{Finding, finding_of}
use Rattle.cedar_types.specs.Schemas.Contents.{schema_of}
use Rattle.cedar_typing.specs.PolicyCheck.{irrelevant}
use Rattle.cedar_typing.specs.PolicyCheck.Outcome.{Adds, is_silent}
use Rattle.cedar_typing.specs.TypedExpr.{typed_tree}
use Rattle.cedar_typing.proofs.Policies.Tallies.{silent}
use Rattle.cedar_typechecker.specs.Levels.Demands.{capped, Surroundings, add_demands}
use Rattle.cedar_typechecker.specs.Levels.Views.{demands_of}
use Rattle.cedar_typechecker.specs.declared.survey.environments.Environments.{Environments}
use Rattle.cedar_typechecker.specs.SurveyedErrors.{AddsEnvironment}
use Rattle.cedar_typechecker.specs.Surveys.{Surveys}
use Rattle.cedar_typechecker.proofs.Surveys.{no_finding, surroundings_seen, with_success, with_irrelevant, with_refused_irrelevant, with_failure}
use Rattle.cedar_typechecker.proofs.survey.Survey.take_in.Goals as goal

pub returns-in_ok-take_in_demands-in-Success-clause-surveys : goal.returns-in_ok-take_in_demands-in-Success-clause-surveys
returns-in_ok-take_in_demands-in-Success-clause-surveys c envs vs h =
    let schema = schema_of c.args.schema.now in
    let env = env_of c.args.env.now in
    let old = c.args.self.now in
    let new = c.take_in_demands.new.self in
    let x = typed_tree c.in-Success.condition in
    let k = c.in_ok-take_in_demands-in-Success.ensures in
    let P : Surroundings → Type 0 = λ s. Adds (demands_of old.demands.keys)
    (add_demands s x 0 []) (demands_of new.demands.keys) in
    let seen = surroundings_seen c.action_entity_uid.result schema c.args.env.now
    c.action_entity_uid.ensures in
    rw c.in-Success.is (with_success schema env envs vs old new h x k.passes k.impossible k.silent
    (k.applicable ∙ c.saturating_add-self.ensures) k.errors (subst P seen k.demands))

pub returns-then-is_empty-clause-surveys : goal.returns-then-is_empty-clause-surveys
returns-then-is_empty-clause-surveys c envs vs h =
    let schema = schema_of c.args.schema.now in
    let env = env_of c.args.env.now in
    let old = c.args.self.now in
    let new = c.take_in_demands-in-Irrelevant.new.self in
    let found = c.in-Irrelevant.errors.items in
    let x = typed_tree c.in-Irrelevant.condition in
    let k = c.in_ok-take_in_demands-in-Irrelevant.ensures in
    let P : Surroundings → Type 0 = λ s. Adds (demands_of old.demands.keys)
    (add_demands s x 0 []) (demands_of new.demands.keys) in
    let seen = surroundings_seen c.action_entity_uid.result schema c.args.env.now
    c.action_entity_uid.ensures in
    let Q : List Finding → Type 0 = λ es. Surveys schema new (env ∷ envs) (irrelevant es x ∷ vs) in
    let none : map finding_of found ≡ [] =
    no_finding (map finding_of found)
    (sym (silent found c.in-Irrelevant.errors.len c.is_empty.result c.in-Irrelevant.errors.ok.0
    c.is_empty.ensures) ∙ c.if-is_empty.true) in
    rw c.in-Irrelevant.is (subst Q (sym none)
    (with_irrelevant schema env envs vs old new h x k.passes k.impossible k.silent k.applicable
    k.errors (subst P seen k.demands)))

pub returns-in_ok-add_errors-in-Irrelevant-clause-surveys : goal.returns-in_ok-add_errors-in-Irrelevant-clause-surveys
returns-in_ok-add_errors-in-Irrelevant-clause-surveys c envs vs h =
    let schema = schema_of c.args.schema.now in
    let env = env_of c.args.env.now in
    let old = c.args.self.now in
    let mid = c.take_in_demands-in-Irrelevant.new.self in
    let found = c.in-Irrelevant.errors.items in
    let x = typed_tree c.in-Irrelevant.condition in
    let k = c.in_ok-take_in_demands-in-Irrelevant.ensures in
    let P : Surroundings → Type 0 = λ s. Adds (demands_of old.demands.keys)
    (add_demands s x 0 []) (demands_of mid.demands.keys) in
    let seen = surroundings_seen c.action_entity_uid.result schema c.args.env.now
    c.action_entity_uid.ensures in
    let some : is_silent (map finding_of found) ≡ false =
    sym (silent found c.in-Irrelevant.errors.len c.is_empty.result
    c.in-Irrelevant.errors.ok.0 c.is_empty.ensures) ∙ c.if-is_empty.false in
    let Added : BTreeMap ValidationError Environments → Type 0 = λ m. (e : ValidationError)
    → AddsEnvironment env (map finding_of found) (finding_of e) (get error_cmp m e)
    (get error_cmp c.add_errors.new.all e) in
    let added = subst Added k.errors c.in_ok-add_errors-in-Irrelevant.ensures in
    let counted = c.saturating_add-self-in-Irrelevant.ensures
    ∙ ap (λ a. capped (a + 1)) k.applicable in
    rw c.in-Irrelevant.is (with_refused_irrelevant schema env envs vs old _ h found added x some refl
    k.impossible k.silent counted (subst P seen k.demands))

pub returns-in_ok-add_errors-in-Fail-clause-surveys : goal.returns-in_ok-add_errors-in-Fail-clause-surveys
returns-in_ok-add_errors-in-Fail-clause-surveys c envs vs h =
    let schema = schema_of c.args.schema.now in
    let env = env_of c.args.env.now in
    let old = c.args.self.now in
    let found = c.in-Fail.errors.items in
    let b = c.is_empty-in-Fail.result in
    let q : b ≡ is_silent (map finding_of found) =
    silent found c.in-Fail.errors.len b c.in-Fail.errors.ok.0 c.is_empty-in-Fail.ensures in
    let added = c.in_ok-add_errors-in-Fail.ensures in
    rw c.in-Fail.is (with_failure schema env envs vs old _ h found added b q refl refl refl
    c.saturating_add-self-in-Fail.ensures refl)
