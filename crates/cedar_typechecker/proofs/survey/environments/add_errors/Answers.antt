use Rattle.std.proofs.Common.{◌≡◌, ◌∙◌, ◌++◌, ◌∷◌, [], List, map, refl, sym, ap, subst}
use Rattle.std.specs.BTreeMap.{get}
use Rattle.cedar_types.specs.declared.base.errors.validation_errors.ValidationError.{ValidationError}
use Rattle.cedar_types.specs.Environments.RequestEnvs.{env_of}
use Rattle.cedar_types.specs.ErrorOrder.{error_cmp}
use Rattle.cedar_types.specs.Errors.{Finding, finding_of}
use Rattle.cedar_typing.specs.PolicyCheck.Outcome.{Adds}
use Rattle.cedar_typing.proofs.Basics.Gains.{union_adds}
use Rattle.cedar_typing.proofs.Policies.Tallies.{is_tied, tie_decides}
use Rattle.cedar_typechecker.specs.Levels.Outcome.{AreApart}
use Rattle.cedar_typechecker.specs.Levels.Views.{findings}
use Rattle.cedar_typechecker.specs.SurveyedErrors.{AddsEnvironment}
use Rattle.cedar_typechecker.proofs.Levels.Gains.{joined_again, nil_right}
use Rattle.cedar_typechecker.proofs.Levels.Outcomes.{apart}
use Rattle.cedar_typechecker.proofs.SurveyedErrors.{none_added, one_more_error, added_alike, apart_before, findings_joined}
use Rattle.cedar_typechecker.proofs.survey.environments.add_errors.Goals as goal

pub loop-error-init : goal.loop-error-init
loop-error-init c =
    let given = c.into_iter-error-iterator.ensures.into_iter_gives in
    let P : List ValidationError → Type 0 = λ ks. AreApart (findings ks) in (
      λ x. none_added (env_of c.args.env.now) (finding_of x) (get error_cmp c.args.all.now x),
      refl,
      subst P (sym given.0) (apart c.insert_all.new.set.keys given.4),
    )

pub loop-error-preserved : goal.loop-error-preserved
loop-error-preserved c =
    let env = env_of c.args.env.now in
    let inv = c.loop-error.invariant in
    let before = c.loop-error.yielded in
    let error = c.in-Some.error in
    let rest = c.next.new.self in
    let all = c.into_iter-error-iterator.result in
    let whole : (before ++ error ∷ []) ++ rest ≡ all =
    joined_again before (error ∷ []) rest
    ∙ (ap (λ z. before ++ z) (sym c.in-Some.ensures.steps) ∙ inv.1) in
    let parts : findings all ≡ findings before ++ (finding_of error ∷ findings rest) =
    ap findings (sym (ap (λ z. before ++ z) (sym c.in-Some.ensures.steps) ∙ inv.1))
    ∙ findings_joined before (error ∷ rest) in
    let other = apart_before (findings before) (finding_of error) (findings rest)
    (subst AreApart parts inv.2) in (
      λ x.
          let P : List Finding → Type 0 = λ es. AddsEnvironment env es (finding_of x)
          (get error_cmp c.args.all.now x) (get error_cmp c.add_error.new.all x) in
          subst P (sym (findings_joined before (error ∷ [])))
          (one_more_error env (findings before) (finding_of error) (finding_of x) _ _ _ other
          (inv.0 x) (c.in_ok-add_error.ensures x)),
      whole,
      inv.2,
    )

pub returns : goal.returns
returns c x =
    let env = env_of c.args.env.now in
    let inv = c.loop-error.invariant in
    let done = c.loop-error.yielded in
    let keys = c.insert_all.new.set.keys in
    let given = c.into_iter-error-iterator.ensures.into_iter_gives in
    let all : done ≡ keys =
    sym (nil_right done) ∙ (ap (λ z. done ++ z) (sym c.in-None.ensures.steps.0) ∙ (inv.1 ∙ given.0)) in
    let found = c.args.errors.items in
    let union = union_adds is_tied finding_of tie_decides c.new-own.result.keys found keys
    c.in_ok-insert_all.ensures in
    let P : List ValidationError → Type 0 = λ ks. Adds (map finding_of ks) (findings found)
    (findings keys) in
    let Q : List ValidationError → Type 0 = λ ks. Adds [] (findings found) (findings ks) in
    let same = subst Q (sym all) (subst P c.new-own.ensures.empty union) in
    added_alike env (findings done) (findings found) (finding_of x) _ _ (same (finding_of x)).0
    (same (finding_of x)).1 (inv.0 x)
