use Rattle.std.proofs.Common.{◌≡◌, List, Option, sym, subst}
use Rattle.std.specs.BTreeMap.{get}
use Rattle.cedar_types.specs.Environments.RequestEnvs.{Env, env_of}
use Rattle.cedar_types.specs.ErrorOrder.{error_cmp}
use Rattle.cedar_typechecker.specs.declared.survey.environments.Environments.{Environments}
use Rattle.cedar_typechecker.specs.SurveyedErrors.{IsListing, IsListingIfAny}
use Rattle.cedar_typechecker.proofs.SurveyedErrors.{unwrapped, one_added}
use Rattle.cedar_typechecker.proofs.survey.environments.add_error.Goals as goal

pub returns : goal.returns
returns c x =
    let env = env_of c.args.env.now in
    let o = c.unwrap_or-environments.result in
    let found = c.remove-found.result in
    let none = c.none.result in
    let was : found ≡ get error_cmp c.args.all.now c.args.error = c.remove-found.ensures.value in
    let Before : Option Environments → Type 0 = λ w. (own : List Env) → IsListingIfAny own w
    → IsListing own o in
    let P : Environments → Type 0 = λ w. (own : List Env) → IsListingIfAny own found
    → IsListing own w in
    let before = subst Before was
    (subst P (sym c.unwrap_or-environments.ensures) (unwrapped found none c.none.ensures)) in
    one_added env c.args.error x c.args.all.now c.remove-found.new.self c.insert.new.self o
    c.add.new.self before c.in_ok-add.ensures.added (c.remove-found.ensures.updates.0 x)
    (c.in_ok-insert.ensures.updates.0 x)
