use Rattle.std.proofs.Common.{◌≡◌, not, List, map, sym, ap, subst, ◌∙◌}
use Rattle.cedar_types.specs.declared.types.request_env.RequestEnv.{RequestEnv}
use Rattle.cedar_types.specs.Environments.RequestEnvs.{env_of}
use Rattle.cedar_types.specs.Names.{Uid, uid_of}
use Rattle.cedar_types.specs.Schemas.{uid_is_among}
use Rattle.cedar_types.proofs.Names.Ids.{uids_cmp, contained_id}
use Rattle.cedar_typechecker.specs.LeftOut.{is_left_out_by}
use Rattle.cedar_typechecker.proofs.survey.left_out.DecidedScope.leaves_out.Goals as goal

pub returns-in-DeclaredAction : goal.returns-in-DeclaredAction
returns-in-DeclaredAction c =
    let keys = c.args.self.now.admitted.now.keys in
    let us : List Uid = map uid_of keys in
    let action = c.in-DeclaredAction.action.now in
    let among : c.contains.result ≡ uid_is_among us (uid_of action) =
    c.contains.ensures ∙ contained_id _ (uid_of action) (λ k. uids_cmp action k) keys in
    let P : RequestEnv → Type 0 = λ e. not c.contains.result ≡ is_left_out_by us (env_of e) in
    subst P (sym c.in-DeclaredAction.is) (ap not among)
