use Rattle.std.proofs.Common.{map, sym, ◌∙◌, subst}
use Rattle.std.specs.List.{flat_map}
use Rattle.cedar_types.specs.Names.{uid_of, uid_eq, uid_cmp}
use Rattle.cedar_types.specs.Schemas.Contents.{schema_of}
use Rattle.cedar_types.proofs.Names.Ids.{uid_ties, uids_cmp}
use Rattle.cedar_types.proofs.Schema.Listings.{apart_sorted, less_apart}
use Rattle.cedar_typechecker.specs.Surveyed.{TakesIn, envs_named}
use Rattle.cedar_typechecker.proofs.Surveyed.Growth.{takes_both}
use Rattle.cedar_typechecker.proofs.survey.Survey.take_in_actions.Goals as goal

pub loop-action-preserved : goal.loop-action-preserved
loop-action-preserved g c = (
  c.in_ok-take_in_action.ensures.policy ∙ c.loop-action.invariant.0,
  λ b t on new h.
      let old = c.loop-action.self in
      let mid = c.take_in_action.new.self in
      let acts = (schema_of c.args.scope.schema.now).actions in
      let here = envs_named acts (uid_of c.in-Some.action.now) in
      let rest = flat_map (envs_named acts) (map uid_of c.next.new.self) in
      c.loop-action.invariant.1 b t on new
      (subst (λ xs. TakesIn b t old new (flat_map (envs_named acts) (map uid_of xs))) (sym c.in-Some.ensures.steps)
      (takes_both b t old mid new here rest (c.in_ok-take_in_action.ensures.surveys b t on) h)),
)

pub returns-clause-once : goal.returns-clause-once
returns-clause-once g c =
    apart_sorted _ uid_of uid_eq
    (λ a b l. less_apart (uid_cmp (uid_of a) (uid_of b)) (uid_eq (uid_of a) (uid_of b))
    (sym (uids_cmp a b) ∙ l) (uid_ties (uid_of a) (uid_of b)))
    c.args.scope.admitted.now.keys c.iter-action-items.ensures.ordered
