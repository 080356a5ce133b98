use Rattle.std.proofs.Common.{◌≡◌, ◌∙◌, ap, sym, ◌+◌, true, ◌&&◌, [], ◌∷◌, ◌++◌, map, take, length, Some, arith}
use Rattle.std.specs.List.{list_all}
use Rattle.std.specs.Ordering.{is_eq}
use Rattle.std.proofs.Math.Seq.{take-length}
use Rattle.std.proofs.lemmas.List.Folds.{list_all-append}
use Rattle.cedar_types.specs.Names.{uid_of, uid_eq}
use Rattle.cedar_types.specs.Schemas.Declarations.{declared_action, uids_of}
use Rattle.cedar_types.specs.Schemas.{declares_action, action_named, action_descendants, uid_is_among}
use Rattle.cedar_types.specs.Schemas.Listings.{actions_within}
use Rattle.cedar_types.specs.Schemas.Contents.{schema_of}
use Rattle.cedar_types.specs.Schemas.Tables.{actions_in}
use Rattle.cedar_types.proofs.Names.Ids.{uid_decides, uid_ties, uids_cmp}
use Rattle.cedar_types.proofs.Schema.Places.{next_mapped}
use Rattle.cedar_types.proofs.Schema.Listings.{inserted, next_within, found_some, found_none, all_fails}
use Rattle.cedar_types.proofs.base.schema.ValidatorSchema.get_actions_in_set.Goals as goal

pub returns-in_default : goal.returns-in_default
unfolding schema_of
returns-in_default c =
    let acts = actions_in c.args.self.now.actions in
    all_fails uid_of (declares_action acts) c.args.actions.now c.loop-action.action-index c.action-item.result
    c.loop-action-test.true c.action-item.is
    (found_none (λ a. uid_eq (uid_of c.action-item.result) a.name) acts (sym c.in_default.ensures))

pub loop-action-preserved : goal.loop-action-preserved
unfolding schema_of
loop-action-preserved c =
    let acts = actions_in c.args.self.now.actions in
    let us = map uid_of (take c.loop-action.action-index c.args.actions.now) in
    let x = uid_of c.action-item.result in
    let step : map uid_of (take (c.loop-action.action-index + 1) c.args.actions.now)
    ≡ us ++ x ∷ [] = next_mapped uid_of c.args.actions.now c.loop-action.action-index c.action-item.result
    c.loop-action-test.true c.action-item.is in
    let named : Some (declared_action c.in-Some.declared.now) ≡ action_named acts x = c.in-Some.ensures in
    record {
      known =
          ap (list_all (declares_action acts)) step ∙ list_all-append (declares_action acts) us (x ∷ [])
          ∙ (λ j. c.loop-action.invariant.known j
          && (found_some (λ a. uid_eq x a.name) acts (declared_action c.in-Some.declared.now) (sym named) j
          && true));
      members = λ u.
          next_within acts us x (uids_of c.in-Some.declared.now.descendants) (ap action_descendants (sym named)) u
          (uid_is_among (map (λ k. uid_of k.now) c.loop-action.within.keys) u)
          (uid_is_among (map (λ k. uid_of k.now) c.insert.new.self.keys) u)
          (uid_is_among (map (λ k. uid_of k.now) c.add_all.new.actions.keys) u)
          (c.loop-action.invariant.members u)
          (ap (λ ks. uid_is_among (map (λ k. uid_of k.now) ks) u) c.in_ok-insert.ensures.keys
          ∙ inserted _ (λ k. uid_of k.now) uid_eq
          (λ a b e. (uid_decides (uid_of a.now) (uid_of b.now)).0
          (uid_ties (uid_of a.now) (uid_of b.now) ∙ ap is_eq (sym (uids_cmp a.now b.now) ∙ e)))
          _ u c.loop-action.within.keys)
          (c.in_ok-add_all.ensures.members u)
          ∙ ap (λ vs. uid_is_among (actions_within acts vs) u) (sym step);
    }

pub returns : goal.returns
unfolding schema_of
returns c =
    let acts = actions_in c.args.self.now.actions in
    let at : c.loop-action.action-index ≡ length c.args.actions.now = omega arith in
    let all : take c.loop-action.action-index c.args.actions.now
    ≡ c.args.actions.now = ap (λ n. take n c.args.actions.now) at ∙ take-length c.args.actions.now in (
      ap (λ us. list_all (declares_action acts) (map uid_of us)) (sym all) ∙ c.loop-action.invariant.known,
      record {
        members =
            λ u. ap (λ us. uid_is_among us u) c.in_ok-listed.ensures.same ∙ c.loop-action.invariant.members u
            ∙ ap (λ us. uid_is_among (actions_within acts (map uid_of us)) u) all;
        apart = c.in_ok-listed.ensures.apart;
      },
    )
