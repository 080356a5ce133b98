use Rattle.std.proofs.Common.{◌≡◌, ◌∷◌, [], ◌++◌, ◌||◌, sym, ap, ◌∙◌, subst, map, Bool, true, false}
use Rattle.std.specs.Bool.{OnFalse}
use Rattle.std.specs.declared.cmp.Ordering.TheVariants.{Equal}
use Rattle.std.specs.Ordering.{is_eq}
use Rattle.std.proofs.lemmas.List.{map_push}
use Rattle.cedar_types.specs.Names.Comparisons.{entity_uid_cmp}
use Rattle.cedar_types.specs.declared.base.names.entities.EntityUID.{EntityUID}
use Rattle.cedar_types.specs.Names.{Uid, uid_of, uid_eq}
use Rattle.cedar_types.specs.Schemas.{uid_is_among}
use Rattle.cedar_types.specs.Schemas.Declarations.{uids_of}
use Rattle.cedar_typing.proofs.Basics.{not_true}
use Rattle.cedar_types.proofs.Names.Ids.{uid_decides, uid_ties, uids_cmp, contained_id}
use Rattle.cedar_types.proofs.Schema.Listings.{inserted}
use Rattle.cedar_types.proofs.Schema.Places.{next_mapped}
use Rattle.cedar_host.specs.Loading.{AreNew}
use Rattle.cedar_host.specs.Distinct.{AreDistinct}
use Rattle.cedar_host.proofs.Distinct.{distinct_more}
use Rattle.cedar_host.proofs.AddedIds.{lacked, had, fresh_too, not_added}
use Rattle.cedar_host.proofs.loading.add_new.Goals as goal
use Rattle.cedar_host.proofs.loading.add_new.Goals.{then-branch+in_ok-clone-2+in_ok-push, else-branch}

-- ids that compare as equal are equal
same_ids : (a b : EntityUID) → entity_uid_cmp a b ≡ Equal → uid_of a ≡ uid_of b
same_ids a b e =
    (uid_decides (uid_of a) (uid_of b)).0
    (uid_ties (uid_of a) (uid_of b) ∙ ap is_eq (sym (uids_cmp a b) ∙ e))

pub loop-id-preserved : goal.loop-id-preserved
loop-id-preserved c =
    let these = c.args.these.now in
    let i = c.loop-id.id-index in
    let id = c.id-item.result in
    let x = uid_of id in
    let put = c.in_ok-clone.field-0 in
    let is : uid_of put ≡ x = ap (λ p. p.uid) c.in_ok-clone.ensures.cases in
    let old = c.loop-id.ids.keys in
    let new = c.insert.new.self.keys in
    let had_it : Uid → Bool = uid_is_among (map uid_of old) in
    let members : (u : Uid) → uid_is_among (map uid_of new) u ≡ (uid_eq u x || had_it u) = λ u.
    ap (λ ks. uid_is_among (map uid_of ks) u) c.in_ok-insert.ensures.keys
    ∙ inserted entity_uid_cmp uid_of uid_eq same_ids put u old
    ∙ ap (λ v. uid_eq u v || had_it u) is in
    let found = c.loop-id.added.items in
    let one_more = next_mapped uid_of these i id c.loop-id-test.true c.id-item.is in
    let lacks : c.in_ok-insert.field-0 ≡ true → had_it x ≡ false = λ e.
    subst (λ v. had_it v ≡ false) is
    (sym (contained_id _ (uid_of put) (λ k. uids_cmp put k) old)
    ∙ not_true _ (sym c.in_ok-insert.ensures.added ∙ e)) in
    let first = uids_of c.args.ids.now in
    record {
      adds =
          elim c.if-branch.branch [
            | then-branch+in_ok-clone-2+in_ok-push w ↦
                lacked _ _ _ _ x c.loop-id.invariant.adds _ members _ _ one_more
                (ap (λ v. map uid_of v.items) w.added-is ∙ (ap (map uid_of) w.in_ok-push.ensures.items
                ∙ (map_push uid_of found w.in_ok-clone-2.field-0
                ∙ ap (λ v. map uid_of found ++ v ∷ []) (ap (λ p. p.uid) w.in_ok-clone-2.ensures.cases))))
            | else-branch w ↦
                had _ _ _ _ x c.loop-id.invariant.adds _ members _ _ one_more
                (ap (map uid_of)
                (subst (λ b. OnFalse b (new ≡ old)) w.if-branch.false c.in_ok-insert.ensures.unchanged))
                (ap (λ v. map uid_of v.items) w.added-is)
          ];
      fresh =
          elim c.if-branch.branch [
            | then-branch+in_ok-clone-2+in_ok-push w ↦
                subst (λ us. AreNew us first) (sym (ap (λ v. map uid_of v.items) w.added-is ∙ (ap (map uid_of) w.in_ok-push.ensures.items
                ∙ (map_push uid_of found w.in_ok-clone-2.field-0
                ∙ ap (λ v. map uid_of found ++ v ∷ []) (ap (λ p. p.uid) w.in_ok-clone-2.ensures.cases)))))
                (fresh_too _ _ _ _ x c.loop-id.invariant.adds (lacks w.if-branch.true) c.loop-id.invariant.fresh)
            | else-branch w ↦
                subst (λ us. AreNew us first) (sym (ap (λ v. map uid_of v.items) w.added-is))
                c.loop-id.invariant.fresh
          ];
      distinct =
          elim c.if-branch.branch [
            | then-branch+in_ok-clone-2+in_ok-push w ↦
                subst AreDistinct (sym (ap (λ v. map uid_of v.items) w.added-is ∙ (ap (map uid_of) w.in_ok-push.ensures.items
                ∙ (map_push uid_of found w.in_ok-clone-2.field-0
                ∙ ap (λ v. map uid_of found ++ v ∷ []) (ap (λ p. p.uid) w.in_ok-clone-2.ensures.cases)))))
                (distinct_more (map uid_of found) x c.loop-id.invariant.distinct
                (not_added _ _ _ _ x c.loop-id.invariant.adds (lacks w.if-branch.true)))
            | else-branch w ↦
                subst AreDistinct (sym (ap (λ v. map uid_of v.items) w.added-is)) c.loop-id.invariant.distinct
          ];
    }
