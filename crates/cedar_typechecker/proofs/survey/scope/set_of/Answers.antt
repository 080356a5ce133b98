use Rattle.std.proofs.Common.{◌≡◌, ◌+◌, ◌<◌, Bool, true, false, ◌||◌, map, drop, length, refl, sym, ap, ◌∙◌, arith}
use Rattle.std.proofs.Math.ListN.{drop_of_length-le}
use Rattle.std.specs.Borrow.{Bor}
use Rattle.std.specs.Ordering.{is_eq}
use Rattle.cedar_types.specs.declared.base.names.entities.EntityUID.{EntityUID}
use Rattle.cedar_types.specs.Names.{PlacedUid, uid_of, uid_eq}
use Rattle.cedar_types.specs.Schemas.{uid_is_among}
use Rattle.cedar_types.proofs.Items.{next_item}
use Rattle.cedar_types.proofs.Names.Ids.{uid_decides, uid_ties, uids_cmp}
use Rattle.cedar_types.proofs.Schema.Listings.{inserted}
use Rattle.cedar_typechecker.proofs.survey.scope.set_of.Goals as goal

turned : (o a b : Bool) → ((o || a) || b) ≡ (a || (o || b))
turned true true b = refl
turned true false b = refl
turned false a b = refl

pub loop-action-init : goal.loop-action-init
loop-action-init c = λ u. ap (λ ks. uid_is_among (map uid_of ks) u || uid_is_among (map (λ (a : Bor EntityUID). uid_of a.now) c.args.actions.now) u) c.new-set.ensures.empty

pub loop-action-preserved : goal.loop-action-preserved
loop-action-preserved c = λ u.
    let i = c.loop-action.action-index in
    let x = c.action-item.result in
    let key = c.in_ok-clone.field-0 in
    let here : i < length c.args.actions.now = omega arith in
    let old = uid_is_among (map uid_of c.loop-action.set.keys) u in
    let left = uid_is_among (map (λ (a : Bor EntityUID). uid_of a.now) (drop (i + 1) c.args.actions.now)) u in
    let same : uid_of key ≡ uid_of x.now = ap (λ (p : PlacedUid). p.uid) c.in_ok-clone.ensures.cases in
    let put : uid_is_among (map uid_of c.insert.new.self.keys) u ≡ (uid_eq u (uid_of key) || old) =
    ap (λ ks. uid_is_among (map uid_of ks) u) c.in_ok-insert.ensures.keys
    ∙ inserted _ uid_of uid_eq
    (λ a b e. (uid_decides (uid_of a) (uid_of b)).0
    (uid_ties (uid_of a) (uid_of b) ∙ ap is_eq (sym (uids_cmp a b) ∙ e)))
    key u c.loop-action.set.keys in
    ap (λ b. b || left) (put ∙ ap (λ v. uid_eq u v || old) same)
    ∙ turned (uid_eq u (uid_of x.now)) old left
    ∙ ap (λ xs. old || uid_is_among (map (λ (a : Bor EntityUID). uid_of a.now) xs) u)
    (sym (next_item c.args.actions.now i x here c.action-item.is))
    ∙ c.loop-action.invariant u

pub returns : goal.returns
returns c = λ u.
    let old = uid_is_among (map uid_of c.loop-action.set.keys) u in
    sym (nothing old)
    ∙ ap (λ xs. old || uid_is_among (map (λ (a : Bor EntityUID). uid_of a.now) xs) u)
    (sym (drop_of_length-le c.args.actions.now c.loop-action-test.false))
    ∙ c.loop-action.invariant u
  where
    nothing : (b : Bool) → (b || false) ≡ b
    nothing true = refl
    nothing false = refl
