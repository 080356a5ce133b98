use Rattle.std.proofs.Common.{◌≡◌, refl, ◌∙◌, ap, sym, Bool, true, false, ◌||◌, map}
use Rattle.std.specs.Ordering.{is_eq}
use Rattle.cedar_types.specs.Names.{uid_of, uid_eq}
use Rattle.cedar_types.specs.Schemas.{uid_is_among}
use Rattle.cedar_types.proofs.Names.Ids.{uid_decides, uid_ties, uids_cmp}
use Rattle.cedar_types.proofs.Schema.Listings.{inserted}
use Rattle.cedar_types.proofs.base.schema.queries.add_all.Goals as goal

turned : (o a b : Bool) → ((o || a) || b) ≡ (a || (o || b))
turned true true b = refl
turned true false b = refl
turned false a b = refl

pub loop-other-preserved : goal.loop-other-preserved
loop-other-preserved c = λ u.
    ap (λ b. b || uid_is_among (map uid_of c.next.new.self) u)
    (ap (λ ks. uid_is_among (map (λ k. uid_of k.now) ks) u) c.in_ok-insert.ensures.keys
    ∙ inserted _ (λ k. uid_of k.now) uid_eq
    (λ a b e. (uid_decides (uid_of a.now) (uid_of b.now)).0
    (uid_ties (uid_of a.now) (uid_of b.now) ∙ ap is_eq (sym (uids_cmp a.now b.now) ∙ e)))
    c.in-Some.other u c.loop-other.actions.keys)
    ∙ turned (uid_eq u (uid_of c.in-Some.other.now))
    (uid_is_among (map (λ k. uid_of k.now) c.loop-other.actions.keys) u)
    (uid_is_among (map uid_of c.next.new.self) u)
    ∙ ap (λ es. uid_is_among (map (λ k. uid_of k.now) c.loop-other.actions.keys) u
    || uid_is_among (map uid_of es) u) (sym c.in-Some.ensures.steps)
    ∙ c.loop-other.invariant u
