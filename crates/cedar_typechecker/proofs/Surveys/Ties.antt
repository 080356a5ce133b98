-- Demands that tie in the derived order are equal as plain data.
use Rattle.std.proofs.Common.{◌≡◌, ℕ, Bool, true, true≢false, ◌&&◌, nat_eq, Option, Some, None, refl, sym, ap, subst, ◌∙◌}
use Rattle.std.specs.Bool.{Decides}
use Rattle.std.specs.Option.{option_eq}
use Rattle.std.specs.Ordering.{eq_by_cmp}
use Rattle.cedar_types.specs.declared.base.location.Loc.{Loc}
use Rattle.cedar_types.specs.Lemmas.Comparisons.{and_left, and_right, and_both, nat_same}
use Rattle.cedar_typechecker.specs.declared.level_validate.demands.Demand as code
use Rattle.cedar_typechecker.specs.declared.level_validate.demands.Need as need
use Rattle.cedar_typechecker.specs.contracts.level_validate.demands.DemandOrd.TheImpl as demand_ord
use Rattle.cedar_typechecker.specs.contracts.level_validate.demands.DemandOrd.TheImpl.Laws as demand_laws
use Rattle.cedar_typechecker.specs.contracts.level_validate.demands.DemandPartialEq.TheImpl as demand_impl
use Rattle.cedar_typechecker.specs.contracts.level_validate.demands.NeedPartialEq.TheImpl as need_impl
use Rattle.cedar_typechecker.specs.Levels.Demands.{Need, this_level, no_literal, a_rule}
use Rattle.cedar_typechecker.specs.Levels.Views.{need_of, demand_of}

-- ---- the parts of demands

loc_to : (l m : Loc) → (nat_eq l.start m.start && nat_eq l.end m.end) ≡ true → l ≡ m
loc_to l m h =
    let starts = and_left (nat_eq l.start m.start) (nat_eq l.end m.end) h in
    let ends = and_right (nat_eq l.start m.start) (nat_eq l.end m.end) h in
    λ i. record {
      start = nat_same.to l.start m.start starts i;
      end = nat_same.to l.end m.end ends i;
    }

loc_itself : (l : Loc) → (nat_eq l.start l.start && nat_eq l.end l.end) ≡ true
loc_itself l =
    and_both (nat_eq l.start l.start) (nat_eq l.end l.end)
    (nat_same.itself l.start) (nat_same.itself l.end)

abbrev place_eq : Option Loc → Option Loc → Bool
place_eq = option_eq (λ l m. nat_eq l.start m.start && nat_eq l.end m.end)

place_to : (x y : Option Loc) → place_eq x y ≡ true → x ≡ y
place_to None None h = refl
place_to None (Some y) h = absurd (true≢false (sym h))
place_to (Some x) None h = absurd (true≢false (sym h))
place_to (Some x) (Some y) h = ap Some (loc_to x y h)

place_itself : (x : Option Loc) → place_eq x x ≡ true
place_itself None = refl
place_itself (Some x) = loc_itself x

abbrev need_eq : need.Need → need.Need → Bool
need_eq = need_impl.ghosts.eq

need_to : (m n : need.Need) → need_eq m n ≡ true → need_of m ≡ need_of n
need_to (need.TheVariants.Level k) (need.TheVariants.Level j) h = ap this_level (nat_same.to k j h)
need_to need.TheVariants.NoLiteral need.TheVariants.NoLiteral h = refl
need_to need.TheVariants.Rule need.TheVariants.Rule h = refl
need_to m n h = absurd (true≢false (sym h))

abbrev level_in : Need → ℕ
level_in (this_level k) = k
level_in no_literal = 0
level_in a_rule = 0

need_from : (m n : need.Need) → need_of m ≡ need_of n → need_eq m n ≡ true
need_from (need.TheVariants.Level k) (need.TheVariants.Level j) e =
    subst (λ z. nat_eq k z ≡ true) (ap level_in e) (nat_same.itself k)
need_from need.TheVariants.NoLiteral need.TheVariants.NoLiteral e = refl
need_from need.TheVariants.Rule need.TheVariants.Rule e = refl
need_from (need.TheVariants.Level k) need.TheVariants.NoLiteral e = cc
need_from (need.TheVariants.Level k) need.TheVariants.Rule e = cc
need_from need.TheVariants.NoLiteral (need.TheVariants.Level k) e = cc
need_from need.TheVariants.NoLiteral need.TheVariants.Rule e = cc
need_from need.TheVariants.Rule (need.TheVariants.Level k) e = cc
need_from need.TheVariants.Rule need.TheVariants.NoLiteral e = cc

-- ---- demands

abbrev pub is_tied : code.Demand → code.Demand → Bool
is_tied = eq_by_cmp demand_ord.ghosts.cmp

equal_to : (x y : code.Demand) → demand_impl.ghosts.eq x y ≡ true → demand_of x ≡ demand_of y
equal_to x y h =
    let P = place_eq x.loc y.loc in
    let N = need_eq x.need y.need in
    let H = nat_eq x.hidden_below y.hidden_below in
    let rest = and_right P (N && H) h in
    λ i. record {
      place = place_to x.loc y.loc (and_left P (N && H) h) i;
      need = need_to x.need y.need (and_left N H rest) i;
      hidden_below = nat_same.to x.hidden_below y.hidden_below (and_right N H rest) i;
    }

equal_from : (x y : code.Demand) → demand_of x ≡ demand_of y → demand_impl.ghosts.eq x y ≡ true
equal_from x y e =
    let P = place_eq x.loc y.loc in
    let N = need_eq x.need y.need in
    let H = nat_eq x.hidden_below y.hidden_below in
    let same_place = subst (λ z. place_eq x.loc z ≡ true) (λ i. (e i).place) (place_itself x.loc) in
    let same_hidden = subst (λ z. nat_eq x.hidden_below z ≡ true) (λ i. (e i).hidden_below)
    (nat_same.itself x.hidden_below) in
    and_both P (N && H) same_place
    (and_both N H (need_from x.need y.need (λ i. (e i).need)) same_hidden)

pub tie_decides : (x y : code.Demand) → Decides (is_tied x y) (demand_of x ≡ demand_of y)
tie_decides x y = (
  λ h. equal_to x y (demand_laws.matches_eq-law x y ∙ h),
  λ e. sym (demand_laws.matches_eq-law x y) ∙ equal_from x y e,
)
