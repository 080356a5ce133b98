-- Demands of the scope's tests: a test demands the level of an `in` of the scope, or nothing.
use Rattle.std.proofs.Common.{Bool, true, false, ◌||◌, if◌then◌else◌, List, [], ◌∷◌, ◌++◌, Option, ◌⊎◌, inl, inr, sym, subst}
use Rattle.cedar_types.specs.declared.base.location.Loc.{Loc}
use Rattle.cedar_types.specs.Expressions.Tree.{and}
use Rattle.cedar_typing.specs.Evaluation.Conformance.{IsOneOf}
use Rattle.cedar_typing.specs.PolicyCheck.Outcome.{Adds}
use Rattle.cedar_typing.specs.TypedExpr.{TypedTree, Mark}
use Rattle.cedar_typing.proofs.Basics.Gains.{in_either, adds_nothing}
use Rattle.cedar_typing.proofs.Basics.Members.{in_left, in_right}
use Rattle.cedar_typechecker.specs.Levels.Demands.{Demand, this_level, Surroundings, add_demands}

-- the demand of an `in` that stands at l
abbrev pub demand_at : Option Loc → Demand
demand_at l = record { place = l; need = this_level 1; hidden_below = 0 }

abbrev pub asked : Option Loc → Bool → List Demand
asked l b = if b then demand_at l ∷ [] else []

-- a typed copy demands that if b holds, and nothing else
abbrev pub AddsIf : Option Loc → Bool → TypedTree → Type 0
AddsIf l b x = (s : Surroundings) (ds : List Demand) → Adds ds (asked l b) (add_demands s x 0 ds)

pub adds_none : (l : Option Loc) (ds : List Demand) → Adds ds (asked l false) ds
adds_none l ds = adds_nothing ds ds (λ d i. i) (λ d i. i)

-- a demand that is there already
pub adds_known : (l : Option Loc) (b : Bool) (ds : List Demand) → IsOneOf (demand_at l) ds → Adds ds (asked l b) ds
adds_known l b ds h d = (λ i. in_left d ds (asked l b) i, λ i. back b (in_either d ds (asked l b) i))
  where
    back : (b : Bool) → IsOneOf d ds ⊎ IsOneOf d (asked l b) → IsOneOf d ds
    back b (inl i) = i
    back true (inr (inl e)) = subst (λ z. IsOneOf z ds) (sym e) h
    back true (inr (inr i)) = absurd i
    back false (inr i) = absurd i

-- ---- one after another

module _ (l : Option Loc) where
  of_left : (a b : Bool) (d : Demand) → IsOneOf d (asked l a) → IsOneOf d (asked l (a || b))
  of_left true b d i = i
  of_left false b d i = absurd i

  of_right : (a b : Bool) (d : Demand) → IsOneOf d (asked l b) → IsOneOf d (asked l (a || b))
  of_right true true d i = i
  of_right true false d i = absurd i
  of_right false b d i = i

  pub of_either : (a b : Bool) (d : Demand) → IsOneOf d (asked l (a || b)) → IsOneOf d (asked l a) ⊎ IsOneOf d (asked l b)
  of_either true b d i = inl i
  of_either false b d i = inr i

  pub joined : (a b : Bool) (d : Demand) → IsOneOf d (asked l a) ⊎ IsOneOf d (asked l b) → IsOneOf d (asked l (a || b))
  joined a b d (inl i) = of_left a b d i
  joined a b d (inr i) = of_right a b d i

  both_added : (a b : Bool) (old mid new : List Demand) → Adds old (asked l a) mid → Adds mid (asked l b) new
      → Adds old (asked l (a || b)) new
  both_added a b old mid new h k d = (
    λ i. to (in_either d mid (asked l b) ((k d).0 i)),
    λ i. from (in_either d old (asked l (a || b)) i),
  )
    where
      first : IsOneOf d old ⊎ IsOneOf d (asked l a) → IsOneOf d (old ++ asked l (a || b))
      first (inl i) = in_left d old (asked l (a || b)) i
      first (inr i) = in_right d old (asked l (a || b)) (of_left a b d i)

      to : IsOneOf d mid ⊎ IsOneOf d (asked l b) → IsOneOf d (old ++ asked l (a || b))
      to (inl i) = first (in_either d old (asked l a) ((h d).0 i))
      to (inr i) = in_right d old (asked l (a || b)) (of_right a b d i)

      which : IsOneOf d (asked l a) ⊎ IsOneOf d (asked l b) → IsOneOf d new
      which (inl i) = (k d).1 (in_left d mid (asked l b) ((h d).1 (in_right d old (asked l a) i)))
      which (inr i) = (k d).1 (in_right d mid (asked l b) i)

      from : IsOneOf d old ⊎ IsOneOf d (asked l (a || b)) → IsOneOf d new
      from (inl i) = (k d).1 (in_left d mid (asked l b) ((h d).1 (in_left d old (asked l a) i)))
      from (inr i) = which (of_either a b d i)

  pub and_adds : (a b : Bool) (m : Mark) (x y : TypedTree) → AddsIf l a x → AddsIf l b y → AddsIf l (a || b) (and m x y)
  and_adds a b m x y h k s ds =
      both_added a b ds (add_demands s x 0 ds) (add_demands s y 0 (add_demands s x 0 ds)) (h s ds) (k s (add_demands s x 0 ds))
