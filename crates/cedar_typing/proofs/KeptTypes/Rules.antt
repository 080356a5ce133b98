-- Parts, `&&`, `||` and `if` find kept types.
use Rattle.std.proofs.Common.{◌≡◌, Bool, List, Option, Some, None, sym, ap, subst}
use Rattle.cedar_types.specs.declared.base.location.Loc.{Loc}
use Rattle.cedar_types.specs.declared.base.types.BoolType.TheVariants.{AnyBool}
use Rattle.cedar_types.specs.Types.{Ty}
use Rattle.cedar_types.specs.Expressions.View.{Written}
use Rattle.cedar_types.specs.Errors.{Finding}
use Rattle.cedar_typing.specs.Capabilities.{Caps, union}
use Rattle.cedar_typing.specs.TypeTests.Joins.{joined}
use Rattle.cedar_typing.specs.Judgments.{derived, recovered, accepted, refused, missing, Judgment, PartResult, Operand}
use Rattle.cedar_typing.specs.Rules.Conditional.{if_true_recovered, if_false_recovered, if_open_recovered, if_true, if_false, if_open}
use Rattle.cedar_typing.specs.Rules.Conditional.{if_rules}
use Rattle.cedar_typing.specs.Rules.ShortCircuit.{Side, right_ends, left_alone, right_alone, neither, Connective, side_of, type_of_side}
use Rattle.cedar_typing.specs.Rules.ShortCircuit.{sides_type, sides_annotation, short_circuit_rules, left_ends, both_sides}
use Rattle.cedar_typing.specs.Rules.ShortCircuit.{left_ends_failed, side_failed}
use Rattle.cedar_typing.specs.TypeEnv.{TypeEnv}
use Rattle.cedar_typing.specs.TypeTests.{bool_types}
use Rattle.cedar_typing.specs.TypedExpr.{TypedTree, Mark, mark_of, annotation}
use Rattle.cedar_typing.proofs.Agreement.Parts.{Marks}
use Rattle.cedar_typing.proofs.Views.Marks.{annotation-at_place, annotation-without_type}
use Rattle.cedar_typing.proofs.KeptTypes.Keeping.{HasKept, IsKeeping}

-- each type that is derived or recovered is kept
pub record KeepsTypes (Kept : Ty → Type 0) (J : Judgment) : Type 0 where
  pub derivations : (t : Ty) (c : Caps) (x : TypedTree) → J.derives t c x → Kept t
  pub recoveries : (x : TypedTree) (es : List Finding) → J.recovers x es → HasKept Kept (annotation x)
  pub marks : Marks J.derives

-- ---- parts and operands

module _ (Kept : Ty → Type 0) (J : Judgment) (n : KeepsTypes Kept J) where
  pub part_kept : (succeeded : Bool) (c : Caps) (x : TypedTree) (es : List Finding) → PartResult J succeeded c x es
      → HasKept Kept (annotation x)
  part_kept succeeded c x es (derived {t = t} h) = subst (HasKept Kept) (sym (n.marks t c x h)) (n.derivations t c x h)
  part_kept succeeded c x es (recovered h) = n.recoveries x es h

  pub operand_kept : (env : TypeEnv) (ts : List Ty) (l : Option Loc) (succeeded : Bool) (c : Caps) (x : TypedTree) (es : List Finding)
      → Operand env ts l J succeeded c x es → HasKept Kept (annotation x)
  operand_kept env ts l succeeded c x es (accepted t p m h) = part_kept succeeded c x es p
  operand_kept env ts l succeeded c x es (refused {e = e} t p m h) = subst (HasKept Kept) (sym (annotation-without_type e)) tt
  operand_kept env ts l succeeded c x es (missing p m) = subst (HasKept Kept) (sym m) tt

module _ (Kept : Ty → Type 0) (env : TypeEnv) (keeps : IsKeeping Kept env) where
  -- ---- tables

  sides_kept : (f : Connective) (s t : Ty) → Kept s → Kept t → Kept (sides_type f s t)
  sides_kept f s t h k = by_side (side_of f s t)
    where
      by_side : (x : Side) → Kept (type_of_side x s t)
      by_side right_ends = k
      by_side left_alone = h
      by_side right_alone = k
      by_side neither = keeps.booleans AnyBool

  annotation_kept : (f : Connective) (x y : Option Ty) → HasKept Kept x → HasKept Kept y → Kept (sides_annotation f x y)
  annotation_kept f None y h k = keeps.booleans AnyBool
  annotation_kept f (Some s) None h k = keeps.booleans AnyBool
  annotation_kept f (Some s) (Some t) h k = sides_kept f s t h k

  joined_kept : (x y : Option Ty) → HasKept Kept x → HasKept Kept y → HasKept Kept (joined env.mode x y)
  joined_kept None y h k = tt
  joined_kept (Some t) None h k = tt
  joined_kept (Some t) (Some u) h k = keeps.bounds t u h k

  -- ---- the rules

  module _ (m : Written) (l : Option Loc) (A : Judgment) (B : Caps → Judgment) (prior : Caps)
      (a : KeepsTypes Kept A) (b : (p : Caps) → KeepsTypes Kept (B p)) where
    module _ (f : Connective) (node_mark : (k : Mark) (x y : TypedTree) → mark_of (f.node k x y) ≡ k) (l' : Option Loc) where
      abbrev Sides : Judgment
      Sides = short_circuit_rules env f m l l' A B prior

      sides_derived : (t : Ty) (c : Caps) (x : TypedTree) → Sides.derives t c x → Kept t
      sides_derived t c x (left_ends d p n) = a.derivations _ _ _ d
      sides_derived t c x (both_sides {s = s} {t = u} {c = k} d p n d' q) =
          sides_kept f s u (a.derivations _ _ _ d) ((b (f.right_prior prior k)).derivations _ _ _ d')

      sides_recovered : (x : TypedTree) (es : List Finding) → Sides.recovers x es → HasKept Kept (annotation x)
      sides_recovered x es (left_ends_failed {a = y} p n) =
          subst (HasKept Kept) (sym (annotation-at_place m.place y))
          (operand_kept Kept A a env bool_types l _ _ _ _ p)
      sides_recovered x es (side_failed {c = k} {a = y} {b = z} p n p' q) =
          let h = annotation_kept f _ _ (operand_kept Kept A a env bool_types l _ _ _ _ p)
          (operand_kept Kept _ (b (f.right_prior prior k)) env bool_types l' _ _ _ _ p') in
          subst (HasKept Kept) (sym (ap (λ (i : Mark). i.ty) (node_mark _ y z))) h

      pub short_circuit_kept : Marks Sides.derives → KeepsTypes Kept Sides
      short_circuit_kept h = record { derivations = sides_derived; recoveries = sides_recovered; marks = h }

    module _ (E : Judgment) (e : KeepsTypes Kept E) where
      abbrev Choice : Judgment
      Choice = if_rules env m l A B E prior

      if_derived : (t : Ty) (c : Caps) (x : TypedTree) → Choice.derives t c x → Kept t
      if_derived t c x (if_true {c = k} d d') = (b (union prior k)).derivations _ _ _ d'
      if_derived t c x (if_false d d') = e.derivations _ _ _ d'
      if_derived t c x (if_open {t = s} {u = u} {c = k} d p n n' d' d'' h) =
          subst (HasKept Kept) h (joined_kept (Some s) (Some u) ((b (union prior k)).derivations _ _ _ d')
          (e.derivations _ _ _ d''))

      if_recovered : (x : TypedTree) (es : List Finding) → Choice.recovers x es → HasKept Kept (annotation x)
      if_recovered x es (if_true_recovered {c = k} p n q g) = part_kept Kept _ (b (union prior k)) _ _ _ _ q
      if_recovered x es (if_false_recovered p n q g) = part_kept Kept E e _ _ _ _ q
      if_recovered x es (if_open_recovered {c = k} p n n' q q' g) =
          joined_kept _ _ (part_kept Kept _ (b (union prior k)) _ _ _ _ q) (part_kept Kept E e _ _ _ _ q')

      pub if_kept : Marks Choice.derives → KeepsTypes Kept Choice
      if_kept h = record { derivations = if_derived; recoveries = if_recovered; marks = h }
