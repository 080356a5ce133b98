-- The bound of two kept types is kept.
use Rattle.std.proofs.Common.{◌≡◌, Bool, true, false, ◌&&◌, ◌||◌, List, Option, Some, None, option_map, if◌then◌else◌, refl}
use Rattle.cedar_types.specs.declared.base.types.ValidationMode.{ValidationMode}
use Rattle.cedar_types.specs.Names.{Text, Path, text_eq}
use Rattle.cedar_types.specs.Lemmas.Comparisons.{and_left, and_right, and_both}
use Rattle.cedar_types.specs.Types.{Ty, TNever, TBool, TLong, TString, TSet, TAnySet, TRecord, TEntity, TAnyEntity, TExtension, Attrs}
use Rattle.cedar_types.specs.Types.{no_attrs, attr}
use Rattle.cedar_types.specs.Types.Bounds.{mark_eq, ty_eq, union, find_attr, is_strict, is_never, bool_lub, any_set_lub, entity_lub}
use Rattle.cedar_types.specs.Types.Bounds.{any_entity_lub, closed_lub, wide_lub, lub_by, with_both, with_bound, with_common, apart_lub}
use Rattle.cedar_types.specs.Types.Bounds.{both_attrs, common_attrs, lub}
use Rattle.cedar_types.proofs.Attributes.FindAttrs.{found_type}
use Rattle.cedar_types.proofs.Bounds.Laws.{bound_form}
use Rattle.cedar_typing.proofs.Basics.{or_left, or_right, or_cases}
use Rattle.cedar_typing.proofs.KeptTypes.Keeping.{HasKept, either_kept}
use Rattle.cedar_typing.proofs.KeptTypes.Types.{Keeping, one_type, ascending, no_any_entity, Allowed, allowed, is_single, is_made_of}
use Rattle.cedar_typing.proofs.KeptTypes.Types.{are_made_of, all_made, IsKept}

-- ---- parts that may stand in both types may stand in their bound: in Strict, or if a type may name several
-- entity types

module _ (a : Allowed) where
  abbrev IsMade : Ty → Type 0
  IsMade t = is_made_of a t ≡ true

  abbrev HasMade : Option Ty → Type 0
  HasMade = HasKept IsMade

  abbrev AreMade : Option Attrs → Type 0
  AreMade None = Unit {0}
  AreMade (Some xs) = are_made_of a xs ≡ true

  bool_made : (t : Ty) → HasMade (bool_lub t)
  bool_made (TBool k) = refl
  bool_made t = tt

  any_set_made : (t : Ty) → HasMade (any_set_lub t)
  any_set_made (TSet t) = refl
  any_set_made t = tt

  any_entity_made : (t : Ty) → IsMade TAnyEntity → HasMade (any_entity_lub t)
  any_entity_made (TEntity ps) h = h
  any_entity_made t h = tt

  set_made : (o : Option Ty) → HasMade o → HasMade (option_map TSet o)
  set_made None h = tt
  set_made (Some t) h = or_right a.any_element (is_made_of a t) h

  any_element_made : (o : Option Ty) → a.any_element ≡ true → HasMade (option_map TSet o)
  any_element_made None h = tt
  any_element_made (Some t) h = or_left a.any_element (is_made_of a t) h

  closed_made : (o : Option Attrs) → AreMade o → HasMade (option_map (λ zs. TRecord zs false) o)
  closed_made None h = tt
  closed_made (Some zs) h = h

  attrs_if : (b : Bool) (x : Option Attrs) → AreMade x → AreMade (if b then x else None)
  attrs_if true x h = h
  attrs_if false x h = tt

  with_made : (k : Text) (o : Option Ty) (r : Bool) (zs : Option Attrs) → HasMade o → AreMade zs → AreMade (with_both k o r zs)
  with_made k None r zs h n = tt
  with_made k (Some u) r None h n = tt
  with_made k (Some u) r (Some zs) h n = and_both (is_made_of a u) (are_made_of a zs) h n

  bound_made : (k : Text) (o : Option Ty) (r : Bool) (zs : Attrs) → HasMade o → are_made_of a zs ≡ true
      → are_made_of a (with_bound k o r zs) ≡ true
  bound_made k None r zs h n = n
  bound_made k (Some u) r zs h n = and_both (is_made_of a u) (are_made_of a zs) h n

  -- an attribute of both sides, if the other side has it
  one_made : (k : Text) (ys : Attrs) (o : Option (Ty × Bool)) → find_attr k ys ≡ o → are_made_of a ys ≡ true
      → (bound : Ty → Option Ty) (r : Bool) (zs : Attrs)
      → ((t : Ty) → IsMade t → HasMade (bound t)) → are_made_of a zs ≡ true → are_made_of a (with_common k o bound r zs) ≡ true
  one_made k ys None e q bound r zs f n = n
  one_made k ys (Some b) e q bound r zs f n =
      bound_made k (bound b.0) (r && b.1) zs (f b.0 (found_type IsMade k ys (all_made a ys q) b e)) n

  choice_made : (strict : Bool) (ps : List Path) → (a.choice || strict) ≡ true → HasMade (if strict then None else Some (TEntity ps))
  choice_made true ps h = tt
  choice_made false ps h = or_cases a.choice false (IsMade (TEntity ps)) (or_left a.choice (is_single ps)) (λ e. cc) h

  module _ (m : ValidationMode) (choice : (a.choice || is_strict m) ≡ true) where
    entity_made : (ps : List Path) (t : Ty) → IsMade t → HasMade (entity_lub m ps t)
    entity_made ps (TEntity qs) q = choice_made (is_strict m) (union ps qs) choice
    entity_made ps TAnyEntity q = q
    entity_made ps t q = tt

    made_by : (s t : Ty) → IsMade s → HasMade (apart_lub m s t) → HasMade (lub m s t)
    made_by s t n h = either_kept IsMade (ty_eq s t) (Some s) _ n (either_kept IsMade (is_never t) (Some s) (apart_lub m s t) n h)

    mutual
      made_apart : (s t : Ty) → IsMade s → IsMade t → HasMade (apart_lub m s t)
      made_apart TNever t n q = q
      made_apart (TBool k) t n q = bool_made t
      made_apart TLong t n q = tt
      made_apart TString t n q = tt
      made_apart (TSet s) (TSet t) n q =
          let any = any_element_made (lub m s t) in
          let by_elements = λ (n' : IsMade s) (q' : IsMade t). set_made (lub m s t) (made_by s t n' (made_apart s t n' q')) in
          or_cases a.any_element (is_made_of a s) _ any (λ n'. or_cases a.any_element (is_made_of a t) _ any (by_elements n') q) n
      made_apart (TSet s) TAnySet n q = refl
      made_apart (TSet s) t n q = tt
      made_apart TAnySet t n q = any_set_made t
      made_apart (TRecord xs o) (TRecord ys p) n q =
          let closed = either_kept IsMade (o || p) None _ tt (closed_made (both_attrs m xs ys) (made_both xs ys n q)) in
          either_kept IsMade (is_strict m) (closed_lub o p (both_attrs m xs ys))
          (Some (wide_lub xs o ys p (common_attrs m xs ys))) closed (made_common xs ys n q)
      made_apart (TRecord xs o) t n q = tt
      made_apart (TEntity ps) t n q = entity_made ps t q
      made_apart TAnyEntity t n q = any_entity_made t n
      made_apart (TExtension x) t n q = tt

      made_both : (xs ys : Attrs) → are_made_of a xs ≡ true → are_made_of a ys ≡ true → AreMade (both_attrs m xs ys)
      made_both no_attrs no_attrs n q = refl
      made_both no_attrs (attr l t p ys) n q = tt
      made_both (attr k s r xs) no_attrs n q = tt
      made_both (attr k s r xs) (attr l t p ys) n q =
          let sn = and_left (is_made_of a s) (are_made_of a xs) n in
          attrs_if (text_eq k l && mark_eq r p) _
          (with_made k (lub m s t) r (both_attrs m xs ys)
          (made_by s t sn (made_apart s t sn (and_left (is_made_of a t) (are_made_of a ys) q)))
          (made_both xs ys (and_right (is_made_of a s) (are_made_of a xs) n) (and_right (is_made_of a t) (are_made_of a ys) q)))

      made_common : (xs ys : Attrs) → are_made_of a xs ≡ true → are_made_of a ys ≡ true → are_made_of a (common_attrs m xs ys) ≡ true
      made_common no_attrs ys n q = refl
      made_common (attr k s r xs) ys n q =
          let sn = and_left (is_made_of a s) (are_made_of a xs) n in
          one_made k ys (find_attr k ys) refl q (lub_by (apart_lub m s) s) r (common_attrs m xs ys)
          (λ t h. made_by s t sn (made_apart s t sn h))
          (made_common xs ys (and_right (is_made_of a s) (are_made_of a xs) n) q)

    made_lub : (s t : Ty) → IsMade s → IsMade t → HasMade (lub m s t)
    made_lub s t n q = made_by s t n (made_apart s t n q)

-- ---- the bound of kept types, which in Strict name no choice

choice_or_strict : (k : Keeping) (m : ValidationMode) → (k ≡ one_type → is_strict m ≡ true) → ((allowed k).choice || is_strict m) ≡ true
choice_or_strict one_type m f = f refl
choice_or_strict ascending m f = refl
choice_or_strict no_any_entity m f = refl

pub kept_lub : (k : Keeping) (m : ValidationMode) → (k ≡ one_type → is_strict m ≡ true) → (s t : Ty) → IsKept k s
    → IsKept k t → HasKept (IsKept k) (lub m s t)
kept_lub k m f s t n q = go (lub m s t) refl (made_lub (allowed k) m (choice_or_strict k m f) s t n.0 q.0)
  where
    go : (o : Option Ty) → lub m s t ≡ o → HasMade (allowed k) o → HasKept (IsKept k) o
    go None e h = tt
    go (Some u) e h = (h, λ a. bound_form m s t u (n.1 a) (q.1 a) e)
