-- Kept types: the types that an expression can have in Strict, in Permissive, and in each mode if both slots are linked.
use Rattle.std.proofs.Common.{◌≡◌, ℕ, suc, Bool, true, false, true≢false, arith, ◌&&◌, ◌||◌, List, [], ◌∷◌, Some, refl, sym, ◌∙◌, nat_lt}
use Rattle.std.specs.Prelude.{length}
use Rattle.std.proofs.lemmas.Grind.{common_steps}
use Rattle.cedar_types.specs.declared.base.types.ValidationMode.{ValidationMode}
use Rattle.cedar_types.specs.Names.{Text, Path}
use Rattle.cedar_types.specs.Lemmas.Comparisons.{and_left, and_right, and_both}
use Rattle.cedar_types.specs.Types.{Ty, TNever, TBool, TLong, TString, TSet, TAnySet, TRecord, TEntity, TAnyEntity, TExtension, Attrs}
use Rattle.cedar_types.specs.Types.{no_attrs, attr, attr_names, is_well_formed, are_well_formed}
use Rattle.cedar_types.specs.Names.Ascending.{texts_ascending}
use Rattle.cedar_types.specs.Schemas.{is_vague, are_vague}
use Rattle.cedar_types.specs.Types.Bounds.{is_strict, find_attr}
use Rattle.cedar_types.proofs.Attributes.FindAttrs.{AllTypes, found_type}
use Rattle.cedar_typing.proofs.Basics.{or_right, neither_left, neither_right}

pub data Keeping : Type 0 where
  -- in Strict: no type names several entity types, and none is Never
  one_type : Keeping
  -- in Permissive, which unites sets of entity types and joins records by width: names ascend in each type, and none is Never,
  -- which occurs as the type of a set's elements alone
  ascending : Keeping
  -- in each mode, if both slots are linked: any entity stands nowhere in a type
  no_any_entity : Keeping

-- the parts that may stand in a type: Never, several entity types in one, any entity; and in a set any of them, whatever its
-- elements are
pub record Allowed : Type 0 where
  pub never : Bool
  pub choice : Bool
  pub any_entity : Bool
  pub any_element : Bool

abbrev pub allowed : Keeping → Allowed
allowed one_type = record { never = false; choice = false; any_entity = true; any_element = false }
allowed ascending = record { never = false; choice = true; any_entity = true; any_element = true }
allowed no_any_entity = record { never = true; choice = true; any_entity = false; any_element = false }

-- whether entity types are no choice, because there is at most one
abbrev pub is_single : List Path → Bool
is_single [] = true
is_single (p ∷ []) = true
is_single (p ∷ q ∷ ps) = false

abbrev mutual
  -- only allowed parts stand in the type
  pub is_made_of : Allowed → Ty → Bool
  is_made_of a TNever = a.never
  is_made_of a (TBool k) = true
  is_made_of a TLong = true
  is_made_of a TString = true
  is_made_of a (TSet t) = a.any_element || is_made_of a t
  is_made_of a TAnySet = true
  is_made_of a (TRecord xs o) = are_made_of a xs
  is_made_of a (TEntity ps) = a.choice || is_single ps
  is_made_of a TAnyEntity = a.any_entity
  is_made_of a (TExtension n) = true

  pub are_made_of : Allowed → Attrs → Bool
  are_made_of a no_attrs = true
  are_made_of a (attr k t r xs) = is_made_of a t && are_made_of a xs

-- the type is kept: only allowed parts stand in it, and in Permissive it is well-formed
abbrev pub IsKept : Keeping → Ty → Type 0
IsKept k t = (is_made_of (allowed k) t ≡ true) × (k ≡ ascending → is_well_formed t ≡ true)

-- the property that typing keeps in Strict, and in Permissive
abbrev pub keeping : Bool → Keeping
keeping true = one_type
keeping false = ascending

abbrev pub KeptIn : Bool → Ty → Type 0
KeptIn strictly = IsKept (keeping strictly)

-- the property of Strict belongs to Strict, and that of Permissive to Permissive
pub strict_if : (strictly : Bool) (m : ValidationMode) → is_strict m ≡ strictly → keeping strictly ≡ one_type → is_strict m ≡ true
strict_if true m h e = h
strict_if false m h e = cc

pub formed_if : (strictly formed : Bool) → (strictly || formed) ≡ true → keeping strictly ≡ ascending → formed ≡ true
formed_if true formed h e = cc
formed_if false formed h e = h

pub any_entity_not_kept : IsKept no_any_entity TAnyEntity → ⊥
any_entity_not_kept n = true≢false (sym n.0)

-- one entity type is no choice
pub one_kept : (k : Keeping) (p : Path) → IsKept k (TEntity (p ∷ []))
one_kept k p = (or_right (allowed k).choice true refl, λ e. refl)

-- ---- an attribute of some

pub all_made : (a : Allowed) (xs : Attrs) → are_made_of a xs ≡ true → AllTypes (λ t. is_made_of a t ≡ true) xs
all_made a no_attrs h = tt
all_made a (attr k t r xs) h = (
  and_left (is_made_of a t) (are_made_of a xs) h,
  all_made a xs (and_right (is_made_of a t) (are_made_of a xs) h),
)

all_kept : (k : Keeping) (xs : Attrs) → are_made_of (allowed k) xs ≡ true
    → (k ≡ ascending → are_well_formed xs ≡ true) → AllTypes (IsKept k) xs
all_kept k no_attrs h w = tt
all_kept k (attr l t r xs) h w =
    let made = is_made_of (allowed k) t in
    let others = are_made_of (allowed k) xs in (
      (and_left made others h, λ e. and_left (is_well_formed t) (are_well_formed xs) (w e)),
      all_kept k xs (and_right made others h) (λ e. and_right (is_well_formed t) (are_well_formed xs) (w e)),
    )

pub field_kept : (k : Keeping) (x : Text) (xs : Attrs) (o : Bool) (t : Ty) (r : Bool) → IsKept k (TRecord xs o)
    → find_attr x xs ≡ Some (t, r) → IsKept k t
field_kept k x xs o t r n e =
    let formed = λ (a : k ≡ ascending). and_right (texts_ascending (attr_names xs)) (are_well_formed xs) (n.1 a) in
    found_type (IsKept k) x xs (all_kept k xs n.0 formed) (t, r) e

-- ---- types that are not vague

past_one : (n : ℕ) → nat_lt 1 (suc (suc n)) ≡ true
past_one n = grind (arith, common_steps)

few_single : (ps : List Path) → nat_lt 1 (length ps) ≡ false → is_single ps ≡ true
few_single [] h = refl
few_single (p ∷ []) h = refl
few_single (p ∷ q ∷ ps) h = absurd (true≢false (sym (past_one (length ps)) ∙ h))

module _ (a : Allowed) where
  mutual
    definite_made : (t : Ty) → is_vague t ≡ false → is_made_of a t ≡ true
    definite_made TNever h = absurd (true≢false h)
    definite_made (TBool k) h = refl
    definite_made TLong h = refl
    definite_made TString h = refl
    definite_made (TSet t) h = or_right a.any_element (is_made_of a t) (definite_made t h)
    definite_made TAnySet h = refl
    definite_made (TRecord xs o) h = definite_attrs xs (neither_right o (are_vague xs) h)
    definite_made (TEntity ps) h = or_right a.choice (is_single ps) (few_single ps h)
    definite_made TAnyEntity h = absurd (true≢false h)
    definite_made (TExtension n) h = refl

    definite_attrs : (xs : Attrs) → are_vague xs ≡ false → are_made_of a xs ≡ true
    definite_attrs no_attrs h = refl
    definite_attrs (attr k t r xs) h =
        and_both (is_made_of a t) (are_made_of a xs) (definite_made t (neither_left (is_vague t) (are_vague xs) h))
        (definite_attrs xs (neither_right (is_vague t) (are_vague xs) h))

-- a type that is not vague is kept, if it is well-formed in Permissive
pub definite_kept : (k : Keeping) (t : Ty) → is_vague t ≡ false → (k ≡ ascending → is_well_formed t ≡ true) → IsKept k t
definite_kept k t v w = (definite_made (allowed k) t v, w)
