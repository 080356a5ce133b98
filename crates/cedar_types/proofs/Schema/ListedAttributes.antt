-- The attributes of a type, by their names.
use Rattle.std.proofs.Common.{◌≡◌, refl, ap, ◌∙◌, Bool, true, false, cond, List, [], ◌∷◌, Option, Some, None, fold}
use Rattle.std.specs.List.{list_all}
use Rattle.cedar_types.specs.declared.base.types.ValidationMode.TheVariants.{Permissive}
use Rattle.cedar_types.specs.Names.{Text, Path, path_eq}
use Rattle.cedar_types.specs.Types.{Ty, TNever, TBool, TLong, TString, TSet, TAnySet, TRecord, TEntity, TAnyEntity, TExtension, Attrs}
use Rattle.cedar_types.specs.Types.{is_well_formed, are_well_formed}
use Rattle.cedar_types.specs.Types.Bounds.{find_attr, common_attrs}
use Rattle.cedar_types.specs.Types.Lookups.{kind_attribute, declared_kind_attribute, declared_attribute, joined_attribute, types_attribute}
use Rattle.cedar_types.specs.Types.Lookups.{kind_attributes, declared_kind_attributes, declared_attributes, types_attributes}
use Rattle.cedar_types.specs.Types.Lookups.{AttributesAreLookedUp}
use Rattle.cedar_types.specs.Schemas.{TypeKind, StandardKind, EnumKind, ExternalKind, DeclaredType, DeclaredAction, type_named, tags_pass}
use Rattle.cedar_types.specs.Schemas.Formed.{kind_is_formed, application_is_formed}
use Rattle.cedar_types.proofs.Attributes.FindAttrs.{names_ascend}
use Rattle.cedar_types.proofs.Bounds.Steps.{both_found, find_common, common_ascends}
use Rattle.cedar_types.proofs.Comparisons.SameTypes.{and_left, and_right}

-- ---- the attributes that one type declares

of_kind : (a : Text) (k : TypeKind) → find_attr a (kind_attributes k) ≡ kind_attribute a k
of_kind a (StandardKind xs ts) = refl
of_kind a (EnumKind ids) = refl
of_kind a ExternalKind = refl

of_declared : (a : Text) (o : Option DeclaredType) → find_attr a (declared_kind_attributes o) ≡ declared_kind_attribute a o
of_declared a None = refl
of_declared a (Some t) = of_kind a t.kind

kind_ascends : (k : TypeKind) → kind_is_formed k ≡ true → names_ascend (kind_attributes k) ≡ true
kind_ascends (StandardKind xs ts) h =
    and_left (names_ascend xs) (are_well_formed xs)
    (and_left (is_well_formed (TRecord xs false)) (tags_pass is_well_formed ts) h)
kind_ascends (EnumKind ids) h = refl
kind_ascends ExternalKind h = refl

declared_ascends : (p : Path) (ts : List DeclaredType) → list_all (λ (t : DeclaredType). kind_is_formed t.kind) ts ≡ true
    → names_ascend (declared_attributes ts p) ≡ true
declared_ascends p [] h = refl
declared_ascends p (t ∷ ts) h =
    let others = list_all (λ (u : DeclaredType). kind_is_formed u.kind) ts in
    by (declared_ascends p ts (and_right (kind_is_formed t.kind) others h))
    (and_left (kind_is_formed t.kind) others h) (path_eq p t.name)
  where
    by : names_ascend (declared_attributes ts p) ≡ true → kind_is_formed t.kind ≡ true → (b : Bool)
        → names_ascend (declared_kind_attributes (cond b (Some t) (type_named ts p))) ≡ true
    by later here true = kind_ascends t.kind here
    by later here false = later

-- ---- the attributes that all of some types declare

joined : (o p : Option (Ty × Bool)) → both_found Permissive o p ≡ joined_attribute o p
joined None p = refl
joined (Some x) None = refl
joined (Some x) (Some y) = refl

module _ (ts : List DeclaredType) (formed : list_all (λ (t : DeclaredType). kind_is_formed t.kind) ts ≡ true) (a : Text) where
  folded : (ps : List Path) (found : Attrs) → names_ascend found ≡ true
      → find_attr a (fold (λ found q. common_attrs Permissive found (declared_attributes ts q)) found ps)
      ≡ fold (λ found q. joined_attribute found (declared_attribute ts a q)) (find_attr a found) ps
  folded [] found n = refl
  folded (q ∷ ps) found n =
      let other : Attrs = declared_attributes ts q in
      folded ps (common_attrs Permissive found other) (common_ascends Permissive found other n)
      ∙ ap (λ o. fold (λ found q. joined_attribute found (declared_attribute ts a q)) o ps)
      (find_common Permissive a found other n
      ∙ joined (find_attr a found) (find_attr a other)
      ∙ ap (joined_attribute (find_attr a found)) (of_declared a (type_named ts q)))

  of_types : (ps : List Path) → find_attr a (types_attributes ts ps) ≡ types_attribute ts a ps
  of_types [] = refl
  of_types (p ∷ ps) =
      folded ps (declared_attributes ts p) (declared_ascends p ts formed)
      ∙ ap (λ o. fold (λ found q. joined_attribute found (declared_attribute ts a q)) o ps)
      (of_declared a (type_named ts p))

-- ---- the attributes of a type

pub looked_up : AttributesAreLookedUp
looked_up s TNever a h = refl
looked_up s (TBool k) a h = refl
looked_up s TLong a h = refl
looked_up s TString a h = refl
looked_up s (TSet t) a h = refl
looked_up s TAnySet a h = refl
looked_up s (TRecord xs o) a h = refl
looked_up s (TEntity ps) a h =
    let types = list_all (λ (t : DeclaredType). kind_is_formed t.kind) s.types in
    let actions = list_all (λ (b : DeclaredAction). application_is_formed b.applies_to) s.actions in
    of_types s.types (and_left types actions h) a ps
looked_up s TAnyEntity a h = refl
looked_up s (TExtension n) a h = refl
