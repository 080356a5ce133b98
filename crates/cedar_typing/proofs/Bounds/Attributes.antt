-- The joint declaration of several entity types holds of an attribute that one of them declares.
use Rattle.std.proofs.Common.{◌≡◌, Bool, true, false, ◌&&◌, List, [], ◌∷◌, Option, Some, None, option_map, is_some, fold}
use Rattle.std.proofs.Common.{if◌then◌else◌, refl, sym, subst}
use Rattle.std.specs.List.{list_any}
use Rattle.cedar_types.specs.declared.base.types.ValidationMode.TheVariants.{Permissive}
use Rattle.cedar_types.specs.Names.{Text, Path, text_eq, path_eq}
use Rattle.cedar_types.specs.Lemmas.Comparisons.{and_left, text_same, path_same}
use Rattle.cedar_types.specs.Types.{Ty, TEntity, Attrs, no_attrs, attr, attr_names, is_well_formed}
use Rattle.cedar_types.specs.Types.Bounds.{find_attr, lub}
use Rattle.cedar_types.specs.Schemas.{Schema, is_among}
use Rattle.cedar_types.specs.Types.Lookups.{declared_attribute, joined_attribute, types_attribute}
use Rattle.cedar_types.specs.Values.{Value, Entries, no_entries, more_entries, entry_at, HasAttr, KeysAmong, HasType, HasAttrs}
use Rattle.cedar_types.proofs.Bounds.Laws.{bound_form}
use Rattle.cedar_typing.proofs.Basics.{or_cases}
use Rattle.cedar_typing.proofs.Bounds.Values.{Under, attr_under, from_apart, apart_left, lub_right}

-- ---- entries

-- the value at a key is as declared, if the key is declared
abbrev pub AttrAt : Option (Ty × Bool) → Option Value → Type 0
AttrAt None o = Unit {0}
AttrAt (Some a) o = HasAttr a.1 (HasType a.0) o

pub found_at : (k : Text) (xs : Attrs) (es : Entries) → HasAttrs xs es → AttrAt (find_attr k xs) (entry_at k es)
found_at k no_attrs es h = tt
found_at k (attr l t r xs) es h = by (text_eq k l) refl (found_at k xs es h.1)
  where
    by : (b : Bool) → text_eq k l ≡ b → AttrAt (find_attr k xs) (entry_at k es)
        → AttrAt (if b then Some (t, r) else find_attr k xs) (entry_at k es)
    by true e others = subst (λ j. HasAttr r (HasType t) (entry_at j es)) (sym (text_same.to k l e)) h.0
    by false e others = others

some_if : {A : Type 0} (b : Bool) (a : A) (o : Option A) → (b ≡ false → is_some o ≡ true) → is_some (if b then Some a else o) ≡ true
some_if true a o h = refl
some_if false a o h = h refl

-- a name that is among the names of attributes is found
pub named_found : (k : Text) (xs : Attrs) → list_any (text_eq k) (attr_names xs) ≡ true → is_some (find_attr k xs) ≡ true
named_found k no_attrs h = h
named_found k (attr l t r xs) h =
    or_cases (text_eq k l) (list_any (text_eq k) (attr_names xs)) (is_some (find_attr k (attr l t r xs)) ≡ true)
    (λ e. some_if (text_eq k l) (t, r) (find_attr k xs) (λ f. cc))
    (λ e. some_if (text_eq k l) (t, r) (find_attr k xs) (λ f. named_found k xs e)) h

-- a key with a value is one of the names
pub key_named : (k : Text) (ks : List Text) (es : Entries) → KeysAmong ks es → is_some (entry_at k es) ≡ true
    → list_any (text_eq k) ks ≡ true
key_named k ks no_entries h e = cc
key_named k ks (more_entries l v es) h e = by (key_named k ks es h.1) (text_eq k l) refl e
  where
    by : (is_some (entry_at k es) ≡ true → list_any (text_eq k) ks ≡ true) → (b : Bool) → text_eq k l ≡ b
        → is_some (if b then Some v else entry_at k es) ≡ true → list_any (text_eq k) ks ≡ true
    by others true f g = subst (λ j. list_any (text_eq j) ks ≡ true) (sym (text_same.to k l f)) h.0
    by others false f g = others g

-- ---- several entity types

-- the type that was found is well-formed
abbrev Formed : Option (Ty × Bool) → Type 0
Formed None = Unit {0}
Formed (Some a) = is_well_formed a.0 ≡ true

-- the types of declared attributes are well-formed
abbrev pub AttributesFormed : Schema → Type 0
AttributesFormed s = (x : Text) (p : Path) (a : Ty × Bool) → declared_attribute s.types x p ≡ Some a → is_well_formed a.0 ≡ true

-- whether a type names two entity types or more
abbrev pub is_choice : Ty → Bool
is_choice (TEntity (p ∷ q ∷ ps)) = true
is_choice t = false

-- the declarations of several entity types can be joined
abbrev pub Joins : Schema → Ty → Type 0
Joins s b = is_choice b ≡ true → AttributesFormed s

joined_under : (a b : Ty × Bool) (o : Option Value) (u : Option Ty) → ((v : Value) → HasType a.0 v → Under u v)
    → HasAttr a.1 (HasType a.0) o → AttrAt (option_map (λ t. (t, a.1 && b.1)) u) o
joined_under a b o None f h = tt
joined_under a b o (Some t) f h = attr_under a.1 (a.1 && b.1) (HasType a.0) (HasType t) f (and_left a.1 b.1) o h

joined_left : (f g : Option (Ty × Bool)) (o : Option Value) → AttrAt f o → AttrAt (joined_attribute f g) o
joined_left None g o h = tt
joined_left (Some a) None o h = tt
joined_left (Some a) (Some b) o h =
    joined_under a b o (lub Permissive a.0 b.0)
    (λ v k. from_apart Permissive a.0 b.0 v k (apart_left Permissive a.0 b.0 v k)) h

under_right : (r q : Bool) (P : Value → Type 0) (o : Option Value) (u : Option Ty)
    → ((t : Ty) → u ≡ Some t → (v : Value) → P v → HasType t v) → HasAttr q P o
    → AttrAt (option_map (λ t. (t, r && q)) u) o
under_right r q P o None f h = tt
under_right true q P o (Some t) f h = attr_under q q P (HasType t) (f t refl) (λ e. e) o h
under_right false q P o (Some t) f h = attr_under q false P (HasType t) (f t refl) (λ e. cc) o h

joined_right : (f g : Option (Ty × Bool)) (o : Option Value) → Formed f → Formed g → AttrAt g o → AttrAt (joined_attribute f g) o
joined_right None g o w x h = tt
joined_right (Some a) None o w x h = tt
joined_right (Some a) (Some b) o w x h =
    under_right a.1 b.1 (HasType b.0) o (lub Permissive a.0 b.0)
    (λ t e v k. lub_right Permissive a.0 b.0 t w x e v k) h

formed_at : (r : Bool) (u : Option Ty) → ((t : Ty) → u ≡ Some t → is_well_formed t ≡ true) → Formed (option_map (λ t. (t, r)) u)
formed_at r None h = tt
formed_at r (Some t) h = h t refl

joined_formed : (f g : Option (Ty × Bool)) → Formed f → Formed g → Formed (joined_attribute f g)
joined_formed None g w x = tt
joined_formed (Some a) None w x = tt
joined_formed (Some a) (Some b) w x = formed_at (a.1 && b.1) (lub Permissive a.0 b.0) (λ t e. bound_form Permissive a.0 b.0 t w x e)

formed : (o : Option (Ty × Bool)) → ((a : Ty × Bool) → o ≡ Some a → is_well_formed a.0 ≡ true) → Formed o
formed None h = tt
formed (Some a) h = h a refl

module _ (s : Schema) (x : Text) where
  abbrev declared_of : Path → Option (Ty × Bool)
  declared_of p = declared_attribute s.types x p

  folded_left : (ps : List Path) (f : Option (Ty × Bool)) (o : Option Value) → AttrAt f o
      → AttrAt (fold (λ found q. joined_attribute found (declared_attribute s.types x q)) f ps) o
  folded_left [] f o h = h
  folded_left (q ∷ qs) f o h = folded_left qs (joined_attribute f (declared_of q)) o (joined_left f (declared_of q) o h)

  folded_right : AttributesFormed s → (ps : List Path) (f : Option (Ty × Bool)) (p : Path) (o : Option Value)
      → Formed f → is_among ps p ≡ true → AttrAt (declared_of p) o
      → AttrAt (fold (λ found q. joined_attribute found (declared_attribute s.types x q)) f ps) o
  folded_right w [] f p o k m h = cc
  folded_right w (q ∷ qs) f p o k m h =
      let g : Formed (declared_of q) = formed (declared_of q) (w x q) in
      or_cases (path_eq p q) (is_among qs p)
      (AttrAt (fold (λ found q. joined_attribute found (declared_attribute s.types x q))
      (joined_attribute f (declared_of q)) qs) o)
      (λ e. folded_left qs (joined_attribute f (declared_of q)) o
      (joined_right f (declared_of q) o k g (subst (λ r. AttrAt (declared_of r) o) (path_same.to p q e) h)))
      (λ e. folded_right w qs (joined_attribute f (declared_of q)) p o (joined_formed f (declared_of q) k g) e h) m

  -- the declaration of one of the types implies the joint declaration of all, if there is one
  pub types_at : (ps : List Path) (p : Path) (o : Option Value) → Joins s (TEntity ps) → is_among ps p ≡ true
      → AttrAt (declared_of p) o → AttrAt (types_attribute s.types x ps) o
  types_at [] p o j m h = cc
  types_at (q ∷ []) p o j m h =
      or_cases (path_eq p q) false (AttrAt (declared_of q) o)
      (λ e. subst (λ r. AttrAt (declared_of r) o) (path_same.to p q e) h) (λ e. cc) m
  types_at (q ∷ r ∷ qs) p o j m h =
      or_cases (path_eq p q) (is_among (r ∷ qs) p) (AttrAt (types_attribute s.types x (q ∷ r ∷ qs)) o)
      (λ e. folded_left (r ∷ qs) (declared_of q) o (subst (λ r. AttrAt (declared_of r) o) (path_same.to p q e) h))
      (λ e. folded_right (j refl) (r ∷ qs) (declared_of q) p o (formed (declared_of q) (j refl x q)) e h) m
