-- The attributes that a schema without faults declares have kept types, if these are formed in Permissive.
use Rattle.std.proofs.Common.{◌≡◌, Bool, true, false, not, ◌&&◌, List, [], ◌∷◌, Option, Some, None, option_map, fold, refl, subst}
use Rattle.std.specs.List.{list_all}
use Rattle.cedar_types.specs.declared.base.types.ValidationMode.TheVariants.{Permissive}
use Rattle.cedar_types.specs.Names.{Text, Path, path_eq}
use Rattle.cedar_types.specs.Lemmas.Comparisons.{and_left}
use Rattle.cedar_types.specs.Types.{Ty, TRecord, TEntity}
use Rattle.cedar_types.specs.Types.{is_well_formed}
use Rattle.cedar_types.specs.Types.Bounds.{is_strict, lub}
use Rattle.cedar_types.specs.Schemas.{Schema, DeclaredType, DeclaredAction, TypeKind, StandardKind, EnumKind, ExternalKind, has_fault}
use Rattle.cedar_types.specs.Schemas.{type_named, are_vague, is_vague, kind_is_definite, tags_pass}
use Rattle.cedar_types.specs.Types.Lookups.{declared_kind_attribute, kind_attribute, declared_attribute, joined_attribute, types_attribute}
use Rattle.cedar_types.specs.Types.Lookups.{attribute_type}
use Rattle.cedar_types.specs.Schemas.Formed.{kind_is_formed, application_is_formed, has_formed_types}
use Rattle.cedar_types.proofs.Schema.Faultless.{faultless}
use Rattle.cedar_typing.specs.Evaluation.Conformance.{IsOneOf}
use Rattle.cedar_typing.proofs.Basics.{not_true}
use Rattle.cedar_typing.proofs.Bounds.Attributes.{AttributesFormed}
use Rattle.cedar_typing.proofs.Basics.Members.{all_pass, found_in}
use Rattle.cedar_typing.proofs.KeptTypes.Bounds.{kept_lub}
use Rattle.cedar_typing.proofs.KeptTypes.Keeping.{HasKept}
use Rattle.cedar_typing.proofs.KeptTypes.Types.{Keeping, one_type, ascending, no_any_entity, IsKept, field_kept, definite_kept}

-- several entity types are joined in Permissive only; if no type names several, there is nothing to join
no_choice : (k : Keeping) (p q : Path) (ps : List Path) → IsKept k (TEntity (p ∷ q ∷ ps)) → k ≡ one_type → is_strict Permissive ≡ true
no_choice one_type p q ps n e = n.0
no_choice ascending p q ps n e = cc
no_choice no_any_entity p q ps n e = cc

module _ (k : Keeping) where
  -- the type that was found is kept
  abbrev pub FoundKept : Option (Ty × Bool) → Type 0
  FoundKept None = Unit {0}
  FoundKept (Some a) = IsKept k a.0

  bound_kept : (r : Bool) (o : Option Ty) → HasKept (IsKept k) o → FoundKept (option_map (λ t. (t, r)) o)
  bound_kept r None h = tt
  bound_kept r (Some t) h = h

  joined_kept : (k ≡ one_type → is_strict Permissive ≡ true) → (x y : Option (Ty × Bool)) → FoundKept x
      → FoundKept y → FoundKept (joined_attribute x y)
  joined_kept f None y h n = tt
  joined_kept f (Some a) None h n = tt
  joined_kept f (Some a) (Some b) h n = bound_kept (a.1 && b.1) (lub Permissive a.0 b.0) (kept_lub k Permissive f a.0 b.0 h n)

  if_found : (o : Option (Ty × Bool)) → ((t : Ty) (r : Bool) → o ≡ Some (t, r) → IsKept k t) → FoundKept o
  if_found None f = tt
  if_found (Some a) f = f a.0 a.1 refl

  kind_kept : (kind : TypeKind) (x : Text) → kind_is_definite kind ≡ true
      → (k ≡ ascending → kind_is_formed kind ≡ true) → FoundKept (kind_attribute x kind)
  kind_kept (StandardKind attrs tags) x d w =
      let definite = not_true (are_vague attrs) (and_left (not (are_vague attrs)) (tags_pass (λ t. not (is_vague t)) tags) d) in
      let record_type = TRecord attrs false in
      let kept = definite_kept k record_type definite (λ e. and_left (is_well_formed record_type) (tags_pass is_well_formed tags) (w e)) in
      if_found (kind_attribute x (StandardKind attrs tags)) (λ t r. field_kept k x attrs false t r kept)
  kind_kept (EnumKind ids) x d w = tt
  kind_kept ExternalKind x d w = tt

  module _ (s : Schema) (f : has_fault s ≡ false) (w : k ≡ ascending → has_formed_types s ≡ true) where
    -- the kind of each declared type is not vague, and in Permissive it is formed
    pub kind_says_enough : (d : DeclaredType) → IsOneOf d s.types → (kind_is_definite d.kind ≡ true)
        × (k ≡ ascending → kind_is_formed d.kind ≡ true)
    kind_says_enough d i =
        let definite = and_left (list_all (λ (d : DeclaredType). kind_is_definite d.kind) s.types) _ (faultless s f).definite in
        let types_formed = list_all (λ (d : DeclaredType). kind_is_formed d.kind) s.types in
        let actions_formed = list_all (λ (a : DeclaredAction). application_is_formed a.applies_to) s.actions in (
          all_pass (λ (d : DeclaredType). kind_is_definite d.kind) s.types definite d i,
          λ e. all_pass (λ (d : DeclaredType). kind_is_formed d.kind) s.types (and_left types_formed actions_formed (w e)) d i,
        )

    module _ (x : Text) where
      type_kept : (p : Path) (o : Option DeclaredType) → type_named s.types p ≡ o → FoundKept (declared_kind_attribute x o)
      type_kept p None e = tt
      type_kept p (Some d) e =
          let enough = kind_says_enough d (found_in (λ d. path_eq p d.name) s.types d e) in
          kind_kept d.kind x enough.0 enough.1

      pub declared_kept : (p : Path) → FoundKept (declared_attribute s.types x p)
      declared_kept p = type_kept p (type_named s.types p) refl

      folded_kept : (k ≡ one_type → is_strict Permissive ≡ true) → (ps : List Path) (o : Option (Ty × Bool))
          → FoundKept o → FoundKept (fold (λ found q. joined_attribute found (declared_attribute s.types x q)) o ps)
      folded_kept c [] o h = h
      folded_kept c (p ∷ ps) o h = folded_kept c ps _ (joined_kept c o (declared_attribute s.types x p) h (declared_kept p))

      types_kept : (ps : List Path) → IsKept k (TEntity ps) → FoundKept (types_attribute s.types x ps)
      types_kept [] n = tt
      types_kept (p ∷ []) n = declared_kept p
      types_kept (p ∷ q ∷ ps) n = folded_kept (no_choice k p q ps n) (q ∷ ps) (declared_attribute s.types x p) (declared_kept p)

    pub attribute_kept : (b : Ty) (x : Text) (t : Ty) (r : Bool) → IsKept k b
        → ◌≡◌ {A = Option (Ty × Bool)} (attribute_type s b x) (Some (t, r)) → IsKept k t
    attribute_kept (TRecord xs o) x t r n e = field_kept k x xs o t r n e
    attribute_kept (TEntity ps) x t r n e = subst FoundKept e (types_kept x ps n)
    attribute_kept b x t r n e = cc

-- the types of declared attributes are well-formed
formed_found : (o : Option (Ty × Bool)) (a : Ty × Bool) → FoundKept ascending o → o ≡ Some a → is_well_formed a.0 ≡ true
formed_found o a h e = (subst (FoundKept ascending) e h).1 refl

pub declared_formed : (s : Schema) → has_fault s ≡ false → has_formed_types s ≡ true → AttributesFormed s
declared_formed s f w x p a e = formed_found (declared_attribute s.types x p) a (declared_kept ascending s f (λ k. w) x p) e
