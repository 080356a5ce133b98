-- The tags and contexts that a schema without faults declares have kept types, if these are formed in
-- Permissive.
use Rattle.std.proofs.Common.{◌≡◌, inl, inr, true, false, not, List, [], ◌∷◌, map, Option, Some, None, refl, sym, subst}
use Rattle.std.specs.List.{list_all}
use Rattle.cedar_types.specs.Lemmas.Comparisons.{and_right}
use Rattle.cedar_types.specs.Names.{Path, Uid, path_eq}
use Rattle.cedar_types.specs.Types.{Ty, TRecord, TEntity, TAnyEntity, is_well_formed}
use Rattle.cedar_types.specs.Schemas.{Schema, Application, DeclaredType, DeclaredAction, TypeKind, StandardKind, EnumKind, ExternalKind}
use Rattle.cedar_types.specs.Schemas.{has_fault, type_named, are_vague, is_vague, is_record, kind_is_definite, application_is_definite}
use Rattle.cedar_types.specs.Environments.{DeclaredEnv, principal_environments, action_environments, environments_of}
use Rattle.cedar_types.specs.Types.Lookups.{kind_tags, declared_tags, tags_of_types, tags_of_any, tag_types}
use Rattle.cedar_types.specs.Schemas.Formed.{kind_is_formed, application_is_formed, has_formed_types}
use Rattle.cedar_types.proofs.Schema.Faultless.{faultless}
use Rattle.cedar_typing.proofs.Basics.{not_true}
use Rattle.cedar_typing.proofs.Bounds.Lists.{in_order_all}
use Rattle.cedar_typing.proofs.Basics.Members.{AreAll, all_flat, found_in, all_pass}
use Rattle.cedar_typing.proofs.KeptTypes.Attributes.{kind_says_enough}
use Rattle.cedar_typing.proofs.KeptTypes.Types.{Keeping, ascending, IsKept, definite_kept}

all_mapped : {A B : Type 0} (P : A → Type 0) (f : B → A) (bs : List B) → ((b : B) → P (f b)) → AreAll P (map f bs)
all_mapped P f [] h z k = absurd k
all_mapped P f (b ∷ bs) h z (inl e) = subst P (sym e) (h b)
all_mapped P f (b ∷ bs) h z (inr k) = all_mapped P f bs h z k

module _ (k : Keeping) where
  -- ---- the type of a kind's tags

  kind_kept : (kind : TypeKind) → kind_is_definite kind ≡ true → (k ≡ ascending → kind_is_formed kind ≡ true)
      → AreAll (IsKept k) (kind_tags kind)
  kind_kept (StandardKind attrs (Some u)) d w t (inl e) =
      let definite = not_true (is_vague u) (and_right (not (are_vague attrs)) (not (is_vague u)) d) in
      subst (IsKept k) (sym e) (definite_kept k u definite (λ a. and_right (is_well_formed (TRecord attrs false)) (is_well_formed u) (w a)))
  kind_kept (StandardKind attrs (Some u)) d w t (inr h) = absurd h
  kind_kept (StandardKind attrs None) d w t h = absurd h
  kind_kept (EnumKind ids) d w t h = absurd h
  kind_kept ExternalKind d w t h = absurd h

  -- ---- the context of an action

  abbrev ContextIsKept : DeclaredEnv → Type 0
  ContextIsKept d = IsKept k d.context

  action_kept : (u : Uid) (a : Option Application) → application_is_definite a ≡ true
      → (k ≡ ascending → application_is_formed a ≡ true) → AreAll ContextIsKept (action_environments u a)
  action_kept u None h w d i = absurd i
  action_kept u (Some a) h w d i =
      let definite = not_true (is_vague a.context) (and_right (is_record a.context) (not (is_vague a.context)) h) in
      let kept = definite_kept k a.context definite w in
      all_flat (principal_environments u a.context a.resources) ContextIsKept a.principals
      (λ p j. all_mapped ContextIsKept _ a.resources (λ r. kept)) d i

  -- ---- all declarations

  module _ (s : Schema) (f : has_fault s ≡ false) (w : k ≡ ascending → has_formed_types s ≡ true) where
    types_kept : AreAll (λ (d : DeclaredType). AreAll (IsKept k) (kind_tags d.kind)) s.types
    types_kept d i =
        let enough = kind_says_enough k s f w d i in
        kind_kept d.kind enough.0 enough.1

    declared_kept : (p : Path) (o : Option DeclaredType) → type_named s.types p ≡ o → AreAll (IsKept k) (declared_tags o)
    declared_kept p None e t h = absurd h
    declared_kept p (Some d) e t h = types_kept d (found_in (λ d. path_eq p d.name) s.types d e) t h

    pub tags_kept : (b : Ty) → AreAll (IsKept k) (tag_types s b)
    tags_kept (TEntity ps) =
        in_order_all (IsKept k) (tags_of_types s.types ps)
        (all_flat (λ p. declared_tags (type_named s.types p)) (IsKept k) ps (λ p i. declared_kept p (type_named s.types p) refl))
    tags_kept TAnyEntity =
        in_order_all (IsKept k) (tags_of_any s.types)
        (all_flat (λ (d : DeclaredType). kind_tags d.kind) (IsKept k) s.types types_kept)
    tags_kept b = λ t h. absurd h

    pub contexts_kept : AreAll ContextIsKept (environments_of s.actions)
    contexts_kept =
        let definite = and_right (list_all (λ t. kind_is_definite t.kind) s.types)
        (list_all (λ (a : DeclaredAction). application_is_definite a.applies_to) s.actions)
        (faultless s f).definite in
        let types_formed = list_all (λ (t : DeclaredType). kind_is_formed t.kind) s.types in
        let actions_formed = list_all (λ (a : DeclaredAction). application_is_formed a.applies_to) s.actions in
        all_flat (λ (a : DeclaredAction). action_environments a.name a.applies_to) ContextIsKept s.actions
        (λ a i. action_kept a.name a.applies_to
        (all_pass (λ (a : DeclaredAction). application_is_definite a.applies_to) s.actions definite a i)
        (λ e. all_pass (λ (a : DeclaredAction). application_is_formed a.applies_to) s.actions
        (and_right types_formed actions_formed (w e)) a i))
