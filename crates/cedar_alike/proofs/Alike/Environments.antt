-- The types of variables and slots, by the names and types that an environment of the program holds.
use Rattle.std.proofs.Common.{◌≡◌, ◌↔◌, Bool, IsTrue, Option, Some, None, option_map, refl, sym, ap, ◌∙◌, arith}
use Rattle.std.specs.Borrow.{Bor}
use Rattle.cedar_types.specs.declared.base.names.entities.EntityType.{EntityType}
use Rattle.cedar_types.specs.declared.base.names.entities.EntityUID.{EntityUID}
use Rattle.cedar_types.specs.declared.base.names.slots.SlotId.{SlotId}
use Rattle.cedar_types.specs.declared.types.request_env.RequestEnv.{RequestEnv}
use Rattle.cedar_types.specs.declared.types.request_env.RequestEnv.TheVariants.{DeclaredAction, UndeclaredAction}
use Rattle.cedar_types.specs.Environments.RequestEnvs.{env_of, principal_in, action_in, resource_in, principal_slot_in, resource_slot_in}
use Rattle.cedar_types.specs.Environments.RequestEnvs.{principal_ty, action_ty, resource_ty, context_ty}
use Rattle.cedar_types.specs.Expressions.Tree.{entity}
use Rattle.cedar_types.specs.Names.{Path, Uid, type_of, uid_of, path_eq, uid_eq}
use Rattle.cedar_types.specs.Names.Comparisons.{entity_type_eq, entity_uid_eq}
use Rattle.cedar_types.specs.Lemmas.Comparisons.{entity_type_is, uid_is, path_eq-Decides, uid_eq-Decides}
use Rattle.cedar_types.specs.Schemas.{Schema}
use Rattle.cedar_types.specs.Types.{Ty, TAnyEntity, Attrs, no_attrs, attr}
use Rattle.cedar_types.specs.Types.Bounds.{attr_count}
use Rattle.cedar_types.specs.declared.base.types.CedarType.{CedarType}
use Rattle.cedar_types.specs.Types.Lookups.{literal_type}
use Rattle.cedar_typing.specs.Rules.Equality.{action_literal}
use Rattle.cedar_typing.specs.Rules.Leaves.{linked_ty, slot_ty}
use Rattle.cedar_typing.proofs.Basics.{some_is}
use Rattle.cedar_alike.specs.Flags.{context_in, context_or_any}
use Rattle.cedar_alike.specs.Reads.{SameAction}

-- ---- entity types

abbrev pub types : Option (Bor EntityType) → Option Path
types o = option_map (λ t. type_of t.now) o

pub principal_is : (e : RequestEnv) → principal_ty (env_of e) ≡ linked_ty (types (principal_in e))
principal_is (DeclaredAction p a r c ps rs) = refl
principal_is UndeclaredAction = refl

pub resource_is : (e : RequestEnv) → resource_ty (env_of e) ≡ linked_ty (types (resource_in e))
resource_is (DeclaredAction p a r c ps rs) = refl
resource_is UndeclaredAction = refl

pub principal_slot_is : (e : RequestEnv) → slot_ty (env_of e) SlotId.Principal ≡ linked_ty (option_map type_of (principal_slot_in e))
principal_slot_is (DeclaredAction p a r c ps rs) = refl
principal_slot_is UndeclaredAction = refl

pub resource_slot_is : (e : RequestEnv) → slot_ty (env_of e) SlotId.Resource ≡ linked_ty (option_map type_of (resource_slot_in e))
resource_slot_is (DeclaredAction p a r c ps rs) = refl
resource_slot_is UndeclaredAction = refl

-- the types of two references, by the types that they point at
pub types_at : (o : Option (Bor EntityType)) → types o ≡ option_map type_of (option_map (λ t. t.now) o)
types_at None = refl
types_at (Some t) = refl

one_link : (o o' : Option Path) → linked_ty o ≡ linked_ty o' → o ≡ o'
one_link None None h = refl
one_link None (Some q) h = cc
one_link (Some p) None h = cc
one_link (Some p) (Some q) h = cc

-- a test of names is a test of the types of these names
pub by_names : (b : Bool) (o o' : Option Path) (t t' : Ty) → t ≡ linked_ty o → t' ≡ linked_ty o'
    → (IsTrue b ↔ (o ≡ o')) → (IsTrue b ↔ (t ≡ t'))
by_names b o o' t t' h h' f =
    (λ k. h ∙ ap linked_ty (f.0 k) ∙ sym h', λ k. f.1 (one_link o o' (sym h ∙ k ∙ h')))

-- ---- actions

abbrev pub ids : Option (Bor EntityUID) → Option Uid
ids o = option_map (λ u. uid_of u.now) o

abbrev type_by : Schema → Option Uid → Option Ty
type_by s None = Some TAnyEntity
type_by s (Some u) = literal_type s u

type_is : (s : Schema) (e : RequestEnv) → action_ty s (env_of e) ≡ type_by s (ids (action_in e))
type_is s (DeclaredAction p a r c ps rs) = refl
type_is s UndeclaredAction = refl

literal_is : (e : RequestEnv) → action_literal (env_of e) ≡ option_map entity (ids (action_in e))
literal_is (DeclaredAction p a r c ps rs) = refl
literal_is UndeclaredAction = refl

one_id : (o o' : Option Uid) → option_map entity o ≡ option_map entity o' → o ≡ o'
one_id None None h = refl
one_id None (Some v) h = cc
one_id (Some u) None h = cc
one_id (Some u) (Some v) h = cc

-- a test of ids is a test of actions
pub by_ids : (b : Bool) (e e' : RequestEnv) (o o' : Option (Bor EntityUID)) → o ≡ action_in e → o' ≡ action_in e'
    → (IsTrue b ↔ (ids o ≡ ids o')) → (IsTrue b ↔ SameAction (env_of e) (env_of e'))
by_ids b e e' o o' h h' f =
    let g : IsTrue b → ids (action_in e) ≡ ids (action_in e') = λ k. ap ids (sym h) ∙ f.0 k ∙ ap ids h' in (
      λ k. record {
        type = λ s. type_is s e ∙ ap (type_by s) (g k) ∙ sym (type_is s e');
        literal = literal_is e ∙ ap (option_map entity) (g k) ∙ sym (literal_is e');
      },
      λ k. f.1 (ap ids h
          ∙ one_id (ids (action_in e)) (ids (action_in e')) (sym (literal_is e) ∙ k.literal ∙ literal_is e') ∙ ap ids (sym h')),
    )

-- ---- contexts

context_is : (e : RequestEnv) → context_ty (env_of e) ≡ context_or_any (context_in e)
context_is (DeclaredAction p a r c ps rs) = refl
context_is UndeclaredAction = refl

-- a test of the declared contexts is a test of their types
pub by_contexts : (b : Bool) (e e' : RequestEnv) (o o' : Option (Bor CedarType)) → o ≡ context_in e → o' ≡ context_in e'
    → (IsTrue b ↔ (context_or_any o ≡ context_or_any o')) → (IsTrue b ↔ (context_ty (env_of e) ≡ context_ty (env_of e')))
by_contexts b e e' o o' h h' f =
    let p : context_ty (env_of e) ≡ context_or_any o = context_is e ∙ ap context_or_any (sym h) in
    let q : context_ty (env_of e') ≡ context_or_any o' = context_is e' ∙ ap context_or_any (sym h') in
    (λ k. p ∙ f.0 k ∙ sym q, λ k. f.1 (sym p ∙ k ∙ q))

-- ---- names and ids of the program

-- `==` of two entity types, which are there, tells whether the types are one
pub types_decided : (b : Bool) (o o' : Option (Bor EntityType)) (x y : Bor EntityType) → o ≡ Some x → o' ≡ Some y
    → b ≡ entity_type_eq x.now y.now → (IsTrue b ↔ (types o ≡ types o'))
types_decided b o o' x y h h' f =
    let e : b ≡ path_eq (type_of x.now) (type_of y.now) = f ∙ entity_type_is x.now y.now in
    let d = path_eq-Decides (type_of x.now) (type_of y.now) in (
      λ k. ap types h ∙ ap Some (d.0 (sym e ∙ k)) ∙ sym (ap types h'),
      λ k. e ∙ d.1 (some_is (sym (ap types h) ∙ k ∙ ap types h')),
    )

pub ids_decided : (b : Bool) (o o' : Option (Bor EntityUID)) (x y : Bor EntityUID) → o ≡ Some x → o' ≡ Some y
    → b ≡ entity_uid_eq x.now y.now → (IsTrue b ↔ (ids o ≡ ids o'))
ids_decided b o o' x y h h' f =
    let e : b ≡ uid_eq (uid_of x.now) (uid_of y.now) = f ∙ uid_is x.now y.now in
    let d = uid_eq-Decides (uid_of x.now) (uid_of y.now) in (
      λ k. ap ids h ∙ ap Some (d.0 (sym e ∙ k)) ∙ sym (ap ids h'),
      λ k. e ∙ d.1 (some_is (sym (ap ids h) ∙ k ∙ ap ids h')),
    )

-- attributes are counted
pub none_named : (xs : Attrs) → (attr_count xs ≡ 0) ↔ (xs ≡ no_attrs)
none_named no_attrs = (λ h. refl, λ h. refl)
none_named (attr k t b xs) = (λ h. grind arith, λ h. cc)
