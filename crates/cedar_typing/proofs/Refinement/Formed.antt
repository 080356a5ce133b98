-- Each type that typing finds is well-formed, if the types of the schema are formed.
use Rattle.std.proofs.Common.{◌≡◌, inl, inr, Bool, true, false, ◌&&◌, List, [], ◌∷◌, map, Option, Some, None, option_map, fold, if◌then◌else◌, refl, sym, subst}
use Rattle.std.specs.List.{list_all}
use Rattle.cedar_types.specs.declared.base.names.slots.SlotId.{SlotId}
use Rattle.cedar_types.specs.declared.base.types.ValidationMode.{ValidationMode}
use Rattle.cedar_types.specs.declared.base.types.ValidationMode.TheVariants.{Permissive}
use Rattle.cedar_types.specs.Names.{Text, Path, Uid, path_eq}
use Rattle.cedar_types.specs.Names.Ascending.{texts_ascending}
use Rattle.cedar_types.specs.Lemmas.Comparisons.{and_left, and_right, and_both}
use Rattle.cedar_types.specs.Types.{Ty, TRecord, TEntity, TAnyEntity, Attrs}
use Rattle.cedar_types.specs.Types.{attr_names, is_well_formed, are_well_formed}
use Rattle.cedar_types.specs.Types.Bounds.{find_attr, lub}
use Rattle.cedar_types.specs.Types.Lookups.{kind_attribute, declared_kind_attribute, declared_attribute, joined_attribute, types_attribute}
use Rattle.cedar_types.specs.Types.Lookups.{attribute_type, declares_entity, literal_type, kind_tags, declared_tags, tags_of_types, tags_of_any, tag_types}
use Rattle.cedar_types.specs.Environments.{DeclaredEnv, principal_environments, action_environments, environments_of}
use Rattle.cedar_types.specs.Environments.RequestEnvs.{Env, Declared, Undeclared, principal_ty, resource_ty, action_ty, context_ty}
use Rattle.cedar_types.specs.Extensions.Functions.{ExtensionFunction, function_named, table_fault}
use Rattle.cedar_types.specs.declared.base.expressions.operators.Var.{Var}
use Rattle.cedar_types.specs.Schemas.{Schema, Application, DeclaredType, DeclaredAction, TypeKind, StandardKind, EnumKind, ExternalKind}
use Rattle.cedar_types.specs.Schemas.{type_named}
use Rattle.cedar_types.specs.Schemas.Formed.{kind_is_formed, application_is_formed, has_formed_types}
use Rattle.cedar_types.proofs.Attributes.FindAttrs.{found_type, all_well_formed}
use Rattle.cedar_types.proofs.Bounds.Laws.{bound_form}
use Rattle.cedar_typing.specs.Evaluation.Conformance.{IsOneOf, IsEnvironmentOf}
use Rattle.cedar_typing.specs.Refinement.{HasFormedTypes}
use Rattle.cedar_typing.specs.Rules.Calls.{return_type}
use Rattle.cedar_typing.specs.Setting.{Setting}
use Rattle.cedar_typing.specs.Rules.Leaves.{slot_ty, variable_type}
use Rattle.cedar_typing.specs.Rules.Records.{required_attrs}
use Rattle.cedar_typing.specs.TypeEnv.{TypeEnv}
use Rattle.cedar_typing.proofs.Basics.Members.{AreAll, all_flat, found_in, all_pass}
use Rattle.cedar_typing.proofs.Bounds.Lists.{in_order_all}
use Rattle.cedar_typing.proofs.KeptTypes.Calls.{returns_kept}
use Rattle.cedar_typing.proofs.KeptTypes.Keeping.{HasKept, AreKept, IsKeeping}
use Rattle.cedar_typing.proofs.KeptTypes.RecordTypes.{names_ascend}

abbrev pub IsFormed : Ty → Type 0
IsFormed t = is_well_formed t ≡ true

-- ---- bounds

lub_formed : (m : ValidationMode) (s t : Ty) → IsFormed s → IsFormed t → HasKept IsFormed (lub m s t)
lub_formed m s t h k = by (lub m s t) refl
  where
    by : (o : Option Ty) → lub m s t ≡ o → HasKept IsFormed o
    by None e = tt
    by (Some u) e = bound_form m s t u h k e

-- ---- records

fields_formed : (ks : List Text) (ts : List Ty) → AreKept IsFormed ts → are_well_formed (required_attrs ks ts) ≡ true
fields_formed [] ts h = refl
fields_formed (x ∷ ks) [] h = refl
fields_formed (x ∷ ks) (t ∷ ts) h = and_both (is_well_formed t) (are_well_formed (required_attrs ks ts)) h.0 (fields_formed ks ts h.1)

record_formed : (ks : List Text) (ts : List Ty) → texts_ascending ks ≡ true → AreKept IsFormed ts
    → IsFormed (TRecord (required_attrs ks ts) false)
record_formed ks ts a h =
    let xs = required_attrs ks ts in
    and_both (texts_ascending (attr_names xs)) (are_well_formed xs) (names_ascend ks ts a) (fields_formed ks ts h)

-- ---- attributes

abbrev FoundFormed : Option (Ty × Bool) → Type 0
FoundFormed None = Unit {0}
FoundFormed (Some a) = IsFormed a.0

bound_formed : (r : Bool) (o : Option Ty) → HasKept IsFormed o → FoundFormed (option_map (λ t. (t, r)) o)
bound_formed r None h = tt
bound_formed r (Some t) h = h

joined_formed : (x y : Option (Ty × Bool)) → FoundFormed x → FoundFormed y → FoundFormed (joined_attribute x y)
joined_formed None y h n = tt
joined_formed (Some a) None h n = tt
joined_formed (Some a) (Some b) h n = bound_formed (a.1 && b.1) (lub Permissive a.0 b.0) (lub_formed Permissive a.0 b.0 h n)

if_found : (o : Option (Ty × Bool)) → ((a : Ty × Bool) → o ≡ Some a → IsFormed a.0) → FoundFormed o
if_found None f = tt
if_found (Some a) f = f a refl

field_formed : (x : Text) (xs : Attrs) (o : Bool) (a : Ty × Bool) → IsFormed (TRecord xs o) → find_attr x xs ≡ Some a → IsFormed a.0
field_formed x xs o a n e =
    found_type IsFormed x xs (all_well_formed xs (and_right (texts_ascending (attr_names xs)) (are_well_formed xs) n)) a e

kind_formed : (kind : TypeKind) (x : Text) → kind_is_formed kind ≡ true → FoundFormed (kind_attribute x kind)
kind_formed (StandardKind attrs tags) x w =
    if_found (find_attr x attrs) (λ a. field_formed x attrs false a (and_left (is_well_formed (TRecord attrs false)) _ w))
kind_formed (EnumKind ids) x w = tt
kind_formed ExternalKind x w = tt

kind_tags_formed : (kind : TypeKind) → kind_is_formed kind ≡ true → AreAll IsFormed (kind_tags kind)
kind_tags_formed (StandardKind attrs (Some u)) w t (inl e) =
    subst IsFormed (sym e) (and_right (is_well_formed (TRecord attrs false)) (is_well_formed u) w)
kind_tags_formed (StandardKind attrs (Some u)) w t (inr h) = absurd h
kind_tags_formed (StandardKind attrs None) w t h = absurd h
kind_tags_formed (EnumKind ids) w t h = absurd h
kind_tags_formed ExternalKind w t h = absurd h

all_mapped : {A B : Type 0} (P : A → Type 0) (f : B → A) (bs : List B) → ((b : B) → P (f b)) → AreAll P (map f bs)
all_mapped P f [] h z k = absurd k
all_mapped P f (b ∷ bs) h z (inl e) = subst P (sym e) (h b)
all_mapped P f (b ∷ bs) h z (inr k) = all_mapped P f bs h z k

abbrev ContextIsFormed : DeclaredEnv → Type 0
ContextIsFormed d = IsFormed d.context

action_formed : (u : Uid) (a : Option Application) → application_is_formed a ≡ true → AreAll ContextIsFormed (action_environments u a)
action_formed u None w d i = absurd i
action_formed u (Some a) w d i =
    all_flat (principal_environments u a.context a.resources) ContextIsFormed a.principals
    (λ p j. all_mapped ContextIsFormed _ a.resources (λ r. w)) d i

-- ---- a schema whose types are formed

module _ (s : Schema) (w : has_formed_types s ≡ true) where
  each_formed : (d : DeclaredType) → IsOneOf d s.types → kind_is_formed d.kind ≡ true
  each_formed d i =
      all_pass (λ (d : DeclaredType). kind_is_formed d.kind) s.types
      (and_left (list_all (λ (d : DeclaredType). kind_is_formed d.kind) s.types) _ w) d i

  module _ (x : Text) where
    type_formed : (p : Path) (o : Option DeclaredType) → type_named s.types p ≡ o → FoundFormed (declared_kind_attribute x o)
    type_formed p None e = tt
    type_formed p (Some d) e = kind_formed d.kind x (each_formed d (found_in (λ d. path_eq p d.name) s.types d e))

    folded_formed : (ps : List Path) (o : Option (Ty × Bool)) → FoundFormed o
        → FoundFormed (fold (λ found q. joined_attribute found (declared_attribute s.types x q)) o ps)
    folded_formed [] o h = h
    folded_formed (p ∷ ps) o h =
        folded_formed ps _ (joined_formed o (declared_attribute s.types x p) h (type_formed p (type_named s.types p) refl))

    types_formed : (ps : List Path) → FoundFormed (types_attribute s.types x ps)
    types_formed [] = tt
    types_formed (p ∷ ps) = folded_formed ps (declared_attribute s.types x p) (type_formed p (type_named s.types p) refl)

  attribute_formed : (b : Ty) (x : Text) (t : Ty) (r : Bool) → IsFormed b
      → ◌≡◌ {A = Option (Ty × Bool)} (attribute_type s b x) (Some (t, r)) → IsFormed t
  attribute_formed (TRecord xs o) x t r n e = field_formed x xs o (t, r) n e
  attribute_formed (TEntity ps) x t r n e = subst FoundFormed e (types_formed x ps)
  attribute_formed b x t r n e = cc

  declared_formed : (p : Path) (o : Option DeclaredType) → type_named s.types p ≡ o → AreAll IsFormed (declared_tags o)
  declared_formed p None e t h = absurd h
  declared_formed p (Some d) e t h = kind_tags_formed d.kind (each_formed d (found_in (λ d. path_eq p d.name) s.types d e)) t h

  tags_formed : (b : Ty) → AreAll IsFormed (tag_types s b)
  tags_formed (TEntity ps) =
      in_order_all IsFormed (tags_of_types s.types ps)
      (all_flat (λ p. declared_tags (type_named s.types p)) IsFormed ps (λ p i. declared_formed p (type_named s.types p) refl))
  tags_formed TAnyEntity =
      in_order_all IsFormed (tags_of_any s.types)
      (all_flat (λ (d : DeclaredType). kind_tags d.kind) IsFormed s.types (λ d i. kind_tags_formed d.kind (each_formed d i)))
  tags_formed b = λ t h. absurd h

  contexts_formed : AreAll ContextIsFormed (environments_of s.actions)
  contexts_formed =
      let types = list_all (λ (t : DeclaredType). kind_is_formed t.kind) s.types in
      let actions = list_all (λ (a : DeclaredAction). application_is_formed a.applies_to) s.actions in
      all_flat (λ (a : DeclaredAction). action_environments a.name a.applies_to) ContextIsFormed s.actions
      (λ a i. action_formed a.name a.applies_to
      (all_pass (λ (a : DeclaredAction). application_is_formed a.applies_to) s.actions (and_right types actions w) a i))

slot_formed : (e : Env) (x : SlotId) → IsFormed (slot_ty e x)
slot_formed (Declared d (Some p) (Some r)) SlotId.Principal = refl
slot_formed (Declared d (Some p) (Some r)) SlotId.Resource = refl
slot_formed (Declared d (Some p) None) SlotId.Principal = refl
slot_formed (Declared d (Some p) None) SlotId.Resource = refl
slot_formed (Declared d None (Some r)) SlotId.Principal = refl
slot_formed (Declared d None (Some r)) SlotId.Resource = refl
slot_formed (Declared d None None) SlotId.Principal = refl
slot_formed (Declared d None None) SlotId.Resource = refl
slot_formed Undeclared x = refl

pub keeps_formed : (env : TypeEnv) → has_formed_types env.schema ≡ true → IsKeeping IsFormed env
keeps_formed env w = record {
  booleans = λ b. refl;
  longs = refl;
  strings = refl;
  extensions = λ n. refl;
  entities = λ p. refl;
  sets = λ t h. h;
  empty_sets = λ h. refl;
  records = record_formed;
  bounds = lub_formed env.mode;
  attributes = attribute_formed env.schema w;
  hidden = λ h. refl;
  tags = tags_formed env.schema w;
  contexts = contexts_formed env.schema w;
  slots = slot_formed env.request_env;
}

-- ---- the types of literals and variables

entity_formed : (s : Schema) (u : Uid) → HasKept IsFormed (literal_type s u)
entity_formed s u = by (declares_entity s u)
  where
    by : (b : Bool) → HasKept IsFormed (if b then Some (TEntity (u.entity_type ∷ [])) else None)
    by true = refl
    by false = tt

action_type_formed : (s : Schema) (e : Env) → HasKept IsFormed (action_ty s e)
action_type_formed s (Declared d p r) = entity_formed s d.action
action_type_formed s Undeclared = refl

principal_formed : (e : Env) → IsFormed (principal_ty e)
principal_formed (Declared d p r) = refl
principal_formed Undeclared = refl

resource_formed : (e : Env) → IsFormed (resource_ty e)
resource_formed (Declared d p r) = refl
resource_formed Undeclared = refl

pub variable_formed : (env : TypeEnv) → is_well_formed (context_ty env.request_env) ≡ true → (x : Var) → HasKept IsFormed (variable_type env x)
variable_formed env c Var.Principal = principal_formed env.request_env
variable_formed env c Var.Action = action_type_formed env.schema env.request_env
variable_formed env c Var.Resource = resource_formed env.request_env
variable_formed env c Var.Context = c

-- the return type of a function is formed
pub return_formed : (fs : List ExtensionFunction)
    → ((n : Path) (f : ExtensionFunction) → function_named n fs ≡ Some f → is_well_formed f.return_type ≡ true)
    → (n : Path) → HasKept IsFormed (return_type (function_named n fs))
return_formed fs h n = by (function_named n fs) refl
  where
    by : (o : Option ExtensionFunction) → function_named n fs ≡ o → HasKept IsFormed (return_type o)
    by None e = tt
    by (Some f) e = h n f e

context_formed : (s : Schema) → has_formed_types s ≡ true → (e : Env) → IsEnvironmentOf s e → is_well_formed (context_ty e) ≡ true
context_formed s w (Declared d p r) i = contexts_formed s w d i
context_formed s w Undeclared i = absurd i

-- a setting has formed types, with a schema whose types are formed and a table without faults, in
-- an environment of the schema
pub formed_by_schema : (s : Setting) → has_formed_types s.env.schema ≡ true → table_fault s.functions ≡ None
    → IsEnvironmentOf s.env.schema s.env.request_env → HasFormedTypes s
formed_by_schema s w faults i = record {
  schema = w;
  context = context_formed s.env.schema w s.env.request_env i;
  functions =
      λ n f e. subst (λ o. HasKept IsFormed (return_type o)) e
      (returns_kept IsFormed s.env (keeps_formed s.env w) s.functions faults n);
}
