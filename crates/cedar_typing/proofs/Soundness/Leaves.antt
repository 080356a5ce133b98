-- Expressions without parts do not go wrong.
use Rattle.std.proofs.Common.{◌≡◌, Bool, true, false, List, [], ◌∷◌, Option, Some, None, if◌then◌else◌, refl, sym, ap, subst}
use Rattle.std.specs.Prelude.{IsTrue}
use Rattle.cedar_types.specs.declared.base.expressions.operators.Var.{Var}
use Rattle.cedar_types.specs.declared.base.names.slots.SlotId.{SlotId}
use Rattle.cedar_types.specs.declared.base.types.ValidationMode.{ValidationMode}
use Rattle.cedar_types.specs.Names.{Text, Path, Uid, path_eq}
use Rattle.cedar_types.specs.Lemmas.Comparisons.{path_same}
use Rattle.cedar_types.specs.Types.{Ty, TEntity}
use Rattle.cedar_types.specs.Expressions.Tree.{Lit, bool, long, string, entity}
use Rattle.cedar_types.specs.Expressions.View.{Written}
use Rattle.cedar_types.specs.Schemas.{Schema, is_among}
use Rattle.cedar_types.specs.Types.Lookups.{declares_entity, literal_type}
use Rattle.cedar_types.specs.Environments.RequestEnvs.{Env, Declared, Undeclared, principal_ty, resource_ty, action_ty, context_ty}
use Rattle.cedar_types.specs.Errors.{Finding}
use Rattle.cedar_types.specs.Values.{Value, VEntity, HasType}
use Rattle.cedar_typing.specs.Capabilities.{Caps, no_caps}
use Rattle.cedar_typing.specs.Evaluation.Conformance.{FitsSlot, Fits, IsBound}
use Rattle.cedar_typing.specs.Evaluation.Eval.{literal_value, variable_value, bound_outcome}
use Rattle.cedar_typing.specs.Evaluation.World.{Request, Slots, World, Outcome, Gives}
use Rattle.cedar_typing.specs.Rules.Leaves.{leaf_missing, variable_type, linked_ty, slot_ty, type_of_literal, known_entity_type}
use Rattle.cedar_typing.specs.Rules.Leaves.{unknown_entity_type, LeafRule, leaf, LeafRecovery, leaf_rules}
use Rattle.cedar_typing.specs.Soundness.{HasFound}
use Rattle.cedar_typing.specs.TypeEnv.{TypeEnv}
use Rattle.cedar_typing.specs.TypedExpr.{TypedTree, Mark, annotation}
use Rattle.cedar_typing.proofs.Basics.{or_left}
use Rattle.cedar_typing.proofs.Soundness.Capabilities.{hold_none}
use Rattle.cedar_typing.proofs.Soundness.Parts.{Sound, Sounds, nothing_sound}

-- an entity of the only type of a set
pub own_type : (p : Path) (u : Uid) → u.entity_type ≡ p → HasType (TEntity (p ∷ [])) (VEntity u)
own_type p u e =
    subst (λ q. IsTrue (is_among (q ∷ []) u.entity_type)) e
    (or_left (path_eq u.entity_type u.entity_type) false (path_same.itself u.entity_type))

-- ---- literals and variables

literal_type_has : (s : Schema) (u v : Uid) → v ≡ u → HasFound (literal_type s u) (Gives (VEntity v))
literal_type_has s u v e = go (declares_entity s u)
  where
    go : (b : Bool) → HasFound (if b then Some (TEntity (u.entity_type ∷ [])) else None) (Gives (VEntity v))
    go true = own_type u.entity_type v (ap (λ (x : Uid). x.entity_type) e)
    go false = tt

known_has : (o p : Option Ty) (v : Value) → HasFound o (Gives v) → HasFound p (Gives v) → HasFound (known_entity_type o p) (Gives v)
known_has None p v h k = k
known_has (Some t) p v h k = h

unknown_has : (m : ValidationMode) (u : Uid) → HasFound (unknown_entity_type m u) (Gives (VEntity u))
unknown_has ValidationMode.Strict u = tt
unknown_has ValidationMode.Permissive u = tt
unknown_has ValidationMode.Partial u = own_type u.entity_type u refl

pub literal_has : (env : TypeEnv) (x : Lit) → HasFound (type_of_literal env x) (Gives (literal_value x))
literal_has env (bool true) = refl
literal_has env (bool false) = refl
literal_has env (long n) = tt
literal_has env (string t) = tt
literal_has env (entity u) =
    known_has (literal_type env.schema u) (unknown_entity_type env.mode u) (VEntity u)
    (literal_type_has env.schema u u refl) (unknown_has env.mode u)

variable_in : Schema → Env → Var → Option Ty
variable_in s env Var.Principal = Some (principal_ty env)
variable_in s env Var.Action = action_ty s env
variable_in s env Var.Resource = Some (resource_ty env)
variable_in s env Var.Context = Some (context_ty env)

pub variable_has : (s : Schema) (m : ValidationMode) (env : Env) (ts : List Path) (p : Text) (r : Request)
    (b : Slots) → Fits env r b → (x : Var)
    → HasFound (variable_type
    (record { schema = s; mode = m; request_env = env; overloaded_types = ts; policy = p }) x)
    (Gives (variable_value r x))
variable_has s m (Declared d ps rs) ts p r b f Var.Principal = own_type d.principal r.principal f.0.principal
variable_has s m (Declared d ps rs) ts p r b f Var.Action = literal_type_has s d.action r.action f.0.action
variable_has s m (Declared d ps rs) ts p r b f Var.Resource = own_type d.resource r.resource f.0.resource
variable_has s m (Declared d ps rs) ts p r b f Var.Context = f.0.context
variable_has s m Undeclared ts p r b f x = absurd f

-- ---- slots

linked_has : (p : Option Path) (u : Uid) → FitsSlot p (Some u) → HasType (linked_ty p) (VEntity u)
linked_has None u f = tt
linked_has (Some p) u f = own_type p u f

bound_has : (world : World) (p : Option Path) (o : Option Uid) → FitsSlot p o → IsBound o
    → Sound world (bound_outcome o) true (Some (linked_ty p)) no_caps
bound_has world p None f b = absurd b
bound_has world p (Some u) f b =
    record {
      typed = linked_has p u f;
      safe = λ h. tt;
      caps_hold_if_true = λ h. hold_none world;
      caps_hold_at_true = λ h. hold_none world;
    }

pub slot_sound : (world : World) (env : Env) (r : Request) (b : Slots) → Fits env r b → (s : SlotId) → IsBound (b s)
    → Sound world (bound_outcome (b s)) true (Some (slot_ty env s)) no_caps
slot_sound world (Declared d ps rs) r b f SlotId.Principal i = bound_has world ps (b SlotId.Principal) f.1 i
slot_sound world (Declared d ps rs) r b f SlotId.Resource i = bound_has world rs (b SlotId.Resource) f.2 i
slot_sound world Undeclared r b f s i = absurd f

-- ---- the rules

module _ (world : World) (m : Written) (node : Mark → TypedTree) (at : (k : Mark) → annotation (node k) ≡ k.ty) where
  leaf_derived : (v : Value) (found : Option Ty) → HasFound found (Gives v) → (t : Ty) (c : Caps) (x : TypedTree)
      → LeafRule found m node t c x → Sound world (Gives v) true (Some t) c
  leaf_derived v found h t c x (leaf e) =
      record {
        typed = subst (λ o. HasFound o (Gives v)) e h;
        safe = λ n. tt;
        caps_hold_if_true =
            λ n. hold_none world;
        caps_hold_at_true = λ n. hold_none world;
      }

  leaf_recovered : (o : Outcome) (found : Option Ty) (x : TypedTree) (es : List Finding)
      → LeafRecovery found m node x es → Sound world o false (annotation x) no_caps
  leaf_recovered o found x es (leaf_missing e) = subst (λ a. Sound world o false a no_caps) (sym (at _)) (nothing_sound world o)

  leaf_marks : (found : Option Ty) (t : Ty) (c : Caps) (x : TypedTree) → LeafRule found m node t c x → annotation x ≡ Some t
  leaf_marks found t c x (leaf e) = at _

  pub leaf_sounds : (v : Value) (found : Option Ty) → HasFound found (Gives v) → Sounds world (Gives v) (leaf_rules found m node)
  leaf_sounds v found h =
      record {
        derivations = leaf_derived v found h;
        recoveries = leaf_recovered (Gives v) found;
        marks = leaf_marks found;
      }

  always_derived : (o : Outcome) (u : Ty) → Sound world o true (Some u) no_caps → (t : Ty) (c : Caps)
      (x : TypedTree) → LeafRule (Some u) m node t c x → Sound world o true (Some t) c
  always_derived o u s t c x (leaf e) = subst (λ a. Sound world o true a no_caps) e s

  pub always_sounds : (o : Outcome) (u : Ty) → Sound world o true (Some u) no_caps → Sounds world o (leaf_rules (Some u) m node)
  always_sounds o u s = record { derivations = always_derived o u s; recoveries = leaf_recovered o (Some u); marks = leaf_marks (Some u) }
