-- The property that typing keeps in Strict, in Permissive, and if both slots are linked.
use Rattle.std.proofs.Common.{◌≡◌, ℕ, Bool, true, false, true≢false, ◌||◌, Some, None, refl, sym, ◌∙◌}
use Rattle.cedar_types.specs.declared.base.names.slots.SlotId.{SlotId}
use Rattle.cedar_types.specs.declared.base.types.ValidationMode.{ValidationMode}
use Rattle.cedar_types.specs.Types.Bounds.{is_strict}
use Rattle.cedar_types.specs.Extensions.Functions.{table_fault}
use Rattle.cedar_types.specs.Schemas.Formed.{has_formed_types}
use Rattle.cedar_types.specs.Environments.RequestEnvs.{Env, Declared, Undeclared, is_partial}
use Rattle.cedar_types.specs.Schemas.{has_fault}
use Rattle.cedar_types.specs.Types.{TNever, TSet, TAnyEntity}
use Rattle.cedar_typing.specs.Capabilities.{Caps}
use Rattle.cedar_typing.specs.Evaluation.Conformance.{IsEnvironmentOf}
use Rattle.cedar_typing.specs.Setting.LinkedSlots.{LinksBothSlots}
use Rattle.cedar_typing.specs.Rules.{rules}
use Rattle.cedar_typing.specs.Rules.Leaves.{slot_ty}
use Rattle.cedar_typing.specs.Setting.{Setting}
use Rattle.cedar_typing.specs.TypeEnv.{TypeEnv}
use Rattle.cedar_typing.specs.TypedExpr.{Source}
use Rattle.cedar_typing.proofs.Basics.{or_right}
use Rattle.cedar_typing.proofs.KeptTypes.Attributes.{attribute_kept}
use Rattle.cedar_typing.proofs.KeptTypes.Bounds.{kept_lub}
use Rattle.cedar_typing.proofs.KeptTypes.Declarations.{tags_kept, contexts_kept}
use Rattle.cedar_typing.proofs.KeptTypes.Induction.{types_are_kept}
use Rattle.cedar_typing.proofs.KeptTypes.Keeping.{IsKeeping}
use Rattle.cedar_typing.proofs.KeptTypes.RecordTypes.{record_kept}
use Rattle.cedar_typing.proofs.KeptTypes.Rules.{KeepsTypes}
use Rattle.cedar_typing.proofs.KeptTypes.Types.{Keeping, one_type, ascending, no_any_entity, allowed, is_made_of, IsKept, keeping, KeptIn}
use Rattle.cedar_typing.proofs.KeptTypes.Types.{one_kept}

-- the cases in which typing keeps the property, with a schema without faults
abbrev pub Applies : Keeping → TypeEnv → Type 0
Applies one_type env = is_strict env.mode ≡ true
Applies ascending env = (is_partial env.mode ≡ false) × (has_formed_types env.schema ≡ true)
Applies no_any_entity env = LinksBothSlots env.request_env

-- ---- facts about the mode and the environment

module _ (env : TypeEnv) where
  strict_of : (k : Keeping) → Applies k env → k ≡ one_type → is_strict env.mode ≡ true
  strict_of one_type w e = w
  strict_of ascending w e = cc
  strict_of no_any_entity w e = cc

  formed_of : (k : Keeping) → Applies k env → k ≡ ascending → has_formed_types env.schema ≡ true
  formed_of one_type w e = cc
  formed_of ascending w e = w.1
  formed_of no_any_entity w e = cc

  linked_of : (k : Keeping) → Applies k env → k ≡ no_any_entity → LinksBothSlots env.request_env
  linked_of one_type w e = cc
  linked_of ascending w e = cc
  linked_of no_any_entity w e = w

  strict_is_total : (m : ValidationMode) → is_strict m ≡ true → is_partial m ≡ false
  strict_is_total ValidationMode.Strict h = refl
  strict_is_total ValidationMode.Permissive h = refl
  strict_is_total ValidationMode.Partial h = absurd (true≢false (sym h))

  hidden_never : (k : Keeping) → Applies k env → is_partial env.mode ≡ true → (allowed k).never ≡ true
  hidden_never one_type w h = absurd (true≢false (sym h ∙ strict_is_total env.mode w))
  hidden_never ascending w h = absurd (true≢false (sym h ∙ w.0))
  hidden_never no_any_entity w h = refl

  element_never : (k : Keeping) → Applies k env → is_strict env.mode ≡ false → is_made_of (allowed k) (TSet TNever) ≡ true
  element_never one_type w h = absurd (true≢false (sym w ∙ h))
  element_never ascending w h = refl
  element_never no_any_entity w h = refl

-- ---- slots

any_kept : (k : Keeping) → (k ≡ no_any_entity → ⊥) → IsKept k TAnyEntity
any_kept one_type f = (refl, λ e. refl)
any_kept ascending f = (refl, λ e. refl)
any_kept no_any_entity f = absurd (f refl)

slot_kept : (k : Keeping) (env : Env) → (k ≡ no_any_entity → LinksBothSlots env) → (x : SlotId) → IsKept k (slot_ty env x)
slot_kept k (Declared d (Some p) (Some r)) f SlotId.Principal = one_kept k p
slot_kept k (Declared d (Some p) (Some r)) f SlotId.Resource = one_kept k r
slot_kept k (Declared d (Some p) None) f SlotId.Principal = one_kept k p
slot_kept k (Declared d (Some p) None) f SlotId.Resource = any_kept k f
slot_kept k (Declared d None (Some r)) f SlotId.Principal = any_kept k f
slot_kept k (Declared d None (Some r)) f SlotId.Resource = one_kept k r
slot_kept k (Declared d None None) f SlotId.Principal = any_kept k f
slot_kept k (Declared d None None) f SlotId.Resource = any_kept k f
slot_kept k Undeclared f x = any_kept k f

-- ---- each type is kept

pub keeps : (k : Keeping) (env : TypeEnv) → has_fault env.schema ≡ false → Applies k env → IsKeeping (IsKept k) env
keeps k env f w = record {
  booleans = λ b. (refl, λ e. refl);
  longs = (refl, λ e. refl);
  strings = (refl, λ e. refl);
  extensions = λ n. (refl, λ e. refl);
  entities = one_kept k;
  sets = λ t h. (or_right (allowed k).any_element (is_made_of (allowed k) t) h.0, h.1);
  empty_sets = λ h. (element_never env k w h, λ e. refl);
  records = record_kept k;
  bounds = kept_lub k env.mode (strict_of env k w);
  attributes = attribute_kept k env.schema f (formed_of env k w);
  hidden = λ h. (hidden_never env k w h, λ e. refl);
  tags = tags_kept k env.schema f (formed_of env k w);
  contexts = contexts_kept k env.schema f (formed_of env k w);
  slots = slot_kept k env.request_env (linked_of env k w);
}

-- each type is kept in Strict, and in Permissive if the types of the schema are formed
in_mode : (strictly : Bool) (env : TypeEnv) → is_strict env.mode ≡ strictly → is_partial env.mode ≡ false
    → (strictly || has_formed_types env.schema) ≡ true
    → Applies (keeping strictly) env
in_mode true env strict total formed = strict
in_mode false env strict total formed = (total, formed)

pub keeps_in_mode : (strictly : Bool) (env : TypeEnv) → is_strict env.mode ≡ strictly → is_partial env.mode ≡ false
    → has_fault env.schema ≡ false → (strictly || has_formed_types env.schema) ≡ true
    → IsKeeping (KeptIn strictly) env
keeps_in_mode strictly env strict total faults formed = keeps (keeping strictly) env faults (in_mode strictly env strict total formed)

-- no type that typing finds is any entity, if both slots are linked
pub no_any_entity_types : (s : Setting) → has_fault s.env.schema ≡ false → table_fault s.functions ≡ None
    → IsEnvironmentOf s.env.schema s.env.request_env
    → LinksBothSlots s.env.request_env → (e : Source) (prior : Caps) (d : ℕ) → KeepsTypes (IsKept no_any_entity) (rules s e prior d)
no_any_entity_types s faults table_faults environment links =
    types_are_kept (IsKept no_any_entity) s (keeps no_any_entity s.env faults links) table_faults environment
