-- Conclusions from the checks of a template in all its environments.
use Rattle.std.specs.Prelude.{◌≡◌, ℕ, ◌+◌, ◌≤◌, Bool, true, false, List, Option, Some, None, ◌↔◌}
use Rattle.cedar_types.specs.declared.base.expressions.operators.BinaryOp.{BinaryOp}
use Rattle.cedar_types.specs.declared.base.expressions.operators.Var.{Var}
use Rattle.cedar_types.specs.declared.base.names.slots.SlotId.{SlotId}
use Rattle.cedar_types.specs.declared.base.types.BoolType.TheVariants.{AnyBool}
use Rattle.cedar_types.specs.declared.base.types.ValidationMode.{ValidationMode}
use Rattle.cedar_types.specs.Names.{Path, is_action_path}
use Rattle.cedar_types.specs.Types.{Ty, TBool}
use Rattle.cedar_types.specs.Expressions.Tree.{var, slot, binary}
use Rattle.cedar_types.specs.Expressions.View.{Written}
use Rattle.cedar_types.specs.Errors.{Finding}
use Rattle.cedar_types.specs.Extensions.Functions.{table_fault}
use Rattle.cedar_types.specs.Schemas.{Schema, has_fault}
use Rattle.cedar_types.specs.Environments.{DeclaredEnv, environments_of}
use Rattle.cedar_types.specs.Environments.RequestEnvs.{Env, Declared}
use Rattle.cedar_types.specs.Templates.{PlainTemplate, scope_condition, condition_of}
use Rattle.cedar_types.specs.Values.{VBool}
use Rattle.cedar_types.specs.Values.Stores.{ConformingStore}
use Rattle.cedar_types.specs.Expressions.Parts.{mentions_slot}
use Rattle.cedar_types.specs.Environments.Linking.{has_slot, checked_envs}
use Rattle.cedar_typing.specs.Capabilities.{Caps, no_caps}
use Rattle.cedar_typing.specs.Evaluation.Conformance.{IsOneOf, FitsRequest, Fits, ConformingRequest, SlotsBound, has_external, KeepsTable}
use Rattle.cedar_typing.specs.Evaluation.Eval.{eval}
use Rattle.cedar_typing.specs.Evaluation.World.{World, Gives}
use Rattle.cedar_typing.specs.Judgments.{max_nesting}
use Rattle.cedar_typing.specs.Modes.{IsSoundMode, IsFormedFor}
use Rattle.cedar_typing.specs.PolicyCheck.{Verdict, succeeds, irrelevant, PolicyChecks}
use Rattle.cedar_typing.specs.Rules.{Derives, Recovers, Cuts}
use Rattle.cedar_typing.specs.Setting.{Setting, table}
use Rattle.cedar_typing.specs.Soundness.PolicyCheck.{Promises}
use Rattle.cedar_typing.specs.Soundness.{IsTrueOutcome}
use Rattle.cedar_typing.specs.TypedExpr.{Source, TypedTree}

-- the setting with another request environment
abbrev pub in_env : Setting → Env → Setting
in_env s e = record s { env = record s.env { request_env = e } }

-- ---- where slots stand

-- e mentions neither slot
abbrev pub MentionsNoSlot : Source → Type 0
MentionsNoSlot e = (x : SlotId) → mentions_slot x e ≡ false

-- the expression, if there is one, mentions neither slot
abbrev pub NoSlotIn : Option Source → Type 0
NoSlotIn None = Unit {0}
NoSlotIn (Some e) = MentionsNoSlot e

-- the slots of the template stand in its scope alone: its rest, if there is one, mentions neither
abbrev pub SlotsInScopeAlone : PlainTemplate → Type 0
SlotsInScopeAlone t = NoSlotIn t.rest

-- ---- the own environment

-- a slot that occurs is linked to its variable's own type, one that does not to none
abbrev pub own_link : Bool → Path → Option Path
own_link true own = Some own
own_link false own = None

-- an environment of the schema with each slot that the template has linked to its variable's own
-- type
abbrev pub own_env : PlainTemplate → DeclaredEnv → Env
own_env t d =
    Declared d
    (own_link (has_slot SlotId.Principal t) d.principal)
    (own_link (has_slot SlotId.Resource t) d.resource)

-- where the slots stand in the scope alone, the own environment is checked, by any schema in any
-- mode
abbrev pub OwnEnvIsChecked : Type 0
OwnEnvIsChecked =
    (s : Schema) (m : ValidationMode) (t : PlainTemplate) → SlotsInScopeAlone t
    → (d : DeclaredEnv) → IsOneOf d (environments_of s.actions)
    → IsOneOf (own_env t d) (checked_envs s m t)

-- it is so wherever the slots stand, by a schema without faults, if no action is principal or
-- resource
abbrev pub OwnEnvIsCheckedOfTypes : Type 0
OwnEnvIsCheckedOfTypes =
    (s : Schema) (m : ValidationMode) (t : PlainTemplate) → has_fault s ≡ false
    → (d : DeclaredEnv) → IsOneOf d (environments_of s.actions)
    → is_action_path d.principal ≡ false → is_action_path d.resource ≡ false
    → IsOneOf (own_env t d) (checked_envs s m t)

-- e has the type Bool and produces nothing, within the limit of depth and whatever is known
abbrev pub IsTypedBool : Setting → Source → Type 0
IsTypedBool s e =
    (prior : Caps) (k : ℕ) → k + 1 ≤ max_nesting
    → (x : TypedTree) × Derives s e prior k (TBool AnyBool) no_caps x

-- `v == x` and `v in x` of a variable and a slot, at any places, have the type Bool
abbrev pub AreTypedBool : Setting → Var → SlotId → Type 0
AreTypedBool s v x =
    (m n o : Written)
    → IsTypedBool s (binary m BinaryOp.Eq (var n v) (slot o x))
    × IsTypedBool s (binary m BinaryOp.In (var n v) (slot o x))

-- the tests of a variable against its slot are Bool where the slot is linked to the variable's own
-- type
abbrev pub OwnTestsAreBool : Type 0
OwnTestsAreBool =
    (s : Setting) (d : DeclaredEnv) (link : Option Path)
    → AreTypedBool (in_env s (Declared d (Some d.principal) link)) Var.Principal SlotId.Principal
    × AreTypedBool (in_env s (Declared d link (Some d.resource))) Var.Resource SlotId.Resource

-- ---- expressions that mention no slot

-- e is typed in the same way in both settings: derived, recovered and cut
pub record IsTypedAlike (s s' : Setting) (e : Source) (prior : Caps) (k : ℕ) : Type 0 where
  pub derived : (t : Ty) (c : Caps) (x : TypedTree)
      → Derives s e prior k t c x ↔ Derives s' e prior k t c x
  pub recovered : (x : TypedTree) (es : List Finding)
      → Recovers s e prior k x es ↔ Recovers s' e prior k x es
  pub cut : (es : List Finding) → Cuts s e prior k es ↔ Cuts s' e prior k es

-- an expression that mentions no slot is typed in one way, whatever the slots are linked to
abbrev pub LinksDoNotMatter : Type 0
LinksDoNotMatter =
    (s : Setting) (d : DeclaredEnv) (p r p' r' : Option Path) (e : Source) → MentionsNoSlot e
    → (prior : Caps) (k : ℕ)
    → IsTypedAlike (in_env s (Declared d p r)) (in_env s (Declared d p' r')) e prior k

-- ---- coverage

-- the scope is a boolean where its slots are bound, in any world
abbrev pub ScopeIsBoolean : Type 0
ScopeIsBoolean =
    (t : PlainTemplate) (world : World) → SlotsBound world.slots (scope_condition t)
    → (b : Bool) × (eval world (scope_condition t) ≡ Gives (VBool b))

-- where the scope is true, one of the environments that are checked fits: of a request of the
-- schema whose principal and resource are no actions, in a store that conforms to a schema without
-- faults and external declarations, where the slots stand in the scope alone and are bound
abbrev pub Coverage : Type 0
Coverage =
    (s : Schema) (m : ValidationMode) (t : PlainTemplate) (world : World)
    → has_fault s ≡ false → has_external s ≡ false → SlotsInScopeAlone t
    → (d : DeclaredEnv) → IsOneOf d (environments_of s.actions) → FitsRequest d world.request
    → is_action_path d.principal ≡ false → is_action_path d.resource ≡ false
    → ConformingStore s world.store → SlotsBound world.slots (condition_of t)
    → IsTrueOutcome (eval world (scope_condition t))
    → (e : Env) × IsOneOf e (checked_envs s m t) × Fits e world.request world.slots

-- ---- a condition that is warned to be impossible

-- the setting of which the theorems below speak: in Strict or in Permissive, a schema and a table
-- without faults, nothing external
pub record IsFaultless (s : Setting) : Type 0 where
  pub mode : IsSoundMode s.env.mode
  pub schema : has_fault s.env.schema ≡ false
  pub formed : IsFormedFor s.env.mode s.env.schema
  pub functions : table_fault s.functions ≡ None
  pub closed : has_external s.env.schema ≡ false

-- the check says that the condition is never true
abbrev pub IsIrrelevant : Verdict → Type 0
IsIrrelevant (irrelevant es x) = Unit {0}
IsIrrelevant v = ⊥

-- in each of the environments that are checked, the check says so
abbrev pub IsIrrelevantInAll : Setting → PlainTemplate → Type 0
IsIrrelevantInAll s t =
    (e : Env) → IsOneOf e (checked_envs s.env.schema s.env.mode t)
    → (v : Verdict) → PolicyChecks (in_env s e) (condition_of t) v → IsIrrelevant v

-- the condition is true of no request of the schema, whether or not its slots are bound
abbrev pub IsTrueOfNone : Setting → PlainTemplate → Type 0
IsTrueOfNone s t =
    (world : World) → ConformingRequest s.env.schema world.request
    → ConformingStore s.env.schema world.store → KeepsTable (table s) world.functions
    → IsTrueOutcome (eval world (condition_of t)) → ⊥

-- a condition that is irrelevant in all environments is true of no request
abbrev pub NeverTrue : Type 0
NeverTrue =
    (s : Setting) (t : PlainTemplate) → IsFaultless s → SlotsInScopeAlone t → IsIrrelevantInAll s t
    → IsTrueOfNone s t

-- a check that succeeds in the own environment alone keeps its promise in each world of the
-- request, whatever the slots are bound to, if they are
abbrev pub IsKeptFromOwn : Setting → PlainTemplate → Type 0
IsKeptFromOwn s t =
    (d : DeclaredEnv) → IsOneOf d (environments_of s.env.schema.actions)
    → (x : TypedTree) → PolicyChecks (in_env s (own_env t d)) (condition_of t) (succeeds x)
    → (world : World) → FitsRequest d world.request
    → ConformingStore s.env.schema world.store → KeepsTable (table s) world.functions
    → SlotsBound world.slots (condition_of t) → Promises (succeeds x) (eval world (condition_of t))

abbrev pub OwnSuccessIsKept : Type 0
OwnSuccessIsKept =
    (s : Setting) (t : PlainTemplate) → IsFaultless s → SlotsInScopeAlone t → IsKeptFromOwn s t
