-- Requests and interpretations that conform, and capabilities that hold.
use Rattle.std.specs.Prelude.{◌≡◌, Bool, not, ◌||◌, List, [], ◌∷◌, ◌⊎◌, Option, Some, None, is_some, IsTrue}
use Rattle.std.specs.List.{list_any}
use Rattle.cedar_types.specs.declared.base.names.slots.SlotId.{SlotId}
use Rattle.cedar_types.specs.Names.{Text, Path, Uid, path_eq}
use Rattle.cedar_types.specs.Expressions.Tree.{Tree, lit, var, slot, unknown, if_then_else, and, or, unary, binary, call, get_attr}
use Rattle.cedar_types.specs.Expressions.Tree.{has_attr, ext_has_attr, like, is_type, set_of, record_of, Trees, no_trees, tree, Fields}
use Rattle.cedar_types.specs.Expressions.Tree.{no_fields, field}
use Rattle.cedar_types.specs.Capability.{Cap, attribute, tag}
use Rattle.cedar_types.specs.Schemas.{DeclaredType, DeclaredAction, Schema, is_external_kind}
use Rattle.cedar_types.specs.Environments.{DeclaredEnv, environments_of}
use Rattle.cedar_types.specs.Environments.RequestEnvs.{Env, Declared, Undeclared}
use Rattle.cedar_types.specs.Extensions.Functions.{ExtensionFunction, function_named}
use Rattle.cedar_types.specs.Extensions.{ExtensionTable}
use Rattle.cedar_types.specs.Values.{Value, VString, VRecord, Values, HasType}
use Rattle.cedar_types.specs.Values.Stores.{Store}
use Rattle.cedar_typing.specs.Capabilities.{Caps}
use Rattle.cedar_typing.specs.Evaluation.Eval.{has_test, has_tag, eval}
use Rattle.cedar_typing.specs.Evaluation.Outcomes.{Test, Says, Stops}
use Rattle.cedar_typing.specs.Evaluation.World.{Request, Slots, Interpretation, call_value, World, Outcome, Gives, Fails}

-- x is one of the list
abbrev pub IsOneOf : {A : Type 0} → A → List A → Type 0
IsOneOf x [] = ⊥
IsOneOf x (y ∷ ys) = (x ≡ y) ⊎ IsOneOf x ys

-- ---- requests

-- the request fits the environment: its principal and its resource are of the environment's types, its action is the
-- environment's, and its context has the environment's type
pub record FitsRequest (d : DeclaredEnv) (r : Request) : Type 0 where
  pub principal : r.principal.entity_type ≡ d.principal
  pub action : r.action ≡ d.action
  pub resource : r.resource.entity_type ≡ d.resource
  pub context : HasType d.context (VRecord r.context)

-- a slot that is linked to a type is bound to an entity of that type
abbrev pub FitsSlot : Option Path → Option Uid → Type 0
FitsSlot None u = Unit {0}
FitsSlot (Some p) None = ⊥
FitsSlot (Some p) (Some u) = u.entity_type ≡ p

-- the environment fits a request and its slots. The environment of undeclared actions fits none
abbrev pub Fits : Env → Request → Slots → Type 0
Fits (Declared d ps rs) r slots =
    FitsRequest d r × FitsSlot ps (slots SlotId.Principal) × FitsSlot rs (slots SlotId.Resource)
Fits Undeclared r slots = ⊥

-- a request of some environment of the schema
abbrev pub ConformingRequest : Schema → Request → Type 0
ConformingRequest s r = (d : DeclaredEnv) × IsOneOf d (environments_of s.actions) × FitsRequest d r

-- the environment is one of the schema's, linked in any way
abbrev pub IsEnvironmentOf : Schema → Env → Type 0
IsEnvironmentOf s (Declared d ps rs) = IsOneOf d (environments_of s.actions)
IsEnvironmentOf s Undeclared = ⊥

-- ---- slots that are bound

abbrev pub IsBound : Option Uid → Type 0
IsBound None = ⊥
IsBound (Some u) = Unit {0}

abbrev mutual
  -- each slot that occurs in the expression is bound
  pub SlotsBound : {D : Type 0} → Slots → Tree D → Type 0
  SlotsBound b (lit m x) = Unit {0}
  SlotsBound b (var m x) = Unit {0}
  SlotsBound b (slot m s) = IsBound (b s)
  SlotsBound b (unknown m n) = Unit {0}
  SlotsBound b (if_then_else m x y z) = SlotsBound b x × SlotsBound b y × SlotsBound b z
  SlotsBound b (and m x y) = SlotsBound b x × SlotsBound b y
  SlotsBound b (or m x y) = SlotsBound b x × SlotsBound b y
  SlotsBound b (unary m o x) = SlotsBound b x
  SlotsBound b (binary m o x y) = SlotsBound b x × SlotsBound b y
  SlotsBound b (call m n ts) = AllSlotsBound b ts
  SlotsBound b (get_attr m x a) = SlotsBound b x
  SlotsBound b (has_attr m x a) = SlotsBound b x
  SlotsBound b (ext_has_attr m x a xs) = SlotsBound b x
  SlotsBound b (like m x p) = SlotsBound b x
  SlotsBound b (is_type m x n) = SlotsBound b x
  SlotsBound b (set_of m ts) = AllSlotsBound b ts
  SlotsBound b (record_of m fs) = FieldSlotsBound b fs

  pub AllSlotsBound : {D : Type 0} → Slots → Trees D → Type 0
  AllSlotsBound b no_trees = Unit {0}
  AllSlotsBound b (tree t ts) = SlotsBound b t × AllSlotsBound b ts

  pub FieldSlotsBound : {D : Type 0} → Slots → Fields D → Type 0
  FieldSlotsBound b no_fields = Unit {0}
  FieldSlotsBound b (field k t fs) = SlotsBound b t × FieldSlotsBound b fs

-- ---- schemas and interpretations

-- some type or some action is external
abbrev pub has_external : Schema → Bool
has_external s =
    list_any (λ (t : DeclaredType). is_external_kind t.kind) s.types
    || list_any (λ (a : DeclaredAction). not (is_some a.applies_to)) s.actions

-- the interpretation keeps the table: whatever the arguments, a function of the table gives only values of its return type,
-- and `<` and `<=` compare the same extension types
pub record KeepsTable (t : ExtensionTable) (i : Interpretation) : Type 0 where
  pub returns : (n : Path) (f : ExtensionFunction) → function_named n t.functions ≡ Some f
      → (vs : Values) (v : Value) → call_value i.calls n vs ≡ Some v → HasType f.return_type v
  pub overloaded_types : (p : Path)
      → list_any (path_eq p) i.overloaded_types ≡ list_any (path_eq p) t.overloaded_types

-- ---- capabilities

abbrev pub SaysTrue : Test → Type 0
SaysTrue (Says b) = IsTrue b
SaysTrue (Stops f) = ⊥

-- if the outcome is a value, it is a record with the attribute, or an entity of the store with it
abbrev pub HasAttribute : Store → Text → Outcome → Type 0
HasAttribute store x (Gives v) = SaysTrue (has_test store x v)
HasAttribute store x (Fails f) = Unit {0}

-- if the outcome is a value, it is an entity of the store with the tag of this text
abbrev pub HasTagOf : Store → Outcome → Value → Type 0
HasTagOf store (Gives v) (VString x) = SaysTrue (has_tag store v (VString x))
HasTagOf store o v = Unit {0}

abbrev pub HasTag : Store → Outcome → Outcome → Type 0
HasTag store o (Gives v) = HasTagOf store o v
HasTag store o (Fails f) = Unit {0}

-- a capability holds in a world. For example, `e has x` holds if e evaluates to a record with x or to an entity of the
-- store with x, or if it fails
abbrev pub Holds : World → Cap → Type 0
Holds world (attribute e x) = HasAttribute world.store x (eval world e)
Holds world (tag e x) = HasTag world.store (eval world e) (eval world x)

-- all these capabilities hold
abbrev pub AllHold : World → Caps → Type 0
AllHold world c = (q : Cap) → IsTrue (c q) → Holds world q
