-- The world of the examples conforms.
use Rattle.std.proofs.Common.{◌≡◌, inl, Bool, true, false, ◌&&◌, ◌||◌, if◌then◌else◌, List, [], ◌∷◌, Option, Some, None, true≢false, refl}
use Rattle.std.proofs.Common.{sym, ◌∙◌, ap, subst}
use Rattle.std.specs.Prelude.{IsTrue}
use Rattle.cedar_types.specs.declared.base.types.ValidationMode.TheVariants.{Strict}
use Rattle.cedar_types.specs.Names.{Path, Uid, uid_eq, path_eq}
use Rattle.cedar_types.specs.Extensions.Functions.{ExtensionFunction, function_named}
use Rattle.cedar_types.specs.Lemmas.Comparisons.{path_same, uid_same}
use Rattle.cedar_types.specs.Schemas.{Schema, is_among, uid_is_among, type_named, declares_type, declares_action, descendants_of}
use Rattle.cedar_types.specs.Values.{Value, Values, HasType}
use Rattle.cedar_types.specs.Values.Stores.{Entity, Store, entity_at, declares_ancestor, FitsDeclaration, ConformingStore}
use Rattle.cedar_typing.specs.Evaluation.Conformance.{FitsRequest, KeepsTable}
use Rattle.cedar_typing.specs.Evaluation.Equality.{same_values}
use Rattle.cedar_typing.specs.Evaluation.World.{Call, call_value}
use Rattle.cedar_typing.specs.Examples.Greeting.{sample_store, sample_functions, greeting}
use Rattle.cedar_typing.specs.Examples.World.{user, bob, greet, meet, act, a_context, sample_schema, extension_functions, sample}
use Rattle.cedar_typing.specs.Setting.{table}
use Rattle.cedar_typing.specs.Soundness.{IsReliable, IsWorldOf}
use Rattle.cedar_typing.proofs.Basics.{some_is, none_is}

-- ---- the store

-- a statement on each entry of a store holds of the entity that is found
module _ (P : Uid → Entity → Type 0) where
  abbrev pub AllEntities : Store → Type 0
  AllEntities [] = Unit {0}
  AllEntities (x ∷ xs) = P x.0 x.1 × AllEntities xs

  at_first : (b : Bool) (u v : Uid) (x e : Entity) (rest : Option Entity) → uid_eq u v ≡ b → P v x
      → (rest ≡ Some e → P u e) → (if b then Some x else rest) ≡ Some e → P u e
  at_first true u v x e rest q h f n = subst (λ z. P z e) (sym (uid_same.to u v q)) (subst (P v) (some_is n) h)
  at_first false u v x e rest q h f n = f n

  pub all_found : (store : Store) → AllEntities store → (u : Uid) (e : Entity) → entity_at store u ≡ Some e → P u e
  all_found [] h u e n = absurd (none_is n)
  all_found (x ∷ xs) h u e n = at_first (uid_eq u x.0) u x.0 x.1 e (entity_at xs u) refl h.0 (all_found xs h.1 u e) n

-- an entity fits the declaration of its type
abbrev pub Fitting : Schema → Uid → Entity → Type 0
Fitting s u e = FitsDeclaration s u (type_named s.types u.entity_type) e

abbrev pub IsStored : Store → Uid → Type 0
IsStored es u = (e : Entity) × (entity_at es u ≡ Some e)

-- a store conforms if all entities fit and all actions are stored
pub all_fit : (s : Schema) (es : Store) → AllEntities (Fitting s) es
    → ((u : Uid) → declares_action s.actions u ≡ true → IsStored es u) → ConformingStore s es
all_fit s es fitting there =
    record { entities = λ u e h. all_found (Fitting s) es fitting u e h; actions = λ u h. there u h }

pub stored_as : (es : Store) (u v : Uid) → uid_eq u v ≡ true → IsStored es v → IsStored es u
stored_as es u v q h = subst (IsStored es) (sym (uid_same.to u v q)) h

pub none_among : {P : Type 0} → false ≡ true → P
none_among h = absurd (true≢false (sym h))

-- a list with one member passes exactly if the member does
pub only_one : (b : Bool) → (b || false) ≡ true → b ≡ true
only_one true n = refl
only_one false n = n

-- entities of the type p may be in v, by the declaration of the type of v
abbrev pub MayBeIn : Schema → Path → Uid → Type 0
MayBeIn s p v = IsTrue (declares_type s.types v.entity_type && is_among (descendants_of s.types v.entity_type) p)

-- the ancestor v is the one ancestor u
pub in_one : (s : Schema) (p : Path) (u v : Uid) → MayBeIn s p u → (uid_eq v u || false) ≡ true → MayBeIn s p v
in_one s p u v h q = subst (MayBeIn s p) (sym (uid_same.to v u (only_one (uid_eq v u) q))) h

-- a declared action of which u is no descendant, and one of which it is
pub left_out : (a rest : Bool) → ((a && false) || rest) ≡ rest
left_out true rest = refl
left_out false rest = refl

pub counted : (a rest : Bool) → ((a && true) || rest) ≡ (a || rest)
counted true rest = refl
counted false rest = refl

-- the actions have the ancestors that the schema declares
abbrev pub HasDeclaredAncestors : Schema → Uid → List Uid → Type 0
HasDeclaredAncestors s u vs = (v : Uid) → uid_is_among vs v ≡ declares_ancestor s.actions u v

ancestors_of_greet : HasDeclaredAncestors sample_schema greet (meet ∷ act ∷ [])
ancestors_of_greet v = go (uid_eq v greet) (uid_eq v meet) (uid_eq v act)
  where
    go : (a b c : Bool) → (b || (c || false)) ≡ ((a && false) || ((b && true) || ((c && true) || false)))
    go a b c = sym (left_out a _ ∙ (counted b _ ∙ ap (λ x. b || x) (counted c false)))

ancestors_of_meet : HasDeclaredAncestors sample_schema meet (act ∷ [])
ancestors_of_meet v = go (uid_eq v greet) (uid_eq v meet) (uid_eq v act)
  where
    go : (a b c : Bool) → (c || false) ≡ ((a && false) || ((b && false) || ((c && true) || false)))
    go a b c = sym (left_out a _ ∙ (left_out b _ ∙ counted c false))

ancestors_of_act : HasDeclaredAncestors sample_schema act []
ancestors_of_act v = go (uid_eq v greet) (uid_eq v meet) (uid_eq v act)
  where
    go : (a b c : Bool) → false ≡ ((a && false) || ((b && false) || ((c && false) || false)))
    go a b c = sym (left_out a _ ∙ (left_out b _ ∙ left_out c false))

-- alice, bob and the actions
fitting : AllEntities (Fitting sample_schema) sample_store
fitting = (
  record {
    attributes = ((tt, (refl, (((tt, tt), (refl, tt)), (tt, tt)))), (refl, (refl, (refl, (refl, tt)))));
    tagged = (tt, tt);
    ancestors = λ v h. in_one sample_schema user bob v refl h;
  },
  (
    record { attributes = ((tt, (refl, (refl, (refl, tt)))), (refl, tt)); tagged = tt; ancestors = λ v h. none_among h },
    (
      (refl, record { attributes = refl; ancestors = λ v. ancestors_of_greet v; tags = refl }),
      (
        (refl, record { attributes = refl; ancestors = λ v. ancestors_of_meet v; tags = refl }),
        ((refl, record { attributes = refl; ancestors = λ v. ancestors_of_act v; tags = refl }), tt),
      ),
    ),
  ),
)

actions_are_stored : (u : Uid) → declares_action sample_schema.actions u ≡ true → IsStored sample_store u
actions_are_stored u = go (uid_eq u greet) (uid_eq u meet) (uid_eq u act) refl refl refl
  where
    go : (a b c : Bool) → uid_eq u greet ≡ a → uid_eq u meet ≡ b → uid_eq u act ≡ c → (a || (b || (c || false))) ≡ true
        → IsStored sample_store u
    go true b c p q r h = stored_as sample_store u greet p (_, refl)
    go false true c p q r h = stored_as sample_store u meet q (_, refl)
    go false false true p q r h = stored_as sample_store u act r (_, refl)
    go false false false p q r h = none_among h

pub store_conforms : ConformingStore sample_schema sample_store
store_conforms = all_fit sample_schema sample_store fitting (λ u h. actions_are_stored u h)

-- a store conforms to a schema with one action, which has no ancestors
module _ (s : Schema) (u : Uid) (one : (v : Uid) → declares_action s.actions v ≡ (uid_eq v u || false)) (store : Store) where
  pub conforms : AllEntities (Fitting s) store → IsStored store u → ConformingStore s store
  conforms fitting there =
      all_fit s store fitting (λ v h. stored_as store v u (only_one (uid_eq v u) (subst (λ b. b ≡ true) (one v) h)) there)

-- ---- the extension functions

-- a statement on each call holds of the value that is found
module _ (P : Path → Value → Type 0) where
  abbrev AllCalls : List Call → Type 0
  AllCalls [] = Unit {0}
  AllCalls (c ∷ cs) = P c.function c.value × AllCalls cs

  first_call : (a b : Bool) (n m : Path) (v w : Value) (rest : Option Value) → path_eq n m ≡ a → P m w
      → (rest ≡ Some v → P n v) → (if a && b then Some w else rest) ≡ Some v → P n v
  first_call true true n m v w rest q h f e = subst (λ z. P z v) (sym (path_same.to n m q)) (subst (P m) (some_is e) h)
  first_call true false n m v w rest q h f e = f e
  first_call false b n m v w rest q h f e = f e

  all_calls : (cs : List Call) → AllCalls cs → (n : Path) (vs : Values) (v : Value) → call_value cs n vs ≡ Some v → P n v
  all_calls [] h n vs v e = absurd (none_is e)
  all_calls (c ∷ cs) h n vs v e =
      first_call (path_eq n c.function) (same_values vs c.arguments) n c.function v c.value (call_value cs n vs)
      refl h.0 (all_calls cs h.1 n vs v) e

-- a value is of the function's return type, if there is one
abbrev HasReturnType : Option ExtensionFunction → Value → Type 0
HasReturnType None v = Unit {0}
HasReturnType (Some f) v = HasType f.return_type v

abbrev IsReturned : Path → Value → Type 0
IsReturned n v = HasReturnType (function_named n extension_functions) v

calls_fit : AllCalls IsReturned sample_functions.calls
calls_fit = (refl, (refl, (refl, (refl, (tt, (tt, (refl, tt)))))))

pub values_fit : (n : Path) (f : ExtensionFunction) → function_named n extension_functions ≡ Some f → (vs : Values)
    (v : Value) → call_value sample_functions.calls n vs ≡ Some v → HasType f.return_type v
values_fit n f h vs v e = subst (λ o. HasReturnType o v) h (all_calls IsReturned sample_functions.calls calls_fit n vs v e)

table_kept : KeepsTable (table (sample Strict)) sample_functions
table_kept = record { returns = values_fit; overloaded_types = λ p. refl }

-- ---- the request

pub greets : FitsRequest (record { principal = user; action = greet; resource = user; context = a_context }) greeting.request
greets = record { principal = refl; action = refl; resource = refl; context = ((refl, (refl, (refl, tt))), (refl, (refl, tt))) }

pub sample_reliable : IsReliable (sample Strict)
sample_reliable = record { mode = refl; closed = refl; environment = inl refl }

pub greeting_conforms : IsWorldOf (sample Strict) greeting
greeting_conforms = record { environment = (greets, tt, refl); store = store_conforms; functions = table_kept }
