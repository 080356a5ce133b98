-- Extended `has` of a record, along the keys to the first entity.
use Rattle.std.proofs.Common.{◌≡◌, ℕ, ◌+◌, ◌≤◌, Bool, false, List, [], ◌∷◌, Option, Some, None, option_map, refl, sym, ap, subst, arith}
use Rattle.cedar_types.specs.declared.base.location.Loc.{Loc}
use Rattle.cedar_types.specs.Types.Lookups.{attribute_type}
use Rattle.cedar_types.specs.Names.{Text, Uid}
use Rattle.cedar_types.specs.Environments.RequestEnvs.{is_partial}
use Rattle.cedar_types.specs.Schemas.{Schema}
use Rattle.cedar_types.specs.Values.Stores.{Store}
use Rattle.cedar_types.specs.Types.{Ty}
use Rattle.cedar_types.specs.Values.{Value, VRecord, Entries, entry_at, HasType}
use Rattle.cedar_typing.specs.Capabilities.{Caps}
use Rattle.cedar_typing.specs.Eager.{gives}
use Rattle.cedar_typing.specs.Evaluation.Eval.{attribute_value}
use Rattle.cedar_typing.specs.Evaluation.World.{Request}
use Rattle.cedar_typing.specs.Rules.Chains.{Progress, made_up, chain}
use Rattle.cedar_typing.specs.Soundness.{OnValue}
use Rattle.cedar_typing.specs.TypeEnv.{TypeEnv}
use Rattle.cedar_typing.specs.TypedExpr.{Source}
use Rattle.cedar_typechecker.specs.Levels.Chains.{Base, an_entity, a_record, neither, base_of_type}
use Rattle.cedar_typechecker.specs.Levels.Costs.{entity_cost, on_attribute, steps_cost, keys_on, keys_to_entity}
use Rattle.cedar_typechecker.proofs.Levels.Silent.{OnKeysOf}
use Rattle.cedar_typechecker.proofs.Slices.ChainSteps.{GoesOn, step_object}
use Rattle.cedar_typechecker.proofs.Slices.ChainValues.{AreKept, ObjectOf, of_entity, of_record, object_of, IsTestedAlike, by_step}
use Rattle.cedar_typechecker.proofs.Slices.ChainValues.{cost_from, declared_cost, reached_path}
use Rattle.cedar_typechecker.proofs.Slices.Ids.{Selected, SelectedIn}
use Rattle.cedar_typechecker.proofs.Slices.Stores.{Agrees}

-- a type is of an entity, of a record, or of neither, and only one of these
pub entity_not_record : (s : Ty) (X : Type 0) → base_of_type s ≡ an_entity
    → base_of_type s ≡ a_record → X
entity_not_record s X e f = cc

entity_not_neither : (s : Ty) (X : Type 0) → base_of_type s ≡ an_entity
    → base_of_type s ≡ neither → X
entity_not_neither s X e f = cc

record_not_neither : (s : Ty) (X : Type 0) → base_of_type s ≡ a_record
    → base_of_type s ≡ neither → X
record_not_neither s X e f = cc

-- the ids that a value holds along a path are reached in k steps, and k with the cost is at most n
abbrev pub IsReachedAlong : ℕ → (ℕ → Uid → Type 0) → ℕ → Value → List Text → Type 0
IsReachedAlong n P cost v path = (k : ℕ) × (k + cost ≤ n) × Selected (P k) path v

-- the ids along the keys to the first entity are so reached, if an entity comes before the last
-- attribute
abbrev pub IsKnown : ℕ → (ℕ → Uid → Type 0) → Schema → Ty → Text → List Text → Value → Type 0
IsKnown n P schema s x xs v =
    OnKeysOf (keys_to_entity schema s x xs) (IsReachedAlong n P (steps_cost schema s x xs) v)

declared_keys : (schema : Schema) (s : Ty) (x y : Text) (ys : List Text) (u : Ty) (r : Bool)
    → attribute_type schema s x ≡ Some (u, r)
    → keys_to_entity schema s x (y ∷ ys)
    ≡ keys_on (base_of_type u) x (keys_to_entity schema u y ys)
declared_keys schema s x y ys u r f =
    ap (λ z. on_attribute None z
    (λ u. keys_on (base_of_type u) x (keys_to_entity schema u y ys))) f

-- ---- at the value of an attribute

module _ (n : ℕ) (P : ℕ → Uid → Type 0) (schema : Schema) (u : Ty) (y : Text)
    (ys : List Text) where
  abbrev cost : ℕ
  cost = steps_cost schema u y ys

  abbrev keys : Option (List Text)
  keys = keys_to_entity schema u y ys

  abbrev KnownIn : Option Value → Type 0
  KnownIn None = Unit {0}
  KnownIn (Some w) = IsKnown n P schema u y ys w

  -- the attribute is an entity, whose ids are reached; a record, whose ids are reached along the
  -- further keys; or neither
  data AtNext (o : Option Value) : Type 0 where
    met : (k : ℕ) → base_of_type u ≡ an_entity → k + (1 + cost) ≤ n → SelectedIn (P k) [] o
        → AtNext o
    goes_on : base_of_type u ≡ a_record → KnownIn o → AtNext o
    is_neither : base_of_type u ≡ neither → AtNext o

  module _ (x : Text) (es : Entries) where
    known_later : (later : Option (List Text)) → keys ≡ later
        → OnKeysOf (option_map (λ xs. x ∷ xs) later) (IsReachedAlong n P (0 + cost) (VRecord es))
        → (o : Option Value) → entry_at x es ≡ o → KnownIn o
    known_later later e h None f = tt
    known_later None e h (Some w) f =
        subst (λ o. OnKeysOf o (IsReachedAlong n P cost w)) (sym e) tt
    known_later (Some path) e h (Some w) f =
        subst (λ o. OnKeysOf o (IsReachedAlong n P cost w)) (sym e)
        (h.0, omega (arith, h.1), subst (SelectedIn (P h.0) path) f h.2)

    at_next : (b : Base) → base_of_type u ≡ b
        → OnKeysOf (keys_on b x keys) (IsReachedAlong n P (entity_cost b + cost) (VRecord es))
        → AtNext (entry_at x es)
    at_next an_entity b h = met h.0 b h.1 h.2
    at_next a_record b h = goes_on b (known_later keys refl h (entry_at x es) refl)
    at_next neither b h = is_neither b

-- ---- from a record on

module _ (q : Request) (store part : Store) (n : ℕ) (P : ℕ → Uid → Type 0)
    (a : Agrees q store part n P) (env : TypeEnv) (N : Ty → Type 0)
    (kept : AreKept env store N) (total : is_partial env.mode ≡ false)
    (prior : Caps) (t : Ty) (c : Caps) where
  abbrev IsAlike : Text → List Text → Value → Type 0
  IsAlike = IsTestedAlike store part

  abbrev Known : Ty → Text → List Text → Value → Type 0
  Known = IsKnown n P env.schema

  pub record_path : (l l' : Option Loc) (xs : List Text) (e : Source) (s : Ty) (x : Text)
      (p : Progress) (es : Entries) → N s → HasType s (VRecord es)
      → chain env l l' prior xs e s x p ≡ gives t c → Known s x xs (VRecord es)
      → IsAlike x xs (VRecord es)
  record_path l l' [] e s x p es i h d z = refl
  record_path l l' (y ∷ ys) e s x p es i h d z =
      by_step q store part n P a env N kept total prior t c l l' y ys e s x p (VRecord es) i h d tt
      (λ g.
      let u = g.attribute in
      let keys_are = declared_keys env.schema s x y ys u g.required g.declared in
      let cost_is = declared_cost env.schema s x y ys u g.required g.declared in
      let Q : Option (List Text) → Type 0 =
      λ o. OnKeysOf o (IsReachedAlong n P (steps_cost env.schema s x (y ∷ ys)) (VRecord es)) in
      let R : ℕ → Type 0 =
      λ j. OnKeysOf (keys_on (base_of_type u) x (keys_to_entity env.schema u y ys))
      (IsReachedAlong n P j (VRecord es)) in
      let next = at_next n P env.schema u y ys x es (base_of_type u) refl
      (subst R cost_is (subst Q keys_are z)) in
      let k = kept.attribute s u g.required x i g.declared in
      by g k next
      (λ es' m j. record_path l' l' ys (made_up e x) u y g.progress es' k m g.rest j)
      (entry_at x es) refl (kept.typed s u g.required x (VRecord es) i h g.declared))
    where
      at_record : (u : Ty) (w : Value) → ObjectOf u w → base_of_type u ≡ a_record
          → HasType u w → Known u y ys w
          → ((es' : Entries) → HasType u (VRecord es') → Known u y ys (VRecord es')
          → IsAlike y ys (VRecord es'))
          → IsAlike y ys w
      at_record u w (of_entity b') b m j rest = entity_not_record u _ b' b
      at_record u w (of_record {es = es'} b') b m j rest = rest es' m j

      at_neither : (u : Ty) (w : Value) → ObjectOf u w → base_of_type u ≡ neither
          → IsAlike y ys w
      at_neither u w (of_entity b') b = entity_not_neither u _ b' b
      at_neither u w (of_record b') b = record_not_neither u _ b' b

      object : (g : GoesOn env l' prior y ys e s x t c) (w : Value) → N g.attribute
          → HasType g.attribute w → ObjectOf g.attribute w
      object g w k m =
          object_of N kept.no_any_entity g.attribute w k
          (step_object env total prior t c l' l' ys (made_up e x) g.attribute y g.progress g.rest)
          m

      by : (g : GoesOn env l' prior y ys e s x t c) → N g.attribute
          → AtNext n P env.schema g.attribute y ys (entry_at x es)
          → ((es' : Entries) → HasType g.attribute (VRecord es')
          → Known g.attribute y ys (VRecord es') → IsAlike y ys (VRecord es'))
          → (o : Option Value) → entry_at x es ≡ o
          → OnValue (HasType g.attribute) (attribute_value o)
          → OnValue (IsAlike y ys) (attribute_value o)
      by g k next rest None f m = tt
      by g k (met j b le ids) rest (Some w) f m =
          let left : j + cost_from env.schema g.attribute y ys ≤ n =
          subst (λ z. j + (entity_cost z + steps_cost env.schema g.attribute y ys) ≤ n) (sym b) le
          in
          reached_path q store part n P a env N kept total prior t c l' l' ys (made_up e x)
          g.attribute y g.progress w j k m g.rest (subst (SelectedIn (P j) []) f ids) left
      by g k (goes_on b j) rest (Some w) f m =
          at_record g.attribute w (object g w k m) b m
          (subst (KnownIn n P env.schema g.attribute y ys) f j) rest
      by g k (is_neither b) rest (Some w) f m = at_neither g.attribute w (object g w k m) b
