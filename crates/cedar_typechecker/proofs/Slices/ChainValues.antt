-- Extended `has` of a value whose ids are all reached: it has one outcome over the store and over
-- the part.
use Rattle.std.proofs.Common.{◌≡◌, ℕ, suc, ◌+◌, ◌≤◌, Bool, false, true, List, [], ◌∷◌, Option, Some, inl, inr, refl, sym, ◌∙◌, ap, subst}
use Rattle.std.proofs.Common.{arith}
use Rattle.cedar_types.specs.declared.base.location.Loc.{Loc}
use Rattle.cedar_types.specs.Types.Lookups.{attribute_type, may_have}
use Rattle.cedar_types.specs.Names.{Text, Uid}
use Rattle.cedar_types.specs.Environments.RequestEnvs.{is_partial}
use Rattle.cedar_types.specs.Schemas.{Schema}
use Rattle.cedar_types.specs.Values.Stores.{Store, entity_at}
use Rattle.cedar_types.specs.Types.{Ty, TRecord, TEntity, TAnyEntity}
use Rattle.cedar_types.specs.Values.{Value, VEntity, VRecord, Entries, entry_at, HasType}
use Rattle.cedar_typing.specs.Capabilities.{Caps}
use Rattle.cedar_typing.specs.Eager.{gives}
use Rattle.cedar_typing.specs.Evaluation.Eval.{has_test, get, path_test}
use Rattle.cedar_typing.specs.Evaluation.Outcomes.{Says, and_test, then_test}
use Rattle.cedar_typing.specs.Evaluation.World.{Request, Outcome, Gives, Fails}
use Rattle.cedar_typing.specs.Rules.Chains.{Progress, is_object, made_up, chain}
use Rattle.cedar_typing.specs.Soundness.{OnValue}
use Rattle.cedar_typing.specs.TypeEnv.{TypeEnv}
use Rattle.cedar_typing.specs.TypedExpr.{Source}
use Rattle.cedar_typechecker.specs.Levels.Chains.{an_entity, a_record, base_of_type}
use Rattle.cedar_typechecker.specs.Levels.Costs.{entity_cost, on_attribute, steps_cost}
use Rattle.cedar_typechecker.proofs.Slices.Accesses.{has_alike, get_alike, entity_got}
use Rattle.cedar_typechecker.proofs.Slices.ChainSteps.{GoesOn, step_object, step_goes_on}
use Rattle.cedar_typechecker.proofs.Slices.Ids.{Selected, entry_ids, select_entity, attribute_ids}
use Rattle.cedar_typechecker.proofs.Slices.Stores.{Agrees, IsSameValueIn}

-- the facts that the proofs use about N, the types of bases of extended `has`
pub record AreKept (env : TypeEnv) (store : Store) (N : Ty → Type 0) : Type 0 where
  -- no such type is any entity, and the attributes that are accessed have such types
  pub no_any_entity : N TAnyEntity → ⊥
  pub attribute : (s u : Ty) (r : Bool) (x : Text) → N s
      → attribute_type env.schema s x ≡ Some (u, r) → N u
  pub typed : (s u : Ty) (r : Bool) (x : Text) (v : Value) → N s → HasType s v
      → attribute_type env.schema s x ≡ Some (u, r) → OnValue (HasType u) (get store x v)
  -- a value has no attribute that its type cannot have
  pub absent : (s : Ty) (x : Text) (v : Value) → N s → is_object s ≡ true → HasType s v
      → may_have env.schema s x ≡ false → has_test store x v ≡ Says false

pub both_on : {Q R S : Value → Type 0} (o : Outcome) → ((v : Value) → Q v → R v → S v)
    → OnValue Q o → OnValue R o → OnValue S o
both_on (Gives v) f h i = f v h i
both_on (Fails e) f h i = tt

-- ---- objects

-- an object of such a type is an entity of some types, or a record
pub data ObjectOf (s : Ty) : Value → Type 0 where
  of_entity : {u : Uid} → base_of_type s ≡ an_entity → ObjectOf s (VEntity u)
  of_record : {es : Entries} → base_of_type s ≡ a_record → ObjectOf s (VRecord es)

module _ (N : Ty → Type 0) (no_any_entity : N TAnyEntity → ⊥) where
  pub object_of : (s : Ty) (v : Value) → N s → is_object s ≡ true → HasType s v → ObjectOf s v
  object_of (TEntity ps) (VEntity u) k i h = of_entity refl
  object_of (TEntity ps) v k i h = absurd h
  object_of (TRecord xs o) (VRecord es) k i h = of_record refl
  object_of (TRecord xs o) v k i h = absurd h
  object_of TAnyEntity v k i h = absurd (no_any_entity k)
  object_of s v k i h = cc

-- ---- costs

-- the cost of a value of the type s, and of the attributes after it
abbrev pub cost_from : Schema → Ty → Text → List Text → ℕ
cost_from schema s x xs = entity_cost (base_of_type s) + steps_cost schema s x xs

pub declared_cost : (schema : Schema) (s : Ty) (x y : Text) (ys : List Text) (u : Ty) (r : Bool)
    → attribute_type schema s x ≡ Some (u, r)
    → steps_cost schema s x (y ∷ ys) ≡ cost_from schema u y ys
declared_cost schema s x y ys u r f =
    ap (λ z. on_attribute 0 z (λ u. entity_cost (base_of_type u) + steps_cost schema u y ys)) f

-- ---- one step and the rest

-- a test of a value along attributes has one outcome over both stores
abbrev pub IsTestedAlike : Store → Store → Text → List Text → Value → Type 0
IsTestedAlike store part x xs v = path_test part x xs v ≡ path_test store x xs v

module _ (store part : Store) (x y : Text) (ys : List Text) (v : Value)
    (same : IsSameValueIn part store v) where
  later_alike : (o : Outcome) → OnValue (IsTestedAlike store part y ys) o
      → then_test o (path_test part y ys) ≡ then_test o (path_test store y ys)
  later_alike (Gives w) h = h
  later_alike (Fails f) h = refl

  step_alike : OnValue (IsTestedAlike store part y ys) (get store x v)
      → IsTestedAlike store part x (y ∷ ys) v
  step_alike h =
      (λ j. and_test (has_alike store part x v same j)
      (then_test (get_alike store part x v same j) (path_test part y ys)))
      ∙ ap (λ t. and_test (has_test store x v) t) (later_alike (get store x v) h)

  absent_alike : has_test store x v ≡ Says false → IsTestedAlike store part x (y ∷ ys) v
  absent_alike f =
      (λ j. and_test ((has_alike store part x v same ∙ f) j)
      (then_test (get_alike store part x v same j) (path_test part y ys)))
      ∙ sym (ap (λ t. and_test t (then_test (get store x v) (path_test store y ys))) f)

module _ (q : Request) (store part : Store) (n : ℕ) (P : ℕ → Uid → Type 0)
    (a : Agrees q store part n P) (env : TypeEnv) (N : Ty → Type 0)
    (kept : AreKept env store N) (total : is_partial env.mode ≡ false)
    (prior : Caps) (t : Ty) (c : Caps) where
  abbrev IsAlike : Text → List Text → Value → Type 0
  IsAlike = IsTestedAlike store part

  -- both ways of a step: the attribute cannot be there, or the rest has one outcome over both
  -- stores
  pub by_step : (l l' : Option Loc) (y : Text) (ys : List Text) (e : Source) (s : Ty) (x : Text)
      (p : Progress) (v : Value) → N s → HasType s v
      → chain env l l' prior (y ∷ ys) e s x p ≡ gives t c → IsSameValueIn part store v
      → (GoesOn env l' prior y ys e s x t c → OnValue (IsAlike y ys) (get store x v))
      → IsAlike x (y ∷ ys) v
  by_step l l' y ys e s x p v i h d same rest =
      elim (step_goes_on env total prior t c e s x p l l' y ys d) [
        | inl f ↦
            let o = step_object env total prior t c l l' (y ∷ ys) e s x p d in
            absent_alike store part x y ys v same (kept.absent s x v i o h f)
        | inr g ↦ step_alike store part x y ys v same (rest g)
      ]

  -- ---- from a value whose ids are reached, with steps left for the cost

  pub reached_path : (l l' : Option Loc) (xs : List Text) (e : Source) (s : Ty) (x : Text)
      (p : Progress) (v : Value) (k : ℕ) → N s → HasType s v
      → chain env l l' prior xs e s x p ≡ gives t c
      → Selected (P k) [] v → k + cost_from env.schema s x xs ≤ n → IsAlike x xs v
  reached_path l l' [] e s x p v k i h d ids le =
      last v
      (object_of N kept.no_any_entity s v i (step_object env total prior t c l l' [] e s x p d) h)
      ids
    where
      last : (v : Value) → ObjectOf s v → Selected (P k) [] v
          → has_test part x v ≡ has_test store x v
      last v (of_entity {u = u} b) ids =
          let f : k + (1 + 0) ≤ n = subst (λ z. k + (entity_cost z + 0) ≤ n) b le in
          has_alike store part x (VEntity u)
          (a.same k u (select_entity (P k) [] u ids) (omega arith))
      last v (of_record b) ids = refl
  reached_path l l' (y ∷ ys) e s x p v k i h d ids le =
      by v
      (object_of N kept.no_any_entity s v i
      (step_object env total prior t c l l' (y ∷ ys) e s x p d) h) h ids
      (λ g w j. reached_path l' l' ys (made_up e x) g.attribute y g.progress w j)
    where
      by : (v : Value) → ObjectOf s v → HasType s v → Selected (P k) [] v
          → ((g : GoesOn env l' prior y ys e s x t c) (w : Value) (j : ℕ) → N g.attribute
          → HasType g.attribute w
          → chain env l' l' prior ys (made_up e x) g.attribute y g.progress ≡ gives t c
          → Selected (P j) [] w → j + cost_from env.schema g.attribute y ys ≤ n → IsAlike y ys w)
          → IsAlike x (y ∷ ys) v
      by v (of_entity {u = u} b) h ids rest =
          let f : k + (1 + steps_cost env.schema s x (y ∷ ys)) ≤ n =
          subst (λ z. k + (entity_cost z + steps_cost env.schema s x (y ∷ ys)) ≤ n) b le in
          let reached = select_entity (P k) [] u ids in
          by_step l l' y ys e s x p (VEntity u) i h d (a.same k u reached (omega arith))
          (λ g.
          let cost = declared_cost env.schema s x y ys g.attribute g.required g.declared in
          let f' : k + (1 + cost_from env.schema g.attribute y ys) ≤ n =
          subst (λ z. k + (1 + z) ≤ n) cost f in
          let next = kept.attribute s g.attribute g.required x i g.declared in
          both_on (get store x (VEntity u))
          (λ w m o. rest g w (suc k) next m g.rest o (omega arith))
          (kept.typed s g.attribute g.required x (VEntity u) i h g.declared)
          (entity_got q store part n P a x k [] u reached (entity_at store u) refl))
      by v (of_record {es = es} b) h ids rest =
          let f : k + (0 + steps_cost env.schema s x (y ∷ ys)) ≤ n =
          subst (λ z. k + (entity_cost z + steps_cost env.schema s x (y ∷ ys)) ≤ n) b le in
          by_step l l' y ys e s x p (VRecord es) i h d tt
          (λ g.
          let cost = declared_cost env.schema s x y ys g.attribute g.required g.declared in
          let f' : k + (0 + cost_from env.schema g.attribute y ys) ≤ n =
          subst (λ z. k + (0 + z) ≤ n) cost f in
          let next = kept.attribute s g.attribute g.required x i g.declared in
          both_on (get store x (VRecord es))
          (λ w m o. rest g w k next m g.rest o (omega arith))
          (kept.typed s g.attribute g.required x (VRecord es) i h g.declared)
          (attribute_ids (P k) [] (entry_at x es) (entry_ids (P k) x es ids)))
