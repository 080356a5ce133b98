-- A part of a store that holds the slice of n steps agrees with the store on each entity that is
-- reached in fewer than n steps; the slice is such a part itself.
use Rattle.std.proofs.Common.{◌≡◌, ℕ, zero, suc, ◌≤◌, ◌<◌, Bool, true, false, List, [], ◌∷◌, ◌++◌, Option, Some, None, if◌then◌else◌, cond}
use Rattle.std.proofs.Common.{filter, true≢false, ◌⊎◌, inl, inr, refl, sym, ap, ◌∙◌, subst, arith}
use Rattle.std.proofs.lemmas.Bool.{cases_lt}
use Rattle.cedar_types.specs.Lemmas.Comparisons.{uid_same}
use Rattle.cedar_types.specs.Names.{Text, Uid, uid_eq}
use Rattle.cedar_types.specs.Schemas.{uid_is_among}
use Rattle.cedar_types.specs.Values.Stores.{Entity, Store, entity_at}
use Rattle.cedar_types.specs.Values.{Value, VBool, VLong, VString, VEntity, VSet, VRecord, VExtension}
use Rattle.cedar_typing.specs.Evaluation.Conformance.{IsOneOf}
use Rattle.cedar_typing.specs.Evaluation.World.{Request}
use Rattle.cedar_typing.proofs.Basics.{none_is, or_left, or_right}
use Rattle.cedar_typing.proofs.Basics.Members.{AreAll, in_left, in_right, in_flat}
use Rattle.cedar_typechecker.specs.Slices.Reach.{ids_in_entries, ids_of, reach, reach_below, slice, IsPartOf, HoldsSlice, SlicesHold}
use Rattle.cedar_typechecker.proofs.Slices.Ids.{Selected, select_entity}

-- all facts about two stores that the proofs use, where P k u says that u is reached in k steps
pub record Agrees (r : Request) (store part : Store) (n : ℕ) (P : ℕ → Uid → Type 0) :
    Type 0 where
  -- the stores agree on each entity that is reached in fewer than n steps
  pub same : (k : ℕ) (u : Uid) → P k u → k < n → entity_at part u ≡ entity_at store u
  -- the ids that the request holds are reached
  pub principal : (k : ℕ) → P k r.principal
  pub action : (k : ℕ) → P k r.action
  pub resource : (k : ℕ) → P k r.resource
  pub context : (k : ℕ) → AreAll (P k) (ids_in_entries r.context)
  -- the ids that an entity holds are reached in one step more
  pub attributes : (k : ℕ) (u : Uid) (e : Entity) → P k u → entity_at store u ≡ Some e
      → AreAll (P (suc k)) (ids_in_entries e.attributes)
  pub tags : (k : ℕ) (u : Uid) (e : Entity) → P k u → entity_at store u ≡ Some e
      → AreAll (P (suc k)) (ids_in_entries e.tags)

-- ---- one value

-- both stores agree on the value, if it is an entity
abbrev pub IsSameValueIn : Store → Store → Value → Type 0
IsSameValueIn part store (VBool b) = Unit {0}
IsSameValueIn part store (VLong n) = Unit {0}
IsSameValueIn part store (VString t) = Unit {0}
IsSameValueIn part store (VEntity u) = entity_at part u ≡ entity_at store u
IsSameValueIn part store (VSet vs) = Unit {0}
IsSameValueIn part store (VRecord es) = Unit {0}
IsSameValueIn part store (VExtension n t) = Unit {0}

module _ (r : Request) (store part : Store) (n : ℕ) (P : ℕ → Uid → Type 0)
    (a : Agrees r store part n P) where
  pub same_value : (k : ℕ) → k < n → (path : List Text) (v : Value) → Selected (P k) path v
      → IsSameValueIn part store v
  same_value k lt path (VEntity u) h = a.same k u (select_entity (P k) path u h) lt
  same_value k lt path v h = tt

-- ---- by the slice

pub is_among : (us : List Uid) (u : Uid) → IsOneOf u us → uid_is_among us u ≡ true
is_among [] u h = absurd h
is_among (v ∷ us) u (inl e) =
    or_left (uid_eq u v) (uid_is_among us u)
    (subst (λ z. uid_eq u z ≡ true) e (uid_same.itself u))
is_among (v ∷ us) u (inr h) = or_right (uid_eq u v) (uid_is_among us u) (is_among us u h)

-- an id that is reached in j steps is reached in fewer than k, if j is below k
reached_below : (r : Request) (store : Store) (j k : ℕ) (u : Uid) → j < k
    → IsOneOf u (reach r store j) → IsOneOf u (reach_below r store k)
reached_below r store j zero u lt h = absurd (omega arith)
reached_below r store j (suc k) u lt h =
    by (λ l. reached_below r store j k u l h) (cases_lt j k)
  where
    by : (j < k → IsOneOf u (reach_below r store k)) → (j < k) ⊎ (k ≤ j)
        → IsOneOf u (reach_below r store (suc k))
    by f (inl l) = in_left u (reach_below r store k) (reach r store k) (f l)
    by f (inr l) =
        let e : j ≡ k = omega arith in
        in_right u (reach_below r store k) (reach r store k)
        (subst (λ i. IsOneOf u (reach r store i)) e h)

module _ (p : Uid → Bool) where
  -- the entries that pass
  abbrev passing : Store → Store
  passing es = filter (λ e. p e.0) es

  passing_first : (e : Uid × Entity) (es : Store) (u : Uid) → p u ≡ true
      → entity_at (passing es) u ≡ entity_at es u
      → (b : Bool) → p e.0 ≡ b → (c : Bool) → uid_eq u e.0 ≡ c
      → entity_at (cond b (e ∷ passing es) (passing es)) u
      ≡ (if c then Some e.1 else entity_at es u)
  passing_first e es u h rest true q c f =
      (λ i. if f i then Some e.1 else entity_at (passing es) u)
      ∙ ap (λ o. if c then Some e.1 else o) rest
  passing_first e es u h rest false q true f =
      let g : p e.0 ≡ true = subst (λ z. p z ≡ true) (uid_same.to u e.0 f) h in
      absurd (true≢false (sym g ∙ q))
  passing_first e es u h rest false q false f = rest

  passing_at : (es : Store) (u : Uid) → p u ≡ true → entity_at (passing es) u ≡ entity_at es u
  passing_at [] u h = refl
  passing_at (e ∷ es) u h =
      passing_first e es u h (passing_at es u h) (p e.0) refl (uid_eq u e.0) refl

module _ (r : Request) (store part : Store) (n : ℕ) (holds : HoldsSlice r store n part) where
  -- the id is reached in at most k steps
  abbrev pub Within : ℕ → Uid → Type 0
  Within k u = (j : ℕ) × (j ≤ k) × IsOneOf u (reach r store j)

  sliced : (k : ℕ) (u : Uid) → Within k u → k < n
      → entity_at (slice r store n) u ≡ entity_at store u
  sliced k u w l =
      let i : w.0 < n = omega (arith, w.1) in
      passing_at (uid_is_among (reach_below r store n)) store u
      (is_among (reach_below r store n) u (reached_below r store w.0 n u i w.2))

  same_at : (k : ℕ) (u : Uid) → Within k u → k < n → entity_at part u ≡ entity_at store u
  same_at k u w l = by (entity_at store u) refl (entity_at part u) refl
    where
      by : (o : Option Entity) → entity_at store u ≡ o
          → (q : Option Entity) → entity_at part u ≡ q → entity_at part u ≡ entity_at store u
      by (Some e) f q g = holds.of_slice u e (sliced k u w l ∙ f) ∙ sym f
      by None f None g = g ∙ sym f
      by None f (Some e) g = absurd (none_is (sym f ∙ holds.of_store u e g))

  at_once : (k : ℕ) (u : Uid) → IsOneOf u (reach r store 0) → Within k u
  at_once k u h = (0, omega arith, h)

  held : (k : ℕ) (u : Uid) (e : Entity) → Within k u → entity_at store u ≡ Some e
      → AreAll (Within (suc k)) (ids_in_entries e.attributes ++ ids_in_entries e.tags)
  held k u e w f v h = (
    suc w.0,
    omega (arith, w.1),
    in_flat (λ u. ids_of (entity_at store u)) v u (reach r store w.0) w.2
        (subst (λ o. IsOneOf v (ids_of o)) (sym f) h),
  )

  pub agrees : Agrees r store part n Within
  agrees = record {
    same = same_at;
    principal = λ k. at_once k r.principal (inl refl);
    action = λ k. at_once k r.action (inr (inl refl));
    resource = λ k. at_once k r.resource (inr (inr (inl refl)));
    context = λ k u h. at_once k u (inr (inr (inr h)));
    attributes = λ k u e w f v h.
        held k u e w f v (in_left v (ids_in_entries e.attributes) (ids_in_entries e.tags) h);
    tags = λ k u e w f v h.
        held k u e w f v (in_right v (ids_in_entries e.attributes) (ids_in_entries e.tags) h);
  }

-- ---- the slice is a part

module _ (p : Uid → Bool) where
  first_passes : (e : Uid × Entity) (es : Store) (u : Uid) (x : Entity)
      → (entity_at (passing p es) u ≡ Some x → p u ≡ true)
      → (b : Bool) → p e.0 ≡ b → (c : Bool) → uid_eq u e.0 ≡ c
      → entity_at (cond b (e ∷ passing p es) (passing p es)) u ≡ Some x → p u ≡ true
  first_passes e es u x g true q true k h =
      subst (λ z. p z ≡ true) (sym (uid_same.to u e.0 k)) q
  first_passes e es u x g true q false k h =
      g (subst (λ c. (if c then Some e.1 else entity_at (passing p es) u) ≡ Some x) k h)
  first_passes e es u x g false q c k h = g h

  -- an id with an entry among those that pass passes too
  pub passes : (es : Store) (u : Uid) (x : Entity) → entity_at (passing p es) u ≡ Some x
      → p u ≡ true
  passes [] u x h = absurd (none_is h)
  passes (e ∷ es) u x h =
      first_passes e es u x (passes es u x) (p e.0) refl (uid_eq u e.0) refl h

  passing_is_part : (es : Store) → IsPartOf (passing p es) es
  passing_is_part es u x h = sym (passing_at p es u (passes es u x h)) ∙ h

pub slices_hold : SlicesHold
slices_hold r store n =
    let part = passing_is_part (uid_is_among (reach_below r store n)) store in (
      record { of_store = part; of_slice = λ u e h. h },
      record { of_store = λ u e h. h; of_slice = part },
    )
