-- The worlds of the examples conform; and the entries of the parts of their stores.
use Rattle.std.proofs.Common.{◌≡◌, ℕ, inl, Bool, true, false, ◌&&◌, ◌||◌, not, cond, if◌then◌else◌, [], ◌∷◌, Some, None, refl, sym, ◌∙◌}
use Rattle.std.proofs.Common.{subst}
use Rattle.std.specs.Prelude.{IsTrue, List}
use Rattle.cedar_types.specs.declared.base.names.slots.SlotId.{SlotId}
use Rattle.cedar_types.specs.declared.base.types.ValidationMode.{ValidationMode}
use Rattle.cedar_types.specs.Lemmas.Comparisons.{uid_same}
use Rattle.cedar_types.specs.Names.{Path, Uid, uid_eq}
use Rattle.cedar_types.specs.Schemas.{DeclaredType, DeclaredAction, Schema, is_among, uid_is_among, type_named, declares_type, descendants_of}
use Rattle.cedar_types.specs.Values.Stores.{Entity, Store, entity_at, AncestorsFit, FitsStandard, FitsAction, FitsDeclaration}
use Rattle.cedar_types.specs.Values.Stores.{ConformingStore}
use Rattle.cedar_types.specs.Templates.Findings.{unknown_types, unknown_actions}
use Rattle.cedar_types.specs.Templates.{PlainTemplate, condition_of}
use Rattle.cedar_types.specs.Types.{Ty, no_attrs}
use Rattle.cedar_typing.specs.Composition.{SlotsInScopeAlone}
use Rattle.cedar_typing.specs.Evaluation.Conformance.{FitsRequest, IsBound, KeepsTable}
use Rattle.cedar_typing.specs.Evaluation.Eval.{eval}
use Rattle.cedar_typing.specs.Evaluation.World.{World, Failure, Outcome, Gives, Fails}
use Rattle.cedar_types.specs.Values.{Value, VBool}
use Rattle.cedar_typing.specs.Examples.Greeting.{stored_action, sample_functions}
use Rattle.cedar_typing.specs.Examples.NeededPremises.{declared_guest}
use Rattle.cedar_typing.specs.Examples.Permissive.{team, staff}
use Rattle.cedar_typing.specs.Examples.World.{user, a_user, bob}
use Rattle.cedar_typing.specs.Soundness.Policies.{Basis, IsWellFormed, IsConforming}
use Rattle.cedar_typing.specs.Silence.{HasNoUnknowns}
use Rattle.cedar_typing.proofs.Composition.Slots.{slots_bound}
use Rattle.cedar_typing.proofs.Examples.World.{AllEntities, all_found, none_among, only_one, greeting_conforms}
use Rattle.cedar_typechecker.specs.Slices.Examples.World.{page, read, user_attributes, team_attributes, wiki_types, read_context}
use Rattle.cedar_typechecker.specs.Slices.Examples.World.{declared_read, wiki_basis, stored_alice, stored_bob, stored_carol, plain_user}
use Rattle.cedar_typechecker.specs.Slices.Examples.World.{stored_staff, page_guided_by, guided_wiki, wiki_store, staff_slots, reading}
use Rattle.cedar_typechecker.specs.Slices.Examples.World.{slice_of}
use Rattle.cedar_typechecker.specs.Slices.NeededPremises.Differing.{IsAskedCheckerIn, IsAskedIn, IsAskedPolicy, DiffersIn, DiffersInSlice}
use Rattle.cedar_typechecker.specs.Slices.NeededPremises.Parts.{without}
use Rattle.cedar_typechecker.specs.Slices.Reach.{IsPartOf, HoldsSlice}
use Rattle.cedar_typechecker.specs.Slices.Soundness.{with_store}
use Rattle.cedar_typechecker.proofs.Slices.Examples.Modes.{IsFine}

-- ---- the stored entities fit the types of the wiki, and these with one more

module _ (ts : List DeclaredType) where
  -- users may be in the staff
  abbrev pub MayBeAbove : Uid → Type 0
  MayBeAbove v =
      IsTrue (declares_type ts v.entity_type && is_among (descendants_of ts v.entity_type) user)

  in_staff : MayBeAbove staff → AncestorsFit ts user (staff ∷ [])
  in_staff h v i = subst MayBeAbove (sym (uid_same.to v staff (only_one (uid_eq v staff) i))) h

  in_nothing : (p : Path) → AncestorsFit ts p []
  in_nothing p v i = none_among i

  pub alice_fits : MayBeAbove staff
      → FitsStandard ts user user_attributes (Some a_user) stored_alice
  alice_fits h = record {
    attributes = ((tt, (((tt, (refl, tt)), (refl, (refl, tt))), tt)), (refl, (refl, tt)));
    tagged = (refl, tt);
    ancestors = in_staff h;
  }

  pub bob_fits : FitsStandard ts user user_attributes (Some a_user) stored_bob
  bob_fits = record {
    attributes = ((tt, (((tt, (refl, tt)), (refl, (refl, tt))), tt)), (refl, (refl, tt)));
    tagged = tt;
    ancestors = in_nothing user;
  }

  pub carol_fits : FitsStandard ts user user_attributes (Some a_user) stored_carol
  carol_fits = record {
    attributes = ((tt, (refl, tt)), (refl, tt));
    tagged = (refl, tt);
    ancestors = in_nothing user;
  }

  pub user_fits : FitsStandard ts user user_attributes (Some a_user) plain_user
  user_fits =
      record {
        attributes = ((tt, (refl, tt)), (refl, tt));
        tagged = tt;
        ancestors = in_nothing user;
      }

  pub staff_fits : FitsStandard ts team team_attributes None stored_staff
  staff_fits =
      record { attributes = ((refl, tt), (refl, tt)); tagged = refl; ancestors = in_nothing team }

  pub home_fits : FitsStandard ts page no_attrs (Some a_user) (page_guided_by bob)
  home_fits = record { attributes = (tt, tt); tagged = (refl, tt); ancestors = in_nothing page }

abbrev pub Fitting : Schema → Uid → Entity → Type 0
Fitting s u e = FitsDeclaration s u (type_named s.types u.entity_type) e

abbrev pub with_types : List DeclaredType → List DeclaredAction → Schema
with_types ts acts = record { types = ts; actions = acts }

pub wiki_fits : (acts : List DeclaredAction)
    → AllEntities (Fitting (with_types wiki_types acts)) (guided_wiki bob)
wiki_fits acts =
    let ts = wiki_types in (
      home_fits ts,
      (
        alice_fits ts refl,
        (bob_fits ts, (carol_fits ts, (user_fits ts, (user_fits ts, (staff_fits ts, tt))))),
      ),
    )

pub guests_fit : (acts : List DeclaredAction)
    → AllEntities (Fitting (with_types (declared_guest ∷ wiki_types) acts)) (guided_wiki bob)
guests_fit acts =
    let ts = declared_guest ∷ wiki_types in (
      home_fits ts,
      (
        alice_fits ts refl,
        (bob_fits ts, (carol_fits ts, (user_fits ts, (user_fits ts, (staff_fits ts, tt))))),
      ),
    )

-- ---- a store of a schema with one action, whose entry is empty

no_ancestor : (a : Bool) → false ≡ ((a && false) || false)
no_ancestor true = refl
no_ancestor false = refl

pub read_fits : (p : Path) (c : Ty) → FitsAction (declared_read p c ∷ []) read (stored_action [])
read_fits p c =
    record { attributes = refl; ancestors = λ v. no_ancestor (uid_eq v read); tags = refl }

abbrev pub IsStored : Store → Uid → Type 0
IsStored store u = (e : Entity) × (entity_at store u ≡ Some e)

abbrev pub AllStored : Store → List Uid → Type 0
AllStored store [] = Unit {0}
AllStored store (u ∷ us) = IsStored store u × AllStored store us

-- an id among these is stored, if each of these is
pub among_stored : (store : Store) (us : List Uid) → AllStored store us
    → (v : Uid) → uid_is_among us v ≡ true → IsStored store v
among_stored store [] h v q = none_among q
among_stored store (u ∷ us) h v q = by (uid_eq v u) refl q (λ i. among_stored store us h.1 v i)
  where
    by : (b : Bool) → uid_eq v u ≡ b → (b || uid_is_among us v) ≡ true
        → (uid_is_among us v ≡ true → IsStored store v) → IsStored store v
    by true k i rest = subst (IsStored store) (sym (uid_same.to v u k)) h.0
    by false k i rest = rest i

module _ (ts : List DeclaredType) (p : Path) (c : Ty) (store : Store) where
  pub conforms : AllEntities (Fitting (with_types ts (declared_read p c ∷ []))) store
      → IsStored store read → ConformingStore (with_types ts (declared_read p c ∷ [])) store
  conforms fits there = record {
    entities = λ u e h.
        all_found (Fitting (with_types ts (declared_read p c ∷ []))) store fits u e h;
    actions = λ u h. among_stored store (read ∷ []) (there, tt) u h;
  }

pub wiki_conforms : (p : Path) (c : Ty)
    → ConformingStore (with_types wiki_types (declared_read p c ∷ [])) wiki_store
wiki_conforms p c =
    conforms wiki_types p c wiki_store
    ((refl, read_fits p c), wiki_fits (declared_read p c ∷ [])) (_, refl)

-- ---- the premises

pub sample_kept : (m : ValidationMode) → KeepsTable (wiki_basis m).table sample_functions
sample_kept m = record {
  returns = greeting_conforms.functions.returns;
  overloaded_types = greeting_conforms.functions.overloaded_types;
}

pub reads : FitsRequest
    (record { principal = user; action = read; resource = page; context = read_context })
    reading.request
reads = record {
  principal = refl;
  action = refl;
  resource = refl;
  context = ((refl, (tt, tt)), (refl, (refl, tt)));
}

pub wiki_checker : (m : ValidationMode) → IsAskedCheckerIn m (wiki_basis m)
wiki_checker m = record {
  faultless = refl;
  formed = refl;
  faultless_functions = refl;
  mode = refl;
  closed = refl;
}

pub reading_conforms : (m : ValidationMode) → IsConforming (wiki_basis m) reading
reading_conforms m = record {
  request = (_, inl refl, reads);
  store = wiki_conforms page read_context;
  functions = sample_kept m;
}

pub reading_asked : (m : ValidationMode) → IsAskedIn m (wiki_basis m) reading
reading_asked m = record { checker = wiki_checker m; conforming = reading_conforms m }

pub staff_bound : (x : SlotId) → IsBound (staff_slots x)
staff_bound x = tt

pub formed : (t : PlainTemplate) → HasNoUnknowns (condition_of t) → SlotsInScopeAlone t
    → IsWellFormed t staff_slots
formed t u a = record {
  no_unknowns = u;
  slots_in_scope = a;
  bound = slots_bound staff_slots staff_bound (condition_of t);
}

-- the premises on a policy, in a world whose slots are bound to the staff
pub policy_asked : (b : Basis) (t : PlainTemplate) (world : World) → world.slots ≡ staff_slots
    → unknown_types b.schema t ≡ [] → unknown_actions b.schema t ≡ []
    → HasNoUnknowns (condition_of t) → SlotsInScopeAlone t → IsAskedPolicy b t world
policy_asked b t world q types actions u a = record {
  named = record { types = types; actions = actions };
  well_formed = subst (IsWellFormed t) (sym q) (formed t u a);
}

-- ---- parts of stores

-- each entry of the part is the one that the store has of its entity
abbrev pub AreStoredIn : Store → Store → Type 0
AreStoredIn store part = AllEntities (λ u e. entity_at store u ≡ Some e) part

-- entries that are so stored are a part of the store
pub listed : (part store : Store) → AreStoredIn store part → IsPartOf part store
listed part store h u e q = all_found (λ u e. entity_at store u ≡ Some e) part h u e q

-- a slice is a part that holds itself
pub held : (world : World) (n : ℕ) → AreStoredIn world.store (slice_of world n)
    → HoldsSlice world.request world.store n (slice_of world n)
held world n h =
    record { of_store = listed (slice_of world n) world.store h; of_slice = λ u e i. i }

module _ (v : Uid) where
  first_without : (e : Uid × Entity) (es : Store) (u : Uid) → (u ≡ v → ⊥)
      → entity_at (without v es) u ≡ entity_at es u
      → (b : Bool) → uid_eq v e.0 ≡ b → (c : Bool) → uid_eq u e.0 ≡ c
      → entity_at (cond (not b) (e ∷ without v es) (without v es)) u
      ≡ (if c then Some e.1 else entity_at es u)
  first_without e es u n rest true q true k =
      absurd (n (uid_same.to u e.0 k ∙ sym (uid_same.to v e.0 q)))
  first_without e es u n rest true q false k = rest
  first_without e es u n rest false q c k = λ i. if k i then Some e.1 else rest i

  -- a store without one entity agrees on each other one
  pub without_at : (store : Store) (u : Uid) → (u ≡ v → ⊥)
      → entity_at (without v store) u ≡ entity_at store u
  without_at [] u n = refl
  without_at (e ∷ es) u n =
      first_without e es u n (without_at es u n) (uid_eq v e.0) refl (uid_eq u e.0) refl

  -- a store with another entry for one entity agrees on each other one too
  pub with_other : (e : Entity) (store : Store) (u : Uid) → (u ≡ v → ⊥)
      → entity_at ((v, e) ∷ store) u ≡ entity_at store u
  with_other e store u n = by (uid_eq u v) refl
    where
      by : (b : Bool) → uid_eq u v ≡ b
          → (if b then Some e else entity_at store u) ≡ entity_at store u
      by true q = absurd (n (uid_same.to u v q))
      by false q = refl

-- ---- outcomes that differ

pub fails_or_gives : (f : Failure) (v : Value) → Fails f ≡ Gives v → ⊥
fails_or_gives f v h = cc

pub gives_or_fails : (v : Value) (f : Failure) → Gives v ≡ Fails f → ⊥
gives_or_fails v f h = cc

pub false_or_true : Gives (VBool false) ≡ Gives (VBool true) → ⊥
false_or_true h = cc

pub differs : (t : PlainTemplate) (world : World) (part : Store) (o o' : Outcome)
    → eval (with_store world part) (condition_of t) ≡ o → eval world (condition_of t) ≡ o'
    → (o ≡ o' → ⊥) → DiffersIn t world part o o'
differs t world part o o' p q n =
    record { of_part = p; of_store = q; broken = λ h. n (sym p ∙ (h ∙ q)) }

-- a policy that meets all premises differs over the slice
pub differs_in_slice : (Passed : Basis → PlainTemplate → Type 0) (b : Basis) (t : PlainTemplate)
    (n : ℕ) (world : World) (o o' : Outcome)
    → IsAskedPolicy b t world → AreStoredIn world.store (slice_of world n)
    → eval (with_store world (slice_of world n)) (condition_of t) ≡ o
    → eval world (condition_of t) ≡ o' → (o ≡ o' → ⊥) → IsFine Passed b t n
    → DiffersInSlice Passed b t n world o o'
differs_in_slice Passed b t n world o o' policy stored p q apart fine = record {
  policy = policy;
  passes = fine.0;
  within = fine.1;
  held = held world n stored;
  differs = differs t world (slice_of world n) o o' p q apart;
}
