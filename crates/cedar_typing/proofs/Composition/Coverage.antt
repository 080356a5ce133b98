-- Coverage: if the scope is true, the slots are bound to entities of types that the slots are
-- linked to.
use Rattle.std.proofs.Common.{◌≡◌, inl, inr, Bool, true, false, true≢false, ◌&&◌, ◌||◌, if◌then◌else◌, List, [], ◌∷◌, filter, Option, Some, None, refl, sym, ◌∙◌, ap, subst}
use Rattle.std.specs.List.{list_all, list_any}
use Rattle.cedar_types.specs.declared.base.location.Loc.{Loc}
use Rattle.cedar_types.specs.declared.base.expressions.operators.BinaryOp.{BinaryOp}
use Rattle.cedar_types.specs.declared.base.expressions.operators.Var.{Var}
use Rattle.cedar_types.specs.declared.base.names.slots.SlotId.{SlotId}
use Rattle.cedar_types.specs.Lemmas.Comparisons.{and_left, and_right, path_same, uid_same}
use Rattle.cedar_types.specs.Names.{Path, Uid, is_action_path, path_eq, uid_eq}
use Rattle.cedar_types.specs.Schemas.{TypeKind, StandardKind, EnumKind, ExternalKind, DeclaredType, DeclaredAction, Schema, Application, is_among, uid_is_among, is_external_kind, knows_type, declares_type, type_named, descendants_of, application_is_known, names_pass, has_fault, type_is_known}
use Rattle.cedar_types.specs.Environments.{DeclaredEnv, principal_environments, action_environments, environments_of}
use Rattle.cedar_types.specs.Environments.RequestEnvs.{Declared}
use Rattle.cedar_types.specs.Templates.{to_entity, to_slot, Scope, any, equal, within, typed, typed_within, typed_at, scope_at, action_scope_at}
use Rattle.cedar_types.specs.Values.{Value, VBool, VEntity}
use Rattle.cedar_types.specs.Values.Stores.{Entity, Store, entity_at, FitsDeclaration, FitsKind, ConformingStore}
use Rattle.cedar_types.proofs.Schema.Faultless.{faultless}
use Rattle.cedar_types.specs.Environments.Linking.{types_above, type_names, slot_types, slot_links, names_slot, has_slot}
use Rattle.cedar_typing.specs.Composition.{Coverage, OwnEnvIsCheckedOfTypes, own_link}
use Rattle.cedar_typing.specs.Evaluation.Conformance.{IsOneOf, FitsSlot, has_external}
use Rattle.cedar_typing.specs.Evaluation.Eval.{variable_value, bound_outcome, binary_outcome, has_ancestor, is_in, eval}
use Rattle.cedar_typing.specs.Evaluation.Outcomes.{test_of, of_test, and_test, on_value}
use Rattle.cedar_typing.specs.Evaluation.World.{World, Outcome, Gives, Fails}
use Rattle.cedar_typing.specs.Soundness.{IsTrueOutcome}
use Rattle.cedar_typing.proofs.Basics.{none_is, some_is, or_cases, neither_left}
use Rattle.cedar_typing.proofs.Basics.Members.{AreAll, in_left, in_right, in_mapped, all_mapped, all_flat, found_in, all_pass, none_passes}
use Rattle.cedar_typing.proofs.Composition.Links.{has_principal, has_resource, is_checked, own_linked}

-- ---- lists

module _ {A : Type 0} (p : A → Bool) where
  in_filter : (x : A) (xs : List A) → IsOneOf x xs → p x ≡ true → IsOneOf x (filter p xs)
  in_filter x [] h e = absurd h
  in_filter x (y ∷ ys) (inl q) e = first (p y) (sym (ap p q) ∙ e)
    where
      first : (b : Bool) → b ≡ true → IsOneOf x (if b then y ∷ filter p ys else filter p ys)
      first true k = inl q
      first false k = cc
  in_filter x (y ∷ ys) (inr h) e = later (p y) (in_filter x ys h e)
    where
      later : (b : Bool) → IsOneOf x (filter p ys) → IsOneOf x (if b then y ∷ filter p ys else filter p ys)
      later true k = inr k
      later false k = k

-- ---- the types of requests are declared

-- the types of the environment's principal and resource are known
abbrev AreKnown : List DeclaredType → DeclaredEnv → Type 0
AreKnown ts d = (knows_type ts d.principal ≡ true) × (knows_type ts d.resource ≡ true)

action_known : (ts : List DeclaredType) (a : DeclaredAction) (x : Option Application) → application_is_known ts x ≡ true
    → AreAll (AreKnown ts) (action_environments a.name x)
action_known ts a None h d k = absurd k
action_known ts a (Some x) h d k =
    let both = and_left (list_all (knows_type ts) x.principals && list_all (knows_type ts) x.resources) (names_pass (knows_type ts) x.context) h in
    let ps = all_pass (knows_type ts) x.principals (and_left (list_all (knows_type ts) x.principals) (list_all (knows_type ts) x.resources) both) in
    let rs = all_pass (knows_type ts) x.resources (and_right (list_all (knows_type ts) x.principals) (list_all (knows_type ts) x.resources) both) in
    all_flat (principal_environments a.name x.context x.resources) (AreKnown ts) x.principals
    (λ p i. all_mapped (AreKnown ts) (λ r. record { principal = p; action = a.name; resource = r; context = x.context }) x.resources
    (λ r j. (ps p i, rs r j))) d k

known_types : (s : Schema) → has_fault s ≡ false → AreAll (AreKnown s.types) (environments_of s.actions)
known_types s f =
    let known = and_right (list_all (type_is_known s.types) s.types)
    (list_all (λ (a : DeclaredAction). application_is_known s.types a.applies_to) s.actions) (faultless s f).known in
    all_flat (λ (a : DeclaredAction). action_environments a.name a.applies_to) (AreKnown s.types) s.actions
    (λ a i. action_known s.types a a.applies_to (all_pass (λ (a : DeclaredAction). application_is_known s.types a.applies_to) s.actions known a i))

-- a known type that no action has is declared
declared_type : (ts : List DeclaredType) (p : Path) → knows_type ts p ≡ true → is_action_path p ≡ false → declares_type ts p ≡ true
declared_type ts p h n = sym (ap (λ b. b || declares_type ts p) n) ∙ h

declared_name : (ts : List DeclaredType) (p : Path) → declares_type ts p ≡ true → IsOneOf p (type_names ts)
declared_name [] p h = cc
declared_name (t ∷ ts) p h =
    or_cases (path_eq p t.name) (declares_type ts p) (IsOneOf p (type_names (t ∷ ts))) (λ e. inl (path_same.to p t.name e))
    (λ e. inr (declared_name ts p e)) h

pub found_type : (ts : List DeclaredType) (p : Path) → declares_type ts p ≡ true → (t : DeclaredType) × (type_named ts p ≡ Some t)
found_type [] p h = cc
found_type (t ∷ ts) p h = go (path_eq p t.name) (found_type ts p) h
  where
    go : (b : Bool) → (declares_type ts p ≡ true → (u : DeclaredType) × (type_named ts p ≡ Some u)) → (b || declares_type ts p) ≡ true
        → (u : DeclaredType) × ((if b then Some t else type_named ts p) ≡ Some u)
    go true f k = (t, refl)
    go false f k = f k

-- ---- the types above

named : (xs : List DeclaredType) (q : Path) (t : DeclaredType) → type_named xs q ≡ Some t → q ≡ t.name
named [] q t e = absurd (none_is e)
named (x ∷ xs) q t e = first (path_eq q x.name) refl (named xs q t) e
  where
    first : (b : Bool) → path_eq q x.name ≡ b → (type_named xs q ≡ Some t → q ≡ t.name)
        → (if b then Some x else type_named xs q) ≡ Some t → q ≡ t.name
    first true k f n = path_same.to q x.name k ∙ ap (λ (y : DeclaredType). y.name) (some_is n)
    first false k f n = f n

-- the type q is above p if p is among the descendants of q
above : (ts : List DeclaredType) (p q : Path) → is_among (descendants_of ts q) p ≡ true → IsOneOf q (types_above ts p)
above ts p q h = go (type_named ts q) refl
  where
    go : (o : Option DeclaredType) → type_named ts q ≡ o → IsOneOf q (types_above ts p)
    go None e =
        let none : is_among (descendants_of ts q) p ≡ false = rw e refl in
        absurd (true≢false (sym h ∙ none))
    go (Some t) e =
        let passes : is_among t.descendants p ≡ true = sym (rw e refl) ∙ h in
        let one : IsOneOf t ts = found_in (λ (t : DeclaredType). path_eq q t.name) ts t e in
        subst (λ z. IsOneOf z (types_above ts p)) (sym (named ts q t e))
        (in_mapped (λ (t : DeclaredType). t.name) t (filter (λ (t : DeclaredType). is_among t.descendants p) ts)
        (in_filter (λ (t : DeclaredType). is_among t.descendants p) t ts one passes))

module _ (s : Schema) (closed : has_external s ≡ false) (store : Store) (conforms : ConformingStore s store)
    (v : Uid) (declared : declares_type s.types v.entity_type ≡ true) where
  -- nothing external
  not_external : (t : DeclaredType) → type_named s.types v.entity_type ≡ Some t → is_external_kind t.kind ≡ false
  not_external t e =
      none_passes (λ (t : DeclaredType). is_external_kind t.kind) s.types
      (neither_left (list_any (λ (t : DeclaredType). is_external_kind t.kind) s.types) _ closed) t
      (found_in (λ (t : DeclaredType). path_eq v.entity_type t.name) s.types t e)

  ancestor_of_kind : (k : TypeKind) (e : Entity) (u : Uid) → is_external_kind k ≡ false → FitsKind s.types v.entity_type k e
      → uid_is_among e.ancestors u ≡ true → IsOneOf u.entity_type (types_above s.types v.entity_type)
  ancestor_of_kind (StandardKind attrs tags) e u n fits h =
      above s.types v.entity_type u.entity_type
      (and_right (declares_type s.types u.entity_type) (is_among (descendants_of s.types u.entity_type) v.entity_type)
      (fits.ancestors u h))
  ancestor_of_kind (EnumKind ids) e u n fits h = absurd (true≢false (sym h ∙ ap (λ vs. uid_is_among vs u) fits.ancestors))
  ancestor_of_kind ExternalKind e u n fits h = absurd (true≢false n)

  -- an ancestor's type is above that of v
  ancestor_above : (u : Uid) (o : Option Entity) → entity_at store v ≡ o → has_ancestor o u ≡ true
      → IsOneOf u.entity_type (types_above s.types v.entity_type)
  ancestor_above u None e h = cc
  ancestor_above u (Some x) e h =
      let t = found_type s.types v.entity_type declared in
      ancestor_of_kind t.0.kind x u (not_external t.0 t.1) (subst (λ o. FitsDeclaration s v o x) t.1 (conforms.entities v x e)) h

  same_type : (u : Uid) → uid_eq v u ≡ true → u.entity_type ≡ v.entity_type
  same_type u e = ap (λ (w : Uid). w.entity_type) (sym (uid_same.to v u e))

  -- each entity that v is in has v's own type, or a type above it
  in_above : (u : Uid) → is_in store v u ≡ true → IsOneOf u.entity_type (slot_types s.types (within to_slot) v.entity_type)
  in_above u h =
      or_cases (uid_eq v u) (has_ancestor (entity_at store v) u) (IsOneOf u.entity_type (slot_types s.types (within to_slot) v.entity_type))
      (λ e. in_right u.entity_type (types_above s.types v.entity_type) (v.entity_type ∷ []) (inl (same_type u e)))
      (λ e. in_left u.entity_type (types_above s.types v.entity_type) (v.entity_type ∷ []) (ancestor_above u (entity_at store v) refl e)) h

  -- ---- the entity that a slot is bound to

  -- the slot is bound to an entity of one of its types
  abbrev IsOfSlotType : Scope → Option Uid → Type 0
  IsOfSlotType c b = (u : Uid) × (b ≡ Some u) × IsOneOf u.entity_type (slot_types s.types c v.entity_type)

  by_test : (f : Value → Outcome) (test : Uid → Bool) (c : Scope) → ((u : Uid) → f (VEntity u) ≡ Gives (VBool (test u)))
      → ((u : Uid) → test u ≡ true → IsOneOf u.entity_type (slot_types s.types c v.entity_type))
      → (b : Option Uid) → IsTrueOutcome (on_value (bound_outcome b) f) → IsOfSlotType c b
  by_test f test c is h None k = absurd k
  by_test f test c is h (Some u) k =
      let passes : test u ≡ true = subst IsTrueOutcome (is u) k in
      (u, refl, h u passes)

  -- a link that fits
  abbrev FittingLink : Bool → Scope → Option Uid → Type 0
  FittingLink has c b = (p : Option Path) × IsOneOf p (slot_links has s.types c v.entity_type) × FitsSlot p b

  pub link_of : (has : Bool) (c : Scope) (b : Option Uid) → (has ≡ true → IsOfSlotType c b) → FittingLink has c b
  link_of false c b h = (None, inl refl, tt)
  link_of true c b h =
      let r = h refl in (
        Some r.0.entity_type,
        in_mapped (λ p. Some p) r.0.entity_type (slot_types s.types c v.entity_type) r.2,
        subst (FitsSlot (Some r.0.entity_type)) (sym r.1) refl,
      )

  -- the scope is true, and the slot of v is b
  module _ (world : World) (at : store ≡ world.store) where
    equal_type : (b : Option Uid)
        → IsTrueOutcome (on_value (bound_outcome b) (binary_outcome world.store world.functions BinaryOp.Eq (VEntity v)))
        → IsOfSlotType (equal to_slot) b
    equal_type =
        by_test (binary_outcome world.store world.functions BinaryOp.Eq (VEntity v)) (uid_eq v) (equal to_slot) (λ u. refl)
        (λ u e. inl (same_type u e))

    within_type : (b : Option Uid)
        → IsTrueOutcome (on_value (bound_outcome b) (binary_outcome world.store world.functions BinaryOp.In (VEntity v)))
        → IsOfSlotType (within to_slot) b
    within_type =
        by_test (binary_outcome world.store world.functions BinaryOp.In (VEntity v)) (is_in world.store v) (within to_slot) (λ u. refl)
        (λ u e. in_above u (subst (λ x. is_in x v u ≡ true) (sym at) e))

-- ---- coverage

left_true : (o p : Outcome) → IsTrueOutcome (of_test (and_test (test_of o) (test_of p))) → IsTrueOutcome o
left_true (Gives (VBool true)) p h = refl
left_true (Gives (VBool false)) p h = absurd (true≢false (sym h))
left_true (Gives v) p h = absurd h
left_true (Fails f) p h = absurd h

right_true : (o p : Outcome) → IsTrueOutcome (of_test (and_test (test_of o) (test_of p))) → IsTrueOutcome p
right_true (Gives (VBool true)) (Gives (VBool b)) h = h
right_true (Gives (VBool true)) (Gives v) h = absurd h
right_true (Gives (VBool true)) (Fails f) h = absurd h
right_true (Gives (VBool false)) p h = absurd (true≢false (sym h))
right_true (Gives v) p h = absurd h
right_true (Fails f) p h = absurd h

-- a variable that is a declared entity
module _ (s : Schema) (closed : has_external s ≡ false) (world : World) (conforms : ConformingStore s world.store) (l : Option Loc)
    (v : Var) (x : SlotId) (own : Uid) (is : VEntity own ≡ variable_value world.request v) (declared : declares_type s.types own.entity_type ≡ true) where
  abbrev SlotTest : BinaryOp → Value → Type 0
  SlotTest op w = IsTrueOutcome (on_value (bound_outcome (world.slots x)) (binary_outcome world.store world.functions op w))

  own_test : (op : BinaryOp) → SlotTest op (variable_value world.request v) → SlotTest op (VEntity own)
  own_test op k = subst (SlotTest op) (sym is) k

  -- the slot is bound to an entity of one of its types, if the variable's constraint names the slot
  -- and is true
  slot_bound : (c : Scope) → names_slot c ≡ true → IsTrueOutcome (eval world (scope_at l v x c))
      → IsOfSlotType s closed world.store conforms own declared c (world.slots x)
  slot_bound any n k = cc
  slot_bound (equal (to_entity u)) n k = cc
  slot_bound (equal to_slot) n k =
      equal_type s closed world.store conforms own declared world refl (world.slots x) (own_test BinaryOp.Eq k)
  slot_bound (within (to_entity u)) n k = cc
  slot_bound (within to_slot) n k =
      within_type s closed world.store conforms own declared world refl (world.slots x) (own_test BinaryOp.In k)
  slot_bound (typed p) n k = cc
  slot_bound (typed_within p (to_entity u)) n k = cc
  slot_bound (typed_within p to_slot) n k =
      within_type s closed world.store conforms own declared world refl (world.slots x)
      (own_test BinaryOp.In (right_true (eval world (typed_at l v p)) _ k))

pub coverage : Coverage
coverage s m t world faults closed alone d one fits not_principal not_resource conforms bound h =
    let known = known_types s faults d one in
    let l = t.place in
    let scope_p = eval world (scope_at l Var.Principal SlotId.Principal t.principal) in
    let scope_a = eval world (action_scope_at l t.action) in
    let scope_r = eval world (scope_at l Var.Resource SlotId.Resource t.resource) in
    let left = left_true (of_test (and_test (test_of scope_p) (test_of scope_a))) scope_r h in
    let declared_p : declares_type s.types world.request.principal.entity_type ≡ true =
    subst (λ p. declares_type s.types p ≡ true) (sym fits.principal) (declared_type s.types d.principal known.0 not_principal) in
    let declared_r : declares_type s.types world.request.resource.entity_type ≡ true =
    subst (λ p. declares_type s.types p ≡ true) (sym fits.resource) (declared_type s.types d.resource known.1 not_resource) in
    let p = link_of s closed world.store conforms world.request.principal declared_p (has_slot SlotId.Principal t) t.principal
    (world.slots SlotId.Principal)
    (λ e. slot_bound s closed world conforms l Var.Principal SlotId.Principal world.request.principal refl declared_p t.principal
    (sym (has_principal t alone) ∙ e) (left_true scope_p scope_a left)) in
    let r = link_of s closed world.store conforms world.request.resource declared_r (has_slot SlotId.Resource t) t.resource
    (world.slots SlotId.Resource)
    (λ e. slot_bound s closed world conforms l Var.Resource SlotId.Resource world.request.resource refl declared_r t.resource
    (sym (has_resource t alone) ∙ e)
    (right_true (of_test (and_test (test_of scope_p) (test_of scope_a))) scope_r h)) in
    let in_p : IsOneOf p.0 (slot_links (has_slot SlotId.Principal t) s.types t.principal d.principal) =
    subst (λ q. IsOneOf p.0 (slot_links (has_slot SlotId.Principal t) s.types t.principal q)) fits.principal p.1 in
    let in_r : IsOneOf r.0 (slot_links (has_slot SlotId.Resource t) s.types t.resource d.resource) =
    subst (λ q. IsOneOf r.0 (slot_links (has_slot SlotId.Resource t) s.types t.resource q)) fits.resource r.1 in
    (Declared d p.0 r.0, is_checked s m t d p.0 r.0 one in_p in_r, (fits, p.2, r.2))

-- ---- the own environment, wherever the slots stand

-- a declared type is among the types of its own slot, whatever the constraint
own_of_declared : (ts : List DeclaredType) (c : Scope) (own : Path) → declares_type ts own ≡ true → IsOneOf own (slot_types ts c own)
own_of_declared ts any own h = declared_name ts own h
own_of_declared ts (equal r) own h = inl refl
own_of_declared ts (within r) own h = in_right own (types_above ts own) (own ∷ []) (inl refl)
own_of_declared ts (typed p) own h = declared_name ts own h
own_of_declared ts (typed_within p r) own h = in_right own (types_above ts own) (own ∷ []) (inl refl)

pub own_env_is_checked_of_types : OwnEnvIsCheckedOfTypes
own_env_is_checked_of_types s m t faults d one not_principal not_resource =
    let known = known_types s faults d one in
    is_checked s m t d (own_link (has_slot SlotId.Principal t) d.principal) (own_link (has_slot SlotId.Resource t) d.resource) one
    (own_linked (has_slot SlotId.Principal t) s.types t.principal d.principal
    (λ e. own_of_declared s.types t.principal d.principal (declared_type s.types d.principal known.0 not_principal)))
    (own_linked (has_slot SlotId.Resource t) s.types t.resource d.resource
    (λ e. own_of_declared s.types t.resource d.resource (declared_type s.types d.resource known.1 not_resource)))
