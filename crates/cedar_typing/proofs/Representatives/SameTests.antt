-- If the scope admits neither of two actions, its first tests are typed in the same way in both environments.
use Rattle.std.proofs.Common.{◌≡◌, ℕ, ◌+◌, Bool, true, false, ◌||◌, if◌then◌else◌, List, [], ◌∷◌, map, Option, Some, None, refl, sym, ◌∙◌, ap}
use Rattle.std.specs.List.{list_any, list_all}
use Rattle.cedar_types.specs.declared.base.expressions.operators.BinaryOp.{BinaryOp}
use Rattle.cedar_types.specs.declared.base.expressions.operators.Var.{Var}
use Rattle.cedar_types.specs.declared.base.location.Loc.{Loc}
use Rattle.cedar_types.specs.declared.base.names.slots.SlotId.{SlotId}
use Rattle.cedar_types.specs.declared.base.types.BoolType.TheVariants.{AnyBool, False}
use Rattle.cedar_types.specs.Environments.{DeclaredEnv}
use Rattle.cedar_types.specs.Environments.Representatives.{admits, IsLeftOut, SamePrincipal}
use Rattle.cedar_types.specs.Environments.RequestEnvs.{Env, Declared, Undeclared, principal_ty, action_ty, is_partial}
use Rattle.cedar_types.specs.Expressions.Tree.{var, slot, binary, set_of, Trees}
use Rattle.cedar_types.specs.Expressions.View.{of_type, Written, trees_of}
use Rattle.cedar_types.specs.Names.{Path, Uid, PlacedType, PlacedUid, uid_eq, is_action_path}
use Rattle.cedar_types.specs.Schemas.{DeclaredAction, Schema, declares_action, declares_type}
use Rattle.cedar_types.specs.Templates.{Reference, to_entity, to_slot, Scope, any, equal, within, typed, typed_within, ActionScope}
use Rattle.cedar_types.specs.Templates.{any_action, equal_action, within_actions, PlainTemplate, made, uid_at, reference_at, scope_at}
use Rattle.cedar_types.specs.Templates.{typed_at, equal_at, within_at, action_scope_at}
use Rattle.cedar_types.specs.Types.{Ty, TBool, TEntity}
use Rattle.cedar_types.specs.Types.Lookups.{literal_type}
use Rattle.cedar_typing.specs.Capabilities.{Caps, no_caps}
use Rattle.cedar_typing.specs.Composition.{in_env}
use Rattle.cedar_typing.specs.Eager.{Expectation, gives, refuses, first_expectation, later_expectations, first_type, second_type, first_tree, second_tree}
use Rattle.cedar_typing.specs.Infer.{unless_too_deep, infer, infer_within, infer_all}
use Rattle.cedar_typing.specs.Infer.Eager.{infer_eager}
use Rattle.cedar_typing.specs.Infer.Leaves.{infer_leaf}
use Rattle.cedar_typing.specs.Infer.Parts.{after}
use Rattle.cedar_typing.specs.PolicyCheck.{out_verdict, policy_check}
use Rattle.cedar_typing.specs.Representatives.{first_tests}
use Rattle.cedar_typing.specs.Rules.Binary.{binary_form}
use Rattle.cedar_typing.specs.Rules.Equality.{are_apart, literal_of, equality_form}
use Rattle.cedar_typing.specs.Rules.Leaves.{linked_ty, slot_ty, bool_ty}
use Rattle.cedar_typing.specs.Rules.Membership.{is_action, entities_of, ancestors_of, with_entity, is_action_in, only_actions, entity_decides, in_decides, in_form}
use Rattle.cedar_typing.specs.Rules.ShortCircuit.{conjunction}
use Rattle.cedar_typing.specs.Rules.Unary.{is_form}
use Rattle.cedar_typing.specs.Setting.{Setting}
use Rattle.cedar_typing.specs.TypeTests.{bool_types, entity_types, ancestor_types}
use Rattle.cedar_typing.specs.TypedExpr.{Source, place_of}
use Rattle.cedar_typing.proofs.Basics.{neither_left, neither_right}
use Rattle.cedar_typing.proofs.Composition.SameForms.{one, other, expect_same, more_same, one_same, two_same, right_same, set_form_same}
use Rattle.cedar_typing.proofs.Composition.SameForms.{in_same, equal_decided, equal_same}

-- ---- entities that name neither action

-- a test that fails for all of some entities fails for all actions among them
one_less : (p : Uid → Bool) (v : Uid) (vs : List Uid) (b : Bool) → p v ≡ false → list_any p vs ≡ false
    → list_any p (if b then v ∷ vs else vs) ≡ false
one_less p v vs true h k = λ i. h i || k i
one_less p v vs false h k = k

pub none_of_actions : (p : Uid → Bool) (vs : List Uid) → list_any p vs ≡ false → list_any p (only_actions vs) ≡ false
none_of_actions p [] h = refl
none_of_actions p (v ∷ vs) h =
    one_less p v (only_actions vs) (is_action v) (neither_left (p v) (list_any p vs) h)
    (none_of_actions p vs (neither_right (p v) (list_any p vs) h))

module _ (s : Setting) (here elsewhere : Env) (l : Option Loc) where
  abbrev s1 : Setting
  s1 = one s here elsewhere

  abbrev s2 : Setting
  s2 = other s here elsewhere

  -- ---- the principal's test

  module _ (typed_same : principal_ty here ≡ principal_ty elsewhere)
      (linked_same : slot_ty here SlotId.Principal ≡ slot_ty elsewhere SlotId.Principal) where
    -- the variable, and the expression with which it is compared, have the same answers at any depth
    variable : (prior : Caps) (k : ℕ) → infer_within s1 (var (made l) Var.Principal) prior k ≡ infer_within s2 (var (made l) Var.Principal) prior k
    variable prior k = λ i es. (infer_leaf (Some (typed_same i)) (made l) (λ q. var q Var.Principal), es)

    abbrev named : Reference → Source
    named r = reference_at l SlotId.Principal r

    reference : (r : Reference) (prior : Caps) (k : ℕ) → infer_within s1 (named r) prior k ≡ infer_within s2 (named r) prior k
    reference (to_entity u) prior k = refl
    reference to_slot prior k = λ i es. (infer_leaf (Some (linked_same i)) (made l) (λ q. slot q SlotId.Principal), es)

    literal : (r : Reference) → literal_of here (named r) ≡ literal_of elsewhere (named r)
    literal (to_entity u) = refl
    literal to_slot = refl

    ancestors : (r : Reference) → ancestors_of here (named r) ≡ ancestors_of elsewhere (named r)
    ancestors (to_entity u) = refl
    ancestors to_slot = refl

    -- a test in two environments with the same form has the same answer
    same_test : (op : BinaryOp) (r : Reference) (prior : Caps) (k : ℕ)
        → binary_form s1.env (made l) prior (var (made l) Var.Principal) (named r) op
        ≡ binary_form s2.env (made l) prior (var (made l) Var.Principal) (named r) op
        → infer_within s1 (binary (made l) op (var (made l) Var.Principal) (named r)) prior k
        ≡ infer_within s2 (binary (made l) op (var (made l) Var.Principal) (named r)) prior k
    same_test op r prior k form =
        λ i. two_same s here elsewhere (form i) l (place_of (named r)) (λ es. unless_too_deep (k + 1) es (variable prior (k + 1) i es))
        (λ es. unless_too_deep (k + 1) es (reference r prior (k + 1) i es)) i

    is_equal : (r : Reference) (prior : Caps) (k : ℕ)
        → infer_within s1 (equal_at l Var.Principal (named r)) prior k ≡ infer_within s2 (equal_at l Var.Principal (named r)) prior k
    is_equal r prior k =
        same_test BinaryOp.Eq r prior k (equal_same s here elsewhere (made l) (var (made l) Var.Principal) (named r) refl (literal r))

    is_in : (r : Reference) (prior : Caps) (k : ℕ)
        → infer_within s1 (within_at l Var.Principal (named r)) prior k ≡ infer_within s2 (within_at l Var.Principal (named r)) prior k
    is_in r prior k =
        same_test BinaryOp.In r prior k (in_same s here elsewhere (made l) (var (made l) Var.Principal) (named r) refl (ancestors r))

    abbrev written_at : PlacedType → Written
    written_at t = record { place = l; names = of_type t.place }

    is_typed : (t : PlacedType) (prior : Caps) (k : ℕ)
        → infer_within s1 (typed_at l Var.Principal t) prior k ≡ infer_within s2 (typed_at l Var.Principal t) prior k
    is_typed t prior k =
        λ i. one_same s here elsewhere (is_form (written_at t) t.name) l
        (λ es. unless_too_deep (k + 1) es (variable prior (k + 1) i es)) i

    pub principal : (c : Scope) (prior : Caps) (k : ℕ)
        → infer_within s1 (scope_at l Var.Principal SlotId.Principal c) prior k ≡ infer_within s2 (scope_at l Var.Principal SlotId.Principal c) prior k
    principal any prior k = refl
    principal (equal r) prior k = is_equal r prior k
    principal (within r) prior k = is_in r prior k
    principal (typed t) prior k = is_typed t prior k
    principal (typed_within t r) prior k =
        λ i es. after (expect_same s here elsewhere bool_types l (unless_too_deep (k + 1) es (is_typed t prior (k + 1) i es)) i)
        (λ q es'. right_same s here elsewhere conjunction (made l) l prior q es'
        (λ known es''. unless_too_deep (k + 1) es'' (is_in r known (k + 1) i es'')) i)

-- ---- the action's test

module _ (s : Setting) (d d' : DeclaredEnv) (p r p' r' : Option Path) (l : Option Loc)
    (typed_same : action_ty s.env.schema (Declared d p r) ≡ action_ty s.env.schema (Declared d' p' r'))
    (kind_same : is_action d.action ≡ is_action d'.action) where
  abbrev here : Env
  here = Declared d p r

  abbrev elsewhere : Env
  elsewhere = Declared d' p' r'

  abbrev t1 : Setting
  t1 = one s here elsewhere

  abbrev t2 : Setting
  t2 = other s here elsewhere

  abbrev acts : List DeclaredAction
  acts = s.env.schema.actions

  action_variable : (prior : Caps) (k : ℕ) → infer_within t1 (var (made l) Var.Action) prior k ≡ infer_within t2 (var (made l) Var.Action) prior k
  action_variable prior k = λ i es. (infer_leaf (typed_same i) (made l) (λ q. var q Var.Action), es)

  -- `action == u`, for a u that is neither action
  compared : (u : PlacedUid) → uid_eq d.action u.uid ≡ false → uid_eq d'.action u.uid ≡ false
      → equality_form t1.env (made l) (var (made l) Var.Action) (uid_at l u) ≡ equality_form t2.env (made l) (var (made l) Var.Action) (uid_at l u)
  compared u h h' = λ i. record {
    at = made l;
    expects = [];
    goes_on = true;
    decides =
        λ ts. equal_decided s here elsewhere l
        (if are_apart (first_type ts) (second_type ts) then TBool False else bool_ty ((h ∙ sym h') i)) (first_type ts) (second_type ts) i;
    type_if_failed = λ t. t;
    at_limit = λ ts. [];
    node = λ q xs. binary q BinaryOp.Eq (first_tree xs) (second_tree xs);
  }

  is_equal_action : (u : PlacedUid) → uid_eq d.action u.uid ≡ false → uid_eq d'.action u.uid ≡ false → (prior : Caps) (k : ℕ)
      → infer_within t1 (equal_at l Var.Action (uid_at l u)) prior k ≡ infer_within t2 (equal_at l Var.Action (uid_at l u)) prior k
  is_equal_action u h h' prior k =
      λ i. two_same s here elsewhere (compared u h h' i) l l
      (λ es. unless_too_deep (k + 1) es (action_variable prior (k + 1) i es)) (λ es. infer t1 (uid_at l u) prior (k + 1) es) i

  -- `action in [..]`, for actions that are in none of these

  abbrev listed : List PlacedUid → Trees Written
  listed us = trees_of (map (uid_at l) us)

  entities_here : (us : List PlacedUid) → entities_of here (listed us) ≡ Some (map (λ u. u.uid) us)
  entities_here [] = refl
  entities_here (u ∷ us) = λ i. with_entity (Some u.uid) (entities_here us i)

  entities_elsewhere : (us : List PlacedUid) → entities_of elsewhere (listed us) ≡ Some (map (λ u. u.uid) us)
  entities_elsewhere [] = refl
  entities_elsewhere (u ∷ us) = λ i. with_entity (Some u.uid) (entities_elsewhere us i)

  decided : (vs : List Uid) → is_action_in acts d.action vs ≡ false → is_action_in acts d'.action vs ≡ false → (t u : Option Ty)
      → in_decides t1.env (Some d.action) (Some vs) t u ≡ in_decides t2.env (Some d'.action) (Some vs) t u
  decided vs h h' t u =
      let below : is_action_in acts d.action (only_actions vs) ≡ is_action_in acts d'.action (only_actions vs) =
      none_of_actions _ vs h ∙ sym (none_of_actions _ vs h') in
      λ i. if kind_same i then
      (if list_all (declares_action acts) (only_actions vs)
      then gives (bool_ty (below i)) no_caps
      else if is_partial s.env.mode then gives (TBool AnyBool) no_caps
      else refuses (Some (TBool AnyBool)) [])
      else entity_decides t1.env t u

  decided_of : (us : List PlacedUid) → is_action_in acts d.action (map (λ u. u.uid) us) ≡ false
      → is_action_in acts d'.action (map (λ u. u.uid) us) ≡ false → (t u : Option Ty)
      → in_decides t1.env (Some d.action) (entities_of here (listed us)) t u ≡ in_decides t2.env (Some d'.action) (entities_of elsewhere (listed us)) t u
  decided_of us h h' t u =
      ap (λ o. in_decides t1.env (Some d.action) o t u) (entities_here us)
      ∙ decided (map (λ u. u.uid) us) h h' t u
      ∙ sym (ap (λ o. in_decides t2.env (Some d'.action) o t u) (entities_elsewhere us))

  abbrev the_set : List PlacedUid → Source
  the_set us = set_of (made l) (listed us)

  among : (us : List PlacedUid) → is_action_in acts d.action (map (λ u. u.uid) us) ≡ false
      → is_action_in acts d'.action (map (λ u. u.uid) us) ≡ false
      → in_form t1.env (made l) (var (made l) Var.Action) (the_set us) ≡ in_form t2.env (made l) (var (made l) Var.Action) (the_set us)
  among us h h' = λ i. record {
    at = made l;
    expects = Some entity_types ∷ Some ancestor_types ∷ [];
    goes_on = true;
    decides = λ ts. decided_of us h h' (first_type ts) (second_type ts) i;
    type_if_failed = λ t. TBool AnyBool;
    at_limit = λ ts. [];
    node = λ q xs. binary q BinaryOp.In (first_tree xs) (second_tree xs);
  }

  elements : (us : List PlacedUid) (goes_on : Bool) (qs : List Expectation) (prior : Caps) (k : ℕ)
      → infer_all t1 goes_on qs (listed us) prior k ≡ infer_all t2 goes_on qs (listed us) prior k
  elements [] goes_on qs prior k = refl
  elements (u ∷ us) goes_on qs prior k =
      λ i. more_same s here elsewhere goes_on (first_expectation qs) l (λ es. infer t1 (uid_at l u) prior k es)
      (elements us goes_on (later_expectations qs) prior k i) i

  set_typed : (us : List PlacedUid) (prior : Caps) (k : ℕ) → infer_within t1 (the_set us) prior k ≡ infer_within t2 (the_set us) prior k
  set_typed us prior k =
      let f = set_form_same s here elsewhere (made l) in
      λ i. infer_eager (f i) (elements us (f i).goes_on (f i).expects prior (k + 1) i)

  is_in_actions : (us : List PlacedUid) → is_action_in acts d.action (map (λ u. u.uid) us) ≡ false
      → is_action_in acts d'.action (map (λ u. u.uid) us) ≡ false → (prior : Caps) (k : ℕ)
      → infer_within t1 (within_at l Var.Action (the_set us)) prior k ≡ infer_within t2 (within_at l Var.Action (the_set us)) prior k
  is_in_actions us h h' prior k =
      λ i. two_same s here elsewhere (among us h h' i) l l
      (λ es. unless_too_deep (k + 1) es (action_variable prior (k + 1) i es))
      (λ es. unless_too_deep (k + 1) es (set_typed us prior (k + 1) i es)) i

  pub action : (a : ActionScope) → admits acts a d.action ≡ false → admits acts a d'.action ≡ false → (prior : Caps) (k : ℕ)
      → infer_within t1 (action_scope_at l a) prior k ≡ infer_within t2 (action_scope_at l a) prior k
  action any_action h h' prior k = cc
  action (equal_action u) h h' prior k = is_equal_action u h h' prior k
  action (within_actions us) h h' prior k = is_in_actions us h h' prior k

-- ---- both tests

-- declared actions of one entity type have the same type
declared_typed : (s : Schema) (u v : Uid) → declares_action s.actions u ≡ true → declares_action s.actions v ≡ true
    → u.entity_type ≡ v.entity_type → literal_type s u ≡ literal_type s v
declared_typed s u v h k e =
    λ i. if (if is_action_path (e i) then (h ∙ sym k) i else declares_type s.types (e i)) then Some (TEntity (e i ∷ [])) else None

pub first_tests_same : (s : Setting) (t : PlainTemplate) (e e' : Env) → IsLeftOut s.env.schema t e → IsLeftOut s.env.schema t e'
    → SamePrincipal e e' → policy_check (in_env s e) (first_tests t) ≡ policy_check (in_env s e') (first_tests t)
first_tests_same s t Undeclared e' h k q = absurd h
first_tests_same s t (Declared d p r) Undeclared h k q = absurd k
first_tests_same s t (Declared d p r) (Declared d' p' r') h k q =
    let here = Declared d p r in
    let elsewhere = Declared d' p' r' in
    let of_principal : principal_ty here ≡ principal_ty elsewhere = λ i. TEntity (q.0 i ∷ []) in
    let of_slot : slot_ty here SlotId.Principal ≡ slot_ty elsewhere SlotId.Principal = λ i. linked_ty (q.1 i) in
    let of_action : action_ty s.env.schema here ≡ action_ty s.env.schema elsewhere =
    declared_typed s.env.schema d.action d'.action h.0 k.0 q.2 in
    let kind : is_action d.action ≡ is_action d'.action = λ i. is_action_path (q.2 i) in
    let place : Option Loc = place_of (scope_at t.place Var.Principal SlotId.Principal t.principal) in
    let place' : Option Loc = place_of (action_scope_at t.place t.action) in
    λ i. out_verdict (expect_same s here elsewhere bool_types t.place
    (after (expect_same s here elsewhere bool_types place
    (principal s here elsewhere t.place of_principal of_slot t.principal no_caps 2 i []) i)
    (λ a es. right_same s here elsewhere conjunction (made t.place) place' no_caps a es
    (λ known es'. action s d d' p r p' r' t.place of_action kind t.action h.1 k.1 known 2 i es') i)) i)
