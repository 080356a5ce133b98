-- The scope's test of the action has one answer for two actions of one type that the scope admits alike.
use Rattle.std.proofs.Common.{◌≡◌, ℕ, ◌+◌, Bool, true, false, ◌||◌, true≢false, cond, if◌then◌else◌, List, [], ◌∷◌, map, Option, Some, None, refl, sym, ◌∙◌, ap}
use Rattle.std.specs.List.{list_all}
use Rattle.cedar_types.specs.declared.base.expressions.operators.BinaryOp.{BinaryOp}
use Rattle.cedar_types.specs.declared.base.expressions.operators.Var.{Var}
use Rattle.cedar_types.specs.declared.base.location.Loc.{Loc}
use Rattle.cedar_types.specs.declared.base.types.BoolType.TheVariants.{AnyBool, False}
use Rattle.cedar_types.specs.Environments.{DeclaredEnv}
use Rattle.cedar_types.specs.Environments.Representatives.{admits}
use Rattle.cedar_types.specs.Environments.RequestEnvs.{Env, Declared, action_ty, is_partial}
use Rattle.cedar_types.specs.Expressions.Tree.{var, binary, set_of, Trees}
use Rattle.cedar_types.specs.Expressions.View.{Written, trees_of}
use Rattle.cedar_types.specs.Lemmas.Comparisons.{and_left, and_right, uid_same}
use Rattle.cedar_types.specs.Names.{Path, Uid, PlacedUid, uid_eq, is_action_path}
use Rattle.cedar_types.specs.Schemas.{DeclaredAction, declares_action, are_actions, uid_is_among, action_named, action_descendants, descendants_of_action}
use Rattle.cedar_types.specs.Templates.{ActionScope, any_action, equal_action, within_actions, made, uid_at}
use Rattle.cedar_types.specs.Templates.{equal_at, within_at, action_scope_at}
use Rattle.cedar_types.specs.Types.{Ty, TBool}
use Rattle.cedar_typing.specs.Capabilities.{Caps, no_caps}
use Rattle.cedar_typing.specs.Composition.{in_env}
use Rattle.cedar_typing.specs.Eager.{Expectation, gives, refuses, first_expectation, later_expectations, first_type, second_type, first_tree, second_tree}
use Rattle.cedar_typing.specs.Infer.{unless_too_deep, infer, infer_within, infer_all}
use Rattle.cedar_typing.specs.Infer.Eager.{infer_eager}
use Rattle.cedar_typing.specs.Infer.Leaves.{infer_leaf}
use Rattle.cedar_typing.specs.Rules.Equality.{are_apart, equality_form}
use Rattle.cedar_typing.specs.Rules.Leaves.{bool_ty}
use Rattle.cedar_typing.specs.Rules.Membership.{is_action, entities_of, with_entity, is_action_in, only_actions, entity_decides, in_decides, in_form}
use Rattle.cedar_typing.specs.Setting.{Setting}
use Rattle.cedar_typing.specs.TypeTests.{entity_types, ancestor_types}
use Rattle.cedar_typing.specs.TypedExpr.{Source}
use Rattle.cedar_typing.proofs.Composition.SameForms.{more_same, two_same, set_form_same, equal_decided}

-- ---- entities that are no actions

-- an entity that is no action is not declared as one
not_named : (acts : List DeclaredAction) (v : Uid) → are_actions acts ≡ true → is_action v ≡ false → action_named acts v ≡ None
not_named [] v h k = refl
not_named (a ∷ acts) v h k =
    let own = and_left (is_action_path a.name.entity_type) (are_actions acts) h in
    let others = not_named acts v (and_right (is_action_path a.name.entity_type) (are_actions acts) h) k in
    by_test (uid_eq v a.name) (λ e. absurd (true≢false (sym own ∙ ap is_action (sym (uid_same.to v a.name e)) ∙ k))) others
  where
    by_test : (b : Bool) → (b ≡ true → ⊥) → action_named acts v ≡ None → cond b (Some a) (action_named acts v) ≡ None
    by_test true f e = absurd (f refl)
    by_test false f e = e

-- whether an action is this entity, or a descendant of it
abbrev is_within : List DeclaredAction → Uid → Uid → Bool
is_within acts u v = uid_eq u v || uid_is_among (descendants_of_action acts v) u

-- an action is not in an entity that is none
not_in : (acts : List DeclaredAction) (u v : Uid) → are_actions acts ≡ true → is_action u ≡ true → is_action v ≡ false
    → is_within acts u v ≡ false
not_in acts u v h j k =
    by_test (uid_eq u v) (λ e. absurd (true≢false (sym j ∙ ap is_action (uid_same.to u v e) ∙ k)))
    ∙ ap (λ o. uid_is_among (action_descendants o) u) (not_named acts v h k)
  where
    by_test : (b : Bool) → (b ≡ true → ⊥)
        → (b || uid_is_among (descendants_of_action acts v) u) ≡ uid_is_among (descendants_of_action acts v) u
    by_test true f = absurd (f refl)
    by_test false f = refl

-- an action is in some entities exactly if it is in the actions among them
in_actions : (acts : List DeclaredAction) (u : Uid) → are_actions acts ≡ true → is_action u ≡ true → (vs : List Uid)
    → is_action_in acts u (only_actions vs) ≡ is_action_in acts u vs
in_actions acts u h j [] = refl
in_actions acts u h j (v ∷ vs) = by_kind (is_action v) (not_in acts u v h j) (in_actions acts u h j vs)
  where
    by_kind : (b : Bool) → (b ≡ false → is_within acts u v ≡ false) → is_action_in acts u (only_actions vs) ≡ is_action_in acts u vs
        → is_action_in acts u (if b then v ∷ only_actions vs else only_actions vs) ≡ (is_within acts u v || is_action_in acts u vs)
    by_kind true f e = ap (λ z. is_within acts u v || z) e
    by_kind false f e = e ∙ ap (λ z. z || is_action_in acts u vs) (sym (f refl))

-- ---- the test

module _ (s : Setting) (d d' : DeclaredEnv) (p r p' r' : Option Path) (l : Option Loc)
    (typed_same : action_ty s.env.schema (Declared d p r) ≡ action_ty s.env.schema (Declared d' p' r'))
    (kind_same : is_action d.action ≡ is_action d'.action) (named : are_actions s.env.schema.actions ≡ true) where
  abbrev here : Env
  here = Declared d p r

  abbrev elsewhere : Env
  elsewhere = Declared d' p' r'

  abbrev s1 : Setting
  s1 = in_env s here

  abbrev s2 : Setting
  s2 = in_env s elsewhere

  abbrev acts : List DeclaredAction
  acts = s.env.schema.actions

  action_variable : (prior : Caps) (k : ℕ) → infer_within s1 (var (made l) Var.Action) prior k ≡ infer_within s2 (var (made l) Var.Action) prior k
  action_variable prior k = λ i es. (infer_leaf (typed_same i) (made l) (λ q. var q Var.Action), es)

  -- `action == u`
  compared : (u : PlacedUid) → uid_eq d.action u.uid ≡ uid_eq d'.action u.uid
      → equality_form s1.env (made l) (var (made l) Var.Action) (uid_at l u) ≡ equality_form s2.env (made l) (var (made l) Var.Action) (uid_at l u)
  compared u h = λ i. record {
    at = made l;
    expects = [];
    goes_on = true;
    decides =
        λ ts. equal_decided s here elsewhere l
        (if are_apart (first_type ts) (second_type ts) then TBool False else bool_ty (h i)) (first_type ts) (second_type ts) i;
    type_if_failed = λ t. t;
    at_limit = λ ts. [];
    node = λ q xs. binary q BinaryOp.Eq (first_tree xs) (second_tree xs);
  }

  is_equal : (u : PlacedUid) → uid_eq d.action u.uid ≡ uid_eq d'.action u.uid → (prior : Caps) (k : ℕ)
      → infer_within s1 (equal_at l Var.Action (uid_at l u)) prior k ≡ infer_within s2 (equal_at l Var.Action (uid_at l u)) prior k
  is_equal u h prior k =
      λ i. two_same s here elsewhere (compared u h i) l l
      (λ es. unless_too_deep (k + 1) es (action_variable prior (k + 1) i es)) (λ es. infer s1 (uid_at l u) prior (k + 1) es) i

  -- `action in [..]`
  abbrev listed : List PlacedUid → Trees Written
  listed us = trees_of (map (uid_at l) us)

  abbrev ids : List PlacedUid → List Uid
  ids us = map (λ u. u.uid) us

  entities_are : (e : Env) (us : List PlacedUid) → entities_of e (listed us) ≡ Some (ids us)
  entities_are e [] = refl
  entities_are e (u ∷ us) = λ i. with_entity (Some u.uid) (entities_are e us i)

  -- both actions are in the actions among some entities, or neither is
  in_same_actions : (vs : List Uid) → is_action_in acts d.action vs ≡ is_action_in acts d'.action vs → is_action d.action ≡ true
      → is_action_in acts d.action (only_actions vs) ≡ is_action_in acts d'.action (only_actions vs)
  in_same_actions vs h j =
      in_actions acts d.action named j vs ∙ h ∙ sym (in_actions acts d'.action named (sym kind_same ∙ j) vs)

  decided : (vs : List Uid) → is_action_in acts d.action vs ≡ is_action_in acts d'.action vs → (t u : Option Ty)
      → in_decides s1.env (Some d.action) (Some vs) t u ≡ in_decides s2.env (Some d'.action) (Some vs) t u
  decided vs h t u = by_kinds (is_action d.action) (is_action d'.action) kind_same (in_same_actions vs h)
    where
      by_kinds : (b c : Bool) → b ≡ c
          → (b ≡ true → is_action_in acts d.action (only_actions vs) ≡ is_action_in acts d'.action (only_actions vs))
          → (if b then
          (if list_all (declares_action acts) (only_actions vs)
          then gives (bool_ty (is_action_in acts d.action (only_actions vs))) no_caps
          else if is_partial s.env.mode then gives (TBool AnyBool) no_caps
          else refuses (Some (TBool AnyBool)) [])
          else entity_decides s1.env t u)
          ≡ (if c then
          (if list_all (declares_action acts) (only_actions vs)
          then gives (bool_ty (is_action_in acts d'.action (only_actions vs))) no_caps
          else if is_partial s.env.mode then gives (TBool AnyBool) no_caps
          else refuses (Some (TBool AnyBool)) [])
          else entity_decides s2.env t u)
      by_kinds true true e f =
          λ i. if list_all (declares_action acts) (only_actions vs)
          then gives (bool_ty (f refl i)) no_caps
          else if is_partial s.env.mode then gives (TBool AnyBool) no_caps
          else refuses (Some (TBool AnyBool)) []
      by_kinds false false e f = refl
      by_kinds true false e f = absurd (true≢false e)
      by_kinds false true e f = absurd (true≢false (sym e))

  decided_of : (us : List PlacedUid) → is_action_in acts d.action (ids us) ≡ is_action_in acts d'.action (ids us) → (t u : Option Ty)
      → in_decides s1.env (Some d.action) (entities_of here (listed us)) t u ≡ in_decides s2.env (Some d'.action) (entities_of elsewhere (listed us)) t u
  decided_of us h t u =
      ap (λ o. in_decides s1.env (Some d.action) o t u) (entities_are here us)
      ∙ decided (ids us) h t u
      ∙ sym (ap (λ o. in_decides s2.env (Some d'.action) o t u) (entities_are elsewhere us))

  abbrev the_set : List PlacedUid → Source
  the_set us = set_of (made l) (listed us)

  among : (us : List PlacedUid) → is_action_in acts d.action (ids us) ≡ is_action_in acts d'.action (ids us)
      → in_form s1.env (made l) (var (made l) Var.Action) (the_set us) ≡ in_form s2.env (made l) (var (made l) Var.Action) (the_set us)
  among us h = λ i. record {
    at = made l;
    expects = Some entity_types ∷ Some ancestor_types ∷ [];
    goes_on = true;
    decides = λ ts. decided_of us h (first_type ts) (second_type ts) i;
    type_if_failed = λ t. TBool AnyBool;
    at_limit = λ ts. [];
    node = λ q xs. binary q BinaryOp.In (first_tree xs) (second_tree xs);
  }

  elements : (us : List PlacedUid) (goes_on : Bool) (qs : List Expectation) (prior : Caps) (k : ℕ)
      → infer_all s1 goes_on qs (listed us) prior k ≡ infer_all s2 goes_on qs (listed us) prior k
  elements [] goes_on qs prior k = refl
  elements (u ∷ us) goes_on qs prior k =
      λ i. more_same s here elsewhere goes_on (first_expectation qs) l (λ es. infer s1 (uid_at l u) prior k es)
      (elements us goes_on (later_expectations qs) prior k i) i

  set_typed : (us : List PlacedUid) (prior : Caps) (k : ℕ) → infer_within s1 (the_set us) prior k ≡ infer_within s2 (the_set us) prior k
  set_typed us prior k =
      let f = set_form_same s here elsewhere (made l) in
      λ i. infer_eager (f i) (elements us (f i).goes_on (f i).expects prior (k + 1) i)

  is_in_actions : (us : List PlacedUid) → is_action_in acts d.action (ids us) ≡ is_action_in acts d'.action (ids us)
      → (prior : Caps) (k : ℕ)
      → infer_within s1 (within_at l Var.Action (the_set us)) prior k ≡ infer_within s2 (within_at l Var.Action (the_set us)) prior k
  is_in_actions us h prior k =
      λ i. two_same s here elsewhere (among us h i) l l
      (λ es. unless_too_deep (k + 1) es (action_variable prior (k + 1) i es))
      (λ es. unless_too_deep (k + 1) es (set_typed us prior (k + 1) i es)) i

  pub action_same : (a : ActionScope) → admits acts a d.action ≡ admits acts a d'.action → (prior : Caps) (k : ℕ)
      → infer_within s1 (action_scope_at l a) prior k ≡ infer_within s2 (action_scope_at l a) prior k
  action_same any_action h prior k = refl
  action_same (equal_action u) h prior k = is_equal u h prior k
  action_same (within_actions us) h prior k = is_in_actions us h prior k
