-- Expressions in which nothing is unknown: their literals and actions are declared.
use Rattle.std.proofs.Common.{◌≡◌, inl, inr, Bool, true, false, not, ◌&&◌, ◌||◌, List, [], ◌∷◌, ◌++◌, map, filter, Option, Some, None}
use Rattle.std.proofs.Common.{if◌then◌else◌, refl, sym, ◌∙◌, subst}
use Rattle.std.specs.List.{list_any, flat_map}
use Rattle.std.proofs.lemmas.List.Folds.{list_any-append}
use Rattle.cedar_types.specs.Environments.{DeclaredEnv, principal_environments, action_environments, environments_of}
use Rattle.cedar_types.specs.Errors.{unrecognized_entity_type, unrecognized_action_id}
use Rattle.cedar_types.specs.Templates.Findings.{uids_named, types_named, template_uids, template_types, is_unknown_type, is_unknown_action}
use Rattle.cedar_types.specs.Templates.Findings.{finding_at}
use Rattle.cedar_types.specs.Lemmas.Comparisons.{uid_same}
use Rattle.cedar_types.specs.Types.Lookups.{declares_entity}
use Rattle.cedar_types.specs.Names.{Uid, PlacedType, PlacedUid, uid_eq, is_action_path}
use Rattle.cedar_types.specs.Expressions.Parts.{subexpressions}
use Rattle.cedar_types.specs.Environments.RequestEnvs.{Env, Declared, Undeclared, action_ty}
use Rattle.cedar_types.specs.Schemas.{Schema, Application, DeclaredAction, has_fault, declares_type, declares_action}
use Rattle.cedar_types.specs.Expressions.Tree.{entity, lit}
use Rattle.cedar_types.specs.Types.{Ty, TEntity}
use Rattle.cedar_types.specs.Expressions.View.{Written}
use Rattle.cedar_types.proofs.Schema.Faultless.{faultless}
use Rattle.cedar_typing.specs.Evaluation.Conformance.{IsOneOf, IsEnvironmentOf}
use Rattle.cedar_typing.specs.Silence.{is_unknown, IsWellNamed, ConditionIsWellNamed}
use Rattle.cedar_typing.specs.TypedExpr.{Source}
use Rattle.cedar_typing.proofs.Basics.{neither_left, neither_right, or_left, or_right}
use Rattle.cedar_typing.proofs.Basics.Members.{all_flat, all_pass}

-- ---- an expression itself, and its parts

-- the expression is no unknown, and each type and action that it names itself is known
pub record IsClean (s : Schema) (e : Source) : Type 0 where
  pub known : is_unknown e ≡ false
  pub types : list_any (λ n. is_unknown_type s n.name) (types_named e) ≡ false
  pub actions : list_any (λ n. is_unknown_action s n.uid) (uids_named e) ≡ false

abbrev pub AreClean : Schema → List Source → Type 0
AreClean s [] = Unit {0}
AreClean s (e ∷ es) = IsClean s e × AreClean s es

module _ {A : Type 0} (p : A → Bool) (xs ys : List A) where
  any_left : list_any p (xs ++ ys) ≡ false → list_any p xs ≡ false
  any_left h = neither_left (list_any p xs) (list_any p ys) (sym (list_any-append p xs ys) ∙ h)

  any_right : list_any p (xs ++ ys) ≡ false → list_any p ys ≡ false
  any_right h = neither_right (list_any p xs) (list_any p ys) (sym (list_any-append p xs ys) ∙ h)

module _ (s : Schema) where
  all_clean : (es : List Source) → list_any is_unknown es ≡ false
      → list_any (λ n. is_unknown_type s n.name) (flat_map types_named es) ≡ false
      → list_any (λ n. is_unknown_action s n.uid) (flat_map uids_named es) ≡ false
      → AreClean s es
  all_clean [] h t a = tt
  all_clean (e ∷ es) h t a =
      let p : PlacedType → Bool = λ n. is_unknown_type s n.name in
      let q : PlacedUid → Bool = λ n. is_unknown_action s n.uid in (
        record {
          known = neither_left (is_unknown e) (list_any is_unknown es) h;
          types = any_left p (types_named e) (flat_map types_named es) t;
          actions = any_left q (uids_named e) (flat_map uids_named es) a;
        },
        all_clean es (neither_right (is_unknown e) (list_any is_unknown es) h)
            (any_right p (types_named e) (flat_map types_named es) t) (any_right q (uids_named e) (flat_map uids_named es) a),
      )

  pub clean : (e : Source) → IsWellNamed s e → AreClean s (subexpressions e)
  clean e h = all_clean (subexpressions e) h.unknowns h.types h.actions

  pub clean_left : (xs ys : List Source) → AreClean s (xs ++ ys) → AreClean s xs
  clean_left [] ys h = tt
  clean_left (x ∷ xs) ys h = (h.0, clean_left xs ys h.1)

  pub clean_right : (xs ys : List Source) → AreClean s (xs ++ ys) → AreClean s ys
  clean_right [] ys h = h
  clean_right (x ∷ xs) ys h = clean_right xs ys h.1

-- ---- templates

none_filtered : {A B : Type 0} (f : A → B) (p : A → Bool) (xs : List A) → map f (filter p xs) ≡ [] → list_any p xs ≡ false
none_filtered f p [] h = refl
none_filtered f p (x ∷ xs) h = by_test (p x) (none_filtered f p xs) h
  where
    by_test : (b : Bool) → (map f (filter p xs) ≡ [] → list_any p xs ≡ false)
        → map f (if b then x ∷ filter p xs else filter p xs) ≡ [] → (b || list_any p xs) ≡ false
    by_test true k e = cc
    by_test false k e = k e

pub condition_is_well_named : ConditionIsWellNamed
condition_is_well_named s t h = record {
  unknowns = h.unknowns;
  types =
      none_filtered (λ (n : PlacedType). finding_at t n.place (unrecognized_entity_type n.name))
      (λ n. is_unknown_type s n.name) (template_types t) h.types;
  actions =
      none_filtered (λ (n : PlacedUid). finding_at t n.place (unrecognized_action_id n.uid))
      (λ n. is_unknown_action s n.uid) (template_uids t) h.actions;
}

-- ---- literals

module _ (s : Schema) where
  entity_declared : (is_action declared known : Bool) → not (is_action || known) ≡ false → (is_action && not declared) ≡ false
      → (if is_action then declared else known) ≡ true
  entity_declared true true known h k = refl
  entity_declared true false known h k = cc
  entity_declared false declared true h k = refl
  entity_declared false declared false h k = cc

  pub literal_declared : (m : Written) (u : Uid) → IsClean s (lit m (entity u)) → declares_entity s u ≡ true
  literal_declared m u h =
      entity_declared (is_action_path u.entity_type) (declares_action s.actions u) (declares_type s.types u.entity_type)
      (neither_left (is_unknown_type s u.entity_type) false h.types) (neither_left (is_unknown_action s u) false h.actions)

  action_is_declared : (is_action declared : Bool) → (is_action && not declared) ≡ false → is_action ≡ true → declared ≡ true
  action_is_declared true true h k = refl
  action_is_declared true false h k = cc
  action_is_declared false declared h k = cc

  pub action_declared : (m : Written) (u : Uid) → IsClean s (lit m (entity u)) → is_action_path u.entity_type ≡ true
      → declares_action s.actions u ≡ true
  action_declared m u h =
      action_is_declared (is_action_path u.entity_type) (declares_action s.actions u) (neither_left (is_unknown_action s u) false h.actions)

-- ---- the action of an environment

pass_any : {A : Type 0} (p : A → Bool) (xs : List A) (x : A) → IsOneOf x xs → p x ≡ true → list_any p xs ≡ true
pass_any p [] x h k = absurd h
pass_any p (y ∷ ys) x (inl e) k = or_left (p y) (list_any p ys) (subst (λ z. p z ≡ true) e k)
pass_any p (y ∷ ys) x (inr h) k = or_right (p y) (list_any p ys) (pass_any p ys x h k)

module _ (s : Schema) (faults : has_fault s ≡ false) where
  -- the environment's action has the type of an action, and is declared
  abbrev IsGood : DeclaredEnv → Type 0
  IsGood d = (is_action_path d.action.entity_type ≡ true) × (declares_action s.actions d.action ≡ true)

  mapped_good : (u : Uid) (context : Ty) (p : _) (rs : List _) → (is_action_path u.entity_type ≡ true)
      × (declares_action s.actions u ≡ true)
      → (d : DeclaredEnv) → IsOneOf d (principal_environments u context rs p) → IsGood d
  mapped_good u context p [] g d h = absurd h
  mapped_good u context p (r ∷ rs) g d (inl e) = subst IsGood (sym e) g
  mapped_good u context p (r ∷ rs) g d (inr h) = mapped_good u context p rs g d h

  applied_good : (u : Uid) (a : Option Application) → (is_action_path u.entity_type ≡ true) × (declares_action s.actions u ≡ true)
      → (d : DeclaredEnv) → IsOneOf d (action_environments u a) → IsGood d
  applied_good u None g d h = absurd h
  applied_good u (Some a) g d h =
      all_flat (principal_environments u a.context a.resources) IsGood a.principals (λ p i. mapped_good u a.context p a.resources g) d h

  pub env_action : (d : DeclaredEnv) → IsOneOf d (environments_of s.actions) → IsGood d
  env_action =
      all_flat (λ (a : DeclaredAction). action_environments a.name a.applies_to) IsGood s.actions
      (λ a i. applied_good a.name a.applies_to (
        all_pass (λ (a : DeclaredAction). is_action_path a.name.entity_type) s.actions (faultless s faults).actions a i,
        pass_any (λ (b : DeclaredAction). uid_eq a.name b.name) s.actions a i (uid_same.itself a.name),
      ))

  -- the variable `action` has a type, if b holds
  typed_if : (b : Bool) (u : Uid) → b ≡ true → (if b then Some (TEntity (u.entity_type ∷ [])) else None) ≡ None → ⊥
  typed_if true u h e = cc
  typed_if false u h e = cc

  entity_if : (b declared known : Bool) → b ≡ true → declared ≡ true → (if b then declared else known) ≡ true
  entity_if true declared known h k = k
  entity_if false declared known h k = cc

  pub action_typed : (r : Env) → IsEnvironmentOf s r → action_ty s r ≡ None → ⊥
  action_typed (Declared d ps rs) h e =
      let g = env_action d h in
      typed_if (declares_entity s d.action) d.action
      (entity_if (is_action_path d.action.entity_type) _ (declares_type s.types d.action.entity_type) g.0 g.1) e
  action_typed Undeclared h e = h
