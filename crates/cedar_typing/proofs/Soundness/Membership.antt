-- `in` does not go wrong.
use Rattle.std.proofs.Common.{◌≡◌, Bool, true, false, ◌||◌, List, [], ◌∷◌, Option, Some, None, option_map, if◌then◌else◌, refl, sym, ◌∙◌}
use Rattle.std.proofs.Common.{ap, subst}
use Rattle.std.specs.List.{list_any, list_all}
use Rattle.std.proofs.Math.Bool.{or-false}
use Rattle.cedar_types.specs.declared.base.expressions.operators.BinaryOp.{BinaryOp}
use Rattle.cedar_types.specs.declared.base.types.BoolType.TheVariants.{AnyBool}
use Rattle.cedar_types.specs.Names.{Uid}
use Rattle.cedar_types.specs.Types.{Ty, TBool}
use Rattle.cedar_types.specs.Expressions.Tree.{Lit, entity, Trees, no_trees, tree, set_of, binary}
use Rattle.cedar_types.specs.Expressions.View.{Written}
use Rattle.cedar_types.specs.Schemas.{has_fault, declares_action}
use Rattle.cedar_types.specs.Environments.RequestEnvs.{Env, is_partial}
use Rattle.cedar_types.specs.Values.Stores.{Store, ConformingStore}
use Rattle.cedar_types.specs.Values.{VBool, VEntity, VSet, Values, no_values, more_values}
use Rattle.cedar_typing.specs.Capabilities.{no_caps}
use Rattle.cedar_typing.specs.Eager.{Decision, gives, refuses}
use Rattle.cedar_typing.specs.Evaluation.Conformance.{Fits}
use Rattle.cedar_typing.specs.Evaluation.Equality.{all_values, any_value}
use Rattle.cedar_typing.specs.Evaluation.Eval.{is_in, is_in_entity, is_some_entity, entity_in, value_in, eval, eval_all}
use Rattle.cedar_typing.specs.Evaluation.Outcomes.{on_value, Outcomes, GiveAll, more_outcomes, on_values}
use Rattle.cedar_typing.specs.Evaluation.World.{World, TypeFailure, Outcome, Gives, Fails}
use Rattle.cedar_typing.specs.Rules.Equality.{literal_of}
use Rattle.cedar_typing.specs.Rules.Leaves.{bool_ty}
use Rattle.cedar_typing.specs.Rules.Membership.{literal_entity, entity_of, with_entity, entities_of, ancestors_of, is_action, is_action_in}
use Rattle.cedar_typing.specs.Rules.Membership.{only_actions, action_decides, entity_decides, in_decides, in_form}
use Rattle.cedar_typing.specs.Soundness.{HasFound, IsSafe}
use Rattle.cedar_typing.specs.TypeEnv.{TypeEnv}
use Rattle.cedar_typing.specs.TypeTests.{accepts, entity_types, ancestor_types}
use Rattle.cedar_typing.specs.TypedExpr.{Source}
use Rattle.cedar_typing.proofs.KeptTypes.Eager.{decided_type}
use Rattle.cedar_typing.proofs.Soundness.Eager.{AllFound, AreTypes, GiftIsSound, SoundForm}
use Rattle.cedar_typing.proofs.Soundness.Equality.{IsLiteral, literal_outcome}
use Rattle.cedar_typing.proofs.Soundness.FixedTypes.{silent_gift}
use Rattle.cedar_typing.proofs.Values.Ancestors.{in_bool, in_safe, in_typed}
use Rattle.cedar_typing.proofs.Values.Membership.{in_actions}

-- ---- operands that are entities as they stand: their outcomes

abbrev IsEntity : Option Uid → Outcome → Type 0
IsEntity None o = Unit {0}
IsEntity (Some u) o = o ≡ Gives (VEntity u)

abbrev entity_values : List Uid → Values
entity_values [] = no_values
entity_values (u ∷ us) = more_values (VEntity u) (entity_values us)

abbrev AreEntities : Option (List Uid) → Outcomes → Type 0
AreEntities None os = Unit {0}
AreEntities (Some us) os = os ≡ GiveAll (entity_values us)

-- an entity is in the outcome exactly if it is in one of the entities
abbrev AreAncestors : Store → Option (List Uid) → Outcome → Type 0
AreAncestors store None o = Unit {0}
AreAncestors store (Some vs) o = (u : Uid) → on_value o (entity_in store u) ≡ Gives (VBool (list_any (is_in store u) vs))

literal_is_entity : (x : Option Lit) (o : Outcome) → IsLiteral x o → IsEntity (literal_entity x) o
literal_is_entity (Some (entity u)) o h = h
literal_is_entity x o h = tt

next_entity : (u : Option Uid) (us : Option (List Uid)) (o : Outcome) (os : Outcomes) → IsEntity u o → AreEntities us os
    → AreEntities (with_entity u us) (more_outcomes o os)
next_entity None us o os h k = tt
next_entity (Some u) None o os h k = tt
next_entity (Some u) (Some us) o os h k = λ i. more_outcomes (h i) (k i)

module _ (store : Store) where
  all_entities : (us : List Uid) → all_values is_some_entity (entity_values us) ≡ true
  all_entities [] = refl
  all_entities (u ∷ us) = all_entities us

  in_any : (u : Uid) (vs : List Uid) → any_value (is_in_entity store u) (entity_values vs) ≡ list_any (is_in store u) vs
  in_any u [] = refl
  in_any u (v ∷ vs) = ap (λ b. is_in store u v || b) (in_any u vs)

  set_is : (vs : Option (List Uid)) (os : Outcomes) → AreEntities vs os → AreAncestors store vs (on_values os (λ ws. Gives (VSet ws)))
  set_is None os h = tt
  set_is (Some vs) os h = λ u.
      ap (λ z. on_value (on_values z (λ ws. Gives (VSet ws))) (entity_in store u)) h
      ∙ (λ i. if all_entities vs i then Gives (VBool (in_any u vs i)) else Fails TypeFailure)

  one_is : (v : Option Uid) (o : Outcome) → IsEntity v o → AreAncestors store (option_map (λ w. w ∷ []) v) o
  one_is None o h = tt
  one_is (Some v) o h = λ u. ap (λ z. on_value z (entity_in store u)) h ∙ ap (λ b. Gives (VBool b)) (sym (or-false (is_in store u v)))

module _ (world : World) (r : Env) (fits : Fits r world.request world.slots) where
  entity_outcome : (e : Source) → IsEntity (entity_of r e) (eval world e)
  entity_outcome e = literal_is_entity (literal_of r e) (eval world e) (literal_outcome world r fits e)

  entities_outcome : (ts : Trees Written) → AreEntities (entities_of r ts) (eval_all world ts)
  entities_outcome no_trees = refl
  entities_outcome (tree e es) =
      next_entity (entity_of r e) (entities_of r es) (eval world e) (eval_all world es) (entity_outcome e) (entities_outcome es)

  ancestors_outcome : (e : Source) → AreAncestors world.store (ancestors_of r e) (eval world e)
  ancestors_outcome (set_of m ts) = set_is world.store (entities_of r ts) (eval_all world ts) (entities_outcome ts)
  ancestors_outcome e = one_is world.store (entity_of r e) (eval world e) (entity_outcome e)

-- ---- two outcomes

abbrev both_in : Store → Outcome → Outcome → Outcome
both_in store o o' = on_value o (λ v. on_value o' (value_in store v))

any_found : (store : Store) (o o' : Outcome) → HasFound (Some (TBool AnyBool)) (both_in store o o')
any_found store (Gives v) (Gives w) = in_bool store v w
any_found store (Gives v) (Fails f) = tt
any_found store (Fails f) o' = tt

module _ (store : Store) (s t : Ty) (left : accepts entity_types s ≡ true) (right : accepts ancestor_types t ≡ true) where
  both_safe : (o o' : Outcome) → HasFound (Some s) o → HasFound (Some t) o' → IsSafe o → IsSafe o' → IsSafe (both_in store o o')
  both_safe (Gives v) (Gives w) h k p q = in_safe store s t v w left right h k
  both_safe (Gives v) (Fails f) h k p q = q
  both_safe (Fails f) o' h k p q = p

bool_has : (b : Bool) → HasFound (Some (bool_ty b)) (Gives (VBool b))
bool_has true = refl
bool_has false = refl

-- an action in declared actions, or in others
abbrev action_table : Bool → Bool → Bool → Decision
action_table declared partial is_in =
    if declared then gives (bool_ty is_in) no_caps
    else if partial then gives (TBool AnyBool) no_caps
    else refuses (Some (TBool AnyBool)) []

table_has : (declared partial is_in : Bool) → HasFound (decided_type (action_table declared partial is_in)) (Gives (VBool is_in))
table_has true partial is_in = bool_has is_in
table_has false true is_in = tt
table_has false false is_in = tt

if_has : (b : Bool) (d e : Decision) (o : Outcome) → (b ≡ true → HasFound (decided_type d) o) → HasFound (decided_type e) o
    → HasFound (decided_type (if b then d else e)) o
if_has true d e o h k = h refl
if_has false d e o h k = k

-- ---- the form

module _ (env : TypeEnv) (world : World) (o o' : Outcome) where
  abbrev found_in : Outcome
  found_in = both_in world.store o o'

  -- the value of `in`, if there is one, has the type that the table gives
  module _ (faults : has_fault env.schema ≡ false) (conforms : ConformingStore env.schema world.store) where
    entity_has : (s t : Option Ty) (z z' : Outcome) → HasFound s z → HasFound t z'
        → HasFound (decided_type (entity_decides env s t)) (both_in world.store z z')
    entity_has s t (Gives v) (Gives w) h k = in_typed env.schema faults world.store conforms s t v w h k
    entity_has s t (Gives v) (Fails f) h k = tt
    entity_has s t (Fails f) z' h k = tt

    action_has : (u : Uid) (vs : List Uid) → is_action u ≡ true → IsEntity (Some u) o → AreAncestors world.store (Some vs) o'
        → HasFound (decided_type (action_decides env u (only_actions vs))) found_in
    action_has u vs a h k =
        let actions = env.schema.actions in
        let ws = only_actions vs in
        let value : found_in ≡ Gives (VBool (is_action_in actions u ws)) =
        ap (λ z. both_in world.store z o') h ∙ k u ∙ ap (λ b. Gives (VBool b)) (in_actions env.schema faults world.store conforms u a vs) in
        subst (HasFound (decided_type (action_decides env u ws))) (sym value)
        (table_has (list_all (declares_action actions) ws) (is_partial env.mode) (is_action_in actions u ws))

    decides_has : (u : Option Uid) (vs : Option (List Uid)) (s t : Option Ty) → IsEntity u o → AreAncestors world.store vs o'
        → HasFound s o → HasFound t o' → HasFound (decided_type (in_decides env u vs s t)) found_in
    decides_has (Some u) (Some vs) s t e f h k =
        if_has (is_action u) (action_decides env u (only_actions vs)) (entity_decides env s t) found_in
        (λ a. action_has u vs a e f) (entity_has s t o o' h k)
    decides_has u vs s t e f h k = entity_has s t o o' h k

  -- the table keeps its promise if `in` is safe for safe operands
  module _ (safe : IsSafe o → IsSafe o' → IsSafe found_in) where
    abbrev Gift : Decision → Type 0
    Gift = GiftIsSound world (o ∷ o' ∷ []) found_in

    type_gift : (t : Ty) → Gift (gives t no_caps)
    type_gift t = silent_gift world (o ∷ o' ∷ []) found_in t (λ h. safe h.0 h.1.0)

    table_gift : (declared partial is_in : Bool) → Gift (action_table declared partial is_in)
    table_gift true partial is_in = type_gift (bool_ty is_in)
    table_gift false true is_in = type_gift (TBool AnyBool)
    table_gift false false is_in = tt

    if_gift : (b : Bool) (d e : Decision) → Gift d → Gift e → Gift (if b then d else e)
    if_gift true d e h k = h
    if_gift false d e h k = k

    decides_gift : (u : Option Uid) (vs : Option (List Uid)) (s t : Option Ty) → Gift (in_decides env u vs s t)
    decides_gift (Some u) (Some vs) s t =
        let actions = env.schema.actions in
        let ws = only_actions vs in
        if_gift (is_action u) (action_decides env u ws) (entity_decides env s t)
        (table_gift (list_all (declares_action actions) ws) (is_partial env.mode) (is_action_in actions u ws)) (type_gift _)
    decides_gift u vs s t = type_gift _

module _ (env : TypeEnv) (world : World) (faults : has_fault env.schema ≡ false) where
  module _ (fits : Fits env.request_env world.request world.slots) (conforms : ConformingStore env.schema world.store) where
    pub in_sound : (m : Written) (a b : Source)
        → SoundForm world (in_form env m a b) (eval world a ∷ eval world b ∷ []) (eval world (binary m BinaryOp.In a b))
    in_sound m a b = record { typed = typed; succeeds = succeeds; failed = λ t h. any_found world.store (eval world a) (eval world b) }
      where
        typed : (ts : List (Option Ty)) → AreTypes (in_form env m a b) (eval world a ∷ eval world b ∷ []) ts
            → HasFound (decided_type ((in_form env m a b).decides ts)) (eval world (binary m BinaryOp.In a b))
        typed [] h = absurd h.have
        typed (s ∷ []) h = absurd h.have.1
        typed (s ∷ t ∷ ts) h =
            let r = env.request_env in
            decides_has env world (eval world a) (eval world b) faults conforms (entity_of r a) (ancestors_of r b) s t
            (entity_outcome world r fits a) (ancestors_outcome world r fits b) h.have.0 h.have.1.0

        succeeds : (ts : List (Option Ty)) → AreTypes (in_form env m a b) (eval world a ∷ eval world b ∷ []) ts → AllFound ts
            → GiftIsSound world (eval world a ∷ eval world b ∷ []) (eval world (binary m BinaryOp.In a b)) ((in_form env m a b).decides ts)
        succeeds [] h f = absurd h.have
        succeeds (None ∷ ts) h f = absurd f.0
        succeeds (Some s ∷ []) h f = absurd h.have.1
        succeeds (Some s ∷ None ∷ ts) h f = absurd f.1.0
        succeeds (Some s ∷ Some t ∷ ts) h f =
            let o = eval world a in
            let o' = eval world b in
            let r = env.request_env in
            decides_gift env world o o' (both_safe world.store s t h.meet.0 h.meet.1.0 o o' h.have.0 h.have.1.0)
            (entity_of r a) (ancestors_of r b) (Some s) (Some t)
