-- Outcomes of `in` for two values, by their types.
use Rattle.std.proofs.Common.{◌≡◌, Bool, true, false, true≢false, ◌&&◌, ◌||◌, List, Option, Some, None, if◌then◌else◌, refl, sym, subst}
use Rattle.std.specs.Prelude.{IsTrue}
use Rattle.cedar_types.specs.declared.base.types.BoolType.TheVariants.{AnyBool, False}
use Rattle.cedar_types.specs.Names.{Path, Uid}
use Rattle.cedar_types.specs.Types.{Ty, TNever, TBool, TSet, TEntity, TAnyEntity}
use Rattle.cedar_types.specs.Schemas.{Schema, has_fault, is_among}
use Rattle.cedar_types.specs.Values.Stores.{Store, ConformingStore}
use Rattle.cedar_types.specs.Values.{Value, VBool, VEntity, VSet, Values, no_values, more_values, OnEntity, AllValues, HasType}
use Rattle.cedar_typing.specs.Evaluation.Equality.{all_values, any_value}
use Rattle.cedar_typing.specs.Evaluation.Eval.{is_in, is_in_entity, is_some_entity, entity_in, value_in}
use Rattle.cedar_typing.specs.Evaluation.World.{TypeFailure, Gives, Fails}
use Rattle.cedar_typing.specs.Rules.Membership.{types_of_entity, types_of_ancestors, may_be_among}
use Rattle.cedar_typing.specs.Soundness.{HasFound, IsSafe}
use Rattle.cedar_typing.specs.TypeTests.{accepts, entity_types, ancestor_types}
use Rattle.cedar_typing.proofs.Soundness.Kinds.{entity_value}
use Rattle.cedar_typing.proofs.Values.Membership.{in_denied}

-- ---- the outcome is a Bool, if it is a value

if_bool : (b c : Bool) → HasFound (Some (TBool AnyBool)) (if b then Gives (VBool c) else Fails TypeFailure)
if_bool true c = tt
if_bool false c = tt

pub in_bool : (store : Store) (v w : Value) → HasFound (Some (TBool AnyBool)) (value_in store v w)
in_bool store (VEntity u) (VEntity v) = tt
in_bool store (VEntity u) (VSet vs) = if_bool (all_values is_some_entity vs) (any_value (is_in_entity store u) vs)
in_bool store v w = tt

-- ---- the outcome is a value, for values of the expected types

-- the members of a set of the expected type are entities
member_type : (t : Ty) → accepts ancestor_types (TSet t) ≡ true → accepts entity_types t ≡ true
member_type TNever a = refl
member_type (TEntity ps) a = refl
member_type TAnyEntity a = refl
member_type t a = absurd (true≢false (sym a))

member_entity : (v : Value) → OnEntity (λ u. Unit {0}) v → is_some_entity v ≡ true
member_entity (VEntity u) h = refl
member_entity v h = absurd h

members_entities : (t : Ty) → accepts entity_types t ≡ true → (vs : Values) → AllValues (HasType t) vs → all_values is_some_entity vs ≡ true
members_entities t a no_values h = refl
members_entities t a (more_values v vs) h = λ i. member_entity v (entity_value t v a h.0) i && members_entities t a vs h.1 i

module _ (store : Store) where
  set_safe : (u : Uid) (vs : Values) → all_values is_some_entity vs ≡ true → IsSafe (entity_in store u (VSet vs))
  set_safe u vs h =
      let b = any_value (is_in_entity store u) vs in
      subst (λ c. IsSafe (if c then Gives (VBool b) else Fails TypeFailure)) (sym h) tt

  entity_safe : (u : Uid) (t : Ty) (w : Value) → accepts ancestor_types t ≡ true → HasType t w → IsSafe (entity_in store u w)
  entity_safe u TNever w a h = absurd h
  entity_safe u (TSet t) (VSet vs) a h = set_safe u vs (members_entities t (member_type t a) vs h)
  entity_safe u (TSet t) w a h = absurd h
  entity_safe u (TEntity ps) (VEntity v) a h = tt
  entity_safe u (TEntity ps) w a h = absurd h
  entity_safe u TAnyEntity (VEntity v) a h = tt
  entity_safe u TAnyEntity w a h = absurd h
  entity_safe u t w a h = absurd (true≢false (sym a))

  of_entity_safe : (t : Ty) (v w : Value) → OnEntity (λ u. Unit {0}) v → accepts ancestor_types t ≡ true
      → HasType t w → IsSafe (value_in store v w)
  of_entity_safe t (VEntity u) w e a h = entity_safe u t w a h
  of_entity_safe t v w e a h = absurd e

  pub in_safe : (s t : Ty) (v w : Value) → accepts entity_types s ≡ true → accepts ancestor_types t ≡ true → HasType s v → HasType t w
      → IsSafe (value_in store v w)
  in_safe s t v w a b h k = of_entity_safe t v w (entity_value s v a h) b k

-- ---- the outcome is False, if the schema denies it of the types

-- the entity is of one of the types, if they are known
abbrev IsOfTypes : Option (List Path) → Value → Type 0
IsOfTypes None v = Unit {0}
IsOfTypes (Some ps) v = OnEntity (λ u. IsTrue (is_among ps u.entity_type)) v

-- the entity is in none of the types
abbrev NoneAmong : Store → Uid → List Path → Type 0
NoneAmong store u qs = (v : Uid) → is_among qs v.entity_type ≡ true → is_in store u v ≡ false

-- an entity that is in no entity of the types is not in the value, if the types are known
abbrev AreOfTypes : Option (List Path) → Value → Type 0
AreOfTypes None w = Unit {0}
AreOfTypes (Some qs) w = (store : Store) (u : Uid) → NoneAmong store u qs → HasFound (Some (TBool False)) (entity_in store u w)

left_types : (s : Option Ty) (v : Value) → HasFound s (Gives v) → IsOfTypes (types_of_entity s) v
left_types (Some (TEntity ps)) v h = h
left_types s v h = tt

false_has : (b : Bool) → b ≡ false → HasFound (Some (TBool False)) (Gives (VBool b))
false_has b e = subst (λ c. HasFound (Some (TBool False)) (Gives (VBool c))) (sym e) refl

if_false : (b c : Bool) → c ≡ false → HasFound (Some (TBool False)) (if b then Gives (VBool c) else Fails TypeFailure)
if_false true c e = false_has c e
if_false false c e = tt

module _ (qs : List Path) where
  one_of_types : (w : Value) → HasType (TEntity qs) w → AreOfTypes (Some qs) w
  one_of_types (VEntity v) h = λ store u none. false_has (is_in store u v) (none v h)
  one_of_types w h = absurd h

  none_of_set : (store : Store) (u : Uid) → NoneAmong store u qs → (ws : Values) → AllValues (HasType (TEntity qs)) ws
      → any_value (is_in_entity store u) ws ≡ false
  none_of_set store u none no_values h = refl
  none_of_set store u none (more_values (VEntity v) ws) h = λ i. none v h.0 i || none_of_set store u none ws h.1 i
  none_of_set store u none (more_values w ws) h = absurd h.0

  set_of_types : (w : Value) → HasType (TSet (TEntity qs)) w → AreOfTypes (Some qs) w
  set_of_types (VSet ws) h = λ store u none.
      if_false (all_values is_some_entity ws) (any_value (is_in_entity store u) ws) (none_of_set store u none ws h)
  set_of_types w h = absurd h

right_types : (t : Option Ty) (w : Value) → HasFound t (Gives w) → AreOfTypes (types_of_ancestors t) w
right_types (Some (TEntity qs)) w h = one_of_types qs w h
right_types (Some (TSet (TEntity qs))) w h = set_of_types qs w h
right_types t w h = tt

module _ (s : Schema) (faults : has_fault s ≡ false) (store : Store) (conforms : ConformingStore s store) where
  denied : (ps qs : Option (List Path)) → may_be_among s ps qs ≡ false → (v w : Value) → IsOfTypes ps v → AreOfTypes qs w
      → HasFound (Some (TBool False)) (value_in store v w)
  denied (Some ps) (Some qs) n (VEntity u) w h k = k store u (λ v among. in_denied s faults store conforms ps qs n u v h among)
  denied (Some ps) (Some qs) n v w h k = absurd h
  denied ps qs n v w h k = absurd (true≢false n)

  by_types : (b : Bool) (ps qs : Option (List Path)) → may_be_among s ps qs ≡ b → (v w : Value) → IsOfTypes ps v → AreOfTypes qs w
      → HasFound (Some (if b then TBool AnyBool else TBool False)) (value_in store v w)
  by_types true ps qs e v w h k = in_bool store v w
  by_types false ps qs e v w h k = denied ps qs e v w h k

  pub in_typed : (o p : Option Ty) (v w : Value) → HasFound o (Gives v) → HasFound p (Gives w)
      → HasFound
      (Some (if may_be_among s (types_of_entity o) (types_of_ancestors p) then TBool AnyBool else TBool False))
      (value_in store v w)
  in_typed o p v w h k =
      let ps = types_of_entity o in
      let qs = types_of_ancestors p in
      by_types (may_be_among s ps qs) ps qs refl v w (left_types o v h) (right_types p w k)
