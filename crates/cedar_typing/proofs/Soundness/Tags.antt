-- `hasTag` and `getTag` do not go wrong.
use Rattle.std.proofs.Common.{◌≡◌, Bool, true, false, List, [], ◌∷◌, Option, Some, None, is_some, ◌||◌, if◌then◌else◌, refl, sym, subst}
use Rattle.cedar_types.specs.declared.base.expressions.operators.BinaryOp.{BinaryOp}
use Rattle.cedar_types.specs.declared.base.types.BoolType.TheVariants.{AnyBool, True, False}
use Rattle.cedar_types.specs.Names.{Text}
use Rattle.cedar_types.specs.Types.{Ty, TNever, TBool}
use Rattle.cedar_types.specs.Expressions.Tree.{binary}
use Rattle.cedar_types.specs.Expressions.View.{Written}
use Rattle.cedar_types.specs.Types.Bounds.{is_strict, list_lub}
use Rattle.cedar_types.specs.Types.Lookups.{tag_types}
use Rattle.cedar_types.specs.Schemas.{has_fault}
use Rattle.cedar_types.specs.Errors.{Finding}
use Rattle.cedar_types.specs.Values.{Value, VString, VEntity, IsString, OnEntity, HasType, entry_at}
use Rattle.cedar_types.specs.Values.Stores.{Entity, Store, entity_at, ConformingStore}
use Rattle.cedar_typing.specs.Capabilities.{Caps, single}
use Rattle.cedar_types.specs.Schemas.Formed.{has_formed_types}
use Rattle.cedar_typing.specs.Eager.{Decision, refuses, Form}
use Rattle.cedar_typing.specs.Evaluation.Conformance.{has_external, HasTagOf, HasTag, AllHold}
use Rattle.cedar_typing.specs.Evaluation.Eval.{entity_has_tag, has_tag, tag_value, entity_tag, get_tag, eval}
use Rattle.cedar_typing.specs.Evaluation.Outcomes.{of_test, on_value}
use Rattle.cedar_typing.specs.Evaluation.World.{World, Outcome, Gives, Fails}
use Rattle.cedar_typing.specs.Rules.Tags.{tag_of, has_tag_type, has_tag_table, has_tag_form, tag_by_bound, get_known_tag, get_tag_table}
use Rattle.cedar_typing.specs.Rules.Tags.{get_tag_form}
use Rattle.cedar_typing.specs.Soundness.{OnValue, HasFound, IsSafe, IsTrueOutcome}
use Rattle.cedar_typing.specs.TypeEnv.{TypeEnv}
use Rattle.cedar_typing.specs.TypeTests.{accepts, entity_types, string_types}
use Rattle.cedar_typing.specs.TypedExpr.{Source, form_of}
use Rattle.cedar_typing.proofs.Bounds.Lists.{bound_has}
use Rattle.cedar_typing.proofs.Basics.Members.{AreAll}
use Rattle.cedar_typing.proofs.KeptTypes.Declarations.{tags_kept}
use Rattle.cedar_typing.proofs.KeptTypes.Eager.{decided_type}
use Rattle.cedar_typing.proofs.KeptTypes.Types.{keeping, KeptIn, formed_if}
use Rattle.cedar_typing.proofs.Soundness.Capabilities.{eval_form, hold_just}
use Rattle.cedar_typing.proofs.Soundness.Eager.{of_two, GiftIsSound, SoundForm}
use Rattle.cedar_typing.proofs.Soundness.FixedTypes.{silent_gift}
use Rattle.cedar_typing.proofs.Soundness.Kinds.{string_value, entity_value}
use Rattle.cedar_typing.proofs.Soundness.Parts.{IsSure}
use Rattle.cedar_typing.proofs.Values.Tags.{HasOneOf, tag_got, no_tag}

-- ---- of two values

module _ (store : Store) where
  any_said : (v w : Value) → HasFound (Some (TBool AnyBool)) (of_test (has_tag store v w))
  any_said (VEntity u) (VString x) = tt
  any_said (VEntity u) w = tt
  any_said v w = tt

  true_said : (v w : Value) → HasTagOf store (Gives v) w → HasFound (Some (TBool True)) (of_test (has_tag store v w))
  true_said (VEntity u) (VString x) h = h
  true_said (VEntity u) w h = tt
  true_said v w h = tt

  said_true : (v w : Value) → IsTrueOutcome (of_test (has_tag store v w)) → HasTagOf store (Gives v) w
  said_true (VEntity u) (VString x) h = h
  said_true (VEntity u) w h = absurd h
  said_true v w h = absurd h

  test_safe : (v w : Value) → OnEntity (λ u. Unit {0}) v → IsString w → IsSafe (of_test (has_tag store v w))
  test_safe (VEntity u) (VString x) h k = tt
  test_safe (VEntity u) w h k = absurd k
  test_safe v w h k = absurd h

  -- reading a tag that is there is safe
  value_safe : (o : Option Value) → is_some o ≡ true → IsSafe (tag_value o)
  value_safe None h = cc
  value_safe (Some v) h = tt

  entity_safe : (q : Option Entity) (x : Text) → entity_has_tag q x ≡ true → IsSafe (entity_tag q x)
  entity_safe None x h = cc
  entity_safe (Some e) x h = value_safe (entry_at x e.tags) h

  there_safe : (v w : Value) → IsString w → HasTagOf store (Gives v) w → IsSafe (get_tag store v w)
  there_safe (VEntity u) (VString x) k h = entity_safe (entity_at store u) x h
  there_safe (VEntity u) w k h = absurd k
  there_safe v (VString x) k h = absurd h
  there_safe v w k h = absurd k

-- ---- of two outcomes

module _ (env : TypeEnv) (world : World) (closed : has_external env.schema ≡ false)
    (conforms : ConformingStore env.schema world.store) where
  -- the tag is there, if both are values
  abbrev IsThere : Outcome → Outcome → Type 0
  IsThere o o' = HasTag world.store o o'

  abbrev whole_has : Outcome → Outcome → Outcome
  whole_has o o' = on_value o (λ v. on_value o' (λ w. of_test (has_tag world.store v w)))

  abbrev whole_get : Outcome → Outcome → Outcome
  whole_get o o' = on_value o (λ v. on_value o' (get_tag world.store v))

  any_has : (o o' : Outcome) → HasFound (Some (TBool AnyBool)) (whole_has o o')
  any_has (Gives v) (Gives w) = any_said world.store v w
  any_has (Gives v) (Fails f) = tt
  any_has (Fails f) o' = tt

  true_has : (o o' : Outcome) → IsThere o o' → HasFound (Some (TBool True)) (whole_has o o')
  true_has (Gives v) (Gives w) h = true_said world.store v w h
  true_has (Gives v) (Fails f) h = tt
  true_has (Fails f) o' h = tt

  false_has : (s : Ty) → tag_types env.schema s ≡ [] → (o o' : Outcome) → HasFound (Some s) o
      → HasFound (Some (TBool False)) (whole_has o o')
  false_has s none (Gives v) (Gives w) h = no_tag env.schema closed world.store conforms s none v w h
  false_has s none (Gives v) (Fails f) h = tt
  false_has s none (Fails f) o' h = tt

  has_told : (o o' : Outcome) → IsTrueOutcome (whole_has o o') → IsThere o o'
  has_told (Gives v) (Gives w) h = said_true world.store v w h
  has_told (Gives v) (Fails f) h = tt
  has_told (Fails f) o' h = absurd h

  module _ (t : Ty) (text : accepts string_types t ≡ true) where
    has_safe : (s : Ty) → accepts entity_types s ≡ true → (o o' : Outcome) → HasFound (Some s) o → HasFound (Some t) o'
        → IsSafe o → IsSafe o' → IsSafe (whole_has o o')
    has_safe s entity (Gives v) (Gives w) h k g g' = test_safe world.store v w (entity_value s v entity h) (string_value t w text k)
    has_safe s entity (Gives v) (Fails f) h k g g' = g'
    has_safe s entity (Fails f) o' h k g g' = g

    get_safe : (o o' : Outcome) → IsThere o o' → HasFound (Some t) o' → IsSafe o → IsSafe o' → IsSafe (whole_get o o')
    get_safe (Gives v) (Gives w) h k g g' = there_safe world.store v w (string_value t w text k) h
    get_safe (Gives v) (Fails f) h k g g' = g'
    get_safe (Fails f) o' h k g g' = g

  module _ (strictly : Bool) (strict : is_strict env.mode ≡ strictly) where
    under_bound : (ts : List Ty) (u : Ty) → AreAll (KeptIn strictly) ts → list_lub env.mode ts ≡ Some u
        → (o : Outcome) → OnValue (HasOneOf ts) o → OnValue (HasType u) o
    under_bound ts u n e (Gives v) h = bound_has strictly env.mode strict v ts u h.0 e n h.1 h.2
    under_bound ts u n e (Fails f) h = tt

    got_typed : (s u : Ty) → AreAll (KeptIn strictly) (tag_types env.schema s) → list_lub env.mode (tag_types env.schema s) ≡ Some u
        → (o o' : Outcome) → HasFound (Some s) o → HasFound (Some u) (whole_get o o')
    got_typed s u n e (Gives v) (Gives w) h =
        under_bound (tag_types env.schema s) u n e (get_tag world.store v w) (tag_got env.schema closed world.store conforms s v w h)
    got_typed s u n e (Gives v) (Fails f) h = tt
    got_typed s u n e (Fails f) o' h = tt

-- ---- the capability

module _ (world : World) (prior : Caps) (hold : AllHold world prior) (a b : Source) where
  -- the tag is there if the capability for it is known
  known_there : prior (tag_of a b) ≡ true → HasTag world.store (eval world a) (eval world b)
  known_there k =
      subst (λ o. HasTag world.store o (eval world b)) (eval_form world a)
      (subst (HasTag world.store (eval world (form_of a))) (eval_form world b) (hold (tag_of a b) k))

  -- the capability for the tag holds if the tag is there
  there_holds : HasTag world.store (eval world a) (eval world b) → AllHold world (single (tag_of a b))
  there_holds h =
      hold_just world (tag_of a b)
      (subst (λ o. HasTag world.store o (eval world (form_of b))) (sym (eval_form world a))
      (subst (HasTag world.store (eval world a)) (sym (eval_form world b)) h))

-- the outcomes of the entity and of the tag
abbrev operands : World → Source → Source → List Outcome
operands world a b = eval world a ∷ eval world b ∷ []

-- ---- `hasTag`

-- the type of `hasTag` is True only if the tag is known to be there
sure_known : (ts : List Ty) (known : Bool) → IsSure (Some (has_tag_type ts known)) → known ≡ true
sure_known [] known h = absurd h
sure_known (t ∷ ts) true h = refl
sure_known (t ∷ ts) false h = absurd h

module _ (env : TypeEnv) (world : World) (closed : has_external env.schema ≡ false) (conforms : ConformingStore env.schema world.store)
    (m : Written) (prior : Caps) (hold : AllHold world prior) (a b : Source) where
  abbrev test : Outcome
  test = eval world (binary m BinaryOp.HasTag a b)

  abbrev test_form : Form
  test_form = has_tag_form env m prior a b

  said_typed : (s : Ty) (ts : List Ty) (known : Bool) → HasFound (Some s) (eval world a) → tag_types env.schema s ≡ ts
      → (known ≡ true → HasTag world.store (eval world a) (eval world b)) → HasFound (Some (has_tag_type ts known)) test
  said_typed s [] known h e f = false_has env world closed conforms s e (eval world a) (eval world b) h
  said_typed s (t ∷ ts) true h e f = true_has env world closed conforms (eval world a) (eval world b) (f refl)
  said_typed s (t ∷ ts) false h e f = any_has env world closed conforms (eval world a) (eval world b)

  test_typed : (s : Ty) → HasFound (Some s) (eval world a)
      → HasFound (decided_type (has_tag_table env m.place (tag_of a b) (prior (tag_of a b)) (Some s))) test
  test_typed TNever h = tt
  test_typed s h = said_typed s (tag_types env.schema s) (prior (tag_of a b)) h refl (known_there world prior hold a b)

  test_gift : (s t : Ty) → accepts entity_types s ≡ true → accepts string_types t ≡ true
      → HasFound (Some s) (eval world a) → HasFound (Some t) (eval world b)
      → GiftIsSound world (operands world a b) test (has_tag_table env m.place (tag_of a b) (prior (tag_of a b)) (Some s))
  test_gift TNever t q r h k = tt
  test_gift s t q r h k = record {
    safe = λ g. has_safe env world closed conforms t r s q (eval world a) (eval world b) h k g.0 g.1.0;
    caps_hold_if_true = λ g. there_holds world prior hold a b (has_told env world closed conforms (eval world a) (eval world b) g);
    caps_hold_at_true = λ g.
        let known = sure_known (tag_types env.schema s) (prior (tag_of a b)) g in
        there_holds world prior hold a b (known_there world prior hold a b known);
  }

  pub has_tag_sound : SoundForm world test_form (operands world a b) test
  has_tag_sound =
      of_two world test_form (eval world a) (eval world b) test (λ ts. tt) (λ s ts h. test_typed s h)
      (λ s t ts q. test_gift s t q.meet.0 q.meet.1.0 q.have.0 q.have.1.0) (λ t h. h)

-- ---- `getTag`

module _ (strictly : Bool) (env : TypeEnv) (world : World) (strict : is_strict env.mode ≡ strictly)
    (faults : has_fault env.schema ≡ false) (formed : (strictly || has_formed_types env.schema) ≡ true)
    (closed : has_external env.schema ≡ false)
    (conforms : ConformingStore env.schema world.store) (m : Written) (prior : Caps) (hold : AllHold world prior) (a b : Source) where
  abbrev got : Outcome
  got = eval world (binary m BinaryOp.GetTag a b)

  abbrev got_form : Form
  got_form = get_tag_form env m prior a b

  -- the table's decision on a type, by whether the tag is known to be there
  abbrev guarded : Bool → Ty → List Finding → Decision
  guarded known s fs = if known then get_known_tag env m.place s (tag_types env.schema s) else refuses None fs

  bound_typed : (s : Ty) (bound : Option Ty) → HasFound (Some s) (eval world a) → list_lub env.mode (tag_types env.schema s) ≡ bound
      → HasFound (decided_type (tag_by_bound env m.place (tag_types env.schema s) bound)) got
  bound_typed s None h e = tt
  bound_typed s (Some u) h e =
      got_typed env world closed conforms strictly strict s u
      (tags_kept (keeping strictly) env.schema faults (formed_if strictly (has_formed_types env.schema) formed) s) e
      (eval world a) (eval world b) h

  types_typed : (s : Ty) (ts : List Ty) → HasFound (Some s) (eval world a) → tag_types env.schema s ≡ ts
      → HasFound (decided_type (get_known_tag env m.place s ts)) got
  types_typed s [] h e = tt
  types_typed s (t ∷ ts) h e =
      subst (λ z. HasFound (decided_type (tag_by_bound env m.place z (list_lub env.mode z))) got) e
      (bound_typed s (list_lub env.mode (tag_types env.schema s)) h refl)

  known_typed : (s : Ty) (known : Bool) (fs : List Finding) → HasFound (Some s) (eval world a)
      → HasFound (decided_type (guarded known s fs)) got
  known_typed s true fs h = types_typed s (tag_types env.schema s) h refl
  known_typed s false fs h = tt

  tag_typed : (s : Ty) → HasFound (Some s) (eval world a)
      → HasFound (decided_type (get_tag_table env m.place (prior (tag_of a b)) (Some s))) got
  tag_typed TNever h = tt
  tag_typed s h = known_typed s (prior (tag_of a b)) _ h

  module _ (t : Ty) (text : accepts string_types t ≡ true) (k : HasFound (Some t) (eval world b)) where
    bound_gift : (us : List Ty) (bound : Option Ty) → prior (tag_of a b) ≡ true
        → GiftIsSound world (operands world a b) got (tag_by_bound env m.place us bound)
    bound_gift us None e = tt
    bound_gift us (Some u) e =
        let there = known_there world prior hold a b e in
        silent_gift world (operands world a b) got u (λ g. get_safe env world closed conforms t text (eval world a) (eval world b) there k g.0 g.1.0)

    types_gift : (s : Ty) (ts : List Ty) → prior (tag_of a b) ≡ true → GiftIsSound world (operands world a b) got (get_known_tag env m.place s ts)
    types_gift s [] e = tt
    types_gift s (u ∷ ts) e = bound_gift (u ∷ ts) (list_lub env.mode (u ∷ ts)) e

    known_gift : (s : Ty) (known : Bool) (fs : List Finding) → prior (tag_of a b) ≡ known → GiftIsSound world (operands world a b) got (guarded known s fs)
    known_gift s true fs e = types_gift s (tag_types env.schema s) e
    known_gift s false fs e = tt

    tag_gift : (s : Ty) → GiftIsSound world (operands world a b) got (get_tag_table env m.place (prior (tag_of a b)) (Some s))
    tag_gift TNever = tt
    tag_gift s = known_gift s (prior (tag_of a b)) _ refl

  pub get_tag_sound : SoundForm world got_form (operands world a b) got
  get_tag_sound =
      of_two world got_form (eval world a) (eval world b) got (λ ts. tt) (λ s ts h. tag_typed s h)
      (λ s t ts q. tag_gift t q.meet.1.0 q.have.1.0 s) (λ t h. h)
