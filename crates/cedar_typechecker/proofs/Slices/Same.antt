-- The properties that induction proves of an expression: it evaluates over a part of the store as
-- over the whole store, and if it is a target, the ids that it selects are reached.
use Rattle.std.proofs.Common.{◌≡◌, ℕ, ◌≤◌, true, false, List, Some, refl, ap, subst}
use Rattle.cedar_types.specs.declared.base.types.BoolType.TheVariants.{True, False}
use Rattle.cedar_types.specs.Names.{Text, Uid}
use Rattle.cedar_types.specs.Types.{Ty, TBool}
use Rattle.cedar_types.specs.Values.{Value, VBool}
use Rattle.cedar_typing.specs.Capabilities.{Caps}
use Rattle.cedar_typing.specs.Evaluation.Conformance.{AllHold}
use Rattle.cedar_typing.specs.Evaluation.Outcomes.{Test, Says, Stops, test_of, of_test, choose, and_test, or_test}
use Rattle.cedar_typing.specs.Evaluation.World.{World, Failure, Outcome, Gives, Fails}
use Rattle.cedar_typing.specs.Judgments.{Judgment}
use Rattle.cedar_typing.specs.Soundness.{OnValue, HasFound, IsTrueOutcome}
use Rattle.cedar_typing.specs.TypedExpr.{TypedTree, annotation}
use Rattle.cedar_typechecker.specs.Levels.Setting.{LevelSetting}
use Rattle.cedar_typechecker.proofs.Levels.Silent.{Silent, Targeted}
use Rattle.cedar_typechecker.proofs.Slices.Ids.{Selected, select_bool}

-- ---- type soundness, for the derivations of an expression that evaluates to o

pub record IsTold (world : World) (o : Outcome) (J : Judgment) : Type 0 where
  pub typed : (t : Ty) (c : Caps) (x : TypedTree) → J.derives t c x → HasFound (Some t) o
  pub found : (t : Ty) (c : Caps) (x : TypedTree) → J.derives t c x → HasFound (annotation x) o
  pub caps_hold_if_true : (t : Ty) (c : Caps) (x : TypedTree) → J.derives t c x
      → IsTrueOutcome o → AllHold world c
  pub caps_hold_at_true : (c : Caps) (x : TypedTree) → J.derives (TBool True) c x
      → AllHold world c

-- the part of type soundness that `&&` needs of its left side
pub record IsToldLeft (world : World) (o : Outcome) (J : Judgment) : Type 0 where
  pub is_false : (c : Caps) (x : TypedTree) → J.derives (TBool False) c x
      → HasFound (Some (TBool False)) o
  pub caps_hold_if_true : (t : Ty) (c : Caps) (x : TypedTree) → J.derives t c x
      → IsTrueOutcome o → AllHold world c

pub told_left : (world : World) (o : Outcome) (J : Judgment) → IsTold world o J
    → IsToldLeft world o J
told_left world o J k = record {
  is_false = k.typed (TBool False);
  caps_hold_if_true = k.caps_hold_if_true;
}

-- ---- the properties

-- the outcome o' over the part is o, that over the whole store, and the ids that a target selects
-- are reached
pub record IsReached (P : ℕ → Uid → Type 0) (path : List Text) (k : ℕ) (o o' : Outcome) :
    Type 0 where
  pub same : o' ≡ o
  pub ids : OnValue (Selected (P k) path) o

-- the properties of an expression, for each derivation in which no level error is found
pub record IsSame (s : LevelSetting) (P : ℕ → Uid → Type 0) (o o' : Outcome) (J : Judgment) :
    Type 0 where
  pub checked : (t : Ty) (c : Caps) (x : TypedTree) → J.derives t c x → Silent s x → o' ≡ o
  pub target : (t : Ty) (c : Caps) (x : TypedTree) → J.derives t c x
      → (path : List Text) (k : ℕ) → k ≤ s.maximum → Targeted s x path k
      → IsReached P path k o o'

-- ---- outcomes

pub value_map : {Q R : Value → Type 0} (o : Outcome) → ((v : Value) → Q v → R v) → OnValue Q o
    → OnValue R o
value_map (Gives v) f h = f v h
value_map (Fails e) f h = tt

pub fails_reached : (P : ℕ → Uid → Type 0) (path : List Text) (k : ℕ) (f : Failure)
    → IsReached P path k (Fails f) (Fails f)
fails_reached P path k f = record { same = refl; ids = tt }

pub test_ids : (Q : Uid → Type 0) (path : List Text) (t : Test)
    → OnValue (Selected Q path) (of_test t)
test_ids Q path (Says b) = select_bool Q path b
test_ids Q path (Stops f) = tt

-- an outcome of the type True is not false, and one of the type False is not true
not_false : (o : Outcome) → HasFound (Some (TBool True)) o → o ≡ Gives (VBool false) → ⊥
not_false o h e = let k : HasFound (Some (TBool True)) (Gives (VBool false)) = subst (HasFound (Some (TBool True))) e h in cc

not_true : (o : Outcome) → HasFound (Some (TBool False)) o → IsTrueOutcome o → ⊥
not_true (Gives (VBool true)) h t = cc
not_true (Gives (VBool false)) h t = cc
not_true (Gives v) h t = absurd h
not_true (Fails f) h t = t

-- Q holds of an `if` if it holds of both branches, or of the one that is taken, and of each failure
module _ (Q : Outcome → Outcome → Type 0) (fails : (f : Failure) → Q (Fails f) (Fails f))
    (p q p' q' : Outcome) where
  chosen : (o : Outcome) → (IsTrueOutcome o → Q p p') → (o ≡ Gives (VBool false) → Q q q')
      → Q (choose (test_of o) p q) (choose (test_of o) p' q')
  chosen (Gives (VBool true)) f g = f refl
  chosen (Gives (VBool false)) f g = g refl
  chosen (Gives v) f g = fails _
  chosen (Fails e) f g = fails e

  pub chosen_true : (o : Outcome) → HasFound (Some (TBool True)) o → Q p p'
      → Q (choose (test_of o) p q) (choose (test_of o) p' q')
  chosen_true o h e = chosen o (λ t. e) (λ f. absurd (not_false o h f))

  pub chosen_false : (o : Outcome) → HasFound (Some (TBool False)) o → Q q q'
      → Q (choose (test_of o) p q) (choose (test_of o) p' q')
  chosen_false o h e = chosen o (λ t. absurd (not_true o h t)) (λ f. e)

  pub chosen_open : (o : Outcome) → (IsTrueOutcome o → Q p p') → Q q q'
      → Q (choose (test_of o) p q) (choose (test_of o) p' q')
  chosen_open o f e = chosen o f (λ g. e)

-- the right side of `&&` counts if the left one is true, that of `||` if it is not
module _ (p p' : Outcome) where
  pub or_left_true : (o : Outcome) → HasFound (Some (TBool True)) o
      → of_test (or_test (test_of o) (test_of p')) ≡ of_test (or_test (test_of o) (test_of p))
  or_left_true (Gives (VBool true)) h = refl
  or_left_true (Gives (VBool false)) h = cc
  or_left_true (Gives v) h = absurd h
  or_left_true (Fails f) h = refl

  pub and_sides : (o : Outcome) → (IsTrueOutcome o → p' ≡ p)
      → of_test (and_test (test_of o) (test_of p')) ≡ of_test (and_test (test_of o) (test_of p))
  and_sides (Gives (VBool true)) f = ap (λ z. of_test (test_of z)) (f refl)
  and_sides (Gives (VBool false)) f = refl
  and_sides (Gives v) f = refl
  and_sides (Fails g) f = refl

  pub and_left_false : (o : Outcome) → HasFound (Some (TBool False)) o
      → of_test (and_test (test_of o) (test_of p')) ≡ of_test (and_test (test_of o) (test_of p))
  and_left_false o h = and_sides o (λ t. absurd (not_true o h t))
