-- Forms with one operand or two: the whole has the property that is proved of its operands.
use Rattle.std.proofs.Common.{◌≡◌, ℕ, ◌≤◌, List, [], ◌∷◌, Option}
use Rattle.cedar_types.specs.declared.base.location.Loc.{Loc}
use Rattle.cedar_types.specs.Names.{Text, Uid}
use Rattle.cedar_types.specs.Types.{Ty}
use Rattle.cedar_typing.specs.Capabilities.{Caps}
use Rattle.cedar_typing.specs.Eager.{Form}
use Rattle.cedar_typing.specs.Evaluation.World.{Outcome}
use Rattle.cedar_typing.specs.Judgments.{Judgment}
use Rattle.cedar_typing.specs.Rules.Eager.{none_derived, also_derived, eager_typed, one_operand_rules, two_operand_rules}
use Rattle.cedar_typing.specs.TypeEnv.{TypeEnv}
use Rattle.cedar_typing.specs.TypedExpr.{TypedTree, typed}
use Rattle.cedar_typechecker.specs.Levels.Setting.{LevelSetting}
use Rattle.cedar_typechecker.proofs.Levels.Silent.{Silent, Targeted}
use Rattle.cedar_typechecker.proofs.Slices.Same.{IsReached, IsSame}

-- o and o' are the outcomes of the whole, whose form is f
module _ (s : LevelSetting) (P : ℕ → Uid → Type 0) (env : TypeEnv) (f : Form)
    (o o' : Outcome) where
  abbrev IsSilent : Ty → List TypedTree → Type 0
  IsSilent t xs = Silent s (f.node (typed t f.at) xs)

  abbrev IsTargeted : Ty → List TypedTree → List Text → ℕ → Type 0
  IsTargeted t xs = Targeted s (f.node (typed t f.at) xs)

  -- the obligations for a form with one operand, by a typed copy of the operand
  pub record OneSame (J : Judgment) : Type 0 where
    pub checked : (t u : Ty) (c : Caps) (y : TypedTree) → J.derives u c y → IsSilent t (y ∷ [])
        → o' ≡ o
    pub target : (t u : Ty) (c : Caps) (y : TypedTree) → J.derives u c y
        → (path : List Text) (k : ℕ) → k ≤ s.maximum → IsTargeted t (y ∷ []) path k
        → IsReached P path k o o'

  module _ (l : Option Loc) (J : Judgment) (one : OneSame J) where
    abbrev One : Judgment
    One = one_operand_rules env f l J

    one_checked : (t : Ty) (c : Caps) (x : TypedTree) → One.derives t c x → Silent s x → o' ≡ o
    one_checked t c x (eager_typed (also_derived {t = u} {c = k} {x = y} d i none_derived) e) h =
        one.checked t u k y d h

    one_target : (t : Ty) (c : Caps) (x : TypedTree) → One.derives t c x
        → (path : List Text) (k : ℕ) → k ≤ s.maximum → Targeted s x path k
        → IsReached P path k o o'
    one_target t c x (eager_typed (also_derived {t = u} {c = k} {x = y} d i none_derived) e)
        path z le h = one.target t u k y d path z le h

    pub one_same : IsSame s P o o' One
    one_same = record { checked = one_checked; target = one_target }

  -- the obligations for a form with two operands
  pub record TwoSame (J J' : Judgment) : Type 0 where
    pub checked : (t u v : Ty) (c c' : Caps) (y z : TypedTree) → J.derives u c y
        → J'.derives v c' z → IsSilent t (y ∷ z ∷ []) → o' ≡ o
    pub target : (t u v : Ty) (c c' : Caps) (y z : TypedTree) → J.derives u c y
        → J'.derives v c' z → (path : List Text) (k : ℕ) → k ≤ s.maximum
        → IsTargeted t (y ∷ z ∷ []) path k → IsReached P path k o o'

  module _ (l l' : Option Loc) (J J' : Judgment) (two : TwoSame J J') where
    abbrev Two : Judgment
    Two = two_operand_rules env f l l' J J'

    two_checked : (t : Ty) (c : Caps) (x : TypedTree) → Two.derives t c x → Silent s x → o' ≡ o
    two_checked t c x
        (eager_typed (also_derived {t = u} {c = k} {x = y} d i
        (also_derived {t = u'} {c = k'} {x = y'} d' i' none_derived)) e) h =
        two.checked t u u' k k' y y' d d' h

    two_target : (t : Ty) (c : Caps) (x : TypedTree) → Two.derives t c x
        → (path : List Text) (k : ℕ) → k ≤ s.maximum → Targeted s x path k
        → IsReached P path k o o'
    two_target t c x
        (eager_typed (also_derived {t = u} {c = k} {x = y} d i
        (also_derived {t = u'} {c = k'} {x = y'} d' i' none_derived)) e) path z le h =
        two.target t u u' k k' y y' d d' path z le h

    pub two_same : IsSame s P o o' Two
    two_same = record { checked = two_checked; target = two_target }
