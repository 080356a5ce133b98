-- The rule of `if a then b else e`.
use Rattle.std.specs.Prelude.{◌≡◌, Bool, true, false, ◌&&◌, List, ◌++◌, Option, Some, is_some}
use Rattle.cedar_types.specs.declared.base.location.Loc.{Loc}
use Rattle.cedar_types.specs.declared.base.errors.type_errors.LubContext.TheVariants.{Conditional}
use Rattle.cedar_types.specs.declared.base.types.BoolType.TheVariants.{True, False}
use Rattle.cedar_types.specs.Types.{Ty, TBool}
use Rattle.cedar_types.specs.Expressions.Tree.{if_then_else}
use Rattle.cedar_types.specs.Expressions.View.{Written}
use Rattle.cedar_types.specs.Types.Bounds.{lub}
use Rattle.cedar_types.specs.Errors.{Finding}
use Rattle.cedar_typing.specs.Capabilities.{Caps, union, intersection}
use Rattle.cedar_typing.specs.TypeTests.Joins.{joined, join_errors}
use Rattle.cedar_typing.specs.Judgments.{Judgment, PartResult, Operand, PartOrCut}
use Rattle.cedar_typing.specs.TypeEnv.{TypeEnv}
use Rattle.cedar_typing.specs.TypeTests.{accepts, bool_types, is_false, is_true, annotation_passes}
use Rattle.cedar_typing.specs.TypedExpr.{TypedTree, typed, typed_as, annotation}

-- ---- the rules

module _ (env : TypeEnv) (m : Written) (l : Option Loc)
    (A : Judgment) (B : Caps → Judgment) (E : Judgment) (prior : Caps) where
  -- the test; the first branch after a test that produces c, which it may use, because it runs only if the
  -- test is true; and the other branch, which may use nothing of the test, because it runs only if the
  -- test is false
  abbrev pub Test : Bool → Caps → TypedTree → List Finding → Type 0
  Test = Operand env bool_types l A

  abbrev pub Then : Caps → Bool → Caps → TypedTree → List Finding → Type 0
  Then c = PartResult (B (union prior c))

  abbrev pub Else : Bool → Caps → TypedTree → List Finding → Type 0
  Else = PartResult E

  pub data IfRule : Ty → Caps → TypedTree → Type 0 where
    -- the test is True: b stands for both branches, and e is not visited
    if_true : {t : Ty} {c c' : Caps} {a b : TypedTree}
        → A.derives (TBool True) c a → (B (union prior c)).derives t c' b
        → IfRule t (union c c') (if_then_else (typed t m) a b b)
    -- the test is False: e stands for both branches, and b is not visited
    if_false : {t : Ty} {c c' : Caps} {a e : TypedTree}
        → A.derives (TBool False) c a → E.derives t c' e
        → IfRule t c' (if_then_else (typed t m) a e e)
    -- else both are typed, and the type is their bound. The whole produces only the capabilities of e
    -- that a and b together produce too, because either branch may have run
    if_open : {s t u v : Ty} {c c' c'' : Caps} {a b e : TypedTree}
        → A.derives s c a → accepts bool_types s ≡ true → is_true s ≡ false → is_false s ≡ false
        → (B (union prior c)).derives t c' b → E.derives u c'' e → lub env.mode t u ≡ Some v
        → IfRule v (intersection c'' (union c c')) (if_then_else (typed v m) a b e)

  pub data IfRecovery : TypedTree → List Finding → Type 0 where
    -- the test is True, and the test or b failed: the branch's type, if it has one
    if_true_recovered : {succeeded succeeded' : Bool} {c c' : Caps} {a b : TypedTree}
        {es es' : List Finding}
        → Test succeeded c a es → annotation_passes is_true (annotation a) ≡ true
        → Then c succeeded' c' b es' → (succeeded && succeeded') ≡ false
        → IfRecovery (if_then_else (typed_as (annotation b) m) a b b) (es ++ es')
    -- the test is False, and the test or e failed: the branch's type, if it has one
    if_false_recovered : {succeeded succeeded' : Bool} {c c' : Caps} {a e : TypedTree}
        {es es' : List Finding}
        → Test succeeded c a es → annotation_passes is_false (annotation a) ≡ true
        → Else succeeded' c' e es' → (succeeded && succeeded') ≡ false
        → IfRecovery (if_then_else (typed_as (annotation e) m) a e e) (es ++ es')
    -- the test is open, and a part failed or the branches have no bound
    if_open_recovered : {succeeded succeeded' succeeded'' : Bool} {c c' c'' : Caps}
        {a b e : TypedTree} {es es' es'' : List Finding}
        → Test succeeded c a es
        → annotation_passes is_true (annotation a) ≡ false
        → annotation_passes is_false (annotation a) ≡ false
        → Then c succeeded' c' b es' → Else succeeded'' c'' e es''
        → (succeeded && succeeded' && succeeded''
        && is_some (joined env.mode (annotation b) (annotation e))) ≡ false
        → IfRecovery
        (if_then_else (typed_as (joined env.mode (annotation b) (annotation e)) m) a b e)
        (es ++ es' ++ es'' ++ join_errors env m.place Conditional (annotation b) (annotation e))

  pub data IfCut : List Finding → Type 0 where
    -- the test is cut: no branch is visited
    if_test_cut : {es : List Finding} → A.cuts es → IfCut es
    -- the test is True or False, and the branch that stands for both is cut
    if_true_cut : {succeeded : Bool} {c : Caps} {a : TypedTree} {es es' : List Finding}
        → Test succeeded c a es → annotation_passes is_true (annotation a) ≡ true
        → (B (union prior c)).cuts es' → IfCut (es ++ es')
    if_false_cut : {succeeded : Bool} {c : Caps} {a : TypedTree} {es es' : List Finding}
        → Test succeeded c a es → annotation_passes is_false (annotation a) ≡ true
        → E.cuts es' → IfCut (es ++ es')
    -- the test is open, and a branch is cut: both branches are visited, and the errors of both count
    if_then_cut : {succeeded : Bool} {c : Caps} {a : TypedTree} {es es' es'' : List Finding}
        → Test succeeded c a es
        → annotation_passes is_true (annotation a) ≡ false
        → annotation_passes is_false (annotation a) ≡ false
        → (B (union prior c)).cuts es' → PartOrCut E es'' → IfCut (es ++ es' ++ es'')
    if_else_cut : {succeeded succeeded' : Bool} {c c' : Caps} {a b : TypedTree}
        {es es' es'' : List Finding}
        → Test succeeded c a es
        → annotation_passes is_true (annotation a) ≡ false
        → annotation_passes is_false (annotation a) ≡ false
        → Then c succeeded' c' b es' → E.cuts es'' → IfCut (es ++ es' ++ es'')

  abbrev pub if_rules : Judgment
  if_rules = record { derives = IfRule; recovers = IfRecovery; cuts = IfCut }
