-- The rules of `&&` and `||`: the left side may end the whole; else it decides which capabilities
-- are known on the right.
use Rattle.std.specs.Prelude.{◌≡◌, Bool, true, false, ◌&&◌, List, ◌++◌, Option, Some, if◌then◌else◌}
use Rattle.cedar_types.specs.declared.base.location.Loc.{Loc}
use Rattle.cedar_types.specs.declared.base.types.BoolType.TheVariants.{AnyBool}
use Rattle.cedar_types.specs.Types.{Ty, TBool}
use Rattle.cedar_types.specs.Expressions.Tree.{and, or}
use Rattle.cedar_types.specs.Expressions.View.{Written}
use Rattle.cedar_types.specs.Errors.{Finding}
use Rattle.cedar_typing.specs.Capabilities.{Caps, no_caps, union, intersection}
use Rattle.cedar_typing.specs.Judgments.{Judgment, Operand}
use Rattle.cedar_typing.specs.TypeEnv.{TypeEnv}
use Rattle.cedar_typing.specs.TypeTests.{accepts, bool_types, is_false, is_true, annotation_passes}
use Rattle.cedar_typing.specs.TypedExpr.{TypedTree, Mark, typed, annotation, at_place}

-- the side that gives the whole its type
pub data Side : Type 0 where
  -- the right side, because it ends the whole
  right_ends : Side
  -- the left side, because the right one changes nothing
  left_alone : Side
  -- the right side, because the left one changes nothing
  right_alone : Side
  -- no side: the whole is Bool
  neither : Side

-- the particulars of `&&` and of `||`
pub record Connective : Type 0 where
  -- the types of a side that end the whole, and those that leave the value to the other side
  pub ends : Ty → Bool
  pub changes_nothing : Ty → Bool
  -- the capabilities of a whole that its left side ends
  pub ended_caps : Caps → Caps
  -- the capabilities known on the right, from the prior ones and those that the left side produces
  pub right_prior : Caps → Caps → Caps
  -- the capabilities of a whole of which both sides are typed
  pub side_caps : Side → Caps → Caps → Caps
  pub node : Mark → TypedTree → TypedTree → TypedTree

-- ---- the tables

abbrev pub side_of : Connective → Ty → Ty → Side
side_of f s t =
    if f.ends t then right_ends
    else if f.changes_nothing t then left_alone
    else if f.changes_nothing s then right_alone
    else neither

abbrev pub type_of_side : Side → Ty → Ty → Ty
type_of_side right_ends s t = t
type_of_side left_alone s t = s
type_of_side right_alone s t = t
type_of_side neither s t = TBool AnyBool

-- the type of the whole by the types of both sides
abbrev pub sides_type : Connective → Ty → Ty → Ty
sides_type f s t = type_of_side (side_of f s t) s t

-- the capabilities that the whole produces, by the types of both sides
abbrev pub sides_caps : Connective → Ty → Ty → Caps → Caps → Caps
sides_caps f s t = f.side_caps (side_of f s t)

-- the type if a side failed: that of the table if each side has a type, else Bool
abbrev pub sides_annotation : Connective → Option Ty → Option Ty → Ty
sides_annotation f (Some s) (Some t) = sides_type f s t
sides_annotation f s t = TBool AnyBool

-- a whole with a right False is never true, so it produces nothing. Any other is true only if both
-- sides are, so it produces all that they do
abbrev pub and_caps : Side → Caps → Caps → Caps
and_caps right_ends c c' = no_caps
and_caps left_alone c c' = union c c'
and_caps right_alone c c' = union c c'
and_caps neither c c' = union c c'

-- `a && b`: b is evaluated only if a is true, so b may use the capabilities that a produces
abbrev pub conjunction : Connective
conjunction = record {
  ends = is_false;
  changes_nothing = is_true;
  ended_caps = λ c. no_caps;
  right_prior = union;
  side_caps = and_caps;
  node = and;
}

-- the side that gives the type produces its capabilities alone. If neither does, either side may be
-- the reason that the whole is true, so only the capabilities of both hold
abbrev pub or_caps : Side → Caps → Caps → Caps
or_caps right_ends c c' = c'
or_caps left_alone c c' = c
or_caps right_alone c c' = c'
or_caps neither c c' = intersection c c'

-- `a || b`: b is evaluated only if a is false, so b may not use the capabilities that a produces
abbrev pub disjunction : Connective
disjunction = record {
  ends = is_true;
  changes_nothing = is_false;
  ended_caps = λ c. c;
  right_prior = λ prior c. prior;
  side_caps = or_caps;
  node = or;
}

-- ---- the rules

module _ (env : TypeEnv) (f : Connective) (m : Written) (l l' : Option Loc)
    (A : Judgment) (B : Caps → Judgment) (prior : Caps) where
  -- the result of the left side, and that of the right side after a left one that produces c
  abbrev pub Left : Bool → Caps → TypedTree → List Finding → Type 0
  Left = Operand env bool_types l A

  abbrev pub Right : Caps → Bool → Caps → TypedTree → List Finding → Type 0
  Right c = Operand env bool_types l' (B (f.right_prior prior c))

  pub data ShortCircuitRule : Ty → Caps → TypedTree → Type 0 where
    -- the left side ends the whole: the typed copy is that side alone, at the place of the whole,
    -- and the right side is not visited, because it is never evaluated
    left_ends : {s : Ty} {c : Caps} {a : TypedTree}
        → A.derives s c a → accepts bool_types s ≡ true → f.ends s ≡ true
        → ShortCircuitRule s (f.ended_caps c) (at_place m.place a)
    -- else both sides are typed
    both_sides : {s t : Ty} {c c' : Caps} {a b : TypedTree}
        → A.derives s c a → accepts bool_types s ≡ true → f.ends s ≡ false
        → (B (f.right_prior prior c)).derives t c' b → accepts bool_types t ≡ true
        → ShortCircuitRule (sides_type f s t) (sides_caps f s t c c')
        (f.node (typed (sides_type f s t) m) a b)

  pub data ShortCircuitRecovery : TypedTree → List Finding → Type 0 where
    -- the left side failed, but has a type that ends the whole all the same
    left_ends_failed : {c : Caps} {a : TypedTree} {es : List Finding}
        → Left false c a es → annotation_passes f.ends (annotation a) ≡ true
        → ShortCircuitRecovery (at_place m.place a) es
    -- a side failed, and the left one does not end the whole
    side_failed : {succeeded succeeded' : Bool} {c c' : Caps} {a b : TypedTree}
        {es es' : List Finding}
        → Left succeeded c a es → annotation_passes f.ends (annotation a) ≡ false
        → Right c succeeded' c' b es' → (succeeded && succeeded') ≡ false
        → ShortCircuitRecovery
        (f.node (typed (sides_annotation f (annotation a) (annotation b)) m) a b) (es ++ es')

  pub data ShortCircuitCut : List Finding → Type 0 where
    -- the left side is cut: the right one is not visited
    left_cut : {es : List Finding} → A.cuts es → ShortCircuitCut es
    right_cut : {succeeded : Bool} {c : Caps} {a : TypedTree} {es es' : List Finding}
        → Left succeeded c a es → annotation_passes f.ends (annotation a) ≡ false
        → (B (f.right_prior prior c)).cuts es' → ShortCircuitCut (es ++ es')

  abbrev pub short_circuit_rules : Judgment
  short_circuit_rules = record {
    derives = ShortCircuitRule;
    recovers = ShortCircuitRecovery;
    cuts = ShortCircuitCut;
  }
