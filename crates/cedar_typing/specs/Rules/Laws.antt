-- Laws that all rules of typing obey, and laws of the check of a condition.
use Rattle.std.specs.Prelude.{◌≡◌, ℕ, ◌+◌, ◌≤◌, ◌<◌, Bool, true, false, List, ◌⊎◌, ◌↔◌}
use Rattle.cedar_types.specs.declared.base.expressions.operators.BinaryOp.{BinaryOp}
use Rattle.cedar_types.specs.declared.base.expressions.operators.UnaryOp.{UnaryOp}
use Rattle.cedar_types.specs.declared.base.expressions.patterns.PatternElem.{PatternElem}
use Rattle.cedar_types.specs.Names.{Text, Path}
use Rattle.cedar_types.specs.Types.{Ty}
use Rattle.cedar_types.specs.Expressions.Tree.{if_then_else, and, or, unary, binary, call, has_attr, get_attr, ext_has_attr, like, is_type}
use Rattle.cedar_types.specs.Expressions.Tree.{set_of, record_of, Trees, tree, Fields, field}
use Rattle.cedar_types.specs.Expressions.View.{Written}
use Rattle.cedar_types.specs.Errors.{Finding}
use Rattle.cedar_typing.specs.Capabilities.{Caps, union}
use Rattle.cedar_typing.specs.Judgments.{Judgment, max_nesting, PartResult, Operand}
use Rattle.cedar_typing.specs.PolicyCheck.{Verdict, PolicyChecks, SameVerdict}
use Rattle.cedar_typing.specs.Rules.{rules, Derives, Recovers, Cuts}
use Rattle.cedar_typing.specs.Rules.Binary.{binary_form}
use Rattle.cedar_typing.specs.Setting.{Setting}
use Rattle.cedar_typing.specs.TypeTests.{bool_types, is_false, is_true, annotation_passes}
use Rattle.cedar_typing.specs.TypedExpr.{Source, TypedTree, annotation, place_of}

-- an expression has at most one type, one set of capabilities that it produces, and one typed copy
abbrev pub TypingIsAFunction : Type 0
TypingIsAFunction =
    (s : Setting) (e : Source) (prior : Caps) (d : ℕ)
    (t u : Ty) (c c' : Caps) (x y : TypedTree)
    → Derives s e prior d t c x → Derives s e prior d u c' y
    → (t ≡ u) × (c ≡ c') × (x ≡ y)

-- an expression is recovered in at most one way
abbrev pub RecoveryIsAFunction : Type 0
RecoveryIsAFunction =
    (s : Setting) (e : Source) (prior : Caps) (d : ℕ)
    (x y : TypedTree) (es fs : List Finding)
    → Recovers s e prior d x es → Recovers s e prior d y fs
    → (x ≡ y) × (es ≡ fs)

-- an expression is cut with at most one list of errors
abbrev pub CutIsAFunction : Type 0
CutIsAFunction =
    (s : Setting) (e : Source) (prior : Caps) (d : ℕ) (es fs : List Finding)
    → Cuts s e prior d es → Cuts s e prior d fs
    → es ≡ fs

abbrev pub IsDerived : Setting → Source → Caps → ℕ → Type 0
IsDerived s e prior d = (t : Ty) × (c : Caps) × (x : TypedTree) × Derives s e prior d t c x

abbrev pub IsRecovered : Setting → Source → Caps → ℕ → Type 0
IsRecovered s e prior d = (x : TypedTree) × (es : List Finding) × Recovers s e prior d x es

abbrev pub IsCut : Setting → Source → Caps → ℕ → Type 0
IsCut s e prior d = (es : List Finding) × Cuts s e prior d es

-- no expression is derived and recovered, derived and cut, or recovered and cut
abbrev pub OneOfThreeAtMost : Type 0
OneOfThreeAtMost =
    (s : Setting) (e : Source) (prior : Caps) (d : ℕ)
    → ((IsDerived s e prior d × IsRecovered s e prior d → ⊥)
    × (IsDerived s e prior d × IsCut s e prior d → ⊥)
    × (IsRecovered s e prior d × IsCut s e prior d → ⊥))

-- an expression that is not derived is recovered or cut
abbrev pub OneOfThreeAtLeast : Type 0
OneOfThreeAtLeast =
    (s : Setting) (e : Source) (prior : Caps) (d : ℕ)
    → IsDerived s e prior d ⊎ (IsRecovered s e prior d ⊎ IsCut s e prior d)

-- a is typed as a part that must be a Boolean
abbrev pub IsTested : Setting → Source → Caps → ℕ → Bool → Caps → TypedTree → List Finding → Type 0
IsTested s a prior d = Operand s.env bool_types (place_of a) (rules s a prior d)

-- the part behind another is visited if the other is not cut, or if the form goes on in any case
pub data IsPassed (goes_on : Bool) (J : Judgment) : Type 0 where
  in_any_case : goes_on ≡ true → IsPassed goes_on J
  not_cut : {succeeded : Bool} {c : Caps} {x : TypedTree} {es : List Finding}
      → PartResult J succeeded c x es → IsPassed goes_on J

mutual
  -- a part of e at depth k is visited, if e stands at depth d and has these prior capabilities
  pub data IsVisited (s : Setting) : Source → Caps → ℕ → ℕ → Type 0 where
    itself : {e : Source} {prior : Caps} {d : ℕ} → IsVisited s e prior d d
    left_of_and : {m : Written} {a b : Source} {prior : Caps} {d k : ℕ}
        → d ≤ max_nesting → IsVisited s a prior (d + 1) k → IsVisited s (and m a b) prior d k
    -- the right side is visited if the left one is not False
    right_of_and : {m : Written} {a b : Source} {prior : Caps} {d k : ℕ}
        {succeeded : Bool} {c : Caps} {x : TypedTree} {es : List Finding}
        → d ≤ max_nesting → IsTested s a prior (d + 1) succeeded c x es
        → annotation_passes is_false (annotation x) ≡ false
        → IsVisited s b (union prior c) (d + 1) k → IsVisited s (and m a b) prior d k
    left_of_or : {m : Written} {a b : Source} {prior : Caps} {d k : ℕ}
        → d ≤ max_nesting → IsVisited s a prior (d + 1) k → IsVisited s (or m a b) prior d k
    -- the right side is visited if the left one is not True
    right_of_or : {m : Written} {a b : Source} {prior : Caps} {d k : ℕ}
        {succeeded : Bool} {c : Caps} {x : TypedTree} {es : List Finding}
        → d ≤ max_nesting → IsTested s a prior (d + 1) succeeded c x es
        → annotation_passes is_true (annotation x) ≡ false
        → IsVisited s b prior (d + 1) k → IsVisited s (or m a b) prior d k
    test_of_if : {m : Written} {a b e : Source} {prior : Caps} {d k : ℕ}
        → d ≤ max_nesting → IsVisited s a prior (d + 1) k
        → IsVisited s (if_then_else m a b e) prior d k
    -- the first branch is visited if the test is not False, the other one if it is not True
    then_of_if : {m : Written} {a b e : Source} {prior : Caps} {d k : ℕ}
        {succeeded : Bool} {c : Caps} {x : TypedTree} {es : List Finding}
        → d ≤ max_nesting → IsTested s a prior (d + 1) succeeded c x es
        → annotation_passes is_false (annotation x) ≡ false
        → IsVisited s b (union prior c) (d + 1) k → IsVisited s (if_then_else m a b e) prior d k
    else_of_if : {m : Written} {a b e : Source} {prior : Caps} {d k : ℕ}
        {succeeded : Bool} {c : Caps} {x : TypedTree} {es : List Finding}
        → d ≤ max_nesting → IsTested s a prior (d + 1) succeeded c x es
        → annotation_passes is_true (annotation x) ≡ false
        → IsVisited s e prior (d + 1) k → IsVisited s (if_then_else m a b e) prior d k
    operand_of_unary : {m : Written} {o : UnaryOp} {a : Source} {prior : Caps} {d k : ℕ}
        → d ≤ max_nesting → IsVisited s a prior (d + 1) k
        → IsVisited s (unary m o a) prior d k
    -- the operands of an operator are visited from left to right
    left_of_binary : {m : Written} {o : BinaryOp} {a b : Source} {prior : Caps} {d k : ℕ}
        → d ≤ max_nesting → IsVisited s a prior (d + 1) k
        → IsVisited s (binary m o a b) prior d k
    right_of_binary : {m : Written} {o : BinaryOp} {a b : Source} {prior : Caps} {d k : ℕ}
        → d ≤ max_nesting
        → IsPassed (binary_form s.env m prior a b o).goes_on (rules s a prior (d + 1))
        → IsVisited s b prior (d + 1) k → IsVisited s (binary m o a b) prior d k
    base_of_has : {m : Written} {e : Source} {x : Text} {prior : Caps} {d k : ℕ}
        → d ≤ max_nesting → IsVisited s e prior (d + 1) k
        → IsVisited s (has_attr m e x) prior d k
    base_of_get : {m : Written} {e : Source} {x : Text} {prior : Caps} {d k : ℕ}
        → d ≤ max_nesting → IsVisited s e prior (d + 1) k
        → IsVisited s (get_attr m e x) prior d k
    base_of_chain : {m : Written} {e : Source} {x : Text} {xs : List Text} {prior : Caps} {d k : ℕ}
        → d ≤ max_nesting → IsVisited s e prior (d + 1) k
        → IsVisited s (ext_has_attr m e x xs) prior d k
    operand_of_like : {m : Written} {a : Source} {p : List PatternElem} {prior : Caps} {d k : ℕ}
        → d ≤ max_nesting → IsVisited s a prior (d + 1) k → IsVisited s (like m a p) prior d k
    operand_of_is : {m : Written} {a : Source} {n : Path} {prior : Caps} {d k : ℕ}
        → d ≤ max_nesting → IsVisited s a prior (d + 1) k
        → IsVisited s (is_type m a n) prior d k
    argument_of_call : {m : Written} {n : Path} {ts : Trees Written} {prior : Caps} {d k : ℕ}
        → d ≤ max_nesting → SomeIsVisited s false ts prior (d + 1) k
        → IsVisited s (call m n ts) prior d k
    element_of_set : {m : Written} {ts : Trees Written} {prior : Caps} {d k : ℕ}
        → d ≤ max_nesting → SomeIsVisited s true ts prior (d + 1) k
        → IsVisited s (set_of m ts) prior d k
    value_of_record : {m : Written} {fs : Fields Written} {prior : Caps} {d k : ℕ}
        → d ≤ max_nesting → SomeFieldIsVisited s fs prior (d + 1) k
        → IsVisited s (record_of m fs) prior d k

  -- a part of one of several expressions is visited, each of which stands at depth d
  pub data SomeIsVisited (s : Setting) : Bool → Trees Written → Caps → ℕ → ℕ → Type 0 where
    in_first : {goes_on : Bool} {e : Source} {ts : Trees Written} {prior : Caps} {d k : ℕ}
        → IsVisited s e prior d k → SomeIsVisited s goes_on (tree e ts) prior d k
    in_later : {goes_on : Bool} {e : Source} {ts : Trees Written} {prior : Caps} {d k : ℕ}
        → IsPassed goes_on (rules s e prior d) → SomeIsVisited s goes_on ts prior d k
        → SomeIsVisited s goes_on (tree e ts) prior d k

  -- a part of the value of one of several fields is visited
  pub data SomeFieldIsVisited (s : Setting) : Fields Written → Caps → ℕ → ℕ → Type 0 where
    in_first_field : {x : Text} {e : Source} {fs : Fields Written} {prior : Caps} {d k : ℕ}
        → IsVisited s e prior d k → SomeFieldIsVisited s (field x e fs) prior d k
    in_later_field : {x : Text} {e : Source} {fs : Fields Written} {prior : Caps} {d k : ℕ}
        → IsPassed false (rules s e prior d) → SomeFieldIsVisited s fs prior d k
        → SomeFieldIsVisited s (field x e fs) prior d k

-- an expression is cut exactly if a part that is visited is too deep
abbrev pub CutIsByDepth : Type 0
CutIsByDepth =
    (s : Setting) (e : Source) (prior : Caps) (d : ℕ)
    → IsCut s e prior d ↔ ((k : ℕ) × (max_nesting < k) × IsVisited s e prior d k)

-- ---- the check of a condition

-- the check of a condition has at most one verdict, save for the order of errors
abbrev pub OneVerdictAtMost : Type 0
OneVerdictAtMost =
    (s : Setting) (e : Source) (u v : Verdict)
    → PolicyChecks s e u → PolicyChecks s e v
    → SameVerdict u v

-- the check of each condition has a verdict
abbrev pub OneVerdictAtLeast : Type 0
OneVerdictAtLeast = (s : Setting) (e : Source) → (v : Verdict) × PolicyChecks s e v

-- the check of a condition has each verdict that differs from one of its verdicts only in the order of errors
abbrev pub ErrorsInAnyOrder : Type 0
ErrorsInAnyOrder =
    (s : Setting) (e : Source) (u v : Verdict)
    → PolicyChecks s e u → SameVerdict u v
    → PolicyChecks s e v
