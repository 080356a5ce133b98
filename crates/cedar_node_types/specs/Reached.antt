-- The nodes of an expression that evaluation reaches.
use Rattle.std.specs.Prelude.{◌≡◌, true, false, List}
use Rattle.cedar_types.specs.declared.base.expressions.operators.BinaryOp.{BinaryOp}
use Rattle.cedar_types.specs.declared.base.expressions.operators.UnaryOp.{UnaryOp}
use Rattle.cedar_types.specs.declared.base.expressions.patterns.PatternElem.{PatternElem}
use Rattle.cedar_types.specs.Names.{Text, Path}
use Rattle.cedar_types.specs.Expressions.Tree.{Tree, if_then_else, and, or, unary, binary, call, get_attr, has_attr, ext_has_attr, like}
use Rattle.cedar_types.specs.Expressions.Tree.{is_type, set_of, record_of, Trees, tree, Fields, field}
use Rattle.cedar_types.specs.Values.{VBool}
use Rattle.cedar_typing.specs.Evaluation.Eval.{eval}
use Rattle.cedar_typing.specs.Evaluation.World.{World, Outcome, Gives, Fails}

-- there is a value
abbrev pub IsValue : Outcome → Type 0
IsValue (Gives v) = Unit {0}
IsValue (Fails f) = ⊥

module _ {D : Type 0} (world : World) where
  -- the expression evaluates to this boolean
  abbrev pub IsTrueIn : Tree D → Type 0
  IsTrueIn e = eval world e ≡ Gives (VBool true)

  abbrev pub IsFalseIn : Tree D → Type 0
  IsFalseIn e = eval world e ≡ Gives (VBool false)

  mutual
    -- the evaluation of an expression reaches a node of it
    pub data Reaches : Tree D → Tree D → Type 0 where
      -- it reaches the expression itself
      itself : {x : Tree D} → Reaches x x
      -- of an `if` it reaches the test, and then the branch that the test chooses
      in_test : {d : D} {a b c y : Tree D} → Reaches a y → Reaches (if_then_else d a b c) y
      in_then : {d : D} {a b c y : Tree D}
          → IsTrueIn a → Reaches b y → Reaches (if_then_else d a b c) y
      in_else : {d : D} {a b c y : Tree D}
          → IsFalseIn a → Reaches c y → Reaches (if_then_else d a b c) y
      -- of `&&` it reaches the left side, and the right one if the left one is true
      left_of_and : {d : D} {a b y : Tree D} → Reaches a y → Reaches (and d a b) y
      right_of_and : {d : D} {a b y : Tree D} → IsTrueIn a → Reaches b y → Reaches (and d a b) y
      -- of `||` it reaches the left side, and the right one if the left one is false
      left_of_or : {d : D} {a b y : Tree D} → Reaches a y → Reaches (or d a b) y
      right_of_or : {d : D} {a b y : Tree D} → IsFalseIn a → Reaches b y → Reaches (or d a b) y
      -- of an operator it reaches the operand; of two, the right one if the left one has a value
      in_operand : {d : D} {o : UnaryOp} {a y : Tree D} → Reaches a y → Reaches (unary d o a) y
      in_left : {d : D} {o : BinaryOp} {a b y : Tree D} → Reaches a y → Reaches (binary d o a b) y
      in_right : {d : D} {o : BinaryOp} {a b y : Tree D}
          → IsValue (eval world a) → Reaches b y → Reaches (binary d o a b) y
      -- of an access or a test it reaches the base
      base_of_get : {d : D} {a y : Tree D} {x : Text} → Reaches a y → Reaches (get_attr d a x) y
      base_of_has : {d : D} {a y : Tree D} {x : Text} → Reaches a y → Reaches (has_attr d a x) y
      base_of_chain : {d : D} {a y : Tree D} {x : Text} {xs : List Text}
          → Reaches a y → Reaches (ext_has_attr d a x xs) y
      base_of_like : {d : D} {a y : Tree D} {p : List PatternElem}
          → Reaches a y → Reaches (like d a p) y
      base_of_is : {d : D} {a y : Tree D} {n : Path} → Reaches a y → Reaches (is_type d a n) y
      -- of a call, a set and a record it reaches the parts, as far as those before them have values
      in_arguments : {d : D} {n : Path} {ts : Trees D} {y : Tree D}
          → ReachesAmong ts y → Reaches (call d n ts) y
      in_elements : {d : D} {ts : Trees D} {y : Tree D}
          → ReachesAmong ts y → Reaches (set_of d ts) y
      in_fields : {d : D} {fs : Fields D} {y : Tree D}
          → ReachesField fs y → Reaches (record_of d fs) y

    -- the evaluation of expressions one after another reaches a node of one of them
    pub data ReachesAmong : Trees D → Tree D → Type 0 where
      in_first : {t y : Tree D} {ts : Trees D} → Reaches t y → ReachesAmong (tree t ts) y
      in_later : {t y : Tree D} {ts : Trees D}
          → IsValue (eval world t) → ReachesAmong ts y → ReachesAmong (tree t ts) y

    -- that of the values of fields
    pub data ReachesField : Fields D → Tree D → Type 0 where
      in_first_field : {k : Text} {t y : Tree D} {fs : Fields D}
          → Reaches t y → ReachesField (field k t fs) y
      in_later_field : {k : Text} {t y : Tree D} {fs : Fields D}
          → IsValue (eval world t) → ReachesField fs y → ReachesField (field k t fs) y
