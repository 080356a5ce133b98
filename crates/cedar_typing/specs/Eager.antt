-- Forms whose operands are typed one after another, all with the same prior capabilities, before a
-- table decides.
use Rattle.std.specs.Prelude.{Bool, true, false, List, [], ◌∷◌, map, Option, Some, None}
use Rattle.cedar_types.specs.Types.{Ty}
use Rattle.cedar_types.specs.Expressions.Tree.{unknown}
use Rattle.cedar_types.specs.Expressions.View.{Written, no_name}
use Rattle.cedar_types.specs.Errors.{Finding}
use Rattle.cedar_typing.specs.Capabilities.{Caps, no_caps}
use Rattle.cedar_typing.specs.TypeTests.{accepts}
use Rattle.cedar_typing.specs.TypedExpr.{TypedTree, Mark, untyped, annotation}

-- the expectation of an operand: one of some types, or anything
abbrev pub Expectation : Type 0
Expectation = Option (List Ty)

abbrev pub meets : Expectation → Ty → Bool
meets None t = true
meets (Some ts) t = accepts ts t

-- the decision of a table, by the types of the operands
pub data Decision : Type 0 where
  -- the whole has this type, and produces these capabilities
  gives : Ty → Caps → Decision
  -- the whole fails: the type that it keeps, if any, and its errors
  refuses : Option Ty → List Finding → Decision

pub record Form : Type 0 where
  -- the node as it was written
  pub at : Written
  -- the expectations of the operands, from left to right. Further operands may be anything
  pub expects : List Expectation
  -- whether operands are still typed after one that is too deep
  pub goes_on : Bool
  -- the table: by the type of each operand, if it has one
  pub decides : List (Option Ty) → Decision
  -- the type of the whole if an operand failed, by the type that the table gives
  pub type_if_failed : Ty → Ty
  -- the errors beside an operand that is too deep, by the types of those before it
  pub at_limit : List (Option Ty) → List Finding
  -- the typed whole: its mark, and the typed operands
  pub node : Mark → List TypedTree → TypedTree

-- the type, or a failure with the errors if there are any, which keeps the type
abbrev pub gives_unless : List Finding → Ty → Decision
gives_unless [] t = gives t no_caps
gives_unless (e ∷ es) t = refuses (Some t) (e ∷ es)

-- ---- the first operand of a form, and those after it

abbrev pub first_expectation : List Expectation → Expectation
first_expectation [] = None
first_expectation (q ∷ qs) = q

abbrev pub later_expectations : List Expectation → List Expectation
later_expectations [] = []
later_expectations (q ∷ qs) = qs

-- the types of operands, as far as they were found
abbrev pub types_found : List TypedTree → List (Option Ty)
types_found xs = map annotation xs

abbrev pub first_type : List (Option Ty) → Option Ty
first_type [] = None
first_type (t ∷ ts) = t

abbrev pub second_type : List (Option Ty) → Option Ty
second_type [] = None
second_type (t ∷ ts) = first_type ts

-- a tree in place of an operand that no form lacks
abbrev pub no_tree : TypedTree
no_tree =
    unknown (untyped (record { place = None; names = no_name }))
    (record { path = []; basename = [] })

abbrev pub first_tree : List TypedTree → TypedTree
first_tree [] = no_tree
first_tree (x ∷ xs) = x

abbrev pub second_tree : List TypedTree → TypedTree
second_tree [] = no_tree
second_tree (x ∷ xs) = first_tree xs

-- ---- forms by the number of their operands

-- a form with one operand
abbrev pub on_one : Written → Expectation → (Option Ty → Decision)
    → (Mark → TypedTree → TypedTree) → Form
on_one m q table node = record {
  at = m;
  expects = q ∷ [];
  goes_on = false;
  decides = λ ts. table (first_type ts);
  type_if_failed = λ t. t;
  at_limit = λ ts. [];
  node = λ k xs. node k (first_tree xs);
}

-- a form with two operands. If the left one is too deep, the right one is not typed
abbrev pub on_two : Written → Expectation → Expectation → (Option Ty → Option Ty → Decision)
    → (Mark → TypedTree → TypedTree → TypedTree) → Form
on_two m q r table node = record {
  at = m;
  expects = q ∷ r ∷ [];
  goes_on = false;
  decides = λ ts. table (first_type ts) (second_type ts);
  type_if_failed = λ t. t;
  at_limit = λ ts. [];
  node = λ k xs. node k (first_tree xs) (second_tree xs);
}
