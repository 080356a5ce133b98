-- A form whose operands are typed first keeps the property that constant tests have one branch
-- twice.
use Rattle.std.proofs.Common.{Bool, true, false, List, [], ◌∷◌, Option, Some, None}
use Rattle.cedar_types.specs.declared.base.expressions.operators.BinaryOp.{BinaryOp}
use Rattle.cedar_types.specs.declared.base.expressions.operators.UnaryOp.{UnaryOp}
use Rattle.cedar_types.specs.declared.base.location.Loc.{Loc}
use Rattle.cedar_types.specs.Errors.{Finding}
use Rattle.cedar_types.specs.Names.{Text}
use Rattle.cedar_types.specs.Expressions.View.{Written, trees_of}
use Rattle.cedar_typing.specs.Capabilities.{Caps}
use Rattle.cedar_typing.specs.Eager.{Expectation, Decision, gives, refuses, Form, types_found, first_tree, second_tree}
use Rattle.cedar_typing.specs.Infer.Eager.{Operands, all_typed, cut_after, OperandsAndErrors, expect_operand, with_operand, infer_rest}
use Rattle.cedar_typing.specs.Infer.Eager.{infer_one_more, infer_decided, infer_form}
use Rattle.cedar_typing.specs.Infer.Parts.{Part, AnswerAndErrors}
use Rattle.cedar_typing.specs.Rules.Binary.{binary_form}
use Rattle.cedar_typing.specs.Rules.Records.{fields_from}
use Rattle.cedar_typing.specs.Rules.Unary.{unary_form}
use Rattle.cedar_typing.specs.TypeEnv.{TypeEnv}
use Rattle.cedar_typing.specs.TypedExpr.{Source, TypedTree, Mark}
use Rattle.cedar_typechecker.specs.Levels.Shared.{BranchesAreShared, AllAreShared, FieldsAreShared}
use Rattle.cedar_typechecker.proofs.Levels.TypedParts.{AnswerShared, PartShared, part_of_answer, either_answer, expected}

abbrev pub ListShared : List TypedTree → Type 0
ListShared [] = Unit {0}
ListShared (x ∷ xs) = BranchesAreShared x × ListShared xs

abbrev pub OperandsShared : Operands → Type 0
OperandsShared (all_typed b xs) = ListShared xs
OperandsShared (cut_after xs) = ListShared xs

pub first_shared : (xs : List TypedTree) → ListShared xs → BranchesAreShared (first_tree xs)
first_shared [] h = tt
first_shared (x ∷ xs) h = h.0

pub second_shared : (xs : List TypedTree) → ListShared xs → BranchesAreShared (second_tree xs)
second_shared [] h = tt
second_shared (x ∷ xs) h = first_shared xs h.1

pub trees_shared : (xs : List TypedTree) → ListShared xs → AllAreShared (trees_of xs)
trees_shared [] h = tt
trees_shared (x ∷ xs) h = (h.0, trees_shared xs h.1)

pub values_shared : (ks : List Text) (xs : List TypedTree) → ListShared xs
    → FieldsAreShared (fields_from ks xs)
values_shared [] [] h = tt
values_shared [] (x ∷ xs) h = tt
values_shared (k ∷ ks) [] h = tt
values_shared (k ∷ ks) (x ∷ xs) h = (h.0, values_shared ks xs h.1)

-- the form keeps shared branches: of shared operands it makes a shared whole
abbrev pub KeepsShared : Form → Type 0
KeepsShared f = (k : Mark) (xs : List TypedTree) → ListShared xs → BranchesAreShared (f.node k xs)

pub decided_shared : (f : Form) (b : Bool) (xs : List TypedTree) (es : List Finding) (d : Decision)
    → KeepsShared f → ListShared xs → AnswerShared (infer_decided f b xs es d).0
decided_shared f b xs es (gives t c) n h = either_answer b _ c (n _ xs h)
decided_shared f b xs es (refuses t fs) n h = n _ xs h

pub form_shared : (f : Form) (o : Operands) (es : List Finding) → KeepsShared f → OperandsShared o
    → AnswerShared (infer_form f o es).0
form_shared f (all_typed b xs) es n h = decided_shared f b xs es (f.decides (types_found xs)) n h
form_shared f (cut_after xs) es n h = tt

pub with_shared : (p : Part) (o : Operands) → BranchesAreShared p.tree → OperandsShared o
    → OperandsShared (with_operand p o)
with_shared p (all_typed b xs) h k = (h, k)
with_shared p (cut_after xs) h k = (h, k)

pub rest_shared : (goes_on : Bool) (o : Option Part) (es : List Finding)
    (rest : List Finding → OperandsAndErrors) → PartShared o
    → ((es : List Finding) → OperandsShared (rest es).0)
    → OperandsShared (infer_rest goes_on o es rest).0
rest_shared goes_on (Some p) es rest h g = with_shared p (rest es).0 h (g es)
rest_shared true None es rest h g = tt
rest_shared false None es rest h g = tt

pub operand_shared : (env : TypeEnv) (q : Expectation) (l : Option Loc) (o : AnswerAndErrors)
    → AnswerShared o.0 → PartShared (expect_operand env q l o).0
operand_shared env None l o h = part_of_answer o.0 h
operand_shared env (Some ts) l o h = expected env ts l o h

pub one_more_shared : (env : TypeEnv) (goes_on : Bool) (q : Expectation) (l : Option Loc)
    (first : List Finding → AnswerAndErrors) (rest : List Finding → OperandsAndErrors)
    (es : List Finding)
    → ((es : List Finding) → AnswerShared (first es).0)
    → ((es : List Finding) → OperandsShared (rest es).0)
    → OperandsShared (infer_one_more env goes_on q l first rest es).0
one_more_shared env goes_on q l first rest es f g =
    let o = expect_operand env q l (first es) in
    rest_shared goes_on o.0 o.1 rest (operand_shared env q l (first es) (f es)) g

pub unary_keeps : (m : Written) (o : UnaryOp) → KeepsShared (unary_form m o)
unary_keeps m UnaryOp.Not k xs h = first_shared xs h
unary_keeps m UnaryOp.Neg k xs h = first_shared xs h
unary_keeps m UnaryOp.IsEmpty k xs h = first_shared xs h

pub binary_keeps : (env : TypeEnv) (m : Written) (prior : Caps) (a b : Source) (o : BinaryOp)
    → KeepsShared (binary_form env m prior a b o)
binary_keeps env m prior a b BinaryOp.Eq k xs h = (first_shared xs h, second_shared xs h)
binary_keeps env m prior a b o k xs h = (first_shared xs h, second_shared xs h)
