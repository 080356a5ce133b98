-- The rules of `==`, `contains`, `containsAll` and `containsAny`.
use Rattle.std.specs.Prelude.{Bool, true, false, [], Option, Some, None, if◌then◌else◌}
use Rattle.cedar_types.specs.declared.base.location.Loc.{Loc}
use Rattle.cedar_types.specs.declared.base.expressions.operators.Var.{Var}
use Rattle.cedar_types.specs.declared.base.expressions.operators.BinaryOp.{BinaryOp}
use Rattle.cedar_types.specs.declared.base.errors.type_errors.LubContext.TheVariants.{Equality, Contains, ContainsAnyAll}
use Rattle.cedar_types.specs.declared.base.types.BoolType.TheVariants.{AnyBool, False}
use Rattle.cedar_types.specs.Types.{Ty, TBool, TSet}
use Rattle.cedar_types.specs.Expressions.Tree.{Lit, entity, lit, var, binary}
use Rattle.cedar_types.specs.Expressions.View.{Written}
use Rattle.cedar_types.specs.Expressions.TreeEq.{lit_eq}
use Rattle.cedar_types.specs.Types.Bounds.{are_disjoint}
use Rattle.cedar_types.specs.Environments.RequestEnvs.{Env, Declared, Undeclared}
use Rattle.cedar_typing.specs.Capabilities.{no_caps}
use Rattle.cedar_typing.specs.Eager.{Decision, gives, Form, gives_unless, first_type, second_type, first_tree, second_tree, on_two}
use Rattle.cedar_typing.specs.TypeTests.Joins.{strict_errors}
use Rattle.cedar_typing.specs.Rules.Leaves.{bool_ty}
use Rattle.cedar_typing.specs.TypeEnv.{TypeEnv}
use Rattle.cedar_typing.specs.TypeTests.{set_types, is_any_bool}
use Rattle.cedar_typing.specs.TypedExpr.{Source}

-- ---- literals

-- the variable `action` counts as the literal of a declared environment's action, because the
-- environment has only that one
abbrev pub action_literal : Env → Option Lit
action_literal (Declared d ps rs) = Some (entity d.action)
action_literal Undeclared = None

abbrev pub variable_literal : Env → Var → Option Lit
variable_literal r Var.Principal = None
variable_literal r Var.Action = action_literal r
variable_literal r Var.Resource = None
variable_literal r Var.Context = None

-- the literal that an operand stands for, if any
abbrev pub literal_of : Env → Source → Option Lit
literal_of r (lit m x) = Some x
literal_of r (var m x) = variable_literal r x
literal_of r e = None

-- ---- `==`

-- two literals are compared, whatever their types are: this needs no type
abbrev pub compared_literals : Option Lit → Option Lit → Ty
compared_literals (Some x) (Some y) = bool_ty (lit_eq x y)
compared_literals x y = TBool AnyBool

abbrev pub are_apart : Option Ty → Option Ty → Bool
are_apart (Some s) (Some t) = are_disjoint s t
are_apart s t = false

-- False if the types are disjoint, because the values are never equal; else, for two literals,
-- whether they are the same; else Bool
abbrev pub equality_type : Option Lit → Option Lit → Option Ty → Option Ty → Ty
equality_type x y s t = if are_apart s t then TBool False else compared_literals x y

-- if the type is Bool, Strict asks for a bound of both types. A decided comparison needs none
abbrev pub equality_decides : TypeEnv → Option Loc → Ty → Option Ty → Option Ty → Decision
equality_decides env l u s t =
    if is_any_bool u then gives_unless (strict_errors env l Equality s t) u else gives u no_caps

-- the decision on `a == b` at a place, from the types of both
abbrev pub compared : TypeEnv → Option Loc → Source → Source → Option Ty → Option Ty → Decision
compared env l a b s t =
    equality_decides env l
    (equality_type (literal_of env.request_env a) (literal_of env.request_env b) s t) s t

-- `a == b`. Both operands are typed in any case, even b after an a that is too deep
abbrev pub equality_form : TypeEnv → Written → Source → Source → Form
equality_form env m a b = record {
  at = m;
  expects = [];
  goes_on = true;
  decides = λ ts. compared env m.place a b (first_type ts) (second_type ts);
  type_if_failed = λ t. t;
  at_limit = λ ts. [];
  node = λ k xs. binary k BinaryOp.Eq (first_tree xs) (second_tree xs);
}

-- ---- sets and their members

-- the type of a set's members, if the type names one
abbrev pub member_type : Option Ty → Option Ty
member_type (Some (TSet t)) = Some t
member_type s = None

-- `a.contains(b)` of a set and of anything: Bool. In Strict the type of a's members and that of b
-- must have a bound
abbrev pub contains_form : TypeEnv → Written → Form
contains_form env m =
    on_two m (Some set_types) None
    (λ s t. gives_unless (strict_errors env m.place Contains (member_type s) t) (TBool AnyBool))
    (λ k a b. binary k BinaryOp.Contains a b)

-- `a.containsAll(b)`, `a.containsAny(b)` of two sets: Bool. In Strict their types must have a bound
abbrev pub contains_several_form : TypeEnv → Written → BinaryOp → Form
contains_several_form env m o =
    on_two m (Some set_types) (Some set_types)
    (λ s t. gives_unless (strict_errors env m.place ContainsAnyAll s t) (TBool AnyBool))
    (λ k a b. binary k o a b)
