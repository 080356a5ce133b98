-- Promises of the check of an expression, part by part: of each part an answer that breaks this
-- part alone.
use Rattle.std.specs.Prelude.{pos, false, codes}
use Rattle.cedar_types.specs.declared.base.expressions.operators.BinaryOp.{BinaryOp}
use Rattle.cedar_types.specs.declared.base.types.ValidationMode.TheVariants.{Strict}
use Rattle.cedar_types.specs.Capability.{attribute}
use Rattle.cedar_types.specs.Expressions.Tree.{Shape, bool, long, lit, binary, record_of, no_fields}
use Rattle.cedar_typing.specs.Capabilities.{Caps, no_caps, single}
use Rattle.cedar_typing.specs.Examples.Expressions.{true_lit, one, mistyped, numbered}
use Rattle.cedar_typing.specs.Examples.Greeting.{greeting}
use Rattle.cedar_typing.specs.Examples.Rules.{marked_principal, bool_at, no_type_at, typed_true, typed_one}
use Rattle.cedar_typing.specs.Examples.TypedCopies.{marked_resource}
use Rattle.cedar_typing.specs.Examples.World.{sample}
use Rattle.cedar_typing.specs.ExpressionCheck.{SuccessPromises, FailurePromises, IsSoundAnswer}
use Rattle.cedar_typing.specs.Infer.Parts.{success}
use Rattle.cedar_typing.specs.TypedExpr.{TypedTree}

-- in the world of the examples, the promises of a success and of a failure of e with this typed
-- copy
abbrev pub Succeeds : Shape → TypedTree → Caps → Type 0
Succeeds e = SuccessPromises greeting (numbered e)

abbrev pub Fails : Shape → TypedTree → Type 0
Fails e = FailurePromises greeting (numbered e)

-- ---- copies

-- `1` of the type Bool, and `false` of the type Bool
abbrev pub one_as_bool : TypedTree
one_as_bool = lit (bool_at 1) (long (pos 1))

abbrev pub false_as_bool : TypedTree
false_as_bool = lit (bool_at 1) (bool false)

-- `1 + true`, without a type
abbrev pub mistyped_copy : TypedTree
mistyped_copy = binary (no_type_at 1) BinaryOp.Add (typed_one 2) (typed_true 3)

-- ---- capabilities

-- a capability that holds in no world: the record `{}` has an attribute
abbrev pub never_known : Caps
never_known = single (attribute (record_of tt no_fields) (codes "vip"))

-- ---- the promises

pub record SuccessExamples : Type 0 where
  -- `true` keeps all promises, if the principal is known to have the mark, which alice has
  pub kept : Succeeds true_lit (typed_true 1) marked_principal
  -- `1` is no value of the type Bool
  pub another_type : Succeeds one one_as_bool no_caps → ⊥
  -- `1 + true` goes wrong
  pub wrong : Succeeds mistyped mistyped_copy no_caps → ⊥
  -- `true` does not tell that the resource has the mark, which bob has not
  pub not_known : Succeeds true_lit (typed_true 1) marked_resource → ⊥
  -- `1` is not true, so nothing needs to be known
  pub untrue : Succeeds one (typed_one 1) marked_resource
  -- `false` does not mean `true`
  pub another_copy : Succeeds true_lit false_as_bool no_caps → ⊥

pub record FailureExamples : Type 0 where
  -- an expression that goes wrong keeps the promises: nothing is promised of its outcome
  pub kept : Fails mistyped mistyped_copy
  pub another_type : Fails one one_as_bool → ⊥
  pub another_copy : Fails true_lit false_as_bool → ⊥

-- `1 + true`, taken for a success
pub record AnswerExamples : Type 0 where
  -- the promise is false if the capabilities hold, as the mark of alice does
  pub known : IsSoundAnswer (sample Strict) (numbered mistyped) marked_principal (success mistyped_copy no_caps) → ⊥
  -- nothing is promised of capabilities that hold in no world
  pub not_known : IsSoundAnswer (sample Strict) (numbered mistyped) never_known (success mistyped_copy no_caps)
