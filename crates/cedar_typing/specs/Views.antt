-- The words of private contracts: the views of the program's values as inference has them, and the
-- relations between answers inside the crate, in types that callers do not see.
use Rattle.std.specs.Prelude.{◌≡◌, true, false, ◌&&◌, Option, Some, None, is_some, option_map, List, [], ◌∷◌, ◌++◌, map, if◌then◌else◌}
use Rattle.std.specs.declared.alloc.Global.{Global}
use Rattle.std.specs.declared.rc.RcStr.{RcStr}
use Rattle.cedar_types.specs.declared.base.errors.validation_errors.ValidationError.{ValidationError}
use Rattle.cedar_types.specs.declared.base.location.Loc.{Loc}
use Rattle.cedar_types.specs.declared.base.expressions.Expr.{Expr}
use Rattle.cedar_types.specs.declared.base.types.CedarType.{CedarType}
use Rattle.cedar_types.specs.Names.{text_of, path_of, type_of, Text, Path}
use Rattle.cedar_types.specs.Types.{Ty, TExtension, ty_of}
use Rattle.cedar_types.specs.Expressions.View.{Written, no_name, of_type, chain_of, written}
use Rattle.cedar_types.specs.Capability.{Cap, caps, caps_so_far, HasNone}
use Rattle.cedar_types.specs.Errors.{Finding, finding_of}
use Rattle.cedar_types.specs.declared.types.capability.CapabilitySet.{CapabilitySet}
use Rattle.cedar_types.specs.Environments.RequestEnvs.{env_of}
use Rattle.cedar_types.specs.Schemas.Contents.{schema_of}
use Rattle.cedar_typing.specs.Answer.{Answered, AreHanded, none_failed, Taken}
use Rattle.cedar_typing.specs.Capabilities.{Caps, no_caps, union}
use Rattle.cedar_typing.specs.Eager.{Expectation, Decision, gives, refuses, Form}
use Rattle.cedar_typing.specs.Infer.Eager.{Operands, all_typed, cut_after}
use Rattle.cedar_typing.specs.Infer.Parts.{Answer, success, failure, limit, Part, part_with}
use Rattle.cedar_typing.specs.Rules.Attributes.{has_form, get_form}
use Rattle.cedar_typing.specs.Rules.Chains.{Progress, chain_form}
use Rattle.cedar_typing.specs.Rules.Equality.{equality_form, contains_form, contains_several_form}
use Rattle.cedar_typing.specs.Rules.Membership.{in_form}
use Rattle.cedar_typing.specs.Rules.Numbers.{arithmetic_form, comparison_form}
use Rattle.cedar_typing.specs.Rules.ShortCircuit.{Side, right_ends, left_alone, right_alone, neither, Connective, conjunction, disjunction}
use Rattle.cedar_typing.specs.Rules.Tags.{has_tag_form, get_tag_form}
use Rattle.cedar_typing.specs.Rules.Unary.{unary_form, like_form, is_form}
use Rattle.cedar_typing.specs.TypeEnv.{TypeEnv}
use Rattle.cedar_typing.specs.TypeTests.{bool_types, long_types, string_types, set_types, entity_types, ancestor_types, object_types}
use Rattle.cedar_typing.specs.TypedExpr.{Source, typed_tree, place_of, TypedTree}
use Rattle.cedar_typing.specs.declared.typecheck.answer.TypecheckAnswer.{TypecheckAnswer}
use Rattle.cedar_typing.specs.declared.typecheck.answer.TypecheckAnswer.TheVariants.{TypecheckSuccess, TypecheckFail, RecursionLimit}
use Rattle.cedar_typing.specs.declared.typecheck.answer.Part.{Part as TypedPart}
use Rattle.cedar_typing.specs.declared.typecheck.sequence.Gathered.{Gathered}
use Rattle.cedar_typing.specs.declared.typecheck.operands.Expected.{Expected}
use Rattle.cedar_typing.specs.declared.typecheck.rules.chains.Progress.{Progress as TableProgress}
use Rattle.cedar_typing.specs.declared.typecheck.rules.chains.Step.{Step}
use Rattle.cedar_typing.specs.declared.typecheck.rules.chains.Step.TheVariants as step
use Rattle.cedar_typing.specs.declared.typecheck.rules.chains.Link.{Link}
use Rattle.cedar_typing.specs.declared.typecheck.rules.chains.Link.TheVariants as link
use Rattle.cedar_typing.specs.declared.typecheck.rules.eager.Decision.{Decision as TableDecision}
use Rattle.cedar_typing.specs.declared.typecheck.rules.eager.Decision.TheVariants.{Gives, Refuses}
use Rattle.cedar_typing.specs.declared.typecheck.rules.one_operand.OneOperand.{OneOperand}
use Rattle.cedar_typing.specs.declared.typecheck.rules.one_operand.OneOperand.TheVariants.{Unary, Has, Get, Like, Is, Chain}
use Rattle.cedar_typing.specs.declared.typecheck.rules.operand_list.OperandList.{OperandList}
use Rattle.cedar_typing.specs.declared.typecheck.rules.short_circuit.Connective as connective
use Rattle.cedar_typing.specs.declared.typecheck.rules.short_circuit.Side as side
use Rattle.cedar_typing.specs.declared.typecheck.rules.two_operands.TwoOperands.{TwoOperands}
use Rattle.cedar_typing.specs.declared.typecheck.rules.two_operands.TwoOperands.TheVariants.{Equality, Comparison, Arithmetic, Membership}
use Rattle.cedar_typing.specs.declared.typecheck.rules.two_operands.TwoOperands.TheVariants.{Contains, ContainsSeveral, HasTag, GetTag}
use Rattle.cedar_typing.specs.declared.typecheck.type_env.TypeEnv.{TypeEnv as CheckerEnv}
use Rattle.cedar_typing.specs.declared.typecheck.rules.records.FieldValues.{FieldValues}
pub mod Settings
pub mod Calls
pub mod Checks
pub mod Policies
pub mod EnvironmentChecks
pub mod ExpressionChecks
pub mod ConditionChecks

-- the type environment of the checker
abbrev pub env_at : CheckerEnv → TypeEnv
env_at c = record {
  schema = schema_of c.schema.now;
  mode = c.mode;
  request_env = env_of c.request_env.now;
  overloaded_types = map path_of c.overloaded_types.now.keys;
  policy = text_of c.policy_id.now.text;
}

-- a node at a place, without names in it
abbrev pub at : Option Loc → Written
at l = record { place = l; names = no_name }

abbrev pub findings : List ValidationError → List Finding
findings es = map finding_of es

abbrev pub expected_types : Expected → List Ty
expected_types Expected.Bool = bool_types
expected_types Expected.Long = long_types
expected_types Expected.String = string_types
expected_types Expected.Set = set_types
expected_types Expected.Entity = entity_types
expected_types Expected.Ancestor = ancestor_types
expected_types Expected.Object = object_types
expected_types (Expected.Exactly t) = ty_of t.now ∷ []

-- the expectation of the first operand, if all have expected types, and the types of the others: the
-- last type stays
abbrev pub first_wanted : List Ty → Expectation
first_wanted [] = None
first_wanted (t ∷ ts) = Some (t ∷ [])

abbrev pub later_types : List Ty → List Ty
later_types [] = []
later_types (t ∷ []) = t ∷ []
later_types (t ∷ u ∷ ts) = u ∷ ts

-- the view of an answer
abbrev pub answer_of : TypecheckAnswer → Answer
answer_of (TypecheckSuccess e c) = success (typed_tree e.value) (caps c)
answer_of (TypecheckFail e) = failure (typed_tree e.value)
answer_of RecursionLimit = limit

-- the view of a part
abbrev pub part_of : TypedPart → Part
part_of p = part_with p.succeeded (caps p.capabilities) (typed_tree p.typed.value)

-- the name of an extension type
abbrev pub extension_named : Ty → Option Path
extension_named (TExtension n) = Some n
extension_named t = None

-- ---- `&&` and `||`

abbrev pub connective_of : connective.Connective → Connective
connective_of connective.Connective.And = conjunction
connective_of connective.Connective.Or = disjunction

abbrev pub side_seen : side.Side → Side
side_seen side.Side.RightEnds = right_ends
side_seen side.Side.LeftAlone = left_alone
side_seen side.Side.RightAlone = right_alone
side_seen side.Side.Neither = neither

-- ---- forms whose operands are all typed first

abbrev pub decision_of : TableDecision → Decision
decision_of (Gives t c) = gives (ty_of t) (caps c)
decision_of (Refuses t fs) = refuses (option_map ty_of t) (findings fs.items)

-- the form with one operand, and its node as it was written at a place
abbrev pub form_of_one : TypeEnv → Written → Caps → Source → OneOperand → Form
form_of_one env m prior e (Unary o) = unary_form m o
form_of_one env m prior e (Has x) = has_form env m prior e (text_of x.now)
form_of_one env m prior e (Get x) = get_form env m prior e (text_of x.now)
form_of_one env m prior e (Like p) = like_form m p.now.items
form_of_one env m prior e (Is n) = is_form m (type_of n.now)
form_of_one env m prior e (Chain c) = chain_form env m prior e (chain_of c.now).0 (chain_of c.now).1

abbrev pub mark_of_one : Option Loc → OneOperand → Written
mark_of_one l (Unary o) = at l
mark_of_one l (Has x) = at l
mark_of_one l (Get x) = at l
mark_of_one l (Like p) = at l
mark_of_one l (Is n) = record { place = l; names = of_type n.now.loc }
mark_of_one l (Chain c) = at l

-- the form with two operands
abbrev pub form_of_two : TypeEnv → Written → Caps → Source → Source → TwoOperands → Form
form_of_two env m prior a b Equality = equality_form env m a b
form_of_two env m prior a b (Comparison o) = comparison_form env m (place_of a) (place_of b) o
form_of_two env m prior a b (Arithmetic o) = arithmetic_form m o
form_of_two env m prior a b Membership = in_form env m a b
form_of_two env m prior a b Contains = contains_form env m
form_of_two env m prior a b (ContainsSeveral o) = contains_several_form env m o
form_of_two env m prior a b HasTag = has_tag_form env m prior a b
form_of_two env m prior a b GetTag = get_tag_form env m prior a b

-- the result of two operands, each of which is typed or too deep
abbrev pub two_parts : Option Part → Option Part → Operands
two_parts None q = cut_after []
two_parts (Some p) None = cut_after (p.tree ∷ [])
two_parts (Some p) (Some q) = all_typed (q.succeeded && p.succeeded) (p.tree ∷ q.tree ∷ [])

-- the result of operands of any number
abbrev pub operands_of : OperandList → Operands
operands_of e =
    if e.is_cut then cut_after (map typed_tree e.typed.items)
    else all_typed e.succeeded (map typed_tree e.typed.items)

-- the result with one more operand, which is too deep if it has no part
abbrev pub with_element : Operands → Option Part → Operands
with_element (all_typed succeeded xs) (Some p) =
    all_typed (p.succeeded && succeeded) (xs ++ p.tree ∷ [])
with_element (all_typed succeeded xs) None = cut_after xs
with_element (cut_after xs) p = cut_after xs

-- the keys in some entries of a map
abbrev pub keys_in : {A : Type 0} → List (RcStr Global × A) → List Text
keys_in es = map (λ e. text_of e.0) es

-- the typed values in some entries of a map
abbrev pub trees_in : List (RcStr Global × Expr (Option CedarType)) → List TypedTree
trees_in es = map (λ e. typed_tree e.1) es

-- the result of the values of fields
abbrev pub field_operands : FieldValues → Operands
field_operands f =
    if f.is_cut then cut_after (trees_in f.typed.entries)
    else all_typed f.succeeded (trees_in f.typed.entries)

-- the decision for a type, or for a failure without an error
abbrev pub decision_without_errors : Option Ty → Decision
decision_without_errors (Some t) = gives t no_caps
decision_without_errors None = refuses None []

-- the progress of a chain
abbrev pub progress_of : TableProgress → Progress
progress_of p = record { earned = caps_so_far p.earned; all_true = p.all_true }

-- the decision on a chain by a step, or by a step and an access, if it goes on as `next` does
abbrev pub by_step : Step → (Progress → Decision) → Decision
by_step (step.Ends d) next = decision_of d
by_step (step.GoesOn p k) next = next (progress_of p)

abbrev pub by_link : Link → (Ty → Progress → Decision) → Decision
by_link (link.Ends d) next = decision_of d
by_link (link.GoesOn t p) next = next (ty_of t) (progress_of p)

-- if the chain goes on, the step tells whether the attribute is known now, from before or from steps of
-- this chain
abbrev pub KnowsAfter : Caps → Cap → Step → Type 0
KnowsAfter prior there (step.Ends d) = Unit {0}
KnowsAfter prior there (step.GoesOn p k) = k ≡ union prior (caps_so_far p.earned) there

-- ---- parts of answers

-- an answer hands on its expression as a part: a failure no capabilities, the limit nothing
abbrev pub BecomesPart : TypecheckAnswer → Option TypedPart → Type 0
BecomesPart (TypecheckSuccess e c) p =
    p ≡ Some (record { typed = e; capabilities = c; succeeded = true })
BecomesPart (TypecheckFail e) p =
    (c : CapabilitySet) × HasNone (caps c)
    × (p ≡ Some (record { typed = e; capabilities = c; succeeded = false }))
BecomesPart RecursionLimit p = p ≡ None

-- the gathered parts are those of the taken items, with whether a limit came, and whether none had
-- failed
pub record Gathers {S : Type 0} (steps : S → Option Answered → S → Type 0) (s : S) (g : Gathered) :
    Type 0 where
  pub taken : Taken steps s
  pub in_order : AreHanded taken.before g.handed.items
  pub is_limit : g.is_limit ≡ is_some taken.last
  pub succeeded : g.succeeded ≡ none_failed taken.before
