-- The premises on the mode and on links are needed: the mode is Strict or Permissive, and both
-- slots are linked if there is one environment alone. (The environments in which a policy is
-- checked link each slot that occurs.)
use Rattle.std.specs.Prelude.{◌≡◌, true, false, [], Some, None, codes}
use Rattle.cedar_types.specs.declared.base.expressions.operators.UnaryOp.{UnaryOp}
use Rattle.cedar_types.specs.declared.base.names.slots.SlotId.{SlotId}
use Rattle.cedar_types.specs.declared.base.types.ValidationMode.{ValidationMode}
use Rattle.cedar_types.specs.declared.base.types.ValidationMode.TheVariants.{Partial}
use Rattle.cedar_types.specs.Extensions.Functions.{table_fault}
use Rattle.cedar_types.specs.Schemas.{has_fault}
use Rattle.cedar_types.specs.Templates.{PlainTemplate}
use Rattle.cedar_types.specs.Expressions.Tree.{Shape, slot, if_then_else, and, unary, ext_has_attr}
use Rattle.cedar_types.specs.Environments.RequestEnvs.{Declared}
use Rattle.cedar_types.specs.Values.{VBool}
use Rattle.cedar_typing.specs.Evaluation.Conformance.{SlotsBound}
use Rattle.cedar_typing.specs.Evaluation.Eval.{eval}
use Rattle.cedar_typing.specs.Evaluation.World.{World, Gives}
use Rattle.cedar_typing.specs.Examples.Expressions.{one, principal, context, dot, has2, record1, is, numbered}
use Rattle.cedar_typing.specs.Examples.PolicySoundness.{Passes, policy_when}
use Rattle.cedar_typing.specs.Examples.World.{user, alice}
use Rattle.cedar_typing.specs.PolicyCheck.{PolicyChecks, succeeds}
use Rattle.cedar_typing.specs.Soundness.Policies.{setting_on}
use Rattle.cedar_typing.specs.Setting.{Setting}
use Rattle.cedar_typing.specs.Soundness.{IsReliable, IsWorldOf}
use Rattle.cedar_typing.specs.TypedExpr.{Source, TypedTree}
use Rattle.cedar_typechecker.specs.Levels.Errors.{IsWithinLevel}
use Rattle.cedar_typechecker.specs.Slices.Examples.{resource}
use Rattle.cedar_typechecker.specs.Slices.Examples.World.{page, read, read_context, wiki_basis, reading, slice_of}
use Rattle.cedar_typechecker.specs.Slices.NeededPremises.Differing.{IsAskedIn, DiffersInSlice}
use Rattle.cedar_typechecker.specs.Slices.Reach.{HoldsSlice}
use Rattle.cedar_typechecker.specs.Slices.Soundness.{with_store, levels_in}

-- ---- Partial

-- `if context.urgent then a else b`
abbrev pub if_urgent : Shape → Shape → Shape
if_urgent a b = if_then_else tt (dot context (codes "urgent")) a b

-- `if context.urgent then (if context.urgent then {a: resource} else {b: 1}).a else principal`,
-- whose type is User, because an attribute that only one of two records has is Never in Partial.
-- Its value is a page
abbrev pub page_as_user : Shape
page_as_user =
    if_urgent
    (dot (if_urgent (record1 (codes "a") resource) (record1 (codes "b") one)) (codes "a"))
    principal

-- `!(e is User) && principal has profile`, where e is that `if`, and the right side is an extended
-- `has` of one attribute
abbrev pub is_no_user : PlainTemplate
is_no_user =
    policy_when
    (and tt (unary tt UnaryOp.Not (is page_as_user user))
    (ext_has_attr tt principal (codes "profile") []))

pub record PartialGoesWrong : Type 0 where
  pub asked : IsAskedIn Partial (wiki_basis Partial) reading
  pub goes_wrong : DiffersInSlice Passes (wiki_basis Partial) is_no_user 0 reading
      (Gives (VBool false)) (Gives (VBool true))

-- ---- slots that are not linked

abbrev pub unlinked : ValidationMode → Setting
unlinked m =
    setting_on (wiki_basis m) (codes "policy0")
    (Declared
    (record { principal = user; action = read; resource = page; context = read_context }) None
    None)

-- `{a: ?principal} has a.profile`, which has no level error, because an unlinked slot is any entity
abbrev pub slot_has_profile : Source
slot_has_profile =
    numbered
    (has2 (record1 (codes "a") (slot tt SlotId.Principal)) (codes "a") (codes "profile"))

-- the slot is bound to alice
abbrev pub alice_bound : World
alice_bound = record reading { slots = λ x. Some alice }

pub record UnlinkedSlotsGoWrongIn (m : ValidationMode) : Type 0 where
  pub schema : has_fault (unlinked m).env.schema ≡ false
  pub functions : table_fault (unlinked m).functions ≡ None
  pub setting : IsReliable (unlinked m)
  pub reliable : IsWorldOf (unlinked m) alice_bound
  pub bound : SlotsBound alice_bound.slots slot_has_profile
  pub within : (x : TypedTree) × PolicyChecks (unlinked m) slot_has_profile (succeeds x)
      × IsWithinLevel (levels_in (unlinked m) 0) x
  pub held : HoldsSlice alice_bound.request alice_bound.store 0 (slice_of alice_bound 0)
  pub in_part : eval (with_store alice_bound (slice_of alice_bound 0)) slot_has_profile
      ≡ Gives (VBool false)
  pub in_store : eval alice_bound slot_has_profile ≡ Gives (VBool true)
