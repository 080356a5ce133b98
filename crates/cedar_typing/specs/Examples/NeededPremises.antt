-- Each premise of the promises on a policy is needed, in Strict and in Permissive: policies that pass
-- and go wrong, or that are warned to be impossible and are true. In each example all premises hold
-- but the one that is named, and the promise is broken.
use Rattle.std.specs.Prelude.{◌≡◌, pos, true, false, [], ◌∷◌, Some, None, codes}
use Rattle.cedar_types.specs.declared.base.expressions.operators.Var.{Var}
use Rattle.cedar_types.specs.declared.base.names.slots.SlotId.{SlotId}
use Rattle.cedar_types.specs.declared.base.types.ValidationMode.{ValidationMode}
use Rattle.cedar_types.specs.declared.base.types.ValidationMode.TheVariants.{Strict, Permissive, Partial}
use Rattle.cedar_types.specs.Templates.Findings.{unknown_types, unknown_actions}
use Rattle.cedar_types.specs.Schemas.Formed.{has_formed_types}
use Rattle.cedar_types.specs.Names.{Path, Uid}
use Rattle.cedar_types.specs.Schemas.{ExternalKind, DeclaredType, has_fault}
use Rattle.cedar_types.specs.Values.Stores.{ConformingStore}
use Rattle.cedar_types.specs.Templates.{to_entity, to_slot, any, equal, PlainTemplate, condition_of}
use Rattle.cedar_types.specs.Expressions.Tree.{Shape, var, unknown, if_then_else, and, is_type}
use Rattle.cedar_types.specs.Values.{no_entries, more_entries}
use Rattle.cedar_typing.specs.Composition.{SlotsInScopeAlone}
use Rattle.cedar_typing.specs.Evaluation.Conformance.{ConformingRequest, SlotsBound, has_external, KeepsTable}
use Rattle.cedar_typing.specs.Evaluation.Eval.{eval}
use Rattle.cedar_typing.specs.Evaluation.World.{World, Failure, TypeFailure, AbsentAttribute, UnlinkedSlot, UnknownValue, Fails}
use Rattle.cedar_typing.specs.Examples.Composition.{template, the_entity, slot_is_robot, robots_template, robot_greeting}
use Rattle.cedar_typing.specs.Examples.Expressions.{true_lit, false_lit, one, two, the, principal, text, dot, has, has_tag, less, record1}
use Rattle.cedar_typing.specs.Examples.Expressions.{decimal_one, decimal_two, mistyped}
use Rattle.cedar_typing.specs.Examples.Greeting.{number, words, one_value, giving, sample_functions, stored_alice, stored_action, sample_store}
use Rattle.cedar_typing.specs.Examples.Greeting.{greeting}
use Rattle.cedar_typing.specs.Examples.PolicySoundness.{sample_basis, Passes, PassesWarned, policy_when, meeting}
use Rattle.cedar_typing.specs.Examples.World.{named, robot, group, decimal, alice, bob, greet, wave, declared_user, declared_greet}
use Rattle.cedar_typing.specs.Examples.World.{with_action, sample_schema}
use Rattle.cedar_typing.specs.Soundness.Policies.{Basis, IsSoundAndClosed, IsNamedBySchema, IsWellFormed, IsConforming}
use Rattle.cedar_typing.specs.Silence.{HasNoUnknowns}
use Rattle.cedar_typing.specs.Soundness.PolicyCheck.{IsBooleanOrAllowed}
use Rattle.cedar_typing.specs.Soundness.{IsTrueOutcome}

-- the premises on the checker and on the world, in a mode
pub record IsAsAskedIn (m : ValidationMode) (world : World) : Type 0 where
  pub basis : IsSoundAndClosed (sample_basis m)
  pub conforming : IsConforming (sample_basis m) world

-- the condition's outcome is one that no policy that passes may have
abbrev pub BreaksPromise : World → PlainTemplate → Type 0
BreaksPromise world t = IsBooleanOrAllowed (eval world (condition_of t)) → ⊥

-- a policy that passes in a mode, and goes wrong in a world by this failure, though all else that is
-- asked of it, of the mode and of the schema holds
pub record GoesWrongIn (m : ValidationMode) (Passing : Basis → PlainTemplate → Type 0)
    (t : PlainTemplate) (world : World) (f : Failure) : Type 0 where
  pub mode : (sample_basis m).mode ≡ m
  pub closed : has_external sample_schema ≡ false
  pub passes : Passing (sample_basis m) t
  pub named : IsNamedBySchema sample_schema t
  pub well_formed : IsWellFormed t world.slots
  pub wrong : eval world (condition_of t) ≡ Fails f
  pub broken : BreaksPromise world t

-- ---- names and unknowns

-- `(Group::"a" < 1) && false` and `(Action::"wave" < 1) && false`, of a type and of an action that
-- the schema does not have. A part without a type adds no error, and the whole is False
abbrev pub of_unknown_type : PlainTemplate
of_unknown_type =
    policy_when
    (and tt (less (the (record { entity_type = group; eid = codes "a" })) one) false_lit)

abbrev pub of_unknown_action : PlainTemplate
of_unknown_action = policy_when (and tt (less (the wave) one) false_lit)

pub record NamesMustBeKnownIn (m : ValidationMode) : Type 0 where
  pub others : IsAsAskedIn m meeting
  pub type_passes : PassesWarned (sample_basis m) of_unknown_type
  pub type_formed : IsWellFormed of_unknown_type meeting.slots
  pub type_actions : unknown_actions sample_schema of_unknown_type ≡ []
  pub type_wrong : eval meeting (condition_of of_unknown_type) ≡ Fails TypeFailure
  pub type_broken : BreaksPromise meeting of_unknown_type
  pub action_passes : PassesWarned (sample_basis m) of_unknown_action
  pub action_formed : IsWellFormed of_unknown_action meeting.slots
  pub action_types : unknown_types sample_schema of_unknown_action ≡ []
  pub action_wrong : eval meeting (condition_of of_unknown_action) ≡ Fails TypeFailure
  pub action_broken : BreaksPromise meeting of_unknown_action

-- `(unknown("x") < 1) && false`
abbrev pub of_unknown : PlainTemplate
of_unknown = policy_when (and tt (less (unknown tt (named (codes "x"))) one) false_lit)

pub record UnknownsGoWrongIn (m : ValidationMode) : Type 0 where
  pub others : IsAsAskedIn m meeting
  pub passes : PassesWarned (sample_basis m) of_unknown
  pub named : IsNamedBySchema sample_schema of_unknown
  pub slots_in_scope : SlotsInScopeAlone of_unknown
  pub bound : SlotsBound meeting.slots (condition_of of_unknown)
  pub wrong : eval meeting (condition_of of_unknown) ≡ Fails UnknownValue
  pub broken : BreaksPromise meeting of_unknown

-- ---- slots

-- `permit(principal == User::"alice", action, resource == User::"bob") when { ?resource is Robot &&
-- 1 + true }`: the slot is linked to User alone, and bound to a robot
abbrev pub slot_in_rest : PlainTemplate
slot_in_rest =
    template (equal (to_entity (the_entity alice))) (equal (to_entity (the_entity bob)))
    (Some (and tt (slot_is_robot SlotId.Resource) mistyped))

pub record SlotsInTheRestGoWrongIn (m : ValidationMode) : Type 0 where
  pub others : IsAsAskedIn m robot_greeting
  pub passes : PassesWarned (sample_basis m) slot_in_rest
  pub named : IsNamedBySchema sample_schema slot_in_rest
  pub no_unknowns : HasNoUnknowns (condition_of slot_in_rest)
  pub bound : SlotsBound robot_greeting.slots (condition_of slot_in_rest)
  pub wrong : eval robot_greeting (condition_of slot_in_rest) ≡ Fails TypeFailure
  pub broken : BreaksPromise robot_greeting slot_in_rest
  -- with `?principal is Robot || ?resource is Robot` the policy is true, though it is warned to be
  -- impossible
  pub warned : PassesWarned (sample_basis m) robots_template
  pub is_true : IsTrueOutcome (eval robot_greeting (condition_of robots_template))

-- `permit(principal == ?principal, action, resource)`, with a slot that is not bound
abbrev pub equal_to_slot : PlainTemplate
equal_to_slot = template (equal to_slot) any None

pub record UnboundSlotsGoWrongIn (m : ValidationMode) : Type 0 where
  pub others : IsAsAskedIn m greeting
  pub passes : Passes (sample_basis m) equal_to_slot
  pub named : IsNamedBySchema sample_schema equal_to_slot
  pub no_unknowns : HasNoUnknowns (condition_of equal_to_slot)
  pub slots_in_scope : SlotsInScopeAlone equal_to_slot
  pub wrong : eval greeting (condition_of equal_to_slot) ≡ Fails UnlinkedSlot
  pub broken : BreaksPromise greeting equal_to_slot

-- ---- requests, stores and functions

-- `principal is Robot && 1 + true`, in a world in which a robot greets
abbrev pub robots_only : PlainTemplate
robots_only = policy_when (and tt (is_type tt principal robot) mistyped)

abbrev pub a_robot_greets : World
a_robot_greets = record meeting {
  request = record meeting.request {
    principal = record { entity_type = robot; eid = codes "r" };
  };
}

pub record RequestsMustConformIn (m : ValidationMode) : Type 0 where
  pub goes_wrong : GoesWrongIn m PassesWarned robots_only a_robot_greets TypeFailure
  pub store : ConformingStore sample_schema a_robot_greets.store
  pub functions : KeepsTable (sample_basis m).table a_robot_greets.functions

-- `principal.age < 1`, in a world in which alice's age is a text
abbrev pub young : PlainTemplate
young = policy_when (less (dot principal (codes "age")) one)

abbrev pub age_in_words : World
age_in_words = record meeting {
  store = (
    alice,
    record stored_alice {
      attributes = more_entries (codes "age") (words (codes "30")) no_entries;
    },
  )
      ∷ sample_store;
}

pub record StoresMustConformIn (m : ValidationMode) : Type 0 where
  pub goes_wrong : GoesWrongIn m Passes young age_in_words TypeFailure
  pub request : ConformingRequest sample_schema age_in_words.request
  pub functions : KeepsTable (sample_basis m).table age_in_words.functions

-- `decimal("1.0") < decimal("2.0")`, with an interpretation in which the first value is a number
abbrev pub decimals_in_order : PlainTemplate
decimals_in_order = policy_when (less decimal_one decimal_two)

abbrev pub with_a_number : World
with_a_number = record meeting {
  functions = record sample_functions {
    calls = giving decimal (one_value (words (codes "1.0"))) (number (pos 1)) ∷ sample_functions.calls;
  };
}

pub record FunctionsMustKeepTheTableIn (m : ValidationMode) : Type 0 where
  pub goes_wrong : GoesWrongIn m Passes decimals_in_order with_a_number TypeFailure
  pub request : ConformingRequest sample_schema with_a_number.request
  pub store : ConformingStore sample_schema with_a_number.store

-- ---- external types

-- users greet users, and guests are external, so nothing is known of them
abbrev pub guest : Path
guest = named (codes "Guest")

abbrev pub declared_guest : DeclaredType
declared_guest = record { name = guest; descendants = []; kind = ExternalKind }

abbrev pub guest_basis : ValidationMode → Basis
guest_basis m = record (sample_basis m) {
  schema = with_action (declared_user ∷ declared_guest ∷ []) declared_greet;
}

-- a guest, who has a tag
abbrev pub a_guest : Uid
a_guest = record { entity_type = guest; eid = codes "g" }

abbrev pub guest_greeting : World
guest_greeting = record meeting {
  store = (
    a_guest,
    record {
      attributes = no_entries;
      ancestors = [];
      tags = more_entries (codes "role") (words (codes "admin")) no_entries;
    },
  )
      ∷ (greet, stored_action [])
      ∷ [];
}

-- `Guest::"g".hasTag("role")`, which is False, and that expression with `&& 1 + true`
abbrev pub guest_has_role : Shape
guest_has_role = has_tag (the a_guest) (text (codes "role"))

abbrev pub guest_goes_wrong : PlainTemplate
guest_goes_wrong = policy_when (and tt guest_has_role mistyped)

pub record ExternalTypesGoWrongIn (m : ValidationMode) : Type 0 where
  pub mode : (guest_basis m).mode ≡ m
  pub faultless : has_fault (guest_basis m).schema ≡ false
  pub formed : has_formed_types (guest_basis m).schema ≡ true
  pub conforming : IsConforming (guest_basis m) guest_greeting
  pub passes : PassesWarned (guest_basis m) guest_goes_wrong
  pub named : IsNamedBySchema (guest_basis m).schema guest_goes_wrong
  pub well_formed : IsWellFormed guest_goes_wrong guest_greeting.slots
  pub wrong : eval guest_greeting (condition_of guest_goes_wrong) ≡ Fails TypeFailure
  pub broken : BreaksPromise guest_greeting guest_goes_wrong
  -- the first alone is true, though it is warned to be impossible
  pub warned : PassesWarned (guest_basis m) (policy_when guest_has_role)
  pub is_true : IsTrueOutcome (eval guest_greeting (condition_of (policy_when guest_has_role)))

-- ---- the mode

-- `(if resource has vip then {a: 1} else {b: true}).a < 2`, in a world in which bob has no mark
abbrev pub attribute_of_one : PlainTemplate
attribute_of_one =
    policy_when
    (less
    (dot
    (if_then_else tt (has (var tt Var.Resource) (codes "vip")) (record1 (codes "a") one)
    (record1 (codes "b") true_lit))
    (codes "a"))
    two)

pub record PartialGoesWrong : Type 0 where
  pub goes_wrong : GoesWrongIn Partial Passes attribute_of_one meeting AbsentAttribute
  pub conforming : IsConforming (sample_basis Partial) meeting

-- ---- all of these premises

pub record PremisesAreNeededIn (m : ValidationMode) : Type 0 where
  pub names : NamesMustBeKnownIn m
  pub unknowns : UnknownsGoWrongIn m
  pub slots_in_scope : SlotsInTheRestGoWrongIn m
  pub bound : UnboundSlotsGoWrongIn m
  pub request : RequestsMustConformIn m
  pub store : StoresMustConformIn m
  pub functions : FunctionsMustKeepTheTableIn m
  pub closed : ExternalTypesGoWrongIn m

pub record PremisesAreNeeded : Type 0 where
  pub strict : PremisesAreNeededIn Strict
  pub permissive : PremisesAreNeededIn Permissive
  pub mode : PartialGoesWrong
