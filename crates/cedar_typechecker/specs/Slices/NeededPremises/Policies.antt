-- The premises on the policy are needed: its check passes, all in it is known, and its slots stand
-- in its scope alone. (Bound slots are not needed here, because evaluation fails for an unbound
-- slot over each part alike.)
use Rattle.std.specs.Prelude.{◌≡◌, true, false, List, [], ◌∷◌, Some, codes}
use Rattle.cedar_types.specs.declared.base.names.slots.SlotId.{SlotId}
use Rattle.cedar_types.specs.declared.base.types.ValidationMode.{ValidationMode}
use Rattle.cedar_types.specs.Errors.{Finding, unsafe_tag_access}
use Rattle.cedar_types.specs.Templates.Findings.{unknown_types, unknown_actions}
use Rattle.cedar_types.specs.Templates.{to_entity, any, equal, PlainTemplate, condition_of}
use Rattle.cedar_types.specs.Expressions.Tree.{Shape, slot, unknown, if_then_else, and, is_type}
use Rattle.cedar_types.specs.Values.{VBool}
use Rattle.cedar_typing.specs.Composition.{SlotsInScopeAlone}
use Rattle.cedar_typing.specs.Evaluation.Conformance.{SlotsBound}
use Rattle.cedar_typing.specs.Evaluation.World.{TypeFailure, MissingEntity, UnknownValue, Outcome, Gives, Fails}
use Rattle.cedar_typing.specs.Examples.Composition.{template, the_entity}
use Rattle.cedar_typing.specs.Examples.Expressions.{false_lit, one, the, principal, context, dot, has2, less, node}
use Rattle.cedar_typing.specs.Examples.Permissive.{team}
use Rattle.cedar_typing.specs.Examples.PolicySoundness.{PassesWarned, policy_when}
use Rattle.cedar_typing.specs.Examples.World.{named, group, alice, wave}
use Rattle.cedar_typing.specs.Soundness.Policies.{IsNamedBySchema, IsWellFormed, CheckedOn}
use Rattle.cedar_typing.specs.Silence.{HasNoUnknowns}
use Rattle.cedar_typechecker.specs.Slices.Examples.{active_of, guide_of, resource}
use Rattle.cedar_typechecker.specs.Slices.Examples.World.{page, wiki_schema, wiki_basis, reading, slice_of}
use Rattle.cedar_typechecker.specs.Slices.NeededPremises.Differing.{IsAskedIn, IsAskedPolicy, DiffersIn}
use Rattle.cedar_typechecker.specs.Slices.Policies.{PolicyIsWithinLevel}
use Rattle.cedar_typechecker.specs.Slices.Reach.{HoldsSlice}

-- all premises but those on the policy, at level 0 and for the part without entries
pub record IsReadingIn (m : ValidationMode) : Type 0 where
  pub asked : IsAskedIn m (wiki_basis m) reading
  pub held : HoldsSlice reading.request reading.store 0 (slice_of reading 0)

-- ---- its check passes

-- `resource.getTag("guide").active`, without a test that there is a guide
abbrev pub unguarded : PlainTemplate
unguarded = policy_when (active_of (guide_of resource))

abbrev pub unguarded_access : Finding
unguarded_access = record {
  place = (node 2).place;
  policy = codes "policy0";
  fault = unsafe_tag_access (Some (page ∷ []));
}

-- a check that fails types no condition, so there is no level error
pub record RefusedPoliciesGoWrongIn (m : ValidationMode) : Type 0 where
  pub others : IsReadingIn m
  pub policy : IsAskedPolicy (wiki_basis m) unguarded reading
  pub fails : CheckedOn (wiki_basis m) unguarded false [] (unguarded_access ∷ []) [] []
  pub within : PolicyIsWithinLevel (wiki_basis m) unguarded 0
  pub differs : DiffersIn unguarded reading (slice_of reading 0)
      (Fails MissingEntity) (Gives (VBool true))

-- ---- all in it is known

-- `((if context.urgent then principal else e) has profile.city && e < 1) && false`. If e has no
-- type, the `if` has none, so the extended `has` has no level error, and the whole is False
abbrev pub naming : Shape → PlainTemplate
naming e =
    policy_when
    (and tt
    (and tt
    (has2 (if_then_else tt (dot context (codes "urgent")) principal e) (codes "profile")
    (codes "city"))
    (less e one))
    false_lit)

-- the policies for `Group::"a"` and for `Action::"wave"`: the schema has no such type and no such
-- action
abbrev pub of_unknown_type : PlainTemplate
of_unknown_type = naming (the (record { entity_type = group; eid = codes "a" }))

abbrev pub of_unknown_action : PlainTemplate
of_unknown_action = naming (the wave)

-- the policy for `unknown("x")`
abbrev pub of_unknown : PlainTemplate
of_unknown = naming (unknown tt (named (codes "x")))

-- the check passes and the outcomes differ, though all else in the policy is known
pub record NameGoesWrongIn (m : ValidationMode) (t : PlainTemplate) (others : List Finding) :
    Type 0 where
  pub passes : PassesWarned (wiki_basis m) t
  pub formed : IsWellFormed t reading.slots
  pub others_known : others ≡ []
  pub within : PolicyIsWithinLevel (wiki_basis m) t 0
  pub differs : DiffersIn t reading (slice_of reading 0) (Gives (VBool false)) (Fails TypeFailure)

pub record NamesMustBeKnownIn (m : ValidationMode) : Type 0 where
  pub others : IsReadingIn m
  pub types : NameGoesWrongIn m of_unknown_type (unknown_actions wiki_schema of_unknown_type)
  pub actions : NameGoesWrongIn m of_unknown_action (unknown_types wiki_schema of_unknown_action)

-- the check passes and the outcomes differ, though all names are known and the slots are bound
pub record KnownGoesWrongIn (m : ValidationMode) (t : PlainTemplate) (in_part in_store : Outcome) :
    Type 0 where
  pub others : IsReadingIn m
  pub passes : PassesWarned (wiki_basis m) t
  pub named : IsNamedBySchema wiki_schema t
  pub bound : SlotsBound reading.slots (condition_of t)
  pub within : PolicyIsWithinLevel (wiki_basis m) t 0
  pub differs : DiffersIn t reading (slice_of reading 0) in_part in_store

pub record UnknownsGoWrongIn (m : ValidationMode) : Type 0 where
  pub slots_in_scope : SlotsInScopeAlone of_unknown
  pub goes_wrong : KnownGoesWrongIn m of_unknown (Gives (VBool false)) (Fails UnknownValue)

-- ---- its slots stand in its scope alone

-- `permit(principal == User::"alice", action, resource) when { ?principal is Team &&
-- principal.active }`: the slot is linked to User alone, and bound to a team
abbrev pub slot_in_rest : PlainTemplate
slot_in_rest =
    template (equal (to_entity (the_entity alice))) any
    (Some (and tt (is_type tt (slot tt SlotId.Principal) team) (active_of principal)))

pub record SlotsInTheRestGoWrongIn (m : ValidationMode) : Type 0 where
  pub no_unknowns : HasNoUnknowns (condition_of slot_in_rest)
  pub goes_wrong : KnownGoesWrongIn m slot_in_rest (Fails MissingEntity) (Gives (VBool true))

pub record PoliciesAreNeededIn (m : ValidationMode) : Type 0 where
  pub refused : RefusedPoliciesGoWrongIn m
  pub names : NamesMustBeKnownIn m
  pub unknowns : UnknownsGoWrongIn m
  pub slots : SlotsInTheRestGoWrongIn m
