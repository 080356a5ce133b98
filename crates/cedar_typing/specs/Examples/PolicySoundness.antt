-- A policy that passes and a world for which every premise of its safety holds.
use Rattle.std.specs.Prelude.{◌≡◌, true, [], ◌∷◌, Some}
use Rattle.cedar_types.specs.declared.base.types.ValidationMode.{ValidationMode}
use Rattle.cedar_types.specs.declared.base.types.ValidationMode.TheVariants.{Strict}
use Rattle.cedar_types.specs.Templates.{to_slot, any, within, within_actions, PlainTemplate, condition_of}
use Rattle.cedar_types.specs.Expressions.Tree.{Shape}
use Rattle.cedar_types.specs.Values.{VBool}
use Rattle.cedar_typing.specs.Evaluation.Eval.{eval}
use Rattle.cedar_typing.specs.Evaluation.World.{Slots, World, Gives}
use Rattle.cedar_typing.specs.Examples.Composition.{template, the_entity}
use Rattle.cedar_typing.specs.Examples.Greeting.{greeting}
use Rattle.cedar_typing.specs.Examples.Premises.{in_order}
use Rattle.cedar_typing.specs.Examples.World.{bob, meet, sample_schema, sample}
use Rattle.cedar_typing.specs.PolicyCheck.Outcome.{impossible}
use Rattle.cedar_typing.specs.Soundness.Policies.{Basis, IsSoundAndClosed, IsNamedBySchema, IsWellFormed, IsConforming, CheckedOn}
use Rattle.cedar_typing.specs.Setting.{table}

-- the sample schema and the sample functions, in a mode
abbrev pub sample_basis : ValidationMode → Basis
sample_basis m = record { schema = sample_schema; mode = m; table = table (sample m) }

-- the check of the policy passes, and adds nothing
abbrev pub Passes : Basis → PlainTemplate → Type 0
Passes b t = CheckedOn b t true [] [] [] []

-- the check of the policy passes, and warns that the policy is impossible
abbrev pub PassesWarned : Basis → PlainTemplate → Type 0
PassesWarned b t = CheckedOn b t true [] [] [] (impossible t ∷ [])

-- `permit(principal, action, resource) when { e }`
abbrev pub policy_when : Shape → PlainTemplate
policy_when e = template any any (Some e)

-- `permit(principal in ?principal, action in [Action::"meet"], resource) when {
-- lessThan(decimal("1.0"), decimal("2.0")) }`
abbrev pub meeting_template : PlainTemplate
meeting_template =
    record (template (within to_slot) any (Some in_order)) {
      action = within_actions (the_entity meet ∷ []);
    }

-- the slots are bound to bob, above alice
abbrev pub meeting_slots : Slots
meeting_slots x = Some bob

abbrev pub meeting : World
meeting = record greeting { slots = meeting_slots }

-- all premises hold together, and evaluation gives true
pub record PolicyPremisesAreMet : Type 0 where
  pub passes : Passes (sample_basis Strict) meeting_template
  pub basis : IsSoundAndClosed (sample_basis Strict)
  pub named : IsNamedBySchema sample_schema meeting_template
  pub well_formed : IsWellFormed meeting_template meeting.slots
  pub conforming : IsConforming (sample_basis Strict) meeting
  pub evaluates : eval meeting (condition_of meeting_template) ≡ Gives (VBool true)
