-- The promise to a host that loads slices, in its mode.
use Rattle.std.specs.Prelude.{◌≡◌, ℕ, true, false, option_map}
use Rattle.cedar_types.specs.Templates.{PlainTemplate, template_of}
use Rattle.cedar_typechecker.specs.Levels.Required.{IsRequiredLevel}
use Rattle.cedar_typechecker.specs.Slices.Validation.{IsKeptInSlices}
use Rattle.cedar_typing.specs.Evaluation.Conformance.{has_external}
use Rattle.cedar_typing.specs.Evaluation.World.{World}
use Rattle.cedar_typing.specs.Soundness.Policies.{Basis, IsWellFormed, IsConforming}
use Rattle.cedar_host.specs.declared.slices.SliceReport.{SliceReport}
use Rattle.cedar_host.specs.Safety.{IsRight}

-- in each world that conforms, evaluation gives a boolean, or fails only for a missing entity, an
-- overflow or an extension function, and it gives the same result in each part of the store that has
-- the slice of this many steps, if the policy has no unknowns, its slots stand only in its scope and
-- are bound, and the schema has no external declarations
abbrev pub NeedsSliceAlone : Basis → PlainTemplate → ℕ → Type 0
NeedsSliceAlone b t steps =
    has_external b.schema ≡ false
    → (world : World) → IsWellFormed t world.slots → IsConforming b world
    → IsKeptInSlices t steps world

-- a report of a policy for slices of this many steps claims no more than holds: no more than any
-- report, and if it accepts the policy, the policy needs only the slice, and its level is the
-- required one
pub record IsRightForSlices (b : Basis) (steps : ℕ) (r : SliceReport) : Type 0 where
  pub right : IsRight b r.report
  pub sliced : r.report.is_accepted ≡ true
      → NeedsSliceAlone b (template_of r.report.policy.now.template) steps
  -- the report's level is the least one at which the policy has no level error, if there is one
  pub level : IsRequiredLevel b (template_of r.report.policy.now.template)
      (option_map (λ l. l.level) r.level)
