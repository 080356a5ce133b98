-- The conclusions follow from the laws.
use Rattle.std.proofs.Common.{true, [], ◌∷◌, Some, ◌∙◌}
use Rattle.cedar_typing.specs.Capabilities.{no_caps}
use Rattle.cedar_typing.specs.PolicyCheck.Outcome.{impossible}
use Rattle.cedar_types.specs.declared.base.types.ValidationMode.TheVariants.{Partial}
use Rattle.cedar_typing.specs.Refinement.{in_mode}
use Rattle.cedar_typing.proofs.Refinement.Checks.{strict_policy_is_kept}
use Rattle.cedar_typing.proofs.Refinement.PartialInduction.{permissive_is_kept_in_partial}
use Rattle.cedar_typing.proofs.Rules.Laws.{typing}
use Rattle.cedar_typing.proofs.Soundness.Capabilities.{hold_none}
use Rattle.cedar_typechecker.proofs.Levels.Refinement.{strict_levels_are_kept}
use Rattle.cedar_typechecker.proofs.Slices.TypedCopies.{copies_need_slice_alone}
use Rattle.cedar_examples.specs.ModeConclusions.{CopiesFailAlike, PartialFindsNoOther, ImpossibleInBothModes, RequiredInBothModes, SilentInBothModes}

pub copies_fail_alike : CopiesFailAlike
copies_fail_alike s world n part sliced e bound t c x h within f q =
    copies_need_slice_alone s world n part sliced e bound no_caps 1 (hold_none world) t c x h within ∙ q

pub partial_finds_no_other : PartialFindsNoOther
partial_finds_no_other s e prior d t u c c' x y h k =
    typing (in_mode Partial s) e prior d t u c c' x y (permissive_is_kept_in_partial s e prior d t c x h) k

pub impossible_in_both_modes : ImpossibleInBothModes
impossible_in_both_modes b t formed functions errors errors' old new o h =
    (strict_policy_is_kept b t formed functions errors errors' old new o true [] [] [] (impossible t ∷ [])).0 h

pub required_in_both_modes : RequiredInBothModes
required_in_both_modes b t formed functions errors errors' old new o n h =
    ((strict_levels_are_kept b t formed functions errors errors' old new o).required (Some n)).0 h

pub silent_in_both_modes : SilentInBothModes
silent_in_both_modes b t formed functions errors errors' old new o n warnings h =
    ((strict_levels_are_kept b t formed functions errors errors' old new o).outcome n [] warnings).0 h
