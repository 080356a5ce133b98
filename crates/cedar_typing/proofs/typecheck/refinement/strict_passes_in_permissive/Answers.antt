use Rattle.cedar_typing.proofs.Refinement.Checks.{strict_check_is_kept, environments_are_kept, strict_verdicts_are_kept, strict_policy_is_kept}
use Rattle.cedar_typing.proofs.Refinement.Checks.{strict_passes_in_permissive}
use Rattle.cedar_typing.proofs.typecheck.refinement.strict_passes_in_permissive.Goals as goal

pub returns : goal.returns
returns c = record {
  check = strict_check_is_kept;
  environments = environments_are_kept;
  verdicts = strict_verdicts_are_kept;
  policy = strict_policy_is_kept;
  answer = strict_passes_in_permissive;
}
