use Rattle.cedar_typing.proofs.Refinement.PartialInduction.{permissive_is_kept_in_partial, success_is_kept_in_partial}
use Rattle.cedar_typing.proofs.typecheck.refinement.permissive_is_kept_in_partial.Goals as goal

pub returns : goal.returns
returns c = record { derivations = permissive_is_kept_in_partial; success = success_is_kept_in_partial }
