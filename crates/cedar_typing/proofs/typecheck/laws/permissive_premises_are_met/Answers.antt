use Rattle.cedar_typing.proofs.Examples.Permissive.{permissive_premises, wrong_bound_refuted, form_is_needed}
use Rattle.cedar_typing.proofs.typecheck.laws.permissive_premises_are_met.Goals as goal

pub returns : goal.returns
returns c = record { met = permissive_premises; wrong_bound = wrong_bound_refuted; form = form_is_needed }
