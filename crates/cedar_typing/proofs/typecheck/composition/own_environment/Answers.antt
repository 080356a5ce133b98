use Rattle.cedar_typing.proofs.Composition.Coverage.{own_env_is_checked_of_types}
use Rattle.cedar_typing.proofs.Composition.Links.{own_env_is_checked}
use Rattle.cedar_typing.proofs.Composition.SlotTests.{own_tests_are_bool}
use Rattle.cedar_typing.proofs.typecheck.composition.own_environment.Goals as goal

pub returns : goal.returns
returns c = record {
  checked = own_env_is_checked;
  of_types = own_env_is_checked_of_types;
  tests = own_tests_are_bool;
}
