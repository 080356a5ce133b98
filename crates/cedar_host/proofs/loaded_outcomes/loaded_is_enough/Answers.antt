use Rattle.cedar_host.proofs.LoadedOutcomes.{loaded_give_the_same, loaded_respond_the_same, only_loaded_need_conform}
use Rattle.cedar_host.proofs.loaded_outcomes.loaded_is_enough.Goals as goal

pub returns : goal.returns
returns c = record {
  outcomes = loaded_give_the_same;
  responses = loaded_respond_the_same;
  conforming = only_loaded_need_conform;
}
