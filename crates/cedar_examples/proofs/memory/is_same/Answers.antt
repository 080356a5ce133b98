use Rattle.std.proofs.Common.{◌∙◌}
use Rattle.cedar_types.specs.Lemmas.Comparisons.{uid_is}
use Rattle.cedar_examples.proofs.memory.is_same.Goals as goal

pub returns : goal.returns
returns c = c.eq.ensures ∙ uid_is c.args.one.now c.args.other.now
