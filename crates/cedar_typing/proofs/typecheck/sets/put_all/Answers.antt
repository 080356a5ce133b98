use Rattle.std.proofs.Common.{arith}
use Rattle.std.proofs.lemmas.Grind.{common_steps}
use Rattle.cedar_typing.proofs.typecheck.sets.put_all.Goals as goal

pub loop-x-preserved : goal.loop-x-preserved
loop-x-preserved g c = (grind (arith, common_steps), λ q. grind (arith, common_steps, c.insert.ensures.updates))
