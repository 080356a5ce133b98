use Rattle.std.proofs.Common.{arith}
use Rattle.std.proofs.lemmas.Grind.{common_steps}
use Rattle.cedar_extensions.proofs.functions.add_methods.Goals as goal

pub loop-method-preserved : goal.loop-method-preserved
loop-method-preserved g c = λ meaning.
    grind (arith, common_steps, c.loop-method.invariant meaning, c.in_ok-method_function.ensures meaning)

pub returns : goal.returns
returns g c = λ meaning. grind (arith, common_steps, c.loop-method.invariant meaning)
