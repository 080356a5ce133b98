use Rattle.std.proofs.Common.{◌≡◌, length}
use Rattle.cedar_extensions.specs.Texts.Readers.{number_after}
use Rattle.cedar_extensions.proofs.texts.readers.read_number.Given as goal

abbrev pub invariant-loop-rest : goal.invariant-loop-rest
invariant-loop-rest l = number_after l.value l.rest ≡ number_after 0 l.s

abbrev pub decreases-loop-rest : goal.decreases-loop-rest
decreases-loop-rest l = length l.rest
