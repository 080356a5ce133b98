use Rattle.std.proofs.Common.{None}
use Rattle.std.proofs.lemmas.Bool.Decides.{Decides-eqb}
use Rattle.std.proofs.lemmas.Slice.Eq.{strip_prefix_is}
use Rattle.cedar_frames.proofs.heads.behind.Goals as goal

pub returns-in-None-clause-found : goal.returns-in-None-clause-found
returns-in-None-clause-found c = λ rest e.
    absurd (strip_prefix_is Decides-eqb c.args.bytes.now c.args.beginning.now None c.in-None.ensures.cases rest e)
