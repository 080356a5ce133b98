use Rattle.cedar_typechecker.proofs.LeftOut.Quiet as law
use Rattle.cedar_typechecker.proofs.survey.left_out.left_out_is_quiet.Goals as goal

pub returns : goal.returns
returns c = law.left_out_is_quiet
