use Rattle.cedar_frames.proofs.heads.head_of.Goals as goal

pub returns-in-None-clause-usual : goal.returns-in-None-clause-usual
returns-in-None-clause-usual c = λ n rest h e. let none = c.in-None.ensures.usual n rest h e in cc
