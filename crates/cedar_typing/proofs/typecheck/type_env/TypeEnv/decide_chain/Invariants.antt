use Rattle.std.proofs.Common.{◌≡◌, length, option_map}
use Rattle.cedar_types.specs.ChainSteps.{step_attr, step_written, steps_left}
use Rattle.cedar_types.specs.Types.{ty_of}
use Rattle.cedar_types.specs.Expressions.View.{chain_of, written}
use Rattle.cedar_typing.specs.Capabilities.Priors.{known_in}
use Rattle.cedar_typing.specs.Rules.Chains.{chain, chain_table}
use Rattle.cedar_typing.specs.Views.{env_at, progress_of}
use Rattle.cedar_typing.proofs.typecheck.type_env.TypeEnv.decide_chain.Given as goal

-- the decision from the steps that are left is that from all steps
abbrev pub invariant-loop-next : goal.invariant-loop-next
invariant-loop-next l =
    chain (env_at l.self) l.place l.loc (known_in l.prior) (steps_left l.at)
    (step_written l.at) (ty_of l.ty) (step_attr l.at) (progress_of l.progress)
    ≡ chain_table (env_at l.fn.self) l.fn.loc (known_in l.fn.prior) (written l.fn.base)
    (chain_of l.fn.attrs).0 (chain_of l.fn.attrs).1 (option_map ty_of l.fn.found)

abbrev pub decreases-loop-next : goal.decreases-loop-next
decreases-loop-next l = length (steps_left l.at)
