-- Environments whose slots are linked.
use Rattle.std.specs.Prelude.{Some}
use Rattle.cedar_types.specs.Environments.RequestEnvs.{Env, Declared}

-- both slots of the environment are linked to types
abbrev pub LinksBothSlots : Env → Type 0
LinksBothSlots (Declared d (Some p) (Some r)) = Unit {0}
LinksBothSlots e = ⊥
