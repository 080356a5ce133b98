-- The modes in which typing promises something of evaluation.
use Rattle.std.specs.Prelude.{◌≡◌, ◌||◌, true, false}
use Rattle.cedar_types.specs.declared.base.types.ValidationMode.{ValidationMode}
use Rattle.cedar_types.specs.Environments.RequestEnvs.{is_partial}
use Rattle.cedar_types.specs.Schemas.Formed.{has_formed_types}
use Rattle.cedar_types.specs.Schemas.{Schema}
use Rattle.cedar_types.specs.Types.Bounds.{is_strict}

-- Strict or Permissive: nothing is promised in Partial
abbrev pub IsSoundMode : ValidationMode → Type 0
IsSoundMode m = is_partial m ≡ false

-- names ascend in the types of the schema, as they do in every schema of the program. Strict does not ask for it: only the
-- other modes join records by width
abbrev pub IsFormedFor : ValidationMode → Schema → Type 0
IsFormedFor m s = (is_strict m || has_formed_types s) ≡ true
