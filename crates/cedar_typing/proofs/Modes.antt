-- A schema in whose types names ascend, as every schema of the program, is formed for each mode.
use Rattle.std.proofs.Common.{◌≡◌, true, refl}
use Rattle.cedar_types.specs.declared.base.types.ValidationMode.{ValidationMode}
use Rattle.cedar_types.specs.Schemas.Formed.{has_formed_types}
use Rattle.cedar_types.specs.Schemas.{Schema}
use Rattle.cedar_typing.specs.Modes.{IsFormedFor}

pub formed_for : (m : ValidationMode) (s : Schema) → has_formed_types s ≡ true → IsFormedFor m s
formed_for ValidationMode.Strict s h = refl
formed_for ValidationMode.Permissive s h = h
formed_for ValidationMode.Partial s h = h
