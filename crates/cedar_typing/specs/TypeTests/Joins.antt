-- Bounds that two types must have.
use Rattle.std.specs.Prelude.{List, [], ◌∷◌, Option, Some, None, if◌then◌else◌}
use Rattle.cedar_types.specs.declared.base.location.Loc.{Loc}
use Rattle.cedar_types.specs.declared.base.errors.type_errors.LubContext.{LubContext}
use Rattle.cedar_types.specs.declared.base.types.ValidationMode.{ValidationMode}
use Rattle.cedar_types.specs.Types.{Ty}
use Rattle.cedar_types.specs.Types.Order.{in_order}
use Rattle.cedar_types.specs.Types.Bounds.{is_strict, lub}
use Rattle.cedar_types.specs.Errors.{Finding, incompatible_types}
use Rattle.cedar_typing.specs.TypeEnv.{TypeEnv, finding}

-- the bound of two types, if both were found and have one
abbrev pub joined : ValidationMode → Option Ty → Option Ty → Option Ty
joined m (Some t) (Some u) = lub m t u
joined m t u = None

-- two types without a bound are an error at l, which names them and their context
abbrev pub bound_errors : TypeEnv → Option Loc → LubContext → Ty → Ty → Option Ty → List Finding
bound_errors env l x t u (Some v) = []
bound_errors env l x t u None = finding env l (incompatible_types (in_order (t ∷ u ∷ [])) x) ∷ []

-- a missing type adds no error, because its expression has failed already
abbrev pub join_errors : TypeEnv → Option Loc → LubContext → Option Ty → Option Ty → List Finding
join_errors env l x (Some t) (Some u) = bound_errors env l x t u (lub env.mode t u)
join_errors env l x t u = []

-- two types must have a bound in Strict alone
abbrev pub strict_errors : TypeEnv → Option Loc → LubContext → Option Ty → Option Ty → List Finding
strict_errors env l x t u = if is_strict env.mode then join_errors env l x t u else []
