-- The rules of `+`, `-`, `*`, `<` and `<=`.
use Rattle.std.specs.Prelude.{Bool, ◌&&◌, List, [], ◌∷◌, map, Option, Some, None, if◌then◌else◌}
use Rattle.std.specs.List.{list_any}
use Rattle.cedar_types.specs.declared.base.location.Loc.{Loc}
use Rattle.cedar_types.specs.declared.base.expressions.operators.BinaryOp.{BinaryOp}
use Rattle.cedar_types.specs.declared.base.types.BoolType.TheVariants.{AnyBool}
use Rattle.cedar_types.specs.Types.{Ty, TBool, TLong, TExtension}
use Rattle.cedar_types.specs.Expressions.Tree.{binary}
use Rattle.cedar_types.specs.Expressions.View.{Written}
use Rattle.cedar_types.specs.Types.Order.{in_order}
use Rattle.cedar_types.specs.Types.Bounds.{ty_eq, is_never}
use Rattle.cedar_types.specs.Errors.{Finding, unexpected_type}
use Rattle.cedar_typing.specs.Capabilities.{no_caps}
use Rattle.cedar_typing.specs.Eager.{Decision, gives, refuses, Form, gives_unless, on_two}
use Rattle.cedar_typing.specs.TypeEnv.{TypeEnv, finding}
use Rattle.cedar_typing.specs.TypeTests.{long_types}

-- `a + b`, `a - b`, `a * b` of two Longs: Long
abbrev pub arithmetic_form : Written → BinaryOp → Form
arithmetic_form m o =
    on_two m (Some long_types) (Some long_types)
    (λ s t. gives TLong no_caps) (λ k a b. binary k o a b)

-- ---- `<` and `<=`

-- the comparable types: Long, and the overloaded extension types
abbrev pub comparable_types : TypeEnv → List Ty
comparable_types env = TLong ∷ map TExtension env.overloaded_types

abbrev pub is_comparable : TypeEnv → Ty → Bool
is_comparable env t = list_any (ty_eq t) (comparable_types env)

-- an error at l that one of the types ts is expected
abbrev pub expected_at : TypeEnv → Option Loc → List Ty → Ty → Finding
expected_at env l ts t = finding env l (unexpected_type (in_order ts) t)

-- a type beside Never must be comparable
abbrev pub beside_never : TypeEnv → Option Loc → Ty → List Finding
beside_never env l t =
    if is_comparable env t then [] else expected_at env l (comparable_types env) t ∷ []

-- two sides that are not of one comparable type. If one is a Long, the other must be one; else if
-- one is comparable, the other must be of its type; else both sides are wrong
abbrev pub incomparable : TypeEnv → Option Loc → Option Loc → Ty → Ty → List Finding
incomparable env l l' s t =
    if ty_eq s TLong then expected_at env l' (TLong ∷ []) t ∷ []
    else if ty_eq t TLong then expected_at env l (TLong ∷ []) s ∷ []
    else if is_comparable env s then expected_at env l' (s ∷ []) t ∷ []
    else if is_comparable env t then expected_at env l (t ∷ []) s ∷ []
    else expected_at env l (comparable_types env) s
    ∷ expected_at env l' (comparable_types env) t ∷ []

-- two Nevers fail without an error, because nothing tells the type that is meant, and the type is
-- still Bool. Two sides of one comparable type pass
abbrev pub compares : TypeEnv → Option Loc → Option Loc → Ty → Ty → Decision
compares env l l' s t =
    if is_never s && is_never t then refuses (Some (TBool AnyBool)) []
    else if is_never s then gives_unless (beside_never env l' t) (TBool AnyBool)
    else if is_never t then gives_unless (beside_never env l s) (TBool AnyBool)
    else if is_comparable env s && ty_eq s t then gives (TBool AnyBool) no_caps
    else refuses (Some (TBool AnyBool)) (incomparable env l l' s t)

-- a side without a type adds no error, because it has failed already
abbrev pub compare_decides : TypeEnv → Option Loc → Option Loc → Option Ty → Option Ty → Decision
compare_decides env l l' (Some s) (Some t) = compares env l l' s t
compare_decides env l l' s t = refuses (Some (TBool AnyBool)) []

-- `a < b`, `a <= b` of operands at l and l' that are of one comparable type: Bool. No type is
-- expected beforehand, because the type of one side decides that of the other
abbrev pub comparison_form : TypeEnv → Written → Option Loc → Option Loc → BinaryOp → Form
comparison_form env m l l' o =
    on_two m None None (compare_decides env l l') (λ k a b. binary k o a b)
