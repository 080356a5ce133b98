-- The rules of `e has x` and `e.x`.
use Rattle.std.specs.Prelude.{Bool, ◌&&◌, ◌||◌, [], ◌∷◌, Option, Some, None, if◌then◌else◌}
use Rattle.cedar_types.specs.declared.base.location.Loc.{Loc}
use Rattle.cedar_types.specs.declared.base.types.BoolType.TheVariants.{AnyBool, True, False}
use Rattle.cedar_types.specs.Names.{Text}
use Rattle.cedar_types.specs.Types.{Ty, TNever, TBool}
use Rattle.cedar_types.specs.Expressions.Tree.{get_attr, has_attr}
use Rattle.cedar_types.specs.Expressions.View.{Written}
use Rattle.cedar_types.specs.Capability.{Cap, attribute}
use Rattle.cedar_types.specs.Schemas.{Schema}
use Rattle.cedar_types.specs.Types.Lookups.{attribute_type, may_have}
use Rattle.cedar_types.specs.Environments.RequestEnvs.{is_partial}
use Rattle.cedar_types.specs.Errors.{unsafe_attribute_access, unsafe_optional_attribute_access}
use Rattle.cedar_typing.specs.Capabilities.{Caps, no_caps, single}
use Rattle.cedar_typing.specs.Eager.{Decision, gives, refuses, Form, on_one}
use Rattle.cedar_typing.specs.TypeEnv.{TypeEnv, finding}
use Rattle.cedar_typing.specs.TypeTests.{object_types, is_record}
use Rattle.cedar_typing.specs.TypedExpr.{Source, form_of}

-- the capability that e has x
abbrev pub attribute_of : Source → Text → Cap
attribute_of e x = attribute (form_of e) x

-- ---- `has`

-- a declared attribute: True if it is known to be there, or if a record requires it; else Bool,
-- because an entity need not be in the store
abbrev pub declared_has : Ty → Bool → Bool → Ty
declared_has s required known =
    if known || (required && is_record s) then TBool True else TBool AnyBool

-- an undeclared attribute: Bool if it may be there, else False
abbrev pub undeclared_has : Schema → Ty → Text → Ty
undeclared_has s t x = if may_have s t x then TBool AnyBool else TBool False

-- if x is declared, the whole produces that e has x, because it is true only then
abbrev pub has_decides : TypeEnv → Text → Cap → Bool → Ty → Option (Ty × Bool) → Decision
has_decides env x there known s (Some a) = gives (declared_has s a.1 known) (single there)
has_decides env x there known s None = gives (undeclared_has env.schema s x) no_caps

abbrev pub has_table : TypeEnv → Text → Cap → Bool → Option Ty → Decision
has_table env x there known None = gives (TBool AnyBool) no_caps
has_table env x there known (Some s) =
    has_decides env x there known s (attribute_type env.schema s x)

-- `e has x` of a record or an entity: a Boolean, and if it is true, x is known to be there
abbrev pub has_form : TypeEnv → Written → Caps → Source → Text → Form
has_form env m prior e x =
    on_one m (Some object_types) (has_table env x (attribute_of e x) (prior (attribute_of e x)))
    (λ k a. has_attr k a x)

-- ---- `.`

-- a declared attribute has its type. If it is neither required nor known to be there, that is an error
-- at the whole, which keeps the type, so that one mistake is one error
abbrev pub declared_get : TypeEnv → Option Loc → Text → Bool → Ty → Ty × Bool → Decision
declared_get env l x known s a =
    if a.1 || known then gives a.0 no_caps
    else refuses (Some a.0) (finding env l (unsafe_optional_attribute_access s x) ∷ [])

-- an undeclared attribute has the type Never in Partial if it may be there. Else it is an error at the
-- whole, which says whether it may be there, and has no type
abbrev pub undeclared_get : TypeEnv → Option Loc → Text → Ty → Decision
undeclared_get env l x s =
    if is_partial env.mode && may_have env.schema s x then gives TNever no_caps
    else refuses None (finding env l (unsafe_attribute_access s x (may_have env.schema s x)) ∷ [])

abbrev pub get_decides : TypeEnv → Option Loc → Text → Bool → Ty → Option (Ty × Bool) → Decision
get_decides env l x known s (Some a) = declared_get env l x known s a
get_decides env l x known s None = undeclared_get env l x s

abbrev pub get_table : TypeEnv → Option Loc → Text → Bool → Option Ty → Decision
get_table env l x known None = refuses None []
get_table env l x known (Some s) = get_decides env l x known s (attribute_type env.schema s x)

-- `e.x` of a record or an entity: the type of x
abbrev pub get_form : TypeEnv → Written → Caps → Source → Text → Form
get_form env m prior e x =
    on_one m (Some object_types) (get_table env m.place x (prior (attribute_of e x)))
    (λ k a. get_attr k a x)
