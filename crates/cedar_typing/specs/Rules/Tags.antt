-- The rules of `hasTag` and `getTag`.
use Rattle.std.specs.Prelude.{Bool, List, [], ◌∷◌, Option, Some, None, if◌then◌else◌}
use Rattle.cedar_types.specs.declared.base.location.Loc.{Loc}
use Rattle.cedar_types.specs.declared.base.expressions.operators.BinaryOp.{BinaryOp}
use Rattle.cedar_types.specs.declared.base.errors.type_errors.LubContext.TheVariants.{GetTag}
use Rattle.cedar_types.specs.declared.base.types.BoolType.TheVariants.{AnyBool, True, False}
use Rattle.cedar_types.specs.Names.{Path}
use Rattle.cedar_types.specs.Types.{Ty, TBool, TEntity, sole}
use Rattle.cedar_types.specs.Expressions.Tree.{binary}
use Rattle.cedar_types.specs.Expressions.View.{Written}
use Rattle.cedar_types.specs.Capability.{Cap, tag}
use Rattle.cedar_types.specs.Types.Bounds.{is_never, list_lub}
use Rattle.cedar_types.specs.Types.Lookups.{tag_types}
use Rattle.cedar_types.specs.Errors.{incompatible_types, unsafe_tag_access, no_tags_allowed, internal_invariant_violation}
use Rattle.cedar_typing.specs.Capabilities.{Caps, no_caps, single}
use Rattle.cedar_typing.specs.Eager.{Decision, gives, refuses, Form, on_two}
use Rattle.cedar_typing.specs.TypeEnv.{TypeEnv, finding}
use Rattle.cedar_typing.specs.TypeTests.{string_types, entity_types}
use Rattle.cedar_typing.specs.TypedExpr.{Source, form_of}

-- the capability that a has the tag whose name is b
abbrev pub tag_of : Source → Source → Cap
tag_of a b = tag (form_of a) (form_of b)

-- ---- `hasTag`

-- False if no type declares tags; True if the tag is known to be there; else Bool, because no
-- schema requires a tag
abbrev pub has_tag_type : List Ty → Bool → Ty
has_tag_type [] known = TBool False
has_tag_type (t ∷ ts) known = if known then TBool True else TBool AnyBool

-- the whole produces that the tag is there. Never has no entity types to ask for tags, which is an
-- error
abbrev pub has_tag_table : TypeEnv → Option Loc → Cap → Bool → Option Ty → Decision
has_tag_table env l there known None = refuses None []
has_tag_table env l there known (Some s) =
    if is_never s then refuses None (finding env l internal_invariant_violation ∷ [])
    else gives (has_tag_type (tag_types env.schema s) known) (single there)

-- `a.hasTag(b)` of an entity and a text: a Boolean, and if it is true, the tag is known to be there
abbrev pub has_tag_form : TypeEnv → Written → Caps → Source → Source → Form
has_tag_form env m prior a b =
    on_two m (Some entity_types) (Some string_types)
    (λ s t. has_tag_table env m.place (tag_of a b) (prior (tag_of a b)) s)
    (λ k x y. binary k BinaryOp.HasTag x y)

-- ---- `getTag`

-- the entity types that errors name; `None` for any entity
abbrev pub types_named : Ty → Option (List Path)
types_named (TEntity ps) = Some ps
types_named s = None

-- the only entity type, if there is exactly one
abbrev pub only_type : Option (List Path) → Option Path
only_type None = None
only_type (Some ps) = sole ps

-- the bound of the types that the tag may have. If they have none, that is an error at the whole
abbrev pub tag_by_bound : TypeEnv → Option Loc → List Ty → Option Ty → Decision
tag_by_bound env l ts (Some u) = gives u no_caps
tag_by_bound env l ts None = refuses None (finding env l (incompatible_types ts GetTag) ∷ [])

-- types that declare no tags are an error at the whole
abbrev pub get_known_tag : TypeEnv → Option Loc → Ty → List Ty → Decision
get_known_tag env l s [] =
    refuses None (finding env l (no_tags_allowed (only_type (types_named s))) ∷ [])
get_known_tag env l s (t ∷ ts) = tag_by_bound env l (t ∷ ts) (list_lub env.mode (t ∷ ts))

-- a tag that is not known to be there is an error at the whole, because no schema requires a tag.
-- So is Never, for which there is no rule
abbrev pub get_tag_table : TypeEnv → Option Loc → Bool → Option Ty → Decision
get_tag_table env l known None = refuses None []
get_tag_table env l known (Some s) =
    if is_never s then refuses None (finding env l internal_invariant_violation ∷ [])
    else if known then get_known_tag env l s (tag_types env.schema s)
    else refuses None (finding env l (unsafe_tag_access (types_named s)) ∷ [])

-- `a.getTag(b)` of an entity and a text: the type of the tag
abbrev pub get_tag_form : TypeEnv → Written → Caps → Source → Source → Form
get_tag_form env m prior a b =
    on_two m (Some entity_types) (Some string_types)
    (λ s t. get_tag_table env m.place (prior (tag_of a b)) s)
    (λ k x y. binary k BinaryOp.GetTag x y)
