-- The rule of extended `has`: `e has x.y.z`.
use Rattle.std.specs.Prelude.{Bool, true, false, ◌&&◌, List, [], ◌∷◌, Option, Some, None, if◌then◌else◌}
use Rattle.cedar_types.specs.declared.base.location.Loc.{Loc}
use Rattle.cedar_types.specs.declared.base.types.BoolType.TheVariants.{AnyBool, True, False}
use Rattle.cedar_types.specs.Names.{Text}
use Rattle.cedar_types.specs.Types.{Ty, TBool, TRecord, TEntity, TAnyEntity}
use Rattle.cedar_types.specs.Expressions.Tree.{get_attr, ext_has_attr}
use Rattle.cedar_types.specs.Types.Order.{in_order}
use Rattle.cedar_types.specs.Expressions.View.{Written, no_name}
use Rattle.cedar_types.specs.Capability.{Cap}
use Rattle.cedar_types.specs.Types.Lookups.{attribute_type}
use Rattle.cedar_types.specs.Errors.{unexpected_type}
use Rattle.cedar_typing.specs.Capabilities.{Caps, no_caps, single, union}
use Rattle.cedar_typing.specs.Eager.{Decision, gives, refuses, Form, on_one}
use Rattle.cedar_typing.specs.Rules.Attributes.{attribute_of, declared_has, undeclared_has, get_decides}
use Rattle.cedar_typing.specs.TypeEnv.{TypeEnv, finding}
use Rattle.cedar_typing.specs.TypeTests.{object_types, is_false, is_true}
use Rattle.cedar_typing.specs.TypedExpr.{Source, place_of}

-- the progress of a chain: the capabilities that its steps have earned so far, and whether each step is
-- True
pub record Progress : Type 0 where
  pub earned : Caps
  pub all_true : Bool

abbrev pub no_steps : Progress
no_steps = record { earned = no_caps; all_true = true }

-- whether a type is a record's or an entity's. Never is neither, so a step on it is an error
abbrev pub is_object : Ty → Bool
is_object (TRecord xs o) = true
is_object (TEntity ps) = true
is_object TAnyEntity = true
is_object s = false

-- ---- one step, `e has x`

-- the type of a step, by the type of e, and by whether x is known to be there
abbrev pub step_type : TypeEnv → Ty → Text → Bool → Option (Ty × Bool) → Ty
step_type env s x known (Some a) = declared_has s a.1 known
step_type env s x known None = undeclared_has env.schema s x

-- a step earns that a declared attribute is there. A True step earns nothing, because that is known, or
-- needs no guard
abbrev pub step_earns : Ty → Cap → Option (Ty × Bool) → Caps
step_earns u there (Some a) = if is_true u then no_caps else single there
step_earns u there None = no_caps

abbrev pub with_step : Progress → Ty → Caps → Progress
with_step p u c = record { earned = union p.earned c; all_true = p.all_true && is_true u }

-- a False step ends the chain, which is False then, and earns nothing because it is never true
abbrev pub go_on_unless_false : Ty → Progress → (Progress → Decision) → Decision
go_on_unless_false u p next = if is_false u then gives (TBool False) no_caps else next p

-- a step on neither a record nor an entity ends the chain with an error
abbrev pub step : TypeEnv → Option Loc → Cap → Bool → Ty → Text → Progress
    → (Progress → Decision) → Decision
step env l there known s x p next =
    if is_object s
    then go_on_unless_false (step_type env s x known (attribute_type env.schema s x))
    (with_step p (step_type env s x known (attribute_type env.schema s x))
    (step_earns (step_type env s x known (attribute_type env.schema s x)) there
    (attribute_type env.schema s x)))
    next
    else refuses (Some (TBool AnyBool))
    (finding env l (unexpected_type (in_order object_types) s) ∷ [])

-- ---- from step to step

-- at the end the chain is True if each step is True, else Bool, with all that was earned
abbrev pub end_of_chain : Progress → Decision
end_of_chain p = gives (if p.all_true then TBool True else TBool AnyBool) p.earned

-- the access between two steps. If it fails, the chain fails too, as Bool
abbrev pub after_access : Decision → (Ty → Decision) → Decision
after_access (gives t c) next = next t
after_access (refuses t es) next = refuses (Some (TBool AnyBool)) es

-- the access `e.x` that the chain makes up, which has no place
abbrev pub made_up : Source → Text → Source
made_up e x = get_attr (record { place = None; names = no_name }) e x

-- a step that is not the last, and the access after it. If both pass, the type of `e.x` is known
abbrev pub link : TypeEnv → Option Loc → Caps → Source → Ty → Text → Progress
    → (Ty → Progress → Decision) → Decision
link env l prior e s x p next =
    step env l (attribute_of e x) (union prior p.earned (attribute_of e x)) s x p
    (λ q. after_access
    (get_decides env l x (union prior q.earned (attribute_of e x)) s
    (attribute_type env.schema s x))
    (λ t. next t q))

-- the steps from `e has x` on, for an e of type s. Errors of x stand at l, those of later attributes at
-- l'. Known are the prior capabilities, and those that earlier steps have earned
abbrev pub chain : TypeEnv → Option Loc → Option Loc → Caps → List Text → Source → Ty → Text
    → Progress → Decision
chain env l l' prior [] e s x p =
    step env l (attribute_of e x) (union prior p.earned (attribute_of e x)) s x p end_of_chain
chain env l l' prior (y ∷ ys) e s x p =
    link env l prior e s x p (λ t q. chain env l' l' prior ys (made_up e x) t y q)

-- ---- the form

abbrev pub chain_table : TypeEnv → Option Loc → Caps → Source → Text → List Text → Option Ty
    → Decision
chain_table env l prior e x xs None = refuses (Some (TBool AnyBool)) []
chain_table env l prior e x xs (Some s) = chain env (place_of e) l prior xs e s x no_steps

-- `e has x.y` of a record or an entity: whether e has x, e.x has y, and so on
abbrev pub chain_form : TypeEnv → Written → Caps → Source → Text → List Text → Form
chain_form env m prior e x xs =
    on_one m (Some object_types) (chain_table env m.place prior e x xs)
    (λ k a. ext_has_attr k a x xs)
