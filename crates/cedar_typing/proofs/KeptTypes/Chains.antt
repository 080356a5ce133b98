-- Each type of extended `has`, of a success or of a failure, is a Boolean.
use Rattle.std.proofs.Common.{◌≡◌, Bool, true, false, List, [], ◌∷◌, Option, Some, None, if◌then◌else◌, refl, sym, subst}
use Rattle.cedar_types.specs.declared.base.location.Loc.{Loc}
use Rattle.cedar_types.specs.declared.base.types.BoolType.{BoolType}
use Rattle.cedar_types.specs.declared.base.types.BoolType.TheVariants.{AnyBool, True, False}
use Rattle.cedar_types.specs.Names.{Text}
use Rattle.cedar_types.specs.Types.{Ty, TBool}
use Rattle.cedar_types.specs.Expressions.View.{Written}
use Rattle.cedar_types.specs.Capability.{Cap}
use Rattle.cedar_types.specs.Types.Lookups.{attribute_type}
use Rattle.cedar_typing.specs.Capabilities.{Caps, union}
use Rattle.cedar_typing.specs.Eager.{Decision, gives, refuses}
use Rattle.cedar_typing.specs.Rules.Attributes.{attribute_of, get_decides}
use Rattle.cedar_typing.specs.Rules.Chains.{Progress, no_steps, is_object, step_type, step, end_of_chain, after_access, made_up, link}
use Rattle.cedar_typing.specs.Rules.Chains.{chain, chain_form}
use Rattle.cedar_typing.specs.TypeEnv.{TypeEnv}
use Rattle.cedar_typing.specs.TypeTests.{is_false}
use Rattle.cedar_typing.specs.TypedExpr.{Source, place_of}
use Rattle.cedar_typing.proofs.KeptTypes.Eager.{decided_type, KeptForm}
use Rattle.cedar_typing.proofs.KeptTypes.Keeping.{HasKept, IsKeeping}

-- a type was found, and it is a Boolean
abbrev pub IsBool : Option Ty → Type 0
IsBool t = (k : BoolType) × (t ≡ Some (TBool k))

pub bool_kept : (Kept : Ty → Type 0) (env : TypeEnv) → IsKeeping Kept env → (t : Option Ty) → IsBool t → HasKept Kept t
bool_kept Kept env keeps t h = subst (HasKept Kept) (sym h.1) (keeps.booleans h.0)

bool_if : (b : Bool) (d d' : Decision) → IsBool (decided_type d) → IsBool (decided_type d') → IsBool (decided_type (if b then d else d'))
bool_if true d d' h k = h
bool_if false d d' h k = k

pub end_bool : (b : Bool) → IsBool (Some (if b then TBool True else TBool AnyBool))
end_bool true = (True, refl)
end_bool false = (AnyBool, refl)

after_bool : (d : Decision) (next : Ty → Decision) → ((t : Ty) → IsBool (decided_type (next t)))
    → IsBool (decided_type (after_access d next))
after_bool (gives t c) next h = h t
after_bool (refuses t es) next h = (AnyBool, refl)

module _ (env : TypeEnv) where
  step_bool : (l : Option Loc) (there : Cap) (known : Bool) (s : Ty) (x : Text) (p : Progress)
      (next : Progress → Decision) → ((q : Progress) → IsBool (decided_type (next q)))
      → IsBool (decided_type (step env l there known s x p next))
  step_bool l there known s x p next h =
      bool_if (is_object s) _ _ (bool_if (is_false (step_type env s x known (attribute_type env.schema s x)))
      _ _ (False, refl) (h _)) (AnyBool, refl)

  -- the rest of a chain after a step that is not the last: the access, and the steps after it
  abbrev pub after_step : Option Loc → Caps → Source → Ty → Text → (Ty → Progress → Decision) → Progress → Decision
  after_step l prior e s x next p =
      after_access (get_decides env l x (union prior p.earned (attribute_of e x)) s (attribute_type env.schema s x)) (λ t. next t p)

  link_bool : (l : Option Loc) (prior : Caps) (e : Source) (s : Ty) (x : Text) (p : Progress)
      (next : Ty → Progress → Decision) → ((t : Ty) (q : Progress) → IsBool (decided_type (next t q)))
      → IsBool (decided_type (link env l prior e s x p next))
  link_bool l prior e s x p next h =
      step_bool l (attribute_of e x) (union prior p.earned (attribute_of e x)) s x p (after_step l prior e s x next)
      (λ q. after_bool (get_decides env l x (union prior q.earned (attribute_of e x)) s
      (attribute_type env.schema s x)) (λ t. next t q) (λ t. h t q))

  chain_bool : (l l' : Option Loc) (prior : Caps) (xs : List Text) (e : Source) (s : Ty) (x : Text) (p : Progress)
      → IsBool (decided_type (chain env l l' prior xs e s x p))
  chain_bool l l' prior [] e s x p =
      step_bool l (attribute_of e x) (union prior p.earned (attribute_of e x)) s x p end_of_chain
      (λ q. end_bool q.all_true)
  chain_bool l l' prior (y ∷ ys) e s x p =
      link_bool l prior e s x p (λ t q. chain env l' l' prior ys (made_up e x) t y q)
      (λ t q. chain_bool l' l' prior ys (made_up e x) t y q)

pub chain_kept : (Kept : Ty → Type 0) (env : TypeEnv) → IsKeeping Kept env → (m : Written) (prior : Caps)
    (e : Source) (x : Text) (xs : List Text) → KeptForm Kept (chain_form env m prior e x xs)
chain_kept Kept env keeps m prior e x xs [] h = keeps.booleans AnyBool
chain_kept Kept env keeps m prior e x xs (None ∷ ts) h = keeps.booleans AnyBool
chain_kept Kept env keeps m prior e x xs (Some s ∷ ts) h =
    bool_kept Kept env keeps _ (chain_bool env (place_of e) m.place prior xs e s x no_steps)
