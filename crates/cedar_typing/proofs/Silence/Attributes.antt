-- Each failure has an error: `has`, `.`, extended `has`, `hasTag` and `getTag`.
use Rattle.std.proofs.Common.{Bool, ◌&&◌, ◌||◌, List, [], ◌∷◌, Option, Some, None, refl}
use Rattle.cedar_types.specs.declared.base.location.Loc.{Loc}
use Rattle.cedar_types.specs.Types.Bounds.{is_never, list_lub}
use Rattle.cedar_types.specs.Capability.{Cap}
use Rattle.cedar_types.specs.Types.Lookups.{attribute_type, may_have, tag_types}
use Rattle.cedar_types.specs.Names.{Text}
use Rattle.cedar_types.specs.Environments.RequestEnvs.{is_partial}
use Rattle.cedar_types.specs.Types.{Ty}
use Rattle.cedar_types.specs.Expressions.View.{Written}
use Rattle.cedar_typing.specs.Capabilities.{Caps, union}
use Rattle.cedar_typing.specs.Eager.{Decision, gives, refuses}
use Rattle.cedar_typing.specs.Rules.Attributes.{attribute_of, has_decides, has_form, get_decides, get_form}
use Rattle.cedar_typing.specs.Rules.Chains.{Progress, no_steps, is_object, step_type, step, end_of_chain, after_access, made_up, link}
use Rattle.cedar_typing.specs.Rules.Chains.{chain, chain_form}
use Rattle.cedar_typing.specs.Rules.Tags.{tag_of, has_tag_form, tag_by_bound, get_known_tag, get_tag_form}
use Rattle.cedar_typing.specs.TypeEnv.{TypeEnv}
use Rattle.cedar_typing.specs.TypeTests.{is_false}
use Rattle.cedar_typing.specs.TypedExpr.{Source, place_of}
use Rattle.cedar_typing.proofs.Silence.Eager.{IsLoudDecision, LoudForm}
use Rattle.cedar_typing.proofs.Silence.Tables.{loud_if}
use Rattle.cedar_typing.proofs.KeptTypes.Chains.{after_step}

-- ---- `has` and `.`

module _ (env : TypeEnv) where
  has_decided : (x : Text) (there : Cap) (known : Bool) (s : Ty) (a : Option (Ty × Bool))
      → IsLoudDecision (has_decides env x there known s a)
  has_decided x there known s (Some a) = tt
  has_decided x there known s None = tt

  get_decided : (l : Option Loc) (x : Text) (known : Bool) (s : Ty) (a : Option (Ty × Bool))
      → IsLoudDecision (get_decides env l x known s a)
  get_decided l x known s (Some a) = loud_if (a.1 || known) _ _ tt refl
  get_decided l x known s None = loud_if (is_partial env.mode && may_have env.schema s x) _ _ tt refl

  pub has_loud : (m : Written) (prior : Caps) (e : Source) (x : Text) → LoudForm 1 (has_form env m prior e x)
  has_loud m prior e x [] h = absurd h
  has_loud m prior e x (None ∷ ts) h = tt
  has_loud m prior e x (Some s ∷ ts) h = has_decided x (attribute_of e x) (prior (attribute_of e x)) s (attribute_type env.schema s x)

  pub get_loud : (m : Written) (prior : Caps) (e : Source) (x : Text) → LoudForm 1 (get_form env m prior e x)
  get_loud m prior e x [] h = absurd h
  get_loud m prior e x (None ∷ ts) h = absurd h.0
  get_loud m prior e x (Some s ∷ ts) h = get_decided m.place x (prior (attribute_of e x)) s (attribute_type env.schema s x)

  -- ---- extended `has`

  step_loud : (l : Option Loc) (there : Cap) (known : Bool) (s : Ty) (x : Text) (p : Progress)
      (next : Progress → Decision) → ((q : Progress) → IsLoudDecision (next q))
      → IsLoudDecision (step env l there known s x p next)
  step_loud l there known s x p next h =
      loud_if (is_object s) _ _ (loud_if (is_false (step_type env s x known (attribute_type env.schema s x))) _ _ tt (h _)) refl

  after_loud : (d : Decision) (next : Ty → Decision) → IsLoudDecision d → ((t : Ty) → IsLoudDecision (next t))
      → IsLoudDecision (after_access d next)
  after_loud (gives t c) next h k = k t
  after_loud (refuses t es) next h k = h

  link_loud : (l : Option Loc) (prior : Caps) (e : Source) (s : Ty) (x : Text) (p : Progress)
      (next : Ty → Progress → Decision) → ((t : Ty) (q : Progress) → IsLoudDecision (next t q))
      → IsLoudDecision (link env l prior e s x p next)
  link_loud l prior e s x p next h =
      step_loud l (attribute_of e x) (union prior p.earned (attribute_of e x)) s x p (after_step env l prior e s x next)
      (λ q. after_loud (get_decides env l x (union prior q.earned (attribute_of e x)) s (attribute_type env.schema s x)) (λ t. next t q)
      (get_decided l x (union prior q.earned (attribute_of e x)) s (attribute_type env.schema s x)) (λ t. h t q))

  steps_loud : (l l' : Option Loc) (prior : Caps) (xs : List Text) (e : Source) (s : Ty) (x : Text) (p : Progress)
      → IsLoudDecision (chain env l l' prior xs e s x p)
  steps_loud l l' prior [] e s x p = step_loud l (attribute_of e x) (union prior p.earned (attribute_of e x)) s x p end_of_chain (λ q. tt)
  steps_loud l l' prior (y ∷ ys) e s x p =
      link_loud l prior e s x p (λ t q. chain env l' l' prior ys (made_up e x) t y q)
      (λ t q. steps_loud l' l' prior ys (made_up e x) t y q)

  pub chain_loud : (m : Written) (prior : Caps) (e : Source) (x : Text) (xs : List Text) → LoudForm 1 (chain_form env m prior e x xs)
  chain_loud m prior e x xs [] h = absurd h
  chain_loud m prior e x xs (None ∷ ts) h = absurd h.0
  chain_loud m prior e x xs (Some s ∷ ts) h = steps_loud (place_of e) m.place prior xs e s x no_steps

  -- ---- `hasTag` and `getTag`

  pub has_tag_loud : (m : Written) (prior : Caps) (a b : Source) → LoudForm 2 (has_tag_form env m prior a b)
  has_tag_loud m prior a b [] h = absurd h
  has_tag_loud m prior a b (None ∷ ts) h = absurd h.0
  has_tag_loud m prior a b (Some s ∷ ts) h = loud_if (is_never s) _ _ refl tt

  bound_loud : (l : Option Loc) (ts : List Ty) (u : Option Ty) → IsLoudDecision (tag_by_bound env l ts u)
  bound_loud l ts (Some u) = tt
  bound_loud l ts None = refl

  known_loud : (l : Option Loc) (s : Ty) (ts : List Ty) → IsLoudDecision (get_known_tag env l s ts)
  known_loud l s [] = refl
  known_loud l s (t ∷ ts) = bound_loud l (t ∷ ts) (list_lub env.mode (t ∷ ts))

  pub get_tag_loud : (m : Written) (prior : Caps) (a b : Source) → LoudForm 2 (get_tag_form env m prior a b)
  get_tag_loud m prior a b [] h = absurd h
  get_tag_loud m prior a b (None ∷ ts) h = absurd h.0
  get_tag_loud m prior a b (Some s ∷ ts) h =
      loud_if (is_never s) _ _ refl (loud_if (prior (tag_of a b)) _ _ (known_loud m.place s (tag_types env.schema s)) refl)
