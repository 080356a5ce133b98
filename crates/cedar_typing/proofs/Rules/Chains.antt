-- The capabilities that a step of a chain earns, in the program and by the rule.
use Rattle.std.proofs.Common.{◌≡◌, Bool, true, false, true≢false, ◌&&◌, ◌||◌, not, Option, Some, None, option_map, if◌then◌else◌, refl, sym}
use Rattle.std.proofs.Common.{◌∙◌, ap, subst}
use Rattle.std.specs.Prelude.{is_some}
use Rattle.cedar_types.specs.declared.base.location.Loc.{Loc}
use Rattle.cedar_types.specs.declared.base.types.BoolType.TheVariants.{False}
use Rattle.cedar_types.proofs.Digests.{cap_itself}
use Rattle.cedar_types.specs.Capability.{Cap, AddsJust}
use Rattle.cedar_types.specs.Types.Lookups.{attribute_type}
use Rattle.cedar_types.specs.Names.{Text}
use Rattle.cedar_types.specs.Types.{Ty, TBool}
use Rattle.cedar_typing.specs.Capabilities.{Caps, no_caps, single, union}
use Rattle.cedar_typing.specs.Eager.{Decision, gives}
use Rattle.cedar_typing.specs.Rules.Chains.{Progress, is_object, step, step_type, step_earns, with_step}
use Rattle.cedar_typing.specs.TypeEnv.{TypeEnv}
use Rattle.cedar_typing.specs.TypeTests.{is_false, is_true}

or_false : (b : Bool) → b ≡ (b || false)
or_false true = refl
or_false false = refl

nothing_added : (f : Caps) → f ≡ union f no_caps
nothing_added f = λ i q. or_false (f q) i

just_added : (f h : Caps) (c : Cap) → AddsJust c f h → h ≡ union f (single c)
just_added f h c k = λ i q. k q i

by_type : (f : Caps) (c : Cap) (b : Bool) → (true && not b) ≡ false → f ≡ union f (if b then no_caps else single c)
by_type f c true n = nothing_added f
by_type f c false n = absurd (true≢false n)

-- the attribute is declared if the test of the program passes
pub is_there : (b t : Bool) → (b && not t) ≡ true → b ≡ true
is_there true t h = refl
is_there false t h = h

pub is_new : (b t : Bool) → (b && not t) ≡ true → t ≡ false
is_new true false h = refl
is_new true true h = absurd (true≢false (sym h))
is_new false t h = absurd (true≢false (sym h))

-- a step on a declared attribute that is not True earns the attribute
pub earned : (f h : Caps) (u : Ty) (c : Cap) (a : Option (Ty × Bool)) → is_some a ≡ true → is_true u ≡ false
    → AddsJust c f h → h ≡ union f (step_earns u c a)
earned f h u c (Some a) s n k = subst (λ b. h ≡ union f (if b then no_caps else single c)) (sym n) (just_added f h c k)
earned f h u c None s n k = absurd (true≢false (sym s))

-- any other step earns nothing
pub not_earned : (f : Caps) (u : Ty) (c : Cap) (a : Option (Ty × Bool)) → (is_some a && not (is_true u)) ≡ false
    → f ≡ union f (step_earns u c a)
not_earned f u c (Some a) n = by_type f c (is_true u) n
not_earned f u c None n = nothing_added f

pub with_step_is : (p : Progress) (f : Caps) (b : Bool) (u : Ty) (c : Caps) → f ≡ union p.earned c → b ≡ is_true u
    → ◌≡◌ {A = Progress} (record { earned = f; all_true = p.all_true && b }) (with_step p u c)
with_step_is p f b u c e t = λ i. record { earned = e i; all_true = p.all_true && t i }

-- after a step its attribute is known if it was known before, or if the step earns it
pub earns_itself : (u : Ty) (c : Cap) (a : Option (Ty × Bool)) (d : Bool) → is_some a ≡ d → (d && not (is_true u)) ≡ step_earns u c a c
earns_itself u c (Some x) d e = ap (λ b. b && not (is_true u)) (sym e) ∙ by_test (is_true u)
  where
    by_test : (b : Bool) → (true && not b) ≡ (if b then no_caps else single c) c
    by_test true = refl
    by_test false = sym (cap_itself c)
earns_itself u c None d e = ap (λ b. b && not (is_true u)) (sym e)

or_along : (a b c : Bool) → ((a || b) || c) ≡ (a || (b || c))
or_along true b c = refl
or_along false b c = refl

pub known_after : (prior earned after new : Caps) (there q : Cap) (k k' : Bool) → q ≡ there → k ≡ union prior earned q
    → k' ≡ (k || new q) → after ≡ union earned new → k' ≡ union prior after there
known_after prior earned after new there q k k' same known now e =
    now ∙ ap (λ b. b || new q) known ∙ or_along (prior q) (earned q) (new q)
    ∙ (λ i. prior (same i) || sym e i (same i))

-- ---- a step after which the chain goes on

module _ (env : TypeEnv) (l : Option Loc) (s : Ty) (x : Text) where
  abbrev declared : Option (Ty × Bool)
  declared = attribute_type env.schema s x

  pub some_declared : (a : Option (Ty × Bool)) → is_some a ≡ is_some (option_map (λ (t : Ty × Bool). t.1) a)
  some_declared (Some a) = refl
  some_declared None = refl

  passes : (there : Cap) (known : Bool) (p : Progress) (next : Progress → Decision) → is_object s ≡ true
      → is_false (step_type env s x known declared) ≡ false
      → step env l there known s x p next
      ≡ next (with_step p (step_type env s x known declared)
      (step_earns (step_type env s x known declared) there declared))
  passes there known p next o f = rw (o, f) refl

  pub goes_on : (prior : Caps) (p : Progress) (next : Progress → Decision) (there q : Cap) (known : Bool) (t : Ty) (p' : Progress)
      → q ≡ there → known ≡ union prior p.earned q → t ≡ step_type env s x known declared → p' ≡ with_step p t (step_earns t q declared)
      → is_object s ≡ true → is_false t ≡ false → next p' ≡ step env l there (union prior p.earned there) s x p next
  goes_on prior p next there q known t p' same k typed with o f =
      let known_is : known ≡ union prior p.earned there = k ∙ ap (union prior p.earned) same in
      let type_is : t ≡ step_type env s x (union prior p.earned there) declared = typed ∙ ap (λ b. step_type env s x b declared) known_is in
      ap next with
      ∙ (λ i. next (with_step p (type_is i) (step_earns (type_is i) (same i) declared)))
      ∙ sym (passes there (union prior p.earned there) p next o (ap is_false (sym type_is) ∙ f))

  stops : (there : Cap) (known : Bool) (p : Progress) (next : Progress → Decision) → is_object s ≡ true
      → is_false (step_type env s x known declared) ≡ true
      → step env l there known s x p next ≡ gives (TBool False) no_caps
  stops there known p next o f = rw (o, f) refl

  -- a False step ends the chain
  pub ends : (prior : Caps) (p : Progress) (next : Progress → Decision) (there q : Cap) (known : Bool) (t : Ty)
      → q ≡ there → known ≡ union prior p.earned q → t ≡ step_type env s x known declared
      → is_object s ≡ true → is_false t ≡ true → gives (TBool False) no_caps ≡ step env l there (union prior p.earned there) s x p next
  ends prior p next there q known t same k typed o f =
      let known_is : known ≡ union prior p.earned there = k ∙ ap (union prior p.earned) same in
      let type_is : t ≡ step_type env s x (union prior p.earned there) declared = typed ∙ ap (λ b. step_type env s x b declared) known_is in
      sym (stops there (union prior p.earned there) p next o (ap is_false (sym type_is) ∙ f))
