-- Extended `has`: the steps of a chain that is derived.
use Rattle.std.proofs.Common.{◌≡◌, Bool, true, false, ◌&&◌, ◌||◌, List, [], ◌∷◌, Option, Some, None, if◌then◌else◌, ◌⊎◌, inl, inr, refl, ap}
use Rattle.cedar_types.specs.declared.base.location.Loc.{Loc}
use Rattle.cedar_types.specs.declared.base.types.BoolType.TheVariants.{False}
use Rattle.cedar_types.specs.Errors.{Finding}
use Rattle.cedar_types.specs.Types.Lookups.{attribute_type, may_have}
use Rattle.cedar_types.specs.Names.{Text}
use Rattle.cedar_types.specs.Environments.RequestEnvs.{is_partial}
use Rattle.cedar_types.specs.Types.{Ty, TBool}
use Rattle.cedar_typing.specs.Capabilities.{Caps, no_caps, union}
use Rattle.cedar_typing.specs.Eager.{Decision, gives, refuses}
use Rattle.cedar_typing.specs.Rules.Attributes.{attribute_of, get_decides}
use Rattle.cedar_typing.specs.Rules.Chains.{Progress, is_object, step_type, step_earns, with_step, after_access, made_up, chain}
use Rattle.cedar_typing.specs.TypeEnv.{TypeEnv}
use Rattle.cedar_typing.specs.TypeTests.{is_false, is_record}
use Rattle.cedar_typing.specs.TypedExpr.{Source}
use Rattle.cedar_typing.proofs.Soundness.Chains.Steps.{declared_not_false, false_if}

-- ---- decisions that give a type

module _ (t : Ty) (c : Caps) where
  object_given : (b : Bool) (d : Decision) (u : Option Ty) (fs : List Finding)
      → (if b then d else refuses u fs) ≡ gives t c → (b ≡ true) × (d ≡ gives t c)
  object_given true d u fs h = (refl, h)
  object_given false d u fs h = cc

  unless_given : (b : Bool) (d : Decision)
      → (if b then gives (TBool False) no_caps else d) ≡ gives t c
      → (b ≡ true) ⊎ (d ≡ gives t c)
  unless_given true d h = inl refl
  unless_given false d h = inr h

  access_given : (d : Decision) (next : Ty → Decision) → after_access d next ≡ gives t c
      → (u : Ty) × (k : Caps) × (d ≡ gives u k) × (next u ≡ gives t c)
  access_given (gives u k) next h = (u, k, refl, h)
  access_given (refuses u fs) next h = cc

-- ---- the access between two steps is of a declared attribute

gives_type : (t u : Ty) (c k : Caps) → gives t c ≡ gives u k → t ≡ u
gives_type t u c k h = cc

got_guarded : (b r : Bool) (t u : Ty) (k : Caps) (fs : List Finding)
    → (if b then gives t no_caps else refuses (Some t) fs) ≡ gives u k
    → ◌≡◌ {A = Option (Ty × Bool)} (Some (t, r)) (Some (u, r))
got_guarded true r t u k fs h = ap (λ z. Some (z, r)) (gives_type t u no_caps k h)
got_guarded false r t u k fs h = cc

none_guarded : (b : Bool) (t u : Ty) (k : Caps) (fs : List Finding) (X : Type 0) → b ≡ false
    → (if b then gives t no_caps else refuses None fs) ≡ gives u k → X
none_guarded true t u k fs X e h = cc
none_guarded false t u k fs X e h = cc

and_false : (a b : Bool) → a ≡ false → (a && b) ≡ false
and_false true b h = cc
and_false false b h = refl

got_declared : (env : TypeEnv) → is_partial env.mode ≡ false → (l : Option Loc) (x : Text)
    (known : Bool) (s : Ty) (a : Option (Ty × Bool)) (u : Ty) (k : Caps)
    → get_decides env l x known s a ≡ gives u k → (r : Bool) × (a ≡ Some (u, r))
got_declared env total l x known s (Some a) u k h =
    (a.1, got_guarded (a.1 || known) a.1 a.0 u k _ h)
got_declared env total l x known s None u k h =
    none_guarded (is_partial env.mode && may_have env.schema s x) _ u k _ _
    (and_false (is_partial env.mode) (may_have env.schema s x) total) h

-- ---- a step that is not the last

-- a step is False only if its attribute cannot be there
step_false : (env : TypeEnv) (s : Ty) (x : Text) (known : Bool) (a : Option (Ty × Bool))
    → is_false (step_type env s x known a) ≡ true → may_have env.schema s x ≡ false
step_false env s x known (Some a) h =
    absurd (declared_not_false (known || (a.1 && is_record s)) h)
step_false env s x known None h = false_if (may_have env.schema s x) h

-- a chain goes on after a step: its attribute is declared, and the rest of the chain is derived too
pub record GoesOn (env : TypeEnv) (l : Option Loc) (prior : Caps) (y : Text) (ys : List Text)
    (e : Source) (s : Ty) (x : Text) (t : Ty) (c : Caps) : Type 0 where
  pub attribute : Ty
  pub required : Bool
  pub progress : Progress
  pub declared : attribute_type env.schema s x ≡ Some (attribute, required)
  pub rest : chain env l l prior ys (made_up e x) attribute y progress ≡ gives t c

module _ (env : TypeEnv) (total : is_partial env.mode ≡ false) (prior : Caps) (t : Ty)
    (c : Caps) where
  -- each step of a chain that is derived is on a record or an entity
  pub step_object : (l l' : Option Loc) (xs : List Text) (e : Source) (s : Ty) (x : Text)
      (p : Progress) → chain env l l' prior xs e s x p ≡ gives t c → is_object s ≡ true
  step_object l l' [] e s x p h = (object_given t c (is_object s) _ _ _ h).0
  step_object l l' (y ∷ ys) e s x p h = (object_given t c (is_object s) _ _ _ h).0

  module _ (e : Source) (s : Ty) (x : Text) (p : Progress) where
    abbrev found : Option (Ty × Bool)
    found = attribute_type env.schema s x

    -- whether the attribute is known before the step, the step's type, and the progress after it
    abbrev known_before : Bool
    known_before = union prior p.earned (attribute_of e x)

    abbrev at_step : Ty
    at_step = step_type env s x known_before found

    abbrev after : Progress
    after = with_step p at_step (step_earns at_step (attribute_of e x) found)

    pub step_goes_on : (l l' : Option Loc) (y : Text) (ys : List Text)
        → chain env l l' prior (y ∷ ys) e s x p ≡ gives t c
        → (may_have env.schema s x ≡ false) ⊎ GoesOn env l' prior y ys e s x t c
    step_goes_on l l' y ys h =
        let known = union prior after.earned (attribute_of e x) in
        let next : Ty → Decision = λ u. chain env l' l' prior ys (made_up e x) u y after in
        elim
        (unless_given t c (is_false at_step) (after_access (get_decides env l x known s found) next)
        (object_given t c (is_object s) _ _ _ h).1) [
          | inl f ↦ inl (step_false env s x known_before found f)
          | inr f ↦
              let g = access_given t c (get_decides env l x known s found) next f in
              let i = got_declared env total l x known s found g.0 g.1 g.2 in
              inr (record {
                attribute = g.0;
                required = i.0;
                progress = after;
                declared = i.1;
                rest = g.3;
              })
        ]
