-- Steps of the loops over the environments of a policy.
use Rattle.std.proofs.Common.{◌≡◌, suc, ◌<◌, Bool, true, false, ◌||◌, List, [], ◌∷◌, ◌++◌, append_assoc, append-nil, length, Option, Some, None, refl, sym, ◌∙◌, ap, subst, arith}
use Rattle.std.specs.Prelude.{MatchOption}
use Rattle.cedar_types.specs.Environments.RequestEnvs.{Env}
use Rattle.cedar_typing.specs.declared.typecheck.request_env_checks.RequestEnvChecks.{RequestEnvChecks}
use Rattle.cedar_typing.specs.Views.EnvironmentChecks.{SameInput}

pub given_some : {A : Type 0} (o : Option A) (x : A) → o ≡ Some x → (P : Type 0) (Q : A → Type 0) → MatchOption o P Q → Q x
given_some {A} o x e P Q h = subst (λ (z : Option A). MatchOption z P Q) e h

pub given_none : {A : Type 0} (o : Option A) → ((x : A) → o ≡ Some x → ⊥) → (P : Type 0) (Q : A → Type 0) → MatchOption o P Q → P
given_none None f P Q h = h
given_none (Some x) f P Q h = absurd (f x refl)

pub shorter : (xs ys : List Env) (e : Env) → xs ≡ e ∷ ys → length ys < length xs
shorter xs ys e h = let n : length xs ≡ suc (length ys) = ap length h in omega arith

-- ---- the environments that are done, and those that are left

pub one_done : (done left rest all : List Env) (e : Env) → left ≡ e ∷ rest → done ++ left ≡ all → (done ++ e ∷ []) ++ rest ≡ all
one_done done left rest all e step is = append_assoc done (e ∷ []) rest ∙ ap (λ xs. done ++ xs) (sym step) ∙ is

pub all_done : (done left all : List Env) → left ≡ [] → done ++ left ≡ all → done ≡ all
all_done done left all over is = sym (append-nil done) ∙ ap (λ xs. done ++ xs) (sym over) ∙ is

-- ---- the input of checks

module _ {C : Type 0} where
  pub same_itself : (c : RequestEnvChecks C) → SameInput c c
  same_itself c = record { checker = refl; template = refl; condition = refl }

  pub same_still : (a b c : RequestEnvChecks C) → SameInput a b → SameInput b c → SameInput a c
  same_still a b c h k = record {
    checker = k.checker ∙ h.checker;
    template = k.template ∙ h.template;
    condition = k.condition ∙ h.condition;
  }

pub or_none : (a : Bool) → (a || false) ≡ a
or_none true = refl
or_none false = refl
