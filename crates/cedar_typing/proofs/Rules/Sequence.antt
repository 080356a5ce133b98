-- One more answer at the end of those taken.
use Rattle.std.proofs.Common.{◌≡◌, Bool, true, false, ◌&&◌, List, [], ◌∷◌, ◌++◌, refl, ap, sym, subst}
use Rattle.std.specs.Prelude.{Option, Some, None, Ok, Err}
use Rattle.std.specs.Iterator.{Yields}
use Rattle.cedar_types.specs.Capability.{caps, HasNone}
use Rattle.cedar_types.specs.declared.types.capability.CapabilitySet.{CapabilitySet}
use Rattle.cedar_typing.specs.Answer.{TypedExpr, Answered, AllHandOn, AreHanded, none_failed}
use Rattle.cedar_typing.specs.Views.{BecomesPart, Gathers}
use Rattle.cedar_typing.proofs.Basics.{some_is, none_is}
use Rattle.cedar_typing.specs.declared.typecheck.sequence.Gathered.{Gathered}
use Rattle.cedar_typing.specs.declared.typecheck.answer.Part.{Part}
use Rattle.cedar_typing.specs.declared.typecheck.answer.TypecheckAnswer.{TypecheckAnswer}
use Rattle.cedar_typing.specs.declared.typecheck.answer.TypecheckAnswer.TheVariants.{TypecheckSuccess, TypecheckFail, RecursionLimit}

-- the part that one more answer hands on
pub record OneMore (a : TypecheckAnswer) (p : Part) : Type 0 where
  pub hands_on : AllHandOn (Ok a ∷ [])
  pub handed : AreHanded (Ok a ∷ []) ((p.typed, p.capabilities) ∷ [])
  pub succeeded : none_failed (Ok a ∷ []) ≡ p.succeeded

pub one_more : (a : TypecheckAnswer) (p : Part) → BecomesPart a (Some p) → OneMore a p
one_more (TypecheckSuccess e c) p h =
    let q = some_is h in
    record { hands_on = tt; handed = (ap (λ z. (z.typed, z.capabilities)) q, tt); succeeded = sym (ap (λ z. z.succeeded) q) }
one_more (TypecheckFail e) p h =
    let q = some_is h.2 in
    record {
      hands_on = tt;
      handed =
          ((ap (λ z. z.typed) q, subst (λ c. HasNone (caps c)) (sym (ap (λ z. z.capabilities) q)) h.1), tt);
      succeeded = sym (ap (λ z. z.succeeded) q);
    }
one_more RecursionLimit p h = cc

pub is_limit : (a : TypecheckAnswer) → BecomesPart a None → a ≡ RecursionLimit
is_limit (TypecheckSuccess e c) h = cc
is_limit (TypecheckFail e) h = absurd (none_is h.2)
is_limit RecursionLimit h = refl

pub all_more : (xs ys : List Answered) → AllHandOn xs → AllHandOn ys → AllHandOn (xs ++ ys)
all_more [] ys h k = k
all_more (Ok (TypecheckSuccess e c) ∷ xs) ys h k = all_more xs ys h k
all_more (Ok (TypecheckFail e) ∷ xs) ys h k = all_more xs ys h k
all_more (Ok RecursionLimit ∷ xs) ys h k = absurd h
all_more (Err e ∷ xs) ys h k = absurd h

pub handed_more : (xs ys : List Answered) (hs ks : List (TypedExpr × CapabilitySet)) → AreHanded xs hs
    → AreHanded ys ks → AreHanded (xs ++ ys) (hs ++ ks)
handed_more [] ys [] ks h k = k
handed_more [] ys (x ∷ hs) ks h k = absurd h
handed_more (Ok (TypecheckSuccess e c) ∷ xs) ys [] ks h k = absurd h
handed_more (Ok (TypecheckSuccess e c) ∷ xs) ys (x ∷ hs) ks h k = (h.0, handed_more xs ys hs ks h.1 k)
handed_more (Ok (TypecheckFail e) ∷ xs) ys [] ks h k = absurd h
handed_more (Ok (TypecheckFail e) ∷ xs) ys (x ∷ hs) ks h k = (h.0, handed_more xs ys hs ks h.1 k)
handed_more (Ok RecursionLimit ∷ xs) ys hs ks h k = absurd h
handed_more (Err e ∷ xs) ys hs ks h k = absurd h

and_apart : (a b c : Bool) → (a && (b && c)) ≡ ((a && b) && c)
and_apart true b c = refl
and_apart false b c = refl

pub none_more : (xs ys : List Answered) → none_failed (xs ++ ys) ≡ (none_failed xs && none_failed ys)
none_more [] ys = refl
none_more (Ok (TypecheckSuccess e c) ∷ xs) ys = none_more xs ys
none_more (Ok (TypecheckFail e) ∷ xs) ys = refl
none_more (Ok RecursionLimit ∷ xs) ys = none_more xs ys
none_more (Err e ∷ xs) ys = none_more xs ys

module _ {S : Type 0} (steps : S → Option Answered → S → Type 0) where
  -- all items are taken
  pub drained : (s t u : S) (xs : List Answered) (g : Gathered) → Yields steps s xs t → steps t None u
      → AllHandOn xs → AreHanded xs g.handed.items → g.is_limit ≡ false
      → g.succeeded ≡ none_failed xs → Gathers steps s g
  drained s t u xs g y n h i l k = record {
    taken = record { before = xs; last = None; rest = u; yields = (t, y, n); hand_on = h; ends = tt };
    in_order = i;
    is_limit = l;
    succeeded = k;
  }

  -- a limit came
  pub cut : (s t u : S) (xs : List Answered) (x : Answered) (g : Gathered) → Yields steps s xs t
      → steps t (Some x) u → x ≡ Ok RecursionLimit → AllHandOn xs → AreHanded xs g.handed.items → g.is_limit ≡ true
      → g.succeeded ≡ none_failed xs → Gathers steps s g
  cut s t u xs x g y n q h i l k = record {
    taken = record { before = xs; last = Some x; rest = u; yields = (t, y, n); hand_on = h; ends = q };
    in_order = i;
    is_limit = l;
    succeeded = k;
  }
