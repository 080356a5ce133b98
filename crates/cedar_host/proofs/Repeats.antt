-- Repeated ids of a list that gains one more.
use Rattle.std.proofs.Common.{◌≡◌, true, false, true≢false, inl, inr, List, [], ◌∷◌, ◌++◌, refl, sym, ap, ◌∙◌, subst, append_assoc}
use Rattle.std.specs.List.{list_any}
use Rattle.std.proofs.lemmas.Slice.Eq.{bytes_eq-Decides}
use Rattle.cedar_types.specs.Names.{Text, text_eq}
use Rattle.cedar_typing.specs.Evaluation.Conformance.{IsOneOf}
use Rattle.cedar_typing.proofs.Basics.{or_cases, neither_left, neither_right}
use Rattle.cedar_typing.proofs.Basics.Members.{in_left, in_right}
use Rattle.cedar_typechecker.proofs.Levels.Inclusions.{in_either}
use Rattle.cedar_host.specs.Repeats.{ComesAgain, ComeAgain, no_ids, first, again, AreRepeats}
use Rattle.cedar_host.proofs.Distinct.{distinct_more}

-- ---- membership by the test is membership

pub one_of : (t : Text) (ts : List Text) → list_any (text_eq t) ts ≡ true → IsOneOf t ts
one_of t [] h = absurd (true≢false (sym h))
one_of t (u ∷ ts) h =
    or_cases (text_eq t u) (list_any (text_eq t) ts) (IsOneOf t (u ∷ ts))
    (λ e. inl ((bytes_eq-Decides t u).0 e)) (λ e. inr (one_of t ts e)) h

pub none_of : (t : Text) (ts : List Text) → list_any (text_eq t) ts ≡ false → IsOneOf t ts → ⊥
none_of t [] h k = k
none_of t (u ∷ ts) h (inl e) =
    true≢false (sym ((bytes_eq-Decides t u).1 e) ∙ neither_left (text_eq t u) (list_any (text_eq t) ts) h)
none_of t (u ∷ ts) h (inr k) = none_of t ts (neither_right (text_eq t u) (list_any (text_eq t) ts) h) k

-- ---- one id more

later : (t u : Text) (ts : List Text) → ComesAgain t ts → ComesAgain t (ts ++ u ∷ [])
later t u ts (before, after, e, k) = (
  before,
  after ++ u ∷ [],
  ap (λ us. us ++ u ∷ []) e ∙ append_assoc before (t ∷ after) (u ∷ []),
  in_left t after (u ∷ []) k,
)

comes_again : (t : Text) (ts : List Text) → IsOneOf t ts → ComesAgain t (ts ++ t ∷ [])
comes_again t [] h = absurd h
comes_again t (u ∷ ts) (inl e) =
    ([], ts ++ t ∷ [], ap (λ v. v ∷ (ts ++ t ∷ [])) (sym e), in_right t ts (t ∷ []) (inl refl))
comes_again t (u ∷ ts) (inr h) = behind (comes_again t ts h)
  where
    behind : ComesAgain t (ts ++ t ∷ []) → ComesAgain t (u ∷ (ts ++ t ∷ []))
    behind (before, after, e, k) = (u ∷ before, after, ap (λ us. u ∷ us) e, k)

some_member : (ts : List Text) (t : Text) → ts ++ t ∷ [] ≡ [] → ⊥
some_member [] t e = cc
some_member (u ∷ ts) t e = cc

-- no ids have no repeats
pub no_repeats : AreRepeats [] []
no_repeats = record { all = no_ids; none = λ e. tt; each = λ t i. absurd i }

module _ (ids repeated : List Text) (t : Text) (h : AreRepeats ids repeated) where
  pub other_id : (IsOneOf t ids → ⊥) → AreRepeats (ids ++ t ∷ []) repeated
  other_id n = record {
    all = first t h.all n;
    none = λ e. distinct_more ids t (h.none e) n;
    each = λ u i. later u t ids (h.each u i);
  }

  pub same_id : IsOneOf t ids → AreRepeats (ids ++ t ∷ []) (repeated ++ t ∷ [])
  same_id k = record {
    all = again t h.all k;
    none = λ e. absurd (some_member repeated t e);
    each = λ u i.
        in_either repeated (t ∷ []) u (ComesAgain u (ids ++ t ∷ [])) i (λ j. later u t ids (h.each u j))
        (elim [
          | inl e ↦ subst (λ v. ComesAgain v (ids ++ t ∷ [])) (sym e) (comes_again t ids k)
          | inr j ↦ absurd j
        ]);
  }
