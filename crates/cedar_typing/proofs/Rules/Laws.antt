-- The laws of the rules, from the answers of inference.
use Rattle.std.proofs.Common.{◌≡◌, ◌⊎◌, inl, inr, ℕ, List, [], sym, ◌∙◌, ap}
use Rattle.cedar_types.specs.Types.{Ty}
use Rattle.cedar_types.specs.Errors.{Finding}
use Rattle.cedar_typing.specs.Capabilities.{Caps}
use Rattle.cedar_typing.specs.Infer.Parts.{success, failure, limit, Answer, AnswerAndErrors}
use Rattle.cedar_typing.specs.Rules.Laws.{TypingIsAFunction, RecoveryIsAFunction, CutIsAFunction, IsDerived, IsRecovered, IsCut}
use Rattle.cedar_typing.specs.Rules.Laws.{OneOfThreeAtMost, OneOfThreeAtLeast}
use Rattle.cedar_typing.specs.Rules.{rules, Derives, Recovers}
use Rattle.cedar_typing.specs.Setting.{Setting}
use Rattle.cedar_typing.specs.TypedExpr.{Source, TypedTree, annotation}
use Rattle.cedar_typing.proofs.Agreement.Induction.{agrees}
use Rattle.cedar_typing.proofs.Agreement.Parts.{Answers, a_derived, a_recovered, a_cut}
use Rattle.cedar_typing.proofs.Basics.{some_is}

-- the parts of an answer beside its errors
success_tree : {x y : TypedTree} {c c' : Caps} → success x c ≡ success y c' → x ≡ y
success_tree e = cc

success_caps : {x y : TypedTree} {c c' : Caps} → success x c ≡ success y c' → c ≡ c'
success_caps e = cc

failure_tree : {x y : TypedTree} → failure x ≡ failure y → x ≡ y
failure_tree e = cc

module _ (s : Setting) (e : Source) (prior : Caps) (d : ℕ) where
  abbrev Rules : Answer → List Finding → Type 0
  Rules = Answers (rules s e prior d)

  -- the rules give at most one answer
  one_answer : (a b : Answer) (es fs : List Finding) → Rules a es → Rules b fs → ◌≡◌ {A = AnswerAndErrors} (a, es) (b, fs)
  one_answer a b es fs h k = sym ((agrees s e prior d).only [] a es h) ∙ (agrees s e prior d).only [] b fs k

  same_answer : (a b : Answer) (es fs : List Finding) → Rules a es → Rules b fs → a ≡ b
  same_answer a b es fs h k = ap (λ (o : AnswerAndErrors). o.0) (one_answer a b es fs h k)

  same_errors : (a b : Answer) (es fs : List Finding) → Rules a es → Rules b fs → es ≡ fs
  same_errors a b es fs h k = ap (λ (o : AnswerAndErrors). o.1) (one_answer a b es fs h k)

  one_derivation : (t u : Ty) (c c' : Caps) (x y : TypedTree) → Derives s e prior d t c x
      → Derives s e prior d u c' y → (t ≡ u) × (c ≡ c') × (x ≡ y)
  one_derivation t u c c' x y h k =
      let q = same_answer (success x c) (success y c') [] [] (a_derived h) (a_derived k) in
      let r = success_tree q in
      (some_is (sym ((agrees s e prior d).marks t c x h) ∙ ap annotation r ∙ (agrees s e prior d).marks u c' y k), success_caps q, r)

  one_recovery : (x y : TypedTree) (es fs : List Finding) → Recovers s e prior d x es → Recovers s e prior d y fs → (x ≡ y) × (es ≡ fs)
  one_recovery x y es fs h k = (
    failure_tree (same_answer (failure x) (failure y) es fs (a_recovered h) (a_recovered k)),
    same_errors (failure x) (failure y) es fs (a_recovered h) (a_recovered k),
  )

  apart : (a b : Answer) (es fs : List Finding) → (a ≡ b → ⊥) → Rules a es → Rules b fs → ⊥
  apart a b es fs n h k = n (same_answer a b es fs h k)

  at_most : (IsDerived s e prior d × IsRecovered s e prior d → ⊥) × (IsDerived s e prior d × IsCut s e prior d → ⊥)
      × (IsRecovered s e prior d × IsCut s e prior d → ⊥)
  at_most = (
    λ p. apart (success p.0.2 p.0.1) (failure p.1.0) [] p.1.1 (λ q. cc) (a_derived p.0.3) (a_recovered p.1.2),
    λ p. apart (success p.0.2 p.0.1) limit [] p.1.0 (λ q. cc) (a_derived p.0.3) (a_cut p.1.1),
    λ p. apart (failure p.0.0) limit p.0.1 p.1.0 (λ q. cc) (a_recovered p.0.2) (a_cut p.1.1),
  )

  by_rules : (a : Answer) (es : List Finding) → Rules a es → IsDerived s e prior d ⊎ (IsRecovered s e prior d ⊎ IsCut s e prior d)
  by_rules a es (a_derived {t = t} {c = c} {e = x} h) = inl (t, c, x, h)
  by_rules a es (a_recovered {e = x} h) = inr (inl (x, es, h))
  by_rules a es (a_cut h) = inr (inr (es, h))

  at_least : IsDerived s e prior d ⊎ (IsRecovered s e prior d ⊎ IsCut s e prior d)
  at_least = let f = (agrees s e prior d).found [] in by_rules f.answer f.added f.rules

pub typing : TypingIsAFunction
typing = one_derivation

pub recovery : RecoveryIsAFunction
recovery = one_recovery

pub cut_once : CutIsAFunction
cut_once s e prior d es fs h k = same_errors s e prior d limit limit es fs (a_cut h) (a_cut k)

pub three_at_most : OneOfThreeAtMost
three_at_most = at_most

pub three_at_least : OneOfThreeAtLeast
three_at_least = at_least
