-- A check that fails without an error is a cut, and one that passes is derived.
use Rattle.std.proofs.Common.{◌≡◌, true, false, true≢false, List, [], ◌∷◌, refl, sym, ◌∙◌, subst}
use Rattle.std.specs.Prelude.{IsPermutation}
use Rattle.std.proofs.lemmas.List.Sorted.{IsPermutation-sym}
use Rattle.cedar_types.specs.Errors.{Finding}
use Rattle.cedar_typing.specs.Capabilities.{no_caps}
use Rattle.cedar_typing.specs.PolicyCheck.{Verdict, fails, RefusedCondition, PolicyChecks, check_true, check_false, check_refused_false}
use Rattle.cedar_typing.specs.PolicyCheck.{check_refused, check_cut}
use Rattle.cedar_typing.specs.PolicyCheck.Outcome.{is_silent, passes}
use Rattle.cedar_typing.specs.Rules.Laws.{IsCut}
use Rattle.cedar_typing.specs.Rules.{rules}
use Rattle.cedar_typing.specs.Setting.{Setting}
use Rattle.cedar_typing.specs.Silence.{IsWellNamed, IsSettled, SilentFailureIsCut, IsDerivedAs, PassingIsDerived}
use Rattle.cedar_typing.specs.TypeTests.{bool_types}
use Rattle.cedar_typing.specs.TypedExpr.{Source, TypedTree, place_of}
use Rattle.cedar_typing.proofs.Silence.Induction.{loud}
use Rattle.cedar_typing.proofs.Silence.Names.{clean}
use Rattle.cedar_typing.proofs.Silence.Parts.{IsLoud, operand_loud}
use Rattle.cedar_typing.proofs.Policies.Verdicts.{none}

-- there is an error in every order
reordered_loud : (es fs : List Finding) → IsPermutation es fs → IsLoud es → IsLoud fs
reordered_loud es [] p h = absurd (true≢false (subst IsLoud (none es (IsPermutation-sym es [] p)) h))
reordered_loud es (f ∷ fs) p h = refl

module _ (s : Setting) (ok : IsSettled s) (e : Source) (named : IsWellNamed s.env.schema e) where
  -- a refused condition has an error
  refused_loud : (x : TypedTree) (es fs : List Finding) → RefusedCondition s e x es → IsPermutation es fs → is_silent fs ≡ true → ⊥
  refused_loud x es fs (c, o) p q =
      let h = operand_loud (rules s e no_caps 1) (loud s ok e (clean s.env.schema e named) no_caps 1)
      s.env bool_types (place_of e) false c x es o refl in
      true≢false (sym q ∙ reordered_loud es fs p h)

  pub silent_cut : (fs : List Finding) → PolicyChecks s e (fails fs) → is_silent fs ≡ true → IsCut s e no_caps 1
  silent_cut fs (check_refused {e' = x} {es = es} r n p) q = absurd (refused_loud x es fs r p q)
  silent_cut fs (check_cut {es = es} c p) q = (es, c)

  pub passing_derived : (v : Verdict) → PolicyChecks s e v → passes v ≡ true → IsDerivedAs s e v
  passing_derived v (check_true t c d a n) q = (t, c, d, a, n)
  passing_derived v (check_false c d) q = (c, d)
  passing_derived v (check_refused_false {e' = x} {es = es} {es' = fs} r n p) q = absurd (refused_loud x es fs r p q)
  passing_derived v (check_refused r n p) q = cc
  passing_derived v (check_cut c p) q = cc

pub silent_failure_is_cut : SilentFailureIsCut
silent_failure_is_cut s ok e h fs c q = silent_cut s ok e h fs c q

pub passing_is_derived : PassingIsDerived
passing_is_derived s ok e h v c q = passing_derived s ok e h v c q
