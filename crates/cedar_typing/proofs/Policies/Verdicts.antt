-- The check of a condition has one verdict, save for the order of errors: that of the check as a
-- function.
use Rattle.std.proofs.Common.{◌≡◌, Bool, true, false, List, [], ◌∷◌, length, Some, refl, sym, ◌∙◌, ap, subst, arith}
use Rattle.std.proofs.lemmas.Grind.{common_steps}
use Rattle.std.specs.Prelude.{IsPermutation}
use Rattle.std.proofs.lemmas.List.Sorted.{IsPermutation-refl, IsPermutation-sym, IsPermutation-trans, length_permutation}
use Rattle.cedar_types.specs.declared.base.types.BoolType.TheVariants.{False}
use Rattle.cedar_types.specs.Types.{TBool}
use Rattle.cedar_types.specs.Errors.{Finding}
use Rattle.cedar_typing.specs.Capabilities.{Caps, no_caps}
use Rattle.cedar_typing.specs.Infer.{infer}
use Rattle.cedar_typing.specs.Infer.Parts.{part_with}
use Rattle.cedar_typing.specs.Judgments.{derived, accepted, Operand}
use Rattle.cedar_typing.specs.PolicyCheck.{Verdict, succeeds, irrelevant, fails, PolicyChecks, SameVerdict, part_verdict, out_verdict}
use Rattle.cedar_typing.specs.PolicyCheck.{policy_check, check_true, check_false, check_refused_false, check_refused, check_cut}
use Rattle.cedar_typing.specs.PolicyCheck.{same_success, same_irrelevant, same_failure}
use Rattle.cedar_typing.specs.Rules.Laws.{OneVerdictAtMost, OneVerdictAtLeast, ErrorsInAnyOrder}
use Rattle.cedar_typing.specs.Rules.{rules, Cuts}
use Rattle.cedar_typing.specs.Setting.{Setting}
use Rattle.cedar_typing.specs.TypeTests.{bool_types}
use Rattle.cedar_typing.specs.TypedExpr.{Source, TypedTree, annotation, place_of}
use Rattle.cedar_typing.proofs.Agreement.Induction.{agrees}
use Rattle.cedar_typing.proofs.Agreement.Parts.{operand_only, cut_only}
use Rattle.cedar_typing.proofs.Policies.Check.{checked}

-- ---- verdicts that agree

same_back : (u v : Verdict) → SameVerdict u v → SameVerdict v u
same_back u v same_success = same_success
same_back u v (same_irrelevant p) = same_irrelevant (IsPermutation-sym _ _ p)
same_back u v (same_failure p) = same_failure (IsPermutation-sym _ _ p)

same_on : (u v x : Verdict) → SameVerdict u v → SameVerdict v x → SameVerdict u x
same_on u v x same_success same_success = same_success
same_on u v x (same_irrelevant p) (same_irrelevant q) = same_irrelevant (IsPermutation-trans _ _ _ p q)
same_on u v x (same_failure p) (same_failure q) = same_failure (IsPermutation-trans _ _ _ p q)

-- ---- each verdict of the rules is that of the function

module _ (s : Setting) (e : Source) where
  abbrev Condition : Bool → Caps → TypedTree → List Finding → Type 0
  Condition = Operand s.env bool_types (place_of e) (rules s e no_caps 1)

  of_operand : (succeeded : Bool) (c : Caps) (x : TypedTree) (es : List Finding) → Condition succeeded c x es
      → policy_check s e ≡ part_verdict (Some (part_with succeeded c x)) es
  of_operand succeeded c x es o =
      ap out_verdict (operand_only s.env bool_types (place_of e) (rules s e no_caps 1) (infer s e no_caps 1)
      (agrees s e no_caps 1) succeeded c x es o [])

  of_cut : (es : List Finding) → Cuts s e no_caps 1 es → policy_check s e ≡ fails es
  of_cut es h =
      ap out_verdict (cut_only s.env bool_types (place_of e) (rules s e no_caps 1) (infer s e no_caps 1) (agrees s e no_caps 1) es h [])

  only : (u v : Verdict) → policy_check s e ≡ u → SameVerdict u v → SameVerdict (policy_check s e) v
  only u v q h = subst (λ x. SameVerdict x v) (sym q) h

  by_function : (v : Verdict) → PolicyChecks s e v → SameVerdict (policy_check s e) v
  by_function v (check_true t c {e' = x} h a n) =
      let m : annotation x ≡ Some t = (agrees s e no_caps 1).marks t c x h in
      only (succeeds x) v (of_operand true c x [] (accepted t (derived h) m a) ∙ rw (m, n) refl) same_success
  by_function v (check_false c {e' = x} h) =
      let m : annotation x ≡ Some (TBool False) = (agrees s e no_caps 1).marks (TBool False) c x h in
      only (irrelevant [] x) v (of_operand true c x [] (accepted (TBool False) (derived h) m refl) ∙ rw m refl)
      (same_irrelevant (IsPermutation-refl []))
  by_function v (check_refused_false {e' = x} {es = es} (c, o) n p) =
      only (irrelevant es x) v (of_operand false c x es o ∙ rw n refl) (same_irrelevant p)
  by_function v (check_refused {e' = x} {es = es} (c, o) n p) = only (fails es) v (of_operand false c x es o ∙ rw n refl) (same_failure p)
  by_function v (check_cut {es = es} h p) = only (fails es) v (of_cut es h) (same_failure p)

pub verdict_at_most : OneVerdictAtMost
verdict_at_most s e u v h k = same_on u (policy_check s e) v (same_back (policy_check s e) u (by_function s e u h)) (by_function s e v k)

pub verdict_at_least : OneVerdictAtLeast
verdict_at_least s e = (policy_check s e, checked s e)

-- ---- errors in any order

-- the empty list of errors has one order
pub none : (es : List Finding) → IsPermutation [] es → es ≡ []
none [] p = refl
none (x ∷ es) p = let e : length (x ∷ es) ≡ 0 = length_permutation [] (x ∷ es) p in grind (arith, common_steps)

pub any_order : ErrorsInAnyOrder
any_order s e u v (check_true t c h a n) same_success = check_true t c h a n
any_order s e u v (check_false c {e' = x} h) (same_irrelevant {es' = es} p) =
    subst (λ l. PolicyChecks s e (irrelevant l x)) (sym (none es p)) (check_false c h)
any_order s e u v (check_refused_false o n p) (same_irrelevant q) = check_refused_false o n (IsPermutation-trans _ _ _ p q)
any_order s e u v (check_refused o n p) (same_failure q) = check_refused o n (IsPermutation-trans _ _ _ p q)
any_order s e u v (check_cut h p) (same_failure q) = check_cut h (IsPermutation-trans _ _ _ p q)
