-- Where inference gives one answer, the rules judge alike, and so do the checks.
use Rattle.std.proofs.Common.{◌≡◌, ℕ, List, [], Option, sym, ◌∙◌, subst}
use Rattle.cedar_types.specs.declared.base.location.Loc.{Loc}
use Rattle.cedar_types.specs.Environments.RequestEnvs.{Env}
use Rattle.cedar_types.specs.Errors.{Finding}
use Rattle.cedar_types.specs.Types.{Ty}
use Rattle.cedar_typing.specs.Capabilities.{Caps, no_caps}
use Rattle.cedar_typing.specs.Composition.{in_env, IsTypedAlike}
use Rattle.cedar_typing.specs.ExpressionCheck.{ExpressionChecks, expression_typed, expression_refused, expression_cut}
use Rattle.cedar_typing.specs.Infer.{infer}
use Rattle.cedar_typing.specs.Infer.Parts.{Answer, success, failure, limit, AnswerAndErrors}
use Rattle.cedar_typing.specs.Judgments.{Judgment, PartResult, derived, recovered, Operand, accepted, refused, missing}
use Rattle.cedar_typing.specs.PolicyCheck.{Verdict, PolicyChecks, check_true, check_false, check_refused_false, check_refused, check_cut}
use Rattle.cedar_typing.specs.PolicyCheck.Trees.{HasTypedCondition, typed_condition, refused_condition, cut_condition}
use Rattle.cedar_typing.specs.Rules.{rules, Derives, Recovers, Cuts}
use Rattle.cedar_typing.specs.Setting.{Setting}
use Rattle.cedar_typing.specs.TypedExpr.{Source, TypedTree}
use Rattle.cedar_typing.proofs.Agreement.Induction.{agrees}
use Rattle.cedar_typing.proofs.Agreement.Parts.{Answers, a_derived, a_recovered, a_cut}
use Rattle.cedar_typing.proofs.Basics.{some_is}

-- ---- rules

-- the judgment that the rules make with an answer: a derivation, a recovery or a cut
abbrev Says : Judgment → Answer → List Finding → Type 0
Says J (success x c) es = (t : Ty) × J.derives t c x
Says J (failure x) es = J.recovers x es
Says J limit es = J.cuts es

says : (J : Judgment) (a : Answer) (es : List Finding) → Answers J a es → Says J a es
says J a es (a_derived {t = t} h) = (t, h)
says J a es (a_recovered h) = h
says J a es (a_cut h) = h

-- all that the rules of one setting say is said by those of another
pub record GoesOver (s s' : Setting) (e : Source) (prior : Caps) (k : ℕ) : Type 0 where
  pub derived : (t : Ty) (c : Caps) (x : TypedTree) → Derives s e prior k t c x → Derives s' e prior k t c x
  pub recovered : (x : TypedTree) (es : List Finding) → Recovers s e prior k x es → Recovers s' e prior k x es
  pub cut : (es : List Finding) → Cuts s e prior k es → Cuts s' e prior k es

module _ (s s' : Setting) (e : Source) (prior : Caps) (k : ℕ) (same : infer s e prior k ≡ infer s' e prior k) where
  moved : (a : Answer) (es : List Finding) → Answers (rules s e prior k) a es → Answers (rules s' e prior k) a es
  moved a es h =
      let f = (agrees s' e prior k).found [] in
      let P : AnswerAndErrors → Type 0 = λ o. Answers (rules s' e prior k) o.0 o.1 in
      subst P (sym f.is ∙ (λ i. sym same i []) ∙ (agrees s e prior k).only [] a es h) f.rules

  derivation : (t : Ty) (c : Caps) (x : TypedTree) → Derives s e prior k t c x → Derives s' e prior k t c x
  derivation t c x h =
      let g = says (rules s' e prior k) (success x c) [] (moved (success x c) [] (a_derived h)) in
      let q : g.0 ≡ t = some_is (sym ((agrees s' e prior k).marks g.0 c x g.1) ∙ (agrees s e prior k).marks t c x h) in
      subst (λ u. Derives s' e prior k u c x) q g.1

  pub goes_over : GoesOver s s' e prior k
  goes_over = record {
    derived = derivation;
    recovered = λ x es g. says (rules s' e prior k) (failure x) es (moved (failure x) es (a_recovered g));
    cut = λ es g. says (rules s' e prior k) limit es (moved limit es (a_cut g));
  }

pub typed_alike : (s s' : Setting) (e : Source) (prior : Caps) (k : ℕ) → GoesOver s s' e prior k → GoesOver s' s e prior k
    → IsTypedAlike s s' e prior k
typed_alike s s' e prior k to from = record {
  derived = λ t c x. (to.derived t c x, from.derived t c x);
  recovered = λ x es. (to.recovered x es, from.recovered x es);
  cut = λ es. (to.cut es, from.cut es);
}

-- ---- checks

pub expression_over : (s s' : Setting) (e : Source) (prior : Caps) → GoesOver s s' e prior 1
    → (a : Answer) (es : List Finding) → ExpressionChecks s e prior a es → ExpressionChecks s' e prior a es
expression_over s s' e prior to a es (expression_typed t h) = expression_typed t (to.derived t _ _ h)
expression_over s s' e prior to a es (expression_refused h p) = expression_refused (to.recovered _ _ h) p
expression_over s s' e prior to a es (expression_cut h p) = expression_cut (to.cut _ h) p

module _ (s : Setting) (r r' : Env) (e : Source) (to : GoesOver (in_env s r) (in_env s r') e no_caps 1) where
  abbrev s1 : Setting
  s1 = in_env s r

  abbrev s2 : Setting
  s2 = in_env s r'

  result_over : (b : _) (c : Caps) (x : TypedTree) (es : List Finding)
      → PartResult (rules s1 e no_caps 1) b c x es → PartResult (rules s2 e no_caps 1) b c x es
  result_over b c x es (derived h) = derived (to.derived _ c x h)
  result_over b c x es (recovered h) = recovered (to.recovered x es h)

  operand_over : (ts : List Ty) (l : Option Loc) (b : _) (c : Caps) (x : TypedTree) (es : List Finding)
      → Operand s1.env ts l (rules s1 e no_caps 1) b c x es → Operand s2.env ts l (rules s2 e no_caps 1) b c x es
  operand_over ts l b c x es (accepted t h m p) = accepted t (result_over _ _ _ _ h) m p
  operand_over ts l b c x es (refused t h m p) = refused t (result_over _ _ _ _ h) m p
  operand_over ts l b c x es (missing h m) = missing (result_over _ _ _ _ h) m

  pub condition_over : (v : Verdict) → PolicyChecks s1 e v → PolicyChecks s2 e v
  condition_over v (check_true t c h p q) = check_true t c (to.derived t c _ h) p q
  condition_over v (check_false c h) = check_false c (to.derived _ c _ h)
  condition_over v (check_refused_false h p q) = check_refused_false (h.0, operand_over _ _ _ _ _ _ h.1) p q
  condition_over v (check_refused h p q) = check_refused (h.0, operand_over _ _ _ _ _ _ h.1) p q
  condition_over v (check_cut h p) = check_cut (to.cut _ h) p

  pub copy_over : (x : Option TypedTree) → HasTypedCondition s1 e x → HasTypedCondition s2 e x
  copy_over x (typed_condition t c h p) = typed_condition t c (to.derived t c _ h) p
  copy_over x (refused_condition h) = refused_condition (h.0, operand_over _ _ _ _ _ _ h.1)
  copy_over x (cut_condition es h) = cut_condition es (to.cut es h)
