-- The check of an expression follows the rules, and keeps its promises.
use Rattle.std.proofs.Common.{◌≡◌, false, List, [], None, sym, subst}
use Rattle.std.proofs.lemmas.List.Sorted.{IsPermutation-refl}
use Rattle.cedar_types.specs.Errors.{Finding}
use Rattle.cedar_types.specs.Extensions.Functions.{table_fault}
use Rattle.cedar_types.specs.Schemas.{has_fault}
use Rattle.cedar_typing.specs.Capabilities.{Caps}
use Rattle.cedar_typing.specs.Evaluation.World.{World}
use Rattle.cedar_typing.specs.ExpressionCheck.{ExpressionChecks, expression_typed, expression_refused, expression_cut}
use Rattle.cedar_typing.specs.ExpressionCheck.{AnswerPromises, IsSoundAnswer}
use Rattle.cedar_typing.specs.Infer.{infer}
use Rattle.cedar_typing.specs.Infer.Parts.{Answer, AnswerAndErrors}
use Rattle.cedar_typing.specs.Modes.{IsFormedFor}
use Rattle.cedar_typing.specs.Rules.{rules}
use Rattle.cedar_typing.specs.Setting.{Setting}
use Rattle.cedar_typing.specs.Soundness.{IsSoundAt}
use Rattle.cedar_typing.specs.TypedCopies.{MeansTheSame}
use Rattle.cedar_typing.specs.TypedExpr.{Source}
use Rattle.cedar_typing.proofs.Agreement.Induction.{agrees}
use Rattle.cedar_typing.proofs.Agreement.Parts.{Answers, a_derived, a_recovered, a_cut}
use Rattle.cedar_typing.proofs.Soundness.Induction.{type_soundness}
use Rattle.cedar_typing.proofs.TypedCopies.Laws.{copies_mean_the_same}

module _ (s : Setting) (e : Source) (prior : Caps) where
  by_rules : (a : Answer) (es : List Finding) → Answers (rules s e prior 1) a es → ExpressionChecks s e prior a es
  by_rules a es (a_derived {t = t} h) = expression_typed t h
  by_rules a es (a_recovered h) = expression_refused h (IsPermutation-refl es)
  by_rules a es (a_cut h) = expression_cut h (IsPermutation-refl es)

  -- the answer of inference is that of the check
  pub expression_checked : (o : AnswerAndErrors) → infer s e prior 1 [] ≡ o → ExpressionChecks s e prior o.0 o.1
  expression_checked o is =
      let f = (agrees s e prior 1).found [] in
      let P : AnswerAndErrors → Type 0 = λ o. ExpressionChecks s e prior o.0 o.1 in
      subst P is (subst P (sym f.is) (by_rules f.answer f.added f.rules))

  module _ (world : World) (holds : IsSoundAt s world e prior 1) (copies : MeansTheSame s world e prior 1) where
    promised : (a : Answer) (es : List Finding) → ExpressionChecks s e prior a es → AnswerPromises world e a
    promised a es (expression_typed t {c = c} {x = x} h) = record {
      typed = holds.typed t c x h;
      safe = holds.safe t c x h;
      known = holds.caps_hold_if_true t c x h;
      same = copies.derived t c x h;
    }
    promised a es' (expression_refused {x = x} {es = es} h p) =
        record { typed = holds.recovered x es h; same = copies.recovered x es h }
    promised a es (expression_cut h p) = tt

  module _ (faults : has_fault s.env.schema ≡ false) (formed : IsFormedFor s.env.mode s.env.schema)
      (table : table_fault s.functions ≡ None) (a : Answer) (es : List Finding) (checks : ExpressionChecks s e prior a es) where
    pub answer_sound : IsSoundAnswer s e prior a
    answer_sound r world i b h =
        promised world (type_soundness s world faults formed table r i e b prior 1 h)
        (copies_mean_the_same s world faults formed table r i e b prior 1 h) a es checks
