-- Expressions without parts are inferred by their rules.
use Rattle.std.proofs.Common.{◌≡◌, List, [], ◌++◌, Option, Some, None, refl, sym, ◌∙◌, ap, append-nil}
use Rattle.cedar_types.specs.Names.{Path}
use Rattle.cedar_types.specs.Types.{Ty}
use Rattle.cedar_types.specs.Expressions.View.{Written}
use Rattle.cedar_types.specs.Errors.{Finding}
use Rattle.cedar_typing.specs.Capabilities.{Caps}
use Rattle.cedar_typing.specs.Infer.Leaves.{infer_leaf, infer_unknown}
use Rattle.cedar_typing.specs.Infer.Parts.{Answer, success, failure, AnswerAndErrors}
use Rattle.cedar_typing.specs.Judgments.{Judgment}
use Rattle.cedar_typing.specs.Rules.Leaves.{leaf, leaf_missing, leaf_rules, unknown_fails, unknown_rules}
use Rattle.cedar_typing.specs.TypedExpr.{TypedTree, Mark, mark_of}
use Rattle.cedar_typing.proofs.Agreement.Parts.{Answers, a_derived, a_recovered, a_cut, Found, Marks, Agrees}

-- an answer that adds no error
silent : (J : Judgment) (a : Answer) (es : List Finding) → Answers J a [] → Found J (a, es) es
silent J a es r = record { answer = a; added = []; is = ap (λ l. (a, l)) (sym (append-nil es)); rules = r }

module _ (m : Written) (node : Mark → TypedTree) (node_mark : (k : Mark) → mark_of (node k) ≡ k) where
  leaf_found : (found : Option Ty) (es : List Finding) → Found (leaf_rules found m node) (infer_leaf found m node, es) es
  leaf_found None es = silent _ _ es (a_recovered (leaf_missing refl))
  leaf_found (Some t) es = silent _ _ es (a_derived (leaf refl))

  leaf_same : (found : Option Ty) (t : Ty) (c : Caps) (e : TypedTree) → (leaf_rules found m node).derives t c e
      → infer_leaf found m node ≡ success e c
  leaf_same found t c e (leaf h) = ap (λ f. infer_leaf f m node) h

  leaf_fails : (found : Option Ty) (e : TypedTree) (es : List Finding) → (leaf_rules found m node).recovers e es
      → ◌≡◌ {A = AnswerAndErrors} (infer_leaf found m node, es) (failure e, [])
  leaf_fails found e es (leaf_missing h) = λ i. (infer_leaf (h i) m node, [])

  leaf_only : (found : Option Ty) (es : List Finding) (a : Answer) (added : List Finding)
      → Answers (leaf_rules found m node) a added
      → ◌≡◌ {A = AnswerAndErrors} (infer_leaf found m node, es) (a, es ++ added)
  leaf_only found es a added (a_derived h) = λ i. (leaf_same found _ _ _ h i, sym (append-nil es) i)
  leaf_only found es a added (a_recovered h) =
      let q = leaf_fails found _ _ h in
      λ i. ((q i).0, (sym (append-nil es) ∙ ap (λ l. es ++ l) (sym (ap (λ (o : AnswerAndErrors). o.1) q))) i)
  leaf_only found es a added (a_cut h) = absurd h

  leaf_marks : (found : Option Ty) → Marks (leaf_rules found m node).derives
  leaf_marks found t c e (leaf h) = ap (λ (k : Mark). k.ty) (node_mark _)

  pub leaf_agrees : (found : Option Ty) → Agrees (λ es. (infer_leaf found m node, es)) (leaf_rules found m node)
  leaf_agrees found = record { found = leaf_found found; only = leaf_only found; marks = leaf_marks found }

unknown_only : (n : Path) (m : Written) (es : List Finding) (a : Answer) (added : List Finding)
    → Answers (unknown_rules n m) a added → ◌≡◌ {A = AnswerAndErrors} (infer_unknown n m, es) (a, es ++ added)
unknown_only n m es a added (a_derived h) = absurd h
unknown_only n m es a added (a_recovered unknown_fails) = ap (λ l. (infer_unknown n m, l)) (sym (append-nil es))
unknown_only n m es a added (a_cut h) = absurd h

pub unknown_agrees : (n : Path) (m : Written) → Agrees (λ es. (infer_unknown n m, es)) (unknown_rules n m)
unknown_agrees n m =
    record {
      found = λ es. silent _ _ es (a_recovered unknown_fails);
      only = unknown_only n m;
      marks = λ t c e h. absurd h;
    }
