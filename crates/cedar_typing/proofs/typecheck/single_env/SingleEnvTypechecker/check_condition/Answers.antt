use Rattle.std.proofs.Common.{◌≡◌, List, [], Option, Some, ◌∙◌, sym, ap, option_map}
use Rattle.cedar_types.specs.declared.base.location.Loc.{Loc}
use Rattle.cedar_types.specs.Errors.{Finding}
use Rattle.cedar_types.specs.Expressions.Tree.{and}
use Rattle.cedar_types.specs.Expressions.View.{written}
use Rattle.cedar_types.specs.Templates.{with_rest}
use Rattle.cedar_typing.specs.Capabilities.{Caps, no_caps}
use Rattle.cedar_typing.specs.Infer.{infer}
use Rattle.cedar_typing.specs.Infer.Parts.{AnswerAndErrors, PartAndErrors, expect}
use Rattle.cedar_typing.specs.PolicyCheck.{out_verdict}
use Rattle.cedar_typing.specs.PolicyCheck.Trees.{out_tree}
use Rattle.cedar_typing.specs.Setting.{Setting}
use Rattle.cedar_typing.specs.TypeTests.{bool_types}
use Rattle.cedar_typing.specs.TypedExpr.{Source, place_of}
use Rattle.cedar_typing.specs.Views.Settings.{setting_at}
use Rattle.cedar_typing.specs.Views.{findings, at}
use Rattle.cedar_typing.proofs.typecheck.single_env.SingleEnvTypechecker.check_condition.Goals as goal

-- the output for the part that is inferred from a condition with a rest
seen : {A : Type 0} (out : PartAndErrors → A) (s : Setting) (l : Option Loc) (a b : Source) (known : Caps) (es : List Finding)
    (o : AnswerAndErrors) (p : PartAndErrors) (rest : Option Source) (x : A) → x ≡ out p → known ≡ no_caps → es ≡ []
    → infer s (and (at l) a b) known 1 es ≡ o → expect s.env bool_types l o ≡ p → rest ≡ Some b
    → x ≡ out (expect s.env bool_types (place_of (with_rest l a rest)) (infer s (with_rest l a rest) no_caps 1 []))
seen out s l a b known es o p rest x made nothing none inferred expected is =
    made
    ∙ ap out (sym (ap (expect s.env bool_types l) ((λ i. infer s (and (at l) a b) (sym nothing i) 1 (sym none i)) ∙ inferred) ∙ expected))
    ∙ ap (λ r. out (expect s.env bool_types (place_of (with_rest l a r)) (infer s (with_rest l a r) no_caps 1 []))) (sym is)

pub returns-clause-verdict : goal.returns-clause-verdict
returns-clause-verdict g c =
    seen out_verdict (setting_at g.C.ArgumentCheck.refusal c.args.self.now) c.args.loc (written c.args.scope.now) (written c.in-Some.rest) _ _ _ _ _ _
    c.check_of-in-Some.ensures.verdict (c.of-known.ensures ∙ c.no_capabilities-nothing.ensures) (ap findings c.new-errors.ensures.items)
    c.in_ok-answer-in-Some.ensures c.in_ok-part-in-Some.ensures (ap (option_map {U = Source} written) c.in-Some.is)

pub returns-clause-tree : goal.returns-clause-tree
returns-clause-tree g c =
    seen out_tree (setting_at g.C.ArgumentCheck.refusal c.args.self.now) c.args.loc (written c.args.scope.now) (written c.in-Some.rest) _ _ _ _ _ _
    c.check_of-in-Some.ensures.tree (c.of-known.ensures ∙ c.no_capabilities-nothing.ensures) (ap findings c.new-errors.ensures.items)
    c.in_ok-answer-in-Some.ensures c.in_ok-part-in-Some.ensures (ap (option_map {U = Source} written) c.in-Some.is)
