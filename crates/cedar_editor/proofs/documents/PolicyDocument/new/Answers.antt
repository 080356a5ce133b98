use Rattle.std.proofs.Common.{◌∙◌, ℕ, List, ap, subst, sym}
use Rattle.std.proofs.lemmas.List.Elements.{All-nil, All-same}
use Rattle.cedar_editor.specs.Documents.{AllStandIn, IsSaidBy, StandsIn}
use Rattle.cedar_editor.specs.Lines.{line_starts}
use Rattle.cedar_editor.specs.declared.documents.PlacedPolicy.{PlacedPolicy}
use Rattle.cedar_editor.proofs.documents.PolicyDocument.new.Goals as goal

pub invariant_of-result-clause-rightly_said : goal.invariant_of-result-clause-rightly_said
invariant_of-result-clause-rightly_said g c =
    let Q : PlacedPolicy → Type 0 = IsSaidBy g.C.ArgumentCheck.refusal c.args.judge in
    ∣ c.in_ok-add_policies.ensures.right (All-nil Q) (All-same Q _ _ c.new-policies.ensures.items (All-nil Q)) ∣₁

pub invariant_of-result-clause-lines_of_text : goal.invariant_of-result-clause-lines_of_text
invariant_of-result-clause-lines_of_text g c = c.in_ok-new.ensures ∙ ap line_starts (sym c.in_ok-from_str.ensures.ok)

pub invariant_of-result-clause-policies_in_text : goal.invariant_of-result-clause-policies_in_text
invariant_of-result-clause-policies_in_text g c =
    let P : PlacedPolicy → Type 0 = StandsIn c.args.text.now in
    subst (λ (t : List ℕ). AllStandIn t c.add_policies.new.policies.items) (sym c.in_ok-from_str.ensures.ok)
    (c.in_ok-add_policies.ensures.placed (All-same P _ _ c.new-policies.ensures.items (All-nil P)))
