use Rattle.std.proofs.Common.{◌∙◌, List, ◌++◌, ap}
use Rattle.std.specs.List.{flat_map}
use Rattle.std.proofs.lemmas.List.{take_all}
use Rattle.cedar_editor.specs.Diagnostics.{marks_of_policy, marks_of_same_ids, AreDiagnosticsOf, Marks}
use Rattle.cedar_editor.specs.declared.diagnostics.Diagnostic.{Diagnostic}
use Rattle.cedar_editor.specs.declared.documents.PlacedPolicy.{PlacedPolicy}
use Rattle.cedar_editor.proofs.Told.{silent}
use Rattle.cedar_editor.proofs.diagnostics.policy_diagnostics.Goals as goal

pub returns-clause-silent : goal.returns-clause-silent
returns-clause-silent c = λ none.
    let ps : List PlacedPolicy = c.args.policies.now in
    let told : List Diagnostic = c.add_same_ids.new.told.items in
    let exact : AreDiagnosticsOf ps told =
    c.in_ok-add_same_ids.ensures
    ∙ ap (λ (m : List Marks). m ++ marks_of_same_ids ps)
    (c.loop-placed.invariant ∙ ap (flat_map marks_of_policy) (take_all c.loop-placed.placed-index ps c.loop-placed-test.false)) in
    silent ps told exact none
