-- Diagnostics of policies, none of which is an error.
use Rattle.std.proofs.Common.{◌≡◌, ◌∙◌, ℕ, ◌<◌, zero, suc, false, Option, Some, None, List, [], ◌∷◌, ◌++◌, All, length, map, get_or, refl, sym, arith}
use Rattle.std.specs.List.{flat_map}
use Rattle.std.proofs.lemmas.List.{length-map, nil_from_length}
use Rattle.cedar_findings.specs.declared.faults.TextFault.{TextFault}
use Rattle.cedar_findings.specs.declared.findings.Finding.{Finding}
use Rattle.cedar_findings.specs.declared.findings.Verdict.{Verdict}
use Rattle.cedar_editor.specs.Checks.{has_any, shows_error}
use Rattle.cedar_editor.specs.Diagnostics.{marks_of, marks_of_fault, marks_of_policy, marks_of_verdict, AreDiagnosticsOf, Marks}
use Rattle.cedar_editor.specs.Documents.{ShowsNoError}
use Rattle.cedar_editor.specs.declared.diagnostics.Diagnostic.{Diagnostic}
use Rattle.cedar_editor.specs.declared.documents.PlacedPolicy.{PlacedPolicy}

front_of_none : (xs ys : List Marks) → xs ++ ys ≡ [] → xs ≡ []
front_of_none [] ys none = refl
front_of_none (x ∷ xs) ys none = absurd (cc)

rest_of_none : (xs ys : List Marks) → xs ++ ys ≡ [] → ys ≡ []
rest_of_none [] ys none = none
rest_of_none (x ∷ xs) ys none = absurd (cc)

none_of : (f : Finding → Marks) (fs : List Finding) → map f fs ≡ [] → has_any fs ≡ false
none_of f [] none = refl
none_of f (x ∷ fs) none = absurd (cc)

none_said : (begin : ℕ) (f : Option TextFault) (v : Option Verdict) → marks_of_fault begin f ++ marks_of_verdict begin v ≡ []
    → shows_error f v ≡ false
none_said begin (Some f) v none = absurd (cc)
none_said begin None None none = refl
none_said begin None (Some v) none = none_of _ v.errors.items (front_of_none _ _ none)

none_shown_at : (ps : List PlacedPolicy) → flat_map marks_of_policy ps ≡ [] → (k : ℕ) (d : PlacedPolicy) → k < length ps
    → ShowsNoError (get_or ps k d)
none_shown_at [] none k d below = absurd (omega arith)
none_shown_at (p ∷ ps) none zero d below = none_said p.start p.policy.value.fault p.policy.value.verdict (front_of_none _ _ none)
none_shown_at (p ∷ ps) none (suc k) d below = none_shown_at ps (rest_of_none (marks_of_policy p) _ none) k d (omega arith)

-- if nothing is told of policies, no error of them is shown
pub silent : (ps : List PlacedPolicy) (told : List Diagnostic) → AreDiagnosticsOf ps told → length told ≡ 0 → All ShowsNoError ps
silent ps told exact none =
    none_shown_at ps (front_of_none _ _ (sym exact ∙ nil_from_length (map marks_of told) (length-map told marks_of ∙ none)))
