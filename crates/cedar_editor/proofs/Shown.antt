-- Policies that are shown without an error.
use Rattle.std.proofs.Common.{◌≡◌, ℕ, ◌<◌, Bool, true, false, ◌&&◌, not, Option, Some, None, List, [], ◌∷◌, get_or, length, refl, sym, ap, ◌∙◌, subst, arith}
use Rattle.std.proofs.Math.Logic.{∥∥₁_map}
use Rattle.cedar_types.specs.Extensions.Functions.{Refusals}
use Rattle.cedar_types.specs.Templates.{PlainTemplate, template_of}
use Rattle.cedar_typing.specs.Soundness.Policies.{Basis}
use Rattle.cedar_findings.specs.declared.faults.TextFault.{TextFault}
use Rattle.cedar_findings.specs.declared.findings.Finding.{Finding}
use Rattle.cedar_findings.specs.declared.findings.Verdict.{Verdict}
use Rattle.cedar_verdicts.specs.Verdicts.{finds_nothing, IsPromised, IsRightVerdict, IsWholeVerdict}
use Rattle.cedar_editor.specs.Checks.{has_any, has_shown_error, is_rightly_said_of, shows_error, IsRightlySaid, IsSafeAsShown}
use Rattle.cedar_editor.specs.Documents.{shared_basis, AreRightlySaidBy, KeepThePromise}
use Rattle.cedar_editor.specs.declared.checks.CheckedPolicy.{CheckedPolicy}
use Rattle.cedar_editor.specs.declared.documents.PlacedPolicy.{PlacedPolicy}
use Rattle.cedar_editor.specs.declared.judges.Judge.{Judge}

-- a list has an item exactly if it is not empty
pub none_of : (fs : List Finding) → has_any fs ≡ false → length fs ≡ 0
none_of [] h = refl
none_of (f ∷ fs) h = absurd (cc)

pub some_of : (fs : List Finding) → has_any fs ≡ true → 0 < length fs
some_of [] h = absurd (cc)
some_of (f ∷ fs) h = omega arith

is_true : (a : Bool) → (a ≡ false → ⊥) → a ≡ true
is_true true h = refl
is_true false h = absurd (h refl)

first_of : (a : Bool) → (a && not false) ≡ true → a ≡ true
first_of true h = refl
first_of false h = absurd (cc)

-- a whole verdict without an error accepts the policy
accepts : (b : Basis) (level : Option ℕ) (t : PlainTemplate) (v : Verdict) → IsWholeVerdict b level t false v
    → has_any v.errors.items ≡ false → v.is_accepted ≡ true
accepts b level t v whole none =
    let empty : length v.errors.items ≡ 0 = none_of v.errors.items none in
    is_true v.is_accepted (λ refused. let some : 0 < length v.errors.items = whole.refused refused in absurd (omega arith))

safe_said : (b : Basis) (level : Option ℕ) (p : CheckedPolicy) (f : Option TextFault) (v : Option Verdict)
    → p.fault ≡ f → p.verdict ≡ v → is_rightly_said_of b level p f v → IsSafeAsShown b level p
safe_said b level p (Some f) v is_fault is_verdict said =
    let shown : has_shown_error p ≡ true = subst (λ (it : Option TextFault). shows_error it p.verdict ≡ true) (sym is_fault) refl in
    record { promised = λ none. absurd (cc); accepted = λ none. absurd (cc) }
safe_said b level p None None is_fault is_verdict said = absurd said
safe_said b level p None (Some v) is_fault is_verdict said =
    let right : IsRightVerdict b level (template_of p.template) v = said.0 in
    let whole : IsWholeVerdict b level (template_of p.template) false v = said.1 in
    let shown : has_shown_error p ≡ has_any v.errors.items =
    ap (λ (it : Option TextFault). shows_error it p.verdict) is_fault ∙ ap (λ (it : Option Verdict). shows_error None it) is_verdict in
    record {
      promised = λ none. subst (λ (a : Bool). IsPromised b level (template_of p.template) a)
          (accepts b level (template_of p.template) v whole (sym shown ∙ none)) right.promised;
      accepted = λ none. (
        whole.survey,
        whole.surveyed,
        first_of (finds_nothing b level (template_of p.template) whole.survey)
            (sym whole.accepted ∙ accepts b level (template_of p.template) v whole (sym shown ∙ none)),
      );
    }

pub is_safe : (b : Basis) (level : Option ℕ) (p : CheckedPolicy) → IsRightlySaid b level p → IsSafeAsShown b level p
is_safe b level p said = safe_said b level p p.fault p.verdict refl refl said

-- policies whose verdicts come from a judge keep its promise
pub keep : {C : Type 0} (meaning : C → Refusals) (judge : Judge C) (ps : List PlacedPolicy) → ∥ AreRightlySaidBy meaning judge ps ∥₁
    → KeepThePromise meaning judge ps
keep meaning (Judge.Reading functions) ps right = tt
keep meaning (Judge.Settings s) ps right = λ silent. ∥∥₁_map right (λ all k d h.
    (is_safe (shared_basis meaning s) s.level (get_or ps k d).policy.value (all k d h)).promised (silent k d h))
