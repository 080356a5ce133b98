-- Reports, one after another: each is on its policy, and claims no more than was found.
use Rattle.std.proofs.Common.{◌≡◌, ℕ, ◌+◌, ◌<◌, Bool, true, false, if◌then◌else◌, List, [], ◌∷◌, ◌++◌, map, take, length, All, get_or, sym, ap, subst, ◌∙◌}
use Rattle.std.proofs.lemmas.List.{map_push, take_more}
use Rattle.std.proofs.lemmas.List.Elements.{All-push}
use Rattle.cedar_types.specs.Templates.{PlainTemplate, template_of}
use Rattle.cedar_typing.specs.Soundness.Policies.{Basis}
use Rattle.cedar_host.specs.declared.policy_sets.Findings.{Findings}
use Rattle.cedar_host.specs.declared.reports.PolicyReport.{PolicyReport}
use Rattle.cedar_host.specs.Found.{IsReportOf, ListsAnError}
use Rattle.cedar_host.specs.ReportOrder.{IsInOrder}
use Rattle.cedar_host.specs.Safety.{PassesEverywhere, DoesNotGoWrong, IsNeverTrue, IsRight}

-- one report more is on one policy more
pub one_more_each :
    {R P : Type 0} (about : R → P) (policies : List P) (i : ℕ) (policy : P) (old new : List R)
    (answer : R) → new ≡ old ++ answer ∷ [] → map about old ≡ take i policies → about answer ≡ policy
    → i < length policies → policy ≡ get_or policies i policy
    → map about new ≡ take (i + 1) policies
one_more_each about policies i policy old new answer pushed each of_policy below is =
    ap (map about) pushed
    ∙ map_push about old answer
    ∙ (λ j. each j ++ of_policy j ∷ [])
    ∙ ap (λ p. take i policies ++ p ∷ []) is
    ∙ sym (take_more policies i policy below)

-- one report more is as right as all
pub one_more_right : {R : Type 0} (P : R → Type 0) (old new : List R) (answer : R)
    → new ≡ old ++ answer ∷ [] → All P old → P answer → All P new
one_more_right P old new answer pushed all right =
    subst (All P) (sym pushed) (All-push P old answer all right)

-- a property of all holds of these too, whether or not there was room for one more
pub right_if_pushed : {X : Type 0} (P : X → Type 0) (pushed : Bool) (old new : List X) (x : X)
    → new ≡ if◌then◌else◌ {A = List X} pushed (old ++ x ∷ []) old → All P old → P x → All P new
right_if_pushed P true old new x e all right = one_more_right P old new x e all right
right_if_pushed P false old new x e all right = subst (All P) (sym e) all

-- a report is right if it tells the findings in its template
pub right_report : (b : Basis) (r : PolicyReport) (t : PlainTemplate) (accepted impossible : Bool)
    → template_of r.policy.now.template ≡ t
    → r.is_accepted ≡ accepted → r.is_impossible ≡ impossible
    → (accepted ≡ true → PassesEverywhere b t) → (accepted ≡ true → DoesNotGoWrong b t)
    → (impossible ≡ true → IsNeverTrue b t) → IsRight b r
right_report b r t accepted impossible same of_accepted of_impossible checked safe never_true =
    record {
      checked = λ h. subst (PassesEverywhere b) (sym same) (checked (sym of_accepted ∙ h));
      safe = λ h. subst (DoesNotGoWrong b) (sym same) (safe (sym of_accepted ∙ h));
      never_true = λ h. subst (IsNeverTrue b) (sym same) (never_true (sym of_impossible ∙ h));
    }

-- a report of the findings in a policy
pub report_of : (AreFindings : PlainTemplate → Findings → Type 0) (r : PolicyReport) (t : PlainTemplate) (f : Findings)
    → template_of r.policy.now.template ≡ t → AreFindings t f → r.is_accepted ≡ f.is_accepted
    → r.is_impossible ≡ f.is_impossible → ListsAnError r → IsInOrder r → IsReportOf AreFindings r
report_of AreFindings r t f same found accepted impossible refused ordered = record {
  outcome = f;
  found = subst (λ (u : PlainTemplate). AreFindings u f) (sym same) found;
  accepted = accepted;
  impossible = impossible;
  refused = refused;
  ordered = ordered;
}
