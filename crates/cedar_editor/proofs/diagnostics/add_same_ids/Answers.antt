use Rattle.std.proofs.Common.{◌≡◌, ◌∙◌, ℕ, Global, Option, Vec, List, ap, is_some, sym, take}
use Rattle.std.specs.HashMap.{get}
use Rattle.std.specs.List.{list_any}
use Rattle.std.specs.declared.rc.RcStr.{RcStr}
use Rattle.cedar_types.specs.Names.{text_eq, text_of}
use Rattle.cedar_types.specs.declared.base.location.Loc.{Loc}
use Rattle.cedar_findings.specs.declared.codes.Code.TheVariants as Code
use Rattle.cedar_findings.specs.declared.findings.Severity.TheVariants as Severity
use Rattle.cedar_editor.specs.Diagnostics.{Marks}
use Rattle.cedar_editor.specs.Ids.{id_of, ids_from}
use Rattle.cedar_editor.specs.declared.checks.CheckedPolicy.{CheckedPolicy}
use Rattle.cedar_editor.specs.declared.diagnostics.Diagnostic.{Diagnostic}
use Rattle.cedar_editor.specs.declared.documents.PlacedPolicy.{PlacedPolicy}
use Rattle.cedar_editor.proofs.KnownIds.{no_more_known, one_more_known, same_text, told_again, told_still, IsIdAt}
use Rattle.cedar_editor.proofs.diagnostics.add_same_ids.Goals.{in-Some+in_ok-same_id-in-Some+in_ok-push-in-Some, in-None+in_ok-insert-in-None}
use Rattle.cedar_editor.proofs.diagnostics.add_same_ids.Goals as goal

pub loop-number-preserved : goal.loop-number-preserved
loop-number-preserved c =
    let ps : List PlacedPolicy = c.args.policies.now in
    let i : ℕ = c.loop-number.number in
    let p : PlacedPolicy = c.index-policies-number.result in
    let id : RcStr Global = c.in_ok-id.id in
    let own : IsIdAt ps i p id =
    record {
      below = c.loop-number-test.true;
      at = c.index-policies-number.is;
      is = c.in_ok-id.ensures ∙ ap (λ (q : CheckedPolicy). id_of i q) c.deref.ensures;
    } in
    let marked : Loc → Marks = λ place. record { place = place; severity = Severity.Error; code = Code.SameId } in
    let old : RcStr Global → Option Loc = λ q. get same_text c.loop-number.lines q in
    let found : c.copied.result ≡ old id = c.copied.ensures ∙ c.get.ensures.value in
    let known : is_some c.copied.result ≡ list_any (text_eq (text_of id)) (take i (ids_from 0 ps)) =
    ap is_some found ∙ c.loop-number.invariant.known id in
    elim c.match-copied.branch [
      | in-Some+in_ok-same_id-in-Some+in_ok-push-in-Some w ↦
          record {
            known = λ q. ap (λ m. is_some (get same_text m q)) w.lines-is
                ∙ no_more_known ps i p id old own c.loop-number.invariant.known (sym (ap is_some found) ∙ ap is_some w.in-Some.is) q;
            told = told_again ps i p id (is_some c.copied.result) c.loop-number.told.items _ w.in_ok-same_id-in-Some.field-0 _ own known
                (ap is_some w.in-Some.is) c.loop-number.invariant.told
                (ap (λ (v : Vec Diagnostic Global). v.items) w.told-is ∙ w.in_ok-push-in-Some.ensures.items)
                (w.in_ok-same_id-in-Some.ensures ∙ ap marked c.first_line-place.ensures);
          }
      | in-None+in_ok-insert-in-None w ↦
          record {
            known = λ q. ap (λ m. is_some (get same_text m q)) w.lines-is
                ∙ (ap is_some (w.in_ok-insert-in-None.ensures.updates.0 q)
                ∙ one_more_known ps i p id c.first_line-place.result old own c.loop-number.invariant.known q);
            told = told_still ps i p id (is_some c.copied.result) c.loop-number.told.items _ _ own known (ap is_some w.in-None.is)
                c.loop-number.invariant.told (ap (λ (v : Vec Diagnostic Global). v.items) w.told-is);
          }
    ]
