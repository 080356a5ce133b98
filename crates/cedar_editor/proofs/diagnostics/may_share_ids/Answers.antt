use Rattle.std.proofs.Common.{◌≡◌, ◌∙◌, ℕ, ap, get_or, length, List, [], arith}
use Rattle.cedar_editor.specs.Ids.{id_of, ids_from, sum_of}
use Rattle.cedar_editor.specs.declared.checks.CheckedPolicy.{CheckedPolicy}
use Rattle.cedar_editor.specs.declared.documents.PlacedPolicy.{PlacedPolicy}
use Rattle.cedar_editor.proofs.IdSums.{is_new, none_told, not_true, one_more_differs, one_more_sum}
use Rattle.cedar_editor.proofs.KnownIds.{id_here}
use Rattle.cedar_editor.proofs.diagnostics.may_share_ids.Goals as goal

pub loop-number-preserved : goal.loop-number-preserved
loop-number-preserved c =
    let ps : List PlacedPolicy = c.args.policies.now in
    let i : ℕ = c.loop-number.number in
    let own : c.in_ok-id_sum.field-0 ≡ sum_of (get_or (ids_from 0 ps) i []) =
    c.in_ok-id_sum.ensures ∙ ap sum_of (ap (λ (q : CheckedPolicy). id_of i q) c.deref.ensures
    ∙ id_here ps i c.index-policies-number.result c.loop-number-test.true c.index-policies-number.is) in
    record {
      known = λ n. c.in_ok-insert.ensures.updates.0 n ∙ one_more_sum ps i c.in_ok-id_sum.field-0 _ c.loop-number-test.true own c.loop-number.invariant.known n;
      differ = one_more_differs ps i c.loop-number.invariant.differ
          (is_new ps i c.in_ok-id_sum.field-0 _ c.loop-number-test.true own (c.loop-number.invariant.known c.in_ok-id_sum.field-0)
          (not_true c.in_ok-insert.field-0 _ c.in_ok-insert.ensures.added c.if-not-branch.false));
    }

pub returns : goal.returns
returns c = λ none.
    none_told c.args.policies.now (length c.args.policies.now)
    (λ k below. c.loop-number.invariant.differ k (omega (arith, below, c.loop-number-test.false)))
