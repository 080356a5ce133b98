use Rattle.std.proofs.Common.{◌∙◌, length, sym, ap}
use Rattle.std.specs.List.{list_any}
use Rattle.std.proofs.lemmas.List.Sorted.{length_permutation, list_any-IsPermutation}
use Rattle.cedar_verdicts.specs.Impossible.{calls_impossible}
use Rattle.cedar_verdicts.specs.Mistakes.{is_of_impossible, may_be_of_impossible, may_say_impossible, says_impossible}
use Rattle.cedar_verdicts.proofs.Mistakes.{first_is_one, no_mistakes, none_listed, said_first}
use Rattle.cedar_verdicts.proofs.wording.first_findings.Goals as goal

pub returns-clause-none : goal.returns-clause-none
returns-clause-none c = λ empty.
    let ms = c.in_ok-mistakes.mistakes.items in
    let made = c.in_ok-mistakes.ensures.all ∙ c.as_slice.ensures.value in
    let sorted = length_permutation _ _ c.in_ok-sort_by_key.ensures.permutation in
    none_listed c.args.most (length c.as_slice-2.result.now) _ _
    (ap length c.as_slice-2.ensures.value ∙ no_mistakes ms (ap length made ∙ sorted ∙ empty))
    c.in_ok-findings.ensures.listed (length_permutation _ _ c.in_ok-sort.ensures.permutation)

pub returns-clause-told : goal.returns-clause-told
returns-clause-told c = λ none said.
    let ms = c.in_ok-mistakes.mistakes.items in
    let made = c.in_ok-mistakes.ensures.all ∙ c.as_slice.ensures.value in
    sym (list_any-IsPermutation calls_impossible _ _ c.in_ok-sort.ensures.permutation)
    ∙ c.in_ok-findings.ensures.told none
    (ap (list_any is_of_impossible) c.as_slice-2.ensures.value
    ∙ sym (said_first ms c.in_ok-mistakes.ensures.each) ∙ ap (list_any says_impossible) made
    ∙ sym (list_any-IsPermutation says_impossible _ _ c.in_ok-sort_by_key.ensures.permutation) ∙ said)

pub returns-clause-only : goal.returns-clause-only
returns-clause-only c = λ h.
    let ms = c.in_ok-mistakes.mistakes.items in
    let made = c.in_ok-mistakes.ensures.all ∙ c.as_slice.ensures.value in
    list_any-IsPermutation may_say_impossible _ _ c.in_ok-sort_by_key.ensures.permutation
    ∙ ap (list_any may_say_impossible) (sym made)
    ∙ first_is_one ms
    (ap (list_any may_be_of_impossible) (sym c.as_slice-2.ensures.value)
    ∙ c.in_ok-findings.ensures.only (list_any-IsPermutation calls_impossible _ _ c.in_ok-sort.ensures.permutation ∙ h))
