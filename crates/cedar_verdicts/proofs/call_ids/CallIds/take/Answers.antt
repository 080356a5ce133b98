use Rattle.std.proofs.Common.{◌≡◌, ◌∙◌, ℕ, Bool, true, false, not, ◌&&◌, Option, Some, None, Result, Ok, Err, OnOk, option_map, cond, refl, sym, ap, arith}
use Rattle.std.specs.Bool.{◌==◌}
use Rattle.std.proofs.lemmas.Bool.Decides.{nat_tests}
use Rattle.cedar_types.specs.Names.{text_of, text_eq}
use Rattle.cedar_verdicts.specs.declared.call_ids.FirstFile.{FirstFile}
use Rattle.cedar_verdicts.specs.CallIds.{file_of, is_other}
use Rattle.cedar_verdicts.proofs.KnownIds.{by_text, kept_file, new_file, value_of, with_value}
use Rattle.cedar_verdicts.proofs.Members.{and_false, and_true}
use Rattle.cedar_verdicts.proofs.call_ids.CallIds.take.Goals as goal

on_ok : {A E : Type 0} (r : Result A E) {P Q : Type 0} → (P → Q) → OnOk r P → OnOk r Q
on_ok (Ok x) f h = f h
on_ok (Err e) f h = h

own : (n m : ℕ) → n ≡ m → is_other m (Some n) ≡ false
own n m h = ap not same
  where
    same : (n == m) ≡ true
    same = grind (arith, nat_tests)

other : (n m : ℕ) → (n ≡ m → ⊥) → is_other m (Some n) ≡ true
other n m h = ap not differ
  where
    differ : (n == m) ≡ false
    differ = grind (arith, nat_tests)

pub returns-then-first-self-clause-exact : goal.returns-then-first-self-clause-exact
returns-then-first-self-clause-exact c =
    let ids = c.args.self.now in
    let accepted = c.args.verdict.now.is_accepted in
    let first = ap (option_map (λ f. f.number)) (c.in-Some.ensures.value ∙ by_text c.in_ok-id.id ids.files.entries) ∙ ap (file_of ids) c.in_ok-id.ensures.cases in
    and_true accepted
    ∙ ap (λ b. accepted && not b)
    (sym (ap (is_other ids.number) (sym first) ∙ own c.in-Some.first.now.number ids.number c.if-first-self.true))

pub returns-then-first-self-clause-noted : goal.returns-then-first-self-clause-noted
returns-then-first-self-clause-noted c =
    let ids = c.args.self.now in
    let first = ap (option_map (λ f. f.number)) (c.in-Some.ensures.value ∙ by_text c.in_ok-id.id ids.files.entries) ∙ ap (file_of ids) c.in_ok-id.ensures.cases in
    kept_file ids.number (file_of ids) (text_of c.args.policy.now.id.text) c.in-Some.first.now.number (sym first)

pub returns-in-Some-clause-exact : goal.returns-in-Some-clause-exact
returns-in-Some-clause-exact c =
    let ids = c.args.self.now in
    let accepted = c.args.verdict.now.is_accepted in
    let first = ap (option_map (λ f. f.number)) (c.in-Some.ensures.value ∙ by_text c.in_ok-id.id ids.files.entries) ∙ ap (file_of ids) c.in_ok-id.ensures.cases in
    on_ok c.refuse.result
    (λ refused.
    refused ∙ and_false accepted
    ∙ ap (λ b. accepted && not b)
    (sym (ap (is_other ids.number) (sym first) ∙ other c.in-Some.first.now.number ids.number c.if-first-self.false)))
    c.refuse.ensures.refused

pub returns-in-Some-clause-noted : goal.returns-in-Some-clause-noted
returns-in-Some-clause-noted c =
    let ids = c.args.self.now in
    let first = ap (option_map (λ f. f.number)) (c.in-Some.ensures.value ∙ by_text c.in_ok-id.id ids.files.entries) ∙ ap (file_of ids) c.in_ok-id.ensures.cases in
    on_ok c.refuse.result
    (λ refused. kept_file ids.number (file_of ids) (text_of c.args.policy.now.id.text) c.in-Some.first.now.number (sym first))
    c.refuse.ensures.refused

pub returns-clause-exact : goal.returns-clause-exact
returns-clause-exact c =
    let ids = c.args.self.now in
    let accepted = c.args.verdict.now.is_accepted in
    let none = ap (option_map (λ f. f.number)) (c.in_default.ensures.value ∙ by_text c.in_ok-id.id ids.files.entries) ∙ ap (file_of ids) c.in_ok-id.ensures.cases in
    and_true accepted ∙ ap (λ f. accepted && not (is_other ids.number f)) none

pub returns-clause-noted : goal.returns-clause-noted
returns-clause-noted c = λ t.
    let ids = c.args.self.now in
    let es = ids.files.entries in
    let id = text_of c.args.policy.now.id.text in
    let number : FirstFile → ℕ = λ f. f.number in
    let file : FirstFile = record { number = ids.number; name = c.in_ok-from_str.field-0 } in
    let none = c.in_default.ensures.value ∙ by_text c.in_ok-id.id es ∙ ap (λ u. value_of u es) c.in_ok-id.ensures.cases in
    ap (λ fs. option_map number (value_of t fs)) c.in_ok-insert.ensures.entries
    ∙ ap (option_map number) (with_value c.in_ok-id.id file t es)
    ∙ ap (λ u. option_map number (cond (text_eq t u) (Some file) (value_of t es))) c.in_ok-id.ensures.cases
    ∙ new_file number ids.number (λ u. value_of u es) id file (sym none) refl t
