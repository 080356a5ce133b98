use Rattle.std.proofs.Common.{◌≡◌, [], ◌∷◌, ◌++◌, sym, ap, ◌∙◌, subst, append_assoc}
use Rattle.std.specs.List.Sorted.{IsStrictlySortedBy}
use Rattle.std.specs.Map.{keys_of}
use Rattle.cedar_types.specs.Names.{text_of}
use Rattle.cedar_conformance.specs.Values.{entries_of}
use Rattle.cedar_conformance.proofs.CopiedRecords.{Entry, rc_cmp, entries_insert, put_last}
use Rattle.cedar_conformance.proofs.copies.+copied_values.Goals as goal

pub copy_record-loop-key-preserved : goal.copy_record-loop-key-preserved
copy_record-loop-key-preserved t c =
    let l = c.loop-key in
    let done = l.invariant.0 in
    let e : Entry = (c.in-Some.key.now, c.in-Some.value.now) in
    let left = c.next.new.self in
    let all : c.args.entries.now.entries ≡ done ++ e ∷ left = l.invariant.1 ∙ ap (λ es. done ++ es) c.in-Some.ensures.steps in
    let last = put_last done e left (subst (λ es. IsStrictlySortedBy rc_cmp (keys_of es)) all c.iter-key-items.ensures.ordered) in
    let named : text_of c.in_ok-key.key ≡ text_of e.0 = c.in_ok-key.ensures.cases in (
      done ++ e ∷ [],
      all ∙ sym (append_assoc done (e ∷ []) left),
      ap entries_of c.in_ok-insert.ensures.entries
          ∙ entries_insert l.copies.entries c.in_ok-key.key c.in_ok-copy_value.field-0
          ∙ rw (named, c.in_ok-copy_value.ensures, l.invariant.2) last,
    )
