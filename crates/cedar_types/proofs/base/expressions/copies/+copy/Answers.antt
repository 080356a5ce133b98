use Rattle.std.proofs.Common.{◌≡◌, [], ◌∷◌, ◌++◌, sym, ap, ◌∙◌, subst, append_assoc}
use Rattle.std.specs.List.Sorted.{IsStrictlySortedBy}
use Rattle.std.specs.Map.{keys_of}
use Rattle.cedar_types.specs.Names.{text_of}
use Rattle.cedar_types.specs.Expressions.View.{fields_written}
use Rattle.cedar_types.proofs.Attributes.Entries.{Entry, rc_cmp, fields_insert, put_last}
use Rattle.cedar_types.proofs.base.expressions.copies.+copy.Goals as goal

pub copy_fields-loop-key-preserved : goal.copy_fields-loop-key-preserved
copy_fields-loop-key-preserved t c =
    let l = c.loop-key in
    let done = l.invariant.0 in
    let e : Entry = (c.in-Some.key.now, c.in-Some.e.now) in
    let left = c.next.new.self in
    let all : c.args.fields.now.entries ≡ done ++ e ∷ left = l.invariant.1 ∙ ap (λ es. done ++ es) c.in-Some.ensures.steps in
    let last = put_last done e left (subst (λ es. IsStrictlySortedBy rc_cmp (keys_of es)) all c.iter-key-items.ensures.ordered) in
    let named : text_of c.in_ok-key.key ≡ text_of e.0 = c.in_ok-key.ensures.cases in (
      done ++ e ∷ [],
      all ∙ sym (append_assoc done (e ∷ []) left),
      ap fields_written c.in_ok-insert.ensures.entries
          ∙ fields_insert l.copies.entries c.in_ok-key.key c.in_ok-copy_expr.field-0
          ∙ rw (named, c.in_ok-copy_expr.ensures, l.invariant.2) last,
    )
