-- Entries of a map, and the fields that they stand for.
use Rattle.std.proofs.Common.{◌≡◌, List, [], ◌∷◌, ◌++◌, Global, Ordering, Less, Equal, Greater, nat_cmp, refl, ap, ◌∙◌}
use Rattle.std.proofs.lemmas.Cmp.{nat_list_cmp_total}
use Rattle.std.specs.Cmp.Lexicographic.{slice_cmp}
use Rattle.std.specs.List.{AllByRecursion}
use Rattle.std.specs.List.Sorted.{IsStrictlySortedBy}
use Rattle.std.specs.Map.{keys_of}
use Rattle.std.specs.Ordering.{match_ordering, ordering_reverse}
use Rattle.std.specs.BTreeMap.{insert_entry}
use Rattle.std.specs.declared.rc.RcStr.{RcStr}
use Rattle.cedar_types.specs.Expressions.Tree.{Tree, Fields, no_fields, field}
use Rattle.cedar_types.specs.Names.{Text, text_of}
use Rattle.cedar_types.specs.Expressions.View.{Written, written, fields_written}
use Rattle.cedar_types.specs.declared.base.expressions.Expr.{Expr}

abbrev pub Entry : Type 0
Entry = RcStr Global × Expr (Unit {0})

abbrev pub rc_cmp : RcStr Global → RcStr Global → Ordering
rc_cmp a b = slice_cmp nat_cmp (text_of a) (text_of b)

-- The fields with t at the key k
abbrev pub put : Text → Tree Written → Fields Written → Fields Written
put k t no_fields = field k t no_fields
put k t (field l u fs) = match_ordering (slice_cmp nat_cmp k l) (field k t (field l u fs)) (field l t fs) (field l u (put k t fs))

fields_match : (o : Ordering) (a b c : List Entry) → fields_written (match_ordering o a b c)
    ≡ match_ordering o (fields_written a) (fields_written b) (fields_written c)
fields_match Less a b c = refl
fields_match Equal a b c = refl
fields_match Greater a b c = refl

pub fields_insert : (es : List Entry) (k : RcStr Global) (e : Expr (Unit {0}))
    → fields_written (insert_entry rc_cmp es k e) ≡ put (text_of k) (written e) (fields_written es)
fields_insert [] k e = refl
fields_insert (x ∷ es) k e =
    fields_match (rc_cmp k x.0) ((k, e) ∷ x ∷ es) ((x.0, e) ∷ es) (x ∷ insert_entry rc_cmp es k e) ∙ rw (fields_insert es k e)

below_middle : (first : Entry) (es : List Entry) (e : Entry) (more : List Entry)
    → AllByRecursion (λ y. rc_cmp first.0 y ≡ Less) (keys_of (es ++ e ∷ more)) → rc_cmp first.0 e.0 ≡ Less
below_middle first [] e more h = h.0
below_middle first (x ∷ es) e more h = below_middle first es e more h.1

-- A key that is above all earlier keys goes to the end
pub put_last : (done : List Entry) (e : Entry) (more : List Entry)
    → IsStrictlySortedBy rc_cmp (keys_of (done ++ e ∷ more)) → put (text_of e.0) (written e.1) (fields_written done)
    ≡ fields_written (done ++ e ∷ [])
unfolding IsStrictlySortedBy
put_last [] e more h = refl
put_last (first ∷ done) e more h =
    let above : slice_cmp nat_cmp (text_of e.0) (text_of first.0) ≡ Greater =
    nat_list_cmp_total.antisymm (text_of e.0) (text_of first.0) ∙ ap ordering_reverse (below_middle first done e more h.0) in
    rw above (ap (field (text_of first.0) (written first.1)) (put_last done e more h.1))
