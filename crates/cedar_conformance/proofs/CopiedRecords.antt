-- Copied records: the entries of a map beside the values by key that they stand for.
use Rattle.std.proofs.Common.{◌≡◌, List, [], ◌∷◌, ◌++◌, Global, Ordering, Less, Equal, Greater, nat_cmp, refl, ap, ◌∙◌}
use Rattle.std.proofs.lemmas.Cmp.{nat_list_cmp_total}
use Rattle.std.specs.Cmp.Lexicographic.{slice_cmp}
use Rattle.std.specs.List.{AllByRecursion}
use Rattle.std.specs.List.Sorted.{IsStrictlySortedBy}
use Rattle.std.specs.Map.{keys_of}
use Rattle.std.specs.Ordering.{match_ordering, ordering_reverse}
use Rattle.std.specs.BTreeMap.{insert_entry}
use Rattle.std.specs.declared.rc.RcStr.{RcStr}
use Rattle.cedar_types.specs.Names.{Text, text_of}
use Rattle.cedar_types.specs.Values as plain
use Rattle.cedar_types.specs.Values.{Entries, no_entries, more_entries}
use Rattle.cedar_conformance.specs.Values.{value_of, entries_of}
use Rattle.cedar_conformance.specs.declared.values.Value.{Value}

abbrev pub Entry : Type 0
Entry = RcStr Global × Value

abbrev pub rc_cmp : RcStr Global → RcStr Global → Ordering
rc_cmp a b = slice_cmp nat_cmp (text_of a) (text_of b)

-- the values by key, with v at k
abbrev pub put : Text → plain.Value → Entries → Entries
put k v no_entries = more_entries k v no_entries
put k v (more_entries l w es) =
    match_ordering (slice_cmp nat_cmp k l) (more_entries k v (more_entries l w es)) (more_entries l v es) (more_entries l w (put k v es))

entries_match : (o : Ordering) (a b c : List Entry) → entries_of (match_ordering o a b c)
    ≡ match_ordering o (entries_of a) (entries_of b) (entries_of c)
entries_match Less a b c = refl
entries_match Equal a b c = refl
entries_match Greater a b c = refl

pub entries_insert : (es : List Entry) (k : RcStr Global) (v : Value)
    → entries_of (insert_entry rc_cmp es k v) ≡ put (text_of k) (value_of v) (entries_of es)
entries_insert [] k v = refl
entries_insert (x ∷ es) k v =
    entries_match (rc_cmp k x.0) ((k, v) ∷ x ∷ es) ((x.0, v) ∷ es) (x ∷ insert_entry rc_cmp es k v) ∙ rw (entries_insert es k v)

below_middle : (first : Entry) (es : List Entry) (e : Entry) (more : List Entry)
    → AllByRecursion (λ y. rc_cmp first.0 y ≡ Less) (keys_of (es ++ e ∷ more)) → rc_cmp first.0 e.0 ≡ Less
below_middle first [] e more h = h.0
below_middle first (x ∷ es) e more h = below_middle first es e more h.1

-- a key above all keys before it goes last
pub put_last : (done : List Entry) (e : Entry) (more : List Entry)
    → IsStrictlySortedBy rc_cmp (keys_of (done ++ e ∷ more)) → put (text_of e.0) (value_of e.1) (entries_of done)
    ≡ entries_of (done ++ e ∷ [])
unfolding IsStrictlySortedBy
put_last [] e more h = refl
put_last (first ∷ done) e more h =
    let above : slice_cmp nat_cmp (text_of e.0) (text_of first.0) ≡ Greater =
    nat_list_cmp_total.antisymm (text_of e.0) (text_of first.0) ∙ ap ordering_reverse (below_middle first done e more h.0) in
    rw above (ap (more_entries (text_of first.0) (value_of first.1)) (put_last done e more h.1))
