-- Keys of an object that differ, and one more key.
use Rattle.std.proofs.Common.{Global, ◌≡◌, ◌∙◌, Bool, true, false, ◌||◌, List, [], ◌∷◌, ◌++◌, map, refl, sym, ap, true≢false}
use Rattle.std.specs.BTreeSet.{BTreeSet, insert_key}
use Rattle.std.specs.BTreeMap.{is_at}
use Rattle.std.specs.Cmp.Lexicographic.{texts_ties}
use Rattle.std.specs.declared.cmp.Ordering.{Ordering}
use Rattle.std.specs.declared.cmp.Ordering.TheVariants.{Less, Equal, Greater}
use Rattle.std.specs.declared.rc.RcStr.{RcStr}
use Rattle.std.specs.List.{list_any}
use Rattle.std.specs.Ordering.{is_eq, match_ordering, nat_cmp}
use Rattle.std.specs.Cmp.Lexicographic.{slice_cmp}
use Rattle.std.proofs.lemmas.Slice.Eq.{bytes_eq-Decides}
use Rattle.cedar_json.specs.declared.values.Key.{Key}
use Rattle.cedar_json.specs.declared.values.Value.{Value}
use Rattle.cedar_json.specs.Keys.{is_among, KeepsAll}
use Rattle.cedar_json.specs.Says.{KeysDiffer, IsNew}
use Rattle.cedar_json.specs.View.{members_view}
use Rattle.cedar_types.specs.Names.{Text, text_of, text_eq}

abbrev pub key_cmp : RcStr Global → RcStr Global → Ordering
key_cmp a b = slice_cmp nat_cmp (text_of a) (text_of b)

same_texts : (a b : RcStr Global) → key_cmp a b ≡ Equal → text_of a ≡ text_of b
same_texts a b e =
    (bytes_eq-Decides (text_of a) (text_of b)).0 (texts_ties (text_of a) (text_of b) ∙ ap is_eq e)

-- the set finds a key iff the key is among the keys of the set
pub found : (a : RcStr Global) (ks : List (RcStr Global)) → list_any (is_at (key_cmp a)) ks ≡ list_any (text_eq (text_of a)) (map text_of ks)
found a [] = refl
found a (k ∷ ks) = λ i. (sym (texts_ties (text_of a) (text_of k))) i || found a ks i

-- ---- one more

or_true : (a : Bool) → (a || true) ≡ true
or_true true = refl
or_true false = refl

same_is_equal : (t : Text) → text_eq t t ≡ true
same_is_equal t = (bytes_eq-Decides t t).1 refl

pub inserted : (k : RcStr Global) (ks : List (RcStr Global)) → list_any (text_eq (text_of k)) (map text_of (insert_key key_cmp ks k)) ≡ true
inserted k [] = ap (λ b. b || false) (same_is_equal (text_of k))
inserted k (x ∷ xs) = along (key_cmp k x) refl (inserted k xs)
  where
    along : (o : Ordering) → o ≡ key_cmp k x → list_any (text_eq (text_of k)) (map text_of (insert_key key_cmp xs k)) ≡ true
        → list_any (text_eq (text_of k)) (map text_of (match_ordering o (k ∷ x ∷ xs) (x ∷ xs) (x ∷ insert_key key_cmp xs k))) ≡ true
    along Less is i = ap (λ b. b || (text_eq (text_of k) (text_of x) || list_any (text_eq (text_of k)) (map text_of xs))) (same_is_equal (text_of k))
    along Equal is i =
        ap (λ b. b || list_any (text_eq (text_of k)) (map text_of xs))
        (ap (text_eq (text_of k)) (sym (same_texts k x (sym is))) ∙ same_is_equal (text_of k))
    along Greater is i = ap (λ b. text_eq (text_of k) (text_of x) || b) i ∙ or_true (text_eq (text_of k) (text_of x))

in_either : (a b c : Bool) → (a || b) ≡ true → (b ≡ true → c ≡ true) → (a || c) ≡ true
in_either true b c h k = refl
in_either false b c h k = k h

pub kept : (k : RcStr Global) (t : Text) (ks : List (RcStr Global)) → list_any (text_eq t) (map text_of ks) ≡ true
    → list_any (text_eq t) (map text_of (insert_key key_cmp ks k)) ≡ true
kept k t [] h = absurd (true≢false (sym h))
kept k t (x ∷ xs) h = along (key_cmp k x) (λ r. kept k t xs r)
  where
    along : (o : Ordering) → (list_any (text_eq t) (map text_of xs) ≡ true → list_any (text_eq t) (map text_of (insert_key key_cmp xs k)) ≡ true)
        → list_any (text_eq t) (map text_of (match_ordering o (k ∷ x ∷ xs) (x ∷ xs) (x ∷ insert_key key_cmp xs k))) ≡ true
    along Less r = ap (λ b. text_eq t (text_of k) || b) h ∙ or_true (text_eq t (text_of k))
    along Equal r = h
    along Greater r = in_either (text_eq t (text_of x)) (list_any (text_eq t) (map text_of xs)) (list_any (text_eq t) (map text_of (insert_key key_cmp xs k))) h r

-- ---- the keys of the entries

abbrev pub AreKnown : BTreeSet (RcStr Global) → List (Key × Value) → Type 0
AreKnown keys [] = Unit {0}
AreKnown keys (e ∷ es) = (is_among keys (text_of e.0.name) ≡ true) × AreKnown keys es

pub known_on : (before after : BTreeSet (RcStr Global)) (es : List (Key × Value)) (k : Key) (v : Value) → KeepsAll before after
    → AreKnown before es → is_among after (text_of k.name) ≡ true → AreKnown after (es ++ (k, v) ∷ [])
known_on before after [] k v keeps known new = (new, tt)
known_on before after (e ∷ es) k v keeps known new = (keeps (text_of e.0.name) known.0, known_on before after es k v keeps known.1 new)

new_behind : (t : Text) (es : List (Key × Value)) (k : Key) (v : Value) → IsNew t (members_view es) → (t ≡ text_of k.name → ⊥) → IsNew t (members_view (es ++ (k, v) ∷ []))
new_behind t [] k v new other = (other, tt)
new_behind t (e ∷ es) k v new other = (new.0, new_behind t es k v new.1 other)

pub differ_on : (keys : BTreeSet (RcStr Global)) (es : List (Key × Value)) (k : Key) (v : Value) → KeysDiffer (members_view es) → AreKnown keys es
    → is_among keys (text_of k.name) ≡ false → KeysDiffer (members_view (es ++ (k, v) ∷ []))
differ_on keys [] k v differ known new = (tt, tt)
differ_on keys (e ∷ es) k v differ known new =
    let other : text_of e.0.name ≡ text_of k.name → ⊥ = λ same. true≢false (sym known.0 ∙ ap (is_among keys) same ∙ new) in
    (new_behind (text_of e.0.name) es k v differ.0 other, differ_on keys es k v differ.1 known.1 new)
