-- Ids of policies among the keys of a map.
use Rattle.std.proofs.Common.{Global, append_assoc, ◌≡◌, ◌∙◌, ℕ, ◌+◌, ◌<◌, zero, suc, Bool, true, false, ◌||◌, cond, Option, Some, is_some, List, [], ◌∷◌, ◌++◌, length, map, take, drop, get_or, refl, sym, ap, arith}
use Rattle.std.specs.List.{flat_map, list_any, range_with_len}
use Rattle.std.specs.Map.{update}
use Rattle.std.specs.declared.rc.RcStr.{RcStr}
use Rattle.std.proofs.lemmas.Cmp.{nat_list_eq_equiv}
use Rattle.std.proofs.lemmas.List.{append-nil, drop_more, get_or-map, length-map, map-append, map-id}
use Rattle.std.proofs.lemmas.List.Concat.{flat_map-append}
use Rattle.std.proofs.lemmas.List.Folds.{list_any_more}
use Rattle.std.proofs.lemmas.List.FromFn.{map-range_with_len_more}
use Rattle.std.proofs.lemmas.Slice.Eq.{bytes_eq-Decides}
use Rattle.cedar_types.specs.Names.{Text, text_eq, text_of}
use Rattle.cedar_editor.specs.Diagnostics.{marks_if_repeated, marks_of, same_id_marks, Marks}
use Rattle.cedar_editor.specs.Ids.{has_earlier_id, id_of, ids_from}
use Rattle.cedar_editor.specs.declared.diagnostics.Diagnostic.{Diagnostic}
use Rattle.cedar_editor.specs.declared.documents.PlacedPolicy.{PlacedPolicy}

-- two shared texts are alike
abbrev pub same_text : RcStr Global → RcStr Global → Bool
same_text a b = text_eq (text_of a) (text_of b)

pub length_ids : (ps : List PlacedPolicy) (n : ℕ) → length (ids_from n ps) ≡ length ps
length_ids [] n = refl
length_ids (p ∷ ps) n = ap suc (length_ids ps (n + 1))

id_at : (ps : List PlacedPolicy) (n m i : ℕ) (d : PlacedPolicy) → n + i ≡ m → i < length ps
    → get_or (ids_from n ps) i [] ≡ id_of m (get_or ps i d).policy.value
id_at [] n m i d is below = absurd (omega arith)
id_at (p ∷ ps) n m zero d is below =
    let same : n ≡ m = omega (arith, is) in
    ap (λ (k : ℕ). id_of k p.policy.value) same
id_at (p ∷ ps) n m (suc i) d is below = id_at ps (n + 1) m i d (omega (arith, is)) (omega arith)

or_swapped : (a b : Bool) → (a || b) ≡ (b || a)
or_swapped true true = refl
or_swapped true false = refl
or_swapped false true = refl
or_swapped false false = refl

some_if : {X : Type 0} (b : Bool) (x : X) (r : Option X) → is_some (cond b (Some x) r) ≡ (b || is_some r)
some_if true x r = refl
some_if false x r = refl

-- the id of the policy with a number
pub id_here : (ps : List PlacedPolicy) (i : ℕ) (p : PlacedPolicy) → i < length ps → p ≡ get_or ps i p
    → id_of i p.policy.value ≡ get_or (ids_from 0 ps) i []
id_here ps i p below at =
    ap (λ (q : PlacedPolicy). id_of i q.policy.value) at ∙ sym (id_at ps 0 i i p (omega arith) below)

-- the policy with a number, and its id
pub record IsIdAt (ps : List PlacedPolicy) (i : ℕ) (p : PlacedPolicy) (id : RcStr Global) : Type 0 where
  pub below : i < length ps
  pub at : p ≡ get_or ps i p
  pub is : text_of id ≡ id_of i p.policy.value

own_id : (ps : List PlacedPolicy) (i : ℕ) (p : PlacedPolicy) (id : RcStr Global) → IsIdAt ps i p id
    → text_of id ≡ get_or (ids_from 0 ps) i []
own_id ps i p id own = own.is ∙ id_here ps i p own.below own.at

-- one more policy's id is known
pub one_more_known : {X : Type 0} (ps : List PlacedPolicy) (i : ℕ) (p : PlacedPolicy) (id : RcStr Global) (place : X)
    (old : RcStr Global → Option X) → IsIdAt ps i p id
    → ((q : RcStr Global) → is_some (old q) ≡ list_any (text_eq (text_of q)) (take i (ids_from 0 ps))) → (q : RcStr Global)
    → is_some (update same_text old id (Some place) q) ≡ list_any (text_eq (text_of q)) (take (i + 1) (ids_from 0 ps))
one_more_known ps i p id place old own known q =
    let within : i < length (ids_from 0 ps) = omega (arith, length_ids ps 0, own.below) in
    some_if (same_text id q) place (old q)
    ∙ (or_swapped (same_text id q) (is_some (old q))
    ∙ (ap (λ (b : Bool). is_some (old q) || b) (nat_list_eq_equiv.symm (text_of id) (text_of q))
    ∙ (ap (λ (t : Text). is_some (old q) || text_eq (text_of q) t) (own_id ps i p id own)
    ∙ (ap (λ (b : Bool). b || text_eq (text_of q) (get_or (ids_from 0 ps) i [])) (known q)
    ∙ sym (list_any_more (text_eq (text_of q)) (ids_from 0 ps) i [] within)))))

-- no more ids are known with a policy whose id is known
pub no_more_known : {X : Type 0} (ps : List PlacedPolicy) (i : ℕ) (p : PlacedPolicy) (id : RcStr Global)
    (old : RcStr Global → Option X) → IsIdAt ps i p id
    → ((q : RcStr Global) → is_some (old q) ≡ list_any (text_eq (text_of q)) (take i (ids_from 0 ps))) → is_some (old id) ≡ true
    → (q : RcStr Global) → is_some (old q) ≡ list_any (text_eq (text_of q)) (take (i + 1) (ids_from 0 ps))
no_more_known {X} ps i p id old own known there q =
    let within : i < length (ids_from 0 ps) = omega (arith, length_ids ps 0, own.below) in
    along (text_eq (text_of q) (text_of id)) refl
    ∙ (ap (λ (b : Bool). b || text_eq (text_of q) (text_of id)) (known q)
    ∙ (ap (λ (t : Text). list_any (text_eq (text_of q)) (take i (ids_from 0 ps)) || text_eq (text_of q) t) (own_id ps i p id own)
    ∙ sym (list_any_more (text_eq (text_of q)) (ids_from 0 ps) i [] within)))
  where
    along : (b : Bool) → text_eq (text_of q) (text_of id) ≡ b → is_some (old q) ≡ (is_some (old q) || b)
    along true same =
        let texts : text_of q ≡ text_of id = (bytes_eq-Decides (text_of q) (text_of id)).0 same in
        let is : is_some (old q) ≡ true =
        known q ∙ (ap (λ (t : Text). list_any (text_eq t) (take i (ids_from 0 ps))) texts ∙ (sym (known id) ∙ there)) in
        is ∙ sym (ap (λ (a : Bool). a || true) is)
    along false differ = or_swapped false (is_some (old q))

earlier : (ps : List PlacedPolicy) (i : ℕ) (p : PlacedPolicy) (id : RcStr Global) (known : Bool) → IsIdAt ps i p id
    → known ≡ list_any (text_eq (text_of id)) (take i (ids_from 0 ps)) → has_earlier_id ps i ≡ known
earlier ps i p id known own is =
    ap (λ (t : Text). list_any (text_eq t) (take i (ids_from 0 ps))) (sym (own_id ps i p id own)) ∙ sym is

range_more : (a i m : ℕ) → a + i ≡ m → range_with_len a (i + 1) ≡ range_with_len a i ++ m ∷ []
range_more a i m is =
    sym (map-id (range_with_len a (i + 1)))
    ∙ (map-range_with_len_more (λ (k : ℕ). k) a i m is ∙ ap (λ (ks : List ℕ). ks ++ m ∷ []) (map-id (range_with_len a i)))

-- the marks of one more policy are told if its id is known
pub told_more : (ps : List PlacedPolicy) (i : ℕ) (b : Bool) → has_earlier_id ps i ≡ b
    → flat_map (marks_if_repeated ps) (range_with_len 0 (i + 1))
    ≡ flat_map (marks_if_repeated ps) (range_with_len 0 i) ++ cond b (take 1 (drop i (map same_id_marks ps))) []
told_more ps i b is =
    ap (flat_map (marks_if_repeated ps)) (range_more 0 i i (omega arith))
    ∙ (flat_map-append (marks_if_repeated ps) (range_with_len 0 i) (i ∷ [])
    ∙ ap (λ (ms : List Marks). flat_map (marks_if_repeated ps) (range_with_len 0 i) ++ ms)
    (append-nil (marks_if_repeated ps i) ∙ ap (λ (a : Bool). cond a (take 1 (drop i (map same_id_marks ps))) []) is))

mark_at : (ps : List PlacedPolicy) (i : ℕ) (d : PlacedPolicy) → i < length ps
    → take 1 (drop i (map same_id_marks ps)) ≡ same_id_marks (get_or ps i d) ∷ []
mark_at ps i d below =
    ap (take 1) (drop_more (map same_id_marks ps) i (same_id_marks d) (omega (arith, length-map ps same_id_marks, below)))
    ∙ ap (λ (m : Marks). m ∷ []) (get_or-map same_id_marks ps i d (same_id_marks d) below)

-- a policy whose id is known is told
pub told_again : (ps : List PlacedPolicy) (i : ℕ) (p : PlacedPolicy) (id : RcStr Global) (known : Bool) (was now : List Diagnostic)
    (d : Diagnostic) (before : List Marks) → IsIdAt ps i p id → known ≡ list_any (text_eq (text_of id)) (take i (ids_from 0 ps))
    → known ≡ true → map marks_of was ≡ before ++ flat_map (marks_if_repeated ps) (range_with_len 0 i) → now ≡ was ++ d ∷ []
    → marks_of d ≡ same_id_marks p
    → map marks_of now ≡ before ++ flat_map (marks_if_repeated ps) (range_with_len 0 (i + 1))
told_again ps i p id known was now d before own is holds so_far more marks =
    let told : List Marks = flat_map (marks_if_repeated ps) (range_with_len 0 i) in
    ap (map marks_of) more
    ∙ (map-append marks_of was (d ∷ [])
    ∙ (ap (λ (ms : List Marks). ms ++ marks_of d ∷ []) so_far
    ∙ (append_assoc before told (marks_of d ∷ [])
    ∙ ap (λ (ms : List Marks). before ++ ms)
    (ap (λ (m : Marks). told ++ m ∷ []) (marks ∙ ap same_id_marks own.at)
    ∙ (ap (λ (ms : List Marks). told ++ ms) (sym (mark_at ps i p own.below))
    ∙ sym (told_more ps i true (earlier ps i p id known own is ∙ holds)))))))

-- nothing is told of a policy whose id is not known
pub told_still : (ps : List PlacedPolicy) (i : ℕ) (p : PlacedPolicy) (id : RcStr Global) (known : Bool) (was now : List Diagnostic)
    (before : List Marks) → IsIdAt ps i p id → known ≡ list_any (text_eq (text_of id)) (take i (ids_from 0 ps))
    → known ≡ false → map marks_of was ≡ before ++ flat_map (marks_if_repeated ps) (range_with_len 0 i) → now ≡ was
    → map marks_of now ≡ before ++ flat_map (marks_if_repeated ps) (range_with_len 0 (i + 1))
told_still ps i p id known was now before own is fails so_far same =
    let told : List Marks = flat_map (marks_if_repeated ps) (range_with_len 0 i) in
    ap (map marks_of) same
    ∙ (so_far
    ∙ ap (λ (ms : List Marks). before ++ ms)
    (sym (append-nil told) ∙ sym (told_more ps i false (earlier ps i p id known own is ∙ fails))))
