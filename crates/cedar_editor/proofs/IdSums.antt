-- Sums of ids, which differ only if the ids do.
use Rattle.std.proofs.Common.{◌≡◌, ◌∙◌, ℕ, ◌+◌, ◌<◌, ◌≤◌, zero, suc, Bool, true, false, not, ◌||◌, cond, nat_eq, List, [], ◌∷◌, length, map, take, get_or, refl, sym, ap, subst, arith, ⊎_elim}
use Rattle.std.specs.List.{flat_map, list_any, range_with_len}
use Rattle.std.proofs.lemmas.Bool.{cases_lt}
use Rattle.std.proofs.lemmas.Cmp.{nat_eq_equiv}
use Rattle.std.proofs.lemmas.List.{append-nil, get_or-map, length-map, take-map}
use Rattle.std.proofs.lemmas.List.Folds.{list_any_more}
use Rattle.std.proofs.lemmas.Slice.Eq.{bytes_eq-Decides}
use Rattle.cedar_types.specs.Names.{Text, text_eq}
use Rattle.cedar_editor.specs.Diagnostics.{marks_if_repeated}
use Rattle.cedar_editor.specs.Ids.{has_earlier_id, ids_from, sum_of}
use Rattle.cedar_editor.specs.declared.documents.PlacedPolicy.{PlacedPolicy}
use Rattle.cedar_editor.proofs.KnownIds.{length_ids, told_more}

differ_if : (t x : Text) (b : Bool) → text_eq t x ≡ b → nat_eq (sum_of t) (sum_of x) ≡ false → b ≡ false
differ_if t x true same apart =
    let is : t ≡ x = (bytes_eq-Decides t x).0 same in
    sym (subst (λ (y : Text). nat_eq (sum_of t) (sum_of y) ≡ true) is (nat_eq_equiv.refl (sum_of t))) ∙ apart
differ_if t x false differ apart = refl

front_false : (a b : Bool) → (a || b) ≡ false → a ≡ false
front_false true b fails = absurd (cc)
front_false false b fails = refl

back_false : (a b : Bool) → (a || b) ≡ false → b ≡ false
back_false true b fails = absurd (cc)
back_false false b fails = fails

-- no text of a list is alike if no sum is
no_text : (t : Text) (ts : List Text) → list_any (nat_eq (sum_of t)) (map sum_of ts) ≡ false → list_any (text_eq t) ts ≡ false
no_text t [] none = refl
no_text t (x ∷ ts) none =
    ap (λ (b : Bool). b || list_any (text_eq t) ts) (differ_if t x (text_eq t x) refl (front_false _ _ none))
    ∙ no_text t ts (back_false (nat_eq (sum_of t) (sum_of x)) _ none)

or_true : (a b : Bool) → cond a true b ≡ (b || a)
or_true true true = refl
or_true true false = refl
or_true false true = refl
or_true false false = refl

-- one more sum is known
pub one_more_sum : (ps : List PlacedPolicy) (i s : ℕ) (old : ℕ → Bool) → i < length ps → s ≡ sum_of (get_or (ids_from 0 ps) i [])
    → ((n : ℕ) → old n ≡ list_any (nat_eq n) (take i (map sum_of (ids_from 0 ps)))) → (n : ℕ)
    → cond (nat_eq s n) true (old n) ≡ list_any (nat_eq n) (take (i + 1) (map sum_of (ids_from 0 ps)))
one_more_sum ps i s old below is known n =
    let sums : List ℕ = map sum_of (ids_from 0 ps) in
    let within : i < length (ids_from 0 ps) = omega (arith, length_ids ps 0, below) in
    let inside : i < length sums = omega (arith, within, length-map (ids_from 0 ps) sum_of) in
    let own : s ≡ get_or sums i 0 = is ∙ sym (get_or-map sum_of (ids_from 0 ps) i [] 0 within) in
    or_true (nat_eq s n) (old n)
    ∙ (ap (λ (b : Bool). old n || b) (nat_eq_equiv.symm s n)
    ∙ (ap (λ (m : ℕ). old n || nat_eq n m) own
    ∙ (ap (λ (b : Bool). b || nat_eq n (get_or sums i 0)) (known n) ∙ sym (list_any_more (nat_eq n) sums i 0 inside))))

pub not_true : (a b : Bool) → a ≡ not b → a ≡ true → b ≡ false
not_true a true is holds = absurd (cc)
not_true a false is holds = refl

-- a policy has an id of its own if the sum of its id is not known
pub is_new : (ps : List PlacedPolicy) (i s : ℕ) (known : Bool) → i < length ps → s ≡ sum_of (get_or (ids_from 0 ps) i [])
    → known ≡ list_any (nat_eq s) (take i (map sum_of (ids_from 0 ps))) → known ≡ false → has_earlier_id ps i ≡ false
is_new ps i s known below is found none =
    no_text (get_or (ids_from 0 ps) i []) (take i (ids_from 0 ps))
    (ap (λ (n : ℕ). list_any (nat_eq n) (map sum_of (take i (ids_from 0 ps)))) (sym is)
    ∙ (ap (list_any (nat_eq s)) (sym (take-map sum_of i (ids_from 0 ps))) ∙ (sym found ∙ none)))

-- nothing is told of ids that differ
pub none_told : (ps : List PlacedPolicy) (n : ℕ) → ((k : ℕ) → k < n → has_earlier_id ps k ≡ false)
    → flat_map (marks_if_repeated ps) (range_with_len 0 n) ≡ []
none_told ps zero differ = refl
none_told ps (suc n) differ =
    let next : suc n ≡ n + 1 = omega arith in
    ap (λ (k : ℕ). flat_map (marks_if_repeated ps) (range_with_len 0 k)) next
    ∙ (told_more ps n false (differ n (omega arith))
    ∙ (append-nil (flat_map (marks_if_repeated ps) (range_with_len 0 n)) ∙ none_told ps n (λ k below. differ k (omega arith))))

-- ids differ so far and in one more
pub one_more_differs : (ps : List PlacedPolicy) (i : ℕ) → ((k : ℕ) → k < i → has_earlier_id ps k ≡ false)
    → has_earlier_id ps i ≡ false → (k : ℕ) → k < i + 1 → has_earlier_id ps k ≡ false
one_more_differs ps i before own k below =
    ⊎_elim (λ (less : k < i). before k less)
    (λ (not_less : i ≤ k). let is : i ≡ k = omega arith in subst (λ (n : ℕ). has_earlier_id ps n ≡ false) is own)
    (cases_lt k i)
