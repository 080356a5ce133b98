-- Mistakes that causes make, and the tests that they pass.
use Rattle.std.proofs.Common.{◌≡◌, ◌∙◌, ◌&&◌, ◌||◌, Bool, true, false, List, [], ◌∷◌, ◌++◌, append-nil, append_assoc, ℕ, length, min, arith, refl, sym, ap}
use Rattle.std.specs.List.{flat_map, list_all, list_any}
use Rattle.std.proofs.lemmas.Grind.{flat_map-append}
use Rattle.std.proofs.lemmas.List.Folds.{list_all-append, list_any-append}
use Rattle.cedar_types.specs.Lemmas.Comparisons.{and_left}
use Rattle.cedar_verdicts.specs.declared.causes.Cause.{Cause}
use Rattle.cedar_verdicts.specs.declared.causes.Cause.TheVariants as Cause
use Rattle.cedar_verdicts.specs.declared.causes.Found.{Found}
use Rattle.cedar_verdicts.specs.declared.wording.Mistake.{Mistake}
use Rattle.cedar_verdicts.specs.Mistakes.{causes_in, is_error, is_of_error, is_one_mistake, is_of_impossible, is_that_impossible, may_be_of_impossible, may_say_impossible, says_impossible}
use Rattle.cedar_verdicts.proofs.Members.{or_true}

and_right : (a b : Bool) → (a && b) ≡ true → b ≡ true
and_right true b h = h
and_right false true h = refl
and_right false false h = h

-- ---- one cause more

-- the last mistake gains a cause
pub grown : (ms : List Mistake) (m n : Mistake) (c : Found) (causes : List Found) → n.first ≡ m.first
    → n.others.items ≡ m.others.items ++ c ∷ [] → flat_map causes_in ms ++ causes_in m ≡ causes
    → flat_map causes_in ms ++ causes_in n ≡ causes ++ c ∷ []
grown ms m n c causes first others so_far =
    (λ i. flat_map causes_in ms ++ (first i ∷ others i))
    ∙ sym (append_assoc (flat_map causes_in ms) (causes_in m) (c ∷ []))
    ∙ ap (λ cs. cs ++ c ∷ []) so_far

-- a mistake is behind the others
pub closed : (ms all : List Mistake) (m : Mistake) (causes : List Found) → all ≡ ms ++ m ∷ []
    → flat_map causes_in ms ++ causes_in m ≡ causes → flat_map causes_in all ≡ causes
closed ms all m causes pushed so_far =
    ap (flat_map causes_in) pushed ∙ flat_map-append causes_in ms (m ∷ [])
    ∙ ap (λ cs. flat_map causes_in ms ++ cs) (append-nil (causes_in m)) ∙ so_far

-- the next mistake has one cause
pub begun : (ms all : List Mistake) (m n : Mistake) (c : Found) (causes : List Found) → all ≡ ms ++ m ∷ []
    → n.first ≡ c → n.others.items ≡ [] → flat_map causes_in ms ++ causes_in m ≡ causes
    → flat_map causes_in all ++ causes_in n ≡ causes ++ c ∷ []
begun ms all m n c causes pushed first none so_far =
    (λ i. closed ms all m causes pushed so_far i ++ (first i ∷ none i))

-- a further member passes a test that all pass
pub one_more : {A : Type 0} (p : A → Bool) (xs all : List A) (x : A) → all ≡ xs ++ x ∷ [] → list_all p xs ≡ true
    → p x ≡ true → list_all p all ≡ true
one_more p xs all x pushed h k =
    ap (list_all p) pushed ∙ list_all-append p xs (x ∷ []) ∙ (λ i. h i && (k i && true))

-- ---- causes that say that the policy is impossible

no_error_says : (c : Cause) → is_of_error c ≡ true → is_that_impossible c ≡ false
no_error_says (Cause.Error e s) h = refl
no_error_says (Cause.NoAction w) h = refl
no_error_says (Cause.Impossible w p) h = sym h
no_error_says (Cause.Direction t) h = refl
no_error_says (Cause.LookAlike t) h = refl
no_error_says (Cause.Unexplained t) h = refl
no_error_says (Cause.SameId p) h = refl

none_says : (cs : List Found) → list_all is_error cs ≡ true → list_any says_impossible cs ≡ false
none_says [] h = refl
none_says (c ∷ cs) h =
    (λ i. no_error_says c.cause (and_left _ _ h) i || none_says cs (and_right _ _ h) i)

-- a cause that says so is the first one of its mistake
pub said_first : (ms : List Mistake) → list_all is_one_mistake ms ≡ true
    → list_any says_impossible (flat_map causes_in ms) ≡ list_any is_of_impossible ms
said_first [] h = refl
said_first (m ∷ ms) h =
    ap (λ b. says_impossible m.first || b)
    (list_any-append says_impossible m.others.items (flat_map causes_in ms)
    ∙ (λ i. none_says m.others.items (and_left _ _ h) i || said_first ms (and_right _ _ h) i))

none_left_out : (a b r s : Bool) → (r ≡ true → s ≡ true) → (a || r) ≡ true → (a || (b || s)) ≡ true
none_left_out true b r s f h = refl
none_left_out false b r s f h = ap (λ c. b || c) (f h) ∙ or_true b

-- the first cause of a mistake is one of the causes
pub first_is_one : (ms : List Mistake) → list_any may_be_of_impossible ms ≡ true
    → list_any may_say_impossible (flat_map causes_in ms) ≡ true
first_is_one [] h = h
first_is_one (m ∷ ms) h =
    ap (λ b. may_say_impossible m.first || b)
    (list_any-append may_say_impossible m.others.items (flat_map causes_in ms))
    ∙ none_left_out (may_say_impossible m.first) (list_any may_say_impossible m.others.items)
    (list_any may_be_of_impossible ms) (list_any may_say_impossible (flat_map causes_in ms)) (first_is_one ms) h

pub no_mistakes : (ms : List Mistake) → length (flat_map causes_in ms) ≡ 0 → length ms ≡ 0
no_mistakes [] h = refl
no_mistakes (m ∷ ms) h = absurd (omega arith)

pub none_listed : (most many listed sorted : ℕ) → many ≡ 0 → listed ≡ min most many → sorted ≡ listed → sorted ≡ 0
none_listed most many listed sorted none is same = omega arith
