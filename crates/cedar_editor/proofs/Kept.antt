-- Policies that are kept when a document changes.
use Rattle.std.proofs.Common.{◌≡◌, ◌∙◌, ℕ, ◌+◌, ◌-◌, ◌<◌, ◌≤◌, List, [], ◌∷◌, ◌++◌, All, length, get_or, take, drop, map, sym, ap, subst, arith, append_assoc}
use Rattle.std.proofs.lemmas.List.{drop-drop, get_or-map, map_more, map-append, length-map, take-take}
use Rattle.std.proofs.lemmas.List.Elements.{All-append, All-drop, All-map, All-same, All-take}
use Rattle.cedar_editor.specs.declared.checks.CheckedPolicy.{CheckedPolicy}
use Rattle.cedar_editor.specs.declared.documents.PlacedPolicy.{PlacedPolicy}
use Rattle.cedar_editor.specs.Documents.{placed_policy}

-- one more of the kept policies is added
pub one_kept : (f : PlacedPolicy → ℕ × CheckedPolicy) (kept was now : List PlacedPolicy) (before : List (ℕ × CheckedPolicy)) (i : ℕ)
    (item x : PlacedPolicy) → i < length kept → item ≡ get_or kept i item → now ≡ was ++ x ∷ [] → placed_policy x ≡ f item
    → map placed_policy was ≡ before ++ map f (take i kept) → map placed_policy now ≡ before ++ map f (take (i + 1) kept)
one_kept f kept was now before i item x below is more same inv =
    ap (map placed_policy) more
    ∙ (map-append placed_policy was (x ∷ [])
    ∙ (ap (λ (ps : List (ℕ × CheckedPolicy)). ps ++ placed_policy x ∷ []) inv
    ∙ (append_assoc before (map f (take i kept)) (placed_policy x ∷ [])
    ∙ (ap (λ (p : ℕ × CheckedPolicy). before ++ (map f (take i kept) ++ p ∷ [])) same
    ∙ ap (λ (ps : List (ℕ × CheckedPolicy)). before ++ ps)
    (sym (map_more f kept i item below ∙ ap (λ (p : PlacedPolicy). map f (take i kept) ++ f p ∷ []) (sym is)))))))

-- each policy has a property of its place and itself if each has it in the list of policies with their places
seen : (P : ℕ × CheckedPolicy → Type 0) (ps : List PlacedPolicy) → All P (map placed_policy ps) → All (λ (p : PlacedPolicy). P (placed_policy p)) ps
seen P ps all k d below =
    subst P (get_or-map placed_policy ps k d (placed_policy d) below)
    (all k (placed_policy d) (subst (λ (n : ℕ). k < n) (sym (length-map ps placed_policy)) below))

-- all policies have a property if those that were there and those that are kept have it
pub kept_all : (P : ℕ × CheckedPolicy → Type 0) (f : PlacedPolicy → ℕ × CheckedPolicy) (kept was now : List PlacedPolicy)
    → map placed_policy now ≡ map placed_policy was ++ map f kept → All (λ (p : PlacedPolicy). P (placed_policy p)) was
    → All (λ (p : PlacedPolicy). P (f p)) kept → All (λ (p : PlacedPolicy). P (placed_policy p)) now
kept_all P f kept was now e before all =
    seen P now
    (All-same P (map placed_policy now) (map placed_policy was ++ map f kept) e
    (All-append P (map placed_policy was) (map f kept) (All-map P placed_policy was before) (All-map P f kept all)))

-- fewer policies before a number have a property that all before it have
pub fewer_before : (P : PlacedPolicy → Type 0) (ps : List PlacedPolicy) (m n : ℕ) → m ≤ n → All P (take n ps) → All P (take m ps)
fewer_before P ps m n fewer all = All-same P (take m ps) (take m (take n ps)) (sym (take-take m n ps fewer)) (All-take P m (take n ps) all)

-- fewer policies from a number on have a property that all from it on have
pub fewer_behind : (P : PlacedPolicy → Type 0) (ps : List PlacedPolicy) (m n : ℕ) → m ≤ n → All P (drop m ps) → All P (drop n ps)
fewer_behind P ps m n fewer all =
    let on : m + (n - m) ≡ n = omega arith in
    All-same P (drop n ps) (drop (n - m) (drop m ps)) (sym (drop-drop (n - m) m ps ∙ ap (λ (k : ℕ). drop k ps) on))
    (All-drop P (n - m) (drop m ps) all)
