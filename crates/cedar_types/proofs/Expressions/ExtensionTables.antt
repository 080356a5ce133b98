-- Tables of extension functions: another order, and look-ups by name.
use Rattle.std.proofs.Common.{◌≡◌, refl, sym, ap, subst, ◌∙◌, ℕ, zero, suc, ◌<◌, arith, Bool, true, false, cond, ◌||◌, List, [], ◌∷◌}
use Rattle.std.proofs.Common.{length, get_or, Option, Some, None, true≢false}
use Rattle.std.specs.List.{list_any, AllByRecursion, IsDistinct, Contains}
use Rattle.std.specs.List.Sorted.{IsPermutation}
use Rattle.std.proofs.lemmas.List.Sorted.{Contains-permutation, IsPermutation-sym, list_any-IsPermutation}
use Rattle.std.proofs.lemmas.Map.Keys.{IsDistinct-head, IsDistinct-tail, IsDistinct-IsPermutation, apart_from_distinct}
use Rattle.cedar_types.specs.Names.{Path, path_eq}
use Rattle.cedar_types.specs.declared.base.expressions.extensions.ExtensionTableError.{ExtensionTableError}
use Rattle.cedar_types.specs.Extensions.Functions.{ExtensionFunction, function_named, has_two_alike, has_bad_return, lacks_arguments}
use Rattle.cedar_types.specs.Extensions.Functions.{table_fault}
use Rattle.cedar_types.proofs.Comparisons.SameTypes.{path_to, path_itself}
use Rattle.cedar_types.proofs.Tests.{or_left, or_right, alike}

pub neither : (a b : Bool) → a ≡ false → b ≡ false → (a || b) ≡ false
neither a b h k = ap (λ r. r || b) h ∙ k

fail_alike : (a b : Bool) → (a ≡ false → b ≡ false) → (b ≡ false → a ≡ false) → a ≡ b
fail_alike false b h k = sym (h refl)
fail_alike true false h k = k refl
fail_alike true true h k = refl

-- Two functions have one name
abbrev pub same : ExtensionFunction → ExtensionFunction → Bool
same f g = path_eq f.name g.name

path_turned : (p q : Path) → path_eq p q ≡ true → path_eq q p ≡ true
path_turned p q h = subst (λ r. path_eq r p ≡ true) (path_to p q h) (path_itself p)

same_flips : (f g : ExtensionFunction) → same f g ≡ same g f
same_flips f g = alike (same f g) (same g f) (path_turned f.name g.name) (path_turned g.name f.name)

none_same : (f : ExtensionFunction) (fs : List ExtensionFunction) → list_any (same f) fs ≡ false → AllByRecursion (λ g. same f g ≡ false) fs
none_same f [] h = tt
none_same f (g ∷ fs) h = (or_left (same f g) (list_any (same f) fs) h, none_same f fs (or_right (same f g) (list_any (same f) fs) h))

all_differ : (f : ExtensionFunction) (fs : List ExtensionFunction) → AllByRecursion (λ g. same f g ≡ false) fs
    → list_any (same f) fs ≡ false
all_differ f [] h = refl
all_differ f (g ∷ fs) h = neither (same f g) (list_any (same f) fs) h.0 (all_differ f fs h.1)

pub distinct : (fs : List ExtensionFunction) → has_two_alike fs ≡ false → IsDistinct same fs
unfolding IsDistinct
distinct [] h = tt
distinct (f ∷ fs) h = (
  none_same f fs (or_left (list_any (same f) fs) (has_two_alike fs) h),
  distinct fs (or_right (list_any (same f) fs) (has_two_alike fs) h),
)

pub no_two_alike : (fs : List ExtensionFunction) → IsDistinct same fs → has_two_alike fs ≡ false
no_two_alike [] h = refl
no_two_alike (f ∷ fs) h =
    neither (list_any (same f) fs) (has_two_alike fs) (all_differ f fs (IsDistinct-head same f fs h))
    (no_two_alike fs (IsDistinct-tail same f fs h))

-- ---- another order of a table's functions

module _ (xs ys : List ExtensionFunction) (moved : IsPermutation xs ys) where
  pub two_alike_moved : has_two_alike xs ≡ has_two_alike ys
  two_alike_moved = fail_alike _ _
      (λ h. no_two_alike ys (IsDistinct-IsPermutation same same_flips xs ys moved (distinct xs h)))
      (λ h. no_two_alike xs (IsDistinct-IsPermutation same same_flips ys xs (IsPermutation-sym xs ys moved) (distinct ys h)))

  pub fault_moved : table_fault xs ≡ table_fault ys
  fault_moved = λ i.
      cond (list_any-IsPermutation has_bad_return xs ys moved i) (Some ExtensionTableError.BadReturnType)
      (cond (list_any-IsPermutation lacks_arguments xs ys moved i) (Some ExtensionTableError.VariadicWithoutArguments)
      (cond (two_alike_moved i) (Some ExtensionTableError.DuplicateFunction) None))

-- ---- the function of a name

-- The function f is in the list, and has the name n
pub record Named (n : Path) (fs : List ExtensionFunction) (f : ExtensionFunction) : Type 0 where
  pub within : Contains fs f
  pub named : path_eq n f.name ≡ true

pub found_named : (n : Path) (fs : List ExtensionFunction) (f : ExtensionFunction) → function_named n fs ≡ Some f → Named n fs f
found_named n [] f h = cc
found_named n (g ∷ gs) f h = along (path_eq n g.name) refl (found_named n gs f) h
  where
    along : (b : Bool) → b ≡ path_eq n g.name → (function_named n gs ≡ Some f → Named n gs f)
        → cond b (Some g) (function_named n gs) ≡ Some f → Named n (g ∷ gs) f
    along true e rest h =
        let is : g ≡ f =
        cc in record { within = (0, omega arith, is); named = ap (λ k. path_eq n k.name) (sym is) ∙ sym e }
    along false e rest h = let r = rest h in record { within = (suc r.within.0, omega (arith, r.within.1), r.within.2); named = r.named }

-- No function has the name if a look-up finds none
pub none_named : (n : Path) (fs : List ExtensionFunction) → function_named n fs ≡ None → list_any (λ f. path_eq n f.name) fs ≡ false
none_named n [] h = refl
none_named n (g ∷ gs) h = along (path_eq n g.name) (none_named n gs) h
  where
    along : (b : Bool) → (function_named n gs ≡ None → list_any (λ f. path_eq n f.name) gs ≡ false)
        → cond b (Some g) (function_named n gs) ≡ None → (b || list_any (λ f. path_eq n f.name) gs) ≡ false
    along true rest h = cc
    along false rest h = rest h

pub unnamed : (n : Path) (fs : List ExtensionFunction) → list_any (λ f. path_eq n f.name) fs ≡ false → function_named n fs ≡ None
unnamed n [] h = refl
unnamed n (g ∷ gs) h = along (path_eq n g.name) (unnamed n gs) h
  where
    along : (b : Bool) → (list_any (λ f. path_eq n f.name) gs ≡ false → function_named n gs ≡ None)
        → (b || list_any (λ f. path_eq n f.name) gs) ≡ false → cond b (Some g) (function_named n gs) ≡ None
    along true rest h = absurd (true≢false h)
    along false rest h = rest h

-- A look-up finds the function of a name if no two functions have one name
pub named_alone : (n : Path) (fs : List ExtensionFunction) (f : ExtensionFunction) → IsDistinct same fs
    → Named n fs f → function_named n fs ≡ Some f
named_alone n [] f apart r = absurd (omega (arith, r.within.1))
named_alone n (g ∷ gs) f apart r = at r.within.0 r.within.1 r.within.2 (named_alone n gs f (IsDistinct-tail same g gs apart))
  where
    others : (b : Bool) → b ≡ path_eq n g.name → same g f ≡ false → function_named n gs ≡ Some f
        → cond b (Some g) (function_named n gs) ≡ Some f
    others true e d h = absurd (true≢false (sym (subst (λ p. path_eq p f.name ≡ true) (path_to n g.name (sym e)) r.named) ∙ d))
    others false e d h = h

    at : (k : ℕ) → k < length (g ∷ gs) → get_or (g ∷ gs) k f ≡ f → (Named n gs f → function_named n gs ≡ Some f)
        → function_named n (g ∷ gs) ≡ Some f
    at zero lt is rest = λ i. cond ((ap (λ h. path_eq n h.name) is ∙ r.named) i) (Some (is i)) (function_named n gs)
    at (suc k) lt is rest = others (path_eq n g.name) refl
        (ap (same g) (sym is) ∙ apart_from_distinct same (g ∷ gs) 0 (suc k) f apart (omega arith) lt)
        (rest (record { within = (k, omega (arith, lt), is); named = r.named }))

-- Look-ups do not depend on the order of functions if no two have one name
pub named_moved : (xs ys : List ExtensionFunction) → IsPermutation xs ys → has_two_alike ys ≡ false → (n : Path)
    → function_named n ys ≡ function_named n xs
named_moved xs ys moved apart n = along (function_named n xs) refl
  where
    along : (o : Option ExtensionFunction) → o ≡ function_named n xs → function_named n ys ≡ o
    along None e = unnamed n ys (sym (list_any-IsPermutation (λ f. path_eq n f.name) xs ys moved) ∙ none_named n xs (sym e))
    along (Some f) e =
        let r = found_named n xs f (sym e) in
        named_alone n ys f (distinct ys apart)
        (record { within = Contains-permutation xs ys f moved r.within; named = r.named })
