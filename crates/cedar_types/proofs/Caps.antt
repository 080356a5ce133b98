-- Members of a set of capabilities, under the order of capabilities and the set's steps.
use Rattle.std.proofs.Common.{◌≡◌, Bool, true, ◌||◌, List, [], ◌∷◌, Result, Ok, Err, IfOk, OnOk, OnErr, refl, sym, ap, ◌∙◌, true≢false}
use Rattle.std.specs.List.{list_any}
use Rattle.std.specs.BTreeSet.{insert_key}
use Rattle.std.specs.Ordering.{is_eq, match_ordering}
use Rattle.std.specs.declared.cmp.Ordering.{Ordering}
use Rattle.std.specs.declared.cmp.Ordering.TheVariants.{Less, Equal, Greater}
use Rattle.cedar_types.specs.Capability.Entries.{IsPoint, HasOneMore}
use Rattle.std.specs.declared.alloc.AllocError.{AllocError}
use Rattle.cedar_types.specs.declared.types.capability.digested.Capability.{Capability}
use Rattle.cedar_types.specs.contracts.types.capability.digested.CapabilityOrd.TheImpl.Laws as ord_laws
use Rattle.cedar_types.specs.Capability.{Cap, cap_eq, cap_of, among, capability_eq, capability_cmp}
use Rattle.cedar_types.proofs.Digests.{one_cap, cap_same, by_digest}
use Rattle.cedar_types.proofs.Entries.Basics.{or_false, or_turned, or_regroup, there}

abbrev pub cmp : Capability → Capability → Ordering
cmp = capability_cmp

-- Two capabilities are equal if the test of equality says so
pub cap_to : (c d : Cap) → cap_eq c d ≡ true → c ≡ d
cap_to = one_cap

-- The derived `==` and the order compare the plain views of capabilities
pub cap_is : (c d : Capability) → capability_eq c d ≡ cap_eq (cap_of c) (cap_of d)
cap_is = by_digest

pub at_is : (c d : Capability) → is_eq (cmp c d) ≡ cap_eq (cap_of c) (cap_of d)
at_is c d = sym (ord_laws.matches_eq-law c d) ∙ cap_is c d

-- A look-up finds a capability exactly if its plain view is among those of the keys
pub found_is : (c : Capability) (ks : List Capability) → list_any (λ k. is_eq (cmp c k)) ks ≡ among ks (cap_of c)
found_is c [] = refl
found_is c (k ∷ ks) = λ i. at_is c k i || found_is c ks i

equal_where : (r : Ordering) → is_eq r ≡ true → r ≡ Equal
equal_where Less h = absurd (true≢false (sym h))
equal_where Equal h = refl
equal_where Greater h = absurd (true≢false (sym h))

-- The test for q selects one capability
pub point : (q : Cap) → IsPoint cmp (λ c. cap_eq q (cap_of c))
point q = record {
  alike = λ x y e. ap (cap_eq q) (cap_to (cap_of x) (cap_of y) (sym (at_is x y) ∙ ap is_eq e));
  alone =
      λ x y h k. equal_where (cmp x y)
      (at_is x y ∙ cap_same (cap_of x) (cap_of y) (sym (cap_to q (cap_of x) h) ∙ cap_to q (cap_of y) k));
}

-- A copy ties with its original
pub copy_is : (r : Result Capability AllocError) (c : Capability) → IfOk r (λ d. cap_of d ≡ cap_of c) → IfOk r (λ d. cmp d c ≡ Equal)
copy_is (Ok d) c h = equal_where (cmp d c) (at_is d c ∙ cap_same (cap_of d) (cap_of c) h)
copy_is (Err e) c h = h

pub adds_is : (r : Result (Unit {0}) AllocError) (c : Capability) (ks ns : List Capability)
    → OnOk r (HasOneMore cmp ks c ns) → OnOk r ((q : Cap) → among ns q ≡ (among ks q || cap_eq q (cap_of c)))
adds_is (Ok u) c ks ns h = λ q. h (λ k. cap_eq q (cap_of k)) (point q)
adds_is (Err e) c ks ns h = h

-- A step that keeps the entries on failure keeps the members on failure
pub keeps_is : (r : Result (Unit {0}) AllocError) (ks ns : List Capability) → OnErr r (ns ≡ ks)
    → OnErr r ((q : Cap) → among ns q ≡ among ks q)
keeps_is (Ok u) ks ns h = h
keeps_is (Err e) ks ns h = λ q. ap (λ xs. among xs q) h

-- An ordered list with a capability put in has its old members and that capability
pub put_in : (p : Capability → Bool) → IsPoint cmp p → (ks : List Capability) (k : Capability)
    → list_any p (insert_key cmp ks k) ≡ (list_any p ks || p k)
put_in p h [] k = or_false (p k)
put_in p h (x ∷ xs) k = along (cmp k x) (h.alike k x) (put_in p h xs k)
  where
    along : (o : Ordering) → (o ≡ Equal → p k ≡ p x)
        → list_any p (insert_key cmp xs k) ≡ (list_any p xs || p k)
        → list_any p (match_ordering o (k ∷ x ∷ xs) (x ∷ xs) (x ∷ insert_key cmp xs k)) ≡ ((p x || list_any p xs) || p k)
    along Less e rest = or_turned (p k) (p x || list_any p xs)
    along Equal e rest = there (p k) (p x || list_any p xs) (λ t. ap (λ b. b || list_any p xs) (sym (e refl) ∙ t))
    along Greater e rest = ap (λ b. p x || b) rest ∙ or_regroup (p x) (list_any p xs) (p k)
