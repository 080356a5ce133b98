-- Ids among the keys of a map, and with one more key.
use Rattle.std.proofs.Common.{Global, ◌≡◌, ◌∙◌, ℕ, Bool, true, false, true≢false, ◌||◌, List, [], ◌∷◌, map, Option, Some, None, is_some, option_map, cond, refl, sym, ap}
use Rattle.std.specs.BTreeMap.{insert_entry, is_at}
use Rattle.std.specs.Cmp.Lexicographic.{texts_ties}
use Rattle.std.specs.declared.cmp.Ordering.{Ordering}
use Rattle.std.specs.declared.cmp.Ordering.TheVariants.{Less, Equal, Greater}
use Rattle.std.specs.declared.rc.RcStr.{RcStr}
use Rattle.std.specs.List.{list_any}
use Rattle.std.specs.Map.{keys_of, lookup}
use Rattle.std.specs.Ordering.{is_eq, match_ordering}
use Rattle.std.proofs.lemmas.Slice.Eq.{bytes_eq-Decides}
use Rattle.cedar_types.specs.Names.{Text, text_of, text_eq, text_cmp}
use Rattle.cedar_verdicts.specs.CallIds.{first_of}
use Rattle.cedar_verdicts.proofs.Members.{with_key}

abbrev pub key_cmp : RcStr Global → RcStr Global → Ordering
key_cmp a b = text_cmp (text_of a) (text_of b)

same_texts : (a b : RcStr Global) → key_cmp a b ≡ Equal → text_of a ≡ text_of b
same_texts a b e =
    (bytes_eq-Decides (text_of a) (text_of b)).0 (texts_ties (text_of a) (text_of b) ∙ ap is_eq e)

-- ---- a key that is there

or_found : {X : Type 0} (b : Bool) (x : X) (r : Option X) → is_some (cond b (Some x) r) ≡ (b || is_some r)
or_found true x r = refl
or_found false x r = refl

pub found : (a : RcStr Global) (es : List (RcStr Global × ℕ))
    → is_some (lookup (is_at (key_cmp a)) es) ≡ list_any (text_eq (text_of a)) (map text_of (keys_of es))
found a [] = refl
found a (e ∷ es) =
    or_found (is_at (key_cmp a) e.0) e.1 (lookup (is_at (key_cmp a)) es)
    ∙ (λ i. (sym (texts_ties (text_of a) (text_of e.0))) i || found a es i)

-- ---- one more key

pub one_more_key : (k : RcStr Global) (v : ℕ) (t : Text) (es : List (RcStr Global × ℕ))
    → list_any (text_eq t) (map text_of (keys_of (insert_entry key_cmp es k v)))
    ≡ (text_eq t (text_of k) || list_any (text_eq t) (map text_of (keys_of es)))
one_more_key k v t es = with_key key_cmp text_of same_texts (text_eq t) k v es

-- a key that is there already adds none
known_any : (t : Text) (ts : List Text) → list_any (text_eq t) ts ≡ true → (u : Text) → text_eq u t ≡ true → list_any (text_eq u) ts ≡ true
known_any t ts h u e = ap (λ v. list_any (text_eq v) ts) ((bytes_eq-Decides u t).0 e) ∙ h

nothing_more : (a r : Bool) → (a ≡ true → r ≡ true) → r ≡ (a || r)
nothing_more true r h = h refl
nothing_more false r h = refl

pub no_more : (t : Text) (ts : List Text) → list_any (text_eq t) ts ≡ true → (u : Text)
    → list_any (text_eq u) ts ≡ (text_eq u t || list_any (text_eq u) ts)
no_more t ts h u = nothing_more (text_eq u t) (list_any (text_eq u) ts) (known_any t ts h u)

-- ---- the value of a text

module _ {V : Type 0} where
  abbrev pub value_of : Text → List (RcStr Global × V) → Option V
  value_of t es = lookup (λ k. text_eq t (text_of k)) es

  pub by_text : (a : RcStr Global) (es : List (RcStr Global × V))
      → lookup (is_at (key_cmp a)) es ≡ value_of (text_of a) es
  by_text a es i = lookup (λ k. sym (texts_ties (text_of a) (text_of k)) i) es

  hidden : (b : Bool) (x y : V) (r : Option V) → cond b (Some x) r ≡ cond b (Some x) (cond b (Some y) r)
  hidden true x y r = refl
  hidden false x y r = refl

  either_first : (a b : Bool) (x y : V) (r : Option V) → (a ≡ true → b ≡ true → ⊥)
      → cond a (Some x) (cond b (Some y) r) ≡ cond b (Some y) (cond a (Some x) r)
  either_first true true x y r h = absurd (h refl refl)
  either_first true false x y r h = refl
  either_first false b x y r h = refl

  -- a key and its value are put into a map
  pub with_value : (k : RcStr Global) (v : V) (t : Text) (es : List (RcStr Global × V))
      → value_of t (insert_entry key_cmp es k v) ≡ cond (text_eq t (text_of k)) (Some v) (value_of t es)
  with_value k v t [] = refl
  with_value k v t (e ∷ es) = along (key_cmp k e.0) refl (with_value k v t es)
    where
      apart : Greater ≡ key_cmp k e.0 → text_eq t (text_of e.0) ≡ true → text_eq t (text_of k) ≡ true → ⊥
      apart is a b =
          true≢false
          (sym ((bytes_eq-Decides (text_of k) (text_of e.0)).1
          (sym ((bytes_eq-Decides t (text_of k)).0 b) ∙ (bytes_eq-Decides t (text_of e.0)).0 a))
          ∙ (texts_ties (text_of k) (text_of e.0) ∙ ap is_eq (sym is)))

      along : (o : Ordering) → o ≡ key_cmp k e.0
          → value_of t (insert_entry key_cmp es k v) ≡ cond (text_eq t (text_of k)) (Some v) (value_of t es)
          → value_of t (match_ordering o ((k, v) ∷ e ∷ es) ((e.0, v) ∷ es) (e ∷ insert_entry key_cmp es k v))
          ≡ cond (text_eq t (text_of k)) (Some v) (cond (text_eq t (text_of e.0)) (Some e.1) (value_of t es))
      along Less is i = refl
      along Equal is i =
          hidden (text_eq t (text_of e.0)) v e.1 (value_of t es)
          ∙ ap (λ u. cond (text_eq t u) (Some v) (cond (text_eq t (text_of e.0)) (Some e.1) (value_of t es)))
          (sym (same_texts k e.0 (sym is)))
      along Greater is i =
          ap (cond (text_eq t (text_of e.0)) (Some e.1)) i
          ∙ either_first (text_eq t (text_of e.0)) (text_eq t (text_of k)) e.1 v (value_of t es) (apart is)

-- ---- the first file that has an id

-- an id that has a file keeps it
pub kept_file : (number : ℕ) (of : Text → Option ℕ) (id : Text) (first : ℕ) → of id ≡ Some first → (t : Text)
    → of t ≡ first_of number (text_eq t id) (of t)
kept_file number of id first is t = by_test (text_eq t id) refl
  where
    known : (f : Option ℕ) → f ≡ Some first → f ≡ first_of number true f
    known None e = cc
    known (Some n) e = refl

    by_test : (b : Bool) → b ≡ text_eq t id → of t ≡ first_of number b (of t)
    by_test true e = known (of t) (ap of ((bytes_eq-Decides t id).0 (sym e)) ∙ is)
    by_test false e = refl

-- an id that has none gets the file of the number
pub new_file : {V : Type 0} (number_in : V → ℕ) (number : ℕ) (old : Text → Option V) (id : Text) (v : V)
    → old id ≡ None → number_in v ≡ number → (t : Text)
    → option_map number_in (cond (text_eq t id) (Some v) (old t)) ≡ first_of number (text_eq t id) (option_map number_in (old t))
new_file {V} number_in number old id v none is t = by_test (text_eq t id) refl
  where
    unknown : (f : Option V) → f ≡ None → Some (number_in v) ≡ first_of number true (option_map number_in f)
    unknown None e = ap Some is
    unknown (Some w) e = cc

    by_test : (b : Bool) → b ≡ text_eq t id
        → option_map number_in (cond b (Some v) (old t)) ≡ first_of number b (option_map number_in (old t))
    by_test true e = unknown (old t) (ap old ((bytes_eq-Decides t id).0 (sym e)) ∙ none)
    by_test false e = refl
