-- The query of a set, which is TRUE exactly if an authoriser allows.
use Rattle.std.proofs.Common.{◌≡◌, Bool, true, false, ◌&&◌, ◌||◌, not, List, [], ◌∷◌, ◌++◌, map, refl, sym, ap, subst, ◌∙◌, append_assoc}
use Rattle.std.proofs.lemmas.List.{append-nil}
use Rattle.std.specs.List.{list_any}
use Rattle.std.proofs.lemmas.List.Folds.{list_any-append}
use Rattle.cedar_where.specs.Sets.{IsTruthOrNull, AreTruthsOrNull, IsTruth, AreTruths, is_true, some_is_true}
use Rattle.cedar_where.specs.Sets.{JoinsTheSet, TellsAnyTrue, TestsEach, KeepsAny}
use Rattle.cedar_where.specs.Sql.{Cell, Null, Truth, Integer, Words, Undefined, Data, Sql, sql_truth, sql_not, sql_and, sql_or}
use Rattle.cedar_where.specs.Sql.{sql_is_true, value, and_cells, or_cells, not_cell, true_cell}
use Rattle.cedar_where.proofs.Parts.{ap_both}

true_is : (c : Cell) → IsTruthOrNull c → true_cell c ≡ Truth (is_true c)
true_is Null h = refl
true_is (Truth b) h = refl
true_is (Integer n) h = absurd h
true_is (Words t) h = absurd h
true_is Undefined h = absurd h

or_is : (a b : Bool) → or_cells (Truth a) (Truth b) ≡ Truth (a || b)
or_is true b = refl
or_is false b = refl

or_none : (a : Bool) → (a || false) ≡ a
or_none true = refl
or_none false = refl

or_first : (a b c : Bool) → ((a || b) || c) ≡ (a || (b || c))
or_first true b c = refl
or_first false b c = refl

and_is : (a b : Bool) → and_cells (Truth a) (not_cell (Truth b)) ≡ Truth (a && not b)
and_is true b = refl
and_is false b = refl

-- a cell that is known to be a truth value
own_truth : (c : Cell) (b : Bool) → c ≡ Truth b → IsTruth c
own_truth c b e = e ∙ ap Truth (sym (ap is_true e))

-- ---- tests, one list behind another

module _ (d : Data) where
  truths_both : (ts us : List Sql) → AreTruths d ts → AreTruths d us → AreTruths d (ts ++ us)
  truths_both [] us h k = k
  truths_both (t ∷ ts) us h k = (h.0, truths_both ts us h.1 k)

  truths_first : (ts us : List Sql) → AreTruths d (ts ++ us) → AreTruths d ts
  truths_first [] us h = tt
  truths_first (t ∷ ts) us h = (h.0, truths_first ts us h.1)

  truths_second : (ts us : List Sql) → AreTruths d (ts ++ us) → AreTruths d us
  truths_second [] us h = h
  truths_second (t ∷ ts) us h = truths_second ts us h.1

  some_both : (ts us : List Sql) → some_is_true d (ts ++ us) ≡ (some_is_true d ts || some_is_true d us)
  some_both ts us = list_any-append (λ c. is_true (value d c)) ts us

-- ---- tests that stand for others

pub keeps_none : KeepsAny [] []
keeps_none d h = (tt, refl)

pub keeps_on : (ts us vs : List Sql) → KeepsAny ts us → KeepsAny us vs → KeepsAny ts vs
keeps_on ts us vs h k d t =
    let a = h d t in
    let b = k d a.0 in
    (b.0, b.1 ∙ a.1)

-- one test more behind both
keeps_more : (ts us : List Sql) (t : Sql) → KeepsAny ts us → KeepsAny (ts ++ t ∷ []) (us ++ t ∷ [])
keeps_more ts us t h d k =
    let a = h d (truths_first d ts (t ∷ []) k) in (
      truths_both d us (t ∷ []) a.0 (truths_second d ts (t ∷ []) k),
      some_both d us (t ∷ [])
          ∙ ap (λ b. b || some_is_true d (t ∷ [])) a.1
          ∙ sym (some_both d ts (t ∷ [])),
    )

-- the last two tests as one
keeps_pair : (us : List Sql) (a b : Sql) → KeepsAny (us ++ a ∷ b ∷ []) (us ++ sql_or a b ∷ [])
keeps_pair us a b d k =
    let last = truths_second d us (a ∷ b ∷ []) k in
    let x = is_true (value d a) in
    let y = is_true (value d b) in
    let is : value d (sql_or a b) ≡ Truth (x || y) = ap_both or_cells last.0 last.1.0 ∙ or_is x y in (
      truths_both d us (sql_or a b ∷ []) (truths_first d us (a ∷ b ∷ []) k) (own_truth (value d (sql_or a b)) (x || y) is, tt),
      some_both d us (sql_or a b ∷ [])
          ∙ ap (λ z. some_is_true d us || (z || false)) (ap is_true is)
          ∙ ap (λ z. some_is_true d us || z) (or_first x y false)
          ∙ sym (some_both d us (a ∷ b ∷ [])),
    )

-- a test is held until the next one comes
pub keeps_held : (ts us : List Sql) (t : Sql) → KeepsAny ts (us ++ []) → KeepsAny (ts ++ t ∷ []) (us ++ t ∷ [])
keeps_held ts us t h =
    subst (λ vs. KeepsAny (ts ++ t ∷ []) vs) (append_assoc us [] (t ∷ [])) (keeps_more ts (us ++ []) t h)

pub keeps_joined : (ts us : List Sql) (a t : Sql) → KeepsAny ts (us ++ a ∷ [])
    → KeepsAny (ts ++ t ∷ []) ((us ++ sql_or a t ∷ []) ++ [])
keeps_joined ts us a t h =
    let more : KeepsAny (ts ++ t ∷ []) (us ++ a ∷ t ∷ []) =
    subst (λ vs. KeepsAny (ts ++ t ∷ []) vs) (append_assoc us (a ∷ []) (t ∷ [])) (keeps_more ts (us ++ a ∷ []) t h) in
    subst (λ vs. KeepsAny (ts ++ t ∷ []) vs) (sym (append-nil (us ++ sql_or a t ∷ [])))
    (keeps_on (ts ++ t ∷ []) (us ++ a ∷ t ∷ []) (us ++ sql_or a t ∷ []) more (keeps_pair us a t))

-- no test is as good as FALSE
pub keeps_false : (ts : List Sql) → KeepsAny ts [] → KeepsAny ts (sql_truth false ∷ [])
keeps_false ts h d k = ((refl, tt), (h d k).1)

-- ---- the query

tests_are : (d : Data) (cs : List Sql) → AreTruthsOrNull d cs → AreTruths d (map sql_is_true cs)
tests_are d [] h = tt
tests_are d (c ∷ cs) h =
    (own_truth (true_cell (value d c)) (is_true (value d c)) (true_is (value d c) h.0), tests_are d cs h.1)

tests_say : (d : Data) (cs : List Sql) → AreTruthsOrNull d cs → some_is_true d (map sql_is_true cs) ≡ some_is_true d cs
tests_say d [] h = refl
tests_say d (c ∷ cs) h = λ i. is_true (true_is (value d c) h.0 i) || tests_say d cs h.1 i

pub tells_it : (cs ts : List Sql) (e : Sql) → TestsEach cs ts → KeepsAny ts (e ∷ []) → TellsAnyTrue cs e
tells_it cs ts e each keeps d h =
    let a = keeps d (subst (AreTruths d) (sym each) (tests_are d cs h)) in
    a.0.0
    ∙ ap Truth (sym (or_none (is_true (value d e))) ∙ a.1 ∙ ap (some_is_true d) each ∙ tests_say d cs h)

pub joins_it : (permits forbids : List Sql) (p f : Sql) → TellsAnyTrue permits p → TellsAnyTrue forbids f
    → JoinsTheSet permits forbids (sql_and p (sql_not f))
joins_it permits forbids p f t u d h k =
    ap_both and_cells (t d h) (ap not_cell (u d k))
    ∙ and_is (some_is_true d permits) (some_is_true d forbids)
