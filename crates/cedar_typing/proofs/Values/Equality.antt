-- Equality of two sets and of two records.
use Rattle.std.proofs.Common.{◌≡◌, refl, sym, ap, ◌∙◌, subst, ◌⊎◌, inl, inr, Bool, true, false, ◌&&◌, ◌||◌, List, [], ◌∷◌, map, Option}
use Rattle.std.proofs.Common.{Some, None, true≢false}
use Rattle.std.specs.Prelude.{if◌then◌else◌}
use Rattle.std.specs.List.{list_all}
use Rattle.cedar_types.specs.Names.{Text, text_eq}
use Rattle.cedar_types.specs.Lemmas.Comparisons.{and_left, and_right, and_both, text_same}
use Rattle.cedar_types.specs.Values.{Value, VSet, VRecord, Values, no_values, more_values, Entries, no_entries, more_entries, entry_at}
use Rattle.cedar_types.specs.Values.{entry_keys, AllValues, AllEntries}
use Rattle.cedar_typing.specs.Evaluation.Equality.{all_values, any_value, passes_any, test_at, agree, agree_at, same_value, members_tests}
use Rattle.cedar_typing.specs.Evaluation.Equality.{entries_tests}
use Rattle.cedar_typing.proofs.Basics.{or_right}

-- ---- truth values

or_cases : (a b : Bool) → (a || b) ≡ true → (a ≡ true) ⊎ (b ≡ true)
or_cases true b h = inl refl
or_cases false b h = inr h

-- ---- members of a list of values

abbrev pub Member : Value → Values → Type 0
Member v no_values = ⊥
Member v (more_values w ws) = (v ≡ w) ⊎ Member v ws

pub member_has : (P : Value → Type 0) (vs : Values) → AllValues P vs → (v : Value) → Member v vs → P v
member_has P no_values h v m = absurd m
member_has P (more_values w vs) h v (inl e) = subst P (sym e) h.0
member_has P (more_values w vs) h v (inr m) = member_has P vs h.1 v m

-- a member that passes the test
pub record Passing (p : Value → Bool) (ws : Values) : Type 0 where
  pub it : Value
  pub among : Member it ws
  pub passes : p it ≡ true

any_cases : (p : Value → Bool) (w : Value) (ws : Values) → (any_value p ws ≡ true → Passing p ws)
    → (p w ≡ true) ⊎ (any_value p ws ≡ true) → Passing p (more_values w ws)
any_cases p w ws f (inl h) = record { it = w; among = inl refl; passes = h }
any_cases p w ws f (inr h) = record { it = (f h).it; among = inr (f h).among; passes = (f h).passes }

any_to : (p : Value → Bool) (ws : Values) → any_value p ws ≡ true → Passing p ws
any_to p no_values h = absurd (true≢false (sym h))
any_to p (more_values w ws) h = any_cases p w ws (any_to p ws) (or_cases (p w) (any_value p ws) h)

any_from : (p : Value → Bool) (w : Value) (ws : Values) → Member w ws → p w ≡ true → any_value p ws ≡ true
any_from p w no_values m h = absurd m
any_from p w (more_values x ws) (inl e) h = ap (λ b. b || any_value p ws) (subst (λ y. p y ≡ true) e h)
any_from p w (more_values x ws) (inr m) h = or_right (p x) (any_value p ws) (any_from p w ws m h)

all_to : (p : Value → Bool) (ws : Values) → all_values p ws ≡ true → (w : Value) → Member w ws → p w ≡ true
all_to p no_values h w m = absurd m
all_to p (more_values x ws) h w (inl e) = subst (λ y. p y ≡ true) (sym e) (and_left (p x) (all_values p ws) h)
all_to p (more_values x ws) h w (inr m) = all_to p ws (and_right (p x) (all_values p ws) h) w m

all_from : (p : Value → Bool) (ws : Values) → ((w : Value) → Member w ws → p w ≡ true) → all_values p ws ≡ true
all_from p no_values f = refl
all_from p (more_values x ws) f = and_both (p x) (all_values p ws) (f x (inl refl)) (all_from p ws (λ w m. f w (inr m)))

-- ---- sets

each_is : (ws vs : Values) → list_all (λ p. any_value p ws) (members_tests vs) ≡ all_values (λ v. any_value (same_value v) ws) vs
each_is ws no_values = refl
each_is ws (more_values v vs) = ap (λ b. any_value (same_value v) ws && b) (each_is ws vs)

passes_is : (vs : Values) (w : Value) → passes_any (members_tests vs) w ≡ any_value (λ v. same_value v w) vs
passes_is no_values w = refl
passes_is (more_values v vs) w = ap (λ b. same_value v w || b) (passes_is vs w)

-- each member of one equals a member of the other
pub record SameSets (vs ws : Values) : Type 0 where
  pub there : (v : Value) → Member v vs → Passing (same_value v) ws
  pub back : (w : Value) → Member w ws → Passing (λ v. same_value v w) vs

pub sets_to : (vs ws : Values) → same_value (VSet vs) (VSet ws) ≡ true → SameSets vs ws
sets_to vs ws h =
    let each = list_all (λ p. any_value p ws) (members_tests vs) in
    let all = all_values (passes_any (members_tests vs)) ws in
    record {
      there =
          λ v m. any_to (same_value v) ws
          (all_to (λ x. any_value (same_value x) ws) vs (sym (each_is ws vs) ∙ and_left each all h) v m);
      back =
          λ w m. any_to (λ v. same_value v w) vs
          (sym (passes_is vs w) ∙ all_to (passes_any (members_tests vs)) ws (and_right each all h) w m);
    }

pub sets_from : (vs ws : Values) → SameSets vs ws → same_value (VSet vs) (VSet ws) ≡ true
sets_from vs ws s =
    and_both (list_all (λ p. any_value p ws) (members_tests vs)) (all_values (passes_any (members_tests vs)) ws)
    (each_is ws vs ∙ all_from (λ v. any_value (same_value v) ws) vs
    (λ v m. any_from (same_value v) (s.there v m).it ws (s.there v m).among (s.there v m).passes))
    (all_from (passes_any (members_tests vs)) ws
    (λ w m. passes_is vs w ∙ any_from (λ v. same_value v w) (s.back w m).it vs
    (s.back w m).among (s.back w m).passes))

-- ---- records

-- the result of `agree` for the values at a key
abbrev pub agree_values : Option Value → Option Value → Bool
agree_values None None = true
agree_values None (Some w) = false
agree_values (Some v) None = false
agree_values (Some v) (Some w) = same_value v w

agree_some : (v : Value) (o : Option Value) → agree (Some (same_value v)) o ≡ agree_values (Some v) o
agree_some v None = refl
agree_some v (Some w) = refl

agree_none : (o : Option Value) → agree None o ≡ agree_values None o
agree_none None = refl
agree_none (Some w) = refl

agree_if : (b : Bool) (v : Value) (ts : List (Text × (Value → Bool))) (k : Text) (es : Entries) (o : Option Value)
    → agree (test_at k ts) o ≡ agree_values (entry_at k es) o
    → agree (if b then Some (same_value v) else test_at k ts) o ≡ agree_values (if b then Some v else entry_at k es) o
agree_if true v ts k es o h = agree_some v o
agree_if false v ts k es o h = h

agree_is : (k : Text) (es : Entries) (o : Option Value) → agree (test_at k (entries_tests es)) o ≡ agree_values (entry_at k es) o
agree_is k no_entries o = agree_none o
agree_is k (more_entries l v es) o = agree_if (text_eq k l) v (entries_tests es) k es o (agree_is k es o)

tests_keys : (es : Entries) → map (λ t. t.0) (entries_tests es) ≡ entry_keys es
tests_keys no_entries = refl
tests_keys (more_entries k v es) = ap (λ ks. k ∷ ks) (tests_keys es)

-- a test that all keys pass is passed by a key at which there is a value
at_key_if : (P : Text → Bool) (k l : Text) (v : Value) (o : Option Value) (b : Bool) → text_eq k l ≡ b → P l ≡ true
    → (o ≡ None) ⊎ (P k ≡ true) → ((if b then Some v else o) ≡ None) ⊎ (P k ≡ true)
at_key_if P k l v o true e h r = inr (subst (λ x. P x ≡ true) (sym (text_same.to k l e)) h)
at_key_if P k l v o false e h r = r

at_key : (P : Text → Bool) (k : Text) (es : Entries) → list_all P (entry_keys es) ≡ true → (entry_at k es ≡ None) ⊎ (P k ≡ true)
at_key P k no_entries h = inl refl
at_key P k (more_entries l v es) h =
    at_key_if P k l v (entry_at k es) (text_eq k l) refl (and_left (P l) (list_all P (entry_keys es)) h)
    (at_key P k es (and_right (P l) (list_all P (entry_keys es)) h))

all_pass : (P : Text → Bool) (ks : List Text) → ((k : Text) → P k ≡ true) → list_all P ks ≡ true
all_pass P [] f = refl
all_pass P (k ∷ ks) f = and_both (P k) (list_all P ks) (f k) (all_pass P ks f)

-- at each key both records have equal values, or no value
pub record SameRecords (es fs : Entries) : Type 0 where
  pub at_each : (k : Text) → agree_values (entry_at k es) (entry_at k fs) ≡ true

key_cases : (es fs : Entries) (k : Text) (P : Text → Bool) → P k ≡ agree_values (entry_at k es) (entry_at k fs)
    → (entry_at k es ≡ None) ⊎ (P k ≡ true) → (entry_at k fs ≡ None) ⊎ (P k ≡ true)
    → agree_values (entry_at k es) (entry_at k fs) ≡ true
key_cases es fs k P q (inl e) (inl f) = λ i. agree_values (e i) (f i)
key_cases es fs k P q (inl e) (inr h) = sym q ∙ h
key_cases es fs k P q (inr h) f = sym q ∙ h

pub records_to : (es fs : Entries) → same_value (VRecord es) (VRecord fs) ≡ true → SameRecords es fs
records_to es fs h =
    let P : Text → Bool = agree_at (entries_tests es) fs in
    let ks = map (λ t. t.0) (entries_tests es) in
    let here = subst (λ x. list_all P x ≡ true) (tests_keys es) (and_left (list_all P ks) (list_all P (entry_keys fs)) h) in
    let there = and_right (list_all P ks) (list_all P (entry_keys fs)) h in
    record { at_each = λ k. key_cases es fs k P (agree_is k es (entry_at k fs)) (at_key P k es here) (at_key P k fs there) }

pub records_from : (es fs : Entries) → SameRecords es fs → same_value (VRecord es) (VRecord fs) ≡ true
records_from es fs s =
    let P : Text → Bool = agree_at (entries_tests es) fs in
    let f : (k : Text) → P k ≡ true = λ k. agree_is k es (entry_at k fs) ∙ s.at_each k in
    and_both (list_all P (map (λ t. t.0) (entries_tests es))) (list_all P (entry_keys fs)) (all_pass P _ f) (all_pass P _ f)

-- the value at a key, if there is one, has each property of all values
abbrev pub OnSome : (Value → Type 0) → Option Value → Type 0
OnSome P None = Unit {0}
OnSome P (Some v) = P v

entry_if : (P : Value → Type 0) (b : Bool) (v : Value) (o : Option Value) → P v → OnSome P o → OnSome P (if b then Some v else o)
entry_if P true v o h r = h
entry_if P false v o h r = r

pub entry_has : (P : Value → Type 0) (k : Text) (es : Entries) → AllEntries P es → OnSome P (entry_at k es)
entry_has P k no_entries h = tt
entry_has P k (more_entries l v es) h = entry_if P (text_eq k l) v (entry_at k es) h.0 (entry_has P k es h.1)
