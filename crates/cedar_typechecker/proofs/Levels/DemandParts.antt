-- The demands at a node and of its parts give, at a maximum n, exactly the errors of the walk
-- there. If they give none, n meets all demands, even those that it hides, because a demand is
-- hidden only if another one is not met.
use Rattle.std.proofs.Common.{◌≡◌, ℕ, ◌+◌, ◌≤◌, ◌<◌, max, Bool, true, false, nat_lt, nat_le, List, [], ◌∷◌, ◌++◌, map, Option, Some, None}
use Rattle.std.proofs.Common.{suc, is_some, ◌⊎◌, inl, inr, if◌then◌else◌, refl, sym, ap, subst, ◌∙◌, arith}
use Rattle.std.proofs.lemmas.Bool.{ltb-true, ltb-false, leb-true, leb-false, lt-ltb}
use Rattle.cedar_types.specs.Errors.{Fault, Finding, maximum_level_exceeded, internal_invariant_violation, literal_dereference_target}
use Rattle.cedar_types.specs.Names.{Text, text_eq}
use Rattle.cedar_types.specs.Expressions.Tree.{Fields, no_fields, field}
use Rattle.cedar_typing.specs.Evaluation.Conformance.{IsOneOf}
use Rattle.cedar_typing.specs.PolicyCheck.Outcome.{Adds}
use Rattle.cedar_typing.specs.TypedExpr.{TypedTree, Mark}
use Rattle.cedar_typing.proofs.Basics.Gains.{in_either}
use Rattle.cedar_typing.proofs.Basics.Members.{in_left, in_right}
use Rattle.cedar_typechecker.specs.Levels.Chains.{Base, an_entity, a_record, neither, field_at, Leaf, good_leaf, literal_leaf, bad_leaf}
use Rattle.cedar_typechecker.specs.Levels.Chains.{leaf_of_access, leaf_of_field, level}
use Rattle.cedar_typechecker.specs.Levels.Errors.{exceeds, unless_below, unless_within, faults_of_base, level_at_keys, faults_of_chain}
use Rattle.cedar_typechecker.specs.Levels.Errors.{faults_at_leaf, faults_at_end}
use Rattle.cedar_typechecker.specs.Levels.Demands.{Need, this_level, no_literal, a_rule, Demand, unless_met, told_of, told, Meets, MeetsAll}
use Rattle.cedar_typechecker.specs.Levels.Demands.{capped, raised, around, demands, at_leaf, by_base, has_key, on_keys, counted_level, found_for}
use Rattle.cedar_typechecker.specs.Levels.Demands.{add_chain_demands, add_demands, add_field_demands, add_target_demands, add_demands_along}
use Rattle.cedar_typechecker.specs.Levels.Setting.{LevelSetting}
use Rattle.cedar_typechecker.specs.Levels.Walk.{found_at, of_base, of_keys, of_value, of_chain, checked_errors, field_errors, target_errors}
use Rattle.cedar_typechecker.specs.Levels.Walk.{errors_along}
use Rattle.cedar_typechecker.proofs.Levels.Capped.{same_at_most, same_report, same_sum}
use Rattle.cedar_typechecker.proofs.Levels.Gains.{joined_again, adds_none, adds_both, adds_alike, swapped, once, nil_right}

pub key_is : (p : Text) (fs : Fields Mark) → has_key p fs ≡ is_some (field_at p fs)
key_is p no_fields = refl
key_is p (field k t fs) = go (text_eq p k) (key_is p fs)
  where
    go : (b : Bool) → has_key p fs ≡ is_some (field_at p fs)
        → (if b then true else has_key p fs) ≡ is_some (if b then Some t else field_at p fs)
    go true h = refl
    go false h = h

-- ---- lists

pub both_nil : {A : Type 0} (xs ys : List A) → xs ++ ys ≡ [] → (xs ≡ []) × (ys ≡ [])
both_nil [] ys e = (refl, e)
both_nil (x ∷ xs) ys e = cc

pub nil_by_members : {A : Type 0} (xs ys : List A) → ((x : A) → IsOneOf x xs → IsOneOf x ys) → ys ≡ []
    → xs ≡ []
nil_by_members [] ys h e = refl
nil_by_members {A} (x ∷ xs) ys h e =
    let P : List A → Type 0 = λ zs. IsOneOf x zs in absurd (subst P e (h x (inl refl)))

not_nil : {A : Type 0} (x : A) (xs : List A) (X : Type 0) → x ∷ xs ≡ [] → X
not_nil x xs X h = cc

-- ---- numbers

both_within : (h c n : ℕ) → h ≤ n → c ≤ n → max h c ≤ n
both_within h c n i j = omega arith

not_less : (n h : ℕ) → n < h → h ≤ n → ⊥
not_less n h i j = omega arith

above_first : (h c n : ℕ) → n < max h c → h ≤ n → c ≤ n → ⊥
above_first h c n i j k = omega arith

-- n is below the greater of two bounds if it is below one
hidden_more : (h c n : ℕ) → nat_lt n h ≡ true → nat_lt n (max h c) ≡ true
hidden_more h c n e = let above = ltb-true n h e in lt-ltb n (max h c) (omega arith)

hidden_by_cost : (h c n : ℕ) → nat_le c n ≡ false → nat_lt n (max h c) ≡ true
hidden_by_cost h c n e = let above = leb-false c n e in lt-ltb n (max h c) (omega arith)

shown_by_both : (h c n : ℕ) → nat_lt n h ≡ false → nat_le c n ≡ true → nat_lt n (max h c) ≡ false
shown_by_both h c n e f = go (nat_lt n (max h c)) refl
  where
    go : (b : Bool) → nat_lt n (max h c) ≡ b → b ≡ false
    go false q = refl
    go true q =
        absurd (above_first h c n (ltb-true n (max h c) q) (ltb-false n h e) (leb-true c n f))

-- ---- if all demands are met, they give no error

met_is_silent : (n : ℕ) (need : Need) → Meets n need → unless_met n need ≡ []
met_is_silent n (this_level k) h = go (nat_le k n) refl
  where
    go : (b : Bool) → nat_le k n ≡ b → (if b then [] else exceeds n k ∷ []) ≡ []
    go true q = refl
    go false q = absurd (not_less n k (leb-false k n q) h)
met_is_silent n no_literal h = absurd h
met_is_silent n a_rule h = absurd h

silent_one : (p : Text) (n : ℕ) (d : Demand) → Meets n d.need → told_of p n d ≡ []
silent_one p n d h = go (nat_lt n d.hidden_below)
  where
    go : (b : Bool) → (if b then [] else map (found_for p d) (unless_met n d.need)) ≡ []
    go true = refl
    go false = ap (map (found_for p d)) (met_is_silent n d.need h)

pub silent_where_met : (p : Text) (n : ℕ) (ds : List Demand) → MeetsAll n ds → told p n ds ≡ []
silent_where_met p n [] h = refl
silent_where_met p n (d ∷ ds) h =
    ap (λ z. z ++ told p n ds) (silent_one p n d (h d (inl refl)))
    ∙ silent_where_met p n ds (λ x i. h x (inr i))

module _ (s : LevelSetting) (bounded : s.maximum ≤ 4294967295) where
  abbrev n : ℕ
  n = s.maximum

  abbrev said : List Demand → List Finding
  said = told s.policy n

  -- the errors that are not hidden below h
  abbrev gated : ℕ → List Finding → List Finding
  gated h es = if nat_lt n h then [] else es

  -- if the demands give no error, n is at least h; and n meets all
  abbrev pub IsOpen : ℕ → List Demand → Type 0
  IsOpen h ds = said ds ≡ [] → h ≤ n

  abbrev pub IsMet : List Demand → Type 0
  IsMet ds = said ds ≡ [] → MeetsAll n ds

  -- from ds to ds' the demands give the errors es, but for those that are hidden
  pub record Tells (h : ℕ) (es : List Finding) (ds ds' : List Demand) : Type 0 where
    pub adds : Adds (said ds) (gated h es) (said ds')
    pub met : IsOpen h ds → IsMet ds → IsMet ds'

  -- ---- one after the other

  gated_both : (h : ℕ) (xs ys : List Finding) → gated h xs ++ gated h ys ≡ gated h (xs ++ ys)
  gated_both h xs ys = go (nat_lt n h)
    where
      go : (b : Bool)
          → (if b then [] else xs) ++ (if b then [] else ys) ≡ (if b then [] else xs ++ ys)
      go true = refl
      go false = refl

  gated_none : (h : ℕ) → gated h [] ≡ []
  gated_none h = go (nat_lt n h)
    where
      go : (b : Bool) → if◌then◌else◌ {A = List Finding} b [] [] ≡ []
      go true = refl
      go false = refl

  -- the demands before gave no error if those after give none
  silent_before : (es : List Finding) (ds ds' : List Demand) → Adds (said ds) es (said ds')
      → said ds' ≡ [] → said ds ≡ []
  silent_before es ds ds' a e =
      nil_by_members (said ds) (said ds') (λ x i. (a x).1 (in_left x (said ds) es i)) e

  pub tells_none : (h : ℕ) (ds : List Demand) → Tells h [] ds ds
  tells_none h ds = record {
    adds = subst (λ z. Adds (said ds) z (said ds)) (sym (gated_none h)) (adds_none (said ds));
    met = λ o m. m;
  }

  pub tells_both : (h : ℕ) (ds : List Demand) (xs : List Finding) (mid : List Demand)
      (ys : List Finding) (new : List Demand) → Tells h xs ds mid → Tells h ys mid new
      → Tells h (xs ++ ys) ds new
  tells_both h ds xs mid ys new k l = record {
    adds = subst (λ z. Adds (said ds) z (said new)) (gated_both h xs ys)
        (adds_both (said ds) (gated h xs) (said mid) (gated h ys) (said new) k.adds l.adds);
    met = λ o m. l.met (λ e. o (silent_before (gated h xs) ds mid k.adds e)) (k.met o m);
  }

  -- the errors may be replaced by other lists with the same members
  tells_alike : (h : ℕ) (xs ys : List Finding) (ds new : List Demand)
      → ((x : Finding) → IsOneOf x xs → IsOneOf x ys)
      → ((x : Finding) → IsOneOf x ys → IsOneOf x xs) → Tells h xs ds new → Tells h ys ds new
  tells_alike h xs ys ds new f g k = record {
    adds = go (nat_lt n h) k.adds;
    met = k.met;
  }
    where
      go : (b : Bool) → Adds (said ds) (if b then [] else xs) (said new)
          → Adds (said ds) (if b then [] else ys) (said new)
      go true a = a
      go false a = adds_alike (said ds) xs ys (said new) f g a

  -- the errors of the second step may stand before those of the first
  pub tells_before : (h : ℕ) (ds : List Demand) (xs : List Finding) (mid : List Demand)
      (ys : List Finding) (new : List Demand) → Tells h xs ds mid → Tells h ys mid new
      → Tells h (ys ++ xs) ds new
  tells_before h ds xs mid ys new k l =
      tells_alike h (xs ++ ys) (ys ++ xs) ds new (λ x. swapped x xs ys) (λ x. swapped x ys xs)
      (tells_both h ds xs mid ys new k l)

  tells_twice : (h : ℕ) (xs : List Finding) (ds new : List Demand) → Tells h xs ds new
      → Tells h (xs ++ xs) ds new
  tells_twice h xs ds new k =
      tells_alike h xs (xs ++ xs) ds new (λ x. in_left x xs xs) (λ x. once x xs) k

  tells_same : (h : ℕ) (xs ys : List Finding) (ds new : List Demand) → xs ≡ ys
      → Tells h xs ds new → Tells h ys ds new
  tells_same h xs ys ds new e k = subst (λ z. Tells h z ds new) e k

  -- ---- at a node

  told_more : (ds : List Demand) (d : Demand) → said (ds ++ d ∷ []) ≡ said ds ++ told_of s.policy n d
  told_more [] d = nil_right (told_of s.policy n d)
  told_more (x ∷ ds) d =
      ap (λ z. told_of s.policy n x ++ z) (told_more ds d)
      ∙ sym (joined_again (told_of s.policy n x) (said ds) (told_of s.policy n d))

  met_if_silent : (need : Need) → unless_met n need ≡ [] → Meets n need
  met_if_silent (this_level k) e = go (nat_le k n) refl e
    where
      go : (b : Bool) → nat_le k n ≡ b → (if b then [] else exceeds n k ∷ []) ≡ [] → k ≤ n
      go true q i = leb-true k n q
      go false q i = not_nil (exceeds n k) [] (k ≤ n) i
  met_if_silent no_literal e = not_nil literal_dereference_target [] ⊥ e
  met_if_silent a_rule e = not_nil internal_invariant_violation [] ⊥ e

  nothing_at : (m : Mark) (fs : List Fault) → found_at s m fs ≡ [] → fs ≡ []
  nothing_at m [] e = refl
  nothing_at m (f ∷ fs) e = not_nil _ (found_at s m fs) (f ∷ fs ≡ []) e

  -- one more demand, which is met if no error is given
  met_more : (m : Mark) (need : Need) (h : ℕ) (ds : List Demand)
      → IsOpen h ds → IsMet ds → IsMet (demands m.at.place need h ds)
  met_more m need h ds o i e = go
    where
      d : Demand
      d = record { place = m.at.place; need = need; hidden_below = h }

      both : (said ds ≡ []) × (told_of s.policy n d ≡ [])
      both = both_nil (said ds) (told_of s.policy n d) (sym (told_more ds d) ∙ e)

      own : (b : Bool) → nat_lt n h ≡ b
          → (if b then [] else found_at s m (unless_met n need)) ≡ [] → Meets n need
      own true q k = absurd (not_less n h (ltb-true n h q) (o both.0))
      own false q k = met_if_silent need (nothing_at m (unless_met n need) k)

      go : (x : Demand) → IsOneOf x (ds ++ d ∷ []) → Meets n x.need
      go x k = by (in_either x ds (d ∷ []) k)
        where
          by : IsOneOf x ds ⊎ IsOneOf x (d ∷ []) → Meets n x.need
          by (inl j) = i both.0 x j
          by (inr (inl j)) =
              let P : Demand → Type 0 = λ y. Meets n y.need in
              subst P (sym j) (own (nat_lt n h) refl both.1)
          by (inr (inr j)) = absurd j

  pub demand_tells : (m : Mark) (need : Need) (fs : List Fault) (h : ℕ) (ds : List Demand)
      → unless_met n need ≡ fs → Tells h (found_at s m fs) ds (demands m.at.place need h ds)
  demand_tells m need fs h ds e = record {
    adds = subst (λ z. Adds (said ds) (gated h (found_at s m z)) (said (demands m.at.place need h ds))) e
        (subst (λ z. Adds (said ds) (gated h (found_at s m (unless_met n need))) z)
        (sym (told_more ds (record { place = m.at.place; need = need; hidden_below = h })))
        (λ x. (λ i. i, λ i. i)));
    met = met_more m need h ds;
  }

  pub literal_tells : (m : Mark) (h : ℕ) (ds : List Demand)
      → Tells h (found_at s m (literal_dereference_target ∷ [])) ds (demands m.at.place no_literal h ds)
  literal_tells m h ds = demand_tells m no_literal (literal_dereference_target ∷ []) h ds refl

  pub rule_tells : (m : Mark) (h : ℕ) (ds : List Demand)
      → Tells h (found_at s m (internal_invariant_violation ∷ [])) ds (demands m.at.place a_rule h ds)
  rule_tells m h ds = demand_tells m a_rule (internal_invariant_violation ∷ []) h ds refl

  -- a demand for a rule, and no error below it
  pub rule_tells_end : (m : Mark) (h : ℕ) (ds : List Demand)
      → Tells h (found_at s m (internal_invariant_violation ∷ []) ++ []) ds
      (demands m.at.place a_rule h ds)
  rule_tells_end m h ds = rule_tells m h ds

  pub leaf_tells : (m : Mark) (l : Leaf) (h : ℕ) (ds : List Demand)
      → Tells h (found_at s m (faults_at_leaf l)) ds (at_leaf m.at.place l h ds)
  leaf_tells m good_leaf h ds = tells_none h ds
  leaf_tells m literal_leaf h ds = literal_tells m h ds
  leaf_tells m bad_leaf h ds = rule_tells m h ds

  -- the faults of a level do not change if it is counted up to 64 bits alone
  within_same : (k j : ℕ) → k ≡ capped j → unless_within n k ≡ unless_within n j
  within_same k j e =
      subst (λ z. unless_within n z ≡ unless_within n j) (sym e)
      (go (nat_le (capped j) n) (nat_le j n) (same_at_most n j bounded))
    where
      go : (b c : Bool) → b ≡ c
          → (if b then [] else exceeds n (capped j) ∷ []) ≡ (if c then [] else exceeds n j ∷ [])
      go true true q = refl
      go false false q = ap (λ z. maximum_level_exceeded n z ∷ []) (same_report j)
      go true false q = cc
      go false true q = cc

  next_is : (j : ℕ) → j + 1 ≡ suc j
  next_is j = omega arith

  -- one more than a level is within the maximum exactly if the level is below it
  below_same : (j : ℕ) → unless_within n (j + 1) ≡ unless_below n j
  below_same j = λ i. if nat_le (next_is j i) n then [] else exceeds n (j + 1) ∷ []

  level_tells : (m : Mark) (k j : ℕ) (h : ℕ) (ds : List Demand) → k ≡ capped j
      → Tells h (found_at s m (unless_within n j)) ds (demands m.at.place (this_level k) h ds)
  level_tells m k j h ds e =
      demand_tells m (this_level k) (unless_within n j) h ds (within_same k j e)

  -- ---- an expression whose parts give their errors

  abbrev Checks : TypedTree → Type 0
  Checks x =
      (h : ℕ) (ds : List Demand) → Tells h (checked_errors s x) ds (add_demands (around s) x h ds)

  abbrev Targets : TypedTree → Type 0
  Targets x =
      (path : List Text) (h : ℕ) (ds : List Demand)
      → Tells h (target_errors s x path) ds (add_target_demands (around s) x path h ds)

  abbrev Counts : TypedTree → Type 0
  Counts x = (path : List Text) → counted_level x path ≡ capped (level s.action x path)

  pub if_tells : (d : Bool) (b c e : TypedTree) (h : ℕ) (ds : List Demand) → (d ≡ true → c ≡ e)
      → Checks b → Checks c → Checks e
      → Tells h (checked_errors s b ++ (checked_errors s c ++ checked_errors s e)) ds
      (if d then add_demands (around s) c h (add_demands (around s) b h ds)
      else add_demands (around s) e h (add_demands (around s) c h (add_demands (around s) b h ds)))
  if_tells true b c e h ds q i j k =
      let B = checked_errors s b in
      let C = checked_errors s c in
      let ds1 = add_demands (around s) b h ds in
      let ds2 = add_demands (around s) c h ds1 in
      subst (λ z. Tells h (B ++ (C ++ checked_errors s z)) ds ds2) (q refl)
      (tells_both h ds B ds1 (C ++ C) ds2 (i h ds) (tells_twice h C ds1 ds2 (j h ds1)))
  if_tells false b c e h ds q i j k =
      let ds1 = add_demands (around s) b h ds in
      let ds2 = add_demands (around s) c h ds1 in
      let ds3 = add_demands (around s) e h ds2 in
      tells_both h ds (checked_errors s b) ds1 (checked_errors s c ++ checked_errors s e) ds3 (i h ds)
      (tells_both h ds1 (checked_errors s c) ds2 (checked_errors s e) ds3 (j h ds1) (k h ds2))

  pub if_target_tells : (d : Bool) (b c e : TypedTree) (path : List Text) (h : ℕ) (ds : List Demand)
      → (d ≡ true → c ≡ e) → Checks b → Targets c → Targets e
      → Tells h (checked_errors s b ++ (target_errors s c path ++ target_errors s e path)) ds
      (if d then add_target_demands (around s) c path h (add_demands (around s) b h ds)
      else add_target_demands (around s) e path h
      (add_target_demands (around s) c path h (add_demands (around s) b h ds)))
  if_target_tells true b c e path h ds q i j k =
      let B = checked_errors s b in
      let C = target_errors s c path in
      let ds1 = add_demands (around s) b h ds in
      let ds2 = add_target_demands (around s) c path h ds1 in
      subst (λ z. Tells h (B ++ (C ++ target_errors s z path)) ds ds2) (q refl)
      (tells_both h ds B ds1 (C ++ C) ds2 (i h ds) (tells_twice h C ds1 ds2 (j path h ds1)))
  if_target_tells false b c e path h ds q i j k =
      let ds1 = add_demands (around s) b h ds in
      let ds2 = add_target_demands (around s) c path h ds1 in
      let ds3 = add_target_demands (around s) e path h ds2 in
      tells_both h ds (checked_errors s b) ds1 (target_errors s c path ++ target_errors s e path) ds3
      (i h ds)
      (tells_both h ds1 (target_errors s c path) ds2 (target_errors s e path) ds3 (j path h ds1)
      (k path h ds2))

  -- an access of a target at this cost gives the errors of the target, and then its own
  reach_tells : (m : Mark) (b : TypedTree) (path : List Text) (c : ℕ) (h : ℕ) (ds : List Demand)
      → Targets b → Counts b
      → Tells h (found_at s m (unless_within n (level s.action b path + c)) ++ target_errors s b path)
      ds (demands m.at.place (this_level (raised (counted_level b path) c)) h
      (add_target_demands (around s) b path h ds))
  reach_tells m b path c h ds i k =
      let ds1 = add_target_demands (around s) b path h ds in
      let j = level s.action b path in
      tells_before h ds (target_errors s b path) ds1 (found_at s m (unless_within n (j + c))) _
      (i path h ds)
      (level_tells m (raised (counted_level b path) c) (j + c) h ds1
      (same_sum (counted_level b path) j c (k path)))

  access_tells : (m : Mark) (b : TypedTree) (h : ℕ) (ds : List Demand) → Targets b → Counts b
      → Tells h (found_at s m (unless_below n (level s.action b [])) ++ target_errors s b []) ds
      (demands m.at.place (this_level (raised (counted_level b []) 1)) h
      (add_target_demands (around s) b [] h ds))
  access_tells m b h ds i k =
      tells_same h _ _ ds _
      (ap (λ fs. found_at s m fs ++ target_errors s b []) (below_same (level s.action b [])))
      (reach_tells m b [] 1 h ds i k)

  pub base_tells : (k : Base) (m : Mark) (b : TypedTree) (h : ℕ) (ds : List Demand) → Checks b
      → Targets b → Counts b
      → Tells h (found_at s m (faults_of_base s k b) ++ of_base k (target_errors s b [])
      (checked_errors s b)) ds
      (by_base k (demands m.at.place (this_level (raised (counted_level b []) 1)) h
      (add_target_demands (around s) b [] h ds))
      (add_demands (around s) b h ds) (demands m.at.place a_rule h ds))
  base_tells an_entity m b h ds i j c = access_tells m b h ds j c
  base_tells a_record m b h ds i j c = i h ds
  base_tells neither m b h ds i j c = rule_tells_end m h ds

  first_tells : (k : Bool) (m : Mark) (b : TypedTree) (h : ℕ) (ds : List Demand) → Checks b
      → Targets b → Counts b
      → Tells h (found_at s m (if k then unless_below n (level s.action b []) else [])
      ++ (if k then target_errors s b [] else checked_errors s b)) ds
      (if k then demands m.at.place (this_level (raised (counted_level b []) 1)) h
      (add_target_demands (around s) b [] h ds) else add_demands (around s) b h ds)
  first_tells true m b h ds i j c = access_tells m b h ds j c
  first_tells false m b h ds i j c = i h ds

  pub operator_tells : (k : Bool) (m : Mark) (b d : TypedTree) (h : ℕ) (ds : List Demand) → Checks b
      → Targets b → Counts b → Checks d
      → Tells h (found_at s m (if k then unless_below n (level s.action b []) else [])
      ++ ((if k then target_errors s b [] else checked_errors s b) ++ checked_errors s d)) ds
      (add_demands (around s) d h
      (if k then demands m.at.place (this_level (raised (counted_level b []) 1)) h
      (add_target_demands (around s) b [] h ds) else add_demands (around s) b h ds))
  operator_tells k m b d h ds i j c l =
      let own = found_at s m (if k then unless_below n (level s.action b []) else []) in
      let first = if k then target_errors s b [] else checked_errors s b in
      let ds1 = if k then demands m.at.place (this_level (raised (counted_level b []) 1)) h
      (add_target_demands (around s) b [] h ds) else add_demands (around s) b h ds in
      tells_same h ((own ++ first) ++ checked_errors s d) (own ++ (first ++ checked_errors s d)) ds
      (add_demands (around s) d h ds1) (joined_again own first (checked_errors s d))
      (tells_both h ds (own ++ first) ds1 (checked_errors s d) (add_demands (around s) d h ds1)
      (first_tells k m b h ds i j c) (l h ds1))

  -- ---- extended `has`

  -- the errors below a cost are given if the cost is within the maximum, else that of the cost
  -- alone
  cost_tells : (m : Mark) (c : ℕ) (es : List Finding) (h : ℕ) (ds new : List Demand)
      → Tells (max h c) es (demands m.at.place (this_level c) h ds) new
      → Tells h (if nat_le c n then es else found_at s m (exceeds n c ∷ [])) ds new
  cost_tells m c es h ds new k = record {
    adds = subst (λ z. Adds (said ds) z (said new)) (go (nat_lt n h) (nat_le c n) refl refl)
        (adds_both (said ds) (gated h (found_at s m (unless_within n c))) (said first)
        (gated (max h c) es) (said new) own.adds k.adds);
    met = λ o i. k.met (λ e. both_within h c n (o (before e)) (cost (own.met o i) e)) (own.met o i);
  }
    where
      first : List Demand
      first = demands m.at.place (this_level c) h ds

      own : Tells h (found_at s m (unless_within n c)) ds first
      own = demand_tells m (this_level c) (unless_within n c) h ds refl

      before : said first ≡ [] → said ds ≡ []
      before e =
          silent_before (gated h (found_at s m (unless_within n c))) ds first own.adds e

      cost : IsMet first → said first ≡ [] → c ≤ n
      cost i e =
          i e (record { place = m.at.place; need = this_level c; hidden_below = h })
          (in_right _ ds _ (inl refl))

      go : (b q : Bool) → nat_lt n h ≡ b → nat_le c n ≡ q
          → (if b then [] else found_at s m (if q then [] else exceeds n c ∷ []))
          ++ gated (max h c) es
          ≡ (if b then [] else (if q then es else found_at s m (exceeds n c ∷ [])))
      go true q e f = ap (λ z. if z then [] else es) (hidden_more h c n e)
      go false true e f = ap (λ z. if z then [] else es) (shown_by_both h c n e f)
      go false false e f =
          ap (λ z. found_at s m (exceeds n c ∷ []) ++ (if z then [] else es)) (hidden_by_cost h c n f)

  pub chain_tells : (k : Base) (m : Mark) (b : TypedTree) (c : ℕ) (keys : Option (List Text))
      (h : ℕ) (ds : List Demand) → Checks b → Targets b → Counts b
      → Tells h (found_at s m (faults_of_chain s k c b keys) ++ of_chain n k c keys
      (target_errors s b) (checked_errors s b)) ds
      (add_chain_demands m.at.place k c keys (counted_level b) (add_target_demands (around s) b)
      (add_demands (around s) b) h ds)
  chain_tells an_entity m b c keys h ds i j k =
      let own = found_at s m (unless_within n (level s.action b [] + c)) in
      let T = target_errors s b [] in
      let ds1 = demands m.at.place (this_level c) h ds in
      tells_same h (if nat_le c n then own ++ T else found_at s m (exceeds n c ∷ [])) _ ds _
      (go (nat_le c n))
      (cost_tells m c (own ++ T) h ds _ (reach_tells m b [] c (max h c) ds1 j k))
    where
      go : (q : Bool)
          → (if q then found_at s m (unless_within n (level s.action b [] + c)) ++ target_errors s b []
          else found_at s m (exceeds n c ∷ []))
          ≡ found_at s m (if q then unless_within n (level s.action b [] + c) else exceeds n c ∷ [])
          ++ (if q then target_errors s b [] else [])
      go true = refl
      go false = refl
  chain_tells a_record m b c keys h ds i j k =
      let es = found_at s m (level_at_keys s b keys c)
      ++ (checked_errors s b ++ of_keys keys (target_errors s b)) in
      let ds1 = demands m.at.place (this_level c) h ds in
      tells_same h (if nat_le c n then es else found_at s m (exceeds n c ∷ [])) _ ds _
      (go (nat_le c n))
      (cost_tells m c es h ds _ (of_record keys ds1))
    where
      go : (q : Bool)
          → (if q then found_at s m (level_at_keys s b keys c)
          ++ (checked_errors s b ++ of_keys keys (target_errors s b))
          else found_at s m (exceeds n c ∷ []))
          ≡ found_at s m (if q then level_at_keys s b keys c else exceeds n c ∷ [])
          ++ (if q then checked_errors s b ++ of_keys keys (target_errors s b) else [])
      go true = refl
      go false = refl

      of_record : (keys : Option (List Text)) (ds : List Demand)
          → Tells (max h c) (found_at s m (level_at_keys s b keys c)
          ++ (checked_errors s b ++ of_keys keys (target_errors s b))) ds
          (on_keys keys (add_demands (around s) b (max h c) ds)
          (λ path. demands m.at.place (this_level (raised (counted_level b path) c)) (max h c)
          (add_target_demands (around s) b path (max h c) (add_demands (around s) b (max h c) ds))))
      of_record None ds =
          tells_same (max h c) (checked_errors s b) (checked_errors s b ++ []) ds _
          (sym (nil_right (checked_errors s b))) (i (max h c) ds)
      of_record (Some path) ds =
          let own = found_at s m (unless_within n (level s.action b path + c)) in
          let B = checked_errors s b in
          let T = target_errors s b path in
          let ds1 = add_demands (around s) b (max h c) ds in
          let ds2 = add_target_demands (around s) b path (max h c) ds1 in
          tells_before (max h c) ds (B ++ T) ds2 own _
          (tells_both (max h c) ds B ds1 T ds2 (i (max h c) ds) (j path (max h c) ds1))
          (level_tells m (raised (counted_level b path) c) (level s.action b path + c) (max h c) ds2
          (same_sum (counted_level b path) (level s.action b path) c (k path)))
  chain_tells neither m b c keys h ds i j k = i h ds

  -- ---- targets

  pub tag_tells : (k : Bool) (m : Mark) (b d : TypedTree) (path : List Text) (h : ℕ)
      (ds : List Demand) → Targets b → Checks d
      → Tells h (found_at s m (faults_at_end (if k then None else Some bad_leaf))
      ++ (if k then target_errors s b path ++ checked_errors s d else [])) ds
      (if k then add_demands (around s) d h (add_target_demands (around s) b path h ds)
      else demands m.at.place a_rule h ds)
  tag_tells true m b d path h ds i j =
      let ds1 = add_target_demands (around s) b path h ds in
      tells_both h ds (target_errors s b path) ds1 (checked_errors s d)
      (add_demands (around s) d h ds1) (i path h ds) (j h ds1)
  tag_tells false m b d path h ds i j = rule_tells_end m h ds

  pub attribute_tells : (k : Base) (m : Mark) (b : TypedTree) (x : Text) (path : List Text) (h : ℕ)
      (ds : List Demand) → Targets b
      → Tells h (found_at s m (faults_at_end (leaf_of_access k)) ++ of_base k
      (target_errors s b path) (target_errors s b (x ∷ path))) ds
      (by_base k (add_target_demands (around s) b path h ds)
      (add_target_demands (around s) b (x ∷ path) h ds) (demands m.at.place a_rule h ds))
  attribute_tells an_entity m b x path h ds i = i path h ds
  attribute_tells a_record m b x path h ds i = i (x ∷ path) h ds
  attribute_tells neither m b x path h ds i = rule_tells_end m h ds

  pub record_tells : (m : Mark) (es : Fields Mark) (p : Text) (path : List Text) (h : ℕ)
      (ds : List Demand) (k : Bool) (o : Option TypedTree) → k ≡ is_some o
      → Tells h (errors_along s es p path) ds (add_demands_along (around s) es p path h ds)
      → Tells h (found_at s m (faults_at_end (leaf_of_field o)) ++ of_value o
      (errors_along s es p path)) ds
      (if k then add_demands_along (around s) es p path h ds else demands m.at.place a_rule h ds)
  record_tells m es p path h ds true (Some t) q i = i
  record_tells m es p path h ds false None q i = rule_tells_end m h ds
  record_tells m es p path h ds true None q i = cc
  record_tells m es p path h ds false (Some t) q i = cc

  pub along_tells : (k : Bool) (t : TypedTree) (es : Fields Mark) (p : Text) (path : List Text)
      (h : ℕ) (ds : List Demand) → Checks t → Targets t
      → ((h : ℕ) (ds : List Demand)
      → Tells h (field_errors s es) ds (add_field_demands (around s) es h ds))
      → ((h : ℕ) (ds : List Demand)
      → Tells h (errors_along s es p path) ds (add_demands_along (around s) es p path h ds))
      → Tells h (if k then target_errors s t path ++ field_errors s es
      else checked_errors s t ++ errors_along s es p path) ds
      (if k then add_field_demands (around s) es h (add_target_demands (around s) t path h ds)
      else add_demands_along (around s) es p path h (add_demands (around s) t h ds))
  along_tells true t es p path h ds i j k l =
      let ds1 = add_target_demands (around s) t path h ds in
      tells_both h ds (target_errors s t path) ds1 (field_errors s es)
      (add_field_demands (around s) es h ds1) (j path h ds) (k h ds1)
  along_tells false t es p path h ds i j k l =
      let ds1 = add_demands (around s) t h ds in
      tells_both h ds (checked_errors s t) ds1 (errors_along s es p path)
      (add_demands_along (around s) es p path h ds1) (i h ds) (l h ds1)
