-- The required level of a policy: the program counts it, and laws follow from it.
use Rattle.std.proofs.Common.{◌≡◌, ◌↔◌, ℕ, ◌≤◌, ◌<◌, max, Bool, true, false, nat_le, List, [], ◌∷◌, inl, inr, Option, Some, None}
use Rattle.std.proofs.Common.{if◌then◌else◌, refl, sym, ap, subst, arith}
use Rattle.std.specs.Prelude.{IsPermutation}
use Rattle.std.proofs.lemmas.Bool.{leb-true, leb-false}
use Rattle.std.proofs.lemmas.List.Sorted.{IsPermutation-sym}
use Rattle.cedar_types.specs.Errors.{Finding}
use Rattle.cedar_types.specs.Environments.Linking.{checked_envs}
use Rattle.cedar_types.specs.Environments.RequestEnvs.{Env}
use Rattle.cedar_types.specs.Templates.{PlainTemplate, condition_of}
use Rattle.cedar_typing.specs.Evaluation.Conformance.{IsOneOf}
use Rattle.cedar_typing.specs.PolicyCheck.{Verdict, succeeds, irrelevant, fails, SameVerdict, same_success, same_irrelevant, same_failure}
use Rattle.cedar_typing.specs.PolicyCheck.Outcome.{VerdictsOf}
use Rattle.cedar_typing.specs.Soundness.Policies.{Basis, setting_on}
use Rattle.cedar_typing.proofs.Basics.Members.{moved}
use Rattle.cedar_typing.proofs.Policies.Verdicts.{verdict_at_most}
use Rattle.cedar_typechecker.specs.Levels.Laws.{VerdictIsShared}
use Rattle.cedar_typechecker.specs.Levels.Outcome.{ChecksOn, levels_on, IsErrorOfVerdict, IsErrorInSome}
use Rattle.cedar_typechecker.specs.Levels.Demands.{Need, this_level, no_literal, a_rule, Demand, Meets, MeetsAll}
use Rattle.cedar_typechecker.specs.Levels.Required.{IsRequiredLevel, Reaches, WithinWhereReached, SilentWhereReached, RequiredLevelIsOne}
use Rattle.cedar_typechecker.specs.Levels.Setting.{LevelSetting}
use Rattle.cedar_typechecker.specs.Slices.Policies.{VerdictIsWithin, PolicyIsWithinLevel}
use Rattle.cedar_typechecker.specs.Surveys.{surroundings_at, IsDemandOfVerdict, IsDemandInSome, raise, raise_all, of_32_bits}
use Rattle.cedar_typechecker.proofs.Levels.Monotone.{larger_levels_are_within}
use Rattle.cedar_typechecker.proofs.Levels.Demands.{demands_are_met}

-- ---- lists

module _ {A : Type 0} where
  empty_if_none : (xs : List A) → ((x : A) → IsOneOf x xs → ⊥) → xs ≡ []
  empty_if_none [] h = refl
  empty_if_none (x ∷ xs) h = absurd (h x (inl refl))

  none_if_empty : (xs : List A) → xs ≡ [] → (x : A) → IsOneOf x xs → ⊥
  none_if_empty [] e x i = i
  none_if_empty (y ∷ ys) e x i = cc

-- ---- numbers

first_below : (j k n : ℕ) → max j k ≤ n → j ≤ n
first_below j k n h = omega arith

second_below : (j k n : ℕ) → max j k ≤ n → k ≤ n
second_below j k n h = omega arith

both_below : (j k n : ℕ) → j ≤ n → k ≤ n → max j k ≤ n
both_below j k n h i = omega arith

at_least_none : (n : ℕ) → 0 ≤ n
at_least_none n = omega arith

at_least_itself : (n : ℕ) → n ≤ n
at_least_itself n = omega arith

smaller_within : (m n : ℕ) → m < n → n ≤ 4294967295 → m ≤ 4294967295
smaller_within m n l h = omega arith

not_both : (m n : ℕ) → m < n → n ≤ m → ⊥
not_both m n l h = omega arith

larger_than_all : (k n : ℕ) → 4294967295 < k → n ≤ 4294967295 → k ≤ n → ⊥
larger_than_all k n l h i = omega arith

same_number : (m n : ℕ) → m ≤ n → n ≤ m → m ≡ n
same_number m n h i = omega arith

-- ---- the least level of some demands

raise_reached : (need : Need) (r : Option ℕ) (n : ℕ)
    → Reaches (raise need r) n ↔ (Reaches r n × Meets n need)
raise_reached need None n = (λ i. absurd i, λ i. i.0)
raise_reached (this_level k) (Some j) n =
    (λ i. (first_below j k n i, second_below j k n i), λ i. both_below j k n i.0 i.1)
raise_reached no_literal (Some j) n = (λ i. absurd i, λ i. i.1)
raise_reached a_rule (Some j) n = (λ i. absurd i, λ i. i.1)

each_met : (n : ℕ) (x : Demand) (ds : List Demand) → Meets n x.need → MeetsAll n ds
    → MeetsAll n (x ∷ ds)
each_met n x ds i k d (inl e) = let P : Demand → Type 0 = λ z. Meets n z.need in subst P (sym e) i
each_met n x ds i k d (inr m) = k d m

reached_more : (x : Demand) (ds : List Demand) (r : Option ℕ) (n : ℕ)
    → Reaches (raise_all ds (raise x.need r)) n ↔ (Reaches (raise x.need r) n × MeetsAll n ds)
    → Reaches (raise_all (x ∷ ds) r) n ↔ (Reaches r n × MeetsAll n (x ∷ ds))
reached_more x ds r n later =
    let own = raise_reached x.need r n in (
      λ i. let k = later.0 i in let h = own.0 k.0 in (h.0, each_met n x ds h.1 k.1),
      λ i. later.1 (own.1 (i.0, i.1 x (inl refl)), λ d m. i.1 d (inr m)),
    )

-- a level reaches the raised one if it reached the former one and meets all demands
pub all_reached : (ds : List Demand) (r : Option ℕ) (n : ℕ)
    → Reaches (raise_all ds r) n ↔ (Reaches r n × MeetsAll n ds)
all_reached [] r n = (λ i. (i, λ d m. absurd m), λ i. i.0)
all_reached (x ∷ ds) r n = reached_more x ds r n (all_reached ds (raise x.need r) n)

-- ---- one verdict

-- a level is enough for the demands of a verdict exactly if the verdict has no level error at it
verdict_met : (s : LevelSetting) → s.maximum ≤ 4294967295 → (v : Verdict) → VerdictIsShared v
    → ((d : Demand) → IsDemandOfVerdict (record { action = s.action; schema = s.schema }) v d
    → Meets s.maximum d.need)
    ↔ VerdictIsWithin s v
verdict_met s le (succeeds x) h = demands_are_met s x le h
verdict_met s le (irrelevant es x) h = demands_are_met s x le h
verdict_met s le (fails es) h = (λ i e k. k, λ i d k. absurd k)

same_errors : (s : LevelSetting) (u v : Verdict) (e : Finding) → SameVerdict u v
    → IsErrorOfVerdict s u e → IsErrorOfVerdict s v e
same_errors s u v e same_success h = h
same_errors s u v e (same_irrelevant p) h = h
same_errors s u v e (same_failure p) h = h

module _ (b : Basis) (t : PlainTemplate) where
  -- two verdicts of an environment have the same level errors
  errors_alike : (n : ℕ) (env : Env) (u v : Verdict) (e : Finding)
      → ChecksOn b t env u → ChecksOn b t env v
      → IsErrorOfVerdict (levels_on b t n env) u e → IsErrorOfVerdict (levels_on b t n env) v e
  errors_alike n env u v e h k =
      same_errors (levels_on b t n env) u v e
      (verdict_at_most (setting_on b t.id env) (condition_of t) u v h k)

  -- ---- all environments

  -- none of these environments has a level error at n
  abbrev pub AreWithinLevel : List Env → ℕ → Type 0
  AreWithinLevel envs n =
      (env : Env) → IsOneOf env envs
      → (v : Verdict) → ChecksOn b t env v → VerdictIsWithin (levels_on b t n env) v

  -- each verdict of an environment that has this verdict is within the level
  of_this : (n : ℕ) (env : Env) (v : Verdict) → ChecksOn b t env v
      → VerdictIsWithin (levels_on b t n env) v → (env' : Env) → env' ≡ env → (v' : Verdict)
      → ChecksOn b t env' v' → VerdictIsWithin (levels_on b t n env') v'
  of_this n env v h i env' q v' c e w =
      let C : Env → Type 0 = λ z. ChecksOn b t z v' in
      let W : Env → Type 0 = λ z. IsErrorOfVerdict (levels_on b t n z) v' e in
      i e (errors_alike n env v' v e (subst C q c) h (subst W q w))

  -- n is enough for the demands of some environments
  abbrev AreMet : List Env → List Verdict → ℕ → Type 0
  AreMet envs vs n = (d : Demand) → IsDemandInSome b.schema envs vs d → Meets n d.need

  met_more : (n : ℕ) → n ≤ 4294967295 → (env : Env) (envs : List Env) (v : Verdict)
      (vs : List Verdict) → ChecksOn b t env v → VerdictIsShared v
      → AreMet envs vs n ↔ AreWithinLevel envs n
      → AreMet (env ∷ envs) (v ∷ vs) n ↔ AreWithinLevel (env ∷ envs) n
  met_more n le env envs v vs c shared others = (to, from)
    where
      own : ((d : Demand) → IsDemandOfVerdict (surroundings_at b.schema env) v d → Meets n d.need)
          ↔ VerdictIsWithin (levels_on b t n env) v
      own = verdict_met (levels_on b t n env) le v shared

      to : AreMet (env ∷ envs) (v ∷ vs) n → AreWithinLevel (env ∷ envs) n
      to i env' (inl q) v' c' = of_this n env v c (own.0 (λ d m. i d (inl m))) env' q v' c'
      to i env' (inr m) v' c' = others.0 (λ d j. i d (inr j)) env' m v' c'

      from : AreWithinLevel (env ∷ envs) n → AreMet (env ∷ envs) (v ∷ vs) n
      from i d (inl m) = own.1 (i env (inl refl) v c) d m
      from i d (inr m) = others.1 (λ env' j. i env' (inr j)) d m

  -- a level is enough for all demands exactly if no environment has a level error at it
  pub all_met : (n : ℕ) → n ≤ 4294967295 → (envs : List Env) (vs : List Verdict)
      → VerdictsOf (ChecksOn b t) envs vs
      → ((v : Verdict) (env : Env) → ChecksOn b t env v → VerdictIsShared v)
      → AreMet envs vs n ↔ AreWithinLevel envs n
  all_met n le [] vs h k = (λ i env m. absurd m, λ i d m. absurd m)
  all_met n le (env ∷ envs) [] h k = absurd h
  all_met n le (env ∷ envs) (v ∷ vs) h k =
      met_more n le env envs v vs h.0 (k v env h.0) (all_met n le envs vs h.1 k)

  -- n is enough for a policy exactly if it is enough for all environments in some order
  within_listed : (listed : List Env) → IsPermutation listed (checked_envs b.schema b.mode t)
      → (n : ℕ) → PolicyIsWithinLevel b t n ↔ AreWithinLevel listed n
  within_listed listed p n = (
    λ i env m. i env (moved listed _ p env m),
    λ i env m. i env (moved _ listed (IsPermutation-sym listed _ p) env m),
  )

  -- the required level is r, or none if r has more than 32 bits, if the levels that are enough for
  -- the policy are those that reach r
  pub required_is : (r : Option ℕ)
      → ((n : ℕ) → n ≤ 4294967295 → PolicyIsWithinLevel b t n ↔ Reaches r n)
      → IsRequiredLevel b t (of_32_bits r)
  required_is None h = λ n le i. (h n le).0 i
  required_is (Some k) h = go (nat_le k 4294967295) refl
    where
      go : (c : Bool) → nat_le k 4294967295 ≡ c
          → IsRequiredLevel b t (if c then Some k else None)
      go true e =
          let le = leb-true k 4294967295 e in (
            le,
            (h k le).1 (at_least_itself k),
            λ m l i. not_both m k l ((h m (smaller_within m k l le)).0 i),
          )
      go false e =
          λ n le i. larger_than_all k n (leb-false k 4294967295 e) le ((h n le).0 i)

  -- the least level of the demands of all environments is the required level
  pub least_is_required : (listed : List Env) (vs : List Verdict) (ds : List Demand)
      → IsPermutation listed (checked_envs b.schema b.mode t)
      → VerdictsOf (ChecksOn b t) listed vs
      → ((v : Verdict) (env : Env) → ChecksOn b t env v → VerdictIsShared v)
      → ((d : Demand) → IsOneOf d ds ↔ IsDemandInSome b.schema listed vs d)
      → IsRequiredLevel b t (of_32_bits (raise_all ds (Some 0)))
  least_is_required listed vs ds p h k same = required_is (raise_all ds (Some 0)) enough
    where
      enough : (n : ℕ) → n ≤ 4294967295
          → PolicyIsWithinLevel b t n ↔ Reaches (raise_all ds (Some 0)) n
      enough n le =
          let w = within_listed listed p n in
          let m = all_met n le listed vs h k in
          let r = all_reached ds (Some 0) n in (
            λ i. r.1 (at_least_none n, λ d j. m.1 (w.0 i) d ((same d).0 j)),
            λ i. w.1 (m.0 (λ d j. (r.0 i).1 d ((same d).1 j))),
          )

  -- ---- laws that follow

  larger_within : (k n : ℕ) → k ≤ n → (env : Env) (v : Verdict)
      → VerdictIsWithin (levels_on b t k env) v → VerdictIsWithin (levels_on b t n env) v
  larger_within k n le env (succeeds x) h =
      larger_levels_are_within (levels_on b t k env) n x le h
  larger_within k n le env (irrelevant es x) h =
      larger_levels_are_within (levels_on b t k env) n x le h
  larger_within k n le env (fails es) h = h

  reached : (r : Option ℕ) (n : ℕ) → IsRequiredLevel b t r → n ≤ 4294967295
      → PolicyIsWithinLevel b t n ↔ Reaches r n
  reached None n h le = (λ i. h n le i, λ i. absurd i)
  reached (Some k) n h le =
      (λ i. go i (nat_le k n) refl, λ i env m v c. larger_within k n i env v (h.1 env m v c))
    where
      go : PolicyIsWithinLevel b t n → (c : Bool) → nat_le k n ≡ c → k ≤ n
      go i true e = leb-true k n e
      go i false e = absurd (h.2 n (leb-false k n e) i)

  -- ---- laws with the outcome of the validation with levels

  -- an error of an environment's verdict is one of some environment
  in_some : (n : ℕ) (envs : List Env) (vs : List Verdict) → VerdictsOf (ChecksOn b t) envs vs
      → (env : Env) (v : Verdict) (e : Finding) → IsOneOf env envs → ChecksOn b t env v
      → IsErrorOfVerdict (levels_on b t n env) v e → IsErrorInSome (levels_on b t n) envs vs e
  in_some n [] vs h env v e m c w = absurd m
  in_some n (x ∷ envs) [] h env v e m c w = absurd h
  in_some n (x ∷ envs) (u ∷ vs) h env v e (inl i) c w =
      let C : Env → Type 0 = λ z. ChecksOn b t z v in
      let W : Env → Type 0 = λ z. IsErrorOfVerdict (levels_on b t n z) v e in
      inl (errors_alike n x v u e (subst C i c) h.0 (subst W i w))
  in_some n (x ∷ envs) (u ∷ vs) h env v e (inr m) c w = inr (in_some n envs vs h.1 env v e m c w)

  none_in_some : (n : ℕ) (envs : List Env) (vs : List Verdict) → VerdictsOf (ChecksOn b t) envs vs
      → AreWithinLevel envs n → (e : Finding) → IsErrorInSome (levels_on b t n) envs vs e → ⊥
  none_in_some n [] vs h k e i = i
  none_in_some n (x ∷ envs) [] h k e i = i
  none_in_some n (x ∷ envs) (v ∷ vs) h k e (inl i) = k x (inl refl) v h.0 e i
  none_in_some n (x ∷ envs) (v ∷ vs) h k e (inr i) =
      none_in_some n envs vs h.1 (λ env m. k env (inr m)) e i

  -- if no environment of a list, in some order, has a level error, the policy has none
  pub within_if_none_listed : (n : ℕ) (envs : List Env) (vs : List Verdict)
      → IsPermutation envs (checked_envs b.schema b.mode t) → VerdictsOf (ChecksOn b t) envs vs
      → ((e : Finding) → IsErrorInSome (levels_on b t n) envs vs e → ⊥) → PolicyIsWithinLevel b t n
  within_if_none_listed n envs vs p h none env m v c e w =
      none e (in_some n envs vs h env v e (moved _ envs (IsPermutation-sym envs _ p) env m) c w)

pub within_where_reached : WithinWhereReached
within_where_reached b t r n h le = reached b t r n h le

pub silent_where_reached : SilentWhereReached
silent_where_reached b t r n errors warnings h le o = (to, from)
  where
    enough : PolicyIsWithinLevel b t n ↔ Reaches r n
    enough = reached b t r n h le

    to : o.level_errors ≡ [] → Reaches r n
    to none =
        enough.0 (within_if_none_listed b t n o.listed o.verdicts o.in_some_order o.checked
        (λ e w. none_if_empty o.level_errors none e ((o.levels e).1 w)))

    from : Reaches r n → o.level_errors ≡ []
    from i =
        let k = enough.1 i in
        empty_if_none o.level_errors
        (λ e m. none_in_some b t n o.listed o.verdicts o.checked
        (λ env p. k env (moved o.listed _ o.in_some_order env p)) e ((o.levels e).0 m))

pub required_level_is_one : RequiredLevelIsOne
required_level_is_one b t None None h k = refl
required_level_is_one b t None (Some n) h k = absurd (h n k.0 k.1)
required_level_is_one b t (Some m) None h k = absurd (k m h.0 h.1)
required_level_is_one b t (Some m) (Some n) h k =
    ap Some
    (same_number m n ((reached b t (Some m) n h k.0).0 k.1) ((reached b t (Some n) m k h.0).0 h.1))
