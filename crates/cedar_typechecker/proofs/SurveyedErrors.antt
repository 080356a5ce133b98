-- The errors of a survey and their environments, as one environment after another is taken in.
use Rattle.std.proofs.Common.{◌≡◌, ◌↔◌, ℕ, ◌+◌, ◌≤◌, ◌<◌, min, nat_le, Bool, true, false, true≢false, cond, List, [], ◌∷◌, ◌++◌, map, length, take, Option, Some, None}
use Rattle.std.proofs.Common.{zero, suc, option_map, ◌⊎◌, inl, inr, refl, sym, ap, subst, ◌∙◌, arith}
use Rattle.std.specs.Bool.{Decides}
use Rattle.std.specs.Borrow.{Bor}
use Rattle.std.specs.BTreeMap.{BTreeMap, get, keys}
use Rattle.std.specs.Map.{lookup, keys_of}
use Rattle.std.specs.Prelude.{IsSome, unwrap_or}
use Rattle.std.proofs.lemmas.Bool.{leb-true, leb-false}
use Rattle.std.proofs.lemmas.List.{take-append-le, length-append, length-take, length-map}
use Rattle.cedar_types.specs.declared.base.errors.validation_errors.ValidationError.{ValidationError}
use Rattle.cedar_types.specs.declared.base.names.entities.EntityType.{EntityType}
use Rattle.cedar_types.specs.declared.base.types.RequestType.{RequestType}
use Rattle.cedar_types.specs.declared.types.request_env.RequestEnv.{RequestEnv}
use Rattle.cedar_types.specs.declared.types.request_env.RequestEnv.TheVariants.{DeclaredAction, UndeclaredAction}
use Rattle.cedar_types.specs.Environments.RequestEnvs.{Env, env_of, PlacedRequest, placed_request, request_in, principal_slot_in, resource_slot_in}
use Rattle.cedar_types.specs.ErrorOrder.{error_cmp}
use Rattle.cedar_types.specs.Errors.{Finding, finding_of}
use Rattle.cedar_types.specs.Names.{type_of, uid_of}
use Rattle.cedar_types.proofs.Comparisons.ErrorsDecided.{finding_eq, finding_eq-Decides}
use Rattle.cedar_typing.specs.Evaluation.Conformance.{IsOneOf}
use Rattle.cedar_typing.specs.PolicyCheck.{Verdict}
use Rattle.cedar_typing.specs.PolicyCheck.Outcome.{errors_in, all_errors}
use Rattle.cedar_typing.proofs.Basics.Gains.{in_either}
use Rattle.cedar_typing.proofs.Basics.Members.{in_left, in_right}
use Rattle.cedar_typing.proofs.Policies.Tallies.{is_tied, tie_decides}
use Rattle.cedar_typechecker.specs.declared.survey.environments.Environment.{Environment}
use Rattle.cedar_typechecker.specs.declared.survey.environments.Environments.{Environments}
use Rattle.cedar_typechecker.specs.Levels.Demands.{capped}
use Rattle.cedar_typechecker.specs.Levels.Outcome.{AreApart}
use Rattle.cedar_typechecker.specs.SurveyedErrors.{Request, about, about_env, IsListing, IsListingIfAny, here, elsewhere}
use Rattle.cedar_typechecker.specs.SurveyedErrors.{AddsEnvironment, HasEnvironments}

-- ---- the requests of an environment

abbrev pub request_seen : PlacedRequest → Request
request_seen p = record {
  principal = p.principal.name;
  action = p.action.uid;
  resource = p.resource.name;
}

pub request_about : (e : RequestEnv)
    → option_map request_seen (request_in e) ≡ (about_env (env_of e)).request
request_about (DeclaredAction p a r c ps rs) = refl
request_about UndeclaredAction = refl

pub principal_about : (e : RequestEnv)
    → option_map type_of (principal_slot_in e) ≡ (about_env (env_of e)).principal_slot
principal_about (DeclaredAction p a r c ps rs) = refl
principal_about UndeclaredAction = refl

pub resource_about : (e : RequestEnv)
    → option_map type_of (resource_slot_in e) ≡ (about_env (env_of e)).resource_slot
resource_about (DeclaredAction p a r c ps rs) = refl
resource_about UndeclaredAction = refl

pub request_kept : (t : Option RequestType)
    → option_map (λ t. record { principal = type_of t.principal; action = uid_of t.action; resource = type_of t.resource }) t
    ≡ option_map request_seen (option_map placed_request t)
request_kept None = refl
request_kept (Some t) = refl

pub types_lent : (t : Option (Bor EntityType))
    → option_map (λ t. type_of t.now) t ≡ option_map type_of (option_map (λ t. t.now) t)
types_lent None = refl
types_lent (Some t) = refl

-- ---- the environments of an error

map_more : {A B : Type 0} (f : A → B) (xs : List A) (x : A)
    → map f (xs ++ x ∷ []) ≡ map f xs ++ f x ∷ []
map_more f [] x = refl
map_more f (y ∷ xs) x = ap (λ z. f y ∷ z) (map_more f xs x)

take_none : {A : Type 0} (n : ℕ) → ◌≡◌ {A = List A} (take n []) []
take_none zero = refl
take_none (suc n) = refl

take_more : {A : Type 0} (n : ℕ) (xs : List A) (x : A) → length xs < n
    → take n (xs ++ x ∷ []) ≡ take n xs ++ x ∷ []
take_more zero xs x h = absurd (omega arith)
take_more (suc n) [] x h = ap (λ z. x ∷ z) (take_none n)
take_more (suc n) (y ∷ xs) x h = ap (λ z. y ∷ z) (take_more n xs x (omega arith))

not_empty : {A : Type 0} (xs : List A) (x : A) → xs ++ x ∷ [] ≡ [] → ⊥
not_empty [] x h = cc
not_empty (y ∷ xs) x h = cc

module _ (own : List Env) (env : Env) (o o' : Environments) (h : IsListing own o)
    (counted : o'.count ≡ capped (o.count + 1)) where
  count_more : o'.count ≡ capped (length (own ++ env ∷ []))
  count_more =
      let a : o.count ≡ capped (length own) = h.count in
      let l : length (own ++ env ∷ []) ≡ length own + 1 = length-append own (env ∷ []) in
      omega arith

  so_many : length o.listed.items ≡ min 5 (length own)
  so_many =
      sym (length-map o.listed.items about)
      ∙ (ap length h.first ∙ (length-map (take 5 own) about_env ∙ length-take 5 own))

  pub listing_longer : (e : Environment) → about e ≡ about_env env → length o.listed.items < 5
      → o'.listed.items ≡ o.listed.items ++ e ∷ [] → IsListing (own ++ env ∷ []) o'
  listing_longer e q few pushed = record {
    count = count_more;
    first = ap (map about) pushed
        ∙ (map_more about o.listed.items e
        ∙ ((λ i. h.first i ++ q i ∷ [])
        ∙ (sym (map_more about_env (take 5 own) env) ∙ ap (map about_env) (sym taken))));
  }
    where
      taken : take 5 (own ++ env ∷ []) ≡ take 5 own ++ env ∷ []
      taken = let n = so_many in take_more 5 own env (omega arith)

  pub listing_full : (length o.listed.items < 5 → ⊥) → o'.listed.items ≡ o.listed.items
      → IsListing (own ++ env ∷ []) o'
  listing_full many same = record {
    count = count_more;
    first = ap (map about) same ∙ (h.first ∙ ap (map about_env) (sym taken));
  }
    where
      taken : take 5 (own ++ env ∷ []) ≡ take 5 own
      taken = take-append-le 5 own (env ∷ []) (go (nat_le 5 (length own)) refl)
        where
          go : (b : Bool) → nat_le 5 (length own) ≡ b → 5 ≤ length own
          go true q = leb-true 5 (length own) q
          go false q =
              let l = leb-false 5 (length own) q in
              let n = so_many in
              absurd (many (omega arith))

-- ---- look-ups by errors

decided_alike : {P Q : Type 0} (a b : Bool) → Decides a P → Decides b Q → (P → Q) → (Q → P) → a ≡ b
decided_alike true true d e f g = refl
decided_alike false false d e f g = refl
decided_alike true false d e f g = sym (e.1 (f (d.0 refl)))
decided_alike false true d e f g = d.1 (g (e.0 refl))

-- errors with one finding are tied with the same errors
ties_alike : (x k q : ValidationError) → finding_of x ≡ finding_of k → is_tied x q ≡ is_tied k q
ties_alike x k q e =
    decided_alike (is_tied x q) (is_tied k q) (tie_decides x q) (tie_decides k q)
    (λ h. sym e ∙ h) (λ h. e ∙ h)

module _ {X : Type 0} where
  lookup_alike : (x k : ValidationError) (es : List (ValidationError × X)) → finding_of x ≡ finding_of k
      → lookup (is_tied x) es ≡ lookup (is_tied k) es
  lookup_alike x k [] e = refl
  lookup_alike x k (p ∷ es) e =
      λ i. cond (ties_alike x k p.0 e i) (Some p.1) (lookup_alike x k es e i)

  pub some_at_key : (x : ValidationError) (es : List (ValidationError × X))
      → IsSome (lookup (is_tied x) es) → IsOneOf (finding_of x) (map finding_of (keys_of es))
  some_at_key x [] h = absurd (true≢false (sym h))
  some_at_key x (p ∷ es) h = go (is_tied x p.0) refl (some_at_key x es) h
    where
      go : (b : Bool) → is_tied x p.0 ≡ b
          → (IsSome (lookup (is_tied x) es) → IsOneOf (finding_of x) (map finding_of (keys_of es)))
          → IsSome (cond b (Some p.1) (lookup (is_tied x) es))
          → IsOneOf (finding_of x) (finding_of p.0 ∷ map finding_of (keys_of es))
      go true q k i = inl ((tie_decides x p.0).0 q)
      go false q k i = inr (k i)

  pub key_has_some : (x : ValidationError) (es : List (ValidationError × X))
      → IsOneOf (finding_of x) (map finding_of (keys_of es)) → IsSome (lookup (is_tied x) es)
  key_has_some x [] h = absurd h
  key_has_some x (p ∷ es) h = go (is_tied x p.0) refl (key_has_some x es) h
    where
      go : (b : Bool) → is_tied x p.0 ≡ b
          → (IsOneOf (finding_of x) (map finding_of (keys_of es)) → IsSome (lookup (is_tied x) es))
          → IsOneOf (finding_of x) (finding_of p.0 ∷ map finding_of (keys_of es))
          → IsSome (cond b (Some p.1) (lookup (is_tied x) es))
      go true q k i = refl
      go false q k (inl e) = absurd (true≢false (sym ((tie_decides x p.0).1 e) ∙ q))
      go false q k (inr i) = k i

  -- the finding of a key is that of some error
  pub of_key : (f : Finding) (es : List (ValidationError × X)) → IsOneOf f (map finding_of (keys_of es))
      → (x : ValidationError) × (finding_of x ≡ f)
  of_key f [] h = absurd h
  of_key f (p ∷ es) (inl e) = (p.0, sym e)
  of_key f (p ∷ es) (inr i) = of_key f es i

-- ---- one more verdict

neither : (f e : Finding) (es : List Finding) → finding_eq f e ≡ false → (IsOneOf f es → ⊥)
    → IsOneOf f (e ∷ es) → ⊥
neither f e es q n (inl p) = true≢false (sym ((finding_eq-Decides f e).1 p) ∙ q)
neither f e es q n (inr i) = n i

decide_more : (f e : Finding) (es : List Finding) (b : Bool) → finding_eq f e ≡ b
    → IsOneOf f es ⊎ (IsOneOf f es → ⊥) → IsOneOf f (e ∷ es) ⊎ (IsOneOf f (e ∷ es) → ⊥)
decide_more f e es true q h = inl (inl ((finding_eq-Decides f e).0 q))
decide_more f e es false q (inl i) = inl (inr i)
decide_more f e es false q (inr n) = inr (neither f e es q n)

decide_member : (f : Finding) (es : List Finding) → IsOneOf f es ⊎ (IsOneOf f es → ⊥)
decide_member f [] = inr (λ i. i)
decide_member f (e ∷ es) = decide_more f e es (finding_eq f e) refl (decide_member f es)

-- a finding of these errors is that of one of them
of_error : (f : Finding) (xs : List ValidationError) → IsOneOf f (map finding_of xs)
    → (x : ValidationError) × (finding_of x ≡ f)
of_error f [] h = absurd h
of_error f (x ∷ xs) (inl e) = (x, sym e)
of_error f (x ∷ xs) (inr i) = of_error f xs i

abbrev Kept : Type 0
Kept = BTreeMap ValidationError Environments

abbrev pub HoldsErrors : Kept → List Verdict → Type 0
HoldsErrors m vs = (f : Finding) → IsOneOf f (map finding_of (keys m)) ↔ IsOneOf f (all_errors vs)

abbrev pub HoldsEnvironments : Kept → List Env → List Verdict → Type 0
HoldsEnvironments m envs vs =
    (x : ValidationError) → HasEnvironments (finding_of x) envs vs (get error_cmp m x)

module _ (env : Env) (envs : List Env) (v : Verdict) (vs : List Verdict) (old new : Kept) where
  -- a verdict without errors adds none
  module _ (same : new ≡ old) (none : (f : Finding) → IsOneOf f (errors_in v) → ⊥) where
    pub quiet_errors : HoldsErrors old vs → HoldsErrors new (v ∷ vs)
    quiet_errors h f =
        let P : Kept → Type 0 = λ m. IsOneOf f (map finding_of (keys m))
        ↔ IsOneOf f (errors_in v ++ all_errors vs) in
        subst P (sym same) (
          λ i. in_right f (errors_in v) (all_errors vs) ((h f).0 i),
          λ i. go (in_either f (errors_in v) (all_errors vs) i),
        )
      where
        go : IsOneOf f (errors_in v) ⊎ IsOneOf f (all_errors vs)
            → IsOneOf f (map finding_of (keys old))
        go (inl i) = absurd (none f i)
        go (inr i) = (h f).1 i

    pub quiet_environments : HoldsEnvironments old envs vs → HoldsEnvironments new (env ∷ envs) (v ∷ vs)
    quiet_environments h x =
        let w = h x in
        let P : Kept → Type 0 = λ m. IsListingIfAny w.0 (get error_cmp m x) in
        (w.0, elsewhere (none (finding_of x)) w.1, subst P (sym same) w.2)

  -- a verdict with these errors adds its environment to each
  module _ (xs : List ValidationError) (own : errors_in v ≡ map finding_of xs)
      (added : (x : ValidationError) → AddsEnvironment env (map finding_of xs) (finding_of x)
      (get error_cmp old x) (get error_cmp new x)) where
    in_own : (f : Finding) → IsOneOf f (map finding_of xs) → IsOneOf f (errors_in v)
    in_own f i = let P : List Finding → Type 0 = λ es. IsOneOf f es in subst P (sym own) i

    from_own : (f : Finding) → IsOneOf f (errors_in v) → IsOneOf f (map finding_of xs)
    from_own f i = let P : List Finding → Type 0 = λ es. IsOneOf f es in subst P own i

    -- the finding of an error that is kept now is one of these errors, or was kept before
    key_now : (x : ValidationError) → IsOneOf (finding_of x) (map finding_of (keys new))
        → IsOneOf (finding_of x) (map finding_of xs) ⊎ IsOneOf (finding_of x) (map finding_of (keys old))
    key_now x i = go (decide_member (finding_of x) (map finding_of xs))
      where
        go : IsOneOf (finding_of x) (map finding_of xs) ⊎ (IsOneOf (finding_of x) (map finding_of xs) → ⊥)
            → IsOneOf (finding_of x) (map finding_of xs) ⊎ IsOneOf (finding_of x) (map finding_of (keys old))
        go (inl j) = inl j
        go (inr n) =
            let some = key_has_some x new.entries i in
            inr (some_at_key x old.entries (subst IsSome ((added x).kept n) some))

    key_then : (x : ValidationError)
        → IsOneOf (finding_of x) (map finding_of xs) ⊎ IsOneOf (finding_of x) (map finding_of (keys old))
        → IsOneOf (finding_of x) (map finding_of (keys new))
    key_then x (inl i) = some_at_key x new.entries ((added x).there i)
    key_then x (inr i) = go (decide_member (finding_of x) (map finding_of xs))
      where
        go : IsOneOf (finding_of x) (map finding_of xs) ⊎ (IsOneOf (finding_of x) (map finding_of xs) → ⊥)
            → IsOneOf (finding_of x) (map finding_of (keys new))
        go (inl j) = some_at_key x new.entries ((added x).there j)
        go (inr n) =
            let some = key_has_some x old.entries i in
            some_at_key x new.entries (subst IsSome (sym ((added x).kept n)) some)

    pub loud_errors : HoldsErrors old vs → HoldsErrors new (v ∷ vs)
    loud_errors h f = (to, λ i. from (in_either f (errors_in v) (all_errors vs) i))
      where
        joined : IsOneOf f (map finding_of xs) ⊎ IsOneOf f (map finding_of (keys old))
            → IsOneOf f (errors_in v ++ all_errors vs)
        joined (inl i) = in_left f (errors_in v) (all_errors vs) (in_own f i)
        joined (inr i) = in_right f (errors_in v) (all_errors vs) ((h f).0 i)

        to : IsOneOf f (map finding_of (keys new)) → IsOneOf f (errors_in v ++ all_errors vs)
        to i =
            let w = of_key f new.entries i in
            let P : Finding → Type 0 = λ z. IsOneOf z (map finding_of (keys new))
            → IsOneOf z (map finding_of xs) ⊎ IsOneOf z (map finding_of (keys old)) in
            joined (subst P w.1 (key_now w.0) i)

        at : (x : ValidationError) → finding_of x ≡ f
            → IsOneOf f (map finding_of xs) ⊎ IsOneOf f (map finding_of (keys old))
            → IsOneOf f (map finding_of (keys new))
        at x e i =
            let P : Finding → Type 0 = λ z.
            IsOneOf z (map finding_of xs) ⊎ IsOneOf z (map finding_of (keys old))
            → IsOneOf z (map finding_of (keys new)) in
            subst P e (key_then x) i

        from : IsOneOf f (errors_in v) ⊎ IsOneOf f (all_errors vs) → IsOneOf f (map finding_of (keys new))
        from (inl i) =
            let j = from_own f i in
            let w = of_error f xs j in
            at w.0 w.1 (inl j)
        from (inr i) =
            let j = (h f).1 i in
            let w = of_key f old.entries j in
            at w.0 w.1 (inr j)

    pub loud_environments : HoldsEnvironments old envs vs → HoldsEnvironments new (env ∷ envs) (v ∷ vs)
    loud_environments h x = go (decide_member (finding_of x) (map finding_of xs)) (h x)
      where
        go : IsOneOf (finding_of x) (map finding_of xs) ⊎ (IsOneOf (finding_of x) (map finding_of xs) → ⊥)
            → HasEnvironments (finding_of x) envs vs (get error_cmp old x)
            → HasEnvironments (finding_of x) (env ∷ envs) (v ∷ vs) (get error_cmp new x)
        go (inl i) w = (w.0 ++ env ∷ [], here (in_own (finding_of x) i) w.1, (added x).gained i w.0 w.2)
        go (inr n) w = (
          w.0,
          elsewhere (λ i. n (from_own (finding_of x) i)) w.1,
          subst (IsListingIfAny w.0) (sym ((added x).kept n)) w.2,
        )

-- ---- one more environment for some errors

-- the listing that was kept, or the empty one if none was
pub unwrapped : (found : Option Environments) (none : Environments) → IsListing [] none
    → (own : List Env) → IsListingIfAny own found → IsListing own (unwrap_or found none)
unwrapped (Some o) none d own h = h.0
unwrapped None none d own h = let P : List Env → Type 0 = λ es. IsListing es none in subst P (sym h) d

-- at an error that is tied with k, and at each other
at_tied : (env : Env) (k x : ValidationError) (was now : Option Environments) (o o' : Environments)
    → finding_of k ≡ finding_of x → now ≡ Some o'
    → ((own : List Env) → IsListingIfAny own was → IsListing own o)
    → ((own : List Env) → IsListing own o → IsListing (own ++ env ∷ []) o')
    → AddsEnvironment env (finding_of k ∷ []) (finding_of x) was now
at_tied env k x was now o o' e q before added = record {
  gained = λ i own h.
      subst (IsListingIfAny (own ++ env ∷ [])) (sym q)
      (added own (before own h), not_empty own env);
  there = λ i. subst IsSome (sym q) refl;
  kept = λ n. absurd (n (inl (sym e)));
}

at_other : (env : Env) (k x : ValidationError) (was now : Option Environments)
    → (finding_of k ≡ finding_of x → ⊥) → now ≡ was
    → AddsEnvironment env (finding_of k ∷ []) (finding_of x) was now
at_other env k x was now n q = record {
  gained = λ i own h. absurd (other i);
  there = λ i. absurd (other i);
  kept = λ m. q;
}
  where
    other : IsOneOf (finding_of x) (finding_of k ∷ []) → ⊥
    other (inl e) = n (sym e)
    other (inr i) = i

pub one_added : (env : Env) (k x : ValidationError) (old mid new : Kept) (o o' : Environments)
    → ((own : List Env) → IsListingIfAny own (get error_cmp old k) → IsListing own o)
    → ((own : List Env) → IsListing own o → IsListing (own ++ env ∷ []) o')
    → get error_cmp mid x ≡ cond (is_tied k x) None (get error_cmp old x)
    → get error_cmp new x ≡ cond (is_tied k x) (Some o') (get error_cmp mid x)
    → AddsEnvironment env (finding_of k ∷ []) (finding_of x) (get error_cmp old x)
    (get error_cmp new x)
one_added env k x old mid new o o' before added removed inserted =
    go (is_tied k x) refl removed inserted
  where
    go : (b : Bool) → is_tied k x ≡ b
        → get error_cmp mid x ≡ cond b None (get error_cmp old x)
        → get error_cmp new x ≡ cond b (Some o') (get error_cmp mid x)
        → AddsEnvironment env (finding_of k ∷ []) (finding_of x) (get error_cmp old x)
        (get error_cmp new x)
    go true q r i =
        let e = (tie_decides k x).0 q in
        let P : Option Environments → Type 0 = λ w. (own : List Env) → IsListingIfAny own w
        → IsListing own o in
        at_tied env k x (get error_cmp old x) (get error_cmp new x) o o' e i
        (subst P (lookup_alike k x old.entries e) before) added
    go false q r i =
        at_other env k x (get error_cmp old x) (get error_cmp new x)
        (λ e. true≢false (sym ((tie_decides k x).1 e) ∙ q)) (i ∙ r)

-- one more error, which is none of those before
pub one_more_error : (env : Env) (es : List Finding) (f x : Finding)
    (old mid new : Option Environments) → (IsOneOf f es → ⊥)
    → AddsEnvironment env es x old mid → AddsEnvironment env (f ∷ []) x mid new
    → AddsEnvironment env (es ++ f ∷ []) x old new
one_more_error env es f x old mid new apart h k = record {
  gained = λ i own l. gain (in_either x es (f ∷ []) i) own l;
  there = λ i. some (in_either x es (f ∷ []) i);
  kept = λ n.
      k.kept (λ i. n (in_right x es (f ∷ []) i)) ∙ h.kept (λ i. n (in_left x es (f ∷ []) i));
}
  where
    -- if x is one of those before, it is not f
    not_this : IsOneOf x es → IsOneOf x (f ∷ []) → ⊥
    not_this i (inl e) = let P : Finding → Type 0 = λ z. IsOneOf z es in apart (subst P e i)
    not_this i (inr j) = j

    not_before : IsOneOf x (f ∷ []) → IsOneOf x es → ⊥
    not_before j i = not_this i j

    gain : IsOneOf x es ⊎ IsOneOf x (f ∷ []) → (own : List Env) → IsListingIfAny own old
        → IsListingIfAny (own ++ env ∷ []) new
    gain (inl i) own l =
        subst (IsListingIfAny (own ++ env ∷ [])) (sym (k.kept (not_this i))) (h.gained i own l)
    gain (inr j) own l =
        k.gained j own (subst (IsListingIfAny own) (sym (h.kept (not_before j))) l)

    some : IsOneOf x es ⊎ IsOneOf x (f ∷ []) → IsSome new
    some (inl i) = subst IsSome (sym (k.kept (not_this i))) (h.there i)
    some (inr j) = k.there j

-- the errors may be replaced by another list with the same members
pub added_alike : (env : Env) (es fs : List Finding) (x : Finding) (old new : Option Environments)
    → (IsOneOf x es → IsOneOf x fs) → (IsOneOf x fs → IsOneOf x es)
    → AddsEnvironment env es x old new → AddsEnvironment env fs x old new
added_alike env es fs x old new f g h = record {
  gained = λ i. h.gained (g i);
  there = λ i. h.there (g i);
  kept = λ n. h.kept (λ i. n (f i));
}

-- without errors nothing is added
pub none_added : (env : Env) (x : Finding) (o : Option Environments) → AddsEnvironment env [] x o o
none_added env x o = record {
  gained = λ i own h. absurd i;
  there = λ i. absurd i;
  kept = λ n. refl;
}

-- a member of a list whose members are apart is none of those before it
pub apart_before : (xs : List Finding) (f : Finding) (ys : List Finding) → AreApart (xs ++ f ∷ ys)
    → IsOneOf f xs → ⊥
apart_before [] f ys h i = i
apart_before (x ∷ xs) f ys h (inl e) =
    let P : Finding → Type 0 = λ z. IsOneOf z (xs ++ f ∷ ys) in
    h.0 (subst P e (in_right f xs (f ∷ ys) (inl refl)))
apart_before (x ∷ xs) f ys h (inr i) = apart_before xs f ys h.1 i

pub findings_joined : (xs ys : List ValidationError)
    → map finding_of (xs ++ ys) ≡ map finding_of xs ++ map finding_of ys
findings_joined [] ys = refl
findings_joined (x ∷ xs) ys = ap (λ z. finding_of x ∷ z) (findings_joined xs ys)
