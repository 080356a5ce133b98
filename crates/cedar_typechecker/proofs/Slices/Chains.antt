-- Extended `has` evaluates over the part of a store as over the whole store.
use Rattle.std.proofs.Common.{◌≡◌, ℕ, ◌+◌, ◌≤◌, false, true, List, [], Option, Some, None, refl, ◌∙◌, ap, arith}
use Rattle.cedar_types.specs.declared.base.location.Loc.{Loc}
use Rattle.cedar_types.specs.Names.{Text, Uid}
use Rattle.cedar_types.specs.Environments.RequestEnvs.{is_partial}
use Rattle.cedar_types.specs.Values.Stores.{Store}
use Rattle.cedar_types.specs.Types.{Ty, TRecord, TEntity, TAnyEntity}
use Rattle.cedar_types.specs.Values.{Value, HasType}
use Rattle.cedar_types.specs.Expressions.View.{Written}
use Rattle.cedar_typing.specs.Capabilities.{Caps}
use Rattle.cedar_typing.specs.Eager.{gives}
use Rattle.cedar_typing.specs.Evaluation.Eval.{path_test}
use Rattle.cedar_typing.specs.Evaluation.Outcomes.{of_test, then_test}
use Rattle.cedar_typing.specs.Evaluation.World.{Request, Outcome, Gives, Fails}
use Rattle.cedar_typing.specs.Judgments.{Judgment}
use Rattle.cedar_typing.specs.Rules.Chains.{no_steps, chain, chain_table, chain_form}
use Rattle.cedar_typing.specs.Rules.Eager.{one_operand_rules, also_derived, none_derived, eager_typed}
use Rattle.cedar_typing.specs.Setting.{Setting}
use Rattle.cedar_typing.specs.Soundness.{OnValue, HasFound}
use Rattle.cedar_typing.specs.TypeEnv.{TypeEnv}
use Rattle.cedar_typing.specs.TypedExpr.{Source, TypedTree, annotation, place_of}
use Rattle.cedar_typechecker.specs.Levels.Chains.{a_record, base_of_type, base_of}
use Rattle.cedar_typechecker.specs.Levels.Costs.{steps_cost, keys_to_entity, cost_of, keys_of}
use Rattle.cedar_typechecker.specs.Slices.Soundness.{levels_in}
use Rattle.cedar_typechecker.proofs.Levels.Silent.{OnKeysOf, Leaves, ByChain, Silent, Targeted}
use Rattle.cedar_typechecker.proofs.Slices.ChainRecords.{entity_not_record, IsReachedAlong, IsKnown, record_path}
use Rattle.cedar_typechecker.proofs.Slices.ChainSteps.{step_object}
use Rattle.cedar_typechecker.proofs.Slices.ChainValues.{AreKept, ObjectOf, of_entity, of_record, both_on, object_of, IsTestedAlike}
use Rattle.cedar_typechecker.proofs.Slices.ChainValues.{reached_path}
use Rattle.cedar_typechecker.proofs.Slices.Ids.{Selected}
use Rattle.cedar_typechecker.proofs.Slices.Same.{IsReached, IsSame}
use Rattle.cedar_typechecker.proofs.Slices.Stores.{Agrees}

-- the type that was found, if there is one, is in N
abbrev pub IsKeptType : (Ty → Type 0) → Option Ty → Type 0
IsKeptType N None = Unit {0}
IsKeptType N (Some s) = N s

no_object : (X : Type 0) → false ≡ true → X
no_object X h = cc

any_value : (o : Outcome) → OnValue (λ v. Unit {0}) o
any_value (Gives v) = tt
any_value (Fails f) = tt

module _ (q : Request) (store part : Store) (n : ℕ) (P : ℕ → Uid → Type 0)
    (a : Agrees q store part n P) (env : TypeEnv) (N : Ty → Type 0)
    (kept : AreKept env store N) (total : is_partial env.mode ≡ false) where
  abbrev IsAlike : Text → List Text → Value → Type 0
  IsAlike = IsTestedAlike store part

  abbrev Known : Ty → Text → List Text → Value → Type 0
  Known = IsKnown n P env.schema

  abbrev Along : ℕ → Value → List Text → Type 0
  Along = IsReachedAlong n P

  module _ (m : Written) (prior : Caps) (e : Source) (x : Text) (xs : List Text)
      (t : Ty) (c : Caps) (o o' : Outcome) (targeted : List Text → ℕ → Type 0) (silent : Type 0)
      (of_target : (path : List Text) (k : ℕ) → k ≤ n → targeted path k → IsReached P path k o o')
      (of_checked : silent → o' ≡ o) where
    abbrev IsWholeSame : Type 0
    IsWholeSame =
        of_test (then_test o' (path_test part x xs)) ≡ of_test (then_test o (path_test store x xs))

    -- ---- from the base's own outcome

    by_value : (o : Outcome) → OnValue (IsAlike x xs) o
        → then_test o (path_test part x xs) ≡ then_test o (path_test store x xs)
    by_value (Gives v) h = h
    by_value (Fails f) h = refl

    whole : o' ≡ o → OnValue (IsAlike x xs) o → IsWholeSame
    whole f h =
        ap (λ z. of_test (then_test z (path_test part x xs))) f ∙ ap of_test (by_value o h)

    -- the ids of the target at the keys are reached
    known_at : (cost : ℕ) (keys : Option (List Text))
        → OnKeysOf keys (λ path. Leaves n (0 + cost) (targeted path))
        → OnValue (λ v. OnKeysOf keys (Along cost v)) o
    known_at cost None h = any_value o
    known_at cost (Some path) h = pair o (of_target path h.0 (omega (arith, h.1)) h.2).ids
      where
        pair : (o : Outcome) → OnValue (Selected (P h.0) path) o
            → OnValue (λ v. Along cost v path) o
        pair (Gives v) i = (h.0, omega (arith, h.1), i)
        pair (Fails f) i = tt

    -- ---- by the type of the base

    abbrev IsDerived : Ty → Type 0
    IsDerived s = chain env (place_of e) m.place prior xs e s x no_steps ≡ gives t c

    at_record : (s : Ty) → N s → IsDerived s → base_of_type s ≡ a_record
        → (v : Value) → HasType s v → Known s x xs v → IsAlike x xs v
    at_record s i d b v h k =
        by v
        (object_of N kept.no_any_entity s v i
        (step_object env total prior t c (place_of e) m.place xs e s x no_steps d) h) h k
      where
        by : (v : Value) → ObjectOf s v → HasType s v → Known s x xs v → IsAlike x xs v
        by v (of_entity b') h k = entity_not_record s _ b' b
        by v (of_record {es = es} b') h k =
            record_path q store part n P a env N kept total prior t c (place_of e) m.place xs e s x
            no_steps es i h d k

    chain_checked : (found : Option Ty) → HasFound found o → IsKeptType N found
        → chain_table env m.place prior e x xs found ≡ gives t c
        → ByChain (base_of found) n (cost_of env.schema found x xs)
        (keys_of env.schema found x xs) silent targeted
        → IsWholeSame
    chain_checked None h i d b = cc
    chain_checked (Some (TEntity ps)) h i d b =
        let z = of_target [] b.0 (omega (arith, b.1)) b.2 in
        whole z.same
        (both_on o
        (λ v w ids. reached_path q store part n P a env N kept total prior t c (place_of e) m.place
        xs e (TEntity ps) x no_steps v b.0 i w d ids b.1)
        h z.ids)
    chain_checked (Some (TRecord ys p)) h i d b =
        let s = TRecord ys p in
        let keys = keys_to_entity env.schema s x xs in
        whole (of_checked b.1)
        (both_on o (at_record s i d refl) h (known_at (steps_cost env.schema s x xs) keys b.2))
    chain_checked (Some TAnyEntity) h i d b = absurd (kept.no_any_entity i)
    chain_checked (Some s) h i d b =
        no_object _ (step_object env total prior t c (place_of e) m.place xs e s x no_steps d)

-- ---- the form

module _ (q : Request) (store part : Store) (s : Setting) (n : ℕ) (P : ℕ → Uid → Type 0)
    (a : Agrees q store part n P) (N : Ty → Type 0) (kept : AreKept s.env store N)
    (total : is_partial s.env.mode ≡ false)
    (m : Written) (prior : Caps) (e : Source) (x : Text) (xs : List Text) (l : Option Loc)
    (o o' : Outcome) (J : Judgment)
    (found : (t : Ty) (c : Caps) (y : TypedTree) → J.derives t c y → HasFound (annotation y) o)
    (types : (t : Ty) (c : Caps) (y : TypedTree) → J.derives t c y → IsKeptType N (annotation y))
    (base : IsSame (levels_in s n) P o o' J) where
  abbrev Whole : Judgment
  Whole = one_operand_rules s.env (chain_form s.env m prior e x xs) l J

  abbrev here : Outcome
  here = of_test (then_test o (path_test store x xs))

  abbrev there : Outcome
  there = of_test (then_test o' (path_test part x xs))

  form_checked : (t : Ty) (c : Caps) (z : TypedTree) → Whole.derives t c z
      → Silent (levels_in s n) z → there ≡ here
  form_checked t c z (eager_typed (also_derived {t = u} {c = k} {x = y} d i none_derived) dec) h =
      chain_checked q store part n P a s.env N kept total m prior e x xs t c o o'
      (Targeted (levels_in s n) y) (Silent (levels_in s n) y)
      (λ path k' le w. base.target u k y d path k' le w) (λ w. base.checked u k y d w)
      (annotation y) (found u k y d) (types u k y d) dec h

  form_target : (t : Ty) (c : Caps) (z : TypedTree) → Whole.derives t c z
      → (path : List Text) (k : ℕ) (X : Type 0) → Targeted (levels_in s n) z path k → X
  form_target t c z (eager_typed (also_derived d i none_derived) dec) path k X h = absurd h

  pub chain_same : IsSame (levels_in s n) P here there Whole
  chain_same = record {
    checked = form_checked;
    target = λ t c z d path k le h. form_target t c z d path k _ h;
  }
