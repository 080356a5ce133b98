-- A policy that passes keeps both halves of the promise if no error is of names or of levels, and
-- at its required level.
use Rattle.std.proofs.Common.{◌≡◌, inl, inr, ℕ, Bool, true, false, true≢false, nat_lt, nat_le, if◌then◌else◌, List, [], ◌∷◌, ◌++◌, map, Option, Some, None}
use Rattle.std.proofs.Common.{refl, sym, ◌∙◌, ap, subst}
use Rattle.std.proofs.lemmas.List.Sorted.{IsPermutation-sym}
use Rattle.cedar_types.specs.declared.base.types.ValidationMode.{ValidationMode}
use Rattle.cedar_types.specs.declared.base.types.ValidationMode.TheVariants.{Strict, Permissive, Partial}
use Rattle.cedar_types.specs.Environments.Linking.{checked_envs}
use Rattle.cedar_types.specs.Environments.RequestEnvs.{Env, is_partial}
use Rattle.cedar_types.specs.Errors.{Fault, Finding, Warning}
use Rattle.cedar_types.specs.Expressions.Tree.{binary, get_attr, has_attr}
use Rattle.cedar_types.specs.Expressions.Tree.{ext_has_attr}
use Rattle.cedar_types.specs.Extensions.Functions.{table_fault}
use Rattle.cedar_types.specs.Names.{Text}
use Rattle.cedar_types.specs.Schemas.{Schema, has_fault}
use Rattle.cedar_types.specs.Templates.Findings.{unknown_types, unknown_actions, wrong_members}
use Rattle.cedar_types.specs.Templates.{PlainTemplate}
use Rattle.cedar_typing.specs.Evaluation.Conformance.{IsOneOf}
use Rattle.cedar_typing.specs.Evaluation.World.{World}
use Rattle.cedar_typing.specs.Modes.{IsFormedFor}
use Rattle.cedar_typing.specs.PolicyCheck.{Verdict, succeeds, irrelevant, fails}
use Rattle.cedar_typing.specs.Soundness.Policies.{Basis, IsSoundAndClosed, IsNamedBySchema, IsWellFormed, IsConforming, CheckedOn}
use Rattle.cedar_typing.specs.TypedExpr.{TypedTree, annotation}
use Rattle.cedar_typing.proofs.Basics.Members.{moved, in_left, in_right, reordered}
use Rattle.cedar_typing.proofs.Soundness.Policies.{promises_are_kept}
use Rattle.cedar_typechecker.specs.Levels.Chains.{Base, an_entity, a_record, neither, base_of, Leaf, good_leaf, literal_leaf, bad_leaf, leaf_of}
use Rattle.cedar_typechecker.specs.Levels.Chains.{level}
use Rattle.cedar_typechecker.specs.Levels.Costs.{cost_of, keys_of}
use Rattle.cedar_typechecker.specs.Levels.Dereferences.{accesses_first}
use Rattle.cedar_typechecker.specs.Levels.Errors.{unless_below, unless_within, faults_of_base, level_at_keys, faults_of_chain, faults}
use Rattle.cedar_typechecker.specs.Levels.Errors.{faults_at_leaf, faults_at_end, IsLevelError, at_checked, at_target}
use Rattle.cedar_typechecker.specs.Levels.Outcome.{levels_on, IsErrorOfVerdict, IsErrorInSome, name_findings, LevelOutcome}
use Rattle.cedar_typechecker.specs.Levels.Required.{IsRequiredLevel}
use Rattle.cedar_typechecker.specs.Levels.Setting.{LevelSetting}
use Rattle.cedar_typechecker.specs.Slices.Passing.{is_of_names_or_levels, NoneOfNamesOrLevels, PassingIsKept}
use Rattle.cedar_typechecker.specs.Slices.Passing.{RequiredLevelSuffices}
use Rattle.cedar_typechecker.specs.Slices.Policies.{PolicyIsWithinLevel}
use Rattle.cedar_typechecker.specs.Slices.Validation.{IsKeptInSlices}
use Rattle.cedar_typechecker.proofs.Slices.Policies.{passing_needs_slice_alone}
use Rattle.cedar_typechecker.proofs.Slices.Validation.{listed_within, IsWithin}
use Rattle.cedar_typechecker.proofs.Validations.{nothing_in}

-- ---- the faults of the rules of levels are of levels

abbrev AreOfLevels : List Fault → Type 0
AreOfLevels fs = (f : Fault) → IsOneOf f fs → is_of_names_or_levels f ≡ true

none_are : AreOfLevels []
none_are f h = absurd h

one_is : (x : Fault) → is_of_names_or_levels x ≡ true → AreOfLevels (x ∷ [])
one_is x q f (inl e) = ap is_of_names_or_levels e ∙ q
one_is x q f (inr h) = absurd h

if_either : (b : Bool) (xs ys : List Fault) → AreOfLevels xs → AreOfLevels ys → AreOfLevels (if b then xs else ys)
if_either true xs ys p q = p
if_either false xs ys p q = q

module _ (s : LevelSetting) where
  below_faults : (n k : ℕ) → AreOfLevels (unless_below n k)
  below_faults n k = if_either (nat_lt k n) [] _ none_are (one_is _ refl)

  within_faults : (n k : ℕ) → AreOfLevels (unless_within n k)
  within_faults n k = if_either (nat_le k n) [] _ none_are (one_is _ refl)

  base_faults : (k : Base) (b : TypedTree) → AreOfLevels (faults_of_base s k b)
  base_faults an_entity b = below_faults s.maximum (level s.action b [])
  base_faults a_record b = none_are
  base_faults neither b = one_is _ refl

  keys_faults : (b : TypedTree) (o : Option (List Text)) (c : ℕ) → AreOfLevels (level_at_keys s b o c)
  keys_faults b None c = none_are
  keys_faults b (Some path) c = within_faults s.maximum _

  chain_faults : (k : Base) (c : ℕ) (b : TypedTree) (o : Option (List Text)) → AreOfLevels (faults_of_chain s k c b o)
  chain_faults an_entity c b o = if_either (nat_le c s.maximum) _ _ (within_faults s.maximum _) (one_is _ refl)
  chain_faults a_record c b o = if_either (nat_le c s.maximum) _ _ (keys_faults b o c) (one_is _ refl)
  chain_faults neither c b o = none_are

  -- the faults of a checked expression
  checked_faults : (x : TypedTree) → AreOfLevels (faults s x)
  checked_faults (binary m o a b) =
      if_either (accesses_first o) _ [] (below_faults s.maximum (level s.action a [])) none_are
  checked_faults (get_attr m a x) = base_faults (base_of (annotation a)) a
  checked_faults (has_attr m a x) = base_faults (base_of (annotation a)) a
  checked_faults (ext_has_attr m a x xs) =
      chain_faults (base_of (annotation a)) (cost_of s.schema (annotation a) x xs) a
      (keys_of s.schema (annotation a) x xs)
  checked_faults x = none_are

  -- the faults of a leaf
  leaf_faults : (l : Leaf) → AreOfLevels (faults_at_leaf l)
  leaf_faults good_leaf = none_are
  leaf_faults literal_leaf = one_is _ refl
  leaf_faults bad_leaf = one_is _ refl

  end_faults : (o : Option Leaf) → AreOfLevels (faults_at_end o)
  end_faults None = none_are
  end_faults (Some l) = leaf_faults l

  error_is_of_levels : (root : TypedTree) (e : Finding) → IsLevelError s root e → is_of_names_or_levels e.fault ≡ true
  error_is_of_levels root e (at_checked {x} {f} h i) = checked_faults x f i
  error_is_of_levels root e (at_target {x} {path} {f} h i) = end_faults (leaf_of s.action x path) f i

  of_verdict : (v : Verdict) (e : Finding) → IsErrorOfVerdict s v e → is_of_names_or_levels e.fault ≡ true
  of_verdict (succeeds x) e h = error_is_of_levels x e h
  of_verdict (irrelevant es x) e h = error_is_of_levels x e h
  of_verdict (fails es) e h = absurd h

in_some : (levels : Env → LevelSetting) (envs : List Env) (vs : List Verdict) (e : Finding)
    → IsErrorInSome levels envs vs e → is_of_names_or_levels e.fault ≡ true
in_some levels [] vs e h = absurd h
in_some levels (env ∷ envs) [] e h = absurd h
in_some levels (env ∷ envs) (v ∷ vs) e (inl h) = of_verdict (levels env) v e h
in_some levels (env ∷ envs) (v ∷ vs) e (inr h) = in_some levels envs vs e h

-- ---- the faults of the passes over names are of names

module _ {A : Type 0} (f : A → Finding) (q : (a : A) → is_of_names_or_levels (f a).fault ≡ true) where
  of_mapped : (xs : List A) (e : Finding) → IsOneOf e (map f xs) → is_of_names_or_levels e.fault ≡ true
  of_mapped [] e h = absurd h
  of_mapped (x ∷ xs) e (inl p) = ap (λ (z : Finding). is_of_names_or_levels z.fault) p ∙ q x
  of_mapped (x ∷ xs) e (inr h) = of_mapped xs e h

-- ---- no error is one of these

module _ (found : List Finding) (quiet : NoneOfNamesOrLevels found) where
  not_there : (e : Finding) → IsOneOf e found → is_of_names_or_levels e.fault ≡ true → ⊥
  not_there e i q = true≢false (sym q ∙ quiet e i)

  both_known : (s : Schema) (t : PlainTemplate)
      → ((e : Finding) → IsOneOf e (wrong_members s t ++ (unknown_types s t ++ unknown_actions s t)) → IsOneOf e found)
      → IsNamedBySchema s t
  both_known s t among =
      let types = unknown_types s t in
      let actions = unknown_actions s t in
      let of_names : (e : Finding) → IsOneOf e (types ++ actions) → IsOneOf e found =
      λ e i. among e (in_right e (wrong_members s t) (types ++ actions) i) in
      record {
        types =
            nothing_in types
            (λ e i. not_there e (of_names e (in_left e types actions i)) (of_mapped _ (λ n. refl) _ e i));
        actions =
            nothing_in actions
            (λ e i. not_there e (of_names e (in_right e types actions i)) (of_mapped _ (λ n. refl) _ e i));
      }

  -- in the modes that make the passes, all names are known
  names_known : (m : ValidationMode) (s : Schema) (t : PlainTemplate) → is_partial m ≡ false
      → ((e : Finding) → IsOneOf e (name_findings m s t) → IsOneOf e found) → IsNamedBySchema s t
  names_known Strict s t p among = both_known s t among
  names_known Permissive s t p among = both_known s t among
  names_known Partial s t p among = cc

  module _ (b : Basis) (t : PlainTemplate) (n : ℕ) (warnings : List Warning) (o : LevelOutcome b t n found warnings) where
    abbrev names : List Finding
    names = name_findings b.mode b.schema t

    -- each finding is among the errors
    among : (e : Finding) → IsOneOf e (names ++ (o.type_errors ++ o.level_errors)) → IsOneOf e found
    among =
        moved (names ++ (o.type_errors ++ o.level_errors)) found
        (IsPermutation-sym found (names ++ (o.type_errors ++ o.level_errors)) o.given)

    named : is_partial b.mode ≡ false → IsNamedBySchema b.schema t
    named total =
        names_known b.mode b.schema t total (λ e i. among e (in_left e names (o.type_errors ++ o.level_errors) i))

    no_level_errors : o.level_errors ≡ []
    no_level_errors =
        nothing_in o.level_errors
        (λ e i. not_there e
        (among e
        (in_right e names (o.type_errors ++ o.level_errors) (in_right e o.type_errors o.level_errors i)))
        (in_some (levels_on b t n) o.listed o.verdicts e ((o.levels e).0 i)))

    within : PolicyIsWithinLevel b t n
    within =
        reordered (IsWithin b t n) o.listed (checked_envs b.schema b.mode t) o.in_some_order
        (listed_within b t n o.listed o.verdicts o.checked
        (λ e h. subst (IsOneOf e) no_level_errors ((o.levels e).1 h)))

-- ---- the laws

module _ (b : Basis) (t : PlainTemplate) (schema : has_fault b.schema ≡ false)
    (formed : IsFormedFor b.mode b.schema) (functions : table_fault b.table.functions ≡ None) (errors errors' : List Finding)
    (old new : List Warning) (passed : CheckedOn b t true errors errors' old new) where
  -- both halves of the promise hold if the policy is within the level and its names are known
  kept : (n : ℕ) → PolicyIsWithinLevel b t n → IsSoundAndClosed b → IsNamedBySchema b.schema t
      → (world : World) → IsWellFormed t world.slots → IsConforming b world
      → IsKeptInSlices t n world
  kept n enough k names world w i = record {
    safe = (promises_are_kept b t schema formed functions true errors errors' old new passed).safe refl k names world w i;
    same =
        passing_needs_slice_alone b t schema formed functions errors errors' old new passed n k names enough
        world w i;
  }

pub passing_is_kept : PassingIsKept
passing_is_kept b t schema formed functions errors errors' old new passed n found warnings o quiet k =
    kept b t schema formed functions errors errors' old new passed n (within found quiet b t n warnings o) k
    (named found quiet b t n warnings o k.mode)

within_required : (b : Basis) (t : PlainTemplate) (n : ℕ) → IsRequiredLevel b t (Some n) → PolicyIsWithinLevel b t n
within_required b t n (bounded, enough, least) = enough

pub required_level_suffices : RequiredLevelSuffices
required_level_suffices b t schema formed functions errors errors' old new passed n r k names world w i =
    kept b t schema formed functions errors errors' old new passed n (within_required b t n r) k names world w i
