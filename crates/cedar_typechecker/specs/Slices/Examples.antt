-- Policies for which all premises of slice soundness hold together, at the least level that is
-- enough; and computed examples of reached ids and of slices.
use Rattle.std.specs.Prelude.{◌≡◌, ℕ, pos, true, false, List, [], ◌∷◌, map, Some, None, codes}
use Rattle.cedar_types.specs.declared.base.expressions.operators.Var.{Var}
use Rattle.cedar_types.specs.declared.base.types.ValidationMode.{ValidationMode}
use Rattle.cedar_types.specs.declared.base.types.ValidationMode.TheVariants.{Strict, Permissive}
use Rattle.cedar_types.specs.Errors.{Fault, Finding}
use Rattle.cedar_types.specs.Extensions.Functions.{table_fault}
use Rattle.cedar_types.specs.Schemas.Formed.{has_formed_types}
use Rattle.cedar_types.specs.Environments.Linking.{checked_envs}
use Rattle.cedar_types.specs.Environments.RequestEnvs.{Env}
use Rattle.cedar_types.specs.Schemas.{has_fault}
use Rattle.cedar_types.specs.Values.Stores.{entity_at}
use Rattle.cedar_types.specs.Templates.{to_slot, any, within, PlainTemplate, condition_of}
use Rattle.cedar_types.specs.Expressions.Tree.{Shape, var, and, if_then_else}
use Rattle.cedar_types.specs.Values.{VBool, VLong, VString, VEntity, VSet, VRecord, VExtension, no_entries, more_entries}
use Rattle.cedar_typing.specs.Evaluation.Conformance.{IsOneOf}
use Rattle.cedar_typing.specs.Evaluation.Eval.{eval}
use Rattle.cedar_typing.specs.Evaluation.World.{MissingEntity, Gives, Fails}
use Rattle.cedar_typing.specs.Examples.Composition.{template}
use Rattle.cedar_typing.specs.Examples.Expressions.{principal, text, dot, has2, has_tag, get_tag}
use Rattle.cedar_typing.specs.Examples.Greeting.{two_values, stored_action}
use Rattle.cedar_typing.specs.Examples.PolicySoundness.{Passes}
use Rattle.cedar_typing.specs.Examples.World.{decimal, alice, bob}
use Rattle.cedar_typing.specs.PolicyCheck.{Verdict, policy_check}
use Rattle.cedar_typing.specs.PolicyCheck.Outcome.{all_pass}
use Rattle.cedar_typing.specs.Soundness.Policies.{Basis, IsSoundAndClosed, IsNamedBySchema, IsWellFormed, IsConforming, setting_on}
use Rattle.cedar_typechecker.specs.Levels.Errors.{exceeds}
use Rattle.cedar_typechecker.specs.Levels.Outcome.{ChecksOn, levels_on, IsErrorOfVerdict}
use Rattle.cedar_typechecker.specs.Slices.Policies.{PolicyIsWithinLevel}
use Rattle.cedar_typechecker.specs.Slices.Reach.{ids_in, ids_in_entries, ids_of, reach, HoldsSlice}
use Rattle.cedar_typechecker.specs.Slices.Soundness.{with_store}
use Rattle.cedar_typechecker.specs.Slices.Examples.World.{home, read, carol, dan, erin, wiki_schema, wiki_basis, stored_alice, stored_bob}
use Rattle.cedar_typechecker.specs.Slices.Examples.World.{stored_carol, plain_user, page_guided_by, wiki_store, reading, slice_of}
pub mod World
pub mod Promises
pub mod LeftOpen

-- ---- level errors of a policy

-- the policy has a level error with this fault, in some environment in which it is checked
abbrev pub HasLevelError : Basis → PlainTemplate → ℕ → Fault → Type 0
HasLevelError b t n f =
    (env : Env) × IsOneOf env (checked_envs b.schema b.mode t)
    × (v : Verdict) × ChecksOn b t env v
    × (e : Finding) × IsErrorOfVerdict (levels_on b t n env) v e × (e.fault ≡ f)

-- the verdicts of a policy's checks
abbrev pub checks_of : Basis → PlainTemplate → List Verdict
checks_of b t =
    map (λ env. policy_check (setting_on b t.id env) (condition_of t))
    (checked_envs b.schema b.mode t)

-- ---- policies

-- `a.active`
abbrev pub active_of : Shape → Shape
active_of a = dot a (codes "active")

-- `a.hasTag("guide")`, `a.getTag("guide")`
abbrev pub has_guide : Shape → Shape
has_guide a = has_tag a (text (codes "guide"))

abbrev pub guide_of : Shape → Shape
guide_of a = get_tag a (text (codes "guide"))

-- `a has profile.mentor`, `a.profile.mentor`
abbrev pub has_mentor : Shape → Shape
has_mentor a = has2 a (codes "profile") (codes "mentor")

abbrev pub mentor_of : Shape → Shape
mentor_of a = dot (dot a (codes "profile")) (codes "mentor")

-- `a.hasTag("guide") && (a.getTag("guide") has profile.mentor &&
-- a.getTag("guide").profile.mentor.active)`
abbrev pub is_guided : Shape → Shape
is_guided a =
    and tt (has_guide a)
    (and tt (has_mentor (guide_of a)) (active_of (mentor_of (guide_of a))))

abbrev pub resource : Shape
resource = var tt Var.Resource

-- `permit(principal in ?principal, action, resource) when { e }`, where e is that test of
-- `resource`
abbrev pub guided_page : PlainTemplate
guided_page = template (within to_slot) any (Some (is_guided resource))

-- the policy in which e is that test of `if principal.active then principal else resource`, which
-- is a user or a page
abbrev pub guided_either : PlainTemplate
guided_either =
    template (within to_slot) any
    (Some (is_guided (if_then_else tt (active_of principal) principal resource)))

-- ---- the premises hold together

-- all premises hold at level 3, and not at 2. The slice of 3 steps leaves out dan. The condition is
-- true over it and over the store, and fails over the slice of 2 steps
pub record AllPremisesHold (m : ValidationMode) (t : PlainTemplate) : Type 0 where
  pub faultless : has_fault wiki_schema ≡ false
  pub formed : has_formed_types wiki_schema ≡ true
  pub faultless_functions : table_fault (wiki_basis m).table.functions ≡ None
  pub passes : Passes (wiki_basis m) t
  pub basis : IsSoundAndClosed (wiki_basis m)
  pub named : IsNamedBySchema wiki_schema t
  pub within_three : PolicyIsWithinLevel (wiki_basis m) t 3
  pub beyond_two : HasLevelError (wiki_basis m) t 2 (exceeds 2 3)
  pub well_formed : IsWellFormed t reading.slots
  pub conforming : IsConforming (wiki_basis m) reading
  pub held : HoldsSlice reading.request reading.store 3 (slice_of reading 3)
  pub stored : entity_at reading.store dan ≡ Some plain_user
  pub left_out : entity_at (slice_of reading 3) dan ≡ None
  pub in_slice : eval (with_store reading (slice_of reading 3)) (condition_of t)
      ≡ Gives (VBool true)
  pub in_store : eval reading (condition_of t) ≡ Gives (VBool true)
  pub too_small : eval (with_store reading (slice_of reading 2)) (condition_of t)
      ≡ Fails MissingEntity

-- the premises hold for one policy in both modes, and in Permissive for one that Strict refuses
pub record SlicePremisesAreMet : Type 0 where
  pub strict : AllPremisesHold Strict guided_page
  pub permissive : AllPremisesHold Permissive guided_page
  pub united : AllPremisesHold Permissive guided_either
  pub strict_refuses : all_pass (checks_of (wiki_basis Strict) guided_either) ≡ false

-- ---- reached ids, and slices

pub record SlicesAreAsSaid : Type 0 where
  -- ids at any depth of sets and records, in the order in which they stand
  pub nested :
      ids_in
      (VSet
      (two_values (VEntity alice)
      (VRecord
      (more_entries (codes "a") (VSet (two_values (VLong (pos 1)) (VEntity bob))) no_entries))))
      ≡ alice ∷ bob ∷ []
  -- a text holds no id, nor does an extension value
  pub no_id :
      ids_in (VSet (two_values (VString (codes "alice")) (VExtension decimal (codes "1.0")))) ≡ []
  -- the second of two entries with one key is never read, and counts too
  pub one_key_twice :
      ids_in_entries
      (more_entries (codes "a") (VEntity alice) (more_entries (codes "a") (VEntity bob) no_entries))
      ≡ alice ∷ bob ∷ []
  -- an entity holds the ids in its attributes and its tags, and not its ancestors
  pub of_entity : ids_of (Some stored_alice) ≡ bob ∷ bob ∷ []
  pub of_tags : ids_of (Some stored_carol) ≡ dan ∷ []
  pub not_stored : ids_of None ≡ []
  -- the ids that the request names, with those in its context; then those of each further step,
  -- with repeats
  pub reach_0 : reach reading.request reading.store 0 ≡ alice ∷ read ∷ home ∷ erin ∷ []
  pub reach_1 : reach reading.request reading.store 1 ≡ bob ∷ bob ∷ bob ∷ []
  pub reach_2 : reach reading.request reading.store 2 ≡ carol ∷ carol ∷ carol ∷ []
  pub reach_3 : reach reading.request reading.store 3 ≡ dan ∷ dan ∷ dan ∷ []
  pub reach_4 : reach reading.request reading.store 4 ≡ []
  -- the first of two entries of one entity counts
  pub first_entry :
      reach reading.request ((alice, plain_user) ∷ wiki_store) 1 ≡ bob ∷ []
  -- entries as they stand in the store: none in zero steps, in one step those of the ids that the
  -- request itself holds, and so on. The staff's entry is in no slice, because the staff is an
  -- ancestor alone
  pub slice_0 : slice_of reading 0 ≡ []
  pub slice_1 :
      slice_of reading 1
      ≡ (read, stored_action []) ∷ (home, page_guided_by bob) ∷ (alice, stored_alice)
      ∷ (erin, plain_user) ∷ []
  pub slice_2 :
      slice_of reading 2
      ≡ (read, stored_action []) ∷ (home, page_guided_by bob) ∷ (alice, stored_alice)
      ∷ (bob, stored_bob) ∷ (erin, plain_user) ∷ []
  pub slice_4 :
      slice_of reading 4
      ≡ (read, stored_action []) ∷ (home, page_guided_by bob) ∷ (alice, stored_alice)
      ∷ (bob, stored_bob) ∷ (carol, stored_carol) ∷ (dan, plain_user) ∷ (erin, plain_user) ∷ []
