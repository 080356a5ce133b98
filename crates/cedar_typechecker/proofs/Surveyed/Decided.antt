-- The environments that the scope leaves out, taken in without a check.
use Rattle.std.proofs.Common.{◌≡◌, Bool, true, false, ◌&&◌, cond, List, [], ◌∷◌, filter, inl, inr, refl, sym, ◌∙◌, subst}
use Rattle.std.specs.List.{flat_map, list_any}
use Rattle.std.specs.Prelude.{IsPermutation}
use Rattle.std.proofs.lemmas.List.Sorted.{IsPermutation-sym, list_any-IsPermutation}
use Rattle.cedar_types.specs.Environments.Linking.{checked_envs}
use Rattle.cedar_types.specs.Environments.RequestEnvs.{Env, Undeclared, is_partial, undeclared_envs}
use Rattle.cedar_types.specs.Extensions.Functions.{Refusals}
use Rattle.cedar_types.specs.Names.{Uid, uid_eq}
use Rattle.cedar_types.specs.Schemas.{has_fault, has_repeat}
use Rattle.cedar_types.specs.Schemas.Contents.{schema_of}
use Rattle.cedar_types.specs.Templates.{PlainTemplate, template_of}
use Rattle.cedar_types.proofs.Schema.Faultless.{faultless}
use Rattle.cedar_typing.specs.declared.typecheck.request_env_checks.RequestEnvChecks.{RequestEnvChecks}
use Rattle.cedar_typing.specs.Evaluation.Conformance.{IsOneOf}
use Rattle.cedar_typing.specs.PolicyCheck.Outcome.{Adds}
use Rattle.cedar_typing.specs.Soundness.Policies.{Basis, setting_on}
use Rattle.cedar_typing.specs.Views.EnvironmentChecks.{checks_left, SameInput}
use Rattle.cedar_typing.proofs.Basics.Members.{moved}
use Rattle.cedar_typechecker.specs.declared.survey.Survey.{Survey}
use Rattle.cedar_typechecker.specs.declared.survey.left_out.DecidedScope.{DecidedScope}
use Rattle.cedar_typechecker.specs.LeftOut.{Admits, is_left_out_by, is_kept_by, has_links, visits_in_env, demands_if}
use Rattle.cedar_typechecker.specs.Levels.Views.{demands_of}
use Rattle.cedar_typechecker.specs.Surveyed.{TakesIn, admitted_by, asks_of, envs_named, IsDecidedBy, IsDecidedOn, IsDecidedFrom}
use Rattle.cedar_typechecker.proofs.LeftOut.Declared.{checked_are_declared, checked_have_links, no_slots, left_out}
use Rattle.cedar_typechecker.proofs.LeftOut.Quiet.{left_out_is_quiet}
use Rattle.cedar_typechecker.proofs.Surveyed.Growth.{takes_both, takes_moved, still_checks}
use Rattle.cedar_typechecker.proofs.Surveyed.Listing.{any_kept, both_parts, parted}
use Rattle.cedar_typechecker.proofs.Surveyed.Quiet.{IsSameBeside, AreQuiet, takes_quiet}

-- a member that a filter keeps
module _ {A : Type 0} (p : A → Bool) where
  pub kept_member : (x : A) (xs : List A) → IsOneOf x (filter p xs) → IsOneOf x xs × (p x ≡ true)
  kept_member x [] i = absurd i
  kept_member x (y ∷ ys) i = go (kept_member x ys) (p y) refl i
    where
      later : IsOneOf x ys × (p x ≡ true) → IsOneOf x (y ∷ ys) × (p x ≡ true)
      later h = (inr h.0, h.1)

      go : (IsOneOf x (filter p ys) → IsOneOf x ys × (p x ≡ true)) → (b : Bool) → p y ≡ b
          → IsOneOf x (cond b (y ∷ filter p ys) (filter p ys)) → IsOneOf x (y ∷ ys) × (p x ≡ true)
      go rest true e (inl q) = (inl q, subst (λ z. p z ≡ true) (sym q) e)
      go rest true e (inr j) = later (rest j)
      go rest false e j = later (rest j)

module _ (b : Basis) (t : PlainTemplate) (us : List Uid) (sound : has_fault b.schema ≡ false)
    (admits : Admits b.schema.actions t.action us) (es : List Env)
    (inside : (e : Env) → IsOneOf e es → IsOneOf e (checked_envs b.schema b.mode t)) where
  quiet : AreQuiet b t (filter (is_left_out_by us) es)
  quiet e i =
      let k = kept_member (is_left_out_by us) e es i in
      let there = inside e k.0 in
      left_out_is_quiet (setting_on b t.id Undeclared) t sound admits.alike e there
      (left_out b.schema t us admits e (checked_are_declared b.schema t sound b.mode e there) k.1)

  -- a survey that gained the demand of an `in` if one of them asks it
  pub takes_left_out : (old new : Survey) → IsSameBeside old new → (asked : Bool)
      → asked ≡ list_any (λ e. is_left_out_by us e && visits_in_env b.schema b.mode t e) es
      → Adds (demands_of old.demands.keys) (demands_if asked t) (demands_of new.demands.keys)
      → TakesIn b t old new (filter (is_left_out_by us) es)
  takes_left_out old new same asked is adds =
      takes_quiet b t old new same (filter (is_left_out_by us) es) quiet
      (subst (λ c. Adds (demands_of old.demands.keys) (demands_if c t) (demands_of new.demands.keys))
      (is ∙ sym (any_kept (is_left_out_by us) (visits_in_env b.schema b.mode t) es)) adds)

-- ---- by the scope of the program

module _ {C : Type 0} (meaning : C → Refusals) (c : RequestEnvChecks C) (d : DecidedScope) (b : Basis) (left : List Env)
    (on : IsDecidedBy meaning c d b left) where
  abbrev t : PlainTemplate
  t = template_of d.template.now

  no_fault : has_fault b.schema ≡ false
  unfolding schema_of
  no_fault = subst (λ s. has_fault s ≡ false) (sym on.are_on.by_schema) d.schema.now.faultless

  same_asks : (es : List Env)
      → list_any (λ e. is_left_out_by (admitted_by d) e && visits_in_env b.schema b.mode t e) es ≡ list_any (asks_of d) es
  same_asks es = λ i. list_any (λ e. is_left_out_by (admitted_by d) e && visits_in_env (on.are_on.by_schema i) (on.by_mode i) t e) es

  abbrev all : List Env
  all = checked_envs b.schema b.mode t

  -- the survey takes in the environments that are left out, of some environments and of all
  module _ (old new : Survey) (same : IsSameBeside old new) (asked : Bool)
      (adds : Adds (demands_of old.demands.keys) (demands_if asked t) (demands_of new.demands.keys)) where
    pub takes_left : (es : List Env) → es ≡ left → asked ≡ list_any (asks_of d) es
        → TakesIn b t old new (filter (is_left_out_by (admitted_by d)) es)
    takes_left es are is =
        takes_left_out b t (admitted_by d) no_fault on.admits es
        (λ e i. moved left all on.all_left e (subst (IsOneOf e) are i)) old new same asked (is ∙ sym (same_asks es)) adds

    pub takes_left_of_all : asked ≡ list_any (asks_of d) left → TakesIn b t old new (filter (is_left_out_by (admitted_by d)) all)
    takes_left_of_all is =
        takes_left_out b t (admitted_by d) no_fault on.admits all (λ e i. i) old new same asked
        (is ∙ list_any-IsPermutation (asks_of d) left all on.all_left ∙ sym (same_asks all)) adds

  -- each environment of the policy was taken in or left out
  pub takes_kept_and_left : (old mid new : Survey) → TakesIn b t old mid (filter (is_kept_by (admitted_by d)) left)
      → TakesIn b t mid new (filter (is_left_out_by (admitted_by d)) left) → TakesIn b t old new left
  takes_kept_and_left old mid new f g =
      takes_moved b t old new _ left (both_parts (admitted_by d) left) (takes_both b t old mid new _ _ f g)

  -- the survey of a policy without slots takes in the declarations of the admitted actions,
  -- undeclared actions, and the environments that are left out
  pub takes_declared : (first : Env) → IsOneOf first left → has_links first ≡ false → has_repeat uid_eq (admitted_by d) ≡ false
      → (old one two new : Survey)
      → TakesIn b t old one (flat_map (envs_named (schema_of d.schema.now).actions) (admitted_by d))
      → TakesIn b t one two (undeclared_envs (is_partial d.mode))
      → TakesIn b t two new (filter (is_left_out_by (admitted_by d)) all) → TakesIn b t old new left
  takes_declared first i free once old one two new f g h =
      let links = checked_have_links b.schema t b.mode first (moved left all on.all_left first i) in
      let none = no_slots b.schema t first links free in
      let here : TakesIn b t old one (flat_map (envs_named b.schema.actions) (admitted_by d)) =
      subst (λ s. TakesIn b t old one (flat_map (envs_named s.actions) (admitted_by d))) (sym on.are_on.by_schema) f in
      let there : TakesIn b t one two (undeclared_envs (is_partial b.mode)) =
      subst (λ m. TakesIn b t one two (undeclared_envs (is_partial m))) (sym on.by_mode) g in
      takes_moved b t old new all left (IsPermutation-sym left all on.all_left)
      (takes_moved b t old new _ all
      (parted b.schema b.mode t none.0 none.1 (admitted_by d) once (faultless b.schema no_fault).actions_apart)
      (takes_both b t old two new _ _ (takes_both b t old one two _ _ here there) h))

-- after the first environment
pub decided_from : {C : Type 0} (meaning : C → Refusals) (c c' : RequestEnvChecks C) (d : DecidedScope) (b : Basis) (e : Env) → SameInput c c'
    → checks_left c ≡ e ∷ checks_left c' → IsDecidedOn meaning c d b → IsDecidedFrom meaning c' d b e
decided_from meaning c c' d b e same step on = record {
  are_on = still_checks meaning c c' d.schema.now b (template_of d.template.now) same on.are_on;
  by_mode = on.by_mode;
  admits = on.admits;
  all_left = subst (λ es. IsPermutation es (checked_envs b.schema b.mode (template_of d.template.now))) step on.all_left;
}
