-- A policy that passes is derived in each of the environments that it is checked in.
use Rattle.std.proofs.Common.{◌≡◌, false, List, [], ◌++◌, map, Option, sym}
use Rattle.cedar_types.specs.declared.base.names.slots.SlotId.{SlotId}
use Rattle.cedar_types.specs.declared.base.types.ValidationMode.{ValidationMode}
use Rattle.cedar_types.specs.Environments.{DeclaredEnv, environments_of}
use Rattle.cedar_types.specs.Environments.Linking.{has_slot, slot_links, in_all_ways, linked_envs, checked_envs}
use Rattle.cedar_types.specs.Names.{Path}
use Rattle.cedar_types.specs.Environments.RequestEnvs.{Env, Declared, Undeclared, is_partial, unlinked, unlinked_envs}
use Rattle.cedar_types.specs.Schemas.{Schema}
use Rattle.cedar_types.specs.Templates.{PlainTemplate, condition_of}
use Rattle.cedar_typing.specs.Composition.{in_env}
use Rattle.cedar_typing.specs.Evaluation.Conformance.{IsOneOf, IsEnvironmentOf}
use Rattle.cedar_typing.specs.PolicyCheck.Outcome.{passes}
use Rattle.cedar_typing.specs.Silence.{IsSettled, ChecksOf, PassingPolicyIsDerived}
use Rattle.cedar_typing.proofs.Policies.EachEnvironment.{each_has_passing}
use Rattle.cedar_typing.proofs.Basics.Members.{all_flat, all_joined, all_mapped}
use Rattle.cedar_typing.proofs.Silence.Checks.{passing_derived}
use Rattle.cedar_typing.proofs.Silence.Names.{condition_is_well_named}

-- ---- the environments of a template

module _ (s : Schema) where
  of_schema : (ds : List DeclaredEnv) → ((d : DeclaredEnv) → IsOneOf d ds → IsOneOf d (environments_of s.actions))
      → (e : Env) → IsOneOf e (map unlinked ds ++ []) → IsEnvironmentOf s e
  of_schema ds f =
      all_joined (IsEnvironmentOf s) (map unlinked ds) [] (all_mapped (IsEnvironmentOf s) unlinked ds f) (λ e k. absurd k)

  module _ (d : DeclaredEnv) (i : IsOneOf d (environments_of s.actions)) where
    all_ways : (ps rs : List (Option Path)) (e : Env) → IsOneOf e (in_all_ways d ps rs) → IsEnvironmentOf s e
    all_ways ps rs = all_flat (λ p. map (λ r. Declared d p r) rs) (IsEnvironmentOf s) ps
        (λ p k. all_mapped (IsEnvironmentOf s) (λ r. Declared d p r) rs (λ r j. i))

  linked_of_schema : (t : PlainTemplate) (u : Env) → IsEnvironmentOf s u → (e : Env) → IsOneOf e (linked_envs s t u) → IsEnvironmentOf s e
  linked_of_schema t (Declared d p r) i e h =
      let ps = slot_links (has_slot SlotId.Principal t) s.types t.principal d.principal in
      let rs = slot_links (has_slot SlotId.Resource t) s.types t.resource d.resource in
      all_ways d i ps rs e h
  linked_of_schema t Undeclared i e h = absurd i

  -- in every mode but Partial the environments are the schema's
  unlinked_of_schema : (m : ValidationMode) → is_partial m ≡ false → (u : Env) → IsOneOf u (unlinked_envs s m) → IsEnvironmentOf s u
  unlinked_of_schema ValidationMode.Strict h u i = of_schema (environments_of s.actions) (λ d k. k) u i
  unlinked_of_schema ValidationMode.Permissive h u i = of_schema (environments_of s.actions) (λ d k. k) u i
  unlinked_of_schema ValidationMode.Partial h u i = cc

  pub checked_of_schema : (m : ValidationMode) → is_partial m ≡ false → (t : PlainTemplate) (e : Env)
      → IsOneOf e (checked_envs s m t) → IsEnvironmentOf s e
  checked_of_schema m h t =
      all_flat (linked_envs s t) (IsEnvironmentOf s) (unlinked_envs s m)
      (λ u i. linked_of_schema t u (unlinked_of_schema m h u i))

-- ---- the verdicts

pub passing_policy_is_derived : PassingPolicyIsDerived
passing_policy_is_derived s t ok named errors errors' warnings warnings' o e i =
    let envs : List Env = checked_envs s.env.schema s.env.mode t in
    let p = each_has_passing (ChecksOf s t) passes o.listed envs o.verdicts o.in_some_order o.checked (sym o.answered) e i in
    let settled : IsSettled (in_env s e) = record {
      faultless = record { mode = ok.mode; schema = ok.schema; formed = ok.formed; functions = ok.functions };
      environment = checked_of_schema s.env.schema s.env.mode ok.mode t e i;
    } in (
      p.0,
      p.1,
      passing_derived (in_env s e) settled (condition_of t) (condition_is_well_named s.env.schema t named) p.0 p.1 p.2,
    )
