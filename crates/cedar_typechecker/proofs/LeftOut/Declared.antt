-- The environments of a template: each is of a declared action, except that of undeclared ones, and
-- has the links of its slots.
use Rattle.std.proofs.Common.{◌≡◌, Bool, true, false, true≢false, List, [], ◌∷◌, ◌++◌, map, Option, Some, None, is_some, inl, inr, refl, sym, ◌∙◌, ap, subst}
use Rattle.cedar_types.specs.declared.base.names.slots.SlotId.{SlotId}
use Rattle.cedar_types.specs.declared.base.types.ValidationMode.{ValidationMode}
use Rattle.cedar_types.specs.Environments.{DeclaredEnv, environments_of}
use Rattle.cedar_types.specs.Environments.Linking.{in_all_ways, has_slot, names_slot, slot_links, slot_types, linked_envs, checked_envs}
use Rattle.cedar_types.specs.Environments.Representatives.{IsLeftOut}
use Rattle.cedar_types.specs.Environments.RequestEnvs.{Env, Declared, Undeclared, unlinked, is_partial, undeclared_envs, unlinked_envs}
use Rattle.cedar_types.specs.Expressions.Parts.{mentions_slot}
use Rattle.cedar_types.specs.Expressions.View.{Written}
use Rattle.cedar_types.specs.Names.{Path, Uid}
use Rattle.cedar_types.specs.Schemas.{Schema, DeclaredType, has_fault, declares_action, uid_is_among}
use Rattle.cedar_types.specs.Templates.{equal, to_slot, Scope, PlainTemplate, scope_condition, with_rest}
use Rattle.cedar_types.specs.Expressions.Tree.{Tree}
use Rattle.cedar_types.proofs.Linking.Mentions.{principal_slot}
use Rattle.cedar_typing.specs.Evaluation.Conformance.{IsOneOf}
use Rattle.cedar_typing.specs.Rules.Membership.{is_action}
use Rattle.cedar_typing.proofs.Basics.{or_left, neither_left, neither_right, not_true}
use Rattle.cedar_typing.proofs.Basics.Members.{all_flat, all_mapped}
use Rattle.cedar_typing.proofs.Silence.Names.{env_action}
use Rattle.cedar_typechecker.specs.LeftOut.{Admits, is_left_out_by, has_links}

-- an environment of a declared action whose type is an action type, or that of undeclared actions
abbrev pub IsOfDeclared : Schema → Env → Type 0
IsOfDeclared s (Declared d p r) = (is_action d.action ≡ true) × (declares_action s.actions d.action ≡ true)
IsOfDeclared s Undeclared = Unit {0}

-- its slots are linked as the template says
abbrev pub HasItsLinks : Schema → PlainTemplate → Env → Type 0
HasItsLinks s t (Declared d p r) =
    IsOneOf p (slot_links (has_slot SlotId.Principal t) s.types t.principal d.principal)
    × IsOneOf r (slot_links (has_slot SlotId.Resource t) s.types t.resource d.resource)
HasItsLinks s t Undeclared = Unit {0}

module _ (s : Schema) (t : PlainTemplate) where
  undeclared : (P : Env → Type 0) → P Undeclared → (b : Bool) (e : Env) → IsOneOf e (undeclared_envs b) → P e
  undeclared P h true e (inl q) = subst P (sym q) h
  undeclared P h true e (inr k) = absurd k
  undeclared P h false e k = absurd k

  of_schema : (P : Env → Type 0) → P Undeclared → (m : ValidationMode) (ds : List DeclaredEnv)
      → ((d : DeclaredEnv) → IsOneOf d ds → P (unlinked d))
      → (e : Env) → IsOneOf e (map unlinked ds ++ undeclared_envs (is_partial m)) → P e
  of_schema P h m [] f e i = undeclared P h (is_partial m) e i
  of_schema P h m (d ∷ ds) f e (inl q) = subst P (sym q) (f d (inl refl))
  of_schema P h m (d ∷ ds) f e (inr i) = of_schema P h m ds (λ z k. f z (inr k)) e i

  module _ (d : DeclaredEnv) (ps rs : List (Option Path)) (P : Env → Type 0)
      (h : (p r : Option Path) → IsOneOf p ps → IsOneOf r rs → P (Declared d p r)) where
    pub all_ways : (e : Env) → IsOneOf e (in_all_ways d ps rs) → P e
    all_ways = all_flat (λ p. map (λ r. Declared d p r) rs) P ps (λ p k. all_mapped P (λ r. Declared d p r) rs (λ r i. h p r k i))

  -- a property holds of each checked environment, if it holds of Undeclared and of each environment
  -- of a declared one with its links
  each_checked : (P : Env → Type 0) → P Undeclared → (m : ValidationMode)
      → ((d : DeclaredEnv) (p r : Option Path) → IsOneOf d (environments_of s.actions)
      → IsOneOf p (slot_links (has_slot SlotId.Principal t) s.types t.principal d.principal)
      → IsOneOf r (slot_links (has_slot SlotId.Resource t) s.types t.resource d.resource) → P (Declared d p r))
      → (e : Env) → IsOneOf e (checked_envs s m t) → P e
  each_checked P h m f =
      all_flat (linked_envs s t) P (unlinked_envs s m)
      (of_schema (λ u. (e : Env) → IsOneOf e (linked_envs s t u) → P e) (λ e i. one e i) m (environments_of s.actions)
      (λ d k. all_ways d (slot_links (has_slot SlotId.Principal t) s.types t.principal d.principal)
      (slot_links (has_slot SlotId.Resource t) s.types t.resource d.resource) P (λ p r i j. f d p r k i j)))
    where
      one : (e : Env) → IsOneOf e (Undeclared ∷ []) → P e
      one e (inl q) = subst P (sym q) h
      one e (inr k) = absurd k

  pub checked_are_declared : has_fault s ≡ false → (m : ValidationMode) (e : Env) → IsOneOf e (checked_envs s m t) → IsOfDeclared s e
  checked_are_declared faultless m = each_checked (IsOfDeclared s) tt m (λ d p r k i j. env_action s faultless d k)

  pub checked_have_links : (m : ValidationMode) (e : Env) → IsOneOf e (checked_envs s m t) → HasItsLinks s t e
  checked_have_links m = each_checked (HasItsLinks s t) tt m (λ d p r k i j. (i, j))

-- ---- which slots are linked

some_of_mapped : (ps : List Path) (o : Option Path) → IsOneOf o (map (λ p. Some p) ps) → is_some o ≡ true
some_of_mapped [] o h = absurd h
some_of_mapped (p ∷ ps) o (inl e) = ap is_some e
some_of_mapped (p ∷ ps) o (inr h) = some_of_mapped ps o h

-- a slot occurs exactly if it is linked
pub occurs : (b : Bool) (ts : List DeclaredType) (c : Scope) (own : Path) (o : Option Path) → IsOneOf o (slot_links b ts c own) → b ≡ is_some o
occurs true ts c own o h = sym (some_of_mapped (slot_types ts c own) o h)
occurs false ts c own o (inl e) = sym (ap is_some e)
occurs false ts c own o (inr h) = absurd h

-- where nothing is linked, the template has no slots
pub no_slots : (s : Schema) (t : PlainTemplate) (e : Env) → HasItsLinks s t e → has_links e ≡ false
    → (has_slot SlotId.Principal t ≡ false) × (has_slot SlotId.Resource t ≡ false)
no_slots s t (Declared d p r) h free = (
  occurs (has_slot SlotId.Principal t) s.types t.principal d.principal p h.0 ∙ neither_left (is_some p) (is_some r) free,
  occurs (has_slot SlotId.Resource t) s.types t.resource d.resource r h.1 ∙ neither_right (is_some p) (is_some r) free,
)
no_slots s t Undeclared h free = absurd (true≢false free)

-- a slot that has to equal its variable is linked to the variable's type
equal_link : (b : Bool) → b ≡ true → (ts : List DeclaredType) (own : Path) (o : Option Path) → IsOneOf o (slot_links b ts (equal to_slot) own)
    → o ≡ Some own
equal_link true e ts own o (inl q) = q
equal_link true e ts own o (inr h) = absurd h
equal_link false e ts own o h = absurd (true≢false (sym e))

named_occurs : (t : PlainTemplate) → t.principal ≡ equal to_slot → has_slot SlotId.Principal t ≡ true
named_occurs t e = by_rest t.rest
  where
    of_scope : mentions_slot SlotId.Principal (scope_condition t) ≡ true
    of_scope = principal_slot t ∙ ap names_slot e

    by_rest : (rest : Option (Tree Written)) → mentions_slot SlotId.Principal (with_rest t.place (scope_condition t) rest) ≡ true
    by_rest None = of_scope
    by_rest (Some x) = or_left (mentions_slot SlotId.Principal (scope_condition t)) (mentions_slot SlotId.Principal x) of_scope

pub equal_is_linked : (s : Schema) (t : PlainTemplate) (d : DeclaredEnv) (p r : Option Path) → HasItsLinks s t (Declared d p r)
    → t.principal ≡ equal to_slot → p ≡ Some d.principal
equal_is_linked s t d p r h e =
    equal_link (has_slot SlotId.Principal t) (named_occurs t e) s.types d.principal p
    (subst (λ c. IsOneOf p (slot_links (has_slot SlotId.Principal t) s.types c d.principal)) e h.0)

-- ---- environments that the scope leaves out

pub left_out : (s : Schema) (t : PlainTemplate) (us : List Uid) → Admits s.actions t.action us → (e : Env) → IsOfDeclared s e
    → is_left_out_by us e ≡ true → IsLeftOut s t e
left_out s t us a (Declared d p r) declared h =
    (declared.1, sym (a.members d.action) ∙ not_true (uid_is_among us d.action) h)
left_out s t us a Undeclared declared h = absurd (true≢false (sym h))
