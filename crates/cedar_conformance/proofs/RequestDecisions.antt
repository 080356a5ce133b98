-- The test of requests decides which conform, if no action is declared twice.
use Rattle.std.proofs.Common.{◌≡◌, inl, inr, refl, sym, ap, subst, ◌∙◌, Bool, true, false, true≢false, ◌&&◌, cond, List, [], ◌∷◌, map}
use Rattle.std.proofs.Common.{Option, Some, None, if◌then◌else◌}
use Rattle.std.specs.Bool.{Decides}
use Rattle.std.specs.List.{list_any, find}
use Rattle.cedar_types.specs.Environments.{DeclaredEnv, principal_environments, action_environments, environments_of}
use Rattle.cedar_types.specs.Lemmas.Comparisons.{path_same, uid_same}
use Rattle.cedar_types.specs.Names.{Path, path_eq, uid_eq}
use Rattle.cedar_types.specs.Schemas.{Application, DeclaredAction, Schema, is_among, action_named, repeats_action}
use Rattle.cedar_types.specs.Values.{VRecord}
use Rattle.cedar_types.proofs.Names.Ids.{uid_symm}
use Rattle.cedar_types.proofs.Tests.{and_left, and_right, and_both}
use Rattle.cedar_typing.specs.Evaluation.Conformance.{IsOneOf, FitsRequest, ConformingRequest}
use Rattle.cedar_typing.specs.Evaluation.World.{Request}
use Rattle.cedar_typing.proofs.Basics.{some_is, or_left, or_right, neither_left, neither_right}
use Rattle.cedar_typing.proofs.Basics.Members.{in_mapped, in_flat, all_flat, found_in, none_passes, name_in}
use Rattle.cedar_conformance.specs.RequestTests.{application_fits, declaration_fits, request_fits}
use Rattle.cedar_conformance.specs.Tests.{has_type}
use Rattle.cedar_conformance.proofs.TypeTests.{type_decides}

-- ---- lists

found_passes : {A : Type 0} (p : A → Bool) (xs : List A) (x : A) → find p xs ≡ Some x → p x ≡ true
found_passes p [] x e = cc
found_passes p (y ∷ ys) x e = at (p y) refl e (found_passes p ys x)
  where
    at : (b : Bool) → p y ≡ b → cond b (Some y) (find p ys) ≡ Some x → (find p ys ≡ Some x → p x ≡ true) → p x ≡ true
    at true i k f = subst (λ z. p z ≡ true) (some_is k) i
    at false i k f = f k

all_mapped : {A B : Type 0} (f : B → A) (P : A → Type 0) (bs : List B) → ((b : B) → IsOneOf b bs → P (f b)) → (x : A)
    → IsOneOf x (map f bs) → P x
all_mapped f P [] h x k = absurd k
all_mapped f P (b ∷ bs) h x (inl e) = subst P (sym e) (h b (inl refl))
all_mapped f P (b ∷ bs) h x (inr k) = all_mapped f P bs (λ c i. h c (inr i)) x k

in_name : (p : Path) (ps : List Path) → IsOneOf p ps → is_among ps p ≡ true
in_name p [] h = absurd h
in_name p (q ∷ ps) (inl e) = or_left (path_eq p q) (is_among ps p) (subst (λ r. path_eq p r ≡ true) e (path_same.itself p))
in_name p (q ∷ ps) (inr h) = or_right (path_eq p q) (is_among ps p) (in_name p ps h)

-- if no action is declared twice, each is the action that its name finds
named_is : (acts : List DeclaredAction) → repeats_action acts ≡ false → (a : DeclaredAction) → IsOneOf a acts
    → action_named acts a.name ≡ Some a
named_is [] n a h = absurd h
named_is (b ∷ acts) n a (inl e) =
    ap (λ t. if◌then◌else◌ {A = Option DeclaredAction} t (Some b) (action_named acts a.name))
    (subst (λ c. uid_eq a.name c.name ≡ true) e (uid_same.itself a.name))
    ∙ ap Some (sym e)
named_is (b ∷ acts) n a (inr h) =
    let apart = none_passes (λ c. uid_eq b.name c.name) acts
    (neither_left (list_any (λ c. uid_eq b.name c.name) acts) (repeats_action acts) n) a h in
    ap (λ t. if◌then◌else◌ {A = Option DeclaredAction} t (Some b) (action_named acts a.name)) (uid_symm a.name b.name ∙ apart)
    ∙ named_is acts (neither_right (list_any (λ c. uid_eq b.name c.name) acts) (repeats_action acts) n) a h

-- ---- a request that passes the test

module _ (s : Schema) (r : Request) where
  -- the environment of the request
  abbrev env_at : Application → DeclaredEnv
  env_at a = record {
    principal = r.principal.entity_type;
    action = r.action;
    resource = r.resource.entity_type;
    context = a.context;
  }

  module _ (a : DeclaredAction) (one : IsOneOf a s.actions) (named : r.action ≡ a.name) where
    among : (p : Application) → a.applies_to ≡ Some p → is_among p.principals r.principal.entity_type ≡ true
        → is_among p.resources r.resource.entity_type ≡ true → IsOneOf (env_at p) (environments_of s.actions)
    among p e l k =
        let own = in_mapped
        (λ q. let d : DeclaredEnv =
        record { principal = r.principal.entity_type; action = r.action; resource = q; context = p.context } in d)
        r.resource.entity_type p.resources (name_in r.resource.entity_type p.resources k) in
        let all = in_flat (principal_environments r.action p.context p.resources) (env_at p) r.principal.entity_type p.principals
        (name_in r.principal.entity_type p.principals l) own in
        in_flat (λ b. action_environments b.name b.applies_to) (env_at p) a s.actions one
        (subst (λ o. IsOneOf (env_at p) (action_environments a.name o)) (sym e)
        (subst (λ u. IsOneOf (env_at p) (action_environments u (Some p))) named all))

    applied : (o : Option Application) → a.applies_to ≡ o
        → application_fits o r.principal.entity_type r.resource.entity_type r.context ≡ true → ConformingRequest s r
    applied None e h = absurd (true≢false (sym h))
    applied (Some p) e h =
        let own = is_among p.principals r.principal.entity_type in
        let there = is_among p.resources r.resource.entity_type in
        let typed = has_type p.context (VRecord r.context) in
        let rest = and_right own (there && typed) h in (
          env_at p,
          among p e (and_left own (there && typed) h) (and_left there typed rest),
          record {
            principal = refl;
            action = refl;
            resource = refl;
            context = (type_decides p.context (VRecord r.context)).0 (and_right there typed rest);
          },
        )

  to_request : (o : Option DeclaredAction) → action_named s.actions r.action ≡ o
      → declaration_fits o r.principal.entity_type r.resource.entity_type r.context ≡ true → ConformingRequest s r
  to_request None e h = absurd (true≢false (sym h))
  to_request (Some a) e h =
      applied a (found_in (λ b. uid_eq r.action b.name) s.actions a e)
      (uid_same.to r.action a.name (found_passes (λ b. uid_eq r.action b.name) s.actions a e)) a.applies_to refl h

  -- ---- a request that conforms

  abbrev Passes : DeclaredEnv → Type 0
  Passes d = FitsRequest d r
      → declaration_fits (action_named s.actions r.action) r.principal.entity_type r.resource.entity_type r.context ≡ true

  module _ (apart : repeats_action s.actions ≡ false) (a : DeclaredAction) (one : IsOneOf a s.actions) where
    passes_at : (p : Application) → a.applies_to ≡ Some p → (q : Path) → IsOneOf q p.principals → (t : Path) → IsOneOf t p.resources
        → Passes (record { principal = q; action = a.name; resource = t; context = p.context })
    passes_at p e q i t j f =
        ap (λ o. declaration_fits o r.principal.entity_type r.resource.entity_type r.context)
        (ap (action_named s.actions) f.action ∙ named_is s.actions apart a one)
        ∙ ap (λ o. application_fits o r.principal.entity_type r.resource.entity_type r.context) e
        ∙ and_both (is_among p.principals r.principal.entity_type)
        (is_among p.resources r.resource.entity_type && has_type p.context (VRecord r.context))
        (in_name r.principal.entity_type p.principals (subst (λ x. IsOneOf x p.principals) (sym f.principal) i))
        (and_both (is_among p.resources r.resource.entity_type) (has_type p.context (VRecord r.context))
        (in_name r.resource.entity_type p.resources (subst (λ x. IsOneOf x p.resources) (sym f.resource) j))
        ((type_decides p.context (VRecord r.context)).1 f.context))

    passes_all : (o : Option Application) → a.applies_to ≡ o → (d : DeclaredEnv) → IsOneOf d (action_environments a.name o) → Passes d
    passes_all None e d k = absurd k
    passes_all (Some p) e d k =
        all_flat (principal_environments a.name p.context p.resources) Passes p.principals
        (λ q i. all_mapped
        (λ t. let d : DeclaredEnv = record { principal = q; action = a.name; resource = t; context = p.context } in d)
        Passes p.resources (λ t j. passes_at p e q i t j)) d k

  pub request_decides : repeats_action s.actions ≡ false
      → Decides (request_fits s r.principal r.action r.resource r.context) (ConformingRequest s r)
  request_decides apart = (
    to_request (action_named s.actions r.action) refl,
    λ c. all_flat (λ b. action_environments b.name b.applies_to) Passes s.actions
        (λ a one. passes_all apart a one a.applies_to refl) c.0 c.1 c.2,
  )
