-- The environments of a policy without slots: those of the admitted actions, action by action, that
-- of undeclared actions, and those that are left out.
use Rattle.std.proofs.Common.{◌≡◌, Bool, true, false, ◌&&◌, ◌||◌, not, cond, if◌then◌else◌, List, [], ◌∷◌, ◌++◌, append_assoc, map, filter, Option, Some, None, inl, inr, refl, sym, ◌∙◌, ap, subst}
use Rattle.std.specs.List.{list_any, flat_map}
use Rattle.std.specs.Prelude.{IsPermutation}
use Rattle.std.proofs.lemmas.List.Elements.{filter-append}
use Rattle.std.proofs.lemmas.List.Sorted.{IsPermutation-refl, IsPermutation-sym, IsPermutation-trans, IsPermutation-append_left, IsPermutation-append_right, IsPermutation-append_comm, IsPermutation-filter_both}
use Rattle.cedar_types.specs.declared.base.names.slots.SlotId.{SlotId}
use Rattle.cedar_types.specs.declared.base.types.ValidationMode.{ValidationMode}
use Rattle.cedar_types.specs.Environments.{DeclaredEnv, principal_environments, action_environments, environments_of}
use Rattle.cedar_types.specs.Environments.Linking.{has_slot, linked_by, checked_envs}
use Rattle.cedar_types.specs.Environments.RequestEnvs.{Env, Declared, Undeclared, unlinked, is_partial, undeclared_envs}
use Rattle.cedar_types.specs.Lemmas.Comparisons.{uid_same}
use Rattle.cedar_types.specs.Names.{Uid, uid_eq}
use Rattle.cedar_types.specs.Schemas.{Application, DeclaredAction, Schema, has_repeat, repeats_action, action_named, uid_is_among}
use Rattle.cedar_types.specs.Templates.{PlainTemplate}
use Rattle.cedar_types.proofs.Names.Ids.{uid_symm}
use Rattle.cedar_typing.proofs.Basics.{neither_left, neither_right}
use Rattle.cedar_typing.proofs.Basics.Members.{AreAll, all_flat, all_mapped}
use Rattle.cedar_typechecker.specs.LeftOut.{is_left_out_by, is_kept_by}
use Rattle.cedar_typechecker.specs.Surveyed.{envs_of_declared, envs_named}

-- ---- lists

pub same_order : {A : Type 0} (xs ys : List A) → xs ≡ ys → IsPermutation xs ys
same_order xs ys e = subst (IsPermutation xs) e (IsPermutation-refl xs)

module _ {A : Type 0} (p : A → Bool) where
  kept_all : (xs : List A) → AreAll (λ x. p x ≡ true) xs → filter p xs ≡ xs
  kept_all [] h = refl
  kept_all (x ∷ xs) h = λ i. cond (h x (inl refl) i) (x ∷ kept_all xs (λ z k. h z (inr k)) i) (kept_all xs (λ z k. h z (inr k)) i)

  kept_none : (xs : List A) → AreAll (λ x. p x ≡ false) xs → filter p xs ≡ []
  kept_none [] h = refl
  kept_none (x ∷ xs) h = λ i. cond (h x (inl refl) i) (x ∷ kept_none xs (λ z k. h z (inr k)) i) (kept_none xs (λ z k. h z (inr k)) i)

  kept_if : (c : Bool) (xs : List A) → AreAll (λ x. p x ≡ c) xs → filter p xs ≡ (if c then xs else [])
  kept_if true xs h = kept_all xs h
  kept_if false xs h = kept_none xs h

  kept_flat : {B : Type 0} (g : B → List A) (xs : List B) → filter p (flat_map g xs) ≡ flat_map (λ x. filter p (g x)) xs
  kept_flat g [] = refl
  kept_flat g (x ∷ xs) = filter-append p (g x) (flat_map g xs) ∙ ap (λ ys. filter p (g x) ++ ys) (kept_flat g xs)

  -- some member that is kept passes another test
  pub any_kept : (q : A → Bool) (xs : List A) → list_any q (filter p xs) ≡ list_any (λ x. p x && q x) xs
  any_kept q [] = refl
  any_kept q (x ∷ xs) = by_test (any_kept q xs) (p x)
    where
      by_test : list_any q (filter p xs) ≡ list_any (λ y. p y && q y) xs → (b : Bool)
          → list_any q (cond b (x ∷ filter p xs) (filter p xs)) ≡ ((b && q x) || list_any (λ y. p y && q y) xs)
      by_test h true = ap (λ b. q x || b) h
      by_test h false = h

pub map_joined : {A B : Type 0} (f : A → B) (xs ys : List A) → map f (xs ++ ys) ≡ map f xs ++ map f ys
map_joined f [] ys = refl
map_joined f (x ∷ xs) ys = ap (λ zs. f x ∷ zs) (map_joined f xs ys)

map_flat : {A B C : Type 0} (f : B → C) (g : A → List B) (xs : List A) → map f (flat_map g xs) ≡ flat_map (λ x. map f (g x)) xs
map_flat f g [] = refl
map_flat f g (x ∷ xs) = map_joined f (g x) (flat_map g xs) ∙ ap (λ ys. map f (g x) ++ ys) (map_flat f g xs)

flat_same : {A B : Type 0} (f g : A → List B) (xs : List A) → ((x : A) → f x ≡ g x) → flat_map f xs ≡ flat_map g xs
flat_same f g [] h = refl
flat_same f g (x ∷ xs) h = λ i. h x i ++ flat_same f g xs h i

-- ---- declarations, by name

abbrev pub of_named : Option DeclaredAction → List Env
of_named o = map unlinked (envs_of_declared o)

-- those of the actions whose names pass a test
abbrev chosen : (Uid → Bool) → List DeclaredAction → List Env
chosen p acts = flat_map (λ a. if p a.name then of_named (Some a) else []) acts

none_chosen : (acts : List DeclaredAction) → chosen (λ n. false) acts ≡ []
none_chosen [] = refl
none_chosen (a ∷ acts) = none_chosen acts

none_named : (acts : List DeclaredAction) (u : Uid) (p : Uid → Bool) → list_any (λ b. uid_eq u b.name) acts ≡ false
    → chosen (λ n. uid_eq n u || p n) acts ≡ chosen p acts
none_named [] u p h = refl
none_named (a ∷ acts) u p h =
    let e : uid_eq a.name u ≡ false = uid_symm a.name u ∙ neither_left (uid_eq u a.name) (list_any (λ b. uid_eq u b.name) acts) h in
    λ i. (if e i || p a.name then of_named (Some a) else []) ++ none_named acts u p (neither_right (uid_eq u a.name) _ h) i

-- one name more
one_more : (acts : List DeclaredAction) → repeats_action acts ≡ false → (u : Uid) (p : Uid → Bool) → p u ≡ false
    → IsPermutation (chosen (λ n. uid_eq n u || p n) acts) (of_named (action_named acts u) ++ chosen p acts)
one_more [] apart u p h = IsPermutation-refl []
one_more (a ∷ acts) apart u p h =
    go (one_more acts (neither_right (list_any (λ b. uid_eq a.name b.name) acts) (repeats_action acts) apart) u p h) (uid_eq u a.name) refl
  where
    others : list_any (λ b. uid_eq a.name b.name) acts ≡ false
    others = neither_left (list_any (λ b. uid_eq a.name b.name) acts) (repeats_action acts) apart

    first : List Env
    first = if p a.name then of_named (Some a) else []

    named : List Env
    named = of_named (action_named acts u)

    go : IsPermutation (chosen (λ n. uid_eq n u || p n) acts) (of_named (action_named acts u) ++ chosen p acts)
        → (c : Bool) → uid_eq u a.name ≡ c
        → IsPermutation (chosen (λ n. uid_eq n u || p n) (a ∷ acts)) (of_named (action_named (a ∷ acts) u) ++ chosen p (a ∷ acts))
    go rest true e =
        let same = uid_same.to u a.name e in
        let there : uid_eq a.name u ≡ true = uid_symm a.name u ∙ e in
        let not_chosen : p a.name ≡ false = subst (λ v. p v ≡ false) same h in
        let none = none_named acts u p (subst (λ v. list_any (λ b. uid_eq v b.name) acts ≡ false) (sym same) others) in
        let left : chosen (λ n. uid_eq n u || p n) (a ∷ acts) ≡ of_named (Some a) ++ chosen p acts =
        λ i. (if there i || p a.name then of_named (Some a) else []) ++ none i in
        let right : of_named (action_named (a ∷ acts) u) ++ chosen p (a ∷ acts) ≡ of_named (Some a) ++ chosen p acts =
        λ i. of_named (cond (e i) (Some a) (action_named acts u)) ++ ((if not_chosen i then of_named (Some a) else []) ++ chosen p acts) in
        same_order _ _ (left ∙ sym right)
    go rest false e =
        let there : uid_eq a.name u ≡ false = uid_symm a.name u ∙ e in
        let left : chosen (λ n. uid_eq n u || p n) (a ∷ acts) ≡ first ++ chosen (λ n. uid_eq n u || p n) acts =
        λ i. (if there i || p a.name then of_named (Some a) else []) ++ chosen (λ n. uid_eq n u || p n) acts in
        let right : of_named (action_named (a ∷ acts) u) ++ chosen p (a ∷ acts) ≡ named ++ (first ++ chosen p acts) =
        λ i. of_named (cond (e i) (Some a) (action_named acts u)) ++ (first ++ chosen p acts) in
        let moved : IsPermutation (first ++ (named ++ chosen p acts)) (named ++ (first ++ chosen p acts)) =
        subst (λ xs. IsPermutation xs (named ++ (first ++ chosen p acts))) (append_assoc first named (chosen p acts))
        (subst (λ xs. IsPermutation ((first ++ named) ++ chosen p acts) xs) (append_assoc named first (chosen p acts))
        (IsPermutation-append_left (chosen p acts) (first ++ named) (named ++ first) (IsPermutation-append_comm first named))) in
        IsPermutation-trans _ _ _ (same_order _ _ left)
        (IsPermutation-trans _ _ _ (IsPermutation-append_right first _ _ rest)
        (IsPermutation-trans _ _ _ moved (same_order _ _ (sym right))))

all_named : (acts : List DeclaredAction) → repeats_action acts ≡ false → (us : List Uid) → has_repeat uid_eq us ≡ false
    → IsPermutation (chosen (uid_is_among us) acts) (flat_map (λ u. of_named (action_named acts u)) us)
all_named acts apart [] h = same_order _ _ (none_chosen acts)
all_named acts apart (u ∷ us) h =
    IsPermutation-trans _ _ _ (one_more acts apart u (uid_is_among us) (neither_left (list_any (uid_eq u) us) (has_repeat uid_eq us) h))
    (IsPermutation-append_right (of_named (action_named acts u)) _ _ (all_named acts apart us (neither_right (list_any (uid_eq u) us) (has_repeat uid_eq us) h)))

-- ---- the environments that are kept

module _ (us : List Uid) where
  abbrev kept : Env → Bool
  kept = is_kept_by us

  -- those of one action are kept together
  together : (u : Uid) (o : Option Application) → AreAll (λ e. kept e ≡ uid_is_among us u) (map unlinked (action_environments u o))
  together u o = all_mapped (λ e. kept e ≡ uid_is_among us u) unlinked (action_environments u o) (of_action o)
    where
      of_action : (o : Option Application) → AreAll (λ d. uid_is_among us d.action ≡ uid_is_among us u) (action_environments u o)
      of_action None = λ d i. absurd i
      of_action (Some a) =
          all_flat (principal_environments u a.context a.resources) (λ d. uid_is_among us d.action ≡ uid_is_among us u) a.principals
          (λ p k. all_mapped (λ d. uid_is_among us d.action ≡ uid_is_among us u)
          (λ r. record { principal = p; action = u; resource = r; context = a.context }) a.resources (λ r j. refl))

  kept_declared : (acts : List DeclaredAction) → filter kept (map unlinked (environments_of acts)) ≡ chosen (uid_is_among us) acts
  kept_declared acts =
      ap (filter kept) (map_flat unlinked (λ a. action_environments a.name a.applies_to) acts)
      ∙ kept_flat kept (λ a. map unlinked (action_environments a.name a.applies_to)) acts
      ∙ flat_same (λ a. filter kept (map unlinked (action_environments a.name a.applies_to)))
      (λ a. if uid_is_among us a.name then map unlinked (action_environments a.name a.applies_to) else []) acts
      (λ a. kept_if kept (uid_is_among us a.name) (map unlinked (action_environments a.name a.applies_to)) (together a.name a.applies_to))

  kept_undeclared : (b : Bool) → filter kept (undeclared_envs b) ≡ undeclared_envs b
  kept_undeclared true = refl
  kept_undeclared false = refl

  pub is_either : (e : Env) → is_left_out_by us e ≡ not (kept e)
  is_either (Declared d p r) = refl
  is_either Undeclared = refl

  pub kept_unless : (e : Env) (b : Bool) → is_left_out_by us e ≡ b → kept e ≡ not b
  kept_unless e b h = turned (kept e) b (sym (is_either e) ∙ h)
    where
      turned : (a c : Bool) → not a ≡ c → a ≡ not c
      turned true c k = ap not k
      turned false c k = ap not k

-- those that are kept and those that are left out are all
pub both_parts : (us : List Uid) (es : List Env) → IsPermutation (filter (is_kept_by us) es ++ filter (is_left_out_by us) es) es
both_parts us es = IsPermutation-sym _ _ (IsPermutation-filter_both (is_kept_by us) (is_left_out_by us) (is_either us) es)

-- ---- a policy without slots

module _ (s : Schema) (m : ValidationMode) (t : PlainTemplate) (no_principal : has_slot SlotId.Principal t ≡ false)
    (no_resource : has_slot SlotId.Resource t ≡ false) where
  abbrev linked : Env → List Env
  linked = linked_by false false s t

  alone : (ds : List DeclaredEnv) (b : Bool) → flat_map linked (map unlinked ds ++ undeclared_envs b) ≡ map unlinked ds ++ undeclared_envs b
  alone [] true = refl
  alone [] false = refl
  alone (d ∷ ds) b = ap (λ es. unlinked d ∷ es) (alone ds b)

  pub not_linked : checked_envs s m t ≡ map unlinked (environments_of s.actions) ++ undeclared_envs (is_partial m)
  not_linked =
      (λ i. flat_map (linked_by (no_principal i) (no_resource i) s t) (map unlinked (environments_of s.actions) ++ undeclared_envs (is_partial m)))
      ∙ alone (environments_of s.actions) (is_partial m)

  module _ (us : List Uid) (apart : has_repeat uid_eq us ≡ false) (named : repeats_action s.actions ≡ false) where
    abbrev pub admitted : List Env
    admitted = flat_map (envs_named s.actions) us

    kept_checked : IsPermutation (filter (is_kept_by us) (checked_envs s m t)) (admitted ++ undeclared_envs (is_partial m))
    kept_checked =
        let all = map unlinked (environments_of s.actions) in
        let parts : filter (is_kept_by us) (checked_envs s m t) ≡ chosen (uid_is_among us) s.actions ++ undeclared_envs (is_partial m) =
        ap (filter (is_kept_by us)) not_linked
        ∙ filter-append (is_kept_by us) all (undeclared_envs (is_partial m))
        ∙ (λ i. kept_declared us s.actions i ++ kept_undeclared us (is_partial m) i) in
        IsPermutation-trans _ _ _ (same_order _ _ parts)
        (IsPermutation-append_left (undeclared_envs (is_partial m)) _ _ (all_named s.actions named us apart))

    -- the environments taken in by declarations, and those left out, are all
    pub parted : IsPermutation ((admitted ++ undeclared_envs (is_partial m)) ++ filter (is_left_out_by us) (checked_envs s m t)) (checked_envs s m t)
    parted =
        IsPermutation-trans _ _ _ (IsPermutation-append_left (filter (is_left_out_by us) (checked_envs s m t)) _ _ (IsPermutation-sym _ _ kept_checked))
        (both_parts us (checked_envs s m t))
