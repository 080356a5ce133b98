-- The tables of Strict and of Permissive agree wherever that of Strict has no error.
use Rattle.std.proofs.Common.{◌≡◌, inl, inr, Bool, true, false, List, [], ◌∷◌, Option, Some, None, if◌then◌else◌, refl, ◌∙◌, ap}
use Rattle.cedar_types.specs.declared.base.errors.type_errors.LubContext.TheVariants.{Equality, Contains, ContainsAnyAll}
use Rattle.cedar_types.specs.declared.base.expressions.operators.BinaryOp.{BinaryOp}
use Rattle.cedar_types.specs.declared.base.expressions.operators.Var.{Var}
use Rattle.cedar_types.specs.declared.base.location.Loc.{Loc}
use Rattle.cedar_types.specs.declared.base.types.BoolType.TheVariants.{AnyBool}
use Rattle.cedar_types.specs.declared.base.types.ValidationMode.TheVariants.{Strict, Permissive}
use Rattle.cedar_types.specs.Environments.RequestEnvs.{Env}
use Rattle.cedar_types.specs.Names.{Text}
use Rattle.cedar_types.specs.Types.{Ty, TBool}
use Rattle.cedar_types.specs.Types.Bounds.{is_never, lub, go_on, fold_lub, list_lub}
use Rattle.cedar_types.specs.Types.Lookups.{tag_types}
use Rattle.cedar_types.specs.Expressions.Tree.{Lit, bool, long, string, entity}
use Rattle.cedar_types.specs.Expressions.View.{Written}
use Rattle.cedar_types.specs.Errors.{Finding}
use Rattle.cedar_typing.specs.Capabilities.{Caps, no_caps}
use Rattle.cedar_typing.specs.Eager.{Decision, gives, refuses, gives_unless, first_type, second_type}
use Rattle.cedar_typing.specs.Refinement.{in_mode}
use Rattle.cedar_typing.specs.Rules.Attributes.{attribute_of, has_form, get_form}
use Rattle.cedar_typing.specs.Rules.Binary.{binary_form}
use Rattle.cedar_typing.specs.Rules.Chains.{chain_form}
use Rattle.cedar_typing.specs.Rules.Equality.{literal_of, equality_type, member_type}
use Rattle.cedar_typing.specs.Rules.Leaves.{variable_type, type_of_literal}
use Rattle.cedar_typing.specs.Rules.Membership.{entity_of, ancestors_of}
use Rattle.cedar_typing.specs.Rules.Records.{record_form}
use Rattle.cedar_typing.specs.Rules.Sets.{all_types, set_by_bound, set_of_types, errors_of, set_form}
use Rattle.cedar_typing.specs.Rules.Tags.{tag_of, tag_by_bound, get_known_tag, get_tag_table}
use Rattle.cedar_typing.specs.Setting.{Setting}
use Rattle.cedar_typing.specs.TypeEnv.{TypeEnv}
use Rattle.cedar_typing.specs.TypeTests.{is_any_bool}
use Rattle.cedar_typing.specs.TypeTests.Joins.{strict_errors}
use Rattle.cedar_typing.specs.TypedExpr.{Source, place_of}
use Rattle.cedar_typing.proofs.Rules.SameTables as same
use Rattle.cedar_typing.proofs.Basics.{none_is}
use Rattle.cedar_typing.proofs.Basics.Members.{AreAll}
use Rattle.cedar_typing.proofs.KeptTypes.Keeping.{AreKept}
use Rattle.cedar_typing.proofs.KeptTypes.Sets.{found_kept}
use Rattle.cedar_typing.proofs.Refinement.Eager.{SaysTheSame, with_table, operator_is}
use Rattle.cedar_typing.proofs.Refinement.Parts.{not_nil}

-- a table without errors gives the type
given : (es : List Finding) (t : Ty) → errors_of (gives_unless es t) ≡ [] → gives t no_caps ≡ gives_unless es t
given [] t q = refl
given (e ∷ es) t q = absurd (not_nil e es q)

module _ (s : Setting) where
  abbrev pub strict_env : TypeEnv
  strict_env = (in_mode Strict s).env

  abbrev pub permissive_env : TypeEnv
  permissive_env = (in_mode Permissive s).env

  abbrev r : Env
  r = s.env.request_env

  -- ---- leaves

  pub literal_same : (x : Lit) → type_of_literal permissive_env x ≡ type_of_literal strict_env x
  literal_same (bool b) = refl
  literal_same (long z) = refl
  literal_same (string t) = refl
  literal_same (entity u) = refl

  pub variable_same : (x : Var) → variable_type permissive_env x ≡ variable_type strict_env x
  variable_same Var.Principal = refl
  variable_same Var.Action = refl
  variable_same Var.Resource = refl
  variable_same Var.Context = refl

  -- ---- `==`

  equal_decided : (b : Bool) (es : List Finding) (u : Ty) → errors_of (if b then gives_unless es u else gives u no_caps) ≡ []
      → (if b then gives u no_caps else gives u no_caps) ≡ (if b then gives_unless es u else gives u no_caps)
  equal_decided true es u q = given es u q
  equal_decided false es u q = refl

  -- ---- forms that ask for a bound

  module _ (Kept : Ty → Type 0) (bounds : (t u v : Ty) → Kept u → lub Strict t u ≡ Some v → lub Permissive t u ≡ Some v) where
    next_kept : (w : Ty) (t : Ty) (ts : List Ty) (u : Ty) (o : Option Ty) → Kept t → lub Strict w t ≡ o
        → ((v : Ty) → fold_lub Strict v ts ≡ Some u → fold_lub Permissive v ts ≡ Some u)
        → go_on o (λ v. fold_lub Strict v ts) ≡ Some u → fold_lub Permissive w (t ∷ ts) ≡ Some u
    next_kept w t ts u None k f others e = absurd (none_is e)
    next_kept w t ts u (Some v) k f others e = ap (λ o. go_on o (λ v. fold_lub Permissive v ts)) (bounds w t v k f) ∙ others v e

    fold_kept : (w : Ty) (ts : List Ty) (u : Ty) → AreKept Kept ts → fold_lub Strict w ts ≡ Some u → fold_lub Permissive w ts ≡ Some u
    fold_kept w [] u k e = e
    fold_kept w (t ∷ ts) u k e = next_kept w t ts u (lub Strict w t) k.0 refl (λ v. fold_kept v ts u k.1) e

    list_kept : (ts : List Ty) (u : Ty) → AreKept Kept ts → list_lub Strict ts ≡ Some u → list_lub Permissive ts ≡ Some u
    list_kept [] u k e = e
    list_kept (t ∷ ts) u k e = fold_kept t ts u k.1 e

    -- ---- sets

    set_bounded : (l : Option Loc) (ts : List Ty) (o : Option Ty) → AreKept Kept ts → list_lub Strict ts ≡ o
        → errors_of (set_by_bound strict_env l ts o) ≡ []
        → set_by_bound permissive_env l ts (list_lub Permissive ts) ≡ set_by_bound strict_env l ts o
    set_bounded l ts None k e q = absurd (not_nil _ [] q)
    set_bounded l ts (Some u) k e q = ap (set_by_bound permissive_env l ts) (list_kept ts u k e)

    set_typed : (l : Option Loc) (found : Option (List Ty)) → ((ts : List Ty) → found ≡ Some ts → AreKept Kept ts)
        → errors_of (set_of_types strict_env l found) ≡ []
        → set_of_types permissive_env l found ≡ set_of_types strict_env l found
    set_typed l None k q = refl
    set_typed l (Some ts) k q = set_bounded l ts (list_lub Strict ts) (k ts refl) refl q

    pub set_says : (m : Written) → SaysTheSame Kept (set_form strict_env m) (set_form permissive_env m).decides
    set_says m [] k q = absurd (not_nil _ [] q)
    set_says m (t ∷ ts) k q = set_typed m.place (all_types (t ∷ ts)) (λ us. found_kept Kept (t ∷ ts) us k) q

    -- ---- `getTag`

    tag_bounded : (l : Option Loc) (ts : List Ty) (o : Option Ty) → AreKept Kept ts → list_lub Strict ts ≡ o
        → errors_of (tag_by_bound strict_env l ts o) ≡ []
        → tag_by_bound permissive_env l ts (list_lub Permissive ts) ≡ tag_by_bound strict_env l ts o
    tag_bounded l ts None k e q = absurd (not_nil _ [] q)
    tag_bounded l ts (Some u) k e q = ap (tag_by_bound permissive_env l ts) (list_kept ts u k e)

    tag_known : (l : Option Loc) (t : Ty) (ts : List Ty) → AreKept Kept ts
        → errors_of (get_known_tag strict_env l t ts) ≡ []
        → get_known_tag permissive_env l t ts ≡ get_known_tag strict_env l t ts
    tag_known l t [] k q = refl
    tag_known l t (u ∷ us) k q = tag_bounded l (u ∷ us) (list_lub Strict (u ∷ us)) k refl q

    each_kept : (ts : List Ty) → AreAll Kept ts → AreKept Kept ts
    each_kept [] h = tt
    each_kept (t ∷ ts) h = (h t (inl refl), each_kept ts (λ u i. h u (inr i)))

    unless : (b : Bool) (e : Finding) (d d' : Decision) → (errors_of d ≡ [] → d' ≡ d)
        → errors_of (if b then refuses None (e ∷ []) else d) ≡ []
        → (if b then refuses None (e ∷ []) else d') ≡ (if b then refuses None (e ∷ []) else d)
    unless true e d d' h q = refl
    unless false e d d' h q = h q

    where_known : (b : Bool) (e : Finding) (d d' : Decision) → (errors_of d ≡ [] → d' ≡ d)
        → errors_of (if b then d else refuses None (e ∷ [])) ≡ []
        → (if b then d' else refuses None (e ∷ [])) ≡ (if b then d else refuses None (e ∷ []))
    where_known true e d d' h q = h q
    where_known false e d d' h q = refl

    module _ (tags : (t : Ty) → AreAll Kept (tag_types s.env.schema t)) where
      get_tagged : (l : Option Loc) (known : Bool) (t : Option Ty) → errors_of (get_tag_table strict_env l known t) ≡ []
          → get_tag_table permissive_env l known t ≡ get_tag_table strict_env l known t
      get_tagged l known None q = refl
      get_tagged l known (Some t) q =
          unless (is_never t) _ _ _
          (where_known known _ _ _ (tag_known l t (tag_types s.env.schema t) (each_kept _ (tags t)))) q

      -- ---- all operators on two operands

      module _ (m : Written) (prior : Caps) (a b : Source) where
        pub binary_says : (o : BinaryOp)
            → SaysTheSame Kept (binary_form strict_env m prior a b o) (binary_form permissive_env m prior a b o).decides
        binary_says BinaryOp.Eq ts k q =
            let u = equality_type (literal_of s.env.request_env a) (literal_of s.env.request_env b) (first_type ts) (second_type ts) in
            equal_decided (is_any_bool u) (strict_errors strict_env m.place Equality (first_type ts) (second_type ts)) u q
        binary_says BinaryOp.Less ts k q = same.compared s.env Permissive Strict r r (place_of a) (place_of b) (first_type ts) (second_type ts)
        binary_says BinaryOp.LessEq ts k q = same.compared s.env Permissive Strict r r (place_of a) (place_of b) (first_type ts) (second_type ts)
        binary_says BinaryOp.Add ts k q = refl
        binary_says BinaryOp.Sub ts k q = refl
        binary_says BinaryOp.Mul ts k q = refl
        binary_says BinaryOp.In ts k q =
            same.in_decided s.env Permissive Strict r r refl (entity_of s.env.request_env a) (ancestors_of s.env.request_env b) (first_type ts) (second_type ts)
        binary_says BinaryOp.Contains ts k q =
            given (strict_errors strict_env m.place Contains (member_type (first_type ts)) (second_type ts)) (TBool AnyBool) q
        binary_says BinaryOp.ContainsAll ts k q =
            given (strict_errors strict_env m.place ContainsAnyAll (first_type ts) (second_type ts)) (TBool AnyBool) q
        binary_says BinaryOp.ContainsAny ts k q =
            given (strict_errors strict_env m.place ContainsAnyAll (first_type ts) (second_type ts)) (TBool AnyBool) q
        binary_says BinaryOp.GetTag ts k q = get_tagged m.place (prior (tag_of a b)) (first_type ts) q
        binary_says BinaryOp.HasTag ts k q = same.has_tagged s.env Permissive Strict r r m.place (tag_of a b) (prior (tag_of a b)) (first_type ts)

        -- the forms of an operator in the two modes differ only in their table
        pub binary_is : (o : BinaryOp)
            → with_table (binary_form strict_env m prior a b o) (binary_form permissive_env m prior a b o).decides
            (binary_form permissive_env m prior a b o).at_limit
            ≡ binary_form permissive_env m prior a b o
        binary_is = operator_is strict_env permissive_env m prior a b

  -- ---- forms of one operand, and records

  module _ (Kept : Ty → Type 0) (m : Written) where
    pub has_says : (prior : Caps) (e : Source) (x : Text)
        → SaysTheSame Kept (has_form strict_env m prior e x) (has_form permissive_env m prior e x).decides
    has_says prior e x ts k q = same.has_same s.env Permissive Strict r r x (attribute_of e x) (prior (attribute_of e x)) (first_type ts)

    pub get_says : (prior : Caps) (e : Source) (x : Text)
        → SaysTheSame Kept (get_form strict_env m prior e x) (get_form permissive_env m prior e x).decides
    get_says prior e x ts k q = same.get_same s.env Permissive Strict r r refl m.place x (prior (attribute_of e x)) (first_type ts)

    pub chain_says : (prior : Caps) (e : Source) (x : Text) (xs : List Text)
        → SaysTheSame Kept (chain_form strict_env m prior e x xs) (chain_form permissive_env m prior e x xs).decides
    chain_says prior e x xs ts k q = same.chain_table_same s.env Permissive Strict r r refl m.place prior e x xs (first_type ts)

    pub record_says : (ks : List Text) → SaysTheSame Kept (record_form strict_env m ks) (record_form permissive_env m ks).decides
    record_says ks ts k q = same.record_typed s.env Permissive Strict r r m.place ks (all_types ts)
