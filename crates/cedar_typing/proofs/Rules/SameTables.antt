-- The dependence of tables on the mode and on the request environment: most depend on neither, and three on whether the mode is
-- Partial. So they give the same results in two type environments that differ in nothing else.
use Rattle.std.proofs.Common.{◌≡◌, Bool, ◌&&◌, if◌then◌else◌, List, [], ◌∷◌, Option, Some, None, refl}
use Rattle.std.specs.List.{list_all}
use Rattle.cedar_types.specs.declared.base.location.Loc.{Loc}
use Rattle.cedar_types.specs.declared.base.types.BoolType.TheVariants.{AnyBool}
use Rattle.cedar_types.specs.declared.base.types.ValidationMode.{ValidationMode}
use Rattle.cedar_types.specs.Capability.{Cap}
use Rattle.cedar_types.specs.Environments.RequestEnvs.{Env, is_partial}
use Rattle.cedar_types.specs.Errors.{unexpected_type, unsafe_attribute_access, unsafe_tag_access, internal_invariant_violation}
use Rattle.cedar_types.specs.Names.{Text, Uid}
use Rattle.cedar_types.specs.Schemas.{declares_action}
use Rattle.cedar_types.specs.Types.{Ty, TNever, TBool}
use Rattle.cedar_types.specs.Types.Bounds.{is_never}
use Rattle.cedar_types.specs.Types.Lookups.{attribute_type, may_have, tag_types}
use Rattle.cedar_types.specs.Types.Order.{in_order}
use Rattle.cedar_typing.specs.Capabilities.{Caps, no_caps, union}
use Rattle.cedar_typing.specs.Eager.{Decision, gives, refuses}
use Rattle.cedar_typing.specs.Rules.Attributes.{attribute_of, has_decides, has_table, get_decides, get_table}
use Rattle.cedar_typing.specs.Rules.Chains.{Progress, no_steps, is_object, step_type, step_earns, with_step, go_on_unless_false, step}
use Rattle.cedar_typing.specs.Rules.Chains.{end_of_chain, after_access, made_up, chain, chain_table}
use Rattle.cedar_typing.specs.Rules.Leaves.{bool_ty}
use Rattle.cedar_typing.specs.Rules.Membership.{is_action, is_action_in, only_actions, entity_decides, in_decides}
use Rattle.cedar_typing.specs.Rules.Numbers.{compare_decides}
use Rattle.cedar_typing.specs.Rules.Records.{record_of_types}
use Rattle.cedar_typing.specs.Rules.Sets.{set_by_bound}
use Rattle.cedar_typing.specs.Rules.Tags.{has_tag_table, tag_by_bound, get_known_tag, get_tag_table, types_named}
use Rattle.cedar_typing.specs.TypeEnv.{TypeEnv, finding}
use Rattle.cedar_typing.specs.TypeTests.{object_types}
use Rattle.cedar_typing.specs.TypedExpr.{Source, place_of}

module _ (env : TypeEnv) (m m' : ValidationMode) (r r' : Env) where
  abbrev pub one : TypeEnv
  one = record env { mode = m; request_env = r }

  abbrev pub other : TypeEnv
  other = record env { mode = m'; request_env = r' }

  -- ---- tables that depend on neither

  has_decided : (x : Text) (there : Cap) (known : Bool) (t : Ty) (a : Option (Ty × Bool))
      → has_decides one x there known t a ≡ has_decides other x there known t a
  has_decided x there known t None = refl
  has_decided x there known t (Some a) = refl

  pub has_same : (x : Text) (there : Cap) (known : Bool) (t : Option Ty)
      → has_table one x there known t ≡ has_table other x there known t
  has_same x there known None = refl
  has_same x there known (Some t) = has_decided x there known t (attribute_type env.schema t x)

  pub step_typed : (t : Ty) (x : Text) (known : Bool) (a : Option (Ty × Bool))
      → step_type one t x known a ≡ step_type other t x known a
  step_typed t x known None = refl
  step_typed t x known (Some a) = refl

  pub step_same : (l : Option Loc) (there : Cap) (known : Bool) (t : Ty) (x : Text) (q : Progress) (next next' : Progress → Decision)
      → next ≡ next' → step one l there known t x q next ≡ step other l there known t x q next'
  step_same l there known t x q next next' n =
      let a = attribute_type env.schema t x in
      let u = step_typed t x known a in
      λ i. if is_object t then go_on_unless_false (u i) (with_step q (u i) (step_earns (u i) there a)) (n i)
      else refuses (Some (TBool AnyBool)) (finding env l (unexpected_type (in_order object_types) t) ∷ [])

  pub compared : (l l' : Option Loc) (t u : Option Ty) → compare_decides one l l' t u ≡ compare_decides other l l' t u
  compared l l' None u = refl
  compared l l' (Some t) None = refl
  compared l l' (Some t) (Some u) = refl

  pub has_tagged : (l : Option Loc) (there : Cap) (known : Bool) (t : Option Ty)
      → has_tag_table one l there known t ≡ has_tag_table other l there known t
  has_tagged l there known None = refl
  has_tagged l there known (Some t) = refl

  pub tag_bounded : (l : Option Loc) (ts : List Ty) (o : Option Ty) → tag_by_bound one l ts o ≡ tag_by_bound other l ts o
  tag_bounded l ts None = refl
  tag_bounded l ts (Some u) = refl

  -- the table of `getTag` gives the same result if it does so for a tag that is known to be there
  pub get_tagged : (l : Option Loc) → ((t : Ty) (ts : List Ty) → get_known_tag one l t ts ≡ get_known_tag other l t ts)
      → (known : Bool) (t : Option Ty) → get_tag_table one l known t ≡ get_tag_table other l known t
  get_tagged l same known None = refl
  get_tagged l same known (Some t) =
      λ i. if is_never t then refuses None (finding env l internal_invariant_violation ∷ [])
      else if known then same t (tag_types env.schema t) i
      else refuses None (finding env l (unsafe_tag_access (types_named t)) ∷ [])

  pub set_bounded : (l : Option Loc) (ts : List Ty) (o : Option Ty) → set_by_bound one l ts o ≡ set_by_bound other l ts o
  set_bounded l ts None = refl
  set_bounded l ts (Some u) = refl

  pub record_typed : (l : Option Loc) (ks : List Text) (ts : Option (List Ty))
      → record_of_types one l ks ts ≡ record_of_types other l ks ts
  record_typed l ks None = refl
  record_typed l ks (Some ts) = refl

  -- ---- tables that depend on whether the mode is Partial

  module _ (same : is_partial m ≡ is_partial m') where
    pub get_decided : (l : Option Loc) (x : Text) (known : Bool) (t : Ty) (a : Option (Ty × Bool))
        → get_decides one l x known t a ≡ get_decides other l x known t a
    get_decided l x known t (Some a) = refl
    get_decided l x known t None =
        λ i. if same i && may_have env.schema t x then gives TNever no_caps
        else refuses None (finding env l (unsafe_attribute_access t x (may_have env.schema t x)) ∷ [])

    pub get_same : (l : Option Loc) (x : Text) (known : Bool) (t : Option Ty)
        → get_table one l x known t ≡ get_table other l x known t
    get_same l x known None = refl
    get_same l x known (Some t) = get_decided l x known t (attribute_type env.schema t x)

    chain_same : (l l' : Option Loc) (prior : Caps) (ys : List Text) (e : Source) (t : Ty) (x : Text) (q : Progress)
        → chain one l l' prior ys e t x q ≡ chain other l l' prior ys e t x q
    chain_same l l' prior [] e t x q =
        step_same l (attribute_of e x) (union prior q.earned (attribute_of e x)) t x q end_of_chain end_of_chain refl
    chain_same l l' prior (y ∷ ys) e t x q =
        step_same l (attribute_of e x) (union prior q.earned (attribute_of e x)) t x q _ _
        (λ i z. after_access
        (get_decided l x (union prior z.earned (attribute_of e x)) t (attribute_type env.schema t x) i)
        (λ u. chain_same l' l' prior ys (made_up e x) u y z i))

    pub chain_table_same : (l : Option Loc) (prior : Caps) (e : Source) (x : Text) (xs : List Text) (t : Option Ty)
        → chain_table one l prior e x xs t ≡ chain_table other l prior e x xs t
    chain_table_same l prior e x xs None = refl
    chain_table_same l prior e x xs (Some t) = chain_same (place_of e) l prior xs e t x no_steps

    pub in_decided : (x : Option Uid) (y : Option (List Uid)) (t u : Option Ty)
        → in_decides one x y t u ≡ in_decides other x y t u
    in_decided None y t u = refl
    in_decided (Some x) None t u = refl
    in_decided (Some x) (Some y) t u =
        λ i. if is_action x then
        (if list_all (declares_action env.schema.actions) (only_actions y)
        then gives (bool_ty (is_action_in env.schema.actions x (only_actions y))) no_caps
        else if same i then gives (TBool AnyBool) no_caps
        else refuses (Some (TBool AnyBool)) [])
        else entity_decides env t u
