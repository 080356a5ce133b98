-- A table of Partial gives all that the table of Permissive gives.
use Rattle.std.proofs.Common.{◌≡◌, Bool, true, false, true≢false, List, [], ◌∷◌, Option, Some, None, if◌then◌else◌, refl, sym, ◌∙◌, ap}
use Rattle.std.specs.List.{list_all}
use Rattle.cedar_types.specs.declared.base.expressions.operators.BinaryOp.{BinaryOp}
use Rattle.cedar_types.specs.declared.base.expressions.operators.Var.{Var}
use Rattle.cedar_types.specs.declared.base.location.Loc.{Loc}
use Rattle.cedar_types.specs.declared.base.types.BoolType.TheVariants.{AnyBool, False}
use Rattle.cedar_types.specs.declared.base.types.ValidationMode.TheVariants.{Permissive, Partial}
use Rattle.cedar_types.specs.Environments.RequestEnvs.{Env}
use Rattle.cedar_types.specs.Names.{Text, Path, Uid}
use Rattle.cedar_types.specs.Types.{Ty, TBool}
use Rattle.cedar_types.specs.Types.Order.{in_order}
use Rattle.cedar_types.specs.Types.Bounds.{list_lub}
use Rattle.cedar_types.specs.Types.Lookups.{attribute_type, literal_type}
use Rattle.cedar_types.specs.Expressions.Tree.{Lit, bool, long, string, entity}
use Rattle.cedar_types.specs.Expressions.View.{Written}
use Rattle.cedar_types.specs.Extensions.Functions.{ExtensionFunction, function_named}
use Rattle.cedar_types.specs.Schemas.{declares_action}
use Rattle.cedar_types.specs.Capability.{Cap}
use Rattle.cedar_types.specs.Errors.{Finding, unexpected_type}
use Rattle.cedar_typing.specs.Capabilities.{Caps, no_caps, union}
use Rattle.cedar_typing.specs.Eager.{Decision, gives, refuses, Form, first_type, second_type}
use Rattle.cedar_typing.specs.Refinement.{in_mode}
use Rattle.cedar_typing.specs.Rules.Attributes.{attribute_of, get_decides, get_table, has_form, get_form}
use Rattle.cedar_typing.specs.Rules.Binary.{binary_form}
use Rattle.cedar_typing.specs.Rules.Calls.{form_of_function, call_form}
use Rattle.cedar_typing.specs.Rules.Chains.{Progress, no_steps, is_object, step_type, step_earns, with_step, go_on_unless_false, step, end_of_chain}
use Rattle.cedar_typing.specs.Rules.Chains.{after_access, made_up, chain, chain_table, chain_form}
use Rattle.cedar_typing.specs.Rules.Leaves.{variable_type, type_of_literal, known_entity_type, unknown_entity_type}
use Rattle.cedar_typing.specs.Rules.Membership.{is_action, only_actions, entity_of, ancestors_of, action_decides, in_decides}
use Rattle.cedar_typing.specs.Rules.Records.{record_form}
use Rattle.cedar_typing.specs.Rules.Sets.{all_types, set_by_bound, set_of_types, set_form}
use Rattle.cedar_typing.specs.Rules.Tags.{tag_of, tag_by_bound, get_known_tag, get_tag_table}
use Rattle.cedar_typing.specs.Setting.{Setting}
use Rattle.cedar_typing.specs.TypeEnv.{TypeEnv, finding}
use Rattle.cedar_typing.specs.TypeTests.{object_types, is_false}
use Rattle.cedar_typing.specs.TypedExpr.{Source, place_of}
use Rattle.cedar_typing.proofs.Rules.SameTables as same
use Rattle.cedar_typing.proofs.Basics.{none_is}
use Rattle.cedar_typing.proofs.Refinement.Eager.{with_table, operator_is}
use Rattle.cedar_typing.proofs.Refinement.Tables.{permissive_env}
use Rattle.cedar_typing.proofs.Refinement.PartialBounds.{list_same}

-- whether a table gives a type
abbrev is_given : Decision → Bool
is_given (gives t c) = true
is_given (refuses t es) = false

pub not_given : (o : Option Ty) (es : List Finding) (t : Ty) (c : Caps) → refuses o es ≡ gives t c → ⊥
not_given o es t c e = true≢false (sym (ap is_given e))

-- the decision d' gives the type and capabilities that d gives, if d gives any
abbrev pub GivesToo : Decision → Decision → Type 0
GivesToo d d' = (t : Ty) (c : Caps) → d ≡ gives t c → d' ≡ gives t c

pub same_gives : (d d' : Decision) → d' ≡ d → GivesToo d d'
same_gives d d' q t c e = q ∙ e

refused_gives : (o : Option Ty) (es : List Finding) (d' : Decision) → GivesToo (refuses o es) d'
refused_gives o es d' t c e = absurd (not_given o es t c e)

-- the table gives the type and capabilities that the table of f gives, if that gives any
abbrev pub TableGivesToo : Form → (List (Option Ty) → Decision) → Type 0
TableGivesToo f table = (ts : List (Option Ty)) → GivesToo (f.decides ts) (table ts)

choice_gives : (b : Bool) (d d' k k' : Decision) → GivesToo d d' → GivesToo k k' → GivesToo (if b then d else k) (if b then d' else k')
choice_gives true d d' k k' f g = f
choice_gives false d d' k k' f g = g

module _ (s : Setting) where
  abbrev pub wide : TypeEnv
  wide = permissive_env s

  abbrev pub part : TypeEnv
  part = (in_mode Partial s).env

  abbrev r : Env
  r = s.env.request_env

  -- ---- leaves

  known_too : (o : Option Ty) (u : Uid) (t : Ty) → known_entity_type o (unknown_entity_type Permissive u) ≡ Some t
      → known_entity_type o (unknown_entity_type Partial u) ≡ Some t
  known_too None u t e = absurd (none_is e)
  known_too (Some v) u t e = e

  pub literal_too : (x : Lit) (t : Ty) → type_of_literal wide x ≡ Some t → type_of_literal part x ≡ Some t
  literal_too (bool b) t e = e
  literal_too (long z) t e = e
  literal_too (string v) t e = e
  literal_too (entity u) t e = known_too (literal_type s.env.schema u) u t e

  pub variable_too : (x : Var) (t : Ty) → variable_type wide x ≡ Some t → variable_type part x ≡ Some t
  variable_too Var.Principal t e = e
  variable_too Var.Action t e = e
  variable_too Var.Resource t e = e
  variable_too Var.Context t e = e

  -- ---- attributes

  get_decided : (l : Option Loc) (x : Text) (known : Bool) (t : Ty) (a : Option (Ty × Bool))
      → GivesToo (get_decides wide l x known t a) (get_decides part l x known t a)
  get_decided l x known t None = refused_gives _ _ _
  get_decided l x known t (Some a) = same_gives _ _ refl

  get_too : (l : Option Loc) (x : Text) (known : Bool) (t : Option Ty) → GivesToo (get_table wide l x known t) (get_table part l x known t)
  get_too l x known None = refused_gives _ _ _
  get_too l x known (Some t) = get_decided l x known t (attribute_type s.env.schema t x)

  -- ---- extended `has`

  unless_false : (b : Bool) (d n n' : Decision) → GivesToo n n' → GivesToo (if b then d else n) (if b then d else n')
  unless_false true d n n' h = same_gives d d refl
  unless_false false d n n' h = h

  step_too : (l : Option Loc) (there : Cap) (known : Bool) (t : Ty) (x : Text) (q : Progress) (next next' : Progress → Decision)
      → ((z : Progress) → GivesToo (next z) (next' z))
      → GivesToo (step wide l there known t x q next) (step part l there known t x q next')
  step_too l there known t x q next next' n v c e =
      let a = attribute_type s.env.schema t x in
      let u = step_type wide t x known a in
      let typed = same.step_typed s.env Partial Permissive r r t x known a in
      let no = refuses (Some (TBool AnyBool)) (finding wide l (unexpected_type (in_order object_types) t) ∷ []) in
      let same : step part l there known t x q next' ≡ step wide l there known t x q next' =
      λ i. if is_object t then go_on_unless_false (typed i) (with_step q (typed i) (step_earns (typed i) there a)) next' else no in
      let z = with_step q u (step_earns u there a) in
      same
      ∙ choice_gives (is_object t) _ _ no no (unless_false (is_false u) (gives (TBool False) no_caps) (next z) (next' z) (n z))
      (same_gives no no refl) v c e

  after_too : (d d' : Decision) (next next' : Ty → Decision) → GivesToo d d' → ((t : Ty) → GivesToo (next t) (next' t))
      → GivesToo (after_access d next) (after_access d' next')
  after_too (gives t c) d' next next' f n u k e =
      ap (λ w. after_access w next') (f t c refl) ∙ n t u k e
  after_too (refuses t es) d' next next' f n u k e = absurd (not_given _ es u k e)

  chain_too : (l l' : Option Loc) (prior : Caps) (ys : List Text) (e : Source) (t : Ty) (x : Text) (q : Progress)
      → GivesToo (chain wide l l' prior ys e t x q) (chain part l l' prior ys e t x q)
  chain_too l l' prior [] e t x q =
      step_too l (attribute_of e x) (union prior q.earned (attribute_of e x)) t x q end_of_chain end_of_chain (λ z. same_gives _ _ refl)
  chain_too l l' prior (y ∷ ys) e t x q =
      step_too l (attribute_of e x) (union prior q.earned (attribute_of e x)) t x q _ _
      (λ z. after_too _ _ _ _
      (get_decided l x (union prior z.earned (attribute_of e x)) t (attribute_type s.env.schema t x))
      (λ u. chain_too l' l' prior ys (made_up e x) u y z))

  chain_table_too : (l : Option Loc) (prior : Caps) (e : Source) (x : Text) (xs : List Text) (t : Option Ty)
      → GivesToo (chain_table wide l prior e x xs t) (chain_table part l prior e x xs t)
  chain_table_too l prior e x xs None = refused_gives _ _ _
  chain_table_too l prior e x xs (Some t) = chain_too (place_of e) l prior xs e t x no_steps

  -- ---- operators

  action_too : (u : Uid) (vs : List Uid) → GivesToo (action_decides wide u vs) (action_decides part u vs)
  action_too u vs =
      choice_gives (list_all (declares_action s.env.schema.actions) vs) _ _ _ _ (same_gives _ _ refl) (refused_gives _ _ _)

  in_too : (x : Option Uid) (y : Option (List Uid)) (t u : Option Ty) → GivesToo (in_decides wide x y t u) (in_decides part x y t u)
  in_too None y t u = same_gives _ _ refl
  in_too (Some x) None t u = same_gives _ _ refl
  in_too (Some x) (Some y) t u = choice_gives (is_action x) _ _ _ _ (action_too x (only_actions y)) (same_gives _ _ refl)

  tag_known : (l : Option Loc) (t : Ty) (ts : List Ty) → get_known_tag part l t ts ≡ get_known_tag wide l t ts
  tag_known l t [] = refl
  tag_known l t (u ∷ us) =
      ap (tag_by_bound part l (u ∷ us)) (list_same (u ∷ us)) ∙ same.tag_bounded s.env Partial Permissive r r l (u ∷ us) (list_lub Permissive (u ∷ us))

  get_tagged : (l : Option Loc) (known : Bool) (t : Option Ty) → get_tag_table part l known t ≡ get_tag_table wide l known t
  get_tagged l = same.get_tagged s.env Partial Permissive r r l (tag_known l)

  set_typed : (l : Option Loc) (found : Option (List Ty)) → set_of_types part l found ≡ set_of_types wide l found
  set_typed l None = refl
  set_typed l (Some ts) = ap (set_by_bound part l ts) (list_same ts) ∙ same.set_bounded s.env Partial Permissive r r l ts (list_lub Permissive ts)

  pub set_too : (m : Written) → TableGivesToo (set_form wide m) (set_form part m).decides
  set_too m [] = same_gives _ _ refl
  set_too m (t ∷ ts) = same_gives _ _ (set_typed m.place (all_types (t ∷ ts)))

  pub record_too : (m : Written) (ks : List Text) → TableGivesToo (record_form wide m ks) (record_form part m ks).decides
  record_too m ks ts = same_gives _ _ (same.record_typed s.env Partial Permissive r r m.place ks (all_types ts))

  pub has_form_too : (m : Written) (prior : Caps) (e : Source) (x : Text)
      → TableGivesToo (has_form wide m prior e x) (has_form part m prior e x).decides
  has_form_too m prior e x ts = same_gives _ _ (same.has_same s.env Partial Permissive r r x (attribute_of e x) (prior (attribute_of e x)) (first_type ts))

  pub get_form_too : (m : Written) (prior : Caps) (e : Source) (x : Text)
      → TableGivesToo (get_form wide m prior e x) (get_form part m prior e x).decides
  get_form_too m prior e x ts = get_too m.place x (prior (attribute_of e x)) (first_type ts)

  pub chain_form_too : (m : Written) (prior : Caps) (e : Source) (x : Text) (xs : List Text)
      → TableGivesToo (chain_form wide m prior e x xs) (chain_form part m prior e x xs).decides
  chain_form_too m prior e x xs ts = chain_table_too m.place prior e x xs (first_type ts)

  function_same : (m : Written) (n : Path) (f : Option ExtensionFunction) (xs : List Source)
      → form_of_function part m n f xs ≡ form_of_function wide m n f xs
  function_same m n None xs = refl
  function_same m n (Some f) xs = refl

  pub call_same : (m : Written) (n : Path) (xs : List Source) → call_form part s.functions m n xs ≡ call_form wide s.functions m n xs
  call_same m n xs = function_same m n (function_named n s.functions) xs

  module _ (m : Written) (prior : Caps) (a b : Source) where
    pub binary_too : (o : BinaryOp) → TableGivesToo (binary_form wide m prior a b o) (binary_form part m prior a b o).decides
    binary_too BinaryOp.Eq ts = same_gives _ _ refl
    binary_too BinaryOp.Less ts = same_gives _ _ (same.compared s.env Partial Permissive r r (place_of a) (place_of b) (first_type ts) (second_type ts))
    binary_too BinaryOp.LessEq ts = same_gives _ _ (same.compared s.env Partial Permissive r r (place_of a) (place_of b) (first_type ts) (second_type ts))
    binary_too BinaryOp.Add ts = same_gives _ _ refl
    binary_too BinaryOp.Sub ts = same_gives _ _ refl
    binary_too BinaryOp.Mul ts = same_gives _ _ refl
    binary_too BinaryOp.In ts =
        in_too (entity_of s.env.request_env a) (ancestors_of s.env.request_env b) (first_type ts) (second_type ts)
    binary_too BinaryOp.Contains ts = same_gives _ _ refl
    binary_too BinaryOp.ContainsAll ts = same_gives _ _ refl
    binary_too BinaryOp.ContainsAny ts = same_gives _ _ refl
    binary_too BinaryOp.GetTag ts = same_gives _ _ (get_tagged m.place (prior (tag_of a b)) (first_type ts))
    binary_too BinaryOp.HasTag ts = same_gives _ _ (same.has_tagged s.env Partial Permissive r r m.place (tag_of a b) (prior (tag_of a b)) (first_type ts))

    -- the forms of an operator in the two modes differ only in their table
    pub binary_is : (o : BinaryOp)
        → with_table (binary_form wide m prior a b o) (binary_form part m prior a b o).decides (binary_form part m prior a b o).at_limit
        ≡ binary_form part m prior a b o
    binary_is = operator_is wide part m prior a b
