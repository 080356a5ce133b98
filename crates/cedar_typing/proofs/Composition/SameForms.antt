-- Inference asks the request environment for its variables and slots alone: all else is alike in
-- any two environments.
use Rattle.std.proofs.Common.{◌≡◌, Bool, true, false, ◌&&◌, if◌then◌else◌, List, [], ◌∷◌, ◌++◌, Option, Some, None, is_some, refl}
use Rattle.cedar_types.specs.declared.base.errors.type_errors.LubContext.{LubContext}
use Rattle.cedar_types.specs.declared.base.errors.type_errors.LubContext.TheVariants.{Conditional, Equality, Contains, ContainsAnyAll}
use Rattle.cedar_types.specs.declared.base.expressions.operators.BinaryOp.{BinaryOp}
use Rattle.cedar_types.specs.declared.base.expressions.operators.Var.{Var}
use Rattle.cedar_types.specs.declared.base.location.Loc.{Loc}
use Rattle.cedar_types.specs.declared.base.types.BoolType.TheVariants.{AnyBool}
use Rattle.cedar_types.specs.Names.{Text, Path}
use Rattle.cedar_types.specs.Types.{Ty, TBool}
use Rattle.cedar_types.specs.Expressions.Tree.{if_then_else, binary, get_attr, has_attr, ext_has_attr, set_of, record_of}
use Rattle.cedar_types.specs.Expressions.View.{Written, trees_of}
use Rattle.cedar_types.specs.Types.Bounds.{is_strict, lub, list_lub}
use Rattle.cedar_types.specs.Environments.RequestEnvs.{Env}
use Rattle.cedar_types.specs.Errors.{Finding}
use Rattle.cedar_types.specs.Extensions.Functions.{ExtensionFunction, function_named}
use Rattle.cedar_typing.specs.Capabilities.{Caps, no_caps, union, intersection}
use Rattle.cedar_typing.specs.Composition.{in_env}
use Rattle.cedar_typing.specs.Eager.{Expectation, gives, Form, gives_unless, first_expectation, later_expectations, first_type, second_type, first_tree, second_tree, on_one, on_two}
use Rattle.cedar_typing.specs.Infer.Conditional.{infer_constant_test, infer_open_parts, infer_branches}
use Rattle.cedar_typing.specs.Infer.Eager.{OperandsAndErrors, infer_none, expect_operand, infer_rest, infer_one_more, infer_eager, infer_one_operand, infer_two_operands}
use Rattle.cedar_typing.specs.Infer.Parts.{Part, AnswerAndErrors, answer_if, part_from, expect_type, expect_part, expect, any_part, after}
use Rattle.cedar_typing.specs.Infer.ShortCircuit.{infer_sides, infer_right}
use Rattle.cedar_typing.specs.TypeTests.Joins.{joined, bound_errors, join_errors, strict_errors}
use Rattle.cedar_typing.specs.Rules.Attributes.{attribute_of, has_form, get_form}
use Rattle.cedar_typing.specs.Rules.Binary.{binary_form}
use Rattle.cedar_typing.specs.Rules.Calls.{form_of_function, call_form}
use Rattle.cedar_typing.specs.Rules.Chains.{chain_form}
use Rattle.cedar_typing.specs.Rules.Records.{fields_from, record_form}
use Rattle.cedar_typing.specs.Rules.Sets.{all_types, set_of_types, set_decides, errors_of, set_form}
use Rattle.cedar_typing.specs.Rules.Equality.{variable_literal, literal_of, equality_type, equality_decides, equality_form, member_type}
use Rattle.cedar_typing.specs.Rules.Membership.{entity_of, ancestors_of, in_form}
use Rattle.cedar_typing.specs.Rules.ShortCircuit.{Connective}
use Rattle.cedar_typing.specs.Rules.Tags.{tag_of, get_known_tag, get_tag_table}
use Rattle.cedar_typing.specs.Setting.{Setting}
use Rattle.cedar_typing.specs.TypeEnv.{TypeEnv}
use Rattle.cedar_typing.specs.TypeTests.{bool_types, string_types, set_types, entity_types, ancestor_types, object_types, is_any_bool, is_true, is_false, annotation_passes}
use Rattle.cedar_typing.specs.TypedExpr.{Source, annotation, at_place, place_of, typed_as}
use Rattle.cedar_typing.proofs.Rules.SameTables as same
use Rattle.cedar_typing.proofs.Composition.SameLiterals.{literal_same, entity_same, ancestors_same}

module _ (s : Setting) (here elsewhere : Env) where
  abbrev pub one : Setting
  one = in_env s here

  abbrev pub other : Setting
  other = in_env s elsewhere

  abbrev e1 : TypeEnv
  e1 = one.env

  abbrev e2 : TypeEnv
  e2 = other.env

  -- ---- parts

  type_same : (ts : List Ty) (l : Option Loc) (a : Part) (es : List Finding) (t : Option Ty) → expect_type e1 ts l a es t ≡ expect_type e2 ts l a es t
  type_same ts l a es None = refl
  type_same ts l a es (Some t) = refl

  part_same : (ts : List Ty) (l : Option Loc) (a : Option Part) (es : List Finding) → expect_part e1 ts l a es ≡ expect_part e2 ts l a es
  part_same ts l None es = refl
  part_same ts l (Some a) es = type_same ts l a es (annotation a.tree)

  pub expect_same : (ts : List Ty) (l : Option Loc) (o : AnswerAndErrors) → expect e1 ts l o ≡ expect e2 ts l o
  expect_same ts l o = part_same ts l (part_from o.0) o.1

  operand_same : (q : Expectation) (l : Option Loc) (o : AnswerAndErrors) → expect_operand e1 q l o ≡ expect_operand e2 q l o
  operand_same None l o = refl
  operand_same (Some ts) l o = expect_same ts l o

  pub more_same : (goes_on : Bool) (q : Expectation) (l : Option Loc) (o : List Finding → AnswerAndErrors)
      (rest : List Finding → OperandsAndErrors) → infer_one_more e1 goes_on q l o rest ≡ infer_one_more e2 goes_on q l o rest
  more_same goes_on q l o rest = λ i es. infer_rest goes_on (operand_same q l (o es) i).0 (operand_same q l (o es) i).1 rest

  pub one_same : (f : Form) (l : Option Loc) (o : List Finding → AnswerAndErrors) → infer_one_operand e1 f l o ≡ infer_one_operand e2 f l o
  one_same f l o = λ i. infer_eager f (more_same f.goes_on (first_expectation f.expects) l o infer_none i)

  pub two_same : (f : Form) (l l' : Option Loc) (a b : List Finding → AnswerAndErrors) → infer_two_operands e1 f l l' a b ≡ infer_two_operands e2 f l l' a b
  two_same f l l' a b =
      λ i. infer_eager f (more_same f.goes_on (first_expectation f.expects) l a (more_same f.goes_on (first_expectation (later_expectations f.expects)) l' b infer_none i) i)

  pub right_same : (f : Connective) (m : Written) (l : Option Loc) (prior : Caps) (a : Part) (es : List Finding) (right : Caps → List Finding → AnswerAndErrors)
      → infer_right e1 f m l prior a es right ≡ infer_right e2 f m l prior a es right
  right_same f m l prior a es right =
      λ i. if annotation_passes f.ends (annotation a.tree)
      then (answer_if a.succeeded (at_place m.place a.tree) (f.ended_caps a.capabilities), es)
      else after (expect_same bool_types l (right (f.right_prior prior a.capabilities) es) i) (λ b es'. (infer_sides f m a b (annotation a.tree) (annotation b.tree), es'))

  -- ---- bounds

  bound_same : (l : Option Loc) (x : LubContext) (t u : Ty) (v : Option Ty) → bound_errors e1 l x t u v ≡ bound_errors e2 l x t u v
  bound_same l x t u None = refl
  bound_same l x t u (Some v) = refl

  join_same : (l : Option Loc) (x : LubContext) (t u : Option Ty) → join_errors e1 l x t u ≡ join_errors e2 l x t u
  join_same l x None u = refl
  join_same l x (Some t) None = refl
  join_same l x (Some t) (Some u) = bound_same l x t u (lub s.env.mode t u)

  strict_same : (l : Option Loc) (x : LubContext) (t u : Option Ty) → strict_errors e1 l x t u ≡ strict_errors e2 l x t u
  strict_same l x t u = λ i. if is_strict s.env.mode then join_same l x t u i else []

  open_same : (m : Written) (a : Part) (b c : Option Part) (es : List Finding) → infer_open_parts e1 m a b c es ≡ infer_open_parts e2 m a b c es
  open_same m a None c es = refl
  open_same m a (Some b) None es = refl
  open_same m a (Some b) (Some c) es = λ i. (
    answer_if
        (a.succeeded && b.succeeded && c.succeeded && is_some (joined s.env.mode (annotation b.tree) (annotation c.tree)))
        (if_then_else (typed_as (joined s.env.mode (annotation b.tree) (annotation c.tree)) m) a.tree b.tree c.tree)
        (intersection c.capabilities (union a.capabilities b.capabilities)),
    es ++ join_same m.place Conditional (annotation b.tree) (annotation c.tree) i,
  )

  pub branches_same : (m : Written) (prior : Caps) (a : Part) (es : List Finding) (branch : Caps → List Finding → AnswerAndErrors) (otherwise : List Finding → AnswerAndErrors)
      → infer_branches e1 m prior a es branch otherwise ≡ infer_branches e2 m prior a es branch otherwise
  branches_same m prior a es branch otherwise =
      let b = branch (union prior a.capabilities) es in
      λ i. if annotation_passes is_true (annotation a.tree)
      then after (any_part b) (λ b es'. (infer_constant_test m a b (union a.capabilities b.capabilities), es'))
      else if annotation_passes is_false (annotation a.tree)
      then after (any_part (otherwise es)) (λ e es'. (infer_constant_test m a e e.capabilities, es'))
      else open_same m a (part_from b.0) (part_from (otherwise b.1).0) (otherwise b.1).1 i

  -- ---- attributes

  pub has_form_same : (m : Written) (prior : Caps) (e : Source) (x : Text) → has_form e1 m prior e x ≡ has_form e2 m prior e x
  has_form_same m prior e x = λ i. on_one m (Some object_types) (λ t. same.has_same s.env s.env.mode s.env.mode here elsewhere x (attribute_of e x) (prior (attribute_of e x)) t i) (λ k a. has_attr k a x)

  pub get_form_same : (m : Written) (prior : Caps) (e : Source) (x : Text) → get_form e1 m prior e x ≡ get_form e2 m prior e x
  get_form_same m prior e x = λ i. on_one m (Some object_types) (λ t. same.get_same s.env s.env.mode s.env.mode here elsewhere refl m.place x (prior (attribute_of e x)) t i) (λ k a. get_attr k a x)

  pub chain_form_same : (m : Written) (prior : Caps) (e : Source) (x : Text) (xs : List Text) → chain_form e1 m prior e x xs ≡ chain_form e2 m prior e x xs
  chain_form_same m prior e x xs = λ i. on_one m (Some object_types) (λ t. same.chain_table_same s.env s.env.mode s.env.mode here elsewhere refl m.place prior e x xs t i) (λ k a. ext_has_attr k a x xs)

  -- ---- calls and sets

  function_same : (m : Written) (n : Path) (f : Option ExtensionFunction) (xs : List Source) → form_of_function e1 m n f xs ≡ form_of_function e2 m n f xs
  function_same m n None xs = refl
  function_same m n (Some f) xs = refl

  pub call_form_same : (m : Written) (n : Path) (xs : List Source) → call_form e1 s.functions m n xs ≡ call_form e2 s.functions m n xs
  call_form_same m n xs = function_same m n (function_named n s.functions) xs

  set_typed : (l : Option Loc) (ts : Option (List Ty)) → set_of_types e1 l ts ≡ set_of_types e2 l ts
  set_typed l None = refl
  set_typed l (Some ts) = same.set_bounded s.env s.env.mode s.env.mode here elsewhere l ts (list_lub s.env.mode ts)

  set_decided : (l : Option Loc) (ts : List (Option Ty)) → set_decides e1 l ts ≡ set_decides e2 l ts
  set_decided l [] = refl
  set_decided l (t ∷ ts) = set_typed l (all_types (t ∷ ts))

  pub set_form_same : (m : Written) → set_form e1 m ≡ set_form e2 m
  set_form_same m = λ i. record {
    at = m;
    expects = [];
    goes_on = true;
    decides = λ ts. set_decided m.place ts i;
    type_if_failed = λ t. t;
    at_limit = λ ts. errors_of (set_typed m.place (all_types ts) i);
    node = λ k xs. set_of k (trees_of xs);
  }

  pub record_form_same : (m : Written) (ks : List Text) → record_form e1 m ks ≡ record_form e2 m ks
  record_form_same m ks = λ i. record {
    at = m;
    expects = [];
    goes_on = false;
    decides = λ ts. same.record_typed s.env s.env.mode s.env.mode here elsewhere m.place ks (all_types ts) i;
    type_if_failed = λ t. t;
    at_limit = λ ts. [];
    node = λ k xs. record_of k (fields_from ks xs);
  }

  -- ---- operators

  -- `in` and `==` ask which entities and literals their operands are
  pub in_same : (m : Written) (a b : Source) → entity_of here a ≡ entity_of elsewhere a → ancestors_of here b ≡ ancestors_of elsewhere b
      → in_form e1 m a b ≡ in_form e2 m a b
  in_same m a b ha hb = λ i. record {
    at = m;
    expects = Some entity_types ∷ Some ancestor_types ∷ [];
    goes_on = true;
    decides = λ ts. same.in_decided s.env s.env.mode s.env.mode here elsewhere refl (ha i) (hb i) (first_type ts) (second_type ts) i;
    type_if_failed = λ t. TBool AnyBool;
    at_limit = λ ts. [];
    node = λ k xs. binary k BinaryOp.In (first_tree xs) (second_tree xs);
  }

  pub equal_decided : (l : Option Loc) (u : Ty) (t t' : Option Ty) → equality_decides e1 l u t t' ≡ equality_decides e2 l u t t'
  equal_decided l u t t' = λ i. if is_any_bool u then gives_unless (strict_same l Equality t t' i) u else gives u no_caps

  pub equal_same : (m : Written) (a b : Source) → literal_of here a ≡ literal_of elsewhere a → literal_of here b ≡ literal_of elsewhere b
      → equality_form e1 m a b ≡ equality_form e2 m a b
  equal_same m a b ha hb = λ i. record {
    at = m;
    expects = [];
    goes_on = true;
    decides =
        λ ts. equal_decided m.place (equality_type (ha i) (hb i) (first_type ts) (second_type ts)) (first_type ts) (second_type ts) i;
    type_if_failed = λ t. t;
    at_limit = λ ts. [];
    node = λ k xs. binary k BinaryOp.Eq (first_tree xs) (second_tree xs);
  }

  tag_known : (l : Option Loc) (t : Ty) (ts : List Ty) → get_known_tag e1 l t ts ≡ get_known_tag e2 l t ts
  tag_known l t [] = refl
  tag_known l t (u ∷ ts) = same.tag_bounded s.env s.env.mode s.env.mode here elsewhere l (u ∷ ts) (list_lub s.env.mode (u ∷ ts))

  get_tagged : (l : Option Loc) (known : Bool) (t : Option Ty) → get_tag_table e1 l known t ≡ get_tag_table e2 l known t
  get_tagged l = same.get_tagged s.env s.env.mode s.env.mode here elsewhere l (tag_known l)

  module _ (vars : (x : Var) → variable_literal here x ≡ variable_literal elsewhere x) where
    pub binary_form_same : (m : Written) (prior : Caps) (a b : Source) (o : BinaryOp) → binary_form e1 m prior a b o ≡ binary_form e2 m prior a b o
    binary_form_same m prior a b BinaryOp.Eq = equal_same m a b (literal_same here elsewhere vars a) (literal_same here elsewhere vars b)
    binary_form_same m prior a b BinaryOp.Less = λ i. on_two m None None (λ t u. same.compared s.env s.env.mode s.env.mode here elsewhere (place_of a) (place_of b) t u i) (λ k x y. binary k BinaryOp.Less x y)
    binary_form_same m prior a b BinaryOp.LessEq = λ i. on_two m None None (λ t u. same.compared s.env s.env.mode s.env.mode here elsewhere (place_of a) (place_of b) t u i) (λ k x y. binary k BinaryOp.LessEq x y)
    binary_form_same m prior a b BinaryOp.Add = refl
    binary_form_same m prior a b BinaryOp.Sub = refl
    binary_form_same m prior a b BinaryOp.Mul = refl
    binary_form_same m prior a b BinaryOp.In = in_same m a b (entity_same here elsewhere vars a) (ancestors_same here elsewhere vars b)
    binary_form_same m prior a b BinaryOp.Contains =
        λ i. on_two m (Some set_types) None (λ t u. gives_unless (strict_same m.place Contains (member_type t) u i) (TBool AnyBool)) (λ k x y. binary k BinaryOp.Contains x y)
    binary_form_same m prior a b BinaryOp.ContainsAll =
        λ i. on_two m (Some set_types) (Some set_types) (λ t u. gives_unless (strict_same m.place ContainsAnyAll t u i) (TBool AnyBool)) (λ k x y. binary k BinaryOp.ContainsAll x y)
    binary_form_same m prior a b BinaryOp.ContainsAny =
        λ i. on_two m (Some set_types) (Some set_types) (λ t u. gives_unless (strict_same m.place ContainsAnyAll t u i) (TBool AnyBool)) (λ k x y. binary k BinaryOp.ContainsAny x y)
    binary_form_same m prior a b BinaryOp.GetTag =
        λ i. on_two m (Some entity_types) (Some string_types) (λ t u. get_tagged m.place (prior (tag_of a b)) t i) (λ k x y. binary k BinaryOp.GetTag x y)
    binary_form_same m prior a b BinaryOp.HasTag =
        λ i. on_two m (Some entity_types) (Some string_types) (λ t u. same.has_tagged s.env s.env.mode s.env.mode here elsewhere m.place (tag_of a b) (prior (tag_of a b)) t i) (λ k x y. binary k BinaryOp.HasTag x y)
