-- Nodes that evaluation reaches, form by form: the node itself, and those in its parts.
use Rattle.std.proofs.Common.{List}
use Rattle.cedar_types.specs.declared.base.expressions.operators.BinaryOp.{BinaryOp}
use Rattle.cedar_types.specs.declared.base.expressions.operators.UnaryOp.{UnaryOp}
use Rattle.cedar_types.specs.declared.base.expressions.operators.Var.{Var}
use Rattle.cedar_types.specs.declared.base.expressions.patterns.PatternElem.{PatternElem}
use Rattle.cedar_types.specs.declared.base.names.slots.SlotId.{SlotId}
use Rattle.cedar_types.specs.Names.{Text, Path}
use Rattle.cedar_types.specs.Expressions.Tree.{Lit, lit, var, slot, unknown, if_then_else, and, or, unary, binary, call, get_attr, has_attr}
use Rattle.cedar_types.specs.Expressions.Tree.{ext_has_attr, like, is_type, set_of, record_of, Trees, no_trees, tree, Fields, no_fields}
use Rattle.cedar_types.specs.Expressions.Tree.{field}
use Rattle.cedar_typing.specs.Evaluation.Eval.{eval}
use Rattle.cedar_node_types.specs.Reached.{IsValue, IsTrueIn, IsFalseIn, itself, in_test, in_then, in_else, left_of_and, right_of_and}
use Rattle.cedar_node_types.specs.Reached.{left_of_or, right_of_or, in_operand, in_left, in_right, base_of_get, base_of_has}
use Rattle.cedar_node_types.specs.Reached.{base_of_chain, base_of_like, base_of_is, in_arguments, in_elements, in_fields}
use Rattle.cedar_node_types.specs.Reached.{ReachesAmong, in_first, in_later, ReachesField, in_first_field, in_later_field}
use Rattle.cedar_typing.specs.Evaluation.World.{World}
use Rattle.cedar_node_types.specs.NodeTypes.{ReachedFitTypes}
use Rattle.cedar_typing.specs.Soundness.{HasFound}
use Rattle.cedar_typing.specs.TypedExpr.{TypedTree, Mark, with_mark, annotation}

module _ (world : World) where
  -- the value of the root is of the root's type
  abbrev pub RootFits : TypedTree → Type 0
  RootFits x = HasFound (annotation x) (eval world x)

  abbrev pub Fit : TypedTree → Type 0
  Fit = ReachedFitTypes world

  -- those of a list, and of the values of fields
  abbrev pub AllFit : Trees Mark → Type 0
  AllFit ts = (y : TypedTree) → ReachesAmong world ts y → RootFits y

  abbrev pub FieldsFit : Fields Mark → Type 0
  FieldsFit fs = (y : TypedTree) → ReachesField world fs y → RootFits y

  -- ---- leaves

  pub lit_fits : (k : Mark) (l : Lit) → RootFits (lit k l) → Fit (lit k l)
  lit_fits k l h y itself = h

  pub var_fits : (k : Mark) (x : Var) → RootFits (var k x) → Fit (var k x)
  var_fits k x h y itself = h

  pub slot_fits : (k : Mark) (x : SlotId) → RootFits (slot k x) → Fit (slot k x)
  slot_fits k x h y itself = h

  pub unknown_fits : (k : Mark) (n : Path) → RootFits (unknown k n) → Fit (unknown k n)
  unknown_fits k n h y itself = h

  -- ---- choices

  pub if_fits : (k : Mark) (a b c : TypedTree) → RootFits (if_then_else k a b c) → Fit a
      → (IsTrueIn world a → Fit b) → (IsFalseIn world a → Fit c) → Fit (if_then_else k a b c)
  if_fits k a b c h i j l y itself = h
  if_fits k a b c h i j l y (in_test r) = i y r
  if_fits k a b c h i j l y (in_then e r) = j e y r
  if_fits k a b c h i j l y (in_else e r) = l e y r

  pub and_fits : (k : Mark) (a b : TypedTree) → RootFits (and k a b) → Fit a → (IsTrueIn world a → Fit b) → Fit (and k a b)
  and_fits k a b h i j y itself = h
  and_fits k a b h i j y (left_of_and r) = i y r
  and_fits k a b h i j y (right_of_and e r) = j e y r

  pub or_fits : (k : Mark) (a b : TypedTree) → RootFits (or k a b) → Fit a → (IsFalseIn world a → Fit b) → Fit (or k a b)
  or_fits k a b h i j y itself = h
  or_fits k a b h i j y (left_of_or r) = i y r
  or_fits k a b h i j y (right_of_or e r) = j e y r

  -- ---- operands

  pub unary_fits : (k : Mark) (o : UnaryOp) (a : TypedTree) → RootFits (unary k o a) → Fit a → Fit (unary k o a)
  unary_fits k o a h i y itself = h
  unary_fits k o a h i y (in_operand r) = i y r

  pub binary_fits : (k : Mark) (o : BinaryOp) (a b : TypedTree) → RootFits (binary k o a b) → Fit a
      → (IsValue (eval world a) → Fit b) → Fit (binary k o a b)
  binary_fits k o a b h i j y itself = h
  binary_fits k o a b h i j y (in_left r) = i y r
  binary_fits k o a b h i j y (in_right v r) = j v y r

  pub get_fits : (k : Mark) (a : TypedTree) (x : Text) → RootFits (get_attr k a x) → Fit a → Fit (get_attr k a x)
  get_fits k a x h i y itself = h
  get_fits k a x h i y (base_of_get r) = i y r

  pub has_fits : (k : Mark) (a : TypedTree) (x : Text) → RootFits (has_attr k a x) → Fit a → Fit (has_attr k a x)
  has_fits k a x h i y itself = h
  has_fits k a x h i y (base_of_has r) = i y r

  pub chain_fits : (k : Mark) (a : TypedTree) (x : Text) (xs : List Text) → RootFits (ext_has_attr k a x xs) → Fit a
      → Fit (ext_has_attr k a x xs)
  chain_fits k a x xs h i y itself = h
  chain_fits k a x xs h i y (base_of_chain r) = i y r

  pub like_fits : (k : Mark) (a : TypedTree) (p : List PatternElem) → RootFits (like k a p) → Fit a → Fit (like k a p)
  like_fits k a p h i y itself = h
  like_fits k a p h i y (base_of_like r) = i y r

  pub is_fits : (k : Mark) (a : TypedTree) (n : Path) → RootFits (is_type k a n) → Fit a → Fit (is_type k a n)
  is_fits k a n h i y itself = h
  is_fits k a n h i y (base_of_is r) = i y r

  -- ---- parts in a row

  pub call_fits : (k : Mark) (n : Path) (ts : Trees Mark) → RootFits (call k n ts) → AllFit ts → Fit (call k n ts)
  call_fits k n ts h i y itself = h
  call_fits k n ts h i y (in_arguments r) = i y r

  pub set_fits : (k : Mark) (ts : Trees Mark) → RootFits (set_of k ts) → AllFit ts → Fit (set_of k ts)
  set_fits k ts h i y itself = h
  set_fits k ts h i y (in_elements r) = i y r

  pub record_fits : (k : Mark) (fs : Fields Mark) → RootFits (record_of k fs) → FieldsFit fs → Fit (record_of k fs)
  record_fits k fs h i y itself = h
  record_fits k fs h i y (in_fields r) = i y r

  pub none_fit : AllFit no_trees
  none_fit y r = elim r [ ]

  pub more_fit : (t : TypedTree) (ts : Trees Mark) → Fit t → AllFit ts → AllFit (tree t ts)
  more_fit t ts i j y (in_first r) = i y r
  more_fit t ts i j y (in_later v r) = j y r

  pub no_fields_fit : FieldsFit no_fields
  no_fields_fit y r = elim r [ ]

  pub more_fields_fit : (k : Text) (t : TypedTree) (fs : Fields Mark) → Fit t → FieldsFit fs → FieldsFit (field k t fs)
  more_fields_fit k t fs i j y (in_first_field r) = i y r
  more_fields_fit k t fs i j y (in_later_field v r) = j y r

  -- ---- another mark at the root

  pub marked_fits : (k : Mark) (x : TypedTree) → HasFound k.ty (eval world x) → Fit x → Fit (with_mark k x)
  marked_fits k (lit m l) h i = lit_fits k l h
  marked_fits k (var m x) h i = var_fits k x h
  marked_fits k (slot m x) h i = slot_fits k x h
  marked_fits k (unknown m n) h i = unknown_fits k n h
  marked_fits k (if_then_else m a b c) h i =
      if_fits k a b c h (λ y r. i y (in_test r)) (λ e y r. i y (in_then e r)) (λ e y r. i y (in_else e r))
  marked_fits k (and m a b) h i = and_fits k a b h (λ y r. i y (left_of_and r)) (λ e y r. i y (right_of_and e r))
  marked_fits k (or m a b) h i = or_fits k a b h (λ y r. i y (left_of_or r)) (λ e y r. i y (right_of_or e r))
  marked_fits k (unary m o a) h i = unary_fits k o a h (λ y r. i y (in_operand r))
  marked_fits k (binary m o a b) h i = binary_fits k o a b h (λ y r. i y (in_left r)) (λ v y r. i y (in_right v r))
  marked_fits k (call m n ts) h i = call_fits k n ts h (λ y r. i y (in_arguments r))
  marked_fits k (get_attr m a x) h i = get_fits k a x h (λ y r. i y (base_of_get r))
  marked_fits k (has_attr m a x) h i = has_fits k a x h (λ y r. i y (base_of_has r))
  marked_fits k (ext_has_attr m a x xs) h i = chain_fits k a x xs h (λ y r. i y (base_of_chain r))
  marked_fits k (like m a p) h i = like_fits k a p h (λ y r. i y (base_of_like r))
  marked_fits k (is_type m a n) h i = is_fits k a n h (λ y r. i y (base_of_is r))
  marked_fits k (set_of m ts) h i = set_fits k ts h (λ y r. i y (in_elements r))
  marked_fits k (record_of m fs) h i = record_fits k fs h (λ y r. i y (in_fields r))
