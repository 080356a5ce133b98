-- `tree_eq` decides equality of shapes.
use Rattle.std.proofs.Common.{◌≡◌, true, ◌&&◌, true≢false, refl, sym, ap, arith}
use Rattle.std.specs.Bool.{Decides}
use borrow.Author.Tests.{eqb-true, eq-eqb}
use Rattle.cedar_types.specs.declared.base.expressions.patterns.PatternElem.{PatternElem}
use Rattle.cedar_types.specs.contracts.base.expressions.patterns.PatternElemPartialEq.TheImpl as pattern_impl
use Rattle.cedar_types.specs.Lemmas.Comparisons.{Same, and_left, and_right, and_both, list_same, text_same, texts_same, path_same, uid_same}
use Rattle.cedar_types.specs.Lemmas.Comparisons.{bool_same, int_same}
use Rattle.cedar_types.specs.Lemmas.Decided.{decides, of_two, of_three}
use Rattle.cedar_types.specs.Names.{text_eq, texts_eq, path_eq}
use Rattle.cedar_types.specs.Expressions.Tree.{Lit, bool, long, string, entity, lit, var, slot, unknown, if_then_else, and, or, unary}
use Rattle.cedar_types.specs.Expressions.Tree.{binary, call, get_attr, has_attr, ext_has_attr, like, is_type, set_of, record_of, Trees}
use Rattle.cedar_types.specs.Expressions.Tree.{no_trees, tree, Fields, no_fields, field, Shape}
use Rattle.cedar_types.specs.Expressions.TreeEq.{lit_eq, var_eq, slot_eq, unary_eq, binary_eq, pattern_eq, tree_eq, trees_eq, fields_eq}

pub var_same : Same var_eq
var_same = record { to = λ x y h. grind arith; itself = λ x. grind arith }

pub slot_same : Same slot_eq
slot_same = record { to = λ x y h. grind arith; itself = λ x. grind arith }

pub unary_same : Same unary_eq
unary_same = record { to = λ x y h. grind arith; itself = λ x. grind arith }

pub binary_same : Same binary_eq
binary_same = record { to = λ x y h. grind arith; itself = λ x. grind arith }

elem_to : (x y : PatternElem) → pattern_impl.ghosts.eq x y ≡ true → x ≡ y
elem_to (PatternElem.Char c) (PatternElem.Char d) h = ap PatternElem.Char (eqb-true c d h)
elem_to PatternElem.Wildcard PatternElem.Wildcard h = refl
elem_to x y h = absurd (true≢false (sym h))

elem_itself : (x : PatternElem) → pattern_impl.ghosts.eq x x ≡ true
elem_itself (PatternElem.Char c) = eq-eqb c c refl
elem_itself PatternElem.Wildcard = refl

pub pattern_same : Same pattern_eq
pattern_same = list_same (record { to = elem_to; itself = elem_itself })

lit_to : (x y : Lit) → lit_eq x y ≡ true → x ≡ y
lit_to (bool a) (bool b) h = ap bool (bool_same.to a b h)
lit_to (long a) (long b) h = ap long (int_same.to a b h)
lit_to (string a) (string b) h = ap string (text_same.to a b h)
lit_to (entity a) (entity b) h = ap entity (uid_same.to a b h)
lit_to x y h = absurd (true≢false (sym h))

lit_itself : (x : Lit) → lit_eq x x ≡ true
lit_itself (bool a) = bool_same.itself a
lit_itself (long a) = int_same.itself a
lit_itself (string a) = text_same.itself a
lit_itself (entity a) = uid_same.itself a

pub lit_same : Same lit_eq
lit_same = record { to = lit_to; itself = lit_itself }

mutual
  tree_to : (t u : Shape) → tree_eq t u ≡ true → t ≡ u
  tree_to (lit d x1) (lit e x2) h = λ i. lit tt (lit_same.to x1 x2 h i)
  tree_to (var d x1) (var e x2) h = λ i. var tt (var_same.to x1 x2 h i)
  tree_to (slot d x1) (slot e x2) h = λ i. slot tt (slot_same.to x1 x2 h i)
  tree_to (unknown d x1) (unknown e x2) h = λ i. unknown tt (path_same.to x1 x2 h i)
  tree_to (if_then_else d x1 y1 z1) (if_then_else e x2 y2 z2) h =
      of_three (if_then_else tt) (tree_to x1 x2) (tree_to y1 y2) (tree_to z1 z2) h
  tree_to (and d x1 y1) (and e x2 y2) h = of_two (and tt) (tree_to x1 x2) (tree_to y1 y2) h
  tree_to (or d x1 y1) (or e x2 y2) h = of_two (or tt) (tree_to x1 x2) (tree_to y1 y2) h
  tree_to (unary d x1 y1) (unary e x2 y2) h = of_two (unary tt) (unary_same.to x1 x2) (tree_to y1 y2) h
  tree_to (binary d x1 y1 z1) (binary e x2 y2 z2) h =
      of_three (binary tt) (binary_same.to x1 x2) (tree_to y1 y2) (tree_to z1 z2) h
  tree_to (call d x1 y1) (call e x2 y2) h = of_two (call tt) (path_same.to x1 x2) (trees_to y1 y2) h
  tree_to (get_attr d x1 y1) (get_attr e x2 y2) h = of_two (get_attr tt) (tree_to x1 x2) (text_same.to y1 y2) h
  tree_to (has_attr d x1 y1) (has_attr e x2 y2) h = of_two (has_attr tt) (tree_to x1 x2) (text_same.to y1 y2) h
  tree_to (ext_has_attr d x1 y1 z1) (ext_has_attr e x2 y2 z2) h =
      of_three (ext_has_attr tt) (tree_to x1 x2) (text_same.to y1 y2) (texts_same.to z1 z2) h
  tree_to (like d x1 y1) (like e x2 y2) h = of_two (like tt) (tree_to x1 x2) (pattern_same.to y1 y2) h
  tree_to (is_type d x1 y1) (is_type e x2 y2) h = of_two (is_type tt) (tree_to x1 x2) (path_same.to y1 y2) h
  tree_to (set_of d x1) (set_of e x2) h = λ i. set_of tt (trees_to x1 x2 h i)
  tree_to (record_of d x1) (record_of e x2) h = λ i. record_of tt (fields_to x1 x2 h i)
  tree_to t u h = absurd (true≢false (sym h))

  trees_to : (t u : Trees (Unit {0})) → trees_eq t u ≡ true → t ≡ u
  trees_to no_trees no_trees h = refl
  trees_to (tree t ts) (tree u us) h = of_two tree (tree_to t u) (trees_to ts us) h
  trees_to t u h = absurd (true≢false (sym h))

  fields_to : (t u : Fields (Unit {0})) → fields_eq t u ≡ true → t ≡ u
  fields_to no_fields no_fields h = refl
  fields_to (field k t ts) (field l u us) h = λ i. field
      (text_same.to k l (and_left (text_eq k l) (tree_eq t u) (and_left (text_eq k l && tree_eq t u) (fields_eq ts us) h)) i)
      (tree_to t u (and_right (text_eq k l) (tree_eq t u) (and_left (text_eq k l && tree_eq t u) (fields_eq ts us) h)) i)
      (fields_to ts us (and_right (text_eq k l && tree_eq t u) (fields_eq ts us) h) i)
  fields_to t u h = absurd (true≢false (sym h))

mutual
  tree_itself : (t : Shape) → tree_eq t t ≡ true
  tree_itself (lit d x) = lit_same.itself x
  tree_itself (var d x) = var_same.itself x
  tree_itself (slot d x) = slot_same.itself x
  tree_itself (unknown d x) = path_same.itself x
  tree_itself (if_then_else d x y z) =
      and_both (tree_eq x x) (tree_eq y y && tree_eq z z) (tree_itself x)
      (and_both (tree_eq y y) (tree_eq z z) (tree_itself y) (tree_itself z))
  tree_itself (and d x y) = and_both (tree_eq x x) (tree_eq y y) (tree_itself x) (tree_itself y)
  tree_itself (or d x y) = and_both (tree_eq x x) (tree_eq y y) (tree_itself x) (tree_itself y)
  tree_itself (unary d x y) = and_both (unary_eq x x) (tree_eq y y) (unary_same.itself x) (tree_itself y)
  tree_itself (binary d x y z) =
      and_both (binary_eq x x) (tree_eq y y && tree_eq z z) (binary_same.itself x)
      (and_both (tree_eq y y) (tree_eq z z) (tree_itself y) (tree_itself z))
  tree_itself (call d x y) = and_both (path_eq x x) (trees_eq y y) (path_same.itself x) (trees_itself y)
  tree_itself (get_attr d x y) = and_both (tree_eq x x) (text_eq y y) (tree_itself x) (text_same.itself y)
  tree_itself (has_attr d x y) = and_both (tree_eq x x) (text_eq y y) (tree_itself x) (text_same.itself y)
  tree_itself (ext_has_attr d x y z) =
      and_both (tree_eq x x) (text_eq y y && texts_eq z z) (tree_itself x)
      (and_both (text_eq y y) (texts_eq z z) (text_same.itself y) (texts_same.itself z))
  tree_itself (like d x y) = and_both (tree_eq x x) (pattern_eq y y) (tree_itself x) (pattern_same.itself y)
  tree_itself (is_type d x y) = and_both (tree_eq x x) (path_eq y y) (tree_itself x) (path_same.itself y)
  tree_itself (set_of d x) = trees_itself x
  tree_itself (record_of d x) = fields_itself x

  trees_itself : (t : Trees (Unit {0})) → trees_eq t t ≡ true
  trees_itself no_trees = refl
  trees_itself (tree t ts) = and_both (tree_eq t t) (trees_eq ts ts) (tree_itself t) (trees_itself ts)

  fields_itself : (t : Fields (Unit {0})) → fields_eq t t ≡ true
  fields_itself no_fields = refl
  fields_itself (field k t ts) =
      and_both (text_eq k k && tree_eq t t) (fields_eq ts ts)
      (and_both (text_eq k k) (tree_eq t t) (text_same.itself k) (tree_itself t)) (fields_itself ts)

pub tree_same : Same {A = Shape} tree_eq
tree_same = record { to = tree_to; itself = tree_itself }

pub tree_eq-Decides : (t u : Shape) → Decides (tree_eq t u) (t ≡ u)
tree_eq-Decides = decides tree_same
