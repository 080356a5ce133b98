-- Each node of the typed copy of an expression that has a type has a type: of leaves, of `if`, `&&` and
-- `||`, and of all forms whose operands are typed first.
use Rattle.std.proofs.Common.{◌≡◌, ℕ, Bool, false, List, [], ◌∷◌, ◌++◌, Option, Some, None, refl}
use Rattle.std.specs.Prelude.{All}
use Rattle.std.proofs.lemmas.List.Elements.{All-nil, All-cons, All-tail, All-append}
use Rattle.cedar_types.specs.declared.base.location.Loc.{Loc}
use Rattle.cedar_types.specs.Expressions.Parts.{subexpressions, subexpressions_of_all, subexpressions_of_fields}
use Rattle.cedar_types.specs.Expressions.Tree.{if_then_else, lit, Trees, Fields}
use Rattle.cedar_types.specs.Expressions.View.{Written, trees_of}
use Rattle.cedar_types.specs.Names.{Text}
use Rattle.cedar_types.specs.Types.{Ty}
use Rattle.cedar_typing.specs.Capabilities.{Caps, union}
use Rattle.cedar_typing.specs.Eager.{Expectation, Form, first_expectation, later_expectations}
use Rattle.cedar_typing.specs.Judgments.{Judgment, visited}
use Rattle.cedar_node_types.specs.NodeTypes.{IsTyped}
use Rattle.cedar_typing.specs.Rules.Conditional.{if_rules, if_true, if_false, if_open}
use Rattle.cedar_typing.specs.Rules.Eager.{Judgments, NoneDerived, none_derived, no_operands, also_derived, one_more, eager_typed}
use Rattle.cedar_typing.specs.Rules.Eager.{eager_rules, one_operand_rules, two_operand_rules}
use Rattle.cedar_typing.specs.Rules.Leaves.{LeafRule, leaf, leaf_rules}
use Rattle.cedar_typing.specs.Rules.Records.{fields_from}
use Rattle.cedar_typing.specs.Rules.ShortCircuit.{Connective, short_circuit_rules, left_ends, both_sides}
use Rattle.cedar_typing.specs.TypeEnv.{TypeEnv}
use Rattle.cedar_typing.specs.TypedExpr.{TypedTree, Mark, with_mark}
use Rattle.cedar_typing.proofs.Agreement.Parts.{Marks}

-- the mark has a type
abbrev pub HasTy : Mark → Type 0
HasTy k = (t : Ty) × (k.ty ≡ Some t)

-- each tree of the list has a type at its root
pub record Each (xs : List TypedTree) : Type 0 where
  pub all : All IsTyped xs

-- each node of a tree has a type, of trees, and of the values of fields
abbrev pub Nodes : TypedTree → Type 0
Nodes x = Each (subexpressions x)

abbrev pub AllTyped : Trees Mark → Type 0
AllTyped ts = Each (subexpressions_of_all ts)

abbrev pub FieldsTyped : Fields Mark → Type 0
FieldsTyped fs = Each (subexpressions_of_fields fs)

pub no_nodes : Each []
no_nodes = record { all = All-nil IsTyped }

-- a node above others
pub above : {x : TypedTree} {ys : List TypedTree} → IsTyped x → Each ys → Each (x ∷ ys)
above {x} {ys} h i = record { all = All-cons IsTyped x ys h i.all }

-- the nodes of two trees, in the order in which they are listed
pub beside : {xs ys : List TypedTree} → Each xs → Each ys → Each (ys ++ xs)
beside {xs} {ys} h i = record { all = All-append IsTyped ys xs i.all h.all }

below : {x : TypedTree} {ys : List TypedTree} → Each (x ∷ ys) → Each ys
below {x} {ys} h = record { all = All-tail IsTyped x ys h.all }

-- another mark at the root that has a type
pub marked : (k : Mark) (x : TypedTree) → HasTy k → Nodes x → Nodes (with_mark k x)
marked k (lit m l) h i = above h no_nodes
marked k x h i = above h (below i)

-- what is shown of an expression by induction
pub record Typed (J : Judgment) : Type 0 where
  pub nodes : (t : Ty) (c : Caps) (x : TypedTree) → J.derives t c x → Nodes x

pub within_typed : (d : ℕ) {J : Judgment} → Typed J → Typed (visited d J)
within_typed d {J} i = record { nodes = λ t c x h. i.nodes t c x h.1 }

-- ---- leaves

pub leaf_typed : (found : Option Ty) (m : Written) (node : Mark → TypedTree) → ((k : Mark) → HasTy k → Nodes (node k))
    → Typed (leaf_rules found m node)
leaf_typed found m node at = record { nodes = derived }
  where
    derived : (t : Ty) (c : Caps) (x : TypedTree) → LeafRule found m node t c x → Nodes x
    derived t c x (leaf e) = at _ (_, refl)

-- ---- `if`, `&&` and `||`

module _ (env : TypeEnv) (m : Written) (l l' : Option Loc) (A : Judgment) (B : Caps → Judgment) (prior : Caps)
    (i : Typed A) (j : (c : Caps) → Typed (B c)) where
  module _ (E : Judgment) (n : Typed E) where
    all_three : (k : Mark) (a b e : TypedTree) → HasTy k → Nodes a → Nodes b → Nodes e → Nodes (if_then_else k a b e)
    all_three k a b e h p q r = above h (beside (beside p q) r)

    if_derived : (t : Ty) (c : Caps) (x : TypedTree) → (if_rules env m l A B E prior).derives t c x → Nodes x
    if_derived t c x (if_true {c = k} {c' = k'} {a = a} {b = b} d d') =
        let w = (j (union prior k)).nodes t k' b d' in all_three _ a b b (_, refl) (i.nodes _ k a d) w w
    if_derived t c x (if_false {c = k} {c' = k'} {a = a} {e = e} d d') =
        let w = n.nodes t k' e d' in all_three _ a e e (_, refl) (i.nodes _ k a d) w w
    if_derived t c x
        (if_open {s = u} {t = v} {u = v'} {c = k} {c' = k'} {c'' = k''} {a = a} {b = b} {e = e} d g g' g'' d' d'' f) =
        all_three _ a b e (_, refl) (i.nodes u k a d) ((j (union prior k)).nodes v k' b d') (n.nodes v' k'' e d'')

    pub if_typed : Typed (if_rules env m l A B E prior)
    if_typed = record { nodes = if_derived }

  module _ (f : Connective)
      (at : (k : Mark) (a b : TypedTree) → HasTy k → Nodes a → Nodes b → Nodes (f.node k a b)) (marks : Marks A.derives) where
    sides_derived : (t : Ty) (c : Caps) (x : TypedTree) → (short_circuit_rules env f m l l' A B prior).derives t c x → Nodes x
    sides_derived t c x (left_ends {s = u} {c = k} {a = a} d g h) = marked _ a (u, marks u k a d) (i.nodes u k a d)
    sides_derived t c x (both_sides {s = u} {t = v} {c = k} {c' = k'} {a = a} {b = b} d g h d' g') =
        at _ a b (_, refl) (i.nodes u k a d) ((j (f.right_prior prior k)).nodes v k' b d')

    pub sides_typed : Typed (short_circuit_rules env f m l l' A B prior)
    sides_typed = record { nodes = sides_derived }

-- ---- forms whose operands are typed first

module _ (f : Form) (Js : Judgments) (at : (k : Mark) (xs : List TypedTree) → HasTy k → Js.derive xs → Nodes (f.node k xs)) where
  whole_derived : (t : Ty) (c : Caps) (x : TypedTree) → (eager_rules f Js).derives t c x → Nodes x
  whole_derived t c x (eager_typed {xs = xs} ds e) = at _ xs (_, refl) ds

  pub whole_typed : Typed (eager_rules f Js)
  whole_typed = record { nodes = whole_derived }

module _ (env : TypeEnv) where
  module _ (f : Form) (l : Option Loc) (J : Judgment) (at : (k : Mark) (y : TypedTree) → HasTy k → Nodes y → Nodes (f.node k (y ∷ [])))
      (i : Typed J) where
    abbrev One : Judgments
    One = one_more env f.goes_on (first_expectation f.expects) l J no_operands

    one_derived : (k : Mark) (xs : List TypedTree) → HasTy k → One.derive xs → Nodes (f.node k xs)
    one_derived k xs h (also_derived {t = t} {c = c} {x = y} d g none_derived) = at k y h (i.nodes t c y d)

    pub one_typed : Typed (one_operand_rules env f l J)
    one_typed = whole_typed f One one_derived

  module _ (f : Form) (l l' : Option Loc) (J J' : Judgment)
      (at : (k : Mark) (y z : TypedTree) → HasTy k → Nodes y → Nodes z → Nodes (f.node k (y ∷ z ∷ [])))
      (i : Typed J) (i' : Typed J') where
    abbrev Two : Judgments
    Two =
        one_more env f.goes_on (first_expectation f.expects) l J
        (one_more env f.goes_on (first_expectation (later_expectations f.expects)) l' J' no_operands)

    two_derived : (k : Mark) (xs : List TypedTree) → HasTy k → Two.derive xs → Nodes (f.node k xs)
    two_derived k xs h (also_derived {t = t} {c = c} {x = y} d g (also_derived {t = t'} {c = c'} {x = z} d' g' none_derived)) =
        at k y z h (i.nodes t c y d) (i'.nodes t' c' z d')

    pub two_typed : Typed (two_operand_rules env f l l' J J')
    two_typed = whole_typed f Two two_derived

  -- ---- operands in a row

  pub record OperandsTyped (Js : Judgments) : Type 0 where
    pub nodes : (xs : List TypedTree) → Js.derive xs → AllTyped (trees_of xs)

  no_derivations : (xs : List TypedTree) → NoneDerived xs → AllTyped (trees_of xs)
  no_derivations xs none_derived = no_nodes

  pub none_typed : OperandsTyped no_operands
  none_typed = record { nodes = no_derivations }

  module _ (goes_on : Bool) (q : Expectation) (l : Option Loc) (J : Judgment) (Js : Judgments) (i : Typed J)
      (others : OperandsTyped Js) where
    abbrev More : Judgments
    More = one_more env goes_on q l J Js

    more_derivations : (xs : List TypedTree) → More.derive xs → AllTyped (trees_of xs)
    more_derivations xs (also_derived {t = t} {c = c} {x = x} {xs = ys} d h ds) = beside (i.nodes t c x d) (others.nodes ys ds)

    pub more_typed : OperandsTyped More
    more_typed = record { nodes = more_derivations }

  pub record ValuesTyped (ks : List Text) (Js : Judgments) : Type 0 where
    pub nodes : (xs : List TypedTree) → Js.derive xs → FieldsTyped (fields_from ks xs)

  no_value_derivations : (xs : List TypedTree) → NoneDerived xs → FieldsTyped (fields_from [] xs)
  no_value_derivations xs none_derived = no_nodes

  pub no_values_typed : ValuesTyped [] no_operands
  no_values_typed = record { nodes = no_value_derivations }

  module _ (key : Text) (ks : List Text) (l : Option Loc) (J : Judgment) (Js : Judgments) (i : Typed J)
      (others : ValuesTyped ks Js) where
    abbrev MoreValues : Judgments
    MoreValues = one_more env false None l J Js

    value_derivations : (xs : List TypedTree) → MoreValues.derive xs → FieldsTyped (fields_from (key ∷ ks) xs)
    value_derivations xs (also_derived {t = t} {c = c} {x = x} {xs = ys} d h ds) = beside (i.nodes t c x d) (others.nodes ys ds)

    pub more_values_typed : ValuesTyped (key ∷ ks) MoreValues
    more_values_typed = record { nodes = value_derivations }
