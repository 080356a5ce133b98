-- Each expression has a chain along each path, and several chains have a greatest.
use Rattle.std.proofs.Common.{◌≡◌, ◌+◌, max, Bool, true, false, List, [], ◌∷◌, ◌++◌, map, Option, if◌then◌else◌, arith}
use Rattle.cedar_types.specs.declared.base.expressions.operators.BinaryOp.{BinaryOp}
use Rattle.cedar_types.specs.Names.{Text, Uid, text_eq}
use Rattle.cedar_types.specs.Expressions.Tree.{lit, var, slot, unknown, if_then_else, and, or, unary, binary, call, get_attr, has_attr}
use Rattle.cedar_types.specs.Expressions.Tree.{ext_has_attr, like, is_type, set_of, record_of, Fields, no_fields, field}
use Rattle.cedar_typing.specs.TypedExpr.{TypedTree, Mark, annotation}
use Rattle.cedar_typechecker.specs.Levels.Chains.{Base, an_entity, a_record, neither, base_of, Chain, one_more, chains_of_access}
use Rattle.cedar_typechecker.specs.Levels.Chains.{chains_of_operator, along_keys, chains, field_chains, greatest}

abbrev pub IsNotEmpty : List Chain → Type 0
IsNotEmpty [] = ⊥
IsNotEmpty (c ∷ cs) = Unit {0}

has_either : (xs ys : List Chain) → IsNotEmpty xs → IsNotEmpty (xs ++ ys)
has_either [] ys h = absurd h
has_either (x ∷ xs) ys h = tt

has_more : (xs : List Chain) → IsNotEmpty xs → IsNotEmpty (map one_more xs)
has_more [] h = h
has_more (x ∷ xs) h = tt

has_access : (b : Base) (x : Text) (path : List Text) (f : List Text → List Chain)
    → ((path : List Text) → IsNotEmpty (f path)) → IsNotEmpty (chains_of_access b x path f)
has_access an_entity x path f h = has_more (f path) (h path)
has_access a_record x path f h = h (x ∷ path)
has_access neither x path f h = tt

has_operator : (o : BinaryOp) (xs : List Chain) → IsNotEmpty xs
    → IsNotEmpty (chains_of_operator o xs)
has_operator BinaryOp.GetTag xs h = has_more xs h
has_operator BinaryOp.Eq xs h = tt
has_operator BinaryOp.Less xs h = tt
has_operator BinaryOp.LessEq xs h = tt
has_operator BinaryOp.Add xs h = tt
has_operator BinaryOp.Sub xs h = tt
has_operator BinaryOp.Mul xs h = tt
has_operator BinaryOp.In xs h = tt
has_operator BinaryOp.Contains xs h = tt
has_operator BinaryOp.ContainsAll xs h = tt
has_operator BinaryOp.ContainsAny xs h = tt
has_operator BinaryOp.HasTag xs h = tt

has_keys : (path : List Text) (f : Text → List Text → List Chain)
    → ((p : Text) (path : List Text) → IsNotEmpty (f p path)) → IsNotEmpty (along_keys path f)
has_keys [] f h = tt
has_keys (p ∷ path) f h = h p path

has_if : (b : Bool) (xs ys : List Chain) → IsNotEmpty xs → IsNotEmpty ys
    → IsNotEmpty (if b then xs else ys)
has_if true xs ys h k = h
has_if false xs ys h k = k

module _ (r : Option Uid) where
  mutual
    pub has_chain : (x : TypedTree) (path : List Text) → IsNotEmpty (chains r x path)
    has_chain (lit m x) path = tt
    has_chain (var m x) path = tt
    has_chain (slot m x) path = tt
    has_chain (unknown m x) path = tt
    has_chain (if_then_else m a b c) path =
        has_either (chains r b path) (chains r c path) (has_chain b path)
    has_chain (and m a b) path = tt
    has_chain (or m a b) path = tt
    has_chain (unary m o a) path = tt
    has_chain (binary m o a b) path = has_operator o (chains r a path) (has_chain a path)
    has_chain (call m f ts) path = tt
    has_chain (get_attr m a x) path =
        has_access (base_of (annotation a)) x path (chains r a) (has_chain a)
    has_chain (has_attr m a x) path = tt
    has_chain (ext_has_attr m a x xs) path = tt
    has_chain (like m a p) path = tt
    has_chain (is_type m a p) path = tt
    has_chain (set_of m ts) path = tt
    has_chain (record_of m fs) path = has_keys path (field_chains r fs) (has_field_chain fs)

    has_field_chain : (fs : Fields Mark) (p : Text) (path : List Text)
        → IsNotEmpty (field_chains r fs p path)
    has_field_chain no_fields p path = tt
    has_field_chain (field k t fs) p path =
        has_if (text_eq p k) (chains r t path) (field_chains r fs p path) (has_chain t path)
        (has_field_chain fs p path)

pub greatest_of_both : (xs ys : List Chain) → greatest (xs ++ ys) ≡ max (greatest xs) (greatest ys)
greatest_of_both [] ys = omega arith
greatest_of_both (x ∷ xs) ys = let e = greatest_of_both xs ys in omega arith

pub greatest_more : (xs : List Chain) → IsNotEmpty xs → greatest (map one_more xs) ≡ greatest xs + 1
greatest_more [] h = absurd h
greatest_more (x ∷ []) h = omega arith
greatest_more (x ∷ y ∷ xs) h = let e = greatest_more (y ∷ xs) tt in omega arith
