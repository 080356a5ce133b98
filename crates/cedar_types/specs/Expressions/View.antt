-- The tree that an expression stands for.
use Rattle.std.specs.Prelude.{List, [], ◌∷◌, Option, map}
use Rattle.std.specs.declared.alloc.Global.{Global}
use Rattle.std.specs.declared.rc.RcStr.{RcStr}
use Rattle.cedar_types.specs.declared.base.location.Loc.{Loc}
use Rattle.cedar_types.specs.declared.base.expressions.literals.Literal.{Literal}
use Rattle.cedar_types.specs.declared.base.expressions.attr_chains.AttrChain.{AttrChain}
use Rattle.cedar_types.specs.declared.base.expressions.Expr.{Expr, fold-Expr}
use Rattle.cedar_types.specs.declared.base.expressions.ExprKind.{ExprKind, fold-ExprKind}
use Rattle.cedar_types.specs.declared.base.expressions.ExprKind.TheOpen.{ExprKind-F, Expr-F}
use Rattle.cedar_types.specs.Names.{Text, text_of, path_of, type_of, uid_of}
use Rattle.cedar_types.specs.Expressions.Tree.{Lit, bool, long, string, entity, Tree, lit, var, slot, unknown, if_then_else, and, or, unary}
use Rattle.cedar_types.specs.Expressions.Tree.{binary, call, get_attr, has_attr, ext_has_attr, like, is_type, set_of, record_of, Trees}
use Rattle.cedar_types.specs.Expressions.Tree.{no_trees, tree, Fields, no_fields, field, Shape}

-- the place of the entity type or the entity id that a node itself names; an id has its own place
-- and that of its type
pub data Places : Type 0 where
  no_name : Places
  of_type : Option Loc → Places
  of_uid : Option Loc → Option Loc → Places

-- a node as it was written: its place, and that of the name in it
pub record Written : Type 0 where
  pub place : Option Loc
  pub names : Places

abbrev pub lit_of : Literal → Lit
lit_of (Literal.Bool b) = bool b
lit_of (Literal.Long z) = long z
lit_of (Literal.String s) = string (text_of s)
lit_of (Literal.EntityUID u) = entity (uid_of u)

abbrev pub lit_places : Literal → Places
lit_places (Literal.Bool b) = no_name
lit_places (Literal.Long z) = no_name
lit_places (Literal.String s) = no_name
lit_places (Literal.EntityUID u) = of_uid u.loc u.entity_type.loc

-- the attributes of an extended `has`: the first, and the others
abbrev pub chain_of : AttrChain → Text × List Text
chain_of c = (text_of c.first, map text_of c.rest.items)

abbrev pub trees_of : {D : Type 0} → List (Tree D) → Trees D
trees_of [] = no_trees
trees_of (t ∷ ts) = tree t (trees_of ts)

abbrev pub fields_of : {D : Type 0} → List (RcStr Global × Tree D) → Fields D
fields_of [] = no_fields
fields_of (e ∷ es) = field (text_of e.0) e.1 (fields_of es)

-- one form, with each expression inside already given as its tree; the mark comes from the
-- expression around it
abbrev pub kind_step : (T D : Type 0) → ExprKind-F T ((Places → D) → Tree D) (Tree D)
    → (Places → D) → Tree D
kind_step T D (ExprKind-F.Lit x) d = lit (d (lit_places x)) (lit_of x)
kind_step T D (ExprKind-F.Var x) d = var (d no_name) x
kind_step T D (ExprKind-F.Slot x) d = slot (d no_name) x
kind_step T D (ExprKind-F.Unknown x) d = unknown (d no_name) (path_of x)
kind_step T D (ExprKind-F.If a b c) d = if_then_else (d no_name) a.value b.value c.value
kind_step T D (ExprKind-F.And a b) d = and (d no_name) a.value b.value
kind_step T D (ExprKind-F.Or a b) d = or (d no_name) a.value b.value
kind_step T D (ExprKind-F.UnaryApp o a) d = unary (d no_name) o a.value
kind_step T D (ExprKind-F.BinaryApp o a b) d = binary (d no_name) o a.value b.value
kind_step T D (ExprKind-F.ExtensionFunctionApp n v) d =
    call (d no_name) (path_of n) (trees_of v.items)
kind_step T D (ExprKind-F.GetAttr a x) d = get_attr (d no_name) a.value (text_of x)
kind_step T D (ExprKind-F.HasAttr a x) d = has_attr (d no_name) a.value (text_of x)
kind_step T D (ExprKind-F.ExtHasAttr a c) d =
    ext_has_attr (d no_name) a.value (chain_of c).0 (chain_of c).1
kind_step T D (ExprKind-F.Like a p) d = like (d no_name) a.value p.items
kind_step T D (ExprKind-F.Is a n) d = is_type (d (of_type n.loc)) a.value (type_of n)
kind_step T D (ExprKind-F.Set v) d = set_of (d no_name) (trees_of v.items)
kind_step T D (ExprKind-F.Record m) d = record_of (d no_name) (fields_of m.entries)

abbrev pub expr_step : (T D : Type 0) → (T → Option Loc → Places → D)
    → Expr-F T ((Places → D) → Tree D) (Tree D) → Tree D
expr_step T D mark e = e.kind (mark e.annotation e.loc)

-- the tree of an expression, with the mark that a node's annotation, its place and the places of
-- its names give
abbrev pub tree_with : {T D : Type 0} → (T → Option Loc → Places → D) → Expr T → Tree D
tree_with {T} {D} mark =
    fold-Expr T ((Places → D) → Tree D) (Tree D) (kind_step T D) (expr_step T D mark)

-- the tree of a form, whose own mark is still open
abbrev pub kind_with : {T D : Type 0} → (T → Option Loc → Places → D) → ExprKind T
    → (Places → D) → Tree D
kind_with {T} {D} mark =
    fold-ExprKind T ((Places → D) → Tree D) (Tree D) (kind_step T D) (expr_step T D mark)

-- an expression's form alone
abbrev pub shape : {T : Type 0} → Expr T → Shape
shape {T} = tree_with {T = T} {D = Unit {0}} (λ _ _ _. tt)

-- the whole of an expression as it was written: its form, and every place
abbrev pub written : {T : Type 0} → Expr T → Tree Written
written {T} = tree_with {T = T} {D = Written} (λ _ l p. record { place = l; names = p })

-- a form as it was written, in a node at place l
abbrev pub kind_written : {T : Type 0} → Option Loc → ExprKind T → Tree Written
kind_written {T} l k =
    kind_with {T = T} {D = Written} (λ _ l p. record { place = l; names = p }) k
    (λ p. record { place = l; names = p })

-- a record's fields as they were written
abbrev pub fields_written : {T : Type 0} → List (RcStr Global × Expr T) → Fields Written
fields_written es = fields_of (map (λ e. (e.0, written e.1)) es)
