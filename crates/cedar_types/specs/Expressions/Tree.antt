-- Expressions as plain trees: the whole of the syntax, with a mark of type D at each node.
use Rattle.std.specs.Prelude.{ℤ, Bool, List}
use Rattle.cedar_types.specs.Names.{Text, Path, Uid}
use Rattle.cedar_types.specs.declared.base.expressions.operators.Var.{Var}
use Rattle.cedar_types.specs.declared.base.expressions.operators.UnaryOp.{UnaryOp}
use Rattle.cedar_types.specs.declared.base.expressions.operators.BinaryOp.{BinaryOp}
use Rattle.cedar_types.specs.declared.base.expressions.patterns.PatternElem.{PatternElem}
use Rattle.cedar_types.specs.declared.base.names.slots.SlotId.{SlotId}

pub data Lit : Type 0 where
  bool : Bool → Lit
  long : ℤ → Lit
  string : Text → Lit
  entity : Uid → Lit

mutual
  pub data Tree (D : Type 0) : Type 0 where
    -- a literal, a variable, a slot, an unknown by its name
    lit : D → Lit → Tree D
    var : D → Var → Tree D
    slot : D → SlotId → Tree D
    unknown : D → Path → Tree D
    -- `if a then b else c`, `a && b`, `a || b`
    if_then_else : D → Tree D → Tree D → Tree D → Tree D
    and : D → Tree D → Tree D → Tree D
    or : D → Tree D → Tree D → Tree D
    -- `!a` and the like, `a == b` and the like, a call of an extension function
    unary : D → UnaryOp → Tree D → Tree D
    binary : D → BinaryOp → Tree D → Tree D → Tree D
    call : D → Path → Trees D → Tree D
    -- `a.x`, `a has x`, `a has x.y.z` with its first attribute and the others
    get_attr : D → Tree D → Text → Tree D
    has_attr : D → Tree D → Text → Tree D
    ext_has_attr : D → Tree D → Text → List Text → Tree D
    -- `a like p`, `a is T`
    like : D → Tree D → List PatternElem → Tree D
    is_type : D → Tree D → Path → Tree D
    -- `[a, b]`, `{x: a, y: b}` by ascending keys
    set_of : D → Trees D → Tree D
    record_of : D → Fields D → Tree D

  pub data Trees (D : Type 0) : Type 0 where
    no_trees : Trees D
    tree : Tree D → Trees D → Trees D

  pub data Fields (D : Type 0) : Type 0 where
    no_fields : Fields D
    field : Text → Tree D → Fields D → Fields D

-- an expression's form alone
abbrev pub Shape : Type 0
Shape = Tree (Unit {0})

-- the tree with each mark d as g d
abbrev mutual
  pub map_tree : {D E : Type 0} → (D → E) → Tree D → Tree E
  map_tree g (lit d x) = lit (g d) x
  map_tree g (var d x) = var (g d) x
  map_tree g (slot d x) = slot (g d) x
  map_tree g (unknown d x) = unknown (g d) x
  map_tree g (if_then_else d a b c) =
      if_then_else (g d) (map_tree g a) (map_tree g b) (map_tree g c)
  map_tree g (and d a b) = and (g d) (map_tree g a) (map_tree g b)
  map_tree g (or d a b) = or (g d) (map_tree g a) (map_tree g b)
  map_tree g (unary d o a) = unary (g d) o (map_tree g a)
  map_tree g (binary d o a b) = binary (g d) o (map_tree g a) (map_tree g b)
  map_tree g (call d n ts) = call (g d) n (map_trees g ts)
  map_tree g (get_attr d a x) = get_attr (g d) (map_tree g a) x
  map_tree g (has_attr d a x) = has_attr (g d) (map_tree g a) x
  map_tree g (ext_has_attr d a x xs) = ext_has_attr (g d) (map_tree g a) x xs
  map_tree g (like d a p) = like (g d) (map_tree g a) p
  map_tree g (is_type d a n) = is_type (g d) (map_tree g a) n
  map_tree g (set_of d ts) = set_of (g d) (map_trees g ts)
  map_tree g (record_of d fs) = record_of (g d) (map_fields g fs)

  pub map_trees : {D E : Type 0} → (D → E) → Trees D → Trees E
  map_trees g no_trees = no_trees
  map_trees g (tree t ts) = tree (map_tree g t) (map_trees g ts)

  pub map_fields : {D E : Type 0} → (D → E) → Fields D → Fields E
  map_fields g no_fields = no_fields
  map_fields g (field k t fs) = field k (map_tree g t) (map_fields g fs)
