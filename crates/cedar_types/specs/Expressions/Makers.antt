-- Constructors: nodes without a place, an expression at another place, and record attributes from a
-- list.
use Rattle.std.specs.Prelude.{Bool, List, [], ◌∷◌, Option, None}
use Rattle.std.specs.Ordering.{match_ordering}
use Rattle.cedar_types.specs.declared.base.location.Loc.{Loc}
use Rattle.cedar_types.specs.Names.{Text, text_cmp}
use Rattle.cedar_types.specs.Expressions.Tree.{Tree, lit, var, slot, unknown, if_then_else, and, or, unary, binary, call, get_attr}
use Rattle.cedar_types.specs.Expressions.Tree.{has_attr, ext_has_attr, like, is_type, set_of, record_of}
use Rattle.cedar_types.specs.Types.{Ty, Attrs, no_attrs, attr}
use Rattle.cedar_types.specs.Expressions.View.{Places, no_name, Written}

-- a node without a place that names something
abbrev pub naming : Places → Written
naming p = record { place = None; names = p }

-- a node without a place that names nothing
abbrev pub unplaced : Written
unplaced = naming no_name

-- a node at another place; its names stay at their places
abbrev pub moved : Option Loc → Written → Written
moved l d = record { place = l; names = d.names }

-- the expression at another place; its parts stay at their places
abbrev pub at_place : Option Loc → Tree Written → Tree Written
at_place l (lit d x) = lit (moved l d) x
at_place l (var d x) = var (moved l d) x
at_place l (slot d x) = slot (moved l d) x
at_place l (unknown d x) = unknown (moved l d) x
at_place l (if_then_else d a b c) = if_then_else (moved l d) a b c
at_place l (and d a b) = and (moved l d) a b
at_place l (or d a b) = or (moved l d) a b
at_place l (unary d o a) = unary (moved l d) o a
at_place l (binary d o a b) = binary (moved l d) o a b
at_place l (call d n ts) = call (moved l d) n ts
at_place l (get_attr d a x) = get_attr (moved l d) a x
at_place l (has_attr d a x) = has_attr (moved l d) a x
at_place l (ext_has_attr d a x xs) = ext_has_attr (moved l d) a x xs
at_place l (like d a p) = like (moved l d) a p
at_place l (is_type d a n) = is_type (moved l d) a n
at_place l (set_of d ts) = set_of (moved l d) ts
at_place l (record_of d fs) = record_of (moved l d) fs

-- the attributes with this one, which replaces an attribute of its name
abbrev pub with_attr : Text → Ty × Bool → Attrs → Attrs
with_attr k a no_attrs = attr k a.0 a.1 no_attrs
with_attr k a (attr l t r xs) =
    match_ordering (text_cmp k l)
    (attr k a.0 a.1 (attr l t r xs))
    (attr l a.0 a.1 xs)
    (attr l t r (with_attr k a xs))

-- the attributes with those of a list, where a later one replaces an earlier one of its name
abbrev pub with_attrs : List (Text × (Ty × Bool)) → Attrs → Attrs
with_attrs [] xs = xs
with_attrs (e ∷ es) xs = with_attrs es (with_attr e.0 e.1 xs)
