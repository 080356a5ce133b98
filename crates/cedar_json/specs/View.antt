-- The view of a value: the tree that it stands for.
use Rattle.std.specs.Prelude.{List, [], ◌∷◌, map}
use Rattle.cedar_json.specs.declared.values.Key.{Key}
use Rattle.cedar_json.specs.declared.values.Value.{Value, fold-Value}
use Rattle.cedar_json.specs.declared.values.ValueKind.{ValueKind, fold-ValueKind}
use Rattle.cedar_json.specs.declared.values.ValueKind.TheOpen.{ValueKind-F, Value-F}
use Rattle.cedar_types.specs.Names.{text_of}
use Rattle.cedar_json.specs.Tree.{Tree, tree, Form, object, array, text, integer, boolean, null, Items, no_items, item, Members, no_members, member}

abbrev pub items_of : List Tree → Items
items_of [] = no_items
items_of (t ∷ ts) = item t (items_of ts)

abbrev pub members_of : List (Key × Tree) → Members
members_of [] = no_members
members_of (e ∷ es) = member (text_of e.0.name) e.0.place.start e.0.place.end e.1 (members_of es)

-- one form, with each value inside already seen as its tree
abbrev pub form_step : ValueKind-F Form Tree → Form
form_step (ValueKind-F.Object v) = object (members_of v.items)
form_step (ValueKind-F.Array v) = array (items_of v.items)
form_step (ValueKind-F.Text s) = text (text_of s)
form_step (ValueKind-F.Integer z) = integer z
form_step (ValueKind-F.Boolean b) = boolean b
form_step ValueKind-F.Null = null

abbrev pub tree_step : Value-F Form Tree → Tree
tree_step v = tree v.place.start v.place.end v.kind

abbrev pub tree_of : Value → Tree
tree_of = fold-Value Form Tree form_step tree_step

abbrev pub form_of : ValueKind → Form
form_of = fold-ValueKind Form Tree form_step tree_step

abbrev pub items_view : List Value → Items
items_view vs = items_of (map tree_of vs)

abbrev pub members_view : List (Key × Value) → Members
members_view es = members_of (map (λ e. (e.0, tree_of e.1)) es)
