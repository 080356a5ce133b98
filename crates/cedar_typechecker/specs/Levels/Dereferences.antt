-- The parts of a typed expression that are checked, and its targets: the parts whose value is an
-- entity that is accessed.
use Rattle.std.specs.Prelude.{ℕ, nat_le, Bool, true, false, List, [], ◌∷◌, Option, Some, None, if◌then◌else◌}
use Rattle.cedar_types.specs.declared.base.expressions.operators.BinaryOp.{BinaryOp}
use Rattle.cedar_types.specs.Names.{Text, text_eq}
use Rattle.cedar_types.specs.Expressions.Parts.{parts, field_values}
use Rattle.cedar_types.specs.Expressions.Tree.{if_then_else, binary, get_attr, has_attr, ext_has_attr, record_of, Fields, no_fields, field}
use Rattle.cedar_typing.specs.Evaluation.Conformance.{IsOneOf}
use Rattle.cedar_typing.specs.TypedExpr.{TypedTree, Mark, annotation}
use Rattle.cedar_typechecker.specs.Levels.Chains.{Base, an_entity, a_record, neither, base_of, is_get_tag, field_at}
use Rattle.cedar_typechecker.specs.Levels.Costs.{cost_of, keys_of}
use Rattle.cedar_typechecker.specs.Levels.Setting.{LevelSetting}

-- a target: an expression whose value is accessed, along a path of attributes that are selected
-- from it first
pub record Target : Type 0 where
  pub tree : TypedTree
  pub path : List Text

abbrev pub along : TypedTree → List Text → Target
along x path = record { tree = x; path = path }

-- ---- below a checked expression

-- `has` and `.`: an entity base is a target, and a record base is checked. Below any other base
-- nothing is visited, because the whole has an internal error then
abbrev pub checked_of_base : Base → TypedTree → List TypedTree
checked_of_base a_record b = b ∷ []
checked_of_base k b = []

abbrev pub targets_of_base : Base → TypedTree → List Target
targets_of_base an_entity b = along b [] ∷ []
targets_of_base k b = []

-- `in`, `hasTag` and `getTag` access their first operand, because its entry has its ancestors and
-- tags. The second operand is checked
abbrev pub accesses_first : BinaryOp → Bool
accesses_first BinaryOp.In = true
accesses_first BinaryOp.HasTag = true
accesses_first BinaryOp.GetTag = true
accesses_first o = false

-- extended `has` on an entity or a record: nothing below is visited if its cost is above the
-- maximum n. Else a record base is checked, and is a target along the keys to the first entity, if
-- there is one; an entity base is a target itself. Any other base is checked
abbrev pub checked_of_chain : ℕ → Base → ℕ → TypedTree → List TypedTree
checked_of_chain n an_entity c b = []
checked_of_chain n a_record c b = if nat_le c n then b ∷ [] else []
checked_of_chain n neither c b = b ∷ []

abbrev pub target_at_keys : TypedTree → Option (List Text) → List Target
target_at_keys b None = []
target_at_keys b (Some path) = along b path ∷ []

abbrev pub targets_of_chain : ℕ → Base → ℕ → TypedTree → Option (List Text) → List Target
targets_of_chain n an_entity c b keys = if nat_le c n then along b [] ∷ [] else []
targets_of_chain n a_record c b keys = if nat_le c n then target_at_keys b keys else []
targets_of_chain n neither c b keys = []

module _ (s : LevelSetting) where
  -- the parts of a checked expression that are checked too: in all other forms, all parts
  abbrev pub checked_parts : TypedTree → List TypedTree
  checked_parts (get_attr m b x) = checked_of_base (base_of (annotation b)) b
  checked_parts (has_attr m b x) = checked_of_base (base_of (annotation b)) b
  checked_parts (ext_has_attr m b x xs) =
      checked_of_chain s.maximum (base_of (annotation b)) (cost_of s.schema (annotation b) x xs) b
  checked_parts (binary m o b c) = if accesses_first o then c ∷ [] else b ∷ c ∷ []
  checked_parts x = parts x

  -- the targets of a checked expression: in all other forms, none
  abbrev pub targets : TypedTree → List Target
  targets (get_attr m b x) = targets_of_base (base_of (annotation b)) b
  targets (has_attr m b x) = targets_of_base (base_of (annotation b)) b
  targets (ext_has_attr m b x xs) =
      targets_of_chain s.maximum (base_of (annotation b)) (cost_of s.schema (annotation b) x xs) b
      (keys_of s.schema (annotation b) x xs)
  targets (binary m o b c) = if accesses_first o then along b [] ∷ [] else []
  targets x = []

-- ---- below a target

-- the values of a record literal at the other keys
abbrev pub fields_beside : Text → Fields Mark → List TypedTree
fields_beside p no_fields = []
fields_beside p (field k t fs) =
    if text_eq p k then field_values fs else t ∷ fields_beside p fs

-- the values beside a key, if the record literal has the key at all
abbrev pub checked_beside : Text → Fields Mark → Option TypedTree → List TypedTree
checked_beside p fs None = []
checked_beside p fs (Some t) = fields_beside p fs

abbrev pub checked_of_record : List Text → Fields Mark → List TypedTree
checked_of_record [] fs = []
checked_of_record (p ∷ path) fs = checked_beside p fs (field_at p fs)

abbrev pub target_of_field : Option TypedTree → List Text → List Target
target_of_field None path = []
target_of_field (Some t) path = along t path ∷ []

abbrev pub targets_of_record : List Text → Fields Mark → List Target
targets_of_record [] fs = []
targets_of_record (p ∷ path) fs = target_of_field (field_at p fs) path

abbrev pub next_of_access : Base → TypedTree → Text → List Text → List Target
next_of_access an_entity b x path = along b path ∷ []
next_of_access a_record b x path = along b (x ∷ path) ∷ []
next_of_access neither b x path = []

-- the parts of a target that are checked: the test of an `if`, the second operand of `getTag`, and
-- the values of a record literal at the keys off the path, because they are evaluated too
abbrev pub checked_below : TypedTree → List Text → List TypedTree
checked_below (if_then_else m b c d) path = b ∷ []
checked_below (binary m o b c) path = if is_get_tag o then c ∷ [] else []
checked_below (record_of m fs) path = checked_of_record path fs
checked_below x path = []

-- the targets to which a target goes back, as its chains do: both branches of an `if`, the first
-- operand of `getTag`, the base of `.`, and the value of a record literal at the first key
abbrev pub next_targets : TypedTree → List Text → List Target
next_targets (if_then_else m b c d) path = along c path ∷ along d path ∷ []
next_targets (binary m o b c) path = if is_get_tag o then along b path ∷ [] else []
next_targets (get_attr m b x) path = next_of_access (base_of (annotation b)) b x path
next_targets (record_of m fs) path = targets_of_record path fs
next_targets x path = []

-- ---- all checked parts, and all targets

mutual
  -- the checked parts and the targets of an expression that is checked as a whole: the smallest two
  -- sets that are closed under the rules above
  pub data IsChecked (s : LevelSetting) (root : TypedTree) : TypedTree → Type 0 where
    -- the whole is checked
    the_root : IsChecked s root root
    -- parts of a checked expression are checked
    part_of_checked : {x y : TypedTree}
        → IsChecked s root x → IsOneOf y (checked_parts s x) → IsChecked s root y
    -- parts of a target are checked
    part_of_target : {x y : TypedTree} {path : List Text}
        → IsTarget s root x path → IsOneOf y (checked_below x path) → IsChecked s root y

  pub data IsTarget (s : LevelSetting) (root : TypedTree) : TypedTree → List Text → Type 0 where
    -- a checked expression has targets
    target_of_checked : {x y : TypedTree} {path : List Text}
        → IsChecked s root x → IsOneOf (along y path) (targets s x) → IsTarget s root y path
    -- a target goes back to other targets, from which it takes its value
    next_target : {x y : TypedTree} {path path' : List Text}
        → IsTarget s root x path → IsOneOf (along y path') (next_targets x path)
        → IsTarget s root y path'
