-- The walk down a typed expression, which finds its level errors.
use Rattle.std.specs.Prelude.{ℕ, nat_le, List, [], ◌∷◌, ◌++◌, map, Option, Some, None, if◌then◌else◌}
use Rattle.cedar_types.specs.Errors.{Fault, Finding}
use Rattle.cedar_types.specs.Names.{Text, text_eq}
use Rattle.cedar_types.specs.Expressions.Tree.{lit, var, slot, unknown, if_then_else, and, or, unary, binary, call, get_attr, has_attr}
use Rattle.cedar_types.specs.Expressions.Tree.{ext_has_attr, like, is_type, set_of, record_of, Trees, no_trees, tree, Fields, no_fields}
use Rattle.cedar_types.specs.Expressions.Tree.{field}
use Rattle.cedar_typing.specs.TypedExpr.{TypedTree, Mark, annotation}
use Rattle.cedar_typechecker.specs.Levels.Chains.{Base, an_entity, a_record, neither, base_of, is_get_tag, field_at, leaf_of}
use Rattle.cedar_typechecker.specs.Levels.Costs.{cost_of, keys_of}
use Rattle.cedar_typechecker.specs.Levels.Dereferences.{accesses_first}
use Rattle.cedar_typechecker.specs.Levels.Errors.{faults, faults_at_end, level_finding}
use Rattle.cedar_typechecker.specs.Levels.Setting.{LevelSetting}

abbrev pub found_at : LevelSetting → Mark → List Fault → List Finding
found_at s m fs = map (level_finding s m) fs

-- the errors below an access: those of its base, as a target or as a checked expression. Any other
-- base has none, because nothing below it is visited
abbrev pub of_base : Base → List Finding → List Finding → List Finding
of_base an_entity of_target of_checked = of_target
of_base a_record of_target of_checked = of_checked
of_base neither of_target of_checked = []

abbrev pub of_keys : Option (List Text) → (List Text → List Finding) → List Finding
of_keys None of_target = []
of_keys (Some path) of_target = of_target path

abbrev pub of_value : Option TypedTree → List Finding → List Finding
of_value None es = []
of_value (Some t) es = es

abbrev pub of_path : List Text → (Text → List Text → List Finding) → List Finding
of_path [] of_fields = []
of_path (p ∷ path) of_fields = of_fields p path

-- the errors below extended `has` of cost c, at the maximum n
abbrev pub of_chain : ℕ → Base → ℕ → Option (List Text) → (List Text → List Finding)
    → List Finding → List Finding
of_chain n an_entity c keys of_target of_checked = if nat_le c n then of_target [] else []
of_chain n a_record c keys of_target of_checked =
    if nat_le c n then of_checked ++ of_keys keys of_target else []
of_chain n neither c keys of_target of_checked = of_checked

module _ (s : LevelSetting) where
  -- the errors of a target that is a leaf
  abbrev pub leaf_errors : TypedTree → Mark → List Text → List Finding
  leaf_errors x m path = found_at s m (faults_at_end (leaf_of s.action x path))

  abbrev mutual
    -- the errors at a checked expression and below it
    pub checked_errors : TypedTree → List Finding
    checked_errors (lit m x) = []
    checked_errors (var m x) = []
    checked_errors (slot m x) = []
    checked_errors (unknown m x) = []
    checked_errors (if_then_else m b c d) =
        checked_errors b ++ (checked_errors c ++ checked_errors d)
    checked_errors (and m b c) = checked_errors b ++ checked_errors c
    checked_errors (or m b c) = checked_errors b ++ checked_errors c
    checked_errors (unary m o b) = checked_errors b
    checked_errors (binary m o b c) =
        found_at s m (faults s (binary m o b c))
        ++ ((if accesses_first o then target_errors b [] else checked_errors b)
        ++ checked_errors c)
    checked_errors (call m f ts) = all_errors ts
    checked_errors (get_attr m b x) =
        found_at s m (faults s (get_attr m b x))
        ++ of_base (base_of (annotation b)) (target_errors b []) (checked_errors b)
    checked_errors (has_attr m b x) =
        found_at s m (faults s (has_attr m b x))
        ++ of_base (base_of (annotation b)) (target_errors b []) (checked_errors b)
    checked_errors (ext_has_attr m b x xs) =
        found_at s m (faults s (ext_has_attr m b x xs))
        ++ of_chain s.maximum (base_of (annotation b)) (cost_of s.schema (annotation b) x xs)
        (keys_of s.schema (annotation b) x xs) (target_errors b) (checked_errors b)
    checked_errors (like m b p) = checked_errors b
    checked_errors (is_type m b p) = checked_errors b
    checked_errors (set_of m ts) = all_errors ts
    checked_errors (record_of m fs) = field_errors fs

    pub all_errors : Trees Mark → List Finding
    all_errors no_trees = []
    all_errors (tree t ts) = checked_errors t ++ all_errors ts

    pub field_errors : Fields Mark → List Finding
    field_errors no_fields = []
    field_errors (field k t fs) = checked_errors t ++ field_errors fs

    -- the errors at a target along a path and below it
    pub target_errors : TypedTree → List Text → List Finding
    target_errors (lit m x) path = leaf_errors (lit m x) m path
    target_errors (var m x) path = []
    target_errors (slot m x) path = leaf_errors (slot m x) m path
    target_errors (unknown m x) path = leaf_errors (unknown m x) m path
    target_errors (if_then_else m b c d) path =
        checked_errors b ++ (target_errors c path ++ target_errors d path)
    target_errors (and m b c) path = leaf_errors (and m b c) m path
    target_errors (or m b c) path = leaf_errors (or m b c) m path
    target_errors (unary m o b) path = leaf_errors (unary m o b) m path
    target_errors (binary m o b c) path =
        leaf_errors (binary m o b c) m path
        ++ (if is_get_tag o then target_errors b path ++ checked_errors c else [])
    target_errors (call m f ts) path = leaf_errors (call m f ts) m path
    target_errors (get_attr m b x) path =
        leaf_errors (get_attr m b x) m path
        ++ of_base (base_of (annotation b)) (target_errors b path) (target_errors b (x ∷ path))
    target_errors (has_attr m b x) path = leaf_errors (has_attr m b x) m path
    target_errors (ext_has_attr m b x xs) path = leaf_errors (ext_has_attr m b x xs) m path
    target_errors (like m b p) path = leaf_errors (like m b p) m path
    target_errors (is_type m b p) path = leaf_errors (is_type m b p) m path
    target_errors (set_of m ts) path = leaf_errors (set_of m ts) m path
    target_errors (record_of m fs) path =
        leaf_errors (record_of m fs) m path
        ++ of_path path (λ p q. of_value (field_at p fs) (errors_along fs p q))

    -- the errors in a record literal: at the key that is followed, and at the others
    pub errors_along : Fields Mark → Text → List Text → List Finding
    errors_along no_fields p path = []
    errors_along (field k t fs) p path =
        if text_eq p k then target_errors t path ++ field_errors fs
        else checked_errors t ++ errors_along fs p path
