-- Expressions in which the dereference rules find nothing, by recursion on the typed expression.
use Rattle.std.proofs.Common.{ℕ, zero, suc, Bool, true, false, List, [], ◌∷◌, Option, Some, None}
use Rattle.cedar_types.specs.Names.{Text, Uid, text_eq, uid_eq}
use Rattle.cedar_types.specs.Expressions.Tree.{Lit, entity, lit, var, slot, unknown, if_then_else, and, or, unary, binary, call, get_attr}
use Rattle.cedar_types.specs.Expressions.Tree.{has_attr, ext_has_attr, like, is_type, set_of, record_of, Trees, no_trees, tree, Fields}
use Rattle.cedar_types.specs.Expressions.Tree.{no_fields, field}
use Rattle.cedar_typing.specs.TypedExpr.{TypedTree, Mark, annotation}
use Rattle.std.specs.Prelude.{◌≡◌, ◌+◌, ◌≤◌}
use Rattle.cedar_typechecker.specs.Levels.Chains.{Base, an_entity, a_record, neither, base_of, is_get_tag}
use Rattle.cedar_typechecker.specs.Levels.Costs.{cost_of, keys_of}
use Rattle.cedar_typechecker.specs.Levels.Dereferences.{accesses_first}
use Rattle.cedar_typechecker.specs.Levels.Setting.{LevelSetting}

-- one of the accesses that are left is spent
abbrev pub Spends : ℕ → (ℕ → Type 0) → Type 0
Spends zero P = ⊥
Spends (suc k) P = P k

abbrev pub IfSo : Bool → Type 0 → Type 0 → Type 0
IfSo true A B = A
IfSo false A B = B

abbrev pub ByBase : Base → Type 0 → Type 0 → Type 0
ByBase an_entity A B = A
ByBase a_record A B = B
ByBase neither A B = ⊥

abbrev pub IsOwnAction : Option Uid → Lit → Type 0
IsOwnAction (Some a) (entity u) = uid_eq u a ≡ true
IsOwnAction r x = ⊥

abbrev pub OnKeys : List Text → (Text → List Text → Type 0) → Type 0
OnKeys [] P = ⊥
OnKeys (p ∷ path) P = P p path

-- within a cost c of n, some level k is left, and the target is within it
abbrev pub Leaves : ℕ → ℕ → (ℕ → Type 0) → Type 0
Leaves n c P = (k : ℕ) × (k + c ≤ n) × P k

abbrev pub OnKeysOf : Option (List Text) → (List Text → Type 0) → Type 0
OnKeysOf None P = Unit {0}
OnKeysOf (Some path) P = P path

-- extended `has`, by its base
abbrev pub ByChain : Base → ℕ → ℕ → Option (List Text) → Type 0 → (List Text → ℕ → Type 0) → Type 0
ByChain an_entity n c path A P = Leaves n c (P [])
ByChain a_record n c path A P = (c ≤ n) × A × OnKeysOf path (λ xs. Leaves n c (P xs))
ByChain neither n c path A P = A

module _ (s : LevelSetting) where
  abbrev mutual
    -- the rules find nothing in a checked expression
    pub Silent : TypedTree → Type 0
    Silent (lit m x) = Unit {0}
    Silent (var m x) = Unit {0}
    Silent (slot m x) = Unit {0}
    Silent (unknown m x) = Unit {0}
    Silent (if_then_else m a b c) = Silent a × Silent b × Silent c
    Silent (and m a b) = Silent a × Silent b
    Silent (or m a b) = Silent a × Silent b
    Silent (unary m o a) = Silent a
    Silent (binary m o a b) =
        IfSo (accesses_first o) (Spends s.maximum (Targeted a [])) (Silent a) × Silent b
    Silent (call m f ts) = AllSilent ts
    Silent (get_attr m a x) =
        ByBase (base_of (annotation a)) (Spends s.maximum (Targeted a [])) (Silent a)
    Silent (has_attr m a x) =
        ByBase (base_of (annotation a)) (Spends s.maximum (Targeted a [])) (Silent a)
    Silent (ext_has_attr m a x xs) =
        ByChain (base_of (annotation a)) s.maximum (cost_of s.schema (annotation a) x xs)
        (keys_of s.schema (annotation a) x xs) (Silent a) (Targeted a)
    Silent (like m a p) = Silent a
    Silent (is_type m a p) = Silent a
    Silent (set_of m ts) = AllSilent ts
    Silent (record_of m fs) = FieldsSilent fs

    pub AllSilent : Trees Mark → Type 0
    AllSilent no_trees = Unit {0}
    AllSilent (tree t ts) = Silent t × AllSilent ts

    pub FieldsSilent : Fields Mark → Type 0
    FieldsSilent no_fields = Unit {0}
    FieldsSilent (field k t fs) = Silent t × FieldsSilent fs

    -- the rules find nothing in a target along a path, and its chains access at most k entities
    pub Targeted : TypedTree → List Text → ℕ → Type 0
    Targeted (lit m x) path k = IsOwnAction s.action x
    Targeted (var m x) path k = Unit {0}
    Targeted (slot m x) path k = ⊥
    Targeted (unknown m x) path k = ⊥
    Targeted (if_then_else m a b c) path k = Silent a × Targeted b path k × Targeted c path k
    Targeted (and m a b) path k = ⊥
    Targeted (or m a b) path k = ⊥
    Targeted (unary m o a) path k = ⊥
    Targeted (binary m o a b) path k = IfSo (is_get_tag o) (Spends k (Targeted a path) × Silent b) ⊥
    Targeted (call m f ts) path k = ⊥
    Targeted (get_attr m a x) path k =
        ByBase (base_of (annotation a)) (Spends k (Targeted a path)) (Targeted a (x ∷ path) k)
    Targeted (has_attr m a x) path k = ⊥
    Targeted (ext_has_attr m a x xs) path k = ⊥
    Targeted (like m a p) path k = ⊥
    Targeted (is_type m a p) path k = ⊥
    Targeted (set_of m ts) path k = ⊥
    Targeted (record_of m fs) path k = OnKeys path (λ p q. FieldTargeted fs p q k)

    pub FieldTargeted : Fields Mark → Text → List Text → ℕ → Type 0
    FieldTargeted no_fields p path k = ⊥
    FieldTargeted (field l t fs) p path k =
        IfSo (text_eq p l) (Targeted t path k × FieldsSilent fs)
        (Silent t × FieldTargeted fs p path k)
