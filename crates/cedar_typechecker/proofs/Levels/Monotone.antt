-- An expression without a level error at a maximum has none at any larger one.
use Rattle.std.proofs.Common.{ℕ, zero, suc, ◌≤◌, Bool, true, false, List, [], ◌∷◌, Option, Some, None, arith}
use Rattle.cedar_types.specs.Names.{Text, text_eq}
use Rattle.cedar_types.specs.Expressions.Tree.{lit, var, slot, unknown, if_then_else, and, or, unary, binary, call, get_attr, has_attr}
use Rattle.cedar_types.specs.Expressions.Tree.{ext_has_attr, like, is_type, set_of, record_of, Trees, no_trees, tree, Fields, no_fields}
use Rattle.cedar_types.specs.Expressions.Tree.{field}
use Rattle.cedar_typing.specs.TypedExpr.{TypedTree, Mark, annotation}
use Rattle.cedar_typechecker.specs.Levels.Chains.{Base, an_entity, a_record, neither, base_of, is_get_tag}
use Rattle.cedar_typechecker.specs.Levels.Costs.{cost_of, keys_of}
use Rattle.cedar_typechecker.specs.Levels.Dereferences.{accesses_first}
use Rattle.cedar_typechecker.specs.Levels.Errors.{IsWithinLevel}
use Rattle.cedar_typechecker.specs.Levels.Laws.{LargerLevelsAreWithin}
use Rattle.cedar_typechecker.specs.Levels.Setting.{LevelSetting}
use Rattle.cedar_typechecker.proofs.Levels.Silent.{Spends, IfSo, ByBase, OnKeys, Leaves, OnKeysOf, ByChain, Silent, AllSilent, FieldsSilent}
use Rattle.cedar_typechecker.proofs.Levels.Silent.{Targeted, FieldTargeted}
use Rattle.cedar_typechecker.proofs.Levels.SilentFromWalk.{silent_if_none}
use Rattle.cedar_typechecker.proofs.Levels.WalkFromSilent.{none_if_silent}
use Rattle.cedar_typechecker.proofs.Levels.Walk.{silent_walk_is_within}

spends_more : (k k' : ℕ) (P Q : ℕ → Type 0) → k ≤ k' → ((j j' : ℕ) → j ≤ j' → P j → Q j')
    → Spends k P → Spends k' Q
spends_more zero k' P Q l f h = absurd h
spends_more (suc k) zero P Q l f h = absurd (omega arith)
spends_more (suc k) (suc k') P Q l f h = f k k' (omega arith) h

if_more : (b : Bool) (X X' Y Y' : Type 0) → (X → X') → (Y → Y') → IfSo b X Y → IfSo b X' Y'
if_more true X X' Y Y' f g h = f h
if_more false X X' Y Y' f g h = g h

base_more : (b : Base) (X X' Y Y' : Type 0) → (X → X') → (Y → Y') → ByBase b X Y → ByBase b X' Y'
base_more an_entity X X' Y Y' f g h = f h
base_more a_record X X' Y Y' f g h = g h
base_more neither X X' Y Y' f g h = h

keys_more : (path : List Text) (P Q : Text → List Text → Type 0)
    → ((p : Text) (path : List Text) → P p path → Q p path) → OnKeys path P → OnKeys path Q
keys_more [] P Q f h = h
keys_more (p ∷ path) P Q f h = f p path h

module _ (n m : ℕ) (l : n ≤ m) where
  leaves_more : (c : ℕ) (P Q : ℕ → Type 0) → ((k : ℕ) → P k → Q k) → Leaves n c P → Leaves m c Q
  leaves_more c P Q f h = (h.0, omega (arith, h.1), f h.0 h.2)

  found_more : (keys : Option (List Text)) (P Q : List Text → Type 0)
      → ((path : List Text) → P path → Q path) → OnKeysOf keys P → OnKeysOf keys Q
  found_more None P Q f h = tt
  found_more (Some path) P Q f h = f path h

  chain_more : (b : Base) (c : ℕ) (keys : Option (List Text)) (X X' : Type 0)
      (P Q : List Text → ℕ → Type 0) → (X → X') → ((path : List Text) (k : ℕ) → P path k → Q path k)
      → ByChain b n c keys X P → ByChain b m c keys X' Q
  chain_more an_entity c keys X X' P Q f g h = leaves_more c (P []) (Q []) (g []) h
  chain_more a_record c keys X X' P Q f g h = (
    omega (arith, h.0),
    f h.1,
    found_more keys _ _
        (λ path i. leaves_more c (P path) (Q path) (g path) i) h.2,
  )
  chain_more neither c keys X X' P Q f g h = f h

abbrev larger : LevelSetting → ℕ → LevelSetting
larger s m = record s { maximum = m }

module _ (s : LevelSetting) (m : ℕ) (l : s.maximum ≤ m) where
  mutual
    silent_more : (x : TypedTree) → Silent s x → Silent (larger s m) x
    silent_more (lit d x) h = tt
    silent_more (var d x) h = tt
    silent_more (slot d x) h = tt
    silent_more (unknown d x) h = tt
    silent_more (if_then_else d x y z) h = (silent_more x h.0, silent_more y h.1, silent_more z h.2)
    silent_more (and d x y) h = (silent_more x h.0, silent_more y h.1)
    silent_more (or d x y) h = (silent_more x h.0, silent_more y h.1)
    silent_more (unary d o x) h = silent_more x h
    silent_more (binary d o x y) h = (
      if_more (accesses_first o) _ _ _ _
          (λ i. spends_more s.maximum m _ _ l (λ j j' e w. targeted_more x [] j j' e w) i)
          (silent_more x) h.0,
      silent_more y h.1,
    )
    silent_more (call d f ts) h = all_more ts h
    silent_more (get_attr d x y) h =
        base_more (base_of (annotation x)) _ _ _ _
        (λ i. spends_more s.maximum m _ _ l (λ j j' e w. targeted_more x [] j j' e w) i)
        (silent_more x) h
    silent_more (has_attr d x y) h =
        base_more (base_of (annotation x)) _ _ _ _
        (λ i. spends_more s.maximum m _ _ l (λ j j' e w. targeted_more x [] j j' e w) i)
        (silent_more x) h
    silent_more (ext_has_attr d x y ys) h =
        chain_more s.maximum m l (base_of (annotation x)) (cost_of s.schema (annotation x) y ys)
        (keys_of s.schema (annotation x) y ys) _ _ _ _ (silent_more x)
        (λ path k w. targeted_more x path k k (omega arith) w) h
    silent_more (like d x p) h = silent_more x h
    silent_more (is_type d x p) h = silent_more x h
    silent_more (set_of d ts) h = all_more ts h
    silent_more (record_of d fs) h = fields_more fs h

    all_more : (ts : Trees Mark) → AllSilent s ts → AllSilent (larger s m) ts
    all_more no_trees h = tt
    all_more (tree t ts) h = (silent_more t h.0, all_more ts h.1)

    fields_more : (fs : Fields Mark) → FieldsSilent s fs → FieldsSilent (larger s m) fs
    fields_more no_fields h = tt
    fields_more (field k t fs) h = (silent_more t h.0, fields_more fs h.1)

    targeted_more : (x : TypedTree) (path : List Text) (k k' : ℕ) → k ≤ k' → Targeted s x path k
        → Targeted (larger s m) x path k'
    targeted_more (lit d x) path k k' e h = h
    targeted_more (var d x) path k k' e h = tt
    targeted_more (slot d x) path k k' e h = h
    targeted_more (unknown d x) path k k' e h = h
    targeted_more (if_then_else d x y z) path k k' e h =
        (silent_more x h.0, targeted_more y path k k' e h.1, targeted_more z path k k' e h.2)
    targeted_more (and d x y) path k k' e h = h
    targeted_more (or d x y) path k k' e h = h
    targeted_more (unary d o x) path k k' e h = h
    targeted_more (binary d o x y) path k k' e h =
        if_more (is_get_tag o) _ _ _ _
        (λ i. (
          spends_more k k' _ _ e (λ j j' w z. targeted_more x path j j' w z) i.0,
          silent_more y
              i.1,
        )) (λ i. i) h
    targeted_more (call d f ts) path k k' e h = h
    targeted_more (get_attr d x y) path k k' e h =
        base_more (base_of (annotation x)) _ _ _ _
        (λ i. spends_more k k' _ _ e (λ j j' w z. targeted_more x path j j' w z) i)
        (λ i. targeted_more x (y ∷ path) k k' e i) h
    targeted_more (has_attr d x y) path k k' e h = h
    targeted_more (ext_has_attr d x y ys) path k k' e h = h
    targeted_more (like d x p) path k k' e h = h
    targeted_more (is_type d x p) path k k' e h = h
    targeted_more (set_of d ts) path k k' e h = h
    targeted_more (record_of d fs) path k k' e h =
        keys_more path _ _ (λ p q i. field_more fs p q k k' e i) h

    field_more : (fs : Fields Mark) (p : Text) (path : List Text) (k k' : ℕ) → k ≤ k'
        → FieldTargeted s fs p path k → FieldTargeted (larger s m) fs p path k'
    field_more no_fields p path k k' e h = h
    field_more (field q t fs) p path k k' e h =
        if_more (text_eq p q) _ _ _ _ (λ i. (targeted_more t path k k' e i.0, fields_more fs i.1))
        (λ i. (silent_more t i.0, field_more fs p path k k' e i.1)) h

pub silent_of : (s : LevelSetting) (root : TypedTree) → IsWithinLevel s root → Silent s root
silent_of s root h = silent_if_none s root ((silent_walk_is_within s root).1 h)

within_of : (s : LevelSetting) (root : TypedTree) → Silent s root → IsWithinLevel s root
within_of s root h = (silent_walk_is_within s root).0 (none_if_silent s root h)

pub larger_levels_are_within : LargerLevelsAreWithin
larger_levels_are_within s n root l h =
    within_of (larger s n) root (silent_more s n l root (silent_of s root h))
