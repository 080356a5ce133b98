-- The level errors of a typed expression, at a maximum n: a set of findings at its nodes.
use Rattle.std.specs.Prelude.{ℕ, ◌+◌, min, nat_lt, nat_le, List, [], ◌∷◌, Option, Some, None, if◌then◌else◌}
use Rattle.cedar_types.specs.Errors.{Fault, Finding, maximum_level_exceeded, literal_dereference_target, internal_invariant_violation}
use Rattle.cedar_types.specs.Names.{Text}
use Rattle.cedar_types.specs.Expressions.Tree.{binary, get_attr, has_attr, ext_has_attr}
use Rattle.cedar_typing.specs.Evaluation.Conformance.{IsOneOf}
use Rattle.cedar_typing.specs.TypedExpr.{TypedTree, Mark, mark_of, annotation}
use Rattle.cedar_typechecker.specs.Levels.Chains.{Base, an_entity, a_record, neither, base_of, Leaf, good_leaf, literal_leaf, bad_leaf}
use Rattle.cedar_typechecker.specs.Levels.Chains.{leaf_of, level}
use Rattle.cedar_typechecker.specs.Levels.Costs.{cost_of, keys_of}
use Rattle.cedar_typechecker.specs.Levels.Dereferences.{accesses_first, IsChecked, IsTarget}
use Rattle.cedar_typechecker.specs.Levels.Setting.{LevelSetting}

-- ---- levels that are too great

-- a level as an error reports it: at most the greatest number of 32 bits
abbrev pub reported : ℕ → ℕ
reported k = min k 4294967295

-- the fault that k is required, and n is the maximum
abbrev pub exceeds : ℕ → ℕ → Fault
exceeds n k = maximum_level_exceeded n (reported k)

-- an access of a target of level k requires level k + 1, because it reads the entry of one more
-- entity
abbrev pub unless_below : ℕ → ℕ → List Fault
unless_below n k = if nat_lt k n then [] else exceeds n (k + 1) ∷ []

abbrev pub unless_within : ℕ → ℕ → List Fault
unless_within n k = if nat_le k n then [] else exceeds n k ∷ []

-- ---- at a checked expression

module _ (s : LevelSetting) where
  -- `has` and `.`: the base must be an entity or a record
  abbrev pub faults_of_base : Base → TypedTree → List Fault
  faults_of_base an_entity b = unless_below s.maximum (level s.action b [])
  faults_of_base a_record b = []
  faults_of_base neither b = internal_invariant_violation ∷ []

  -- the level of the base along the keys to the first entity, with the cost c of the chain
  abbrev pub level_at_keys : TypedTree → Option (List Text) → ℕ → List Fault
  level_at_keys b None c = []
  level_at_keys b (Some path) c = unless_within s.maximum (level s.action b path + c)

  -- extended `has`: if its cost is above the maximum, that is its only fault
  abbrev pub faults_of_chain : Base → ℕ → TypedTree → Option (List Text) → List Fault
  faults_of_chain an_entity c b keys =
      if nat_le c s.maximum then unless_within s.maximum (level s.action b [] + c)
      else exceeds s.maximum c ∷ []
  faults_of_chain a_record c b keys =
      if nat_le c s.maximum then level_at_keys b keys c else exceeds s.maximum c ∷ []
  faults_of_chain neither c b keys = []

  -- the faults of a checked expression itself. Other forms have none
  abbrev pub faults : TypedTree → List Fault
  faults (get_attr m b x) = faults_of_base (base_of (annotation b)) b
  faults (has_attr m b x) = faults_of_base (base_of (annotation b)) b
  faults (ext_has_attr m b x xs) =
      faults_of_chain (base_of (annotation b)) (cost_of s.schema (annotation b) x xs) b
      (keys_of s.schema (annotation b) x xs)
  faults (binary m o b c) =
      if accesses_first o then unless_below s.maximum (level s.action b []) else []
  faults x = []

-- ---- at a target

-- the faults of a leaf
abbrev pub faults_at_leaf : Leaf → List Fault
faults_at_leaf good_leaf = []
faults_at_leaf literal_leaf = literal_dereference_target ∷ []
faults_at_leaf bad_leaf = internal_invariant_violation ∷ []

-- the faults of a target itself, if it is a leaf
abbrev pub faults_at_end : Option Leaf → List Fault
faults_at_end None = []
faults_at_end (Some l) = faults_at_leaf l

-- ---- the set

-- a fault at the place of a node
abbrev pub level_finding : LevelSetting → Mark → Fault → Finding
level_finding s m f = record { place = m.at.place; policy = s.policy; fault = f }

pub data IsLevelError (s : LevelSetting) (root : TypedTree) : Finding → Type 0 where
  -- a fault of a checked expression, at its node
  at_checked : {x : TypedTree} {f : Fault}
      → IsChecked s root x → IsOneOf f (faults s x)
      → IsLevelError s root (level_finding s (mark_of x) f)
  -- a fault of a target that is a leaf, at its node
  at_target : {x : TypedTree} {path : List Text} {f : Fault}
      → IsTarget s root x path → IsOneOf f (faults_at_end (leaf_of s.action x path))
      → IsLevelError s root (level_finding s (mark_of x) f)

-- an expression is within the level if it has no level error
abbrev pub IsWithinLevel : LevelSetting → TypedTree → Type 0
IsWithinLevel s root = (e : Finding) → IsLevelError s root e → ⊥
