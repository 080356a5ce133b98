-- Laws of access chains and of level errors.
use Rattle.std.specs.Prelude.{◌≡◌, ◌↔◌, ℕ, ◌≤◌, List, [], Option}
use Rattle.cedar_types.specs.Errors.{Finding}
use Rattle.cedar_types.specs.Names.{Text, Uid}
use Rattle.cedar_typing.specs.Evaluation.Conformance.{IsOneOf}
use Rattle.cedar_typing.specs.PolicyCheck.{Verdict, succeeds, irrelevant, fails, PolicyChecks}
use Rattle.cedar_typing.specs.Setting.{Setting}
use Rattle.cedar_typing.specs.TypedExpr.{Source, TypedTree}
use Rattle.cedar_typechecker.specs.Levels.Chains.{Leaf, HasChain, chains, level}
use Rattle.cedar_typechecker.specs.Levels.Demands.{told, MeetsAll, around, add_demands}
use Rattle.cedar_typechecker.specs.Levels.Errors.{IsLevelError, IsWithinLevel}
use Rattle.cedar_typechecker.specs.Levels.Setting.{LevelSetting}
use Rattle.cedar_typechecker.specs.Levels.Shared.{BranchesAreShared}
use Rattle.cedar_typechecker.specs.Levels.Walk.{checked_errors}

-- the list of an expression's chains has each chain, and nothing else
abbrev pub ChainsAreListed : Type 0
ChainsAreListed =
    (a : Option Uid) (x : TypedTree) (path : List Text) (k : ℕ) (l : Leaf)
    → HasChain a x path k l ↔ IsOneOf (record { accesses = k; leaf = l }) (chains a x path)

-- the level is that of some chain, and no chain accesses more
abbrev pub LevelIsGreatest : Type 0
LevelIsGreatest =
    (a : Option Uid) (x : TypedTree) (path : List Text)
    → ((l : Leaf) × HasChain a x path (level a x path) l)
    × ((k : ℕ) (l : Leaf) → HasChain a x path k l → k ≤ level a x path)

-- an expression without a level error at a maximum has none at any larger one
abbrev pub LargerLevelsAreWithin : Type 0
LargerLevelsAreWithin =
    (s : LevelSetting) (n : ℕ) (root : TypedTree)
    → s.maximum ≤ n → IsWithinLevel s root → IsWithinLevel (record s { maximum = n }) root

-- the walk finds each level error, and nothing else
abbrev pub WalkFindsErrors : Type 0
WalkFindsErrors =
    (s : LevelSetting) (root : TypedTree) (e : Finding)
    → IsLevelError s root e ↔ IsOneOf e (checked_errors s root)

-- so an expression is within the level exactly if the walk finds no error
abbrev pub SilentWalkIsWithin : Type 0
SilentWalkIsWithin =
    (s : LevelSetting) (root : TypedTree)
    → (checked_errors s root ≡ []) ↔ IsWithinLevel s root

-- ---- one branch twice

-- in the condition that a check typed, if it did not fail, both branches of a constant `if` are one
-- tree
abbrev pub VerdictIsShared : Verdict → Type 0
VerdictIsShared (succeeds x) = BranchesAreShared x
VerdictIsShared (irrelevant es x) = BranchesAreShared x
VerdictIsShared (fails es) = Unit {0}

-- typing gives an `if` whose test is True or False one branch twice
abbrev pub TypedBranchesAreShared : Type 0
TypedBranchesAreShared =
    (s : Setting) (e : Source) (v : Verdict) → PolicyChecks s e v → VerdictIsShared v

-- the demands of an expression give, at a maximum, each level error, and nothing else
abbrev pub DemandsTellErrors : Type 0
DemandsTellErrors =
    (s : LevelSetting) (root : TypedTree) (e : Finding)
    → s.maximum ≤ 4294967295 → BranchesAreShared root
    → IsOneOf e (told s.policy s.maximum (add_demands (around s) root 0 []))
    ↔ IsLevelError s root e

-- the maximum meets all demands, even the hidden ones, exactly if there is no level error, because
-- a maximum that hides a demand is below a cost, which is a demand too
abbrev pub DemandsAreMet : Type 0
DemandsAreMet =
    (s : LevelSetting) (root : TypedTree)
    → s.maximum ≤ 4294967295 → BranchesAreShared root
    → MeetsAll s.maximum (add_demands (around s) root 0 []) ↔ IsWithinLevel s root
