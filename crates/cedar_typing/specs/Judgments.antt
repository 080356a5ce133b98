-- The judgments of typing: an expression is derived, with a type; or it fails, and is typed all the
-- same; or it is cut, because a part of it is nested too deep.
use Rattle.std.specs.Prelude.{◌≡◌, ℕ, ◌≤◌, ◌<◌, Bool, true, false, List, [], ◌∷◌, ◌++◌, Option, Some, None}
use Rattle.cedar_types.specs.declared.base.location.Loc.{Loc}
use Rattle.cedar_types.specs.Types.{Ty}
use Rattle.cedar_types.specs.Types.Order.{in_order}
use Rattle.cedar_types.specs.Errors.{Finding, unexpected_type}
use Rattle.cedar_typing.specs.Capabilities.{Caps, no_caps}
use Rattle.cedar_typing.specs.TypeEnv.{TypeEnv, finding}
use Rattle.cedar_typing.specs.TypeTests.{accepts}
use Rattle.cedar_typing.specs.TypedExpr.{TypedTree, annotation, without_type}

-- a derived expression: its type, the capabilities that it produces, and its typed copy
abbrev pub Derivation : Type 1
Derivation = Ty → Caps → TypedTree → Type 0

-- a failed expression: its typed copy, whose root may lack a type, and the errors of it and of its
-- parts, in the order in which they are found
abbrev pub Recovery : Type 1
Recovery = TypedTree → List Finding → Type 0

-- a cut expression, with a part that is too deep: the errors found in it
abbrev pub Cut : Type 1
Cut = List Finding → Type 0

pub record Judgment : Type 1 where
  pub derives : Derivation
  pub recovers : Recovery
  pub cuts : Cut

-- ---- judgments that say less

abbrev pub NoDerivation : Derivation
NoDerivation t c e = ⊥

abbrev pub NoRecovery : Recovery
NoRecovery e es = ⊥

-- an expression without parts that are visited
abbrev pub NoCut : Cut
NoCut es = ⊥

-- ---- the limit

-- the greatest depth at which an expression is visited; a condition has depth 1, and each part one
-- more than the whole
abbrev pub max_nesting : ℕ
max_nesting = 400

-- an expression at depth d is cut by its own depth, without an error, or by a part
pub data CutAt (d : ℕ) (C : Cut) : List Finding → Type 0 where
  too_deep : max_nesting < d → CutAt d C []
  by_part : {es : List Finding} → d ≤ max_nesting → C es → CutAt d C es

-- an expression is visited only within the limit
abbrev pub visited : ℕ → Judgment → Judgment
visited d J = record {
  derives = λ t c e. (d ≤ max_nesting) × J.derives t c e;
  recovers = λ e es. (d ≤ max_nesting) × J.recovers e es;
  cuts = CutAt d J.cuts;
}

-- ---- parts

-- the results of a part that the whole uses: whether it succeeded, its capabilities, its typed copy,
-- its errors
abbrev pub Giving : Type 1
Giving = Bool → Caps → TypedTree → List Finding → Type 0

-- the results of a part that is not cut. A failed part gives no capabilities
pub data PartResult (J : Judgment) : Bool → Caps → TypedTree → List Finding → Type 0 where
  derived : {t : Ty} {c : Caps} {e : TypedTree} → J.derives t c e → PartResult J true c e []
  recovered : {e : TypedTree} {es : List Finding}
      → J.recovers e es → PartResult J false no_caps e es

-- a part at l that must be of one of the types ts
pub data Operand (env : TypeEnv) (ts : List Ty) (l : Option Loc) (J : Judgment) :
    Bool → Caps → TypedTree → List Finding → Type 0 where
  -- the part's type is accepted
  accepted : {succeeded : Bool} {c : Caps} {e : TypedTree} {es : List Finding} (t : Ty)
      → PartResult J succeeded c e es → annotation e ≡ Some t → accepts ts t ≡ true
      → Operand env ts l J succeeded c e es
  -- the part's type is another one, which is an error there, and the part loses its type, so that no
  -- rule goes on with it
  refused : {succeeded : Bool} {c : Caps} {e : TypedTree} {es : List Finding} (t : Ty)
      → PartResult J succeeded c e es → annotation e ≡ Some t → accepts ts t ≡ false
      → Operand env ts l J false no_caps (without_type e)
      (es ++ finding env l (unexpected_type (in_order ts) t) ∷ [])
  -- the part has no type, which adds no error, because the part has failed already
  missing : {succeeded : Bool} {c : Caps} {e : TypedTree} {es : List Finding}
      → PartResult J succeeded c e es → annotation e ≡ None
      → Operand env ts l J false no_caps e es

-- the errors of a part that is visited whatever the result of another part, whether it is cut or not
pub data PartOrCut (J : Judgment) : List Finding → Type 0 where
  the_part : {succeeded : Bool} {c : Caps} {e : TypedTree} {es : List Finding}
      → PartResult J succeeded c e es → PartOrCut J es
  the_cut : {es : List Finding} → J.cuts es → PartOrCut J es
