-- The rules of all forms whose operands are typed first: they depend on the results of the operands,
-- and on the form's table.
use Rattle.std.specs.Prelude.{◌≡◌, Bool, true, false, ◌&&◌, List, [], ◌∷◌, ◌++◌, Option, Some, None}
use Rattle.cedar_types.specs.declared.base.location.Loc.{Loc}
use Rattle.cedar_types.specs.Types.{Ty}
use Rattle.cedar_types.specs.Errors.{Finding}
use Rattle.cedar_typing.specs.Capabilities.{Caps}
use Rattle.cedar_typing.specs.Eager.{Expectation, meets, gives, refuses, Form, first_expectation, later_expectations, types_found}
use Rattle.cedar_typing.specs.Judgments.{Cut, Judgment, Giving, PartResult, Operand}
use Rattle.cedar_typing.specs.TypeEnv.{TypeEnv}
use Rattle.cedar_typing.specs.TypedExpr.{TypedTree, typed, typed_as}

-- the rules of operands, one after another
pub record Judgments : Type 1 where
  -- each operand is derived: their typed copies
  pub derive : List TypedTree → Type 0
  -- no operand is cut: whether all succeeded, their typed copies, and their errors
  pub give : Bool → List TypedTree → List Finding → Type 0
  -- an operand is cut: the typed copies of the operands before it, and the errors
  pub break : List TypedTree → List Finding → Type 0

-- ---- no operand

pub data NoneDerived : List TypedTree → Type 0 where
  none_derived : NoneDerived []

pub data NoneGiven : Bool → List TypedTree → List Finding → Type 0 where
  none_given : NoneGiven true [] []

abbrev pub NoBreak : List TypedTree → List Finding → Type 0
NoBreak xs es = ⊥

abbrev pub no_operands : Judgments
no_operands = record { derive = NoneDerived; give = NoneGiven; break = NoBreak }

-- ---- one more operand

-- an operand with an expected type, or one that may be anything
abbrev pub ExpectedOperand : TypeEnv → Expectation → Option Loc → Judgment → Giving
ExpectedOperand env None l J = PartResult J
ExpectedOperand env (Some ts) l J = Operand env ts l J

pub data AlsoDerived (q : Expectation) (J : Judgment) (Js : Judgments) :
    List TypedTree → Type 0 where
  also_derived : {t : Ty} {c : Caps} {x : TypedTree} {xs : List TypedTree}
      → J.derives t c x → meets q t ≡ true → Js.derive xs → AlsoDerived q J Js (x ∷ xs)

-- no operand is cut, given the result of the first
pub data AlsoGiven (Gives : Giving) (Js : Judgments) :
    Bool → List TypedTree → List Finding → Type 0 where
  also_given : {succeeded later : Bool} {c : Caps} {x : TypedTree} {xs : List TypedTree}
      {es es' : List Finding}
      → Gives succeeded c x es → Js.give later xs es'
      → AlsoGiven Gives Js (later && succeeded) (x ∷ xs) (es ++ es')

-- the operands after one that is cut: if the form goes on, they are visited, and their errors count
pub data AfterCut (Js : Judgments) : Bool → List Finding → Type 0 where
  not_visited : AfterCut Js false []
  all_given : {succeeded : Bool} {xs : List TypedTree} {es : List Finding}
      → Js.give succeeded xs es → AfterCut Js true es
  also_cut : {xs : List TypedTree} {es : List Finding} → Js.break xs es → AfterCut Js true es

pub data AlsoBroken (goes_on : Bool) (Gives : Giving) (C : Cut) (Js : Judgments) :
    List TypedTree → List Finding → Type 0 where
  -- the first operand is cut
  broken_here : {es es' : List Finding}
      → C es → AfterCut Js goes_on es' → AlsoBroken goes_on Gives C Js [] (es ++ es')
  -- a later operand is cut
  broken_later : {succeeded : Bool} {c : Caps} {x : TypedTree} {xs : List TypedTree}
      {es es' : List Finding}
      → Gives succeeded c x es → Js.break xs es'
      → AlsoBroken goes_on Gives C Js (x ∷ xs) (es ++ es')

abbrev pub one_more : TypeEnv → Bool → Expectation → Option Loc → Judgment → Judgments → Judgments
one_more env goes_on q l J Js = record {
  derive = AlsoDerived q J Js;
  give = AlsoGiven (ExpectedOperand env q l J) Js;
  break = AlsoBroken goes_on (ExpectedOperand env q l J) J.cuts Js;
}

-- ---- the whole

module _ (f : Form) (Js : Judgments) where
  -- each operand is derived, and the table gives the type and the capabilities of the whole
  pub data EagerRule : Ty → Caps → TypedTree → Type 0 where
    eager_typed : {t : Ty} {c : Caps} {xs : List TypedTree}
        → Js.derive xs → f.decides (types_found xs) ≡ gives t c
        → EagerRule t c (f.node (typed t f.at) xs)

  pub data EagerRecovery : TypedTree → List Finding → Type 0 where
    -- an operand failed: the whole fails too, with the type that the table gives all the same
    operand_failed : {t : Ty} {c : Caps} {xs : List TypedTree} {es : List Finding}
        → Js.give false xs es → f.decides (types_found xs) ≡ gives t c
        → EagerRecovery (f.node (typed (f.type_if_failed t) f.at) xs) es
    -- the table refuses: the whole keeps this type, if any, and its errors come after those of the
    -- operands
    table_refused : {succeeded : Bool} {t : Option Ty} {fs : List Finding} {xs : List TypedTree}
        {es : List Finding}
        → Js.give succeeded xs es → f.decides (types_found xs) ≡ refuses t fs
        → EagerRecovery (f.node (typed_as t f.at) xs) (es ++ fs)

  pub data EagerCut : List Finding → Type 0 where
    operand_cut : {xs : List TypedTree} {es : List Finding}
        → Js.break xs es → EagerCut (es ++ f.at_limit (types_found xs))

  abbrev pub eager_rules : Judgment
  eager_rules = record { derives = EagerRule; recovers = EagerRecovery; cuts = EagerCut }

-- a form with one operand, at l
abbrev pub one_operand_rules : TypeEnv → Form → Option Loc → Judgment → Judgment
one_operand_rules env f l J =
    eager_rules f (one_more env f.goes_on (first_expectation f.expects) l J no_operands)

-- a form with two operands, at l and at l'
abbrev pub two_operand_rules : TypeEnv → Form → Option Loc → Option Loc → Judgment → Judgment
    → Judgment
two_operand_rules env f l l' J J' =
    eager_rules f
    (one_more env f.goes_on (first_expectation f.expects) l J
    (one_more env f.goes_on (first_expectation (later_expectations f.expects)) l' J' no_operands))

-- a form with any number of operands with expected types, from the rules of these, which are visited
-- or not after one that is too deep
abbrev pub operand_list_rules : Form → (Bool → List Expectation → Judgments) → Judgment
operand_list_rules f operands = eager_rules f (operands f.goes_on f.expects)
