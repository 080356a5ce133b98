-- The three answers of typing an expression, and the results of following up on them.
use Rattle.std.specs.Prelude.{◌≡◌, Bool, true, false, cond, Option, Some, None, is_some, option_map, Result, Ok, Err, List, [], ◌∷◌}
use Rattle.std.specs.Prelude.{MatchOption, ⊤, Box}
use Rattle.std.specs.Iterator.{YieldsThen}
use Rattle.std.specs.declared.vec.Vec.{Vec}
use Rattle.std.specs.declared.alloc.Global.{Global}
use Rattle.std.specs.declared.alloc.AllocError.{AllocError}
use Rattle.cedar_types.specs.Types.{Ty, ty_of}
use Rattle.cedar_types.specs.Capability.{caps, HasNone}
use Rattle.cedar_types.specs.declared.base.expressions.Expr.{Expr}
use Rattle.cedar_types.specs.declared.base.types.CedarType.{CedarType}
use Rattle.cedar_types.specs.declared.types.capability.CapabilitySet.{CapabilitySet}
use Rattle.cedar_typing.specs.declared.typecheck.answer.TypecheckAnswer.{TypecheckAnswer}
use Rattle.cedar_typing.specs.declared.typecheck.answer.TypecheckAnswer.TheVariants.{TypecheckSuccess, TypecheckFail, RecursionLimit}

-- a typed expression, whose nodes have the types that were found
abbrev pub TypedExpr : Type 0
TypedExpr = Box (Expr (Option CedarType)) Global

-- an answer, or an error because memory was refused
abbrev pub Answered : Type 0
Answered = Result TypecheckAnswer AllocError

-- the type at the root of a typed expression, if one was found
abbrev pub type_at : TypedExpr → Option Ty
type_at e = option_map ty_of e.value.annotation

-- an answer that is a success with this expression and no capabilities
abbrev pub SucceedsWithNone : TypedExpr → TypecheckAnswer → Type 0
SucceedsWithNone e (TypecheckSuccess f c) = (f ≡ e) × HasNone (caps c)
SucceedsWithNone e (TypecheckFail f) = ⊥
SucceedsWithNone e RecursionLimit = ⊥

abbrev pub is_success : TypecheckAnswer → Bool
is_success (TypecheckSuccess e c) = true
is_success (TypecheckFail e) = false
is_success RecursionLimit = false

-- the typed expression of an answer. The limit has none
abbrev pub typed_expr_of : TypecheckAnswer → Option TypedExpr
typed_expr_of (TypecheckSuccess e c) = Some e
typed_expr_of (TypecheckFail e) = Some e
typed_expr_of RecursionLimit = None

-- the type at the root of an answer's typed expression
abbrev pub type_of_answer : TypecheckAnswer → Option Ty
type_of_answer (TypecheckSuccess e c) = type_at e
type_of_answer (TypecheckFail e) = type_at e
type_of_answer RecursionLimit = None

-- the answer as a failure: a success keeps its expression, and the other answers stay
abbrev pub failed : TypecheckAnswer → TypecheckAnswer
failed (TypecheckSuccess e c) = TypecheckFail e
failed (TypecheckFail e) = TypecheckFail e
failed RecursionLimit = RecursionLimit

-- the answer as it is, or made a failure
abbrev pub failed_unless : Bool → TypecheckAnswer → TypecheckAnswer
failed_unless succeeded a = cond succeeded a (failed a)

-- the answer, adjusted by f; an error stays
abbrev pub ok_map : {T U : Type 0} → (T → U) → Result T AllocError → Result U AllocError
ok_map f (Ok x) = Ok (f x)
ok_map f (Err e) = Err e

-- ---- one answer is followed up

-- P holds of the capabilities of a success; it asks nothing of other answers
abbrev pub OnSuccess : TypecheckAnswer → (CapabilitySet → Type 0) → Type 0
OnSuccess (TypecheckSuccess e c) P = P c
OnSuccess (TypecheckFail e) P = ⊤
OnSuccess RecursionLimit P = ⊤

-- the closure was called on the capabilities of a success, and on nothing else. `gives` relates its input to its result
abbrev pub MapsCapability : TypecheckAnswer
    → (CapabilitySet → Result CapabilitySet AllocError → Type 0) → Answered → Type 0
MapsCapability (TypecheckSuccess e c) gives r =
    (s : Result CapabilitySet AllocError) × gives c s × (r ≡ ok_map (TypecheckSuccess e) s)
MapsCapability (TypecheckFail e) gives r = r ≡ Ok (TypecheckFail e)
MapsCapability RecursionLimit gives r = r ≡ Ok RecursionLimit

-- P holds of the parts that an answer hands on: of a success its expression and its capabilities, of a failure its
-- expression and any empty set of capabilities
abbrev pub OnHanded : TypecheckAnswer → (TypedExpr → CapabilitySet → Type 0) → Type 0
OnHanded (TypecheckSuccess e c) P = P e c
OnHanded (TypecheckFail e) P = (c : CapabilitySet) → HasNone (caps c) → P e c
OnHanded RecursionLimit P = ⊤

-- the closure was called with a failure's expression and an empty set of capabilities, and its answer is made a failure
pub record FollowsFailure (e : TypedExpr) (gives : TypedExpr → CapabilitySet → Answered → Type 0)
    (r : Answered) : Type 0 where
  pub set : CapabilitySet
  pub is_empty : HasNone (caps set)
  pub answered : Answered
  pub called : gives e set answered
  pub adjusts : r ≡ ok_map failed answered

-- the closure was called with the parts that the answer hands on, and after a failure its answer is made a failure. The
-- limit stays, without a call
abbrev pub ThenTypechecks : TypecheckAnswer → (TypedExpr → CapabilitySet → Answered → Type 0)
    → Answered → Type 0
ThenTypechecks (TypecheckSuccess e c) gives r = gives e c r
ThenTypechecks (TypecheckFail e) gives r = FollowsFailure e gives r
ThenTypechecks RecursionLimit gives r = r ≡ Ok RecursionLimit

-- ---- many answers are followed up

-- each item is a success or a failure
abbrev pub AllHandOn : List Answered → Type 0
AllHandOn [] = ⊤
AllHandOn (Ok (TypecheckSuccess e c) ∷ xs) = AllHandOn xs
AllHandOn (Ok (TypecheckFail e) ∷ xs) = AllHandOn xs
AllHandOn (Ok RecursionLimit ∷ xs) = ⊥
AllHandOn (Err e ∷ xs) = ⊥

-- the parts that the items hand on, in order: for a success its expression and its capabilities, for a failure its
-- expression and an empty set
abbrev pub AreHanded : List Answered → List (TypedExpr × CapabilitySet) → Type 0
AreHanded [] [] = ⊤
AreHanded (Ok (TypecheckSuccess e c) ∷ xs) (h ∷ hs) = (h ≡ (e, c)) × AreHanded xs hs
AreHanded (Ok (TypecheckFail e) ∷ xs) (h ∷ hs) = ((h.0 ≡ e) × HasNone (caps h.1)) × AreHanded xs hs
AreHanded _ _ = ⊥

-- whether no item is a failure
abbrev pub none_failed : List Answered → Bool
none_failed [] = true
none_failed (Ok (TypecheckFail e) ∷ xs) = false
none_failed (_ ∷ xs) = none_failed xs

-- the items that are taken from s: those up to its end, or up to the first limit, which hands nothing on
pub record Taken {S : Type 0} (steps : S → Option Answered → S → Type 0) (s : S) : Type 0 where
  pub before : List Answered
  pub last : Option Answered
  pub rest : S
  pub yields : YieldsThen steps s before last rest
  pub hand_on : AllHandOn before
  pub ends : MatchOption last ⊤ (λ x. x ≡ Ok RecursionLimit)

-- P holds of all parts that items from s can hand on, so the closure may be called with them
abbrev pub OnAllHanded : {S : Type 0} → (S → Option Answered → S → Type 0) → S
    → (Vec (TypedExpr × CapabilitySet) Global → Type 0) → Type 0
OnAllHanded steps s P =
    (taken : Taken steps s) → (v : Vec (TypedExpr × CapabilitySet) Global)
    → AreHanded taken.before v.items → P v

-- the answer after all items: the limit if one was a limit, else the closure's, made a failure if an item was one
abbrev pub answer_where : Bool → Bool → TypecheckAnswer → TypecheckAnswer
answer_where is_limit succeeded a = cond is_limit RecursionLimit (failed_unless succeeded a)

-- the closure was called once, with the parts that the taken items hand on, and a is its answer, adjusted
pub record SequencesAll {S : Type 0} (steps : S → Option Answered → S → Type 0) (s : S)
    (gives : Vec (TypedExpr × CapabilitySet) Global → Answered → Type 0)
    (a : TypecheckAnswer) : Type 0 where
  pub taken : Taken steps s
  pub handed : Vec (TypedExpr × CapabilitySet) Global
  pub in_order : AreHanded taken.before handed.items
  pub answer : TypecheckAnswer
  pub called : gives handed (Ok answer)
  pub adjusts : a ≡ answer_where (is_some taken.last) (none_failed taken.before) answer
