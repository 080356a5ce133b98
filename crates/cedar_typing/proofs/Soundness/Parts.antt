-- Promises of typing on evaluation: parts and operands.
use Rattle.std.proofs.Common.{◌≡◌, Bool, true, false, List, Option, Some, None, sym, subst}
use Rattle.std.specs.Prelude.{IsTrue}
use Rattle.cedar_types.specs.declared.base.location.Loc.{Loc}
use Rattle.cedar_types.specs.declared.base.types.BoolType.TheVariants.{AnyBool, True, False}
use Rattle.cedar_types.specs.Types.{Ty, TNever, TBool, TLong, TString, TSet, TAnySet, TRecord, TEntity, TAnyEntity, TExtension}
use Rattle.cedar_types.specs.Errors.{Finding}
use Rattle.cedar_typing.specs.Capabilities.{Caps, no_caps}
use Rattle.cedar_typing.specs.Evaluation.Conformance.{AllHold}
use Rattle.cedar_typing.specs.Evaluation.World.{World, Outcome}
use Rattle.cedar_typing.specs.Judgments.{derived, recovered, accepted, refused, missing, Judgment, PartResult, Operand}
use Rattle.cedar_typing.specs.Soundness.{HasFound, IsSafe, IsTrueOutcome}
use Rattle.cedar_typing.specs.TypeEnv.{TypeEnv}
use Rattle.cedar_typing.specs.TypeTests.{accepts}
use Rattle.cedar_typing.specs.TypedExpr.{TypedTree, annotation}
use Rattle.cedar_typing.proofs.Agreement.Parts.{Marks}
use Rattle.cedar_typing.proofs.Views.Marks.{annotation-without_type}

-- the type is True, or has no value
abbrev pub IsSureType : Ty → Type 0
IsSureType TNever = Unit {0}
IsSureType (TBool True) = Unit {0}
IsSureType (TBool False) = ⊥
IsSureType (TBool AnyBool) = ⊥
IsSureType TLong = ⊥
IsSureType TString = ⊥
IsSureType (TSet t) = ⊥
IsSureType TAnySet = ⊥
IsSureType (TRecord xs o) = ⊥
IsSureType (TEntity ps) = ⊥
IsSureType TAnyEntity = ⊥
IsSureType (TExtension n) = ⊥

abbrev pub IsSure : Option Ty → Type 0
IsSure None = ⊥
IsSure (Some t) = IsSureType t

-- the promise on an outcome, by the success of typing, the type found and the capabilities
pub record Sound (world : World) (o : Outcome) (succeeded : Bool) (found : Option Ty) (c : Caps) : Type 0 where
  pub typed : HasFound found o
  pub safe : IsTrue succeeded → IsSafe o
  pub caps_hold_if_true : IsTrueOutcome o → AllHold world c
  pub caps_hold_at_true : IsSure found → AllHold world c

-- the promise on all derivations and on all recoveries
pub record Sounds (world : World) (o : Outcome) (J : Judgment) : Type 0 where
  pub derivations : (t : Ty) (c : Caps) (x : TypedTree) → J.derives t c x → Sound world o true (Some t) c
  pub recoveries : (x : TypedTree) (es : List Finding) → J.recovers x es → Sound world o false (annotation x) no_caps
  pub marks : Marks J.derives

module _ (world : World) where
  -- typing promises nothing of a failed expression without a type
  pub nothing_sound : (o : Outcome) → Sound world o false None no_caps
  nothing_sound o = record { typed = tt; safe = λ h. cc; caps_hold_if_true = λ h q n. cc; caps_hold_at_true = λ h. absurd h }

  -- the promise on a failure: its value, if there is one, has the type that was found
  pub refused_sound : (o : Outcome) (t : Option Ty) → HasFound t o → Sound world o false t no_caps
  refused_sound o t h = record { typed = h; safe = λ n. cc; caps_hold_if_true = λ n q m. cc; caps_hold_at_true = λ n q m. cc }

  module _ (o : Outcome) (J : Judgment) (sounds : Sounds world o J) where
    pub part_sound : (succeeded : Bool) (c : Caps) (x : TypedTree) (es : List Finding)
        → PartResult J succeeded c x es → Sound world o succeeded (annotation x) c
    part_sound succeeded c x es (derived {t = t} h) =
        let P : Option Ty → Type 0 = λ a. Sound world o true a c in
        subst P (sym (sounds.marks t c x h)) (sounds.derivations t c x h)
    part_sound succeeded c x es (recovered h) = sounds.recoveries x es h

    pub operand_sound : (env : TypeEnv) (ts : List Ty) (l : Option Loc) (succeeded : Bool) (c : Caps)
        (x : TypedTree) (es : List Finding) → Operand env ts l J succeeded c x es
        → Sound world o succeeded (annotation x) c
    operand_sound env ts l succeeded c x es (accepted t p n h) = part_sound succeeded c x es p
    operand_sound env ts l succeeded c x es (refused {e = e} t p n h) =
        let P : Option Ty → Type 0 = λ a. Sound world o false a no_caps in
        subst P (sym (annotation-without_type e)) (nothing_sound o)
    operand_sound env ts l succeeded c x es (missing {succeeded = g} {c = k} p n) =
        let P : Option Ty → Type 0 = λ a. Sound world o false a no_caps in
        subst P (sym n) (nothing_sound o)

-- the type of an operand, if one was found, is accepted
abbrev pub IsAccepted : List Ty → Option Ty → Type 0
IsAccepted ts None = Unit {0}
IsAccepted ts (Some t) = accepts ts t ≡ true

module _ (J : Judgment) where
  pub operand_accepted : (env : TypeEnv) (ts : List Ty) (l : Option Loc) (succeeded : Bool) (c : Caps)
      (x : TypedTree) (es : List Finding) → Operand env ts l J succeeded c x es → IsAccepted ts (annotation x)
  operand_accepted env ts l succeeded c x es (accepted t p n h) = subst (IsAccepted ts) (sym n) h
  operand_accepted env ts l succeeded c x es (refused {e = e} t p n h) = subst (IsAccepted ts) (sym (annotation-without_type e)) tt
  operand_accepted env ts l succeeded c x es (missing p n) = subst (IsAccepted ts) (sym n) tt
