-- What is shown of an expression by induction: that the values of the nodes of its typed copies that
-- evaluation reaches are of their types. And what is known of the root of each copy before that.
use Rattle.std.proofs.Common.{ℕ, Bool, List, Option, Some, None, sym, subst}
use Rattle.cedar_types.specs.declared.base.location.Loc.{Loc}
use Rattle.cedar_types.specs.Errors.{Finding}
use Rattle.cedar_types.specs.Types.{Ty}
use Rattle.cedar_typing.specs.Capabilities.{Caps, no_caps}
use Rattle.cedar_typing.specs.Eager.{Expectation}
use Rattle.cedar_typing.specs.Evaluation.Eval.{eval}
use Rattle.cedar_typing.specs.Evaluation.World.{World}
use Rattle.cedar_typing.specs.Judgments.{Judgment, PartResult, derived, recovered, Operand, accepted, refused, missing, visited}
use Rattle.cedar_typing.specs.Rules.Eager.{ExpectedOperand}
use Rattle.cedar_typing.specs.Soundness.{HasFound, IsTrueOutcome}
use Rattle.cedar_typing.specs.TypeEnv.{TypeEnv}
use Rattle.cedar_typing.specs.TypedExpr.{TypedTree, without_type}
use Rattle.cedar_node_types.proofs.NodeTypes.Reached.{RootFits, Fit, marked_fits}
use Rattle.cedar_typing.proofs.Views.Marks.{annotation-without_type}

module _ (Known : Caps → Type 0) (world : World) where
  -- the value of the root is of its type, and if it is true, the capabilities are known
  pub record Root (x : TypedTree) (c : Caps) : Type 0 where
    pub fits : RootFits world x
    pub known_if_true : IsTrueOutcome (eval world x) → Known c

  pub record Roots (J : Judgment) : Type 0 where
    pub derivations : (t : Ty) (c : Caps) (x : TypedTree) → J.derives t c x → Root x c
    pub recoveries : (x : TypedTree) (es : List Finding) → J.recovers x es → RootFits world x

  -- an operand that lost its type
  without_fits : (x : TypedTree) → RootFits world (without_type x)
  without_fits x =
      let P : Option Ty → Type 0 = λ a. HasFound a (eval world (without_type x)) in
      subst P (sym (annotation-without_type x)) tt

  module _ (nothing : Known no_caps) (J : Judgment) (roots : Roots J) where
    part_root : (succeeded : Bool) (c : Caps) (x : TypedTree) (es : List Finding) → PartResult J succeeded c x es → Root x c
    part_root succeeded c x es (derived {t = t} d) = roots.derivations t c x d
    part_root succeeded c x es (recovered r) = record { fits = roots.recoveries x es r; known_if_true = λ h. nothing }

    pub operand_root : (env : TypeEnv) (ts : List Ty) (l : Option Loc) (succeeded : Bool) (c : Caps) (x : TypedTree)
        (es : List Finding) → Operand env ts l J succeeded c x es → Root x c
    operand_root env ts l succeeded c x es (accepted t p n h) = part_root succeeded c x es p
    operand_root env ts l succeeded c x es (refused {e = e} t p n h) = record { fits = without_fits e; known_if_true = λ h. nothing }
    operand_root env ts l succeeded c x es (missing {succeeded = g} {c = k} p n) =
        record { fits = (part_root g k x es p).fits; known_if_true = λ h. nothing }

module _ (world : World) where
  pub record Fits (J : Judgment) : Type 0 where
    pub derivations : (t : Ty) (c : Caps) (x : TypedTree) → J.derives t c x → Fit world x
    pub recoveries : (x : TypedTree) (es : List Finding) → J.recovers x es → Fit world x

  pub within_fits : (d : ℕ) (J : Judgment) → Fits J → Fits (visited d J)
  within_fits d J i = record {
    derivations = λ t c x h. i.derivations t c x h.1;
    recoveries = λ x es h. i.recoveries x es h.1;
  }

  module _ (J : Judgment) (i : Fits J) where
    pub part_fits : (succeeded : Bool) (c : Caps) (x : TypedTree) (es : List Finding) → PartResult J succeeded c x es → Fit world x
    part_fits succeeded c x es (derived {t = t} d) = i.derivations t c x d
    part_fits succeeded c x es (recovered r) = i.recoveries x es r

    module _ (env : TypeEnv) where
      pub operand_fits : (ts : List Ty) (l : Option Loc) (succeeded : Bool) (c : Caps) (x : TypedTree) (es : List Finding)
          → Operand env ts l J succeeded c x es → Fit world x
      operand_fits ts l succeeded c x es (accepted t p n h) = part_fits succeeded c x es p
      operand_fits ts l succeeded c x es (refused {succeeded = g} {c = k} {e = e} {es = fs} t p n h) =
          marked_fits world _ e tt (part_fits g k e fs p)
      operand_fits ts l succeeded c x es (missing {succeeded = g} {c = k} p n) = part_fits g k x es p

      pub expected_fits : (q : Expectation) (l : Option Loc) (succeeded : Bool) (c : Caps) (x : TypedTree) (es : List Finding)
          → ExpectedOperand env q l J succeeded c x es → Fit world x
      expected_fits None l succeeded c x es p = part_fits succeeded c x es p
      expected_fits (Some ts) l succeeded c x es p = operand_fits ts l succeeded c x es p
