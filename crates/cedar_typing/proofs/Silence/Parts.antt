-- Each failure has an error: parts and operands.
use Rattle.std.proofs.Common.{◌≡◌, Bool, true, false, true≢false, ◌&&◌, List, [], ◌∷◌, ◌++◌, Option, Some, None, refl, sym, ◌∙◌, subst}
use Rattle.cedar_types.specs.declared.base.location.Loc.{Loc}
use Rattle.cedar_types.specs.Types.{Ty, TNever}
use Rattle.cedar_types.specs.Types.Bounds.{is_never}
use Rattle.cedar_types.specs.Errors.{Finding}
use Rattle.cedar_typing.specs.Capabilities.{Caps}
use Rattle.cedar_typing.specs.Judgments.{derived, recovered, accepted, refused, missing, Judgment, PartResult, Operand}
use Rattle.cedar_typing.specs.PolicyCheck.Outcome.{is_silent}
use Rattle.cedar_typing.specs.TypeEnv.{TypeEnv}
use Rattle.cedar_typing.specs.TypedExpr.{TypedTree, annotation}
use Rattle.cedar_typing.proofs.Basics.{none_is}
use Rattle.cedar_typing.proofs.Agreement.Parts.{Marks}
use Rattle.cedar_typing.proofs.KeptTypes.Rules.{KeepsTypes}
use Rattle.cedar_typing.proofs.KeptTypes.Types.{KeptIn}

-- ---- lists of errors

-- the list has an error
abbrev pub IsLoud : List Finding → Type 0
IsLoud es = is_silent es ≡ false

pub loud_before : (es fs : List Finding) → IsLoud es → IsLoud (es ++ fs)
loud_before [] fs h = cc
loud_before (e ∷ es) fs h = refl

pub loud_after : (es fs : List Finding) → IsLoud fs → IsLoud (es ++ fs)
loud_after [] fs h = h
loud_after (e ∷ es) fs h = refl

-- two parts have an error if one of them failed
pub loud_of_two : (a b : Bool) (es fs : List Finding) → (a ≡ false → IsLoud es) → (b ≡ false → IsLoud fs)
    → (a && b) ≡ false → IsLoud (es ++ fs)
loud_of_two false b es fs f g h = loud_before es fs (f refl)
loud_of_two true b es fs f g h = loud_after es fs (g h)

-- two parts have an error if one of them failed, also if the right one's success comes first
pub loud_of_two_back : (a b : Bool) (es fs : List Finding) → (a ≡ false → IsLoud es) → (b ≡ false → IsLoud fs)
    → (b && a) ≡ false → IsLoud (es ++ fs)
loud_of_two_back a false es fs f g h = loud_after es fs (g refl)
loud_of_two_back a true es fs f g h = loud_before es fs (f h)

-- ---- parts

-- a type was found, and it is not Never
abbrev pub IsKnown : Option Ty → Type 0
IsKnown None = ⊥
IsKnown (Some t) = is_never t ≡ false

-- no derived type is Never
pub record Knows (J : Judgment) : Type 0 where
  pub derivations : (t : Ty) (c : Caps) (x : TypedTree) → J.derives t c x → is_never t ≡ false
  pub marks : Marks J.derives

kept_not_never : (strictly : Bool) (t : Ty) → KeptIn strictly t → is_never t ≡ false
kept_not_never true TNever h = sym h.0
kept_not_never false TNever h = sym h.0
kept_not_never strictly t h = refl

pub knows_of : (strictly : Bool) (J : Judgment) → KeepsTypes (KeptIn strictly) J → Knows J
knows_of strictly J s = record { derivations = λ t c x h. kept_not_never strictly t (s.derivations t c x h); marks = s.marks }

-- each failure has an error, and no derived type is Never
pub record Loud (J : Judgment) : Type 0 where
  pub failures : (x : TypedTree) (es : List Finding) → J.recovers x es → IsLoud es
  pub single : Knows J

module _ (J : Judgment) (loud : Loud J) where
  pub part_loud : (b : Bool) (c : Caps) (x : TypedTree) (es : List Finding) → PartResult J b c x es → b ≡ false → IsLoud es
  part_loud b c x es (derived d) h = absurd (true≢false h)
  part_loud b c x es (recovered r) h = loud.failures x es r

  pub part_known : (b : Bool) (c : Caps) (x : TypedTree) (es : List Finding) → PartResult J b c x es → b ≡ true → IsKnown (annotation x)
  part_known b c x es (derived {t = t} d) h = subst IsKnown (sym (loud.single.marks t c x d)) (loud.single.derivations t c x d)
  part_known b c x es (recovered r) h = absurd (true≢false (sym h))

  -- a part without a type failed
  missing_loud : (b : Bool) (c : Caps) (x : TypedTree) (es : List Finding) → PartResult J b c x es → annotation x ≡ None → IsLoud es
  missing_loud b c x es (derived {t = t} d) n = absurd (none_is (sym n ∙ loud.single.marks t c x d))
  missing_loud b c x es (recovered r) n = loud.failures x es r

  module _ (env : TypeEnv) (ts : List Ty) (l : Option Loc) where
    pub operand_loud : (b : Bool) (c : Caps) (x : TypedTree) (es : List Finding) → Operand env ts l J b c x es → b ≡ false → IsLoud es
    operand_loud b c x es (accepted t p n a) h = part_loud b c x es p h
    operand_loud b c x es (refused {es = fs} t p n a) h = loud_after fs _ refl
    operand_loud b c x es (missing {succeeded = s} {c = k} p n) h = missing_loud s k x es p n

    pub operand_known : (b : Bool) (c : Caps) (x : TypedTree) (es : List Finding) → Operand env ts l J b c x es
        → b ≡ true → IsKnown (annotation x)
    operand_known b c x es (accepted t p n a) h = part_known b c x es p h
    operand_known b c x es (refused t p n a) h = absurd (true≢false (sym h))
    operand_known b c x es (missing p n) h = absurd (true≢false (sym h))
