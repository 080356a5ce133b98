-- Each failure has an error: `&&`, `||` and `if`.
use Rattle.std.proofs.Common.{◌≡◌, Bool, true, false, ◌&&◌, List, ◌++◌, Option, Some, None, is_some, refl}
use Rattle.cedar_types.specs.declared.base.location.Loc.{Loc}
use Rattle.cedar_types.specs.declared.base.errors.type_errors.LubContext.{LubContext}
use Rattle.cedar_types.specs.declared.base.errors.type_errors.LubContext.TheVariants.{Conditional}
use Rattle.cedar_types.specs.Types.{Ty}
use Rattle.cedar_types.specs.Expressions.View.{Written}
use Rattle.cedar_types.specs.Types.Bounds.{lub}
use Rattle.cedar_types.specs.Errors.{Finding}
use Rattle.cedar_typing.specs.Capabilities.{Caps, union}
use Rattle.cedar_typing.specs.TypeTests.Joins.{joined, bound_errors, join_errors}
use Rattle.cedar_typing.specs.Judgments.{Judgment}
use Rattle.cedar_typing.specs.Rules.Conditional.{if_true_recovered, if_false_recovered, if_open_recovered, if_rules}
use Rattle.cedar_typing.specs.Rules.ShortCircuit.{Connective, short_circuit_rules, left_ends_failed, side_failed}
use Rattle.cedar_typing.specs.TypeEnv.{TypeEnv}
use Rattle.cedar_typing.specs.TypeTests.{bool_types}
use Rattle.cedar_typing.specs.TypedExpr.{TypedTree, annotation}
use Rattle.cedar_typing.proofs.Silence.Parts.{IsLoud, loud_before, loud_after, loud_of_two, IsKnown, Knows, Loud, part_loud, part_known}
use Rattle.cedar_typing.proofs.Silence.Parts.{operand_loud}

-- ---- types without a bound

module _ (env : TypeEnv) (l : Option Loc) (x : LubContext) where
  bound_loud : (t u : Ty) (v : Option Ty) → is_some v ≡ false → IsLoud (bound_errors env l x t u v)
  bound_loud t u (Some v) h = cc
  bound_loud t u None h = refl

  join_loud : (t u : Option Ty) → IsKnown t → IsKnown u → is_some (joined env.mode t u) ≡ false → IsLoud (join_errors env l x t u)
  join_loud None u h k n = absurd h
  join_loud (Some t) None h k n = absurd k
  join_loud (Some t) (Some u) h k n = bound_loud t u (lub env.mode t u) n

-- three parts and a bound have an error if one of them failed
loud_of_all : (a b c j : Bool) (es fs gs hs : List Finding) → (a ≡ false → IsLoud es) → (b ≡ false → IsLoud fs) → (c ≡ false → IsLoud gs)
    → (b ≡ true → c ≡ true → j ≡ false → IsLoud hs) → (a && b && c && j) ≡ false → IsLoud (es ++ fs ++ gs ++ hs)
loud_of_all false b c j es fs gs hs f g h k e = loud_before (es ++ fs ++ gs) hs (loud_before (es ++ fs) gs (loud_before es fs (f refl)))
loud_of_all true false c j es fs gs hs f g h k e = loud_before (es ++ fs ++ gs) hs (loud_before (es ++ fs) gs (loud_after es fs (g refl)))
loud_of_all true true false j es fs gs hs f g h k e = loud_before (es ++ fs ++ gs) hs (loud_after (es ++ fs) gs (h refl))
loud_of_all true true true j es fs gs hs f g h k e = loud_after (es ++ fs ++ gs) hs (k refl refl e)

-- ---- the rules

module _ (env : TypeEnv) (m : Written) (l : Option Loc) (A : Judgment) (B : Caps → Judgment) (prior : Caps)
    (a : Loud A) (b : (p : Caps) → Loud (B p)) where
  module _ (f : Connective) (l' : Option Loc) where
    abbrev Sides : Judgment
    Sides = short_circuit_rules env f m l l' A B prior

    sides_failures : (x : TypedTree) (es : List Finding) → Sides.recovers x es → IsLoud es
    sides_failures x es (left_ends_failed p n) = operand_loud A a env bool_types l _ _ _ _ p refl
    sides_failures x es (side_failed {succeeded = s} {succeeded' = s'} {c = c} {es = before} {es' = after} p n q h) =
        loud_of_two s s' before after (operand_loud A a env bool_types l _ _ _ _ p)
        (operand_loud _ (b (f.right_prior prior c)) env bool_types l' _ _ _ _ q) h

    pub short_circuit_loud : Knows Sides → Loud Sides
    short_circuit_loud s = record { failures = sides_failures; single = s }

  module _ (E : Judgment) (e : Loud E) where
    abbrev Choice : Judgment
    Choice = if_rules env m l A B E prior

    if_failures : (x : TypedTree) (es : List Finding) → Choice.recovers x es → IsLoud es
    if_failures x es (if_true_recovered {succeeded = s} {succeeded' = s'} {c = c} {es = before} {es' = after} p n q h) =
        loud_of_two s s' before after (operand_loud A a env bool_types l _ _ _ _ p) (part_loud _ (b (union prior c)) _ _ _ _ q) h
    if_failures x es (if_false_recovered {succeeded = s} {succeeded' = s'} {es = before} {es' = after} p n q h) =
        loud_of_two s s' before after (operand_loud A a env bool_types l _ _ _ _ p) (part_loud E e _ _ _ _ q) h
    if_failures x es
        (if_open_recovered {succeeded = s} {succeeded' = s'} {succeeded'' = s''} {c = c} {b = y} {e = z} {es = fs} {es' = gs} {es'' = hs}
        p n n' q q' h) =
        loud_of_all s s' s'' (is_some (joined env.mode (annotation y) (annotation z))) fs gs hs _
        (operand_loud A a env bool_types l _ _ _ _ p) (part_loud _ (b (union prior c)) _ _ _ _ q) (part_loud E e _ _ _ _ q')
        (λ i j. join_loud env m.place Conditional (annotation y) (annotation z)
        (part_known _ (b (union prior c)) _ _ _ _ q i) (part_known E e _ _ _ _ q' j)) h

    pub if_loud : Knows Choice → Loud Choice
    if_loud s = record { failures = if_failures; single = s }
