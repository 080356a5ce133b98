-- `if`, `&&` and `||`: a part that evaluation reaches is typed with capabilities that are known.
use Rattle.std.proofs.Common.{◌≡◌, true, false, true≢false, List, Option, Some, refl, sym, subst}
use Rattle.cedar_types.specs.declared.base.location.Loc.{Loc}
use Rattle.cedar_types.specs.declared.base.types.BoolType.TheVariants.{True, False}
use Rattle.cedar_types.specs.Errors.{Finding}
use Rattle.cedar_types.specs.Expressions.View.{Written}
use Rattle.cedar_types.specs.Types.{Ty, TBool}
use Rattle.cedar_types.specs.Values.{VBool}
use Rattle.cedar_typing.specs.Capabilities.{Caps, no_caps, union}
use Rattle.cedar_typing.specs.Evaluation.Eval.{eval}
use Rattle.cedar_node_types.specs.Reached.{IsTrueIn}
use Rattle.cedar_typing.specs.Evaluation.World.{World, Outcome, Gives}
use Rattle.cedar_typing.specs.Judgments.{Judgment}
use Rattle.cedar_typing.specs.Rules.Conditional.{if_true_recovered, if_false_recovered, if_open_recovered, if_true, if_false, if_open}
use Rattle.cedar_typing.specs.Rules.Conditional.{if_rules}
use Rattle.cedar_typing.specs.Rules.ShortCircuit.{conjunction, disjunction, short_circuit_rules, left_ends, both_sides, left_ends_failed}
use Rattle.cedar_typing.specs.Rules.ShortCircuit.{side_failed}
use Rattle.cedar_typing.specs.Soundness.{HasFound, IsTrueOutcome}
use Rattle.cedar_typing.specs.TypeEnv.{TypeEnv}
use Rattle.cedar_typing.specs.TypeTests.{bool_types}
use Rattle.cedar_typing.specs.TypedExpr.{TypedTree, annotation}
use Rattle.cedar_typing.proofs.Agreement.Parts.{Marks}
use Rattle.cedar_node_types.proofs.NodeTypes.Parts.{Root, Roots, operand_root, Fits, part_fits, operand_fits}
use Rattle.cedar_node_types.proofs.NodeTypes.Reached.{Fit, marked_fits, if_fits, and_fits, or_fits}
use Rattle.cedar_node_types.proofs.NodeTypes.Unbound.{true_found, false_found}

-- what is true, is true as an outcome
says_true : (o : Outcome) → o ≡ Gives (VBool true) → IsTrueOutcome o
says_true o e = subst IsTrueOutcome (sym e) refl

-- what is of the type True is not false, and what is of the type False is not true
not_false : (a : Option Ty) (o : Outcome) → a ≡ Some (TBool True) → HasFound a o → o ≡ Gives (VBool false) → ⊥
not_false a o q h e =
    let k = subst (λ z. HasFound z o) q h in true≢false (sym (subst (HasFound (Some (TBool True))) e k))

not_true : (a : Option Ty) (o : Outcome) → a ≡ Some (TBool False) → HasFound a o → o ≡ Gives (VBool true) → ⊥
not_true a o q h e =
    let k = subst (λ z. HasFound z o) q h in true≢false (sym (subst (HasFound (Some (TBool False))) e k))

module _ (Known : Caps → Type 0) (nothing : Known no_caps) (gather : (c c' : Caps) → Known c → Known c' → Known (union c c'))
    (world : World) (env : TypeEnv) (m : Written) (l l' : Option Loc) (A : Judgment) (B : Caps → Judgment) (prior : Caps)
    (held : Known prior) (marks : Marks A.derives) (roots : Roots Known world A) (first : Fits world A)
    (branch : (c : Caps) → Known c → Fits world (B c)) where
  -- what is known after a part that is true
  after : (c : Caps) (a : TypedTree) → Root Known world a c → IsTrueIn world a → Known (union prior c)
  after c a r e = gather prior c held (r.known_if_true (says_true (eval world a) e))

  -- ---- `if`

  module _ (E : Judgment) (otherwise : Fits world E) (whole : Roots Known world (if_rules env m l A B E prior)) where
    if_derived : (t : Ty) (c : Caps) (x : TypedTree) → (if_rules env m l A B E prior).derives t c x → Fit world x
    if_derived t c x (if_true {c = k} {c' = k'} {a = a} {b = b} d d') =
        let r = roots.derivations (TBool True) k a d in
        if_fits world _ a b b (whole.derivations _ _ _ (if_true d d')).fits (first.derivations _ k a d)
        (λ e. (branch (union prior k) (after k a r e)).derivations t k' b d')
        (λ e. absurd (not_false (annotation a) (eval world a) (marks _ k a d) r.fits e))
    if_derived t c x (if_false {c = k} {c' = k'} {a = a} {e = b} d d') =
        let r = roots.derivations (TBool False) k a d in
        if_fits world _ a b b (whole.derivations _ _ _ (if_false d d')).fits (first.derivations _ k a d)
        (λ e. absurd (not_true (annotation a) (eval world a) (marks _ k a d) r.fits e))
        (λ e. otherwise.derivations t k' b d')
    if_derived t c x
        (if_open {s = u} {t = v} {u = v'} {c = k} {c' = k'} {c'' = k''} {a = a} {b = b} {e = z} d i j j' d' d'' g) =
        if_fits world _ a b z (whole.derivations _ _ _ (if_open d i j j' d' d'' g)).fits (first.derivations u k a d)
        (λ e. (branch (union prior k) (after k a (roots.derivations u k a d) e)).derivations v k' b d')
        (λ e. otherwise.derivations v' k'' z d'')

    if_recovery : (x : TypedTree) (es : List Finding) → (if_rules env m l A B E prior).recovers x es → Fit world x
    if_recovery x es
        (if_true_recovered {succeeded = g} {succeeded' = g'} {c = k} {c' = k'} {a = a} {b = b} {es = fs} {es' = fs'} o n p h) =
        let r = operand_root Known world nothing A roots env bool_types l g k a fs o in
        if_fits world _ a b b (whole.recoveries _ _ (if_true_recovered o n p h))
        (operand_fits world A first env bool_types l g k a fs o)
        (λ e. part_fits world (B (union prior k)) (branch (union prior k) (after k a r e)) g' k' b fs' p)
        (λ e. absurd (not_false (annotation a) (eval world a) (true_found (annotation a) n) r.fits e))
    if_recovery x es
        (if_false_recovered {succeeded = g} {succeeded' = g'} {c = k} {c' = k'} {a = a} {e = b} {es = fs} {es' = fs'} o n p h) =
        let r = operand_root Known world nothing A roots env bool_types l g k a fs o in
        if_fits world _ a b b (whole.recoveries _ _ (if_false_recovered o n p h))
        (operand_fits world A first env bool_types l g k a fs o)
        (λ e. absurd (not_true (annotation a) (eval world a) (false_found (annotation a) n) r.fits e))
        (λ e. part_fits world E otherwise g' k' b fs' p)
    if_recovery x es
        (if_open_recovered {succeeded = g} {succeeded' = g'} {succeeded'' = g''} {c = k} {c' = k'} {c'' = k''} {a = a} {b = b} {e = z} {es = fs} {es' = fs'} {es'' = fs''}
        o n n' p q h) =
        let r = operand_root Known world nothing A roots env bool_types l g k a fs o in
        if_fits world _ a b z (whole.recoveries _ _ (if_open_recovered o n n' p q h))
        (operand_fits world A first env bool_types l g k a fs o)
        (λ e. part_fits world (B (union prior k)) (branch (union prior k) (after k a r e)) g' k' b fs' p)
        (λ e. part_fits world E otherwise g'' k'' z fs'' q)

    pub if_all_fit : Fits world (if_rules env m l A B E prior)
    if_all_fit = record { derivations = if_derived; recoveries = if_recovery }

  -- ---- `&&`

  abbrev And : Judgment
  And = short_circuit_rules env conjunction m l l' A B prior

  module _ (whole : Roots Known world And) where
    and_derived : (t : Ty) (c : Caps) (x : TypedTree) → And.derives t c x → Fit world x
    and_derived t c x (left_ends {s = u} {c = k} {a = a} d g h) =
        marked_fits world _ a (roots.derivations u k a d).fits (first.derivations u k a d)
    and_derived t c x (both_sides {s = u} {t = v} {c = k} {c' = k'} {a = a} {b = b} d g h d' g') =
        and_fits world _ a b (whole.derivations _ _ _ (both_sides d g h d' g')).fits (first.derivations u k a d)
        (λ e. (branch (union prior k) (after k a (roots.derivations u k a d) e)).derivations v k' b d')

    and_recovery : (x : TypedTree) (es : List Finding) → And.recovers x es → Fit world x
    and_recovery x es (left_ends_failed {c = k} {a = a} o n) =
        marked_fits world _ a (operand_root Known world nothing A roots env bool_types l false k a es o).fits
        (operand_fits world A first env bool_types l false k a es o)
    and_recovery x es
        (side_failed {succeeded = g} {succeeded' = g'} {c = k} {c' = k'} {a = a} {b = b} {es = fs} {es' = fs'} o n p h) =
        let r = operand_root Known world nothing A roots env bool_types l g k a fs o in
        and_fits world _ a b (whole.recoveries _ _ (side_failed o n p h)) (operand_fits world A first env bool_types l g k a fs o)
        (λ e. operand_fits world (B (union prior k)) (branch (union prior k) (after k a r e)) env bool_types l' g' k' b fs' p)

    pub and_all_fit : Fits world And
    and_all_fit = record { derivations = and_derived; recoveries = and_recovery }

  -- ---- `||`

  abbrev Or : Judgment
  Or = short_circuit_rules env disjunction m l l' A B prior

  module _ (whole : Roots Known world Or) where
    or_derived : (t : Ty) (c : Caps) (x : TypedTree) → Or.derives t c x → Fit world x
    or_derived t c x (left_ends {s = u} {c = k} {a = a} d g h) =
        marked_fits world _ a (roots.derivations u k a d).fits (first.derivations u k a d)
    or_derived t c x (both_sides {s = u} {t = v} {c = k} {c' = k'} {a = a} {b = b} d g h d' g') =
        or_fits world _ a b (whole.derivations _ _ _ (both_sides d g h d' g')).fits (first.derivations u k a d)
        (λ e. (branch prior held).derivations v k' b d')

    or_recovery : (x : TypedTree) (es : List Finding) → Or.recovers x es → Fit world x
    or_recovery x es (left_ends_failed {c = k} {a = a} o n) =
        marked_fits world _ a (operand_root Known world nothing A roots env bool_types l false k a es o).fits
        (operand_fits world A first env bool_types l false k a es o)
    or_recovery x es
        (side_failed {succeeded = g} {succeeded' = g'} {c = k} {c' = k'} {a = a} {b = b} {es = fs} {es' = fs'} o n p h) =
        or_fits world _ a b (whole.recoveries _ _ (side_failed o n p h)) (operand_fits world A first env bool_types l g k a fs o)
        (λ e. operand_fits world (B prior) (branch prior held) env bool_types l' g' k' b fs' p)

    pub or_all_fit : Fits world Or
    or_all_fit = record { derivations = or_derived; recoveries = or_recovery }
