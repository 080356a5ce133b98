-- Refinement of judgments for parts, `&&`, `||` and `if`: an answer without an error in one is an
-- answer in the other.
use Rattle.std.proofs.Common.{◌≡◌, Bool, false, ◌&&◌, is_some, List, [], ◌∷◌, ◌++◌, Option, Some, None, refl, sym, ◌∙◌, ap, subst}
use Rattle.cedar_types.specs.declared.base.errors.type_errors.LubContext.TheVariants.{Conditional}
use Rattle.cedar_types.specs.declared.base.location.Loc.{Loc}
use Rattle.cedar_types.specs.Types.{Ty}
use Rattle.cedar_types.specs.Types.Bounds.{lub}
use Rattle.cedar_types.specs.Expressions.Tree.{if_then_else}
use Rattle.cedar_types.specs.Expressions.View.{Written}
use Rattle.cedar_types.specs.Errors.{Finding}
use Rattle.cedar_typing.specs.Capabilities.{Caps, union}
use Rattle.cedar_typing.specs.Judgments.{derived, recovered, accepted, refused, missing, Judgment, PartResult, Operand}
use Rattle.cedar_typing.specs.Rules.Conditional.{if_true_recovered, if_false_recovered, if_open_recovered, if_true, if_false, if_open}
use Rattle.cedar_typing.specs.Rules.Conditional.{if_rules}
use Rattle.cedar_typing.specs.Rules.ShortCircuit.{Connective, short_circuit_rules, left_ends, both_sides, left_ends_failed, side_failed}
use Rattle.cedar_typing.specs.TypeEnv.{TypeEnv}
use Rattle.cedar_typing.specs.TypeTests.{bool_types}
use Rattle.cedar_typing.specs.TypeTests.Joins.{joined, bound_errors, join_errors}
use Rattle.cedar_typing.specs.TypedExpr.{TypedTree, typed_as, annotation}
use Rattle.cedar_typing.proofs.KeptTypes.Keeping.{HasKept}
use Rattle.cedar_typing.proofs.KeptTypes.Rules.{KeepsTypes, part_kept}

-- ---- no errors

pub nil_left : (es fs : List Finding) → es ++ fs ≡ [] → es ≡ []
nil_left [] fs h = refl
nil_left (e ∷ es) fs h = cc

pub nil_right : (es fs : List Finding) → es ++ fs ≡ [] → fs ≡ []
nil_right [] fs h = h
nil_right (e ∷ es) fs h = cc

pub not_nil : (e : Finding) (es : List Finding) → e ∷ es ≡ [] → ⊥
not_nil e es h = cc

-- ---- judgments

-- J' has each derivation of J, and each of its failures without an error
pub record Refines (J J' : Judgment) : Type 0 where
  pub derivations : (t : Ty) (c : Caps) (x : TypedTree) → J.derives t c x → J'.derives t c x
  pub silences : (x : TypedTree) (es : List Finding) → J.recovers x es → es ≡ [] → J'.recovers x es

pub refines_itself : (J : Judgment) → Refines J J
refines_itself J = record { derivations = λ t c x h. h; silences = λ x es h q. h }

-- ---- parts

module _ (J J' : Judgment) (r : Refines J J') where
  pub part_refines : (b : Bool) (c : Caps) (x : TypedTree) (es : List Finding) → PartResult J b c x es → es ≡ []
      → PartResult J' b c x es
  part_refines b c x es (derived {t = t} h) q = derived (r.derivations t c x h)
  part_refines b c x es (recovered h) q = recovered (r.silences x es h q)

  module _ (env env' : TypeEnv) where
    pub operand_refines : (ts : List Ty) (l : Option Loc) (b : Bool) (c : Caps) (x : TypedTree) (es : List Finding)
        → Operand env ts l J b c x es → es ≡ [] → Operand env' ts l J' b c x es
    operand_refines ts l b c x es (accepted t p m h) q = accepted t (part_refines _ _ _ _ p q) m h
    operand_refines ts l b c x es (refused {es = fs} t p m h) q = absurd (not_nil _ [] (nil_right fs _ q))
    operand_refines ts l b c x es (missing p m) q = missing (part_refines _ _ _ _ p q) m

-- ---- `&&`, `||` and `if`

module _ (env env' : TypeEnv) (m : Written) (l : Option Loc) (A A' : Judgment) (B B' : Caps → Judgment) (prior : Caps)
    (a : Refines A A') (b : (p : Caps) → Refines (B p) (B' p)) where
  module _ (f : Connective) (l' : Option Loc) where
    abbrev Sides : Judgment
    Sides = short_circuit_rules env f m l l' A B prior

    abbrev OtherSides : Judgment
    OtherSides = short_circuit_rules env' f m l l' A' B' prior

    sides_derived : (t : Ty) (c : Caps) (x : TypedTree) → Sides.derives t c x → OtherSides.derives t c x
    sides_derived t c x (left_ends d p n) = left_ends (a.derivations _ _ _ d) p n
    sides_derived t c x (both_sides {c = k} d p n d' q) =
        both_sides (a.derivations _ _ _ d) p n ((b (f.right_prior prior k)).derivations _ _ _ d') q

    sides_silent : (x : TypedTree) (es : List Finding) → Sides.recovers x es → es ≡ [] → OtherSides.recovers x es
    sides_silent x es (left_ends_failed p n) q = left_ends_failed (operand_refines A A' a env env' bool_types l _ _ _ _ p q) n
    sides_silent x es (side_failed {c = k} {es = fs} {es' = gs} p n p' g) q =
        side_failed (operand_refines A A' a env env' bool_types l _ _ _ _ p (nil_left fs gs q)) n
        (operand_refines _ _ (b (f.right_prior prior k)) env env' bool_types l' _ _ _ _ p' (nil_right fs gs q)) g

    pub sides_refine : Refines Sides OtherSides
    sides_refine = record { derivations = sides_derived; silences = sides_silent }

  module _ (Kept : Ty → Type 0) (bounds : (s t u : Ty) → Kept t → lub env.mode s t ≡ Some u → lub env'.mode s t ≡ Some u)
      (E E' : Judgment) (e : Refines E E') (kept : KeepsTypes Kept E) where
    -- both environments give two types one bound, and one list of errors for it
    abbrev SameJoin : Option Ty → Option Ty → Type 0
    SameJoin x y =
        (joined env'.mode x y ≡ joined env.mode x y)
        × (join_errors env' m.place Conditional x y ≡ join_errors env m.place Conditional x y)

    same_bound : (s t : Ty) (o : Option Ty) → Kept t → lub env.mode s t ≡ o → bound_errors env m.place Conditional s t o ≡ []
        → SameJoin (Some s) (Some t)
    same_bound s t None k f q = absurd (not_nil _ _ q)
    same_bound s t (Some u) k f q =
        let g = bounds s t u k f in (
          g ∙ sym f,
          ap (bound_errors env' m.place Conditional s t) g ∙ sym (ap (bound_errors env m.place Conditional s t) f),
        )

    same_join : (x y : Option Ty) → HasKept Kept y → join_errors env m.place Conditional x y ≡ [] → SameJoin x y
    same_join None y k q = (refl, refl)
    same_join (Some s) None k q = (refl, refl)
    same_join (Some s) (Some t) k q = same_bound s t (lub env.mode s t) k refl q

    abbrev Choice : Judgment
    Choice = if_rules env m l A B E prior

    abbrev OtherChoice : Judgment
    OtherChoice = if_rules env' m l A' B' E' prior

    if_derived : (t : Ty) (c : Caps) (x : TypedTree) → Choice.derives t c x → OtherChoice.derives t c x
    if_derived t c x (if_true {c = k} d d') = if_true (a.derivations _ _ _ d) ((b (union prior k)).derivations _ _ _ d')
    if_derived t c x (if_false d d') = if_false (a.derivations _ _ _ d) (e.derivations _ _ _ d')
    if_derived t c x (if_open {t = s} {u = u} {v = v} {c = k} d p n n' d' d'' h) =
        if_open (a.derivations _ _ _ d) p n n' ((b (union prior k)).derivations _ _ _ d') (e.derivations _ _ _ d'')
        (bounds s u v (kept.derivations _ _ _ d'') h)

    if_silent : (x : TypedTree) (es : List Finding) → Choice.recovers x es → es ≡ [] → OtherChoice.recovers x es
    if_silent x es (if_true_recovered {c = k} {es = fs} {es' = gs} p n p' g) q =
        if_true_recovered (operand_refines A A' a env env' bool_types l _ _ _ _ p (nil_left fs gs q)) n
        (part_refines _ _ (b (union prior k)) _ _ _ _ p' (nil_right fs gs q)) g
    if_silent x es (if_false_recovered {es = fs} {es' = gs} p n p' g) q =
        if_false_recovered (operand_refines A A' a env env' bool_types l _ _ _ _ p (nil_left fs gs q)) n
        (part_refines E E' e _ _ _ _ p' (nil_right fs gs q)) g
    if_silent x es (if_open_recovered {succeeded = s1} {succeeded' = s2} {succeeded'' = s3} {c = k} {a = y} {b = z} {e = w}
        {es = fs} {es' = gs} {es'' = hs} p n n' p' p'' g) q =
        let js = join_errors env m.place Conditional (annotation z) (annotation w) in
        let q2 = nil_left (fs ++ gs ++ hs) js q in
        let q1 = nil_left (fs ++ gs) hs q2 in
        let same = same_join (annotation z) (annotation w) (part_kept Kept E kept _ _ _ _ p'') (nil_right (fs ++ gs ++ hs) js q) in
        let o = operand_refines A A' a env env' bool_types l _ _ _ _ p (nil_left fs gs q1) in
        let o' = part_refines _ _ (b (union prior k)) _ _ _ _ p' (nil_right fs gs q1) in
        let o'' = part_refines E E' e _ _ _ _ p'' (nil_right (fs ++ gs) hs q2) in
        let P : Option Ty → List Finding → Type 0 =
        λ j ks. OtherChoice.recovers (if_then_else (typed_as j m) y z w) (fs ++ gs ++ hs ++ ks) in
        let G : Option Ty → Type 0 = λ j. (s1 && s2 && s3 && is_some j) ≡ false in
        let found : P (joined env'.mode (annotation z) (annotation w)) (join_errors env' m.place Conditional (annotation z) (annotation w)) =
        if_open_recovered o n n' o' o'' (subst G (sym same.0) g) in
        subst (λ ks. P (joined env.mode (annotation z) (annotation w)) ks) same.1
        (subst (λ j. P j (join_errors env' m.place Conditional (annotation z) (annotation w))) same.0 found)

    pub if_refines : Refines Choice OtherChoice
    if_refines = record { derivations = if_derived; silences = if_silent }
