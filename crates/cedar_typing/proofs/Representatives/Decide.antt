-- If the scope's first tests alone are irrelevant, so is the condition, because nothing else of it is
-- visited.
use Rattle.std.proofs.Common.{◌≡◌, ℕ, Bool, true, false, List, [], ◌∷◌, ◌++◌, Option, Some, None, refl, sym, ◌∙◌, ap, subst}
use Rattle.std.specs.Prelude.{if◌then◌else◌}
use Rattle.cedar_types.specs.declared.base.location.Loc.{Loc}
use Rattle.cedar_types.specs.declared.base.expressions.operators.Var.{Var}
use Rattle.cedar_types.specs.declared.base.names.slots.SlotId.{SlotId}
use Rattle.cedar_types.specs.Errors.{Finding, unexpected_type}
use Rattle.cedar_types.specs.Expressions.Tree.{lit}
use Rattle.cedar_types.specs.Expressions.View.{Written}
use Rattle.cedar_types.specs.Templates.{PlainTemplate, made, scope_at, action_scope_at, scope_condition, condition_of, with_rest}
use Rattle.cedar_types.specs.Types.{Ty}
use Rattle.cedar_types.specs.Types.Order.{in_order}
use Rattle.cedar_typing.specs.Capabilities.{Caps, no_caps, union}
use Rattle.cedar_typing.specs.Infer.{infer}
use Rattle.cedar_typing.specs.Infer.Parts.{Answer, success, failure, limit, Part, AnswerAndErrors, PartAndErrors, part_with, answer_if, part_from}
use Rattle.cedar_typing.specs.Infer.Parts.{as_failed_untyped, expect_type, expect_part, expect, after_part, after}
use Rattle.cedar_typing.specs.Infer.ShortCircuit.{infer_sides, infer_right}
use Rattle.cedar_typing.specs.PolicyCheck.{irrelevant, verdict_if, part_verdict, out_verdict, policy_check}
use Rattle.cedar_typing.specs.Representatives.{first_tests}
use Rattle.cedar_typing.specs.Rules.ShortCircuit.{conjunction}
use Rattle.cedar_typing.specs.Setting.{Setting}
use Rattle.cedar_typing.specs.TypeEnv.{TypeEnv, finding}
use Rattle.cedar_typing.specs.TypeTests.{accepts, bool_types, is_false, annotation_passes}
use Rattle.cedar_typing.specs.TypedExpr.{Source, TypedTree, Mark, mark_of, with_mark, annotation, without_type, at_place, place_of}
use Rattle.cedar_typing.proofs.Representatives.Depth.{in_scope, below_rest}
use Rattle.cedar_typing.proofs.TypeTests.{false_type}
use Rattle.cedar_typing.proofs.Views.Marks.{mark_of-with_mark}

-- ---- places

abbrev pub tree_place : TypedTree → Option Loc
tree_place x = (mark_of x).at.place

own_mark : (x : TypedTree) → with_mark (mark_of x) x ≡ x
own_mark (lit m k) = refl
own_mark x = refl

-- an expression that stands at the place already stays as it is
stays : (l : Option Loc) (x : TypedTree) → tree_place x ≡ l → at_place l x ≡ x
stays l x h =
    (λ i. with_mark (record { ty = annotation x; at = record { place = sym h i; names = (mark_of x).at.names } }) x) ∙ own_mark x

-- the copy of an answer, or of a part, stands at a place
abbrev pub AnswerAt : Option Loc → Answer → Type 0
AnswerAt l (success x c) = tree_place x ≡ l
AnswerAt l (failure x) = tree_place x ≡ l
AnswerAt l limit = Unit {0}

abbrev pub PartAt : Option Loc → Option Part → Type 0
PartAt l None = Unit {0}
PartAt l (Some p) = tree_place p.tree ≡ l

either_at : (l : Option Loc) (b : Bool) (x : TypedTree) (c : Caps) → tree_place x ≡ l → AnswerAt l (answer_if b x c)
either_at l true x c h = h
either_at l false x c h = h

part_at : (l : Option Loc) (a : Answer) → AnswerAt l a → PartAt l (part_from a)
part_at l (success x c) h = h
part_at l (failure x) h = h
part_at l limit h = tt

placed : (l : Option Loc) (x : TypedTree) → tree_place (at_place l x) ≡ l
placed l x = ap (λ (k : Mark). k.at.place) (mark_of-with_mark _ x)

untyped_placed : (l : Option Loc) (x : TypedTree) → tree_place x ≡ l → tree_place (without_type x) ≡ l
untyped_placed l x h = ap (λ (k : Mark). k.at.place) (mark_of-with_mark _ x) ∙ h

module _ (env : TypeEnv) where
  expected_type_at : (l k : Option Loc) (ts : List Ty) (p : Part) (es : List Finding) (t : Option Ty) → tree_place p.tree ≡ l
      → PartAt l (expect_type env ts k p es t).0
  expected_type_at l k ts p es None h = h
  expected_type_at l k ts p es (Some t) h = go (accepts ts t)
    where
      go : (b : Bool) → PartAt l (let r : PartAndErrors = if b then (Some p, es) else (Some (as_failed_untyped p), es ++ finding env k (unexpected_type (in_order ts) t) ∷ []) in r.0)
      go true = h
      go false = untyped_placed l p.tree h

  expected_part_at : (l k : Option Loc) (ts : List Ty) (o : Option Part) (es : List Finding) → PartAt l o → PartAt l (expect_part env ts k o es).0
  expected_part_at l k ts None es h = tt
  expected_part_at l k ts (Some p) es h = expected_type_at l k ts p es (annotation p.tree) h

  pub expected_at : (l k : Option Loc) (ts : List Ty) (o : AnswerAndErrors) → AnswerAt l o.0 → PartAt l (expect env ts k o).0
  expected_at l k ts o h = expected_part_at l k ts (part_from o.0) o.1 (part_at l o.0 h)

  sides_at : (m : Written) (a b : Part) (s t : Option Ty) → AnswerAt m.place (infer_sides conjunction m a b s t)
  sides_at m a b None t = refl
  sides_at m a b (Some s) None = refl
  sides_at m a b (Some s) (Some t) = either_at m.place _ _ _ refl

  second_at : (m : Written) (a : Part) (o : Option Part) (es : List Finding)
      → AnswerAt m.place (after_part o es (λ b es'. (infer_sides conjunction m a b (annotation a.tree) (annotation b.tree), es'))).0
  second_at m a None es = tt
  second_at m a (Some b) es = sides_at m a b (annotation a.tree) (annotation b.tree)

  right_at : (m : Written) (l : Option Loc) (prior : Caps) (a : Part) (es : List Finding) (right : Caps → List Finding → AnswerAndErrors)
      → AnswerAt m.place (infer_right env conjunction m l prior a es right).0
  right_at m l prior a es right = go (annotation_passes is_false (annotation a.tree))
    where
      go : (b : Bool) → AnswerAt m.place (let r : AnswerAndErrors = if b then (answer_if a.succeeded (at_place m.place a.tree) no_caps, es)
          else after (expect env bool_types l (right (union prior a.capabilities) es)) (λ b es'. (infer_sides conjunction m a b (annotation a.tree) (annotation b.tree), es')) in r.0)
      go true = either_at m.place a.succeeded _ _ (placed m.place a.tree)
      go false = second_at m a (expect env bool_types l (right (union prior a.capabilities) es)).0 (expect env bool_types l (right (union prior a.capabilities) es)).1

  gone_on_at : (l : Option Loc) (o : Option Part) (es : List Finding) (f : Part → List Finding → AnswerAndErrors)
      → ((p : Part) (es' : List Finding) → AnswerAt l (f p es').0) → AnswerAt l (after_part o es f).0
  gone_on_at l None es f h = tt
  gone_on_at l (Some p) es f h = h p es

-- the typed copy of the first tests stands at the template's place
first_tests_at : (s : Setting) (t : PlainTemplate) → AnswerAt t.place (infer s (first_tests t) no_caps 1 []).0
first_tests_at s t =
    let a = expect s.env bool_types (place_of (scope_at t.place Var.Principal SlotId.Principal t.principal))
    (infer s (scope_at t.place Var.Principal SlotId.Principal t.principal) no_caps 2 []) in
    gone_on_at s.env t.place a.0 a.1 _
    (λ p es. right_at s.env (made t.place) (place_of (action_scope_at t.place t.action)) no_caps p es
    (λ known es'. infer s (action_scope_at t.place t.action) known 2 es'))

-- ---- the result of the whole

-- an irrelevant part, as the check sees it
pub record EndsWith (r : PartAndErrors) (es : List Finding) (x : TypedTree) : Type 0 where
  pub part : Part
  pub is : r ≡ (Some part, es)
  pub copy : part.tree ≡ x
  pub is_typed_false : annotation_passes is_false (annotation x) ≡ true

pub ends : (r : PartAndErrors) (es : List Finding) (x : TypedTree) → out_verdict r ≡ irrelevant es x → EndsWith r es x
ends r es x h = of_part r.0 r.1 refl h
  where
    by_mark : (p : Part) (fs : List Finding) (b : Bool) → annotation_passes is_false (annotation p.tree) ≡ b
        → (if b then irrelevant fs p.tree else verdict_if p.succeeded p.tree fs) ≡ irrelevant es x → EndsWith (Some p, fs) es x
    by_mark p fs true n e =
        let same : p.tree ≡ x = cc in
        record { part = p; is = cc; copy = same; is_typed_false = subst (λ y. annotation_passes is_false (annotation y) ≡ true) same n }
    by_mark p fs false n e = absurd (never p.succeeded e)
      where
        never : (b : Bool) → verdict_if b p.tree fs ≡ irrelevant es x → ⊥
        never true q = cc
        never false q = cc

    of_part : (o : Option Part) (fs : List Finding) → (o, fs) ≡ r → part_verdict o fs ≡ irrelevant es x → EndsWith r es x
    of_part None fs q e = cc
    of_part (Some p) fs q e =
        subst (λ z. EndsWith z es x) q (by_mark p fs (annotation_passes is_false (annotation p.tree)) refl e)

module _ (env : TypeEnv) where
  -- a left side that is False ends the whole
  pub right_ends : (m : Written) (l : Option Loc) (prior : Caps) (p : Part) (es : List Finding) (right : Caps → List Finding → AnswerAndErrors)
      → annotation_passes is_false (annotation p.tree) ≡ true
      → infer_right env conjunction m l prior p es right ≡ (answer_if p.succeeded (at_place m.place p.tree) no_caps, es)
  right_ends m l prior p es right h = rw h refl

  -- a False expression is accepted as a condition
  kept : (l : Option Loc) (b : Bool) (x : TypedTree) (es : List Finding) → annotation_passes is_false (annotation x) ≡ true
      → expect env bool_types l (answer_if b x no_caps, es) ≡ (Some (part_with b no_caps x), es)
  kept l b x es h = by_answer b
    where
      by_type : (p : Part) (t : Option Ty) → annotation_passes is_false t ≡ true → expect_type env bool_types l p es t ≡ (Some p, es)
      by_type p None k = cc
      by_type p (Some t) k = ap (λ u. expect_type env bool_types l p es (Some u)) (false_type t k)

      by_answer : (b : Bool) → expect env bool_types l (answer_if b x no_caps, es) ≡ (Some (part_with b no_caps x), es)
      by_answer true = by_type (part_with true no_caps x) (annotation x) h
      by_answer false = by_type (part_with false no_caps x) (annotation x) h

  -- if a part is False and stands at the place of the whole, the whole is that part
  ended : (m : Written) (l k : Option Loc) (prior : Caps) (r : PartAndErrors) (es : List Finding) (x : TypedTree)
      (right : Caps → List Finding → AnswerAndErrors) → tree_place x ≡ m.place → EndsWith r es x
      → EndsWith (expect env bool_types k (after r (λ p es'. infer_right env conjunction m l prior p es' right))) es x
  ended m l k prior r es x right at h =
      let p = h.part in
      let mark : annotation_passes is_false (annotation p.tree) ≡ true =
      subst (λ y. annotation_passes is_false (annotation y) ≡ true) (sym h.copy) h.is_typed_false in
      let answer : after r (λ q es'. infer_right env conjunction m l prior q es' right) ≡ (answer_if p.succeeded x no_caps, es) =
      ap (λ z. after z (λ q es'. infer_right env conjunction m l prior q es' right)) h.is
      ∙ right_ends m l prior p es right mark
      ∙ ap (λ y. (answer_if p.succeeded y no_caps, es)) (ap (at_place m.place) h.copy ∙ stays m.place x at) in
      record {
        part = part_with p.succeeded no_caps x;
        is = ap (expect env bool_types k) answer ∙ kept k p.succeeded x es h.is_typed_false;
        copy = refl;
        is_typed_false = h.is_typed_false;
      }

-- the verdict of an irrelevant part
says : (r : PartAndErrors) (es : List Finding) (x : TypedTree) → EndsWith r es x → out_verdict r ≡ irrelevant es x
says r es x h =
    let mark : annotation_passes is_false (annotation h.part.tree) ≡ true =
    subst (λ y. annotation_passes is_false (annotation y) ≡ true) (sym h.copy) h.is_typed_false in
    ap out_verdict h.is ∙ rw mark (ap (irrelevant es) h.copy)

pub first_tests_decide : (s : Setting) (t : PlainTemplate) (es : List Finding) (x : TypedTree)
    → policy_check s (first_tests t) ≡ irrelevant es x → policy_check s (condition_of t) ≡ irrelevant es x
first_tests_decide s t es x h = by_rest t.rest
  where
    l : Option Loc
    l = t.place

    alone : EndsWith (expect s.env bool_types l (infer s (first_tests t) no_caps 1 [])) es x
    alone = ends _ es x h

    place : tree_place x ≡ l
    place =
        let g = expected_at s.env l l bool_types (infer s (first_tests t) no_caps 1 []) (first_tests_at s t) in
        let of_part : tree_place alone.part.tree ≡ l = subst (PartAt l) (ap (λ (r : PartAndErrors). r.0) alone.is) g in
        subst (λ y. tree_place y ≡ l) alone.copy of_part

    resource : Source
    resource = scope_at l Var.Resource SlotId.Resource t.resource

    -- the first tests at another depth
    deeper : (d : ℕ) → infer s (first_tests t) no_caps d ≡ infer s (first_tests t) no_caps 1
        → EndsWith (expect s.env bool_types l (infer s (first_tests t) no_caps d [])) es x
    deeper d same = subst (λ o. EndsWith (expect s.env bool_types l (o [])) es x) (sym same) alone

    by_rest : (rest : Option Source) → policy_check s (with_rest l (scope_condition t) rest) ≡ irrelevant es x
    by_rest None =
        says _ es x
        (ended s.env (made l) (place_of resource) l no_caps (expect s.env bool_types l (infer s (first_tests t) no_caps 2 [])) es x
        (λ known. infer s resource known 2) place (deeper 2 (in_scope s t)))
    by_rest (Some e) =
        says _ es x
        (ended s.env (made l) (place_of e) l no_caps (expect s.env bool_types l (infer s (scope_condition t) no_caps 2 [])) es x
        (λ known. infer s e known 2) place
        (ended s.env (made l) (place_of resource) l no_caps (expect s.env bool_types l (infer s (first_tests t) no_caps 3 [])) es x
        (λ known. infer s resource known 3) place (deeper 3 (below_rest s t))))
