-- A whole that is made of parts in which constant tests have one branch twice has this property
-- too.
use Rattle.std.proofs.Common.{◌≡◌, Bool, true, false, ◌&&◌, List, [], ◌∷◌, ◌++◌, Option, Some, None, is_some, if◌then◌else◌, true≢false}
use Rattle.std.proofs.Common.{refl, sym, ◌∙◌}
use Rattle.cedar_types.specs.declared.base.location.Loc.{Loc}
use Rattle.cedar_types.specs.declared.base.types.BoolType.TheVariants.{AnyBool, True, False}
use Rattle.cedar_types.specs.Errors.{Finding, unexpected_type}
use Rattle.cedar_types.specs.Expressions.Tree.{lit, var, slot, unknown, if_then_else, and, or, unary, binary, call, get_attr, has_attr}
use Rattle.cedar_types.specs.Expressions.Tree.{ext_has_attr, like, is_type, set_of, record_of}
use Rattle.cedar_types.specs.Types.Order.{in_order}
use Rattle.cedar_types.specs.Types.{Ty, TBool}
use Rattle.cedar_types.specs.Expressions.View.{Written}
use Rattle.cedar_typing.specs.Capabilities.{Caps, union, intersection}
use Rattle.cedar_typing.specs.Infer.Conditional.{infer_constant_test, infer_open_test, infer_open_parts, infer_open_branches}
use Rattle.cedar_typing.specs.Infer.Conditional.{infer_branches}
use Rattle.cedar_typing.specs.Infer.Leaves.{infer_leaf}
use Rattle.cedar_typing.specs.Infer.Parts.{Answer, success, failure, limit, Part, AnswerAndErrors, PartAndErrors, answer_if, part_from}
use Rattle.cedar_typing.specs.Infer.Parts.{as_failed_untyped, expect_type, expect_part, expect, any_part, after_part, after}
use Rattle.cedar_typing.specs.Infer.ShortCircuit.{infer_sides, infer_right}
use Rattle.cedar_typing.specs.TypeTests.Joins.{joined}
use Rattle.cedar_typing.specs.Rules.ShortCircuit.{Connective}
use Rattle.cedar_typing.specs.TypeEnv.{TypeEnv, finding}
use Rattle.cedar_typing.specs.TypeTests.{accepts, bool_types, is_true, is_false, annotation_passes}
use Rattle.cedar_typing.specs.TypedExpr.{TypedTree, Mark, typed_as, with_mark, annotation, at_place}
use Rattle.cedar_typechecker.specs.Levels.Shared.{is_constant, is_constant_type, BranchesAreShared}

-- ---- answers and parts

abbrev pub AnswerShared : Answer → Type 0
AnswerShared (success e c) = BranchesAreShared e
AnswerShared (failure e) = BranchesAreShared e
AnswerShared limit = Unit {0}

abbrev pub PartShared : Option Part → Type 0
PartShared None = Unit {0}
PartShared (Some p) = BranchesAreShared p.tree

pub marked : (d : Mark) (e : TypedTree) → BranchesAreShared e → BranchesAreShared (with_mark d e)
marked d (lit m x) h = h
marked d (var m x) h = h
marked d (slot m x) h = h
marked d (unknown m n) h = h
marked d (if_then_else m a b c) h = h
marked d (and m a b) h = h
marked d (or m a b) h = h
marked d (unary m o a) h = h
marked d (binary m o a b) h = h
marked d (call m n ts) h = h
marked d (get_attr m a x) h = h
marked d (has_attr m a x) h = h
marked d (ext_has_attr m a x xs) h = h
marked d (like m a p) h = h
marked d (is_type m a n) h = h
marked d (set_of m ts) h = h
marked d (record_of m fs) h = h

pub part_of_answer : (a : Answer) → AnswerShared a → PartShared (part_from a)
part_of_answer (success e c) h = h
part_of_answer (failure e) h = h
part_of_answer limit h = tt

pub either_answer : (b : Bool) (e : TypedTree) (c : Caps) → BranchesAreShared e
    → AnswerShared (answer_if b e c)
either_answer true e c h = h
either_answer false e c h = h

pub expected_type : (env : TypeEnv) (ts : List Ty) (l : Option Loc) (p : Part) (es : List Finding)
    (t : Option Ty)
    → BranchesAreShared p.tree → PartShared (expect_type env ts l p es t).0
expected_type env ts l p es None h = h
expected_type env ts l p es (Some t) h = go (accepts ts t)
  where
    refused : List Finding
    refused = es ++ finding env l (unexpected_type (in_order ts) t) ∷ []

    go : (b : Bool)
        → (let r : PartAndErrors = if b then (Some p, es) else (Some (as_failed_untyped p), refused)
        in PartShared r.0)
    go true = h
    go false = marked _ p.tree h

pub expected_part : (env : TypeEnv) (ts : List Ty) (l : Option Loc) (o : Option Part)
    (es : List Finding) → PartShared o → PartShared (expect_part env ts l o es).0
expected_part env ts l None es h = tt
expected_part env ts l (Some p) es h = expected_type env ts l p es (annotation p.tree) h

pub expected : (env : TypeEnv) (ts : List Ty) (l : Option Loc) (o : AnswerAndErrors)
    → AnswerShared o.0
    → PartShared (expect env ts l o).0
expected env ts l o h = expected_part env ts l (part_from o.0) o.1 (part_of_answer o.0 h)

pub gone_on : (o : Option Part) (es : List Finding) (f : Part → List Finding → AnswerAndErrors)
    → PartShared o
    → ((p : Part) (es : List Finding) → BranchesAreShared p.tree → AnswerShared (f p es).0)
    → AnswerShared (after_part o es f).0
gone_on None es f h k = tt
gone_on (Some p) es f h k = k p es h

pub deep : (b : Bool) (es : List Finding) (o : AnswerAndErrors) → AnswerShared o.0
    → AnswerShared (if b then (limit, es) else o).0
deep true es o h = tt
deep false es o h = h

-- ---- `if`

pub not_constant : (t : Ty) → is_true t ≡ false → is_false t ≡ false → is_constant_type t ≡ false
not_constant (TBool AnyBool) h k = refl
not_constant (TBool True) h k = cc
not_constant (TBool False) h k = cc
not_constant t h k = refl

pub open_test : (o : Option Ty) → annotation_passes is_true o ≡ false
    → annotation_passes is_false o ≡ false → is_constant o ≡ false
open_test None h k = refl
open_test (Some t) h k = not_constant t h k

module _ (env : TypeEnv) (m : Written) where
  pub constant_shared : (a b : Part) (c : Caps) → BranchesAreShared a.tree
      → BranchesAreShared b.tree
      → AnswerShared (infer_constant_test m a b c)
  constant_shared a b c h k = either_answer (a.succeeded && b.succeeded) _ c ((λ e. refl), h, k, k)

  pub open_shared : (a b e : Part) (es : List Finding) → is_constant (annotation a.tree) ≡ false
      → BranchesAreShared a.tree → BranchesAreShared b.tree → BranchesAreShared e.tree
      → AnswerShared (infer_open_test env m a b e es).0
  open_shared a b e es q h i j =
      let t = joined env.mode (annotation b.tree) (annotation e.tree) in
      either_answer (a.succeeded && b.succeeded && e.succeeded && is_some t)
      (if_then_else (typed_as t m) a.tree b.tree e.tree)
      (intersection e.capabilities (union a.capabilities b.capabilities))
      (never q, h, i, j)
    where
      never : is_constant (annotation a.tree) ≡ false → is_constant (annotation a.tree) ≡ true
          → b.tree ≡ e.tree
      never q r = absurd (true≢false (sym r ∙ q))

  pub open_parts : (a : Part) (o r : Option Part) (es : List Finding)
      → is_constant (annotation a.tree) ≡ false → BranchesAreShared a.tree → PartShared o
      → PartShared r → AnswerShared (infer_open_parts env m a o r es).0
  open_parts a (Some b) (Some e) es q h i j = open_shared a b e es q h i j
  open_parts a (Some b) None es q h i j = tt
  open_parts a None (Some e) es q h i j = tt
  open_parts a None None es q h i j = tt

  pub branches_shared : (prior : Caps) (a : Part) (es : List Finding)
      (branch : Caps → List Finding → AnswerAndErrors) (otherwise : List Finding → AnswerAndErrors)
      → BranchesAreShared a.tree
      → ((c : Caps) (es : List Finding) → AnswerShared (branch c es).0)
      → ((es : List Finding) → AnswerShared (otherwise es).0)
      → AnswerShared (infer_branches env m prior a es branch otherwise).0
  branches_shared prior a es branch otherwise h f g =
      go (annotation_passes is_true (annotation a.tree))
      (annotation_passes is_false (annotation a.tree)) refl refl
    where
      go : (b c : Bool) → annotation_passes is_true (annotation a.tree) ≡ b
          → annotation_passes is_false (annotation a.tree) ≡ c
          → AnswerShared (if b then after (any_part (branch (union prior a.capabilities) es))
          (λ p es'. (infer_constant_test m a p (union a.capabilities p.capabilities), es'))
          else if c then after (any_part (otherwise es))
          (λ p es'. (infer_constant_test m a p p.capabilities, es'))
          else infer_open_branches env m a (branch (union prior a.capabilities) es) otherwise).0
      go true c q r =
          let o = branch (union prior a.capabilities) es in
          gone_on (part_from o.0) o.1 _ (part_of_answer o.0 (f _ es))
          (λ p es' k. constant_shared a p (union a.capabilities p.capabilities) h k)
      go false true q r =
          let o = otherwise es in
          gone_on (part_from o.0) o.1 _ (part_of_answer o.0 (g es))
          (λ p es' k. constant_shared a p p.capabilities h k)
      go false false q r =
          let o = branch (union prior a.capabilities) es in
          let p = otherwise o.1 in
          open_parts a (part_from o.0) (part_from p.0) p.1 (open_test (annotation a.tree) q r) h
          (part_of_answer o.0 (f _ es)) (part_of_answer p.0 (g o.1))

  -- ---- `&&` and `||`

  pub sides_shared : (f : Connective) (a b : Part) (s t : Option Ty)
      → ((k : Mark) → BranchesAreShared (f.node k a.tree b.tree))
      → AnswerShared (infer_sides f m a b s t)
  sides_shared f a b (Some s) (Some t) h = either_answer (a.succeeded && b.succeeded) _ _ (h _)
  sides_shared f a b (Some s) None h = h _
  sides_shared f a b None (Some t) h = h _
  sides_shared f a b None None h = h _

  pub right_shared : (f : Connective) (l : Option Loc) (prior : Caps) (a : Part) (es : List Finding)
      (right : Caps → List Finding → AnswerAndErrors)
      → ((k : Mark) (x y : TypedTree) → BranchesAreShared x → BranchesAreShared y
      → BranchesAreShared (f.node k x y)) → BranchesAreShared a.tree
      → ((c : Caps) (es : List Finding) → AnswerShared (right c es).0)
      → AnswerShared (infer_right env f m l prior a es right).0
  right_shared f l prior a es right node h g = go (annotation_passes f.ends (annotation a.tree))
    where
      go : (b : Bool)
          → AnswerShared (if b then
          (answer_if a.succeeded (at_place m.place a.tree) (f.ended_caps a.capabilities), es)
          else after (expect env bool_types l (right (f.right_prior prior a.capabilities) es))
          (λ b es'. (infer_sides f m a b (annotation a.tree) (annotation b.tree), es'))).0
      go true = either_answer a.succeeded _ _ (marked _ a.tree h)
      go false =
          let o = right (f.right_prior prior a.capabilities) es in
          let p = expect env bool_types l o in
          gone_on p.0 p.1 _ (expected env bool_types l o (g _ es))
          (λ b es' k. sides_shared f a b (annotation a.tree) (annotation b.tree)
          (λ d. node d a.tree b.tree h k))

-- ---- leaves

pub leaf_shared : (o : Option Ty) (m : Written) (node : Mark → TypedTree)
    → ((k : Mark) → BranchesAreShared (node k)) → AnswerShared (infer_leaf o m node)
leaf_shared None m node h = h _
leaf_shared (Some t) m node h = h _
