-- Forms with one operand, and those that evaluate all operands: they evaluate over a part that
-- agrees on the entities that are reached as over the whole store.
use Rattle.std.proofs.Common.{◌≡◌, ℕ, List, [], ◌∷◌, Option, ap}
use Rattle.cedar_types.specs.declared.base.expressions.operators.UnaryOp.{UnaryOp}
use Rattle.cedar_types.specs.declared.base.location.Loc.{Loc}
use Rattle.cedar_types.specs.Names.{Text, Uid}
use Rattle.cedar_types.specs.Values.Stores.{Store}
use Rattle.cedar_types.specs.Types.{Ty}
use Rattle.cedar_types.specs.Expressions.View.{Written, trees_of}
use Rattle.cedar_typing.specs.Capabilities.{Caps}
use Rattle.cedar_typing.specs.Eager.{Form}
use Rattle.cedar_typing.specs.Evaluation.Eval.{unary_outcome, has_test, get}
use Rattle.cedar_typing.specs.Evaluation.Outcomes.{of_test, Outcomes, on_value, then_test}
use Rattle.cedar_typing.specs.Evaluation.World.{World, Outcome}
use Rattle.cedar_typing.specs.Judgments.{Judgment}
use Rattle.cedar_typing.specs.Rules.Attributes.{get_form, has_form}
use Rattle.cedar_typing.specs.Rules.Eager.{Judgments, eager_typed, eager_rules, one_operand_rules}
use Rattle.cedar_typing.specs.Rules.Unary.{unary_form}
use Rattle.cedar_typing.specs.Setting.{Setting}
use Rattle.cedar_typing.specs.Soundness.{HasFound}
use Rattle.cedar_typing.specs.TypedExpr.{Source, TypedTree, typed, annotation}
use Rattle.cedar_typechecker.specs.Slices.Soundness.{levels_in}
use Rattle.cedar_typechecker.proofs.Levels.Silent.{Silent, AllSilent, Targeted}
use Rattle.cedar_typechecker.proofs.Slices.Accesses.{get_checked, get_target, has_checked}
use Rattle.cedar_typechecker.proofs.Slices.Collections.{AreSame}
use Rattle.cedar_typechecker.proofs.Slices.Operands.{one_same}
use Rattle.cedar_typechecker.proofs.Slices.Same.{IsSame}
use Rattle.cedar_typechecker.proofs.Slices.Stores.{Agrees}

module _ (s : Setting) (world : World) (part : Store) (n : ℕ) (P : ℕ → Uid → Type 0)
    (a : Agrees world.request world.store part n P) where
  abbrev Same : Outcome → Outcome → Judgment → Type 0
  Same = IsSame (levels_in s n) P

  -- ---- one operand

  module _ (l : Option Loc) (o o' : Outcome) (J : Judgment) (i : Same o o' J) where
    -- a form that is no target, and evaluates to some outcome of its operand
    pub on_one_same : (f : Form) (g : Outcome → Outcome)
        → ((t : Ty) (y : TypedTree) → Silent (levels_in s n) (f.node (typed t f.at) (y ∷ []))
        → Silent (levels_in s n) y)
        → ((t : Ty) (y : TypedTree) (path : List Text) (k : ℕ)
        → Targeted (levels_in s n) (f.node (typed t f.at) (y ∷ [])) path k → ⊥)
        → Same (g o) (g o') (one_operand_rules s.env f l J)
    on_one_same f g h no_target =
        one_same (levels_in s n) P s.env f (g o) (g o') l J
        (record {
          checked = λ t u c y d w. ap g (i.checked u c y d (h t y w));
          target = λ t u c y d path k le w. absurd (no_target t y path k w);
        })

    pub unary_same : (m : Written) (op : UnaryOp)
        → Same (unary_outcome op o) (unary_outcome op o')
        (one_operand_rules s.env (unary_form m op) l J)
    unary_same m UnaryOp.Not =
        on_one_same (unary_form m UnaryOp.Not) (unary_outcome UnaryOp.Not) (λ t y h. h)
        (λ t y path k h. h)
    unary_same m UnaryOp.Neg =
        on_one_same (unary_form m UnaryOp.Neg) (unary_outcome UnaryOp.Neg) (λ t y h. h)
        (λ t y path k h. h)
    unary_same m UnaryOp.IsEmpty =
        on_one_same (unary_form m UnaryOp.IsEmpty) (unary_outcome UnaryOp.IsEmpty) (λ t y h. h)
        (λ t y path k h. h)

    module _ (m : Written) (prior : Caps) (e : Source) (x : Text)
        (found : (t : Ty) (c : Caps) (y : TypedTree) → J.derives t c y
        → HasFound (annotation y) o) where
      pub get_same : Same (on_value o (get world.store x)) (on_value o' (get part x))
          (one_operand_rules s.env (get_form s.env m prior e x) l J)
      get_same =
          one_same (levels_in s n) P s.env (get_form s.env m prior e x) _ _ l J
          (record {
            checked = λ t u c z d j.
                get_checked world.request world.store part n P a x _ _ _ (found u c z d)
                (Targeted (levels_in s n) z) (Silent (levels_in s n) z)
                (λ path k le w. i.target u c z d path k le w) (λ w. i.checked u c z d w) j;
            target = λ t u c z d path k le j.
                get_target world.request world.store part n P a x _ _ _ (found u c z d)
                (Targeted (levels_in s n) z) (Silent (levels_in s n) z)
                (λ path k le w. i.target u c z d path k le w) (λ w. i.checked u c z d w)
                path k le j;
          })

      pub has_same : Same (of_test (then_test o (has_test world.store x)))
          (of_test (then_test o' (has_test part x)))
          (one_operand_rules s.env (has_form s.env m prior e x) l J)
      has_same =
          one_same (levels_in s n) P s.env (has_form s.env m prior e x) _ _ l J
          (record {
            checked = λ t u c z d j.
                has_checked world.request world.store part n P a x _ _ _ (found u c z d)
                (Targeted (levels_in s n) z) (Silent (levels_in s n) z)
                (λ path k le w. i.target u c z d path k le w) (λ w. i.checked u c z d w) j;
            target = λ t u c z d path k le j. absurd j;
          })

  -- ---- several operands

  module _ (os os' : Outcomes) (Js : Judgments)
      (i : AreSame (levels_in s n) P os os' Js) where
    -- a form that is no target, and evaluates to some outcome of its operands
    pub on_all_same : (f : Form) (g : Outcomes → Outcome)
        → ((t : Ty) (xs : List TypedTree) → Silent (levels_in s n) (f.node (typed t f.at) xs)
        → AllSilent (levels_in s n) (trees_of xs))
        → ((t : Ty) (xs : List TypedTree) (path : List Text) (k : ℕ)
        → Targeted (levels_in s n) (f.node (typed t f.at) xs) path k → ⊥)
        → Same (g os) (g os') (eager_rules f Js)
    on_all_same f g h no_target = record {
      checked = checked_at;
      target = λ t c x d path k le w. target_at t c x d path k _ w;
    }
      where
        checked_at : (t : Ty) (c : Caps) (x : TypedTree) → (eager_rules f Js).derives t c x
            → Silent (levels_in s n) x → g os' ≡ g os
        checked_at t c x (eager_typed {xs = xs} ds e) w = ap g (i.all xs ds (h t xs w))

        target_at : (t : Ty) (c : Caps) (x : TypedTree) → (eager_rules f Js).derives t c x
            → (path : List Text) (k : ℕ) (X : Type 0) → Targeted (levels_in s n) x path k → X
        target_at t c x (eager_typed {xs = xs} ds e) path k X w =
            absurd (no_target t xs path k w)
