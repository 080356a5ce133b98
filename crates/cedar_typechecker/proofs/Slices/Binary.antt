-- Operators on two operands: `in`, `hasTag` and `getTag` access the first.
use Rattle.std.proofs.Common.{◌≡◌, ℕ, suc, ◌≤◌, List, [], ◌∷◌, Option, Some, None, if◌then◌else◌, ◌||◌, refl, sym, ◌∙◌, ap, subst, arith}
use Rattle.cedar_types.specs.declared.base.expressions.operators.BinaryOp.{BinaryOp}
use Rattle.cedar_types.specs.declared.base.location.Loc.{Loc}
use Rattle.cedar_types.specs.Names.{Text, Uid, uid_eq}
use Rattle.cedar_types.specs.Values.Stores.{Entity, Store, entity_at}
use Rattle.cedar_types.specs.Types.{Ty}
use Rattle.cedar_types.specs.Values.{Value, VBool, VString, VEntity, VSet, entry_at}
use Rattle.cedar_types.specs.Expressions.View.{Written}
use Rattle.cedar_typing.specs.Capabilities.{Caps}
use Rattle.cedar_typing.specs.Eager.{Form}
use Rattle.cedar_typing.specs.Evaluation.Equality.{all_values, any_value}
use Rattle.cedar_typing.specs.Evaluation.Eval.{has_ancestor, is_in_entity, is_some_entity, entity_in, entity_has_tag, entity_tag}
use Rattle.cedar_typing.specs.Evaluation.Eval.{binary_outcome}
use Rattle.cedar_typing.specs.Evaluation.Outcomes.{Says, of_test, on_value}
use Rattle.cedar_typing.specs.Evaluation.World.{Request, Interpretation, Outcome, Gives, Fails, TypeFailure}
use Rattle.cedar_typing.specs.Judgments.{Judgment}
use Rattle.cedar_typing.specs.Rules.Binary.{binary_form}
use Rattle.cedar_typing.specs.Rules.Eager.{two_operand_rules}
use Rattle.cedar_typing.specs.Soundness.{OnValue}
use Rattle.cedar_typing.specs.TypeEnv.{TypeEnv}
use Rattle.cedar_typing.specs.TypedExpr.{Source, TypedTree, typed}
use Rattle.cedar_typechecker.specs.Levels.Setting.{LevelSetting}
use Rattle.cedar_typechecker.proofs.Levels.Silent.{Spends, Silent, Targeted}
use Rattle.cedar_typechecker.proofs.Slices.Accesses.{spent, reached_alike}
use Rattle.cedar_typechecker.proofs.Slices.Ids.{Selected, select_found, entry_ids, select_entity, tag_ids}
use Rattle.cedar_typechecker.proofs.Slices.Operands.{two_same}
use Rattle.cedar_typechecker.proofs.Slices.Same.{IsReached, IsSame}
use Rattle.cedar_typechecker.proofs.Slices.Stores.{Agrees, IsSameValueIn}

-- ---- in two stores that agree on the first operand

module _ (store part : Store) (fns : Interpretation) where
  module _ (u : Uid) (e : entity_at part u ≡ entity_at store u) where
    is_in_alike : (w : Value) → is_in_entity part u w ≡ is_in_entity store u w
    is_in_alike (VEntity v) = ap (λ z. uid_eq u v || has_ancestor z v) e
    is_in_alike w = refl

    in_alike : (w : Value) → entity_in part u w ≡ entity_in store u w
    in_alike (VEntity v) = ap (λ z. Gives (VBool (uid_eq u v || has_ancestor z v))) e
    in_alike (VSet vs) =
        λ i. if all_values is_some_entity vs
        then Gives (VBool (any_value (λ w. is_in_alike w i) vs)) else Fails TypeFailure
    in_alike w = refl

  operator_alike : (op : BinaryOp) (v w : Value) → IsSameValueIn part store v
      → binary_outcome part fns op v w ≡ binary_outcome store fns op v w
  operator_alike BinaryOp.In (VEntity u) w e = in_alike u e w
  operator_alike BinaryOp.In v w e = refl
  operator_alike BinaryOp.HasTag (VEntity u) (VString x) e =
      ap (λ z. of_test (Says (entity_has_tag z x))) e
  operator_alike BinaryOp.HasTag v w e = refl
  operator_alike BinaryOp.GetTag (VEntity u) (VString x) e = ap (λ z. entity_tag z x) e
  operator_alike BinaryOp.GetTag v w e = refl
  operator_alike op v w e = refl

  abbrev whole : Store → BinaryOp → Outcome → Outcome → Outcome
  whole at op o p = on_value o (λ v. on_value p (binary_outcome at fns op v))

  whole_alike : (op : BinaryOp) (p o : Outcome) → OnValue (IsSameValueIn part store) o
      → whole part op o p ≡ whole store op o p
  whole_alike op p (Gives v) h = λ i. on_value p (λ w. operator_alike op v w h i)
  whole_alike op p (Fails f) h = refl

module _ (q : Request) (store part : Store) (s : LevelSetting) (P : ℕ → Uid → Type 0)
    (a : Agrees q store part s.maximum P) (fns : Interpretation) where
  -- ---- a tag is reached in one more step

  entity_tagged : (k : ℕ) (path : List Text) (u : Uid) → P k u → (x : Text)
      → (e : Option Entity) → entity_at store u ≡ e
      → OnValue (Selected (P (suc k)) path) (entity_tag e x)
  entity_tagged k path u h x None f = tt
  entity_tagged k path u h x (Some e) f =
      let o = entry_at x e.tags in
      tag_ids (P (suc k)) path o
      (select_found (P (suc k)) path o (entry_ids (P (suc k)) x e.tags (a.tags k u e h f)))

  tag_of : (k : ℕ) (path : List Text) (u : Uid) → P k u → (p : Outcome)
      → OnValue (Selected (P (suc k)) path)
      (on_value p (binary_outcome store fns BinaryOp.GetTag (VEntity u)))
  tag_of k path u h (Gives (VString x)) = entity_tagged k path u h x (entity_at store u) refl
  tag_of k path u h (Gives w) = tt
  tag_of k path u h (Fails f) = tt

  no_tag : (Q : Value → Type 0) (p : Outcome) (f : Value → Outcome)
      → ((w : Value) → OnValue Q (f w)) → OnValue Q (on_value p f)
  no_tag Q (Gives w) f h = h w
  no_tag Q (Fails e) f h = tt

  got_tag : (k : ℕ) (path : List Text) (p o : Outcome) → OnValue (Selected (P k) path) o
      → OnValue (Selected (P (suc k)) path) (whole store part fns store BinaryOp.GetTag o p)
  got_tag k path p (Gives (VEntity u)) h = tag_of k path u (select_entity (P k) path u h) p
  got_tag k path p (Gives v) h = no_tag _ p _ (λ w. tt)
  got_tag k path p (Fails f) h = tt

  -- ---- the forms

  module _ (env : TypeEnv) (m : Written) (prior : Caps) (e e' : Source) (l l' : Option Loc)
      (o o' p p' : Outcome) (J J' : Judgment)
      (first : IsSame s P o o' J) (second : IsSame s P p p' J') where
    abbrev here : BinaryOp → Outcome → Outcome → Outcome
    here = whole store part fns store

    abbrev there : BinaryOp → Outcome → Outcome → Outcome
    there = whole store part fns part

    abbrev form : BinaryOp → Form
    form = binary_form env m prior e e'

    abbrev node : BinaryOp → Ty → TypedTree → TypedTree → TypedTree
    node op t y z = (form op).node (typed t (form op).at) (y ∷ z ∷ [])

    abbrev IsWholeSame : BinaryOp → Type 0
    IsWholeSame op =
        IsSame s P (here op o p) (there op o' p') (two_operand_rules env (form op) l l' J J')

    both_same : (f : Value → Value → Outcome) → o' ≡ o → p' ≡ p
        → on_value o' (λ v. on_value p' (f v)) ≡ on_value o (λ v. on_value p (f v))
    both_same f i j = λ z. on_value (i z) (λ v. on_value (j z) (f v))

    -- an operator that accesses nothing
    plain_same : (op : BinaryOp) → binary_outcome part fns op ≡ binary_outcome store fns op
        → ((t : Ty) (y z : TypedTree) → Silent s (node op t y z) → Silent s y × Silent s z)
        → ((t : Ty) (y z : TypedTree) (path : List Text) (k : ℕ)
        → Targeted s (node op t y z) path k → ⊥)
        → IsWholeSame op
    plain_same op e f g =
        two_same s P env (form op) (here op o p) (there op o' p') l l' J J'
        (record {
          checked = λ t u v c c' y z d d' h.
              let w = f t y z h in
              both_same (binary_outcome part fns op) (first.checked u c y d w.0)
              (second.checked v c' z d' w.1)
              ∙ ap (λ i. on_value o (λ v. on_value p (i v))) e;
          target = λ t u v c c' y z d d' path k le h. absurd (g t y z path k h);
        })

    module _ (u v : Ty) (c c' : Caps) (y z : TypedTree) (d : J.derives u c y)
        (d' : J'.derives v c' z) where
      -- an operator that accesses the first operand
      accessed : (op : BinaryOp) → Spends s.maximum (Targeted s y []) × Silent s z
          → there op o' p' ≡ here op o p
      accessed op h =
          let w = spent s.maximum (Targeted s y []) h.0 in
          let t = first.target u c y d [] w.0 (omega (arith, w.1)) w.2 in
          both_same (binary_outcome part fns op) t.same (second.checked v c' z d' h.1)
          ∙ whole_alike store part fns op p o
          (reached_alike q store part s.maximum P a w.0 (omega (arith, w.1)) [] o t.ids)

      tag_targeted : (path : List Text) (k : ℕ) → k ≤ s.maximum
          → Spends k (Targeted s y path) × Silent s z
          → IsReached P path k (here BinaryOp.GetTag o p) (there BinaryOp.GetTag o' p')
      tag_targeted path k le h =
          let w = spent k (Targeted s y path) h.0 in
          let t = first.target u c y d path w.0 (omega (arith, w.1)) w.2 in
          record {
            same =
                both_same (binary_outcome part fns BinaryOp.GetTag) t.same
                (second.checked v c' z d' h.1)
                ∙ whole_alike store part fns BinaryOp.GetTag p o
                (reached_alike q store part s.maximum P a w.0 (omega (arith, w.1)) path o t.ids);
            ids = subst (λ j. OnValue (Selected (P j) path) (here BinaryOp.GetTag o p)) (sym w.1)
                (got_tag w.0 path p o t.ids);
          }

    -- an operator that accesses the first operand, and is no target
    access_same : (op : BinaryOp)
        → ((t : Ty) (y z : TypedTree) → Silent s (node op t y z)
        → Spends s.maximum (Targeted s y []) × Silent s z)
        → ((t : Ty) (y z : TypedTree) (path : List Text) (k : ℕ)
        → Targeted s (node op t y z) path k → ⊥)
        → IsWholeSame op
    access_same op f g =
        two_same s P env (form op) (here op o p) (there op o' p') l l' J J'
        (record {
          checked = λ t u v c c' y z d d' h. accessed u v c c' y z d d' op (f t y z h);
          target = λ t u v c c' y z d d' path k le h. absurd (g t y z path k h);
        })

    pub binary_same : (op : BinaryOp) → IsWholeSame op
    binary_same BinaryOp.In = access_same BinaryOp.In (λ t y z h. h) (λ t y z path k h. h)
    binary_same BinaryOp.HasTag = access_same BinaryOp.HasTag (λ t y z h. h) (λ t y z path k h. h)
    binary_same BinaryOp.GetTag =
        two_same s P env _ _ _ l l' J J'
        (record {
          checked = λ t u v c c' y z d d' h. accessed u v c c' y z d d' BinaryOp.GetTag h;
          target = λ t u v c c' y z d d' path k le h.
              tag_targeted u v c c' y z d d' path k le h;
        })
    binary_same op = plain_same op refl (λ t y z h. h) (λ t y z path k h. h)
