-- The checked parts and the targets below a target have their errors among those of the target.
use Rattle.std.proofs.Common.{◌≡◌, Bool, true, false, List, [], ◌∷◌, ◌++◌, Option, Some, None, if◌then◌else◌, inl, inr, refl, subst}
use Rattle.cedar_types.specs.Errors.{Finding}
use Rattle.cedar_types.specs.Names.{Text, text_eq}
use Rattle.cedar_types.specs.Expressions.Parts.{field_values}
use Rattle.cedar_types.specs.Expressions.Tree.{if_then_else, binary, get_attr}
use Rattle.cedar_types.specs.Expressions.Tree.{record_of, Fields, no_fields, field}
use Rattle.cedar_typing.specs.Evaluation.Conformance.{IsOneOf}
use Rattle.cedar_typing.specs.TypedExpr.{TypedTree, Mark, annotation}
use Rattle.cedar_typing.proofs.Basics.{some_is}
use Rattle.cedar_typing.proofs.Basics.Members.{in_left, in_right}
use Rattle.cedar_typechecker.specs.Levels.Chains.{Base, an_entity, a_record, neither, base_of, is_get_tag, field_at}
use Rattle.cedar_typechecker.specs.Levels.Dereferences.{Target, along, fields_beside, checked_beside, target_of_field, next_of_access}
use Rattle.cedar_typechecker.specs.Levels.Dereferences.{checked_below, next_targets}
use Rattle.cedar_typechecker.specs.Levels.Setting.{LevelSetting}
use Rattle.cedar_typechecker.specs.Levels.Walk.{of_base, of_value, leaf_errors, checked_errors, field_errors, target_errors, errors_along}
use Rattle.cedar_typechecker.proofs.Levels.Inclusions.{Within, left, right, same, there, field_parts}

module _ (s : LevelSetting) where
  abbrev Checked : TypedTree → List Finding
  Checked = checked_errors s

  abbrev Targeted : Target → List Finding
  Targeted z = target_errors s z.tree z.path

  tag_parts : (c : Bool) (x y : TypedTree) (es : List Finding)
      → IsOneOf y (if c then x ∷ [] else [])
      → Within (Checked y) (if c then es ++ Checked x else [])
  tag_parts true x y es (inl q) = same s y x _ (right es (Checked x)) q
  tag_parts true x y es (inr i) = absurd i
  tag_parts false x y es i = absurd i

  beside_in : (fs : Fields Mark) (p : Text) (path : List Text) (y : TypedTree)
      → IsOneOf y (fields_beside p fs) → Within (Checked y) (errors_along s fs p path)
  beside_in no_fields p path y i = absurd i
  beside_in (field l t fs) p path y i = go (text_eq p l) i (λ j. beside_in fs p path y j)
    where
      go : (b : Bool) → IsOneOf y (if b then field_values fs else t ∷ fields_beside p fs)
          → (IsOneOf y (fields_beside p fs) → Within (Checked y) (errors_along s fs p path))
          → Within (Checked y) (if b then target_errors s t path ++ field_errors s fs else Checked t
          ++ errors_along s fs p path)
      go true i f =
          λ e h. in_right e (target_errors s t path) (field_errors s fs) (field_parts s fs y i e h)
      go false (inl q) f = same s y t _ (left (Checked t) (errors_along s fs p path)) q
      go false (inr i) f = λ e h. in_right e (Checked t) (errors_along s fs p path) (f i e h)

  record_parts : (fs : Fields Mark) (p : Text) (path : List Text) (o : Option TypedTree)
      (y : TypedTree) → IsOneOf y (checked_beside p fs o)
      → Within (Checked y) (of_value o (errors_along s fs p path))
  record_parts fs p path None y i = absurd i
  record_parts fs p path (Some t) y i = beside_in fs p path y i

  pub below_in : (x : TypedTree) (path : List Text) (y : TypedTree)
      → IsOneOf y (checked_below x path)
      → Within (Checked y) (target_errors s x path)
  below_in (if_then_else m b c d) path y (inl q) =
      same s y b _ (left (Checked b) (target_errors s c path ++ target_errors s d path)) q
  below_in (if_then_else m b c d) path y (inr i) = absurd i
  below_in (binary m o b c) path y i =
      λ e h. in_right e (leaf_errors s (binary m o b c) m path) _
      (tag_parts (is_get_tag o) c y (target_errors s b path) i e h)
  below_in (record_of m fs) [] y i = absurd i
  below_in (record_of m fs) (p ∷ path) y i =
      λ e h. in_right e (leaf_errors s (record_of m fs) m (p ∷ path)) _
      (record_parts fs p path (field_at p fs) y i e h)
  below_in x path y i = absurd i

  tag_next : (c : Bool) (x : TypedTree) (path : List Text) (z : Target) (es : List Finding)
      → IsOneOf z (if c then along x path ∷ [] else [])
      → Within (Targeted z) (if c then target_errors s x path ++ es else [])
  tag_next true x path z es (inl q) = there s z (along x path) _ (left (target_errors s x path) es) q
  tag_next true x path z es (inr i) = absurd i
  tag_next false x path z es i = absurd i

  access_next : (b : Base) (x : TypedTree) (l : Text) (path : List Text) (z : Target)
      → IsOneOf z (next_of_access b x l path)
      → Within (Targeted z) (of_base b (target_errors s x path) (target_errors s x (l ∷ path)))
  access_next an_entity x l path z (inl q) = there s z (along x path) _ (λ e h. h) q
  access_next an_entity x l path z (inr i) = absurd i
  access_next a_record x l path z (inl q) = there s z (along x (l ∷ path)) _ (λ e h. h) q
  access_next a_record x l path z (inr i) = absurd i
  access_next neither x l path z i = absurd i

  along_in : (fs : Fields Mark) (p : Text) (path : List Text) (t : TypedTree)
      → field_at p fs ≡ Some t → Within (target_errors s t path) (errors_along s fs p path)
  along_in no_fields p path t q = cc
  along_in (field l u fs) p path t q = go (text_eq p l) q (along_in fs p path t)
    where
      go : (b : Bool) → (if b then Some u else field_at p fs) ≡ Some t
          → (field_at p fs ≡ Some t → Within (target_errors s t path) (errors_along s fs p path))
          → Within (target_errors s t path)
          (if b then target_errors s u path ++ field_errors s fs else Checked u ++ errors_along s fs
          p path)
      go true q f = subst (λ z. Within (target_errors s z path)
          (target_errors s u path ++ field_errors s fs)) (some_is q)
          (left (target_errors s u path) (field_errors s fs))
      go false q f = λ e h. in_right e (Checked u) (errors_along s fs p path) (f q e h)

  record_next : (fs : Fields Mark) (p : Text) (path : List Text) (o : Option TypedTree)
      → field_at p fs ≡ o → (z : Target) → IsOneOf z (target_of_field o path)
      → Within (Targeted z) (of_value o (errors_along s fs p path))
  record_next fs p path None q z i = absurd i
  record_next fs p path (Some t) q z (inl r) = there s z (along t path) _ (along_in fs p path t q) r
  record_next fs p path (Some t) q z (inr i) = absurd i

  pub next_in : (x : TypedTree) (path : List Text) (z : Target) → IsOneOf z (next_targets x path)
      → Within (Targeted z) (target_errors s x path)
  next_in (if_then_else m b c d) path z (inl q) =
      there s z (along c path) _ (λ e h. in_right e (Checked b) _
      (in_left e (target_errors s c path) (target_errors s d path) h)) q
  next_in (if_then_else m b c d) path z (inr (inl q)) =
      there s z (along d path) _ (λ e h. in_right e (Checked b) _
      (in_right e (target_errors s c path) (target_errors s d path) h)) q
  next_in (if_then_else m b c d) path z (inr (inr i)) = absurd i
  next_in (binary m o b c) path z i =
      λ e h. in_right e (leaf_errors s (binary m o b c) m path) _
      (tag_next (is_get_tag o) b path z (Checked c) i e h)
  next_in (get_attr m b x) path z i =
      λ e h. in_right e (leaf_errors s (get_attr m b x) m path) _
      (access_next (base_of (annotation b)) b x path z i e h)
  next_in (record_of m fs) [] z i = absurd i
  next_in (record_of m fs) (p ∷ path) z i =
      λ e h. in_right e (leaf_errors s (record_of m fs) m (p ∷ path)) _
      (record_next fs p path (field_at p fs) refl z i e h)
  next_in x path z i = absurd i
