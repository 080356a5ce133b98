-- The walk finds each error of the dereference rules, and nothing else.
use Rattle.std.proofs.Common.{◌≡◌, ℕ, Bool, true, false, nat_le, List, [], ◌∷◌, ◌++◌, Option, Some, None, if◌then◌else◌, inl, inr, refl, sym, subst}
use Rattle.cedar_types.specs.Errors.{Finding}
use Rattle.cedar_types.specs.Names.{Text, text_eq}
use Rattle.cedar_types.specs.Expressions.Parts.{listed, field_values}
use Rattle.cedar_types.specs.Expressions.Tree.{lit, var, slot, unknown, if_then_else, and, or, unary, binary, call, get_attr, has_attr, ext_has_attr, like, is_type, set_of, record_of, Trees, no_trees, tree, Fields, no_fields, field}
use Rattle.cedar_typing.specs.Evaluation.Conformance.{IsOneOf}
use Rattle.cedar_typing.specs.TypedExpr.{TypedTree, Mark, mark_of, annotation}
use Rattle.cedar_typing.proofs.Basics.{some_is}
use Rattle.cedar_typechecker.specs.Levels.Chains.{Base, an_entity, a_record, neither, base_of, is_get_tag, field_at, leaf_of}
use Rattle.cedar_typechecker.specs.Levels.Costs.{cost_of, keys_of}
use Rattle.cedar_typechecker.specs.Levels.Dereferences.{along, accesses_first, checked_of_chain, targets_of_chain, target_at_keys, checked_of_base, targets_of_base, fields_beside, checked_beside, target_of_field, next_of_access, IsChecked, the_root, part_of_checked, part_of_target, IsTarget, target_of_checked, next_target}
use Rattle.cedar_typechecker.specs.Levels.Errors.{faults, faults_at_end, level_finding, IsLevelError, at_checked, at_target}
use Rattle.cedar_typechecker.specs.Levels.Laws.{WalkFindsErrors, SilentWalkIsWithin}
use Rattle.cedar_typechecker.specs.Levels.Setting.{LevelSetting}
use Rattle.cedar_typechecker.specs.Levels.Walk.{found_at, of_base, of_keys, of_value, of_chain, leaf_errors, checked_errors, all_errors, field_errors, target_errors, errors_along}
use Rattle.cedar_typechecker.proofs.Levels.Inclusions.{Within, in_either, if_in, then_in, found_back, parts_in, targets_in}
use Rattle.cedar_typechecker.proofs.Levels.InclusionsBelow.{below_in, next_in}
use Rattle.cedar_typechecker.proofs.Levels.InclusionsHere.{node_in, leaf_in}

module _ (s : LevelSetting) where
  abbrev Checked : TypedTree → List Finding
  Checked = checked_errors s

  -- ---- each error is found

  module _ (root : TypedTree) where
    mutual
      of_checked : {x : TypedTree} → IsChecked s root x → Within (Checked x) (Checked root)
      of_checked the_root = λ e h. h
      of_checked (part_of_checked {x = x} {y = y} c i) =
          λ e h. of_checked c e (parts_in s x y i e h)
      of_checked (part_of_target {x = x} {y = y} {path = path} t i) =
          λ e h. of_target t e (below_in s x path y i e h)

      pub of_target : {x : TypedTree} {path : List Text} → IsTarget s root x path
          → Within (target_errors s x path) (Checked root)
      of_target (target_of_checked {x = x} {y = y} {path = path} c i) =
          λ e h. of_checked c e (targets_in s x (along y path) i e h)
      of_target (next_target {x = x} {y = y} {path = path} {path' = path'} t i) =
          λ e h. of_target t e (next_in s x path (along y path') i e h)

    is_found : (e : Finding) → IsLevelError s root e → IsOneOf e (Checked root)
    is_found e (at_checked {x = x} {f = v} c i) =
        of_checked c (level_finding s (mark_of x) v) (node_in s x v i)
    is_found e (at_target {x = x} {path = path} {f = v} t i) =
        of_target t (level_finding s (mark_of x) v) (leaf_in s x path v i)

    -- ---- nothing else is found

    abbrev IsError : Finding → Type 0
    IsError e = IsLevelError s root e

    node_error : (x : TypedTree) → IsChecked s root x → (e : Finding)
        → IsOneOf e (found_at s (mark_of x) (faults s x)) → IsError e
    node_error x c e i =
        let r = found_back s (mark_of x) (faults s x) e i in
        subst IsError (sym r.2) (at_checked c r.1)

    leaf_error : (x : TypedTree) (path : List Text) → IsTarget s root x path → (e : Finding)
        → IsOneOf e (leaf_errors s x (mark_of x) path) → IsError e
    leaf_error x path t e i =
        let r = found_back s (mark_of x) (faults_at_end (leaf_of s.action x path)) e i in
        subst IsError (sym r.2) (at_target t r.1)

    second_in : (b : Bool) (x y : TypedTree) → IsOneOf y (if b then y ∷ [] else x ∷ y ∷ [])
    second_in true x y = inl refl
    second_in false x y = inr (inl refl)

    operator_error : (b : Bool) (x y : TypedTree) (e : Finding)
        → IsOneOf e (if b then target_errors s x [] else Checked x)
        → (IsOneOf (along x []) (if b then along x [] ∷ [] else [])
        → IsOneOf e (target_errors s x []) → IsError e)
        → (IsOneOf x (if b then y ∷ [] else x ∷ y ∷ []) → IsOneOf e (Checked x) → IsError e)
        → IsError e
    operator_error true x y e h f g = f (inl refl) h
    operator_error false x y e h f g = g (inl refl) h

    base_error : (b : Base) (x : TypedTree) (e : Finding)
        → IsOneOf e (of_base b (target_errors s x []) (Checked x))
        → (IsOneOf (along x []) (targets_of_base b x) → IsOneOf e (target_errors s x [])
        → IsError e) → (IsOneOf x (checked_of_base b x) → IsOneOf e (Checked x) → IsError e)
        → IsError e
    base_error an_entity x e h f g = f (inl refl) h
    base_error a_record x e h f g = g (inl refl) h
    base_error neither x e h f g = absurd h

    keys_error : (keys : Option (List Text)) (x : TypedTree) (e : Finding)
        → IsOneOf e (of_keys keys (target_errors s x))
        → ((path : List Text) → IsOneOf (along x path) (target_at_keys x keys)
        → IsOneOf e (target_errors s x path) → IsError e) → IsError e
    keys_error None x e h f = absurd h
    keys_error (Some path) x e h f = f path (inl refl) h

    chain_error : (b : Base) (c : ℕ) (keys : Option (List Text)) (x : TypedTree) (e : Finding)
        → IsOneOf e (of_chain s.maximum b c keys (target_errors s x) (Checked x))
        → ((path : List Text) → IsOneOf (along x path) (targets_of_chain s.maximum b c x keys)
        → IsOneOf e (target_errors s x path) → IsError e)
        → (IsOneOf x (checked_of_chain s.maximum b c x) → IsOneOf e (Checked x) → IsError e)
        → IsError e
    chain_error an_entity c keys x e h f g =
        if_in (nat_le c s.maximum) e (target_errors s x []) (IsError e) h
        (λ q i. f [] (then_in (nat_le c s.maximum) (along x []) _ [] q (inl refl)) i)
    chain_error a_record c keys x e h f g =
        if_in (nat_le c s.maximum) e (Checked x ++ of_keys keys (target_errors s x)) (IsError e) h
        (λ q i. in_either (Checked x) (of_keys keys (target_errors s x)) e (IsError e) i
        (λ j. g (then_in (nat_le c s.maximum) x _ [] q (inl refl)) j)
        (λ j. keys_error keys x e j
        (λ path k w. f path (then_in (nat_le c s.maximum) (along x path) _ [] q k) w)))
    chain_error neither c keys x e h f g = g (inl refl) h

    tag_error : (b : Bool) (x y : TypedTree) (path : List Text) (e : Finding)
        → IsOneOf e (if b then target_errors s x path ++ Checked y else [])
        → (IsOneOf (along x path) (if b then along x path ∷ [] else [])
        → IsOneOf e (target_errors s x path) → IsError e)
        → (IsOneOf y (if b then y ∷ [] else []) → IsOneOf e (Checked y) → IsError e) → IsError e
    tag_error true x y path e h f g =
        in_either (target_errors s x path) (Checked y) e (IsError e) h (f (inl refl)) (g (inl refl))
    tag_error false x y path e h f g = absurd h

    access_error : (b : Base) (x : TypedTree) (l : Text) (path : List Text) (e : Finding)
        → IsOneOf e (of_base b (target_errors s x path) (target_errors s x (l ∷ path)))
        → ((path' : List Text) → IsOneOf (along x path') (next_of_access b x l path)
        → IsOneOf e (target_errors s x path') → IsError e) → IsError e
    access_error an_entity x l path e h f = f path (inl refl) h
    access_error a_record x l path e h f = f (l ∷ path) (inl refl) h
    access_error neither x l path e h f = absurd h

    -- a field of a record literal that is a target
    along_by : (fs : Fields Mark) (p : Text) (path : List Text) (u t : TypedTree) (e : Finding)
        → IsTarget s root t path
        → (IsTarget s root u path → IsOneOf e (target_errors s u path) → IsError e)
        → (IsChecked s root u → IsOneOf e (Checked u) → IsError e)
        → (((y : TypedTree) → IsOneOf y (field_values fs) → IsChecked s root y)
        → IsOneOf e (field_errors s fs) → IsError e)
        → (field_at p fs ≡ Some t
        → ((y : TypedTree) → IsOneOf y (fields_beside p fs) → IsChecked s root y)
        → IsOneOf e (errors_along s fs p path) → IsError e)
        → (b : Bool) → (if b then Some u else field_at p fs) ≡ Some t
        → ((y : TypedTree) → IsOneOf y (if b then field_values fs else u ∷ fields_beside p fs)
        → IsChecked s root y)
        → IsOneOf e (if b then target_errors s u path ++ field_errors s fs else Checked u
        ++ errors_along s fs p path) → IsError e
    along_by fs p path u t e h f g i j true q c k =
        in_either (target_errors s u path) (field_errors s fs) e (IsError e) k
        (f (subst (λ z. IsTarget s root z path) (sym (some_is q)) h)) (i c)
    along_by fs p path u t e h f g i j false q c k =
        in_either (Checked u) (errors_along s fs p path) e (IsError e) k (g (c u (inl refl)))
        (j q (λ y w. c y (inr w)))

    field_error : (fs : Fields Mark) (p : Text) (path : List Text) (e : Finding)
        → ((z : TypedTree) → IsOneOf (along z path) (target_of_field (field_at p fs) path)
        → IsTarget s root z path)
        → ((y : TypedTree) → IsOneOf y (checked_beside p fs (field_at p fs)) → IsChecked s root y)
        → ((z : TypedTree) → field_at p fs ≡ Some z → IsTarget s root z path
        → ((y : TypedTree) → IsOneOf y (fields_beside p fs) → IsChecked s root y)
        → IsOneOf e (errors_along s fs p path) → IsError e)
        → (o : Option TypedTree) → field_at p fs ≡ o
        → IsOneOf e (of_value o (errors_along s fs p path)) → IsError e
    field_error fs p path e f g k None q h = absurd h
    field_error fs p path e f g k (Some z) q h =
        k z q (f z
        (subst (λ o. IsOneOf (along z path) (target_of_field o path)) (sym q) (inl refl)))
        (λ y i. g y (subst (λ o. IsOneOf y (checked_beside p fs o)) (sym q) i)) h

    mutual
      checked_error : (x : TypedTree) → IsChecked s root x → (e : Finding) → IsOneOf e (Checked x)
          → IsError e
      checked_error (lit m x) c e h = absurd h
      checked_error (var m x) c e h = absurd h
      checked_error (slot m x) c e h = absurd h
      checked_error (unknown m x) c e h = absurd h
      checked_error (if_then_else m x y z) c e h =
          in_either (Checked x) (Checked y ++ Checked z) e (IsError e) h
          (checked_error x (part_of_checked c (inl refl)) e)
          (λ i. in_either (Checked y) (Checked z) e (IsError e) i
          (checked_error y (part_of_checked c (inr (inl refl))) e)
          (checked_error z (part_of_checked c (inr (inr (inl refl)))) e))
      checked_error (and m x y) c e h =
          in_either (Checked x) (Checked y) e (IsError e) h
          (checked_error x (part_of_checked c (inl refl)) e)
          (checked_error y (part_of_checked c (inr (inl refl))) e)
      checked_error (or m x y) c e h =
          in_either (Checked x) (Checked y) e (IsError e) h
          (checked_error x (part_of_checked c (inl refl)) e)
          (checked_error y (part_of_checked c (inr (inl refl))) e)
      checked_error (unary m o x) c e h = checked_error x (part_of_checked c (inl refl)) e h
      checked_error (binary m o x y) c e h =
          in_either (found_at s m (faults s (binary m o x y))) _ e (IsError e) h
          (node_error (binary m o x y) c e)
          (λ i. in_either (if accesses_first o then target_errors s x [] else Checked x) (Checked y)
          e (IsError e) i
          (λ j. operator_error (accesses_first o) x y e j
          (λ k. target_error x [] (target_of_checked c k) e)
          (λ k. checked_error x (part_of_checked c k) e))
          (checked_error y (part_of_checked c (second_in (accesses_first o) x y)) e))
      checked_error (call m f ts) c e h = all_error ts (λ y i. part_of_checked c i) e h
      checked_error (get_attr m x l) c e h =
          in_either (found_at s m (faults s (get_attr m x l))) _ e (IsError e) h
          (node_error (get_attr m x l) c e)
          (λ i. base_error (base_of (annotation x)) x e i
          (λ k. target_error x [] (target_of_checked c k) e)
          (λ k. checked_error x (part_of_checked c k) e))
      checked_error (has_attr m x l) c e h =
          in_either (found_at s m (faults s (has_attr m x l))) _ e (IsError e) h
          (node_error (has_attr m x l) c e)
          (λ i. base_error (base_of (annotation x)) x e i
          (λ k. target_error x [] (target_of_checked c k) e)
          (λ k. checked_error x (part_of_checked c k) e))
      checked_error (ext_has_attr m x l ls) c e h =
          in_either (found_at s m (faults s (ext_has_attr m x l ls))) _ e (IsError e) h
          (node_error (ext_has_attr m x l ls) c e)
          (λ i. chain_error (base_of (annotation x)) (cost_of s.schema (annotation x) l ls)
          (keys_of s.schema (annotation x) l ls) x e i
          (λ path k. target_error x path (target_of_checked c k) e)
          (λ k. checked_error x (part_of_checked c k) e))
      checked_error (like m x p) c e h = checked_error x (part_of_checked c (inl refl)) e h
      checked_error (is_type m x p) c e h = checked_error x (part_of_checked c (inl refl)) e h
      checked_error (set_of m ts) c e h = all_error ts (λ y i. part_of_checked c i) e h
      checked_error (record_of m fs) c e h = fields_error fs (λ y i. part_of_checked c i) e h

      all_error : (ts : Trees Mark) → ((y : TypedTree) → IsOneOf y (listed ts) → IsChecked s root y)
          → (e : Finding) → IsOneOf e (all_errors s ts) → IsError e
      all_error no_trees c e h = absurd h
      all_error (tree t ts) c e h =
          in_either (Checked t) (all_errors s ts) e (IsError e) h
          (checked_error t (c t (inl refl)) e) (all_error ts (λ y i. c y (inr i)) e)

      fields_error : (fs : Fields Mark)
          → ((y : TypedTree) → IsOneOf y (field_values fs) → IsChecked s root y) → (e : Finding)
          → IsOneOf e (field_errors s fs) → IsError e
      fields_error no_fields c e h = absurd h
      fields_error (field k t fs) c e h =
          in_either (Checked t) (field_errors s fs) e (IsError e) h
          (checked_error t (c t (inl refl)) e) (fields_error fs (λ y i. c y (inr i)) e)

      target_error : (x : TypedTree) (path : List Text) → IsTarget s root x path → (e : Finding)
          → IsOneOf e (target_errors s x path) → IsError e
      target_error (lit m x) path t e h = leaf_error (lit m x) path t e h
      target_error (var m x) path t e h = absurd h
      target_error (slot m x) path t e h = leaf_error (slot m x) path t e h
      target_error (unknown m x) path t e h = leaf_error (unknown m x) path t e h
      target_error (if_then_else m x y z) path t e h =
          in_either (Checked x) (target_errors s y path ++ target_errors s z path) e (IsError e) h
          (checked_error x (part_of_target t (inl refl)) e)
          (λ i. in_either (target_errors s y path) (target_errors s z path) e (IsError e) i
          (target_error y path (next_target t (inl refl)) e)
          (target_error z path (next_target t (inr (inl refl))) e))
      target_error (and m x y) path t e h = leaf_error (and m x y) path t e h
      target_error (or m x y) path t e h = leaf_error (or m x y) path t e h
      target_error (unary m o x) path t e h = leaf_error (unary m o x) path t e h
      target_error (binary m o x y) path t e h =
          in_either (leaf_errors s (binary m o x y) m path) _ e (IsError e) h
          (leaf_error (binary m o x y) path t e)
          (λ i. tag_error (is_get_tag o) x y path e i (λ k. target_error x path (next_target t k) e)
          (λ k. checked_error y (part_of_target t k) e))
      target_error (call m f ts) path t e h = leaf_error (call m f ts) path t e h
      target_error (get_attr m x l) path t e h =
          in_either (leaf_errors s (get_attr m x l) m path) _ e (IsError e) h
          (leaf_error (get_attr m x l) path t e)
          (λ i. access_error (base_of (annotation x)) x l path e i
          (λ path' k. target_error x path' (next_target t k) e))
      target_error (has_attr m x l) path t e h = leaf_error (has_attr m x l) path t e h
      target_error (ext_has_attr m x l ls) path t e h =
          leaf_error (ext_has_attr m x l ls) path t e h
      target_error (like m x p) path t e h = leaf_error (like m x p) path t e h
      target_error (is_type m x p) path t e h = leaf_error (is_type m x p) path t e h
      target_error (set_of m ts) path t e h = leaf_error (set_of m ts) path t e h
      target_error (record_of m fs) [] t e h =
          in_either (leaf_errors s (record_of m fs) m []) [] e (IsError e) h
          (leaf_error (record_of m fs) [] t e) (λ i. absurd i)
      target_error (record_of m fs) (p ∷ path) t e h =
          in_either (leaf_errors s (record_of m fs) m (p ∷ path)) _ e (IsError e) h
          (leaf_error (record_of m fs) (p ∷ path) t e)
          (λ i. field_error fs p path e (λ z k. next_target t k) (λ y k. part_of_target t k)
          (λ z q w c j. along_error fs p path z q w c e j) (field_at p fs) refl i)

      along_error : (fs : Fields Mark) (p : Text) (path : List Text) (z : TypedTree)
          → field_at p fs ≡ Some z → IsTarget s root z path
          → ((y : TypedTree) → IsOneOf y (fields_beside p fs) → IsChecked s root y) → (e : Finding)
          → IsOneOf e (errors_along s fs p path) → IsError e
      along_error no_fields p path z q t c e h = absurd h
      along_error (field l u fs) p path z q t c e h =
          along_by fs p path u z e t (λ i. target_error u path i e) (λ i. checked_error u i e)
          (λ i. fields_error fs i e) (λ q c i. along_error fs p path z q t c e i) (text_eq p l)
          q c h

pub walk_finds_errors : WalkFindsErrors
walk_finds_errors s root e = (is_found s root e, λ h. checked_error s root root the_root e h)

pub no_member : (xs : List Finding) → ((e : Finding) → IsOneOf e xs → ⊥) → xs ≡ []
no_member [] h = refl
no_member (e ∷ xs) h = absurd (h e (inl refl))

pub silent_walk_is_within : SilentWalkIsWithin
silent_walk_is_within s root = (
  λ none e h. subst (λ xs. IsOneOf e xs) none ((walk_finds_errors s root e).0 h),
  λ within. no_member (checked_errors s root) (λ e h. within e ((walk_finds_errors s root e).1 h)),
)
