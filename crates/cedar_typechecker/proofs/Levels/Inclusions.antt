-- The checked parts and the targets below a node have their errors among those of the node.
use Rattle.std.proofs.Common.{◌≡◌, ℕ, Bool, true, false, nat_le, List, [], ◌∷◌, ◌++◌, Option, Some, None, if◌then◌else◌, inl, inr, refl}
use Rattle.std.proofs.Common.{sym, subst}
use Rattle.cedar_types.specs.Errors.{Fault, Finding}
use Rattle.cedar_types.specs.Names.{Text}
use Rattle.cedar_types.specs.Expressions.Parts.{listed, field_values}
use Rattle.cedar_types.specs.Expressions.Tree.{lit, var, slot, unknown, if_then_else, and, or, unary, binary, call, get_attr, has_attr}
use Rattle.cedar_types.specs.Expressions.Tree.{ext_has_attr, like, is_type, set_of, record_of, Trees, no_trees, tree, Fields, no_fields}
use Rattle.cedar_types.specs.Expressions.Tree.{field}
use Rattle.cedar_typing.specs.Evaluation.Conformance.{IsOneOf}
use Rattle.cedar_typing.specs.TypedExpr.{TypedTree, Mark, annotation}
use Rattle.cedar_typing.proofs.Basics.Members.{in_left, in_right}
use Rattle.cedar_typechecker.specs.Levels.Chains.{Base, an_entity, a_record, neither, base_of}
use Rattle.cedar_typechecker.specs.Levels.Costs.{cost_of, keys_of}
use Rattle.cedar_typechecker.specs.Levels.Dereferences.{Target, along, accesses_first, checked_of_chain, targets_of_chain, target_at_keys}
use Rattle.cedar_typechecker.specs.Levels.Dereferences.{checked_of_base, targets_of_base, checked_parts, targets}
use Rattle.cedar_typechecker.specs.Levels.Errors.{faults, level_finding}
use Rattle.cedar_typechecker.specs.Levels.Setting.{LevelSetting}
use Rattle.cedar_typechecker.specs.Levels.Walk.{found_at, of_base, of_keys, of_chain, checked_errors, all_errors, field_errors}
use Rattle.cedar_typechecker.specs.Levels.Walk.{target_errors}

abbrev pub Within : List Finding → List Finding → Type 0
Within xs ys = (e : Finding) → IsOneOf e xs → IsOneOf e ys

pub in_either : {A : Type 0} (xs ys : List A) (x : A) (X : Type 0) → IsOneOf x (xs ++ ys)
    → (IsOneOf x xs → X) → (IsOneOf x ys → X) → X
in_either [] ys x X h f g = g h
in_either (y ∷ xs) ys x X (inl e) f g = f (inl e)
in_either (y ∷ xs) ys x X (inr h) f g = in_either xs ys x X h (λ i. f (inr i)) g

pub if_in : {A : Type 0} (b : Bool) (x : A) (xs : List A) (X : Type 0)
    → IsOneOf x (if b then xs else []) → (b ≡ true → IsOneOf x xs → X) → X
if_in true x xs X h f = f refl h
if_in false x xs X h f = absurd h

pub then_in : {A : Type 0} (b : Bool) (x : A) (xs ys : List A) → b ≡ true → IsOneOf x xs
    → IsOneOf x (if b then xs else ys)
then_in true x xs ys e h = h
then_in false x xs ys e h = cc

-- an error at a node comes from a fault that was found there
pub found_back : (s : LevelSetting) (m : Mark) (fs : List Fault) (e : Finding)
    → IsOneOf e (found_at s m fs) → (f : Fault) × IsOneOf f fs × (e ≡ level_finding s m f)
found_back s m [] e h = absurd h
found_back s m (f ∷ fs) e (inl q) = (f, inl refl, q)
found_back s m (f ∷ fs) e (inr h) = let r = found_back s m fs e h in (r.0, inr r.1, r.2)

pub left : (xs ys : List Finding) → Within xs (xs ++ ys)
left xs ys e h = in_left e xs ys h

pub right : (xs ys : List Finding) → Within ys (xs ++ ys)
right xs ys e h = in_right e xs ys h

module _ (s : LevelSetting) where
  abbrev Checked : TypedTree → List Finding
  Checked = checked_errors s

  abbrev Targeted : Target → List Finding
  Targeted z = target_errors s z.tree z.path

  pub same : (x y : TypedTree) (es : List Finding) → Within (Checked y) es → x ≡ y
      → Within (Checked x) es
  same x y es h e = subst (λ z. Within (Checked z) es) (sym e) h

  pub there : (x y : Target) (es : List Finding) → Within (Targeted y) es → x ≡ y
      → Within (Targeted x) es
  there x y es h e = subst (λ z. Within (Targeted z) es) (sym e) h

  -- ---- checked parts of a checked expression

  all_parts : (ts : Trees Mark) (y : TypedTree) → IsOneOf y (listed ts)
      → Within (Checked y) (all_errors s ts)
  all_parts no_trees y i = absurd i
  all_parts (tree t ts) y (inl e) = same y t _ (left (Checked t) (all_errors s ts)) e
  all_parts (tree t ts) y (inr i) =
      λ e h. in_right e (Checked t) (all_errors s ts) (all_parts ts y i e h)

  pub field_parts : (fs : Fields Mark) (y : TypedTree) → IsOneOf y (field_values fs)
      → Within (Checked y) (field_errors s fs)
  field_parts no_fields y i = absurd i
  field_parts (field k t fs) y (inl e) = same y t _ (left (Checked t) (field_errors s fs)) e
  field_parts (field k t fs) y (inr i) =
      λ e h. in_right e (Checked t) (field_errors s fs) (field_parts fs y i e h)

  base_parts : (b : Base) (x y : TypedTree) (es : List Finding) → IsOneOf y (checked_of_base b x)
      → Within (Checked y) (of_base b es (Checked x))
  base_parts an_entity x y es i = absurd i
  base_parts a_record x y es (inl e) = same y x _ (λ e h. h) e
  base_parts a_record x y es (inr i) = absurd i
  base_parts neither x y es i = absurd i

  operator_parts : (c : Bool) (x z y : TypedTree) (es : List Finding)
      → IsOneOf y (if c then z ∷ [] else x ∷ z ∷ [])
      → Within (Checked y) ((if c then es else Checked x) ++ Checked z)
  operator_parts true x z y es (inl e) = same y z _ (right es (Checked z)) e
  operator_parts true x z y es (inr i) = absurd i
  operator_parts false x z y es (inl e) = same y x _ (left (Checked x) (Checked z)) e
  operator_parts false x z y es (inr (inl e)) = same y z _ (right (Checked x) (Checked z)) e
  operator_parts false x z y es (inr (inr i)) = absurd i

  chain_parts : (b : Base) (c : ℕ) (keys : Option (List Text)) (x y : TypedTree)
      → IsOneOf y (checked_of_chain s.maximum b c x)
      → Within (Checked y) (of_chain s.maximum b c keys (target_errors s x) (Checked x))
  chain_parts an_entity c keys x y i = absurd i
  chain_parts a_record c keys x y i =
      λ e h. if_in (nat_le c s.maximum) y (x ∷ [])
      (IsOneOf e (of_chain s.maximum a_record c keys (target_errors s x) (Checked x))) i
      (λ q j. then_in (nat_le c s.maximum) e _ [] q (one j e h))
    where
      one : IsOneOf y (x ∷ []) → Within (Checked y) (Checked x ++ of_keys keys (target_errors s x))
      one (inl e) = same y x _ (left (Checked x) (of_keys keys (target_errors s x))) e
      one (inr j) = absurd j
  chain_parts neither c keys x y (inl e) = same y x _ (λ e h. h) e
  chain_parts neither c keys x y (inr i) = absurd i

  pub parts_in : (x y : TypedTree) → IsOneOf y (checked_parts s x) → Within (Checked y) (Checked x)
  parts_in (lit m x) y i = absurd i
  parts_in (var m x) y i = absurd i
  parts_in (slot m x) y i = absurd i
  parts_in (unknown m x) y i = absurd i
  parts_in (if_then_else m b c d) y (inl q) =
      same y b _ (left (Checked b) (Checked c ++ Checked d)) q
  parts_in (if_then_else m b c d) y (inr (inl q)) =
      same y c _ (λ e h. in_right e (Checked b) (Checked c ++ Checked d)
      (in_left e (Checked c) (Checked d) h)) q
  parts_in (if_then_else m b c d) y (inr (inr (inl q))) =
      same y d _ (λ e h. in_right e (Checked b) (Checked c ++ Checked d)
      (in_right e (Checked c) (Checked d) h)) q
  parts_in (if_then_else m b c d) y (inr (inr (inr i))) = absurd i
  parts_in (and m b c) y (inl q) = same y b _ (left (Checked b) (Checked c)) q
  parts_in (and m b c) y (inr (inl q)) = same y c _ (right (Checked b) (Checked c)) q
  parts_in (and m b c) y (inr (inr i)) = absurd i
  parts_in (or m b c) y (inl q) = same y b _ (left (Checked b) (Checked c)) q
  parts_in (or m b c) y (inr (inl q)) = same y c _ (right (Checked b) (Checked c)) q
  parts_in (or m b c) y (inr (inr i)) = absurd i
  parts_in (unary m o b) y (inl q) = same y b _ (λ e h. h) q
  parts_in (unary m o b) y (inr i) = absurd i
  parts_in (binary m o b c) y i =
      λ e h. in_right e (found_at s m (faults s (binary m o b c))) _
      (operator_parts (accesses_first o) b c y (target_errors s b []) i e h)
  parts_in (call m f ts) y i = all_parts ts y i
  parts_in (get_attr m b x) y i =
      λ e h. in_right e (found_at s m (faults s (get_attr m b x))) _
      (base_parts (base_of (annotation b)) b y (target_errors s b []) i e h)
  parts_in (has_attr m b x) y i =
      λ e h. in_right e (found_at s m (faults s (has_attr m b x))) _
      (base_parts (base_of (annotation b)) b y (target_errors s b []) i e h)
  parts_in (ext_has_attr m b x xs) y i =
      λ e h. in_right e (found_at s m (faults s (ext_has_attr m b x xs))) _
      (chain_parts (base_of (annotation b)) (cost_of s.schema (annotation b) x xs)
      (keys_of s.schema (annotation b) x xs) b y i e h)
  parts_in (like m b p) y (inl q) = same y b _ (λ e h. h) q
  parts_in (like m b p) y (inr i) = absurd i
  parts_in (is_type m b p) y (inl q) = same y b _ (λ e h. h) q
  parts_in (is_type m b p) y (inr i) = absurd i
  parts_in (set_of m ts) y i = all_parts ts y i
  parts_in (record_of m fs) y i = field_parts fs y i

  -- ---- targets of a checked expression

  base_targets : (b : Base) (x : TypedTree) (z : Target) (es : List Finding)
      → IsOneOf z (targets_of_base b x) → Within (Targeted z) (of_base b (target_errors s x []) es)
  base_targets an_entity x z es (inl q) = there z (along x []) _ (λ e h. h) q
  base_targets an_entity x z es (inr i) = absurd i
  base_targets a_record x z es i = absurd i
  base_targets neither x z es i = absurd i

  operator_targets : (c : Bool) (x : TypedTree) (z : Target) (es fs : List Finding)
      → IsOneOf z (if c then along x [] ∷ [] else [])
      → Within (Targeted z) ((if c then target_errors s x [] else es) ++ fs)
  operator_targets true x z es fs (inl q) =
      there z (along x []) _ (left (target_errors s x []) fs) q
  operator_targets true x z es fs (inr i) = absurd i
  operator_targets false x z es fs i = absurd i

  key_targets : (keys : Option (List Text)) (x : TypedTree) (z : Target)
      → IsOneOf z (target_at_keys x keys) → Within (Targeted z) (of_keys keys (target_errors s x))
  key_targets None x z i = absurd i
  key_targets (Some path) x z (inl q) = there z (along x path) _ (λ e h. h) q
  key_targets (Some path) x z (inr i) = absurd i

  chain_targets : (b : Base) (c : ℕ) (keys : Option (List Text)) (x : TypedTree) (z : Target)
      → IsOneOf z (targets_of_chain s.maximum b c x keys)
      → Within (Targeted z) (of_chain s.maximum b c keys (target_errors s x) (Checked x))
  chain_targets an_entity c keys x z i =
      λ e h. if_in (nat_le c s.maximum) z (along x [] ∷ [])
      (IsOneOf e (of_chain s.maximum an_entity c keys (target_errors s x) (Checked x))) i
      (λ q j. then_in (nat_le c s.maximum) e _ [] q (one j e h))
    where
      one : IsOneOf z (along x [] ∷ []) → Within (Targeted z) (target_errors s x [])
      one (inl q) = there z (along x []) _ (λ e h. h) q
      one (inr j) = absurd j
  chain_targets a_record c keys x z i =
      λ e h. if_in (nat_le c s.maximum) z (target_at_keys x keys)
      (IsOneOf e (of_chain s.maximum a_record c keys (target_errors s x) (Checked x))) i
      (λ q j. then_in (nat_le c s.maximum) e _ [] q
      (in_right e (Checked x) _ (key_targets keys x z j e h)))
  chain_targets neither c keys x z i = absurd i

  pub targets_in : (x : TypedTree) (z : Target) → IsOneOf z (targets s x)
      → Within (Targeted z) (Checked x)
  targets_in (binary m o b c) z i =
      λ e h. in_right e (found_at s m (faults s (binary m o b c))) _
      (operator_targets (accesses_first o) b z (Checked b) (Checked c) i e h)
  targets_in (get_attr m b x) z i =
      λ e h. in_right e (found_at s m (faults s (get_attr m b x))) _
      (base_targets (base_of (annotation b)) b z (Checked b) i e h)
  targets_in (has_attr m b x) z i =
      λ e h. in_right e (found_at s m (faults s (has_attr m b x))) _
      (base_targets (base_of (annotation b)) b z (Checked b) i e h)
  targets_in (ext_has_attr m b x xs) z i =
      λ e h. in_right e (found_at s m (faults s (ext_has_attr m b x xs))) _
      (chain_targets (base_of (annotation b)) (cost_of s.schema (annotation b) x xs)
      (keys_of s.schema (annotation b) x xs) b z i e h)
  targets_in x z i = absurd i
