-- Each target in an expression without level errors has at most the level that is allowed, and no
-- error is found along it.
use Rattle.std.proofs.Common.{◌≡◌, ℕ, ◌+◌, ◌≤◌, Bool, true, false, nat_lt, nat_le, List, [], ◌∷◌, Option, Some, None, if◌then◌else◌, inl}
use Rattle.std.proofs.Common.{inr, refl, sym, subst, arith}
use Rattle.std.proofs.lemmas.Bool.{ltb-true, leb-true}
use Rattle.cedar_types.specs.declared.base.expressions.operators.BinaryOp.{BinaryOp}
use Rattle.cedar_types.specs.Errors.{Fault, Finding}
use Rattle.cedar_types.specs.Names.{Text, text_eq}
use Rattle.cedar_types.specs.Expressions.Tree.{if_then_else, binary, get_attr, has_attr, ext_has_attr, record_of, Fields, no_fields, field}
use Rattle.cedar_typing.specs.Evaluation.Conformance.{IsOneOf}
use Rattle.cedar_typing.specs.TypedExpr.{TypedTree, Mark, mark_of, annotation}
use Rattle.cedar_typechecker.specs.Levels.Chains.{Base, an_entity, a_record, neither, base_of, is_get_tag, field_at, chains_of_access}
use Rattle.cedar_typechecker.specs.Levels.Chains.{chains_of_operator, chains, field_chains, greatest, level}
use Rattle.cedar_typechecker.specs.Levels.Costs.{cost_of, keys_of}
use Rattle.cedar_typechecker.specs.Levels.Dereferences.{Target, along, accesses_first, targets_of_base, target_at_keys, targets_of_chain}
use Rattle.cedar_typechecker.specs.Levels.Dereferences.{targets, target_of_field, next_of_access, next_targets, IsTarget, target_of_checked}
use Rattle.cedar_typechecker.specs.Levels.Dereferences.{next_target}
use Rattle.cedar_typechecker.specs.Levels.Errors.{exceeds, unless_below, unless_within, faults_of_base, level_at_keys, faults_of_chain}
use Rattle.cedar_typechecker.specs.Levels.Errors.{faults, level_finding, at_checked, IsWithinLevel}
use Rattle.cedar_typechecker.specs.Levels.Setting.{LevelSetting}
use Rattle.cedar_typechecker.specs.Levels.Walk.{checked_errors, target_errors}
use Rattle.cedar_typechecker.proofs.Levels.Greatest.{has_chain, greatest_of_both, greatest_more}
use Rattle.cedar_typechecker.proofs.Levels.Silent.{Targeted}
use Rattle.cedar_typechecker.proofs.Levels.SilentFromWalk.{targeted_if_none}
use Rattle.cedar_typechecker.proofs.Levels.Walk.{of_target, no_member, silent_walk_is_within}

abbrev IsNone : List Fault → Type 0
IsNone fs = (f : Fault) → IsOneOf f fs → ⊥

none_if : (b : Bool) (f : Fault) → IsNone (if b then [] else f ∷ []) → b ≡ true
none_if true f h = refl
none_if false f h = absurd (h f (inl refl))

module _ (s : LevelSetting) where
  abbrev LevelIs : Target → ℕ → Type 0
  LevelIs z k = level s.action z.tree z.path ≤ k

  is_at : (x y : Target) (k : ℕ) → LevelIs y k → x ≡ y → LevelIs x k
  is_at x y k h e = subst (λ z. LevelIs z k) (sym e) h

  -- the member of a list that has one
  only : (x y : Target) (k : ℕ) → LevelIs y k → IsOneOf x (y ∷ []) → LevelIs x k
  only x y k h (inl e) = is_at x y k h e
  only x y k h (inr i) = absurd i

  -- ---- targets of checked expressions

  below : (x : TypedTree) → IsNone (unless_below s.maximum (level s.action x []))
      → level s.action x [] ≤ s.maximum
  below x h =
      let e = ltb-true (level s.action x []) s.maximum
      (none_if (nat_lt (level s.action x []) s.maximum) _ h) in
      omega arith

  left : (x : TypedTree) (path : List Text) (c : ℕ)
      → IsNone (unless_within s.maximum (level s.action x path + c))
      → level s.action x path ≤ s.maximum
  left x path c h =
      let e = leb-true (level s.action x path + c) s.maximum
      (none_if (nat_le (level s.action x path + c) s.maximum) _ h) in
      omega arith

  of_base : (b : Base) (x : TypedTree) (z : Target) → IsNone (faults_of_base s b x)
      → IsOneOf z (targets_of_base b x) → LevelIs z s.maximum
  of_base an_entity x z h i = only z (along x []) s.maximum (below x h) i
  of_base a_record x z h i = absurd i
  of_base neither x z h i = absurd i

  of_operator : (c : Bool) (x : TypedTree) (z : Target)
      → IsNone (if c then unless_below s.maximum (level s.action x []) else [])
      → IsOneOf z (if c then along x [] ∷ [] else []) → LevelIs z s.maximum
  of_operator true x z h i = only z (along x []) s.maximum (below x h) i
  of_operator false x z h i = absurd i

  of_keys : (keys : Option (List Text)) (c : ℕ) (x : TypedTree) (z : Target)
      → IsNone (level_at_keys s x keys c) → IsOneOf z (target_at_keys x keys)
      → LevelIs z s.maximum
  of_keys None c x z h i = absurd i
  of_keys (Some path) c x z h i = only z (along x path) s.maximum (left x path c h) i

  by_cost : (b : Bool) (c : ℕ) (fs : List Fault) (z : Target) (zs : List Target)
      → IsNone (if b then fs else exceeds s.maximum c ∷ []) → IsOneOf z (if b then zs else [])
      → (IsNone fs → IsOneOf z zs → LevelIs z s.maximum) → LevelIs z s.maximum
  by_cost true c fs z zs h i f = f h i
  by_cost false c fs z zs h i f = absurd i

  of_chain : (b : Base) (c : ℕ) (keys : Option (List Text)) (x : TypedTree) (z : Target)
      → IsNone (faults_of_chain s b c x keys)
      → IsOneOf z (targets_of_chain s.maximum b c x keys) → LevelIs z s.maximum
  of_chain an_entity c keys x z h i =
      by_cost (nat_le c s.maximum) c (unless_within s.maximum (level s.action x [] + c)) z
      (along x [] ∷ []) h i (λ h i. only z (along x []) s.maximum (left x [] c h) i)
  of_chain a_record c keys x z h i =
      by_cost (nat_le c s.maximum) c (level_at_keys s x keys c) z (target_at_keys x keys) h i
      (λ h i. of_keys keys c x z h i)
  of_chain neither c keys x z h i = absurd i

  of_checked : (x : TypedTree) (z : Target) → IsNone (faults s x) → IsOneOf z (targets s x)
      → LevelIs z s.maximum
  of_checked (binary m o b c) z h i = of_operator (accesses_first o) b z h i
  of_checked (get_attr m b x) z h i = of_base (base_of (annotation b)) b z h i
  of_checked (has_attr m b x) z h i = of_base (base_of (annotation b)) b z h i
  of_checked (ext_has_attr m b x xs) z h i =
      of_chain (base_of (annotation b)) (cost_of s.schema (annotation b) x xs)
      (keys_of s.schema (annotation b) x xs) b z h i
  of_checked x z h i = absurd i

  -- ---- further targets have no greater level

  by_tag : (o : BinaryOp) (x : TypedTree) (path : List Text) (z : Target)
      → IsOneOf z (if is_get_tag o then along x path ∷ [] else [])
      → LevelIs z (greatest (chains_of_operator o (chains s.action x path)))
  by_tag BinaryOp.GetTag x path z i =
      let g = greatest_more (chains s.action x path) (has_chain s.action x path) in
      only z (along x path) _ (omega arith) i
  by_tag o x path z i = absurd i

  by_access : (b : Base) (x : TypedTree) (l : Text) (path : List Text) (z : Target)
      → IsOneOf z (next_of_access b x l path)
      → LevelIs z (greatest (chains_of_access b l path (chains s.action x)))
  by_access an_entity x l path z i =
      let g = greatest_more (chains s.action x path) (has_chain s.action x path) in
      only z (along x path) _ (omega arith) i
  by_access a_record x l path z i = only z (along x (l ∷ path)) _ (omega arith) i
  by_access neither x l path z i = absurd i

  by_field : (fs : Fields Mark) (p : Text) (path : List Text) (z : Target)
      → IsOneOf z (target_of_field (field_at p fs) path)
      → LevelIs z (greatest (field_chains s.action fs p path))
  by_field no_fields p path z i = absurd i
  by_field (field l t fs) p path z i = by (text_eq p l) i (by_field fs p path z)
    where
      by : (b : Bool)
          → IsOneOf z (target_of_field (if b then Some t else field_at p fs) path)
          → (IsOneOf z (target_of_field (field_at p fs) path)
          → LevelIs z (greatest (field_chains s.action fs p path)))
          → LevelIs z
          (greatest (if b then chains s.action t path else field_chains s.action fs p path))
      by true i f = only z (along t path) _ (omega arith) i
      by false i f = f i

  next_level : (x : TypedTree) (path : List Text) (z : Target)
      → IsOneOf z (next_targets x path) → LevelIs z (level s.action x path)
  next_level (if_then_else m b c d) path z (inl e) =
      let g = greatest_of_both (chains s.action c path) (chains s.action d path) in
      is_at z (along c path) _ (omega arith) e
  next_level (if_then_else m b c d) path z (inr i) =
      let g = greatest_of_both (chains s.action c path) (chains s.action d path) in
      only z (along d path) _ (omega arith) i
  next_level (binary m o b c) path z i = by_tag o b path z i
  next_level (get_attr m b x) path z i = by_access (base_of (annotation b)) b x path z i
  next_level (record_of m fs) [] z i = absurd i
  next_level (record_of m fs) (p ∷ path) z i = by_field fs p path z i
  next_level x path z i = absurd i

  module _ (root : TypedTree) (quiet : IsWithinLevel s root) where
    pub target_level : {x : TypedTree} {path : List Text} → IsTarget s root x path
        → level s.action x path ≤ s.maximum
    target_level (target_of_checked {x = x} {y = y} {path = path} c i) =
        of_checked x (along y path)
        (λ f j. quiet (level_finding s (mark_of x) f) (at_checked c j)) i
    target_level (next_target {x = x} {y = y} {path = path} {path' = path'} t i) =
        let e = target_level t in
        let g : level s.action y path' ≤ level s.action x path =
        next_level x path (along y path') i in
        omega arith

    -- ---- no error is found along a target

    no_error : (e : Finding) → IsOneOf e (checked_errors s root) → IsOneOf e []
    no_error e i =
        subst (λ es. IsOneOf e es) ((silent_walk_is_within s root).1 quiet) i

    pub targeted_of : {x : TypedTree} {path : List Text} → IsTarget s root x path
        → (k : ℕ) → level s.action x path ≤ k → Targeted s x path k
    targeted_of {x} {path} t k le =
        targeted_if_none s x path k
        (no_member (target_errors s x path)
        (λ e i. absurd (no_error e (of_target s root t e i)))) le
