-- The errors of a node itself are among those that the walk finds there.
use Rattle.std.proofs.Common.{List}
use Rattle.cedar_types.specs.Errors.{Fault, Finding}
use Rattle.cedar_types.specs.Names.{Text}
use Rattle.cedar_types.specs.Expressions.Tree.{lit, var, slot, unknown, if_then_else, and, or, unary, binary, call, get_attr, has_attr}
use Rattle.cedar_types.specs.Expressions.Tree.{ext_has_attr, like, is_type, set_of, record_of}
use Rattle.cedar_typing.specs.Evaluation.Conformance.{IsOneOf}
use Rattle.cedar_typing.specs.TypedExpr.{TypedTree, mark_of}
use Rattle.cedar_typing.proofs.Basics.Members.{in_left, in_mapped}
use Rattle.cedar_typechecker.specs.Levels.Chains.{leaf_of}
use Rattle.cedar_typechecker.specs.Levels.Errors.{faults, faults_at_end, level_finding}
use Rattle.cedar_typechecker.specs.Levels.Setting.{LevelSetting}
use Rattle.cedar_typechecker.specs.Levels.Walk.{found_at, leaf_errors, checked_errors, target_errors}

module _ (s : LevelSetting) where
  node_here : (x : TypedTree) (f : Fault) → IsOneOf f (faults s x)
      → IsOneOf (level_finding s (mark_of x) f) (found_at s (mark_of x) (faults s x))
  node_here x f i = in_mapped {A = Finding} (level_finding s (mark_of x)) f (faults s x) i

  leaf_here : (x : TypedTree) (path : List Text) (f : Fault)
      → IsOneOf f (faults_at_end (leaf_of s.action x path))
      → IsOneOf (level_finding s (mark_of x) f) (leaf_errors s x (mark_of x) path)
  leaf_here x path f i =
      in_mapped {A = Finding} (level_finding s (mark_of x)) f (faults_at_end (leaf_of s.action x path))
      i

  pub node_in : (x : TypedTree) (f : Fault) → IsOneOf f (faults s x)
      → IsOneOf (level_finding s (mark_of x) f) (checked_errors s x)
  node_in (binary m o b c) f i =
      in_left (level_finding s m f) (found_at s m (faults s (binary m o b c))) _
      (node_here (binary m o b c) f i)
  node_in (get_attr m b x) f i =
      in_left (level_finding s m f) (found_at s m (faults s (get_attr m b x))) _
      (node_here (get_attr m b x) f i)
  node_in (has_attr m b x) f i =
      in_left (level_finding s m f) (found_at s m (faults s (has_attr m b x))) _
      (node_here (has_attr m b x) f i)
  node_in (ext_has_attr m b x xs) f i =
      in_left (level_finding s m f) (found_at s m (faults s (ext_has_attr m b x xs))) _
      (node_here (ext_has_attr m b x xs) f i)
  node_in x f i = absurd i

  pub leaf_in : (x : TypedTree) (path : List Text) (f : Fault)
      → IsOneOf f (faults_at_end (leaf_of s.action x path))
      → IsOneOf (level_finding s (mark_of x) f) (target_errors s x path)
  leaf_in (lit m x) path f i = leaf_here (lit m x) path f i
  leaf_in (var m x) path f i = absurd i
  leaf_in (slot m x) path f i = leaf_here (slot m x) path f i
  leaf_in (unknown m x) path f i = leaf_here (unknown m x) path f i
  leaf_in (if_then_else m b c d) path f i = absurd i
  leaf_in (and m b c) path f i = leaf_here (and m b c) path f i
  leaf_in (or m b c) path f i = leaf_here (or m b c) path f i
  leaf_in (unary m o b) path f i = leaf_here (unary m o b) path f i
  leaf_in (binary m o b c) path f i =
      in_left (level_finding s m f) (leaf_errors s (binary m o b c) m path) _
      (leaf_here (binary m o b c) path f i)
  leaf_in (call m g ts) path f i = leaf_here (call m g ts) path f i
  leaf_in (get_attr m b x) path f i =
      in_left (level_finding s m f) (leaf_errors s (get_attr m b x) m path) _
      (leaf_here (get_attr m b x) path f i)
  leaf_in (has_attr m b x) path f i = leaf_here (has_attr m b x) path f i
  leaf_in (ext_has_attr m b x xs) path f i = leaf_here (ext_has_attr m b x xs) path f i
  leaf_in (like m b p) path f i = leaf_here (like m b p) path f i
  leaf_in (is_type m b p) path f i = leaf_here (is_type m b p) path f i
  leaf_in (set_of m ts) path f i = leaf_here (set_of m ts) path f i
  leaf_in (record_of m fs) path f i =
      in_left (level_finding s m f) (leaf_errors s (record_of m fs) m path) _
      (leaf_here (record_of m fs) path f i)
