-- The digest of a capability's shape: std's folding hasher computes it from the inside of an
-- expression out.
use Rattle.std.specs.Prelude.{ℕ, List, ◌++◌}
use Rattle.std.specs.List.{fold}
use Rattle.std.specs.Hash as fed
use Rattle.std.specs.Hash.FoldHasher as folding
use Rattle.cedar_types.specs.declared.base.expressions.operators.Var.{Var}
use Rattle.cedar_types.specs.declared.types.capability.digested.Known.{Known}
use Rattle.cedar_types.specs.contracts.base.names.slots.SlotIdHash.TheImpl as slot_impl
use Rattle.cedar_types.specs.contracts.base.expressions.operators.UnaryOpHash.TheImpl as unary_impl
use Rattle.cedar_types.specs.contracts.base.expressions.operators.BinaryOpHash.TheImpl as binary_impl
use Rattle.cedar_types.specs.contracts.base.expressions.patterns.PatternElemHash.TheImpl as pattern_impl
use Rattle.cedar_types.specs.Names.{Text, text_of, Path, Uid}
use Rattle.cedar_types.specs.Expressions.ShapeOnly.{shape_of}
use Rattle.cedar_types.specs.Expressions.Tree.{Lit, bool, long, string, entity, lit, var, slot, unknown, if_then_else, and, or, unary}
use Rattle.cedar_types.specs.Expressions.Tree.{binary, call, get_attr, has_attr, ext_has_attr, like, is_type, set_of, record_of, Shape}
use Rattle.cedar_types.specs.Expressions.Tree.{Trees, no_trees, tree, Fields, no_fields, field}

-- a digest joined with the input that a value feeds a hasher
unfoldable pub joined : ℕ → fed.HashWrites → ℕ
joined d ws = folding.finish (fold folding.write (fold folding.write folding.initial (fed.u64 d)) ws)

-- a digest joined with a text, with some texts, and with another digest
abbrev pub with_text : ℕ → Text → ℕ
with_text d x = joined d (fed.str x)

abbrev pub with_texts : ℕ → List Text → ℕ
with_texts d xs = joined d (fed.slice fed.str xs)

abbrev pub with_digest : ℕ → ℕ → ℕ
with_digest d e = joined d (fed.u64 e)

-- a digest joined with a name, and with the id of an entity
abbrev pub path_writes : Path → fed.HashWrites
path_writes p = fed.slice fed.str p.path ++ fed.str p.basename

abbrev pub with_path : ℕ → Path → ℕ
with_path d p = joined d (path_writes p)

abbrev pub with_uid : ℕ → Uid → ℕ
with_uid d u = joined d (path_writes u.entity_type ++ fed.str u.eid)

abbrev pub var_digest : Var → ℕ
var_digest Var.Principal = 1
var_digest Var.Action = 2
var_digest Var.Resource = 3
var_digest Var.Context = 4

abbrev pub lit_digest : Lit → ℕ
lit_digest (bool b) = joined 5 (fed.bool b)
lit_digest (long z) = joined 6 (fed.i64 z)
lit_digest (string x) = with_text 7 x
lit_digest (entity u) = with_uid 8 u

-- the digest covers all of a form: its operator, its names, and the digests of its parts; most
-- forms begin with a number of their own
abbrev mutual
  pub shape_digest : Shape → ℕ
  shape_digest (lit d x) = lit_digest x
  shape_digest (var d x) = var_digest x
  shape_digest (slot d x) = joined 9 (slot_impl.ghosts.hash_input x)
  shape_digest (unknown d n) = with_path 10 n
  shape_digest (if_then_else d a b c) =
      with_digest (with_digest (with_digest 11 (shape_digest a)) (shape_digest b)) (shape_digest c)
  shape_digest (and d a b) = with_digest (with_digest 12 (shape_digest a)) (shape_digest b)
  shape_digest (or d a b) = with_digest (with_digest 13 (shape_digest a)) (shape_digest b)
  shape_digest (unary d o a) = joined (with_digest 14 (shape_digest a)) (unary_impl.ghosts.hash_input o)
  shape_digest (binary d o a b) =
      joined (with_digest (shape_digest a) (shape_digest b)) (binary_impl.ghosts.hash_input o)
  shape_digest (call d n ts) = trees_digest (with_path 15 n) ts
  shape_digest (get_attr d a x) = with_text (shape_digest a) x
  shape_digest (has_attr d a x) = with_text (with_digest 16 (shape_digest a)) x
  shape_digest (ext_has_attr d a x xs) =
      with_texts (with_text (with_digest 17 (shape_digest a)) x) xs
  shape_digest (like d a p) =
      joined (with_digest 18 (shape_digest a)) (fed.slice pattern_impl.ghosts.hash_input p)
  shape_digest (is_type d a n) = with_path (with_digest 19 (shape_digest a)) n
  shape_digest (set_of d ts) = trees_digest 20 ts
  shape_digest (record_of d fs) = fields_digest 21 fs

  -- a digest joined with trees or fields, one after the other
  pub trees_digest : ℕ → Trees (Unit {0}) → ℕ
  trees_digest n no_trees = n
  trees_digest n (tree t ts) = trees_digest (with_digest n (shape_digest t)) ts

  pub fields_digest : ℕ → Fields (Unit {0}) → ℕ
  fields_digest n no_fields = n
  fields_digest n (field k t fs) = fields_digest (with_digest (with_text n k) (shape_digest t)) fs

abbrev pub digest_of : Shape → Known → ℕ
digest_of s (Known.Attribute x) = with_text (shape_digest s) (text_of x)
digest_of s (Known.Tag t) = with_digest (shape_digest s) (shape_digest (shape_of t))
