-- Ids inside values, and inside the part of a value that a path selects.
use Rattle.std.proofs.Common.{Bool, true, false, List, [], ◌∷◌, Option, Some, None, if◌then◌else◌, inl, inr, refl, sym, subst}
use Rattle.cedar_types.specs.Names.{Text, Uid, text_eq}
use Rattle.cedar_types.specs.Values.{Value, VBool, VEntity, VRecord, Entries, no_entries, more_entries, entry_at}
use Rattle.cedar_typing.specs.Evaluation.Eval.{attribute_value, tag_value}
use Rattle.cedar_typing.specs.Soundness.{OnValue}
use Rattle.cedar_typing.proofs.Basics.Members.{AreAll, in_left, in_right}
use Rattle.cedar_typechecker.specs.Slices.Reach.{ids_in, ids_in_entries}
use Rattle.cedar_typechecker.specs.Slices.Soundness.{ids_found, ids_along}

module _ (P : Uid → Type 0) where
  -- P holds of each id in the part of a value that a path selects; along the empty path, of each id
  -- inside the value
  abbrev pub Selected : List Text → Value → Type 0
  Selected path v = AreAll P (ids_along path v)

  -- P holds of each such id, if a value is found
  abbrev pub SelectedIn : List Text → Option Value → Type 0
  SelectedIn path o = AreAll P (ids_found (ids_along path) o)

  pub one_id : (u : Uid) → P u → AreAll P (u ∷ [])
  one_id u h v (inl e) = subst P (sym e) h
  one_id u h v (inr i) = absurd i

  -- ---- entries

  pub entry_ids : (x : Text) (es : Entries) → AreAll P (ids_in_entries es)
      → SelectedIn [] (entry_at x es)
  entry_ids x no_entries h = λ u i. absurd i
  entry_ids x (more_entries k v es) h =
      by (text_eq x k) (entry_ids x es (λ u i. h u (in_right u (ids_in v) (ids_in_entries es) i)))
    where
      by : (b : Bool) → SelectedIn [] (entry_at x es)
          → SelectedIn [] (if b then Some v else entry_at x es)
      by true later = λ u i. h u (in_left u (ids_in v) (ids_in_entries es) i)
      by false later = later

  -- ---- paths

  pub select_all : (path : List Text) (v : Value) → Selected [] v → Selected path v
  select_all [] v h = h
  select_all (x ∷ path) (VRecord es) h = by (entry_at x es) (entry_ids x es h) (select_all path)
    where
      by : (o : Option Value) → SelectedIn [] o → ((v : Value) → Selected [] v → Selected path v)
          → SelectedIn path o
      by None h f = h
      by (Some v) h f = f v h
  select_all (x ∷ path) (VEntity u) h = h
  select_all (x ∷ path) v h = λ u i. absurd i

  pub select_found : (path : List Text) (o : Option Value) → SelectedIn [] o → SelectedIn path o
  select_found path None h = h
  select_found path (Some v) h = select_all path v h

  pub select_entity : (path : List Text) (u : Uid) → Selected path (VEntity u) → P u
  select_entity [] u h = h u (inl refl)
  select_entity (x ∷ path) u h = h u (inl refl)

  pub select_bool : (path : List Text) (b : Bool) → Selected path (VBool b)
  select_bool [] b = λ u i. absurd i
  select_bool (x ∷ path) b = λ u i. absurd i

  -- ---- the value of an attribute or of a tag

  pub attribute_ids : (path : List Text) (o : Option Value) → SelectedIn path o
      → OnValue (Selected path) (attribute_value o)
  attribute_ids path None h = tt
  attribute_ids path (Some v) h = h

  pub tag_ids : (path : List Text) (o : Option Value) → SelectedIn path o
      → OnValue (Selected path) (tag_value o)
  tag_ids path None h = tt
  tag_ids path (Some v) h = h
