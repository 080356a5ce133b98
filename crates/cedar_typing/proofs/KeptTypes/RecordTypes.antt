-- The type of a record is kept if those of its fields are.
use Rattle.std.proofs.Common.{◌≡◌, true, false, List, [], ◌∷◌, refl}
use Rattle.std.specs.List.{list_all}
use Rattle.std.specs.Ordering.{is_lt}
use Rattle.cedar_types.specs.Names.Ascending.{texts_ascending}
use Rattle.cedar_types.specs.Lemmas.Comparisons.{and_left, and_right, and_both}
use Rattle.cedar_types.specs.Names.{Text, text_cmp}
use Rattle.cedar_types.specs.Types.{Ty, TRecord, attr_names, is_well_formed, are_well_formed}
use Rattle.cedar_typing.specs.Rules.Records.{required_attrs}
use Rattle.cedar_typing.proofs.KeptTypes.Keeping.{AreKept}
use Rattle.cedar_typing.proofs.KeptTypes.Types.{Keeping, ascending, allowed, is_made_of, are_made_of, IsKept}

above_kept : (k : Text) (ks : List Text) (ts : List Ty) → list_all (λ l. is_lt (text_cmp k l)) ks ≡ true
    → list_all (λ l. is_lt (text_cmp k l)) (attr_names (required_attrs ks ts)) ≡ true
above_kept k [] ts h = refl
above_kept k (l ∷ ls) [] h = refl
above_kept k (l ∷ ls) (t ∷ ts) h =
    let below = is_lt (text_cmp k l) in
    let others = list_all (λ j. is_lt (text_cmp k j)) ls in
    and_both below (list_all (λ j. is_lt (text_cmp k j)) (attr_names (required_attrs ls ts)))
    (and_left below others h) (above_kept k ls ts (and_right below others h))

-- the names of attributes ascend if the keys do
pub names_ascend : (ks : List Text) (ts : List Ty) → texts_ascending ks ≡ true → texts_ascending (attr_names (required_attrs ks ts)) ≡ true
names_ascend [] ts h = refl
names_ascend (k ∷ ks) [] h = refl
names_ascend (k ∷ ks) (t ∷ ts) h =
    let above = list_all (λ l. is_lt (text_cmp k l)) ks in
    and_both (list_all (λ l. is_lt (text_cmp k l)) (attr_names (required_attrs ks ts)))
    (texts_ascending (attr_names (required_attrs ks ts)))
    (above_kept k ks ts (and_left above (texts_ascending ks) h)) (names_ascend ks ts (and_right above (texts_ascending ks) h))

module _ (k : Keeping) where
  fields_made : (ks : List Text) (ts : List Ty) → AreKept (IsKept k) ts → are_made_of (allowed k) (required_attrs ks ts) ≡ true
  fields_made [] ts h = refl
  fields_made (x ∷ ks) [] h = refl
  fields_made (x ∷ ks) (t ∷ ts) h =
      and_both (is_made_of (allowed k) t) (are_made_of (allowed k) (required_attrs ks ts)) h.0.0
      (fields_made ks ts h.1)

  fields_formed : k ≡ ascending → (ks : List Text) (ts : List Ty) → AreKept (IsKept k) ts → are_well_formed (required_attrs ks ts) ≡ true
  fields_formed e [] ts h = refl
  fields_formed e (x ∷ ks) [] h = refl
  fields_formed e (x ∷ ks) (t ∷ ts) h =
      and_both (is_well_formed t) (are_well_formed (required_attrs ks ts)) (h.0.1 e) (fields_formed e ks ts h.1)

  pub record_kept : (ks : List Text) (ts : List Ty) → texts_ascending ks ≡ true → AreKept (IsKept k) ts
      → IsKept k (TRecord (required_attrs ks ts) false)
  record_kept ks ts a h =
      let xs = required_attrs ks ts in (
        fields_made ks ts h,
        λ e. and_both (texts_ascending (attr_names xs)) (are_well_formed xs)
            (names_ascend ks ts a) (fields_formed e ks ts h),
      )
