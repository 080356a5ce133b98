-- Attributes as the entries of a map, and the loops that make new attributes.
use Rattle.std.proofs.Common.{◌≡◌, refl, sym, ap, ◌∙◌, ℕ, Bool, true, false, ◌&&◌, ◌||◌, not, subst, List, [], ◌∷◌, ◌++◌, map, nat_eq}
use Rattle.std.proofs.Common.{Option, Some, None, option_map, if◌then◌else◌, length, suc, append_assoc}
use Rattle.std.specs.declared.cmp.Ordering.{Ordering}
use Rattle.std.specs.declared.cmp.Ordering.TheVariants.{Less}
use Rattle.std.specs.declared.rc.RcStr.{RcStr}
use Rattle.std.specs.declared.alloc.Global.{Global}
use Rattle.std.specs.Ordering.{match_ordering, is_eq, is_lt, ordering_reverse}
use Rattle.std.specs.Cmp.Lexicographic.{nat_list_cmp_total, texts_ties}
use Rattle.std.specs.List.{AllByRecursion, list_all}
use Rattle.std.specs.List.Sorted.{IsStrictlySortedBy}
use Rattle.std.specs.BTreeMap.{BTreeMap, insert_entry, is_at}
use Rattle.std.specs.Map.{lookup, keys_of}
use Rattle.std.specs.Option.{MatchOption, is_some}
use Rattle.std.proofs.lemmas.Map.Keys.{sorted_head, sorted_tail}
use Rattle.cedar_types.specs.declared.base.types.AttributeType.{AttributeType}
use Rattle.cedar_types.specs.declared.base.types.ValidationMode.{ValidationMode}
use Rattle.cedar_types.specs.declared.base.types.Attributes.{Attributes, out-Attributes}
use Rattle.cedar_types.proofs.Attributes.{attributes_are}
use Rattle.cedar_types.specs.Names.{Text, text_of, text_cmp, text_eq}
use Rattle.cedar_types.specs.Names.Ascending.{texts_ascending}
use Rattle.cedar_types.specs.Types.{Ty, TRecord, Attrs, attr, no_attrs, attr_names, ty_of, attributes_of, texts_of, entries_of, join_attrs}
use Rattle.cedar_types.specs.Types.Bounds.{attr_count, mark_eq, find_attr, both_attrs, common_attrs, with_both, with_common, with_bound}
use Rattle.cedar_types.specs.Types.Bounds.{lub, record_lub, wide_lub, closed_lub, is_strict}

abbrev pub key_cmp : RcStr Global → RcStr Global → Ordering
key_cmp a b = text_cmp (text_of a) (text_of b)

-- Each text is below all later texts
abbrev pub Ascends : List Text → Type 0
Ascends [] = Unit {0}
Ascends (k ∷ ks) = AllByRecursion (λ l. text_cmp k l ≡ Less) ks × Ascends ks

all_texts : (k : RcStr Global) (ks : List (RcStr Global)) → AllByRecursion (λ l. key_cmp k l ≡ Less) ks
    → AllByRecursion (λ l. text_cmp (text_of k) l ≡ Less) (map text_of ks)
all_texts k [] h = tt
all_texts k (l ∷ ls) h = (h.0, all_texts k ls h.1)

-- The keys of a map ascend
pub ascends : (es : List (RcStr Global × AttributeType)) → IsStrictlySortedBy key_cmp (keys_of es) → Ascends (texts_of es)
ascends [] h = tt
ascends (e ∷ es) h = (at_head es (sorted_head key_cmp e.0 (keys_of es) h), ascends es (sorted_tail key_cmp e.0 (keys_of es) h))
  where
    at_head : (fs : List (RcStr Global × AttributeType)) → AllByRecursion (λ l. key_cmp e.0 l ≡ Less) (keys_of fs)
        → AllByRecursion (λ l. text_cmp (text_of e.0) l ≡ Less) (texts_of fs)
    at_head [] h = tt
    at_head (f ∷ fs) h = (h.0, at_head fs h.1)

-- Texts in front of k are below k
pub below_next : (ks : List Text) (k : Text) (rest : List Text) → Ascends (ks ++ k ∷ rest) → AllByRecursion (λ l. text_cmp l k ≡ Less) ks
below_next [] k rest h = tt
below_next (l ∷ ks) k rest h = (at ks h.0, below_next ks k rest h.1)
  where
    at : (js : List Text) → AllByRecursion (λ j. text_cmp l j ≡ Less) (js ++ k ∷ rest) → text_cmp l k ≡ Less
    at [] h = h.0
    at (j ∷ js) h = at js h.1

pub insert_last : (es : List (RcStr Global × AttributeType)) (k : RcStr Global) (v : AttributeType)
    → AllByRecursion (λ l. text_cmp l (text_of k) ≡ Less) (texts_of es)
    → insert_entry key_cmp es k v ≡ es ++ (k, v) ∷ []
insert_last [] k v h = refl
insert_last (e ∷ es) k v h =
    ap (λ o. match_ordering o ((k, v) ∷ e ∷ es) ((e.0, v) ∷ es) (e ∷ insert_entry key_cmp es k v))
    (nat_list_cmp_total.antisymm (text_of k) (text_of e.0) ∙ ap ordering_reverse h.0)
    ∙ ap (λ r. e ∷ r) (insert_last es k v h.1)

pub entries_append : (es fs : List (RcStr Global × AttributeType)) → entries_of (es ++ fs) ≡ join_attrs (entries_of es) (entries_of fs)
entries_append [] fs = refl
entries_append (e ∷ es) fs = ap (attr (text_of e.0) (ty_of e.1.attr_type) e.1.is_required) (entries_append es fs)

pub texts_append : (es fs : List (RcStr Global × AttributeType)) → texts_of (es ++ fs) ≡ texts_of es ++ texts_of fs
texts_append [] fs = refl
texts_append (e ∷ es) fs = ap (λ r. text_of e.0 ∷ r) (texts_append es fs)

pub join_join : (xs ys zs : Attrs) → join_attrs (join_attrs xs ys) zs ≡ join_attrs xs (join_attrs ys zs)
join_join no_attrs ys zs = refl
join_join (attr k t r xs) ys zs = ap (attr k t r) (join_join xs ys zs)

pub join_none : (xs : Attrs) → join_attrs xs no_attrs ≡ xs
join_none no_attrs = refl
join_none (attr k t r xs) = ap (attr k t r) (join_none xs)

pub size_is : (es : List (RcStr Global × AttributeType)) → attr_count (entries_of es) ≡ length es
size_is [] = refl
size_is (e ∷ es) = ap suc (size_is es)

pushed : (es : List (RcStr Global × AttributeType)) (k : RcStr Global) (v : AttributeType) (t : Text)
    → text_of k ≡ t → AllByRecursion (λ l. text_cmp l t ≡ Less) (texts_of es)
    → insert_entry key_cmp es k v ≡ es ++ (k, v) ∷ []
pushed es k v t e h = insert_last es k v (subst (λ t. AllByRecursion (λ l. text_cmp l t ≡ Less) (texts_of es)) (sym e) h)

pub pushed_attrs : (es : List (RcStr Global × AttributeType)) (k : RcStr Global) (v : AttributeType) (t : Text)
    → text_of k ≡ t → AllByRecursion (λ l. text_cmp l t ≡ Less) (texts_of es)
    → entries_of (insert_entry key_cmp es k v)
    ≡ join_attrs (entries_of es) (attr t (ty_of v.attr_type) v.is_required no_attrs)
pushed_attrs es k v t e h =
    ap entries_of (pushed es k v t e h) ∙ entries_append es ((k, v) ∷ [])
    ∙ ap (λ t. join_attrs (entries_of es) (attr t (ty_of v.attr_type) v.is_required no_attrs)) e

pub pushed_texts : (es : List (RcStr Global × AttributeType)) (k : RcStr Global) (v : AttributeType) (t : Text)
    → text_of k ≡ t → AllByRecursion (λ l. text_cmp l t ≡ Less) (texts_of es)
    → texts_of (insert_entry key_cmp es k v) ≡ texts_of es ++ t ∷ []
pushed_texts es k v t e h = ap texts_of (pushed es k v t e h) ∙ texts_append es ((k, v) ∷ []) ∙ ap (λ t. texts_of es ++ t ∷ []) e

-- ---- the loop over both records
same_option : (o : Option Attrs) → option_map (join_attrs no_attrs) o ≡ o
same_option None = refl
same_option (Some zs) = refl

pub both_starts : (m : ValidationMode) (es left right xs ys : List (RcStr Global × AttributeType)) → es ≡ []
    → left ≡ xs → right ≡ ys
    → option_map (join_attrs (entries_of es)) (both_attrs m (entries_of left) (entries_of right))
    ≡ both_attrs m (entries_of xs) (entries_of ys)
both_starts m es left right xs ys e f g =
    ap (λ es. option_map (join_attrs (entries_of es)) (both_attrs m (entries_of left) (entries_of right))) e
    ∙ same_option (both_attrs m (entries_of left) (entries_of right))
    ∙ ap (λ l. both_attrs m (entries_of l) (entries_of right)) f
    ∙ ap (λ r. both_attrs m (entries_of xs) (entries_of r)) g

join_option : (zs : Attrs) (k : Text) (u : Ty) (r : Bool) (o : Option Attrs)
    → option_map (join_attrs (join_attrs zs (attr k u r no_attrs))) o
    ≡ option_map (join_attrs zs) (option_map (attr k u r) o)
join_option zs k u r None = refl
join_option zs k u r (Some ws) = ap Some (join_join zs (attr k u r no_attrs) ws)

both_step : (m : ValidationMode) (k l : Text) (s t u : Ty) (r q : Bool) (xs ys : Attrs)
    → (text_eq k l && mark_eq r q) ≡ true → lub m s t ≡ Some u → both_attrs m (attr k s r xs) (attr l t q ys)
    ≡ option_map (attr k u r) (both_attrs m xs ys)
both_step m k l s t u r q xs ys e g =
    ap (λ b. if b then with_both k (lub m s t) r (both_attrs m xs ys) else None) e
    ∙ ap (λ o. with_both k o r (both_attrs m xs ys)) g

pub both_goes_on : (m : ValidationMode) (zs news : Attrs) (k l : Text) (s t u : Ty) (r q : Bool)
    (xs ys whole_xs whole_ys : Attrs) → (text_eq k l && mark_eq r q) ≡ true → lub m s t ≡ Some u
    → news ≡ join_attrs zs (attr k u r no_attrs)
    → option_map (join_attrs zs) (both_attrs m (attr k s r xs) (attr l t q ys)) ≡ both_attrs m whole_xs whole_ys
    → option_map (join_attrs news) (both_attrs m xs ys) ≡ both_attrs m whole_xs whole_ys
both_goes_on m zs news k l s t u r q xs ys _ _ e g n told =
    ap (λ n. option_map (join_attrs n) (both_attrs m xs ys)) n
    ∙ join_option zs k u r (both_attrs m xs ys)
    ∙ ap (option_map (join_attrs zs)) (sym (both_step m k l s t u r q xs ys e g))
    ∙ told

pub both_ends : (m : ValidationMode) (zs : Attrs) (left right : List (RcStr Global × AttributeType))
    (whole : Option Attrs) → left ≡ [] → right ≡ []
    → option_map (join_attrs zs) (both_attrs m (entries_of left) (entries_of right)) ≡ whole → Some zs ≡ whole
both_ends m zs left right whole e f told =
    sym (ap Some (join_none zs))
    ∙ ap (λ l. option_map (join_attrs zs) (both_attrs m (entries_of l) no_attrs)) (sym e)
    ∙ ap (λ r. option_map (join_attrs zs) (both_attrs m (entries_of left) (entries_of r))) (sym f)
    ∙ told

pub none_left : {X : Type 0} (P : Type 0) (Q : X → Type 0) (o : Option X) → false ≡ is_some o → MatchOption o P Q → P
none_left P Q None e h = h
none_left P Q (Some x) e h = cc

-- ---- the loop over the common keys
pub common_ends : (m : ValidationMode) (zs ys : Attrs) (left : List (RcStr Global × AttributeType)) (whole : Attrs)
    → left ≡ [] → join_attrs zs (common_attrs m (entries_of left) ys) ≡ whole → zs ≡ whole
common_ends m zs ys left whole e told = sym (join_none zs) ∙ ap (λ l. join_attrs zs (common_attrs m (entries_of l) ys)) (sym e) ∙ told

pub common_starts : (m : ValidationMode) (es left xs : List (RcStr Global × AttributeType)) (ys : Attrs) → es ≡ []
    → left ≡ xs → join_attrs (entries_of es) (common_attrs m (entries_of left) ys)
    ≡ common_attrs m (entries_of xs) ys
common_starts m es left xs ys e f =
    ap (λ es. join_attrs (entries_of es) (common_attrs m (entries_of left) ys)) e
    ∙ ap (λ l. common_attrs m (entries_of l) ys) f

pub found : (k : RcStr Global) (es : List (RcStr Global × AttributeType)) → find_attr (text_of k) (entries_of es)
    ≡ option_map (λ a. (ty_of a.attr_type, a.is_required)) (lookup (is_at (key_cmp k)) es)
found k [] = refl
found k (e ∷ es) =
    ap (λ b. if◌then◌else◌ {A = Option (Ty × Bool)} b (Some (ty_of e.1.attr_type, e.1.is_required))
    (find_attr (text_of k) (entries_of es))) (texts_ties (text_of k) (text_of e.0))
    ∙ at (is_eq (key_cmp k e.0)) (lookup (is_at (key_cmp k)) es) (find_attr (text_of k) (entries_of es)) (found k es)
  where
    at : (b : Bool) (o : Option AttributeType) (p : Option (Ty × Bool))
        → p ≡ option_map (λ a. (ty_of a.attr_type, a.is_required)) o
        → ◌≡◌ {A = Option (Ty × Bool)} (if◌then◌else◌ {A = Option (Ty × Bool)} b
        (Some (ty_of e.1.attr_type, e.1.is_required)) p) (option_map (λ a. (ty_of a.attr_type, a.is_required))
        (if b then Some e.1 else o))
    at true o p h = refl
    at false o p h = h

pub found_in : (k : RcStr Global) (a : Attributes) (m : BTreeMap (RcStr Global) AttributeType)
    → m ≡ (out-Attributes a).attrs.value → find_attr (text_of k) (attributes_of a)
    ≡ option_map (λ a. (ty_of a.attr_type, a.is_required)) (lookup (is_at (key_cmp k)) m.entries)
found_in k a m e =
    ap (find_attr (text_of k)) (attributes_are a)
    ∙ found k (out-Attributes a).attrs.value.entries
    ∙ ap (λ m. option_map (λ a. (ty_of a.attr_type, a.is_required)) (lookup (is_at (key_cmp k)) m.entries)) (sym e)

-- ---- ascending texts stay ascending
pub ascends_on : (ks news : List Text) (k : Text) (rest : List Text) → news ≡ ks ++ k ∷ []
    → Ascends (ks ++ k ∷ rest) → Ascends (news ++ rest)
ascends_on ks news k rest e h = subst Ascends (sym (ap (λ n. n ++ rest) e ∙ append_assoc ks (k ∷ []) rest)) h

pub ascends_past : (ks : List Text) (k : Text) (rest : List Text) → Ascends (ks ++ k ∷ rest) → Ascends (ks ++ rest)
ascends_past [] k rest h = h.1
ascends_past (l ∷ ks) k rest h = (at ks h.0, ascends_past ks k rest h.1)
  where
    at : (js : List Text) → AllByRecursion (λ j. text_cmp l j ≡ Less) (js ++ k ∷ rest)
        → AllByRecursion (λ j. text_cmp l j ≡ Less) (js ++ rest)
    at [] h = h.1
    at (j ∷ js) h = (h.0, at js h.1)

-- ---- the steps of the loop over the common keys
pub common_goes_on : (m : ValidationMode) (zs news : Attrs) (k : Text) (s t u : Ty) (r q : Bool)
    (xs ys whole : Attrs) → find_attr k ys ≡ Some (t, q) → lub m s t ≡ Some u
    → news ≡ join_attrs zs (attr k u (r && q) no_attrs)
    → join_attrs zs (common_attrs m (attr k s r xs) ys) ≡ whole
    → join_attrs news (common_attrs m xs ys) ≡ whole
common_goes_on m zs news k s t u r q xs ys _ f g n told =
    ap (λ n. join_attrs n (common_attrs m xs ys)) n
    ∙ join_join zs (attr k u (r && q) no_attrs) (common_attrs m xs ys)
    ∙ ap (join_attrs zs)
    (sym (ap (λ a. with_common k a (lub m s) r (common_attrs m xs ys)) f
    ∙ ap (λ o. with_bound k o (r && q) (common_attrs m xs ys)) g))
    ∙ told

pub common_drops : (m : ValidationMode) (zs : Attrs) (k : Text) (s t : Ty) (r q : Bool) (xs ys whole : Attrs)
    → find_attr k ys ≡ Some (t, q) → lub m s t ≡ None
    → join_attrs zs (common_attrs m (attr k s r xs) ys) ≡ whole
    → join_attrs zs (common_attrs m xs ys) ≡ whole
common_drops m zs k s t r q xs ys _ f g told =
    ap (join_attrs zs)
    (sym (ap (λ a. with_common k a (lub m s) r (common_attrs m xs ys)) f
    ∙ ap (λ o. with_bound k o (r && q) (common_attrs m xs ys)) g))
    ∙ told

pub common_lacks : (m : ValidationMode) (zs : Attrs) (k : Text) (s : Ty) (r : Bool) (xs ys whole : Attrs) → find_attr k ys ≡ None
    → join_attrs zs (common_attrs m (attr k s r xs) ys) ≡ whole
    → join_attrs zs (common_attrs m xs ys) ≡ whole
common_lacks m zs k s r xs ys _ f told = ap (join_attrs zs) (sym (ap (λ a. with_common k a (lub m s) r (common_attrs m xs ys)) f)) ∙ told

-- The record bound in the wide modes, from counts and attributes that are already known
pub wide_here : (m : ValidationMode) (xs ys zs : Attrs) (o p b : Bool) (both : Attrs → Option Attrs)
    → is_strict m ≡ false → (n k l : ℕ) → n ≡ attr_count zs → k ≡ attr_count xs → l ≡ attr_count ys
    → b ≡ (o || p || not (nat_eq n k && nat_eq n l)) → zs ≡ common_attrs m xs ys
    → Some (TRecord zs b) ≡ record_lub m xs o both (common_attrs m xs) (TRecord ys p)
wide_here m xs ys zs o p b both s n k l hn hk hl e c =
    ap (λ b. Some (TRecord zs b))
    (e ∙ ap (λ n. o || p || not (nat_eq n k && nat_eq n l)) hn
    ∙ ap (λ k. o || p || not (nat_eq (attr_count zs) k && nat_eq (attr_count zs) l)) hk
    ∙ ap (λ l. o || p || not (nat_eq (attr_count zs) (attr_count xs) && nat_eq (attr_count zs) l)) hl)
    ∙ ap (λ zs. Some (wide_lub xs o ys p zs)) c
    ∙ ap (λ k. if k then closed_lub o p (both ys) else Some (wide_lub xs o ys p (common_attrs m xs ys))) (sym s)

pub count_is : (a : Attributes) (m : BTreeMap (RcStr Global) AttributeType) → m ≡ (out-Attributes a).attrs.value
    → length m.entries ≡ attr_count (attributes_of a)
count_is a m e = ap (λ m. length m.entries) e ∙ sym (ap attr_count (attributes_are a) ∙ size_is (out-Attributes a).attrs.value.entries)

-- Ascending texts pass the test `texts_ascending`
ascending_from : (ks : List Text) → Ascends ks → texts_ascending ks ≡ true
ascending_from [] h = refl
ascending_from (k ∷ ks) h = λ i. above ks h.0 i && ascending_from ks h.1 i
  where
    above : (ls : List Text) → AllByRecursion (λ l. text_cmp k l ≡ Less) ls → list_all (λ l. is_lt (text_cmp k l)) ls ≡ true
    above [] g = refl
    above (l ∷ ls) g = λ i. is_lt (g.0 i) && above ls g.1 i

names_are : (es : List (RcStr Global × AttributeType)) → attr_names (entries_of es) ≡ texts_of es
names_are [] = refl
names_are (e ∷ es) = ap (λ ts. text_of e.0 ∷ ts) (names_are es)

pub attributes_ascend : (a : Attributes) (m : BTreeMap (RcStr Global) AttributeType)
    → m ≡ (out-Attributes a).attrs.value → IsStrictlySortedBy key_cmp (keys_of m.entries)
    → texts_ascending (attr_names (attributes_of a)) ≡ true
attributes_ascend a m e s =
    ap (λ xs. texts_ascending (attr_names xs)) (attributes_are a ∙ ap (λ m. entries_of m.entries) (sym e))
    ∙ ap texts_ascending (names_are m.entries)
    ∙ ascending_from (texts_of m.entries) (ascends m.entries s)
