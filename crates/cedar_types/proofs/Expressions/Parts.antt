-- The parts of an expression: the subexpressions that a stack gives, and occurrences of a slot.
use Rattle.std.proofs.Common.{◌≡◌, Bool, false, ◌||◌, List, [], ◌∷◌, ◌++◌, map, refl, sym, ap, ◌∙◌, append_assoc}
use Rattle.std.proofs.Math.Bool.{or_assoc, or_comm}
use Rattle.std.proofs.lemmas.List.{append-nil}
use Rattle.std.proofs.lemmas.List.Folds.{list_any-append}
use Rattle.std.specs.List.{list_any}
use Rattle.std.specs.Map.{values_of}
use Rattle.std.specs.declared.alloc.Global.{Global}
use Rattle.std.specs.declared.rc.RcStr.{RcStr}
use Rattle.cedar_types.specs.declared.base.expressions.Expr.{Expr}
use Rattle.cedar_types.specs.declared.base.names.slots.SlotId.{SlotId}
use Rattle.cedar_types.specs.Expressions.Tree.{Tree, lit, var, slot, unknown, if_then_else, and, or, unary, binary, call, get_attr}
use Rattle.cedar_types.specs.Expressions.Tree.{has_attr, ext_has_attr, like, is_type, set_of, record_of, Trees, no_trees, tree, Fields}
use Rattle.cedar_types.specs.Expressions.Tree.{no_fields, field}
use Rattle.cedar_types.specs.Expressions.TreeEq.{slot_eq}
use Rattle.cedar_types.specs.Expressions.View.{trees_of, written, fields_written}
use Rattle.cedar_types.specs.Expressions.Parts.{subexpressions, subexpressions_of_all, subexpressions_of_fields, mentions_slot}
use Rattle.cedar_types.specs.Expressions.Parts.{any_mentions_slot, field_mentions_slot, is_slot, listed, field_values, parts, from_last}

module _ {D : Type 0} where
  -- The subexpressions of entries further back on the stack come first
  from_last-append : (ts us : List (Tree D)) → from_last (ts ++ us) ≡ from_last us ++ from_last ts
  from_last-append [] us = sym (append-nil (from_last us))
  from_last-append (t ∷ ts) us =
      ap (λ vs. vs ++ subexpressions t) (from_last-append ts us)
      ∙ append_assoc (from_last us) (from_last ts) (subexpressions t)

  all_listed : (ts : Trees D) → subexpressions_of_all ts ≡ from_last (listed ts)
  all_listed no_trees = refl
  all_listed (tree t ts) = ap (λ us. us ++ subexpressions t) (all_listed ts)

  all_fields : (fs : Fields D) → subexpressions_of_fields fs ≡ from_last (field_values fs)
  all_fields no_fields = refl
  all_fields (field k t fs) = ap (λ us. us ++ subexpressions t) (all_fields fs)

  -- The subexpressions are the expression itself, then those from a stack of its parts
  by_parts : (t : Tree D) → subexpressions t ≡ t ∷ from_last (parts t)
  by_parts (lit d x) = refl
  by_parts (var d x) = refl
  by_parts (slot d x) = refl
  by_parts (unknown d x) = refl
  by_parts (if_then_else d a b c) =
      ap (λ ts. if_then_else d a b c ∷ ts)
      (sym (append_assoc (subexpressions c) (subexpressions b) (subexpressions a)))
  by_parts (and d a b) = refl
  by_parts (or d a b) = refl
  by_parts (unary d o a) = refl
  by_parts (binary d o a b) = refl
  by_parts (call d n ts) = ap (λ us. call d n ts ∷ us) (all_listed ts)
  by_parts (get_attr d a x) = refl
  by_parts (has_attr d a x) = refl
  by_parts (ext_has_attr d a x xs) = refl
  by_parts (like d a p) = refl
  by_parts (is_type d a n) = refl
  by_parts (set_of d ts) = ap (λ us. set_of d ts ∷ us) (all_listed ts)
  by_parts (record_of d fs) = ap (λ us. record_of d fs ∷ us) (all_fields fs)

  -- A visit takes the last entry of a stack, and puts its parts there
  pub visited : (t : Tree D) (below : List (Tree D)) → from_last (below ++ t ∷ []) ≡ t ∷ from_last (below ++ parts t)
  visited t below =
      from_last-append below (t ∷ [])
      ∙ ap (λ ts. ts ++ from_last below) (by_parts t)
      ∙ ap (λ ts. t ∷ ts) (sym (from_last-append below (parts t)))

-- ---- the parts that an expression lists

pub listed_again : {D : Type 0} (ts : List (Tree D)) → listed (trees_of ts) ≡ ts
listed_again [] = refl
listed_again (t ∷ ts) = ap (λ us. t ∷ us) (listed_again ts)

pub field_values_again : {T : Type 0} (es : List (RcStr Global × Expr T))
    → field_values (fields_written es) ≡ map (written {T = T}) (values_of es)
field_values_again [] = refl
field_values_again {T} (e ∷ es) = ap (λ us. written {T = T} e.1 ∷ us) (field_values_again es)

-- ---- occurrences of a slot

module _ {D : Type 0} (s : SlotId) where
  abbrev found : List (Tree D) → Bool
  found = list_any (is_slot s)

  -- A slot occurs in a joined list exactly if it occurs in one of its two parts
  in_both : (ts us : List (Tree D)) (b c : Bool) → found ts ≡ b → found us ≡ c → found (us ++ ts) ≡ (b || c)
  in_both ts us b c h k = list_any-append (is_slot s) us ts ∙ or_comm (found us) (found ts) ∙ (λ i. h i || k i)

  both_found : (a b : Tree D) → found (subexpressions a) ≡ mentions_slot s a
      → found (subexpressions b) ≡ mentions_slot s b → found (subexpressions b ++ subexpressions a)
      ≡ (mentions_slot s a || mentions_slot s b)
  both_found a b h k = in_both (subexpressions a) (subexpressions b) (mentions_slot s a) (mentions_slot s b) h k

  mutual
    -- A slot is one of the subexpressions exactly if the expression mentions it
    pub slot_found : (t : Tree D) → list_any (is_slot s) (subexpressions t) ≡ mentions_slot s t
    slot_found (lit d x) = refl
    slot_found (var d x) = refl
    slot_found (slot d x) = or_comm (slot_eq x s) false
    slot_found (unknown d x) = refl
    slot_found (if_then_else d a b c) =
        in_both (subexpressions b ++ subexpressions a) (subexpressions c) (mentions_slot s a || mentions_slot s b)
        (mentions_slot s c) (both_found a b (slot_found a) (slot_found b)) (slot_found c)
        ∙ or_assoc (mentions_slot s a) (mentions_slot s b) (mentions_slot s c)
    slot_found (and d a b) = both_found a b (slot_found a) (slot_found b)
    slot_found (or d a b) = both_found a b (slot_found a) (slot_found b)
    slot_found (unary d o a) = slot_found a
    slot_found (binary d o a b) = both_found a b (slot_found a) (slot_found b)
    slot_found (call d n ts) = in_list ts
    slot_found (get_attr d a x) = slot_found a
    slot_found (has_attr d a x) = slot_found a
    slot_found (ext_has_attr d a x xs) = slot_found a
    slot_found (like d a p) = slot_found a
    slot_found (is_type d a n) = slot_found a
    slot_found (set_of d ts) = in_list ts
    slot_found (record_of d fs) = in_fields fs

    in_list : (ts : Trees D) → list_any (is_slot s) (subexpressions_of_all ts) ≡ any_mentions_slot s ts
    in_list no_trees = refl
    in_list (tree t ts) =
        in_both (subexpressions t) (subexpressions_of_all ts) (mentions_slot s t) (any_mentions_slot s ts)
        (slot_found t) (in_list ts)

    in_fields : (fs : Fields D) → list_any (is_slot s) (subexpressions_of_fields fs) ≡ field_mentions_slot s fs
    in_fields no_fields = refl
    in_fields (field k t fs) =
        in_both (subexpressions t) (subexpressions_of_fields fs) (mentions_slot s t) (field_mentions_slot s fs)
        (slot_found t) (in_fields fs)
