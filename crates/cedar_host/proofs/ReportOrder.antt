-- Findings that are kept by their places and lines are listed in the order of their places.
use Rattle.std.proofs.Common.{◌≡◌, ◌<◌, inl, inr, List, [], ◌∷◌, map, All, Option, Some, None, refl, sym, ap, ◌∙◌, subst, arith}
use Rattle.std.specs.BTreeMap.{insert_entry}
use Rattle.std.specs.List.{AllByRecursion}
use Rattle.std.specs.List.Sorted.{IsStrictlySortedBy}
use Rattle.std.specs.Map.{keys_of, values_of}
use Rattle.std.specs.Option.{option_cmp}
use Rattle.std.specs.Ordering.{match_ordering, ordering_then, nat_cmp}
use Rattle.std.specs.declared.cmp.Ordering.{Ordering}
use Rattle.std.specs.declared.cmp.Ordering.TheVariants.{Less, Equal, Greater}
use Rattle.std.proofs.lemmas.Cmp.{ranked}
use Rattle.std.proofs.lemmas.List.Elements.{All-cons, All-head, All-tail}
use Rattle.std.proofs.lemmas.Map.Keys.{sorted_head, sorted_tail}
use Rattle.cedar_types.specs.declared.base.location.Loc.{Loc}
use Rattle.cedar_types.specs.contracts.base.location.LocOrd.TheImpl as loc_impl
use Rattle.cedar_host.specs.declared.reports.Order.{Order}
use Rattle.cedar_host.specs.contracts.reports.OrderOrd.TheImpl as order_impl
use Rattle.cedar_host.specs.ReportOrder.{IsNotBehind, AreInOrder}

abbrev pub order_cmp : Order → Order → Ordering
order_cmp = order_impl.ghosts.cmp

abbrev place_cmp : Option Loc → Option Loc → Ordering
place_cmp = option_cmp loc_impl.ghosts.cmp

-- ---- two places

less_numbers : (p q : Loc) (o u : Ordering) → o ≡ nat_cmp p.start q.start → u ≡ nat_cmp p.end q.end
    → ordering_then o u ≡ Less → IsNotBehind (Some p) (Some q)
less_numbers p q Less u e f h = inl (ranked p.start q.start Less e)
less_numbers p q Equal Less e f h =
    let l : p.end < q.end = ranked p.end q.end Less f in
    inr (ranked p.start q.start Equal e, omega (arith, l))
less_numbers p q Equal Equal e f h = cc
less_numbers p q Equal Greater e f h = cc
less_numbers p q Greater u e f h = cc

same_numbers : (p q : Loc) (o u : Ordering) → o ≡ nat_cmp p.start q.start → u ≡ nat_cmp p.end q.end
    → ordering_then o u ≡ Equal → p ≡ q
same_numbers p q Less u e f h = cc
same_numbers p q Equal Less e f h = cc
same_numbers p q Equal Equal e f h =
    let s : p.start ≡ q.start = ranked p.start q.start Equal e in
    let t : p.end ≡ q.end = ranked p.end q.end Equal f in
    λ i. record { start = s i; end = t i }
same_numbers p q Equal Greater e f h = cc
same_numbers p q Greater u e f h = cc

less_places : (p q : Option Loc) → place_cmp p q ≡ Less → IsNotBehind p q
less_places None q h = tt
less_places (Some p) None h = cc
less_places (Some p) (Some q) h = less_numbers p q _ _ refl refl h

same_places : (p q : Option Loc) → place_cmp p q ≡ Equal → p ≡ q
same_places None None h = refl
same_places None (Some q) h = cc
same_places (Some p) None h = cc
same_places (Some p) (Some q) h = ap (λ (l : Loc). Some l) (same_numbers p q _ _ refl refl h)

itself : (p : Option Loc) → IsNotBehind p p
itself None = tt
itself (Some p) = inr (refl, omega arith)

-- ---- two keys

by_place : (p q : Option Loc) (o u : Ordering) → place_cmp p q ≡ o → ordering_then o u ≡ Less → IsNotBehind p q
by_place p q Less u e h = less_places p q e
by_place p q Equal u e h = subst (IsNotBehind p) (same_places p q e) (itself p)
by_place p q Greater u e h = cc

same_place : (p q : Option Loc) (o u : Ordering) → place_cmp p q ≡ o → ordering_then o u ≡ Equal → p ≡ q
same_place p q Less u e h = cc
same_place p q Equal u e h = same_places p q e
same_place p q Greater u e h = cc

less_keys : (k l : Order) → order_cmp k l ≡ Less → IsNotBehind k.place l.place
less_keys k l h = by_place k.place l.place _ _ refl h

same_keys : (k l : Order) → order_cmp k l ≡ Equal → k.place ≡ l.place
same_keys k l h = same_place k.place l.place _ _ refl h

-- ---- a map of findings by their keys

module _ {F : Type 0} (place : F → Option Loc) where
  -- each has the place of its key
  abbrev pub IsPlaced : Order × F → Type 0
  IsPlaced e = e.0.place ≡ place e.1

  insert_by : (k : Order) (v : F) (e : Order × F) (es : List (Order × F)) (o : Ordering) → order_cmp k e.0 ≡ o
      → k.place ≡ place v → IsPlaced e → All IsPlaced es → All IsPlaced (insert_entry order_cmp es k v)
      → All IsPlaced (match_ordering o ((k, v) ∷ e ∷ es) ((e.0, v) ∷ es) (e ∷ insert_entry order_cmp es k v))
  insert_by k v e es Less is p h hs rest = All-cons IsPlaced (k, v) (e ∷ es) p (All-cons IsPlaced e es h hs)
  insert_by k v e es Equal is p h hs rest = All-cons IsPlaced (e.0, v) es (sym (same_keys k e.0 is) ∙ p) hs
  insert_by k v e es Greater is p h hs rest = All-cons IsPlaced e (insert_entry order_cmp es k v) h rest

  one_more_placed : (es : List (Order × F)) (k : Order) (v : F) → k.place ≡ place v → All IsPlaced es
      → All IsPlaced (insert_entry order_cmp es k v)
  one_more_placed [] k v p h = All-cons IsPlaced (k, v) [] p h
  one_more_placed (e ∷ es) k v p h =
      let hs = All-tail IsPlaced e es h in
      insert_by k v e es (order_cmp k e.0) refl p (All-head IsPlaced e es h) hs (one_more_placed es k v p hs)

  pub inserted_placed : (old new : List (Order × F)) (k : Order) (v : F) → new ≡ insert_entry order_cmp old k v
      → k.place ≡ place v → All IsPlaced old → All IsPlaced new
  inserted_placed old new k v e p h = subst (All IsPlaced) (sym e) (one_more_placed old k v p h)

  -- so they are listed in the order of their places
  none_behind : (k : Order) (es : List (Order × F)) → All IsPlaced es
      → AllByRecursion (λ l. order_cmp k l ≡ Less) (keys_of es)
      → AllByRecursion (IsNotBehind k.place) (map place (values_of es))
  none_behind k [] h s = tt
  none_behind k (e ∷ es) h s = (
    subst (IsNotBehind k.place) (All-head IsPlaced e es h) (less_keys k e.0 s.0),
    none_behind k es (All-tail IsPlaced e es h) s.1,
  )

  pub in_order_of_keys : (es : List (Order × F)) → All IsPlaced es → IsStrictlySortedBy order_cmp (keys_of es)
      → AreInOrder (map place (values_of es))
  in_order_of_keys [] h s = tt
  in_order_of_keys (e ∷ es) h s =
      let hs = All-tail IsPlaced e es h in
      let first = none_behind e.0 es hs (sorted_head order_cmp e.0 (keys_of es) s) in (
        subst (λ (p : Option Loc). AllByRecursion (IsNotBehind p) (map place (values_of es))) (All-head IsPlaced e es h) first,
        in_order_of_keys es hs (sorted_tail order_cmp e.0 (keys_of es) s),
      )
