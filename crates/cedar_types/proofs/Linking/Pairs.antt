-- Pairs of links for two slots, one pair after another.
use Rattle.std.proofs.Common.{◌≡◌, ℕ, ◌+◌, ◌-◌, ◌<◌, ◌≤◌, List, [], ◌∷◌, ◌++◌, length, map, drop, get_or, refl, ap, sym, ◌∙◌, arith, Option}
use Rattle.std.proofs.lemmas.List.{drop_more, drop-append-le, get_or-map, length-map}
use Rattle.std.proofs.Math.ListN.{drop_of_length-le}
use Rattle.std.specs.Borrow.{Bor}
use Rattle.cedar_types.specs.declared.base.names.entities.EntityType.{EntityType}
use Rattle.cedar_types.specs.declared.types.link_pairs.Place.{Place}
use Rattle.cedar_types.specs.Environments.Linking.{in_all_ways}
use Rattle.cedar_types.specs.Environments.LinkViews.{link_of, place_env, pairs_from}
use Rattle.cedar_types.specs.Names.{Path}
use Rattle.cedar_types.specs.Environments.RequestEnvs.{Env, Declared}

abbrev Link : Type 0
Link = Option (Bor EntityType)

no_resources : (place : Place) (ps : List (Option Path)) → in_all_ways (place_env place) ps [] ≡ []
no_resources place [] = refl
no_resources place (p ∷ ps) = no_resources place ps

drop_none : {A : Type 0} (j : ℕ) → drop j (let xs : List A = [] in xs) ≡ []
drop_none j = drop_of_length-le [] (omega arith)

-- The remaining row from a place on is the entry at that place and the rest
row_step : {A : Type 0} (xs ys : List A) (j : ℕ) (d : A) → j < length xs → drop j (xs ++ ys) ≡ get_or xs j d ∷ (drop (j + 1) xs ++ ys)
row_step xs ys j d h = drop-append-le j xs ys (omega arith) ∙ ap (λ zs. zs ++ ys) (drop_more xs j d h)

pub no_principal : (place : Place) (ps rs : List Link) (i j : ℕ) → length ps ≤ i → pairs_from place ps rs i j ≡ []
no_principal place ps rs i j h = rw (drop_of_length-le ps h) (drop_none j)

pub no_resource : (place : Place) (ps rs : List Link) (i j : ℕ) → length rs ≤ j → j ≤ length rs - 1 → pairs_from place ps rs i j ≡ []
no_resource place ps [] i j h k = rw (no_resources place (map link_of (drop i ps))) (drop_none j)
no_resource place ps (r ∷ rs) i j h k = absurd (omega arith)

-- The row of one principal link
module _ (place : Place) (ps rs : List Link) (i j : ℕ) (p r : Link) (in_ps : i < length ps) (in_rs : j < length rs)
    (is_p : p ≡ get_or ps i p) (is_r : r ≡ get_or rs j r) where
  abbrev linked : Option Path → Option Path → Env
  linked = Declared (place_env place)

  abbrev row : List Env
  row = map (λ x. linked (link_of p) x) (map link_of rs)

  abbrev others : List Env
  others = in_all_ways (place_env place) (map link_of (drop (i + 1) ps)) (map link_of rs)

  row_length : length row ≡ length rs
  row_length = length-map (map link_of rs) (λ x. linked (link_of p) x) ∙ length-map rs link_of

  unrolled : in_all_ways (place_env place) (map link_of (drop i ps)) (map link_of rs) ≡ row ++ others
  unrolled = rw (drop_more ps i p in_ps) (rw (sym is_p) refl)

  head : get_or row j (linked (link_of p) (link_of r)) ≡ linked (link_of p) (link_of r)
  head =
      get_or-map (λ x. linked (link_of p) x) (map link_of rs) j (link_of r) _ (rw (length-map rs link_of) in_rs)
      ∙ ap (linked (link_of p)) (get_or-map link_of rs j r _ in_rs ∙ ap link_of (sym is_r))

  first : pairs_from place ps rs i j ≡ linked (link_of p) (link_of r) ∷ (drop (j + 1) row ++ others)
  first =
      ap (drop j) unrolled
      ∙ row_step row others j (linked (link_of p) (link_of r)) (rw row_length in_rs)
      ∙ ap (λ e. e ∷ (drop (j + 1) row ++ others)) head

  pub step_in_row : j + 1 < length rs → pairs_from place ps rs i j ≡ linked (link_of p) (link_of r) ∷ pairs_from place ps rs i (j + 1)
  step_in_row more = first ∙ ap (λ xs. linked (link_of p) (link_of r) ∷ xs)
      (sym (drop-append-le (j + 1) row others (rw row_length (omega (arith, more)))) ∙ ap (drop (j + 1)) (sym unrolled))

  pub step_row_end : length rs ≤ j + 1 → pairs_from place ps rs i j ≡ linked (link_of p) (link_of r) ∷ pairs_from place ps rs (i + 1) 0
  step_row_end last = first ∙ ap (λ xs. linked (link_of p) (link_of r) ∷ (xs ++ others))
      (drop_of_length-le row (rw row_length last))
