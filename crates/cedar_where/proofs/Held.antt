-- Tests in a loop that holds one of them.
use Rattle.std.proofs.Common.{◌≡◌, List, [], ◌∷◌, ◌++◌, map, sym, ap, subst, ◌∙◌}
use Rattle.std.proofs.lemmas.List.{map-append}
use Rattle.cedar_where.specs.Sets.{KeepsAny}
use Rattle.cedar_where.specs.Sql.{Sql, sql_or}
use Rattle.cedar_where.specs.Views.{sql_of}
use Rattle.cedar_where.specs.declared.sql.SqlExpr.{SqlExpr}
use Rattle.cedar_where.proofs.SetsAgree.{keeps_held, keeps_joined}

module _ (ys ps : List SqlExpr) (t : SqlExpr) where
  one_more : (us : List Sql) → KeepsAny (map sql_of ys ++ sql_of t ∷ []) us → KeepsAny (map sql_of (ys ++ t ∷ [])) us
  one_more us h = subst (λ ts. KeepsAny ts us) (sym (map-append sql_of ys (t ∷ []))) h

  -- the next test is held
  pub held_more : KeepsAny (map sql_of ys) (map sql_of ps ++ [])
      → KeepsAny (map sql_of (ys ++ t ∷ [])) (map sql_of ps ++ sql_of t ∷ [])
  held_more h = one_more (map sql_of ps ++ sql_of t ∷ []) (keeps_held (map sql_of ys) (map sql_of ps) (sql_of t) h)

  -- the next test is joined to the one that is held
  pub held_joined : (b e : SqlExpr) (qs : List SqlExpr) → sql_of e ≡ sql_or (sql_of b) (sql_of t) → qs ≡ ps ++ e ∷ []
      → KeepsAny (map sql_of ys) (map sql_of ps ++ sql_of b ∷ [])
      → KeepsAny (map sql_of (ys ++ t ∷ [])) (map sql_of qs ++ [])
  held_joined b e qs is are h =
      let all : map sql_of qs ≡ map sql_of ps ++ sql_or (sql_of b) (sql_of t) ∷ [] =
      ap (map sql_of) are
      ∙ map-append sql_of ps (e ∷ [])
      ∙ ap (λ z. map sql_of ps ++ z ∷ []) is in
      one_more (map sql_of qs ++ [])
      (subst (λ us. KeepsAny (map sql_of ys ++ sql_of t ∷ []) (us ++ [])) (sym all)
      (keeps_joined (map sql_of ys) (map sql_of ps) (sql_of b) (sql_of t) h))
