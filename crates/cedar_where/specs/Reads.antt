-- The tables that an expression reads.
use Rattle.std.specs.Prelude.{List, [], ◌∷◌, ◌++◌}
use Rattle.cedar_types.specs.Names.{Path}
use Rattle.cedar_where.specs.Sql.{Sql, sql_null, sql_truth, sql_number, sql_text, sql_column, sql_own_id, sql_principal, sql_parameter, sql_attribute, sql_not}
use Rattle.cedar_where.specs.Sql.{sql_and, sql_or, sql_case, sql_equal, sql_less, sql_less_equal, sql_is_not_null, sql_is_true}
use Rattle.cedar_where.specs.Sql.{sql_matches, sql_is_among, sql_is_in, sql_is_in_any}

-- the entity types whose tables are read beside the resource's own row, as often as they are, behind those before
abbrev pub types_read : Sql → List Path → List Path
types_read sql_null ps = ps
types_read (sql_truth b) ps = ps
types_read (sql_number n) ps = ps
types_read (sql_text t) ps = ps
types_read (sql_column xs) ps = ps
types_read sql_own_id ps = ps
types_read sql_principal ps = ps
types_read (sql_parameter v xs) ps = ps
types_read (sql_attribute p a xs) ps = types_read a ps ++ p ∷ []
types_read (sql_not a) ps = types_read a ps
types_read (sql_and a b) ps = types_read b (types_read a ps)
types_read (sql_or a b) ps = types_read b (types_read a ps)
types_read (sql_case t a b) ps = types_read b (types_read a (types_read t ps))
types_read (sql_equal a b) ps = types_read b (types_read a ps)
types_read (sql_less a b) ps = types_read b (types_read a ps)
types_read (sql_less_equal a b) ps = types_read b (types_read a ps)
types_read (sql_is_not_null a) ps = types_read a ps
types_read (sql_is_true a) ps = types_read a ps
types_read (sql_matches a p) ps = types_read a ps
types_read (sql_is_among a ts) ps = types_read a ps
types_read (sql_is_in p a q b) ps = types_read b (types_read a ps)
types_read (sql_is_in_any p a us) ps = types_read a ps
