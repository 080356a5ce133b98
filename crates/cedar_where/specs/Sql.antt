-- Expressions of SQL as plain trees, and the value of each over a row: a truth value, a number, a text, or NULL.
use Rattle.std.specs.Prelude.{Bool, true, false, not, ◌||◌, List, ℤ, int_lt, int_le}
use Rattle.std.specs.List.{list_any}
use Rattle.std.specs.Ordering.{int_eq}
use Rattle.cedar_types.specs.declared.base.expressions.operators.Var.{Var}
use Rattle.cedar_types.specs.declared.base.expressions.patterns.PatternElem.{PatternElem}
use Rattle.cedar_types.specs.Names.{Text, Path, Uid, text_eq, uid_eq}
use Rattle.cedar_types.specs.Names.Comparisons.{bool_eq}
use Rattle.cedar_typing.specs.Evaluation.Eval.{matches}

-- the value of an expression of SQL
pub data Cell : Type 0 where
  Null : Cell
  Truth : Bool → Cell
  Integer : ℤ → Cell
  Words : Text → Cell
  -- the cell of two kinds that meet, on which systems differ; no clause gives it
  Undefined : Cell

-- the data on which a query is run
pub record Data : Type 0 where
  -- the row's cells, by the paths of attributes: a record's attributes have columns of their own
  pub cells : List Text → Cell
  -- the cells in the table of an entity's type, by the entity and a path; NULL if the table has no row of the entity
  pub stored : Uid → List Text → Cell
  -- the row's own id
  pub eid : Text
  -- the parameters: the principal's id, and what stands at the end of a path from a variable of the request
  pub principal : Text
  pub parameters : Var → List Text → Cell
  -- whether the table of ancestors has the second entity as an ancestor of the first
  pub has_ancestor : Uid → Uid → Bool

pub data Sql : Type 0 where
  sql_null : Sql
  sql_truth : Bool → Sql
  sql_number : ℤ → Sql
  sql_text : Text → Sql
  -- the column at a path, the column of the row's own id, the parameter of the principal's id, another parameter
  sql_column : List Text → Sql
  sql_own_id : Sql
  sql_principal : Sql
  sql_parameter : Var → List Text → Sql
  -- the column at a path in the row of the entity of a type and an id: `(SELECT .. FROM .. WHERE "eid" = a)`
  sql_attribute : Path → Sql → List Text → Sql
  -- `NOT a`, `a AND b`, `a OR b`
  sql_not : Sql → Sql
  sql_and : Sql → Sql → Sql
  sql_or : Sql → Sql → Sql
  -- `CASE t WHEN TRUE THEN a WHEN FALSE THEN b END`
  sql_case : Sql → Sql → Sql → Sql
  -- `a = b`, `a < b`, `a <= b`
  sql_equal : Sql → Sql → Sql
  sql_less : Sql → Sql → Sql
  sql_less_equal : Sql → Sql → Sql
  -- `a IS NOT NULL`, `a IS TRUE`
  sql_is_not_null : Sql → Sql
  sql_is_true : Sql → Sql
  -- whether a text matches a pattern
  sql_matches : Sql → List PatternElem → Sql
  -- whether a text is one of some texts
  sql_is_among : Sql → List Text → Sql
  -- whether the entity of a type and an id is another, or has that as an ancestor
  sql_is_in : Path → Sql → Path → Sql → Sql
  -- whether the entity of a type and an id is one of some entities, or has one as an ancestor
  sql_is_in_any : Path → Sql → List Uid → Sql

-- ---- operators on cells

-- NOT, AND and OR of three values: NULL is a truth value that is not known
abbrev pub not_cell : Cell → Cell
not_cell Null = Null
not_cell (Truth b) = Truth (not b)
not_cell c = Undefined

-- the second cell if the first is TRUE
abbrev pub and_true : Cell → Cell
and_true Null = Null
and_true (Truth b) = Truth b
and_true c = Undefined

-- FALSE, if the other cell is a truth value or NULL
abbrev pub and_false : Cell → Cell
and_false Null = Truth false
and_false (Truth b) = Truth false
and_false c = Undefined

-- FALSE if the second cell is FALSE, else NULL
abbrev pub and_null : Cell → Cell
and_null Null = Null
and_null (Truth true) = Null
and_null (Truth false) = Truth false
and_null c = Undefined

abbrev pub and_cells : Cell → Cell → Cell
and_cells (Truth true) d = and_true d
and_cells (Truth false) d = and_false d
and_cells Null d = and_null d
and_cells c d = Undefined

-- TRUE, if the other cell is a truth value or NULL
abbrev pub or_true : Cell → Cell
or_true Null = Truth true
or_true (Truth b) = Truth true
or_true c = Undefined

-- TRUE if the second cell is TRUE, else NULL
abbrev pub or_null : Cell → Cell
or_null Null = Null
or_null (Truth true) = Truth true
or_null (Truth false) = Null
or_null c = Undefined

abbrev pub or_cells : Cell → Cell → Cell
or_cells (Truth true) d = or_true d
or_cells (Truth false) d = and_true d
or_cells Null d = or_null d
or_cells c d = Undefined

-- the first cell if the test is TRUE, the second if it is FALSE, and NULL if it is NULL
abbrev pub case_cell : Cell → Cell → Cell → Cell
case_cell (Truth true) c d = c
case_cell (Truth false) c d = d
case_cell Null c d = Null
case_cell t c d = Undefined

-- NULL, if the other cell is defined
abbrev pub null_beside : Cell → Cell
null_beside Undefined = Undefined
null_beside c = Null

-- a comparison: NULL if a cell is NULL; it is told for two cells of one kind; texts are compared byte by byte
abbrev pub equal_cells : Cell → Cell → Cell
equal_cells Null d = null_beside d
equal_cells c Null = null_beside c
equal_cells (Truth a) (Truth b) = Truth (bool_eq a b)
equal_cells (Integer m) (Integer n) = Truth (int_eq m n)
equal_cells (Words s) (Words t) = Truth (text_eq s t)
equal_cells c d = Undefined

-- a comparison by the order of numbers, which only numbers have here
abbrev pub ordered_cells : (ℤ → ℤ → Bool) → Cell → Cell → Cell
ordered_cells test Null d = null_beside d
ordered_cells test c Null = null_beside c
ordered_cells test (Integer m) (Integer n) = Truth (test m n)
ordered_cells test c d = Undefined

-- IS NOT NULL and IS TRUE are never NULL
abbrev pub not_null_cell : Cell → Cell
not_null_cell Null = Truth false
not_null_cell Undefined = Undefined
not_null_cell c = Truth true

abbrev pub true_cell : Cell → Cell
true_cell Null = Truth false
true_cell (Truth b) = Truth b
true_cell c = Undefined

abbrev pub matches_cell : List PatternElem → Cell → Cell
matches_cell p Null = Null
matches_cell p (Words t) = Truth (matches p t)
matches_cell p c = Undefined

-- a test of two ids; NULL if one of them is
abbrev pub ids_cell : (Text → Text → Bool) → Cell → Cell → Cell
ids_cell test Null d = null_beside d
ids_cell test c Null = null_beside c
ids_cell test (Words s) (Words t) = Truth (test s t)
ids_cell test c d = Undefined

-- a test of an id or of another text; NULL if that is
abbrev pub id_cell : (Text → Bool) → Cell → Cell
id_cell test Null = Null
id_cell test (Words s) = Truth (test s)
id_cell test c = Undefined

-- the cell in the row that an id names; NULL if the id is
abbrev pub found_cell : (Text → Cell) → Cell → Cell
found_cell at Null = Null
found_cell at (Words s) = at s
found_cell at c = Undefined

-- ---- the value of an expression

abbrev pub uid : Path → Text → Uid
uid p t = record { entity_type = p; eid = t }

-- the first entity is the second, or the table of ancestors has the second as its ancestor
abbrev pub is_within : Data → Uid → Uid → Bool
is_within d u v = uid_eq u v || d.has_ancestor u v

-- membership of ids, whose types are given
abbrev pub is_id_within : Data → Path → Path → Text → Text → Bool
is_id_within d p q s t = is_within d (uid p s) (uid q t)

-- membership of an id in one of some entities
abbrev pub is_id_within_any : Data → Path → List Uid → Text → Bool
is_id_within_any d p us s = list_any (is_within d (uid p s)) us

abbrev pub value : Data → Sql → Cell
value d sql_null = Null
value d (sql_truth b) = Truth b
value d (sql_number n) = Integer n
value d (sql_text t) = Words t
value d (sql_column xs) = d.cells xs
value d sql_own_id = Words d.eid
value d sql_principal = Words d.principal
value d (sql_parameter v xs) = d.parameters v xs
value d (sql_attribute p a xs) = found_cell (λ t. d.stored (uid p t) xs) (value d a)
value d (sql_not a) = not_cell (value d a)
value d (sql_and a b) = and_cells (value d a) (value d b)
value d (sql_or a b) = or_cells (value d a) (value d b)
value d (sql_case t a b) = case_cell (value d t) (value d a) (value d b)
value d (sql_equal a b) = equal_cells (value d a) (value d b)
value d (sql_less a b) = ordered_cells int_lt (value d a) (value d b)
value d (sql_less_equal a b) = ordered_cells int_le (value d a) (value d b)
value d (sql_is_not_null a) = not_null_cell (value d a)
value d (sql_is_true a) = true_cell (value d a)
value d (sql_matches a p) = matches_cell p (value d a)
value d (sql_is_among a ts) = id_cell (λ s. list_any (text_eq s) ts) (value d a)
value d (sql_is_in p a q b) = ids_cell (is_id_within d p q) (value d a) (value d b)
value d (sql_is_in_any p a us) = id_cell (is_id_within_any d p us) (value d a)
