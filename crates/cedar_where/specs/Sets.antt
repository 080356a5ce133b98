-- The joined query of a set of policies.
use Rattle.std.specs.Prelude.{◌≡◌, Bool, not, ◌&&◌, List, [], ◌∷◌, map, false}
use Rattle.std.specs.List.{list_any}
use Rattle.cedar_where.specs.Sql.{Cell, Null, Truth, Integer, Words, Undefined, Data, Sql, sql_is_true, value}

-- a cell is TRUE, FALSE or NULL
abbrev pub IsTruthOrNull : Cell → Type 0
IsTruthOrNull Null = Unit {0}
IsTruthOrNull (Truth b) = Unit {0}
IsTruthOrNull (Integer n) = ⊥
IsTruthOrNull (Words t) = ⊥
IsTruthOrNull Undefined = ⊥

-- each clause is TRUE, FALSE or NULL over the data, as each clause is that means a condition
abbrev pub AreTruthsOrNull : Data → List Sql → Type 0
AreTruthsOrNull d [] = Unit {0}
AreTruthsOrNull d (c ∷ cs) = IsTruthOrNull (value d c) × AreTruthsOrNull d cs

abbrev pub is_true : Cell → Bool
is_true (Truth b) = b
is_true c = false

-- some clause is TRUE over the data
abbrev pub some_is_true : Data → List Sql → Bool
some_is_true d cs = list_any (λ c. is_true (value d c)) cs

-- the query is TRUE if some permit's clause is TRUE and no forbid's is, else FALSE
abbrev pub JoinsTheSet : List Sql → List Sql → Sql → Type 0
JoinsTheSet permits forbids query =
    (d : Data) → AreTruthsOrNull d permits → AreTruthsOrNull d forbids
    → value d query ≡ Truth (some_is_true d permits && not (some_is_true d forbids))

-- ---- parts of the query

-- the test is TRUE if some clause is, else FALSE
abbrev pub TellsAnyTrue : List Sql → Sql → Type 0
TellsAnyTrue cs e = (d : Data) → AreTruthsOrNull d cs → value d e ≡ Truth (some_is_true d cs)

-- the cell is TRUE or FALSE
abbrev pub IsTruth : Cell → Type 0
IsTruth c = c ≡ Truth (is_true c)

-- each test is TRUE or FALSE over the data
abbrev pub AreTruths : Data → List Sql → Type 0
AreTruths d [] = Unit {0}
AreTruths d (t ∷ ts) = IsTruth (value d t) × AreTruths d ts

-- a test of each clause: it is TRUE if the clause is, else FALSE
abbrev pub TestsEach : List Sql → List Sql → Type 0
TestsEach cs ts = ts ≡ map sql_is_true cs

-- the second tests are TRUE or FALSE if the first are, and one of them is TRUE exactly if one of the first is
abbrev pub KeepsAny : List Sql → List Sql → Type 0
KeepsAny ts us = (d : Data) → AreTruths d ts → AreTruths d us × (some_is_true d us ≡ some_is_true d ts)
