-- The pieces of a text: its tokens and its comments.
use Rattle.std.specs.Prelude.{ℕ, Bool, true, false, not, ◌&&◌, ◌||◌, ◌==◌, List, [], ◌∷◌, ◌++◌, nat_le, fold, if◌then◌else◌}
use Rattle.cedar_writing.specs.declared.steps.Begun.{Begun}
use Rattle.cedar_writing.specs.declared.steps.Begun.TheVariants as Begun
use Rattle.cedar_writing.specs.declared.steps.Step.{Step}

-- ---- bytes

-- a byte from the first to the last of these
abbrev pub is_from : ℕ → ℕ → ℕ → Bool
is_from first last b = nat_le first b && nat_le b last

-- a blank
abbrev pub is_blank : ℕ → Bool
is_blank b = b == 32 || is_from 9 13 b

-- a parenthesis or a comma
abbrev pub is_loose : ℕ → Bool
is_loose b = b == 40 || (b == 41 || b == 44)

abbrev pub is_digit : ℕ → Bool
is_digit b = is_from 48 57 b

-- a letter, `_`, or a byte of a character outside of ASCII
abbrev pub is_letter : ℕ → Bool
is_letter b = is_from 97 122 b || (is_from 65 90 b || (b == 95 || is_from 128 255 b))

-- the mark of a byte may go on with another byte: `=`, `!`, `<`, `>`, `&`, `|`, `:`, and `/` of a comment
abbrev pub may_go_on : ℕ → Bool
may_go_on b = b == 61 || (b == 33 || (b == 60 || (b == 62 || (b == 38 || (b == 124 || (b == 58 || b == 47))))))

-- two bytes are one mark: `==`, `!=`, `<=`, `>=`, `&&`, `||`, `::`
abbrev pub is_pair : ℕ → ℕ → Bool
is_pair a b =
    (b == 61 && (a == 61 || (a == 33 || (a == 60 || a == 62))))
    || ((a == b) && (a == 38 || (a == 124 || a == 58)))

-- the piece that a byte begins where no piece is begun
abbrev pub begun_by : ℕ → Begun
begun_by b =
    if b == 34 then Begun.Quoted else
    (if is_digit b then Begun.Number else
    (if is_letter b then Begun.Word else
    (if may_go_on b then Begun.Mark b else Begun.Nothing)))

-- ---- steps

abbrev pub is_nothing : Begun → Bool
is_nothing Begun.Nothing = true
is_nothing Begun.Word = false
is_nothing Begun.Number = false
is_nothing (Begun.Mark a) = false
is_nothing Begun.Quoted = false
is_nothing Begun.Escape = false
is_nothing Begun.Comment = false

-- a byte that ends a piece before it, or does not, and that is written or not; what is begun behind it
abbrev pub goes_on : Begun → Step
goes_on begun = record { ends_before = false; is_kept = true; ends = false; begun = begun }

-- a byte that is the last one of its piece
abbrev pub ends_piece : Step
ends_piece = record { ends_before = false; is_kept = true; ends = true; begun = Begun.Nothing }

-- a byte behind the last piece: a blank, a parenthesis or a comma is left out, and any other byte begins a piece; a mark that
-- does not go on ends there too
abbrev pub begins : Bool → ℕ → Step
begins ended b =
    if is_blank b || is_loose b
    then record { ends_before = ended; is_kept = false; ends = false; begun = Begun.Nothing }
    else record { ends_before = ended; is_kept = true; ends = is_nothing (begun_by b); begun = begun_by b }

-- what a byte does behind what is begun
abbrev pub step : Begun → ℕ → Step
step Begun.Nothing b = begins false b
-- a word goes on with letters and digits, a number with digits
step Begun.Word b = if is_letter b || is_digit b then goes_on Begun.Word else begins true b
step Begun.Number b = if is_digit b then goes_on Begun.Number else begins true b
-- `//` begins a comment, and other marks have one byte or two
step (Begun.Mark a) b =
    if a == 47 && b == 47 then goes_on Begun.Comment else (if is_pair a b then ends_piece else begins true b)
-- a text ends with a quote, and a backslash takes the next byte along
step Begun.Quoted b =
    if b == 34 then ends_piece else (if b == 92 then goes_on Begun.Escape else goes_on Begun.Quoted)
step Begun.Escape b = goes_on Begun.Quoted
-- a comment ends before a line feed or a carriage return
step Begun.Comment b =
    if b == 10 || b == 13
    then record { ends_before = true; is_kept = false; ends = false; begun = Begun.Nothing }
    else goes_on Begun.Comment

-- ---- lines

-- the end of a line, where a piece ends
abbrev pub line_end : Bool → List ℕ
line_end true = 10 ∷ []
line_end false = []

abbrev pub kept : Bool → ℕ → List ℕ
kept true b = b ∷ []
kept false b = []

-- what a byte adds to the lines
abbrev pub added : Step → ℕ → List ℕ
added s b = line_end s.ends_before ++ (kept s.is_kept b ++ line_end s.ends)

-- what is begun, and the lines so far
abbrev pub Lines : Type 0
Lines = Begun × List ℕ

-- the lines with one byte more
abbrev pub next_lines : Lines → ℕ → Lines
next_lines l b = ((step l.0 b).begun, l.1 ++ added (step l.0 b) b)

-- the lines of the bytes so far
abbrev pub lines_so_far : List ℕ → Lines
lines_so_far text = fold next_lines (Begun.Nothing, []) text

abbrev pub ended : Lines → List ℕ
ended l = l.1 ++ line_end (not (is_nothing l.0))

-- the pieces of a text, one a line: its tokens and comments in their order, without blanks, parentheses and commas
abbrev pub one_a_line : List ℕ → List ℕ
one_a_line text = ended (lines_so_far text)
