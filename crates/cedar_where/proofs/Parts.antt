-- Parts of a condition: their outcomes, and the cells of SQL for them.
use Rattle.std.proofs.Common.{◌≡◌, Bool, true, false, ◌&&◌, Option, Some, None, ℤ, refl, ap, ◌∙◌, if◌then◌else◌}
use Rattle.cedar_types.specs.Names.{Text}
use Rattle.cedar_types.specs.Values.{Value, VBool, VLong, VString, VEntity}
use Rattle.cedar_typing.specs.Evaluation.World.{Failure, Outcome, Gives, Fails}
use Rattle.cedar_where.specs.Compiled.{Kind, KBool, KLong, KText, KEntity, Term}
use Rattle.cedar_where.specs.Sql.{Cell, Null, Truth, Integer, Words, Data, value, uid, null_beside, not_null_cell}

-- the values of a kind, as SQL holds them
abbrev pub Held : Kind → Type 0
Held KBool = Bool
Held KLong = ℤ
Held KText = Text
Held (KEntity p) = Text

abbrev pub value_held : (k : Kind) → Held k → Value
value_held KBool b = VBool b
value_held KLong n = VLong n
value_held KText t = VString t
value_held (KEntity p) t = VEntity (uid p t)

abbrev pub cell_held : (k : Kind) → Held k → Cell
cell_held KBool b = Truth b
cell_held KLong n = Integer n
cell_held KText t = Words t
cell_held (KEntity p) t = Words t

-- a value of a kind, or a failure, if the part is not total
pub data Answer (k : Kind) (total : Bool) : Type 0 where
  there : Held k → Answer k total
  gone : Failure → total ≡ false → Answer k total

abbrev pub outcome_of : (k : Kind) (r : Bool) → Answer k r → Outcome
outcome_of k r (there v) = Gives (value_held k v)
outcome_of k r (gone f e) = Fails f

abbrev pub cell_of : (k : Kind) (r : Bool) → Answer k r → Cell
cell_of k r (there v) = cell_held k v
cell_of k r (gone f e) = Null

-- an outcome and a cell are those of one answer
abbrev pub Agree : Kind → Bool → Outcome → Cell → Type 0
Agree k r o c = (x : Answer k r) × (o ≡ outcome_of k r x) × (c ≡ cell_of k r x)

-- a property of a part, if it is compiled
abbrev pub OnTerm : (Term → Type 0) → Option Term → Type 0
OnTerm P None = Unit {0}
OnTerm P (Some t) = P t

-- SQL holds the outcome of a part
abbrev pub IsRight : Data → Outcome → Term → Type 0
IsRight d o t = Agree t.kind t.is_total o (value d t.sql)

pub if_plain : (P : Term → Type 0) (b : Bool) (t : Term) → P t → OnTerm P (if b then Some t else None)
if_plain P true t h = h
if_plain P false t h = tt

-- ---- parts of parts

pub ap_both : {A B C : Type 0} (f : A → B → C) {a a' : A} {b b' : B} → a ≡ a' → b ≡ b' → f a b ≡ f a' b'
ap_both f p q = λ i. f (p i) (q i)

pub from_one : (f : Outcome → Outcome) (g : Cell → Cell) (k l : Kind) (r q : Bool)
    → ((x : Answer k r) → Agree l q (f (outcome_of k r x)) (g (cell_of k r x)))
    → (o : Outcome) (c : Cell) → Agree k r o c → Agree l q (f o) (g c)
from_one f g k l r q h o c a =
    let z = h a.0 in
    (z.0, ap f a.1 ∙ z.1, ap g a.2 ∙ z.2)

pub from_two : (f : Outcome → Outcome → Outcome) (g : Cell → Cell → Cell) (k l m : Kind) (r q s : Bool)
    → ((x : Answer k r) (y : Answer l q)
    → Agree m s (f (outcome_of k r x) (outcome_of l q y)) (g (cell_of k r x) (cell_of l q y)))
    → (o o' : Outcome) (c c' : Cell) → Agree k r o c → Agree l q o' c' → Agree m s (f o o') (g c c')
from_two f g k l m r q s h o o' c c' a b =
    let z = h a.0 b.0 in
    (z.0, ap_both f a.1 b.1 ∙ z.1, ap_both g a.2 b.2 ∙ z.2)

pub from_three : (f : Outcome → Outcome → Outcome → Outcome) (g : Cell → Cell → Cell → Cell) (k l m n : Kind) (r q p s : Bool)
    → ((x : Answer k r) (y : Answer l q) (z : Answer m p)
    → Agree n s (f (outcome_of k r x) (outcome_of l q y) (outcome_of m p z)) (g (cell_of k r x) (cell_of l q y) (cell_of m p z)))
    → (o o' o'' : Outcome) (c c' c'' : Cell) → Agree k r o c → Agree l q o' c' → Agree m p o'' c'' → Agree n s (f o o' o'') (g c c' c'')
from_three f g k l m n r q p s h o o' o'' c c' c'' a b e =
    let z = h a.0 b.0 e.0 in
    (z.0, (λ i. f (a.1 i) (b.1 i) (e.1 i)) ∙ z.1, (λ i. g (a.2 i) (b.2 i) (e.2 i)) ∙ z.2)

-- a part that is total may be taken for one that is not
pub loose : (k : Kind) (r : Bool) (o : Outcome) (c : Cell) → Agree k r o c → Agree k false o c
loose k r o c (there v, p, q) = (there v, p, q)
loose k r o c (gone f e, p, q) = (gone f refl, p, q)

-- ---- cells that hold a value

pub not_null_held : (k : Kind) (v : Held k) → not_null_cell (cell_held k v) ≡ Truth true
not_null_held KBool v = refl
not_null_held KLong v = refl
not_null_held KText v = refl
not_null_held (KEntity p) v = refl

pub null_beside_held : (k : Kind) (v : Held k) → null_beside (cell_held k v) ≡ Null
null_beside_held KBool v = refl
null_beside_held KLong v = refl
null_beside_held KText v = refl
null_beside_held (KEntity p) v = refl

pub null_beside_any : (k : Kind) (r : Bool) (x : Answer k r) → null_beside (cell_of k r x) ≡ Null
null_beside_any k r (there v) = null_beside_held k v
null_beside_any k r (gone f e) = refl

-- ---- two parts are total if both are

pub left_gone : (r q : Bool) → r ≡ false → (r && q) ≡ false
left_gone true q h = cc
left_gone false q h = refl

pub right_gone : (r q : Bool) → q ≡ false → (r && q) ≡ false
right_gone true q h = h
right_gone false q h = refl
