-- A level that is counted up to the greatest number compares with a maximum, and is reported, as
-- the level itself.
use Rattle.std.proofs.Common.{◌≡◌, ℕ, ◌+◌, ◌≤◌, Bool, true, false, nat_lt, nat_le, refl, sym, arith}
use Rattle.std.proofs.lemmas.Bool.{ltb-true, leb-true, le-leb, lt-ltb}
use Rattle.cedar_typechecker.specs.Levels.Errors.{reported}
use Rattle.cedar_typechecker.specs.Levels.Demands.{capped, raised}

-- two tests are equal if each is true whenever the other is
both_ways : (a b : Bool) → (a ≡ true → b ≡ true) → (b ≡ true → a ≡ true) → a ≡ b
both_ways true b f g = sym (f refl)
both_ways false true f g = g refl
both_ways false false f g = refl

pub same_less : (n j : ℕ) → n ≤ 4294967295 → nat_lt (capped j) n ≡ nat_lt j n
same_less n j le =
    both_ways (nat_lt (capped j) n) (nat_lt j n)
    (λ e. let less = ltb-true (capped j) n e in lt-ltb j n (omega arith))
    (λ e. let less = ltb-true j n e in lt-ltb (capped j) n (omega arith))

pub same_at_most : (n j : ℕ) → n ≤ 4294967295 → nat_le (capped j) n ≡ nat_le j n
same_at_most n j le =
    both_ways (nat_le (capped j) n) (nat_le j n)
    (λ e. let less = leb-true (capped j) n e in le-leb j n (omega arith))
    (λ e. let less = leb-true j n e in le-leb (capped j) n (omega arith))

pub same_required : (j : ℕ) → reported (raised (capped j) 1) ≡ reported (j + 1)
same_required j = omega arith

pub same_report : (j : ℕ) → reported (capped j) ≡ reported j
same_report j = omega arith

pub same_sum : (k j c : ℕ) → k ≡ capped j → raised k c ≡ capped (j + c)
same_sum k j c e = omega arith
