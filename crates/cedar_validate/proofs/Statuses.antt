-- An outcome that accepts counts no refusal.
use Rattle.std.proofs.Common.{◌≡◌, ◌||◌, ℕ, Bool, true, false, nat_lt, refl, arith}
use Rattle.std.proofs.lemmas.Bool.Decides.{nat_tests}
use Rattle.cedar_findings.specs.declared.arguments.Arguments.{Arguments}
use Rattle.cedar_findings.specs.declared.outputs.Output.{Output}
use Rattle.cedar_validate.specs.declared.outcomes.Outcome.TheVariants as Outcome
use Rattle.cedar_validate.specs.Outcomes.{counts_a_refusal, outcome_by, outcome_of, CountsNoRefusal}

none_counted : (n : ℕ) → nat_lt 0 n ≡ false → n ≡ 0
none_counted n h = grind (arith, nat_tests)

neither_left : (a b : Bool) → (a || b) ≡ false → a ≡ false
neither_left true b h = h
neither_left false b h = refl

neither_right : (a b : Bool) → (a || b) ≡ false → b ≡ false
neither_right true b h = cc
neither_right false b h = h

neither : (fault refusal : Bool) → outcome_of fault refusal ≡ Outcome.Accepted → (fault ≡ false) × (refusal ≡ false)
neither true r h = cc
neither false true h = cc
neither false false h = (refl, refl)

pub none_refused : (a : Arguments) (o : Output) → outcome_by a o ≡ Outcome.Accepted → CountsNoRefusal o
none_refused a o h =
    let none = neither (nat_lt 0 o.totals.faults) (counts_a_refusal a o) h in
    record {
      read = none_counted o.totals.faults none.0;
      accepted = none_counted o.totals.refused (neither_left _ _ none.1);
      conforming = neither_left _ _ (neither_right _ _ none.1);
    }
