use Rattle.std.proofs.Common.{◌≡◌, true, true≢false, refl, sym}
use Rattle.cedar_findings.specs.declared.codes.Code.{Code}
use Rattle.cedar_findings.specs.declared.codes.Code.TheVariants as Code
use Rattle.cedar_verdicts.specs.Impossible.{is_impossible_code}
use Rattle.cedar_verdicts.proofs.examples.examples_of_verdicts.Goals as goal

alone : (c : Code) → is_impossible_code c ≡ true → c ≡ Code.Impossible
alone Code.UnknownType h = absurd (true≢false (sym h))
alone Code.UnknownAction h = absurd (true≢false (sym h))
alone Code.UnknownId h = absurd (true≢false (sym h))
alone Code.UnexpectedType h = absurd (true≢false (sym h))
alone Code.IncompatibleTypes h = absurd (true≢false (sym h))
alone Code.UnknownAttribute h = absurd (true≢false (sym h))
alone Code.UnguardedAttribute h = absurd (true≢false (sym h))
alone Code.UnguardedTag h = absurd (true≢false (sym h))
alone Code.NoTags h = absurd (true≢false (sym h))
alone Code.UnknownFunction h = absurd (true≢false (sym h))
alone Code.ArgumentCount h = absurd (true≢false (sym h))
alone Code.BadArgument h = absurd (true≢false (sym h))
alone Code.EmptySet h = absurd (true≢false (sym h))
alone Code.ComputedArgument h = absurd (true≢false (sym h))
alone Code.NoRule h = absurd (true≢false (sym h))
alone Code.Level h = absurd (true≢false (sym h))
alone Code.LiteralTarget h = absurd (true≢false (sym h))
alone Code.Unchecked h = absurd (true≢false (sym h))
alone Code.SameId h = absurd (true≢false (sym h))
alone Code.Impossible h = refl
alone Code.NoAction h = absurd (true≢false (sym h))
alone Code.Direction h = absurd (true≢false (sym h))
alone Code.LookAlike h = absurd (true≢false (sym h))
alone Code.Environments h = absurd (true≢false (sym h))
alone Code.DataType h = absurd (true≢false (sym h))
alone Code.DataMissing h = absurd (true≢false (sym h))
alone Code.DataUndeclared h = absurd (true≢false (sym h))
alone Code.DataParents h = absurd (true≢false (sym h))
alone Code.DataRequest h = absurd (true≢false (sym h))
alone Code.Rest h = absurd (true≢false (sym h))
alone Code.Fault h = absurd (true≢false (sym h))
alone Code.File h = absurd (true≢false (sym h))

pub returns : goal.returns
returns c = record {
  codes = record { one = refl; alone = alone };
  names = record { types = λ p. refl; actions = λ u. refl; ids = λ u. refl; sets = refl };
  causes = record {
    part = λ w p. refl;
    policy = λ w. refl;
    scope = λ w. refl;
    never = λ w. refl;
    warning = λ w. refl;
  };
  files = record { new = refl; own = refl; other = refl; first = refl; later = refl; unmet = refl };
}
