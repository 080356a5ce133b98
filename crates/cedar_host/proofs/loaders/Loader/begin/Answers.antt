use Rattle.std.proofs.Common.{[], ◌∙◌, ap, map, subst}
use Rattle.cedar_types.specs.Names.{uid_of}
use Rattle.cedar_host.specs.Rounds.{AreAfter}
use Rattle.cedar_host.proofs.loaders.Loader.begin.Goals as goal

pub returns-clause-begun : goal.returns-clause-begun
returns-clause-begun c =
    let begun = c.in_ok-rounds.ensures in
    let start = ap (map uid_of) c.deref.ensures.value ∙ c.in_ok-start.ensures in (
      [],
      record {
        after = subst (λ us. AreAfter us c.args.steps [] c.in_ok-rounds.rounds) start begun.after;
        found = begun.found;
        asked = λ d i. absurd i;
        held = λ d i. absurd i;
      },
    )
