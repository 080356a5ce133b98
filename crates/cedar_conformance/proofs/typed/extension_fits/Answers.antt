use Rattle.std.proofs.Common.{◌∙◌, ap}
use Rattle.cedar_types.specs.Lemmas.Comparisons.{name_is}
use Rattle.cedar_types.specs.Names.{Path, path_of, path_eq}
use Rattle.cedar_conformance.specs.Tests.{passes}
use Rattle.cedar_conformance.proofs.typed.extension_fits.Goals as goal

pub returns-in-Some : goal.returns-in-Some
returns-in-Some c =
    c.eq.ensures ∙ name_is c.in-Some.own.now c.args.name.now
    ∙ ap (passes {A = Path} (λ m. path_eq m (path_of c.args.name.now))) c.in-Some.ensures
