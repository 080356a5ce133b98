use Rattle.std.proofs.Common.{◌≡◌, false, ◌∙◌, ap, subst, sym}
use Rattle.cedar_types.specs.Names.{uid_eq, uid_of}
use Rattle.cedar_conformance.specs.Entities.{entity_of, store_of}
use Rattle.cedar_host.proofs.LoadedParts.{missed}
use Rattle.cedar_host.proofs.loaders.add_entry.Goals as goal

pub returns-in_ok-add-in-Some : goal.returns-in_ok-add-in-Some
returns-in_ok-add-in-Some c =
    let k = uid_of c.in_ok-clone-in-Some.field-0 in
    let is : k ≡ uid_of c.args.id.now = ap (λ p. p.uid) c.in_ok-clone-in-Some.ensures.cases in
    λ u other.
    let apart : uid_eq u k ≡ false = subst (λ v. uid_eq u v ≡ false) (sym is) other in
    c.in_ok-add-in-Some.ensures.ok u
    ∙ missed (store_of c.args.entities.now) k (entity_of c.in-Some.entity) u apart
