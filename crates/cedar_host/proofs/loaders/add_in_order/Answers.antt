use Rattle.std.proofs.Common.{◌≡◌, ◌∙◌, Bool, true, false, map, subst, sym, refl}
use Rattle.cedar_types.specs.Lemmas.Comparisons.{uid_same}
use Rattle.cedar_types.specs.Names.{uid_of, uid_eq}
use Rattle.cedar_typing.specs.Evaluation.Conformance.{IsOneOf}
use Rattle.cedar_host.proofs.LoadedParts.{at_index}
use Rattle.cedar_host.proofs.loaders.add_in_order.Goals as goal

pub loop-id-preserved : goal.loop-id-preserved
loop-id-preserved c =
    let ids = c.args.ids.now in
    let id = c.id-item.result in
    λ u other.
    let here = at_index uid_of ids c.loop-id.id-index id c.loop-id-test.true c.id-item.is in
    let apart : (b : Bool) → uid_eq u (uid_of id) ≡ b → uid_eq u (uid_of id) ≡ false =
    elim [
      | false ↦ λ e. e
      | true ↦ λ e. absurd (other (subst (λ v. IsOneOf v (map uid_of ids)) (sym (uid_same.to u (uid_of id) e)) here))
    ] in
    c.in_ok-add_entry.ensures u (apart (uid_eq u (uid_of id)) refl) ∙ c.loop-id.invariant u other
