use Rattle.std.proofs.Common.{◌≡◌, refl, ap, sym, ◌∙◌, Some, option_map}
use Rattle.cedar_types.specs.Types.{Ty, TNever, TBool, TLong, TString, TSet, TAnySet, TRecord, TEntity, TAnyEntity, TExtension, types_of}
use Rattle.cedar_types.specs.Types.{lub_of, ty_of}
use Rattle.cedar_typing.specs.Rules.Membership.{types_of_entity}
use Rattle.cedar_typing.specs.Rules.Tags.{types_named}
use Rattle.cedar_typing.proofs.typecheck.rules.tags.types_named.Goals as goal

same : (t : Ty) → types_of_entity (Some t) ≡ types_named t
same TNever = refl
same (TBool k) = refl
same TLong = refl
same TString = refl
same (TSet t) = refl
same TAnySet = refl
same (TRecord xs o) = refl
same (TEntity ps) = refl
same TAnyEntity = refl
same (TExtension n) = refl

pub returns-in_ok-clone-in-Some : goal.returns-in_ok-clone-in-Some
unfolding lub_of
returns-in_ok-clone-in-Some c =
    (λ i. Some (types_of (c.in_ok-clone-in-Some.ensures.cases i)))
    ∙ sym (ap (option_map (λ s. lub_of s.now)) c.in-Some.is)
    ∙ c.named_types.ensures
    ∙ same (ty_of c.args.ty.now)
