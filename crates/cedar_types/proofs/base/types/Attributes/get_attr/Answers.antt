use Rattle.std.proofs.Common.{◌≡◌, refl, sym, ap, ◌∙◌, Option, Some, None, option_map, Bool}
use Rattle.std.specs.Option.{option_copied}
use denote.Ref.{Bor}
use Rattle.cedar_types.specs.declared.base.types.AttributeType.{AttributeType}
use Rattle.cedar_types.specs.Types.{Ty, ty_of}
use Rattle.cedar_types.proofs.Attributes.Records.{found_in}
use Rattle.cedar_types.proofs.base.types.Attributes.get_attr.Goals as goal

shown : (r : Option (Bor AttributeType))
    → option_map {U = Ty × Bool} (λ a. (ty_of a.now.attr_type, a.now.is_required)) r
    ≡ option_map {U = Ty × Bool} (λ a. (ty_of a.attr_type, a.is_required)) (option_copied r)
shown None = refl
shown (Some a) = refl

pub returns : goal.returns
returns c =
    shown c.get.result
    ∙ ap (option_map {U = Ty × Bool} (λ a. (ty_of a.attr_type, a.is_required))) c.get.ensures.value
    ∙ sym (found_in c.args.attr.now c.args.self.now c.deref.result.now c.deref.ensures)
