use Rattle.std.proofs.Common.{◌∙◌, sym}
use Rattle.cedar_types.specs.Names.{path_of, type_of, uid_of}
use Rattle.cedar_types.specs.Lemmas.Comparisons.{name_is, entity_type_is, uid_is, path_eq-Decides, uid_eq-Decides}
use Rattle.cedar_types.proofs.base.laws.equality_of_names.Goals as goal

pub returns : goal.returns
returns c = record {
  names = λ x y. let d = path_eq-Decides (path_of x) (path_of y) in (λ h. d.0 (sym (name_is x y) ∙ h), λ h. name_is x y ∙ d.1 h);
  types =
      λ x y. let d = path_eq-Decides (type_of x) (type_of y) in
      (λ h. d.0 (sym (entity_type_is x y) ∙ h), λ h. entity_type_is x y ∙ d.1 h);
  ids = λ x y. let d = uid_eq-Decides (uid_of x) (uid_of y) in (λ h. d.0 (sym (uid_is x y) ∙ h), λ h. uid_is x y ∙ d.1 h);
}
