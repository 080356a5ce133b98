-- What a policy says.
use Rattle.cedar_types.specs.declared.base.templates.Template.{Template}
use Rattle.cedar_types.specs.Expressions.Tree.{Shape, map_tree}
use Rattle.cedar_types.specs.Templates.{condition_of, template_of}

-- the form of a policy's whole condition, scope included, without a place
abbrev pub form_of : Template → Shape
form_of t = map_tree (λ _. tt) (condition_of (template_of t))
