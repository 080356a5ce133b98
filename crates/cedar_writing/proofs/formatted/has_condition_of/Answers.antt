use Rattle.cedar_types.specs.Templates.{condition_of, template_of}
use Rattle.cedar_writing.proofs.Forms.{same_forms}
use Rattle.cedar_writing.proofs.formatted.has_condition_of.Goals as goal

pub returns : goal.returns
returns c =
    same_forms c.in_ok-own.own c.in_ok-wanted.wanted (condition_of (template_of c.args.policy.now))
    (condition_of (template_of c.args.other.now)) c.has_shape_of-same.result c.in_ok-own.ensures c.in_ok-wanted.ensures
    c.has_shape_of-same.ensures.equality
