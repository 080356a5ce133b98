use Rattle.std.proofs.Common.{◌≡◌, ◌++◌, map}
use Rattle.std.specs.List.{filter_map}
use Rattle.cedar_types.specs.Errors.{finding_of}
use Rattle.cedar_types.specs.Expressions.Parts.{expressions_left}
use Rattle.cedar_types.specs.Names.{text_of}
use Rattle.cedar_types.specs.Templates.{template_of}
use Rattle.cedar_extensions.specs.Calls.{unread_call, unread_in}
use Rattle.cedar_extensions.proofs.unread_texts.unread_texts.Given as goal

-- the errors so far, followed by those of the parts to come, are all errors
abbrev pub invariant-loop-item : goal.invariant-loop-item
invariant-loop-item l =
    map finding_of l.errors.items ++ filter_map (unread_call (text_of l.fn.policy.id.text)) (expressions_left l.item-iterator)
    ≡ unread_in (template_of l.fn.policy)
