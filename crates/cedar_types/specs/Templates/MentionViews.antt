-- The state of the iterator over a template's mentions, as plain data.
use Rattle.std.specs.Prelude.{Bool, List, [], ◌++◌, map, cond, Option, Some, None, option_map}
use Rattle.std.specs.List.{filter_map}
use Rattle.std.specs.Option.{option_to_list}
use Rattle.std.specs.Borrow.{Bor}
use Rattle.cedar_types.specs.declared.base.expressions.Expr.{Expr}
use Rattle.cedar_types.specs.declared.base.expressions.subexpressions.ExprIterator.{ExprIterator}
use Rattle.cedar_types.specs.declared.base.templates.mentions.Mention.{Mention as DeclaredMention}
use Rattle.cedar_types.specs.declared.base.templates.mentions.Mentions.{Mentions}
use Rattle.cedar_types.specs.declared.base.templates.rest_mentions.RestMentions.{RestMentions}
use Rattle.cedar_types.specs.declared.base.templates.scope_mentions.ConstraintMentions.{ConstraintMentions}
use Rattle.cedar_types.specs.declared.base.templates.scope_mentions.ScopeMentions.{ScopeMentions}
use Rattle.cedar_types.specs.Templates.Mentions.{Mention, named_uid, named_type, own_mention, mentions_of, action_mentions}
use Rattle.cedar_types.specs.Names.{placed_type, placed_uid}
use Rattle.cedar_types.specs.Expressions.Parts.{expressions_left}
use Rattle.cedar_types.specs.Expressions.View.{written}

abbrev pub mention_of : DeclaredMention → Mention
mention_of (DeclaredMention.Uid u) = named_uid (placed_uid u.now)
mention_of (DeclaredMention.Type t) = named_type (placed_type t.now)

-- the mentions that a constraint has still to give: its entity, and then its type
abbrev pub constraint_left : ConstraintMentions → List Mention
constraint_left c =
    option_to_list (option_map (λ u. named_uid (placed_uid u.now)) c.uid)
    ++ option_to_list (option_map (λ t. named_type (placed_type t.now)) c.entity_type)

-- the mentions of the resource, of the actions from the last to the first, and of the principal
abbrev pub scope_left : ScopeMentions → List Mention
scope_left s =
    constraint_left s.resource
    ++ (action_mentions (map placed_uid s.actions.now) ++ constraint_left s.principal)

-- the mentions of the expressions that are still to come
abbrev pub named_by_left : ExprIterator (Unit {0}) → List Mention
named_by_left p = filter_map own_mention (expressions_left p)

-- the mentions of a rest that the walk has not visited yet, or of its parts that are still to come
abbrev pub rest_left : Option (Bor (Expr (Unit {0}))) → Option (ExprIterator (Unit {0}))
    → List Mention
rest_left (Some e) parts = mentions_of (written e.now)
rest_left None (Some p) = named_by_left p
rest_left None None = []

abbrev pub rest_to_come : RestMentions → List Mention
rest_to_come r = rest_left r.unvisited r.parts

-- the mentions that are still to come, if the walk has not ended
abbrev pub mentions_to_come : Mentions → List Mention
mentions_to_come s = rest_to_come s.rest ++ scope_left s.scope

-- the mentions that are still to come
unfoldable pub mentions_left : Mentions → List Mention
mentions_left s = cond s.ended [] (mentions_to_come s)

-- whether the walk has ended
unfoldable pub mentions_are_over : Mentions → Bool
mentions_are_over s = s.ended
