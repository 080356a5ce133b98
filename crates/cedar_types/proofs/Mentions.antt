-- Mentions in the condition of a template: those of its parts, and the ids and types among them.
use Rattle.std.proofs.Common.{arith, ◌≡◌, refl, sym, ◌∙◌, List, [], ◌∷◌, ◌++◌, map, reverse, Option, Some, None}
use Rattle.std.proofs.lemmas.Grind.{reverse_onto}
use Rattle.std.proofs.lemmas.List.{append-nil}
use Rattle.std.proofs.lemmas.List.Elements.{filter_map-append}
use Rattle.std.specs.List.{filter_map, flat_map, cons_option}
use Rattle.std.specs.Option.{option_to_list}
use Rattle.cedar_types.specs.declared.base.location.Loc.{Loc}
use Rattle.cedar_types.specs.declared.base.names.slots.SlotId.{SlotId}
use Rattle.cedar_types.specs.declared.base.expressions.operators.Var.{Var}
use Rattle.cedar_types.specs.Templates.Findings.{uids_named, types_named, template_uids, template_types}
use Rattle.cedar_types.specs.Templates.Mentions.{Mention, named_uid, named_type, mentioned_uid, mentioned_type, own_mention, mentions_of}
use Rattle.cedar_types.specs.Templates.Mentions.{template_mentions, scope_mentions, named_actions, action_mentions, rest_mentions}
use Rattle.cedar_types.specs.Templates.Mentions.{mentions_by_part}
use Rattle.cedar_types.specs.Names.{PlacedUid}
use Rattle.cedar_types.specs.Expressions.Parts.{subexpressions, subexpressions_of_all}
use Rattle.cedar_types.specs.Templates.{Scope, ActionScope, any_action}
use Rattle.cedar_types.specs.Templates.{equal_action, within_actions, PlainTemplate, scope_at, uid_at, action_scope_at, scope_condition}
use Rattle.cedar_types.specs.Templates.{with_rest, condition_of}
use Rattle.cedar_types.specs.Expressions.Tree.{Tree}
use Rattle.cedar_types.specs.Expressions.View.{Written, trees_of}

scope_named : (l : Option Loc) (v : Var) (s : SlotId) (c : Scope)
    → mentions_of (scope_at l v s c) ≡ scope_mentions c
scope_named l v s c = grind arith

listed_named : (l : Option Loc) (us : List PlacedUid)
    → filter_map own_mention (subexpressions_of_all (trees_of (map (uid_at l) us)))
    ≡ reverse (map named_uid us)
listed_named l [] = refl
listed_named l (u ∷ us) =
    filter_map-append own_mention (subexpressions_of_all (trees_of (map (uid_at l) us))) (subexpressions (uid_at l u))
    ∙ (λ i. listed_named l us i ++ (named_uid u ∷ []))
    ∙ sym (reverse_onto (map named_uid us) (named_uid u) [])

action_named : (l : Option Loc) (a : ActionScope) → mentions_of (action_scope_at l a) ≡ action_mentions (named_actions a)
action_named l any_action = refl
action_named l (equal_action u) = refl
action_named l (within_actions us) =
    let listed = subexpressions_of_all (trees_of (map (uid_at l) us)) in
    filter_map-append own_mention listed _
    ∙ append-nil (filter_map own_mention listed)
    ∙ listed_named l us

abbrev named_in_scope : PlainTemplate → List Mention
named_in_scope t =
    scope_mentions t.resource ++ (action_mentions (named_actions t.action) ++ scope_mentions t.principal)

scope_condition_named : (t : PlainTemplate) → mentions_of (scope_condition t) ≡ named_in_scope t
scope_condition_named t =
    let principal = scope_at t.place Var.Principal SlotId.Principal t.principal in
    let action = action_scope_at t.place t.action in
    let resource = scope_at t.place Var.Resource SlotId.Resource t.resource in
    let below : filter_map own_mention (subexpressions action ++ subexpressions principal)
    ≡ action_mentions (named_actions t.action) ++ scope_mentions t.principal =
    filter_map-append own_mention (subexpressions action) (subexpressions principal)
    ∙ (λ i. action_named t.place t.action i ++ scope_named t.place Var.Principal SlotId.Principal t.principal i) in
    filter_map-append own_mention (subexpressions resource) _
    ∙ (λ i. scope_named t.place Var.Resource SlotId.Resource t.resource i ++ below i)

with_rest_named : (l : Option Loc) (scope : Tree Written) (rest : Option (Tree Written))
    → mentions_of (with_rest l scope rest) ≡ rest_mentions rest ++ mentions_of scope
with_rest_named l scope None = refl
with_rest_named l scope (Some e) = filter_map-append own_mention (subexpressions e) (subexpressions scope)

-- The condition mentions exactly the names in the rest and in the scope's constraints
pub mentions_are_those_of_the_condition : (t : PlainTemplate) → template_mentions t ≡ mentions_by_part t
mentions_are_those_of_the_condition t =
    with_rest_named t.place (scope_condition t) t.rest
    ∙ (λ i. rest_mentions t.rest ++ scope_condition_named t i)

-- ---- the ids and the types among them

first_uid : (o : Option Mention) (ms : List Mention)
    → filter_map mentioned_uid (cons_option o ms)
    ≡ filter_map mentioned_uid (option_to_list o) ++ filter_map mentioned_uid ms
first_uid None ms = refl
first_uid (Some (named_uid u)) ms = refl
first_uid (Some (named_type t)) ms = refl

first_type : (o : Option Mention) (ms : List Mention)
    → map mentioned_type (cons_option o ms)
    ≡ map mentioned_type (option_to_list o) ++ map mentioned_type ms
first_type None ms = refl
first_type (Some m) ms = refl

uids_of_all : (es : List (Tree Written))
    → filter_map mentioned_uid (filter_map own_mention es) ≡ flat_map uids_named es
uids_of_all [] = refl
uids_of_all (e ∷ es) =
    first_uid (own_mention e) (filter_map own_mention es) ∙ (λ i. uids_named e ++ uids_of_all es i)

types_of_all : (es : List (Tree Written))
    → map mentioned_type (filter_map own_mention es) ≡ flat_map types_named es
types_of_all [] = refl
types_of_all (e ∷ es) =
    first_type (own_mention e) (filter_map own_mention es) ∙ (λ i. types_named e ++ types_of_all es i)

-- A template's entity ids are those that it mentions
pub uids_are_those_mentioned : (t : PlainTemplate)
    → filter_map mentioned_uid (template_mentions t) ≡ template_uids t
uids_are_those_mentioned t = uids_of_all (subexpressions (condition_of t))

-- A template's entity types are the types of all its mentions
pub types_are_those_mentioned : (t : PlainTemplate)
    → map mentioned_type (template_mentions t) ≡ template_types t
types_are_those_mentioned t = types_of_all (subexpressions (condition_of t))
