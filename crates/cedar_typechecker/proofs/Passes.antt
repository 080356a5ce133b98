-- The findings of a pass at the mentions of a template are those that the rules give.
use Rattle.std.proofs.Common.{◌≡◌, refl, ap, subst, ◌∙◌, Bool, true, false, cond, List, [], ◌∷◌, map, filter, Option, Some, None}
use Rattle.std.specs.List.{filter_map, cons_option}
use Rattle.std.specs.Prelude.{IsPermutation}
use Rattle.std.proofs.lemmas.List.Sorted.{IsPermutation-refl}
use Rattle.cedar_types.specs.Errors.{Finding, unrecognized_entity_type, unrecognized_action_id, invalid_enum_entity}
use Rattle.cedar_types.specs.Templates.Findings.{finding_at, template_uids, template_types, is_unknown_type, is_unknown_action}
use Rattle.cedar_types.specs.Templates.Findings.{is_wrong_member, unknown_types, unknown_actions, wrong_members}
use Rattle.cedar_types.specs.Templates.Mentions.{Mention, named_uid, named_type, mentioned_uid, mentioned_type, template_mentions}
use Rattle.cedar_types.specs.Names.{PlacedType, PlacedUid}
use Rattle.cedar_types.specs.Schemas.{Schema}
use Rattle.cedar_types.specs.Templates.{PlainTemplate}
use Rattle.cedar_types.proofs.Mentions.{types_are_those_mentioned, uids_are_those_mentioned}
use Rattle.cedar_typechecker.specs.declared.rbac.literal_errors.LiteralPass.TheVariants.{EntityTypes, ActionIds, EnumEntities}
use Rattle.cedar_typechecker.specs.Passes.{own_finding, of_uid, type_finding, action_finding, member_finding}

-- ---- lists

-- the findings at the members that a test keeps
kept : {X Y : Type 0} (test : X → Bool) (f : X → Y) (xs : List X)
    → filter_map (λ x. cond (test x) (Some (f x)) None) xs ≡ map f (filter test xs)
kept test f [] = refl
kept {X} {Y} test f (x ∷ xs) = along (test x) (kept test f xs)
  where
    along : (b : Bool) → filter_map (λ x. cond (test x) (Some (f x)) None) xs ≡ map f (filter test xs)
        → cons_option (cond b (Some (f x)) None) (filter_map (λ x. cond (test x) (Some (f x)) None) xs)
        ≡ map f (cond b (x ∷ filter test xs) (filter test xs))
    along true h = ap (λ ys. f x ∷ ys) h
    along false h = h

-- the findings at each type that is mentioned, and at each id
of_types : (h : PlacedType → Option Finding) (ms : List Mention) → filter_map (λ m. h (mentioned_type m)) ms
    ≡ filter_map h (map mentioned_type ms)
of_types h [] = refl
of_types h (m ∷ ms) = ap (cons_option (h (mentioned_type m))) (of_types h ms)

of_uids : (h : PlacedUid → Option Finding) (ms : List Mention) → filter_map (λ m. of_uid h (mentioned_uid m)) ms
    ≡ filter_map h (filter_map mentioned_uid ms)
of_uids h [] = refl
of_uids h (named_uid u ∷ ms) = ap (cons_option (h u)) (of_uids h ms)
of_uids h (named_type t ∷ ms) = of_uids h ms

-- ---- passes

finds_types : (s : Schema) (t : PlainTemplate) → filter_map (own_finding EntityTypes s t.id) (template_mentions t) ≡ unknown_types s t
finds_types s t =
    of_types (type_finding s t.id) (template_mentions t)
    ∙ ap (filter_map (type_finding s t.id)) (types_are_those_mentioned t)
    ∙ kept (λ n. is_unknown_type s n.name) (λ n. finding_at t n.place (unrecognized_entity_type n.name)) (template_types t)

finds_actions : (s : Schema) (t : PlainTemplate) → filter_map (own_finding ActionIds s t.id) (template_mentions t) ≡ unknown_actions s t
finds_actions s t =
    of_uids (action_finding s t.id) (template_mentions t)
    ∙ ap (filter_map (action_finding s t.id)) (uids_are_those_mentioned t)
    ∙ kept (λ n. is_unknown_action s n.uid) (λ n. finding_at t n.place (unrecognized_action_id n.uid)) (template_uids t)

finds_members : (s : Schema) (t : PlainTemplate) → filter_map (own_finding EnumEntities s t.id) (template_mentions t) ≡ wrong_members s t
finds_members s t =
    of_uids (member_finding s t.id) (template_mentions t)
    ∙ ap (filter_map (member_finding s t.id)) (uids_are_those_mentioned t)
    ∙ kept (λ n. is_wrong_member s n.uid) (λ n. finding_at t n.place (invalid_enum_entity n.uid)) (template_uids t)

same_order : (found wanted left : List Finding) → left ≡ found → found ≡ wanted → IsPermutation left wanted
same_order found wanted left h k = subst (λ xs. IsPermutation left xs) (h ∙ k) (IsPermutation-refl left)

-- the findings of a pass at its beginning, in any order
pub types_left : (s : Schema) (t : PlainTemplate) (left : List Finding)
    → left ≡ filter_map (own_finding EntityTypes s t.id) (template_mentions t)
    → IsPermutation left (unknown_types s t)
types_left s t left h = same_order _ (unknown_types s t) left h (finds_types s t)

pub actions_left : (s : Schema) (t : PlainTemplate) (left : List Finding)
    → left ≡ filter_map (own_finding ActionIds s t.id) (template_mentions t)
    → IsPermutation left (unknown_actions s t)
actions_left s t left h = same_order _ (unknown_actions s t) left h (finds_actions s t)

pub members_left : (s : Schema) (t : PlainTemplate) (left : List Finding)
    → left ≡ filter_map (own_finding EnumEntities s t.id) (template_mentions t)
    → IsPermutation left (wrong_members s t)
members_left s t left h = same_order _ (wrong_members s t) left h (finds_members s t)
