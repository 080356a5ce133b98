use Rattle.std.proofs.Common.{◌∙◌, ℕ, ◌≤◌, List, All, take, drop, length, string_bytes, sym, ap, subst, arith}
use Rattle.std.proofs.lemmas.List.Elements.{All-drop, All-nil, All-same, All-take}
use Rattle.std.proofs.Math.Logic.{∥∥₁_map}
use Rattle.cedar_editor.specs.Documents.{is_said_by, moved_policy, placed_policy, stands_at, AllStandIn, IsSaidBy, StandsIn}
use Rattle.cedar_editor.specs.Edits.{IsChange}
use Rattle.cedar_editor.specs.Lines.{line_starts}
use Rattle.cedar_types.specs.declared.base.location.Loc.{Loc}
use Rattle.cedar_editor.specs.declared.checks.CheckedPolicy.{CheckedPolicy}
use Rattle.cedar_editor.specs.declared.documents.PlacedPolicy.{PlacedPolicy}
use Rattle.cedar_editor.proofs.Kept.{kept_all}
use Rattle.cedar_editor.proofs.Standing.{all_stand_before, all_stand_behind}
use Rattle.cedar_editor.proofs.documents.PolicyDocument.behind.Goals as goal

pub returns-clause-lines : goal.returns-clause-lines
returns-clause-lines g c =
    c.in_ok-lines.ensures (string_bytes c.args.self.now.text) c.requires.inserted c.args.self.now.lines_of_text c.requires.ordered
    c.requires.within c.requires.counted (c.as_str-new.ensures.value ∙ c.requires.spliced)
    ∙ ap line_starts c.as_str-new.ensures.value

pub returns-clause-placed : goal.returns-clause-placed
returns-clause-placed g c =
    let old : List ℕ = string_bytes c.args.self.now.text in
    let text : List ℕ = string_bytes c.args.text.now in
    let place : Loc = c.args.place in
    let ps : List PlacedPolicy = c.as_slice-old.result.now in
    let change : IsChange old place c.args.inserted text = c.requires in
    let bound : length text ≤ 18446744073709551615 = omega (arith, c.args.text.now.bytes.small, c.args.text.now.bytes.ok) in
    let P : ℕ × CheckedPolicy → Type 0 = λ q. stands_at text q.0 q.1 in
    let stand : AllStandIn old ps = All-same (StandsIn old) _ _ c.as_slice-old.ensures.value c.args.self.now.policies_in_text in
    let none : AllStandIn text c.in_ok-policies.policies.items = All-same (StandsIn text) _ _ c.in_ok-policies.ensures.items (All-nil (StandsIn text)) in
    let before : AllStandIn text c.keep_before.new.policies.items =
    kept_all P placed_policy _ _ _ c.in_ok-keep_before.ensures none
    (all_stand_before old text place c.args.inserted change (take c.in_ok-first.field-0.first ps) c.in_ok-first.ensures.before
    (All-take (StandsIn old) c.in_ok-first.field-0.first ps stand)) in
    let added : AllStandIn text c.add_policies.new.policies.items =
    subst (λ (t : List ℕ). AllStandIn t c.add_policies.new.policies.items) c.as_str-new.ensures.value
    (c.in_ok-add_policies.ensures.placed
    (subst (λ (t : List ℕ). AllStandIn t c.keep_before.new.policies.items) (sym c.as_str-new.ensures.value) before)) in
    kept_all P (moved_policy place.end c.saturating_add-new_end.result) _ _ _ c.in_ok-keep_after.ensures added
    (all_stand_behind old text place c.args.inserted c.saturating_add-new_end.result change bound c.saturating_add-new_end.ensures
    (drop c.in_ok-first.field-0.last ps) c.in_ok-first.ensures.behind
    (All-drop (StandsIn old) c.in_ok-first.field-0.last ps stand))

pub returns-clause-right : goal.returns-clause-right
returns-clause-right g c = ∥∥₁_map c.args.self.now.rightly_said (λ right.
    let P : ℕ × CheckedPolicy → Type 0 = λ q. is_said_by g.C.ArgumentCheck.refusal c.args.self.now.judge q.1 in
    let Q : PlacedPolicy → Type 0 = IsSaidBy g.C.ArgumentCheck.refusal c.args.self.now.judge in
    let old : All Q c.as_slice-old.result.now = All-same Q _ _ c.as_slice-old.ensures.value right in
    let none : All Q c.in_ok-policies.policies.items = All-same Q _ _ c.in_ok-policies.ensures.items (All-nil Q) in
    let before : All Q c.keep_before.new.policies.items =
    kept_all P placed_policy _ _ _ c.in_ok-keep_before.ensures none
    (All-take Q c.in_ok-first.field-0.first c.as_slice-old.result.now old) in
    kept_all P (moved_policy c.args.place.end c.saturating_add-new_end.result) _ _ _ c.in_ok-keep_after.ensures
    (c.in_ok-add_policies.ensures.right old before) (All-drop Q c.in_ok-first.field-0.last c.as_slice-old.result.now old))
