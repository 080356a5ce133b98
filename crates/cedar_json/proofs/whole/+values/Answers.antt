use Rattle.std.proofs.Common.{rules, arith, ◌+◌, ◌-◌, ◌≡◌, ℕ, [], ◌∷◌, ◌++◌, ◌∙◌, sym, ap, subst}
use Rattle.std.specs.Prelude.{if◌then◌else◌}
use Rattle.cedar_json.specs.Fits.{ItemsFit, MembersFit}
use Rattle.cedar_json.specs.Says.{Stands, KeyReads, KeysDiffer, Separates, ItemsStand, MembersStand}
use Rattle.cedar_json.specs.View.{tree_of, items_view, members_view}
use Rattle.cedar_types.specs.Names.{text_of}
use Rattle.cedar_json.proofs.Fits.{items_on, members_on}
use Rattle.cedar_json.proofs.Says.{ItemsComplete, MembersComplete, items_go_on, items_end, members_go_on, members_end}
use Rattle.cedar_json.proofs.Keys.{AreKnown, differ_on, known_on}
use Rattle.cedar_json.proofs.whole.+values.Goals as goal

pub entries-loop-preserved : goal.entries-loop-preserved
entries-loop-preserved t c =
    let bytes = c.args.cursor.now.text.now in
    let before = c.loop.invariant in
    let keyed = c.in_ok-key.ensures in
    let read = c.in_ok-value.ensures in
    let ended = c.in_ok-ends.ensures in
    let k = c.in_ok-key.key in
    let v = c.in_ok-value.value in
    let es = c.loop.read.entries.items in
    let begun = c.args.cursor.now.at in
    let at = c.loop.cursor.at in
    let behind_key = c.key.new.cursor.at in
    let behind = c.value.new.cursor.at in
    let next = c.ends.new.cursor.at in
    let key : KeyReads bytes at behind_key k.place.start k.place.end (text_of k.name) =
    subst (λ b. KeyReads b at behind_key k.place.start k.place.end (text_of k.name)) before.on.0 keyed.stands in
    let stands : Stands bytes behind_key behind (tree_of v) =
    subst (λ b. Stands b behind_key behind (tree_of v)) (keyed.on.0 ∙ before.on.0) read.says in
    let comma : Separates bytes behind next 44 =
    subst (λ b. Separates b behind next 44) (read.on.0 ∙ keyed.on.0 ∙ before.on.0)
    (subst (λ f. Separates c.value.new.cursor.text.now behind next (if f then 125 else 44)) c.if-branch.false ended.separates) in
    let more = members_on c.in-Some.inner begun at behind_key behind next es k v before.on.1 keyed.on.1 read.on.1 ended.on.1 before.fit keyed.ok read.ok in
    let whole : MembersComplete bytes (begun + 1) next (es ++ (k, v) ∷ []) =
    members_go_on bytes (begun + 1) at behind_key behind next es k v before.stand key stands comma in
    let pushed : c.push.new.self.entries.items ≡ es ++ (k, v) ∷ [] = c.in_ok-push.ensures.added ∙ ap (λ xs. xs ++ (k, v) ∷ []) keyed.same in
    let known = known_on c.loop.read.keys c.key.new.self.keys es k v keyed.more before.known keyed.known in
    record {
      on = (ended.on.0 ∙ read.on.0 ∙ keyed.on.0 ∙ before.on.0, omega (arith, before.on.1, keyed.on.1, read.on.1, ended.on.1));
      fit = subst (λ xs. MembersFit c.in-Some.inner begun next (members_view xs)) (sym pushed) more;
      stand = subst (λ xs. MembersComplete bytes (begun + 1) next xs) (sym pushed) whole;
      differ = subst (λ xs. KeysDiffer (members_view xs)) (sym pushed) (differ_on c.loop.read.keys es k v before.differ before.known keyed.fresh);
      known = subst (λ xs. AreKnown c.push.new.self.keys xs) (sym pushed) (subst (λ ks. AreKnown ks (es ++ (k, v) ∷ [])) (sym c.in_ok-push.ensures.keys) known);
    }

pub entries-returns-then-branch-clause-differ : goal.entries-returns-then-branch-clause-differ
entries-returns-then-branch-clause-differ t c =
    let before = c.loop.invariant in
    let keyed = c.in_ok-key.ensures in
    let k = c.in_ok-key.key in
    let v = c.in_ok-value.value in
    let es = c.loop.read.entries.items in
    let pushed : c.finish-then-branch.result.items ≡ es ++ (k, v) ∷ [] =
    c.finish-then-branch.ensures ∙ c.in_ok-push.ensures.added ∙ ap (λ xs. xs ++ (k, v) ∷ []) keyed.same in
    subst (λ xs. KeysDiffer (members_view xs)) (sym pushed) (differ_on c.loop.read.keys es k v before.differ before.known keyed.fresh)

pub entries-returns-then-branch-clause-stand : goal.entries-returns-then-branch-clause-stand
entries-returns-then-branch-clause-stand t c =
    let bytes = c.args.cursor.now.text.now in
    let before = c.loop.invariant in
    let keyed = c.in_ok-key.ensures in
    let read = c.in_ok-value.ensures in
    let ended = c.in_ok-ends.ensures in
    let k = c.in_ok-key.key in
    let v = c.in_ok-value.value in
    let es = c.loop.read.entries.items in
    let begun = c.args.cursor.now.at in
    let at = c.loop.cursor.at in
    let behind_key = c.key.new.cursor.at in
    let behind = c.value.new.cursor.at in
    let next = c.ends.new.cursor.at in
    let key : KeyReads bytes at behind_key k.place.start k.place.end (text_of k.name) =
    subst (λ b. KeyReads b at behind_key k.place.start k.place.end (text_of k.name)) before.on.0 keyed.stands in
    let stands : Stands bytes behind_key behind (tree_of v) =
    subst (λ b. Stands b behind_key behind (tree_of v)) (keyed.on.0 ∙ before.on.0) read.says in
    let close : Separates bytes behind next 125 =
    subst (λ b. Separates b behind next 125) (read.on.0 ∙ keyed.on.0 ∙ before.on.0)
    (subst (λ f. Separates c.value.new.cursor.text.now behind next (if f then 125 else 44)) c.if-branch.true ended.separates) in
    let whole : MembersStand bytes (begun + 1) next (members_view (es ++ (k, v) ∷ [])) =
    members_end bytes (begun + 1) at behind_key behind next es k v before.stand key stands close in
    let pushed : c.finish-then-branch.result.items ≡ es ++ (k, v) ∷ [] =
    c.finish-then-branch.ensures ∙ c.in_ok-push.ensures.added ∙ ap (λ xs. xs ++ (k, v) ∷ []) keyed.same in
    subst (λ xs. MembersStand bytes (begun + 1) next (members_view xs)) (sym pushed) whole

pub entries-returns-then-branch-clause-ok : goal.entries-returns-then-branch-clause-ok
entries-returns-then-branch-clause-ok t c =
    let before = c.loop.invariant in
    let keyed = c.in_ok-key.ensures in
    let read = c.in_ok-value.ensures in
    let ended = c.in_ok-ends.ensures in
    let more = members_on c.in-Some.inner c.args.cursor.now.at c.loop.cursor.at c.key.new.cursor.at c.value.new.cursor.at c.ends.new.cursor.at c.loop.read.entries.items c.in_ok-key.key c.in_ok-value.value before.on.1 keyed.on.1 read.on.1 ended.on.1 before.fit keyed.ok read.ok in
    let inner : c.in-Some.inner ≡ c.args.left - 1 = omega (arith, c.in-Some.ensures) in
    let P : ℕ → Type 0 = λ d. MembersFit d c.args.cursor.now.at c.ends.new.cursor.at (members_view c.finish-then-branch.result.items) in
    subst P inner (rw (c.finish-then-branch.ensures, c.in_ok-push.ensures.added, keyed.same) more)

pub items-loop-preserved : goal.items-loop-preserved
items-loop-preserved t c =
    let bytes = c.args.cursor.now.text.now in
    let before = c.loop.invariant in
    let read = c.in_ok-item.ensures in
    let ended = c.in_ok-ends.ensures in
    let v = c.in_ok-item.item in
    let vs = c.loop.read.items in
    let begun = c.args.cursor.now.at in
    let at = c.loop.cursor.at in
    let behind = c.value.new.cursor.at in
    let next = c.ends.new.cursor.at in
    let stands : Stands bytes at behind (tree_of v) = subst (λ b. Stands b at behind (tree_of v)) before.on.0 read.says in
    let comma : Separates bytes behind next 44 =
    subst (λ b. Separates b behind next 44) (read.on.0 ∙ before.on.0)
    (subst (λ f. Separates c.value.new.cursor.text.now behind next (if f then 93 else 44)) c.if-branch.false ended.separates) in
    let more = items_on c.in-Some.inner begun at behind next vs v before.on.1 read.on.1 ended.on.1 before.fit read.ok in
    let whole : ItemsComplete bytes (begun + 1) next (vs ++ v ∷ []) = items_go_on bytes (begun + 1) at behind next vs v before.stand stands comma in
    let pushed : c.push.new.self.items ≡ vs ++ v ∷ [] = search rules in
    record {
      on = (ended.on.0 ∙ read.on.0 ∙ before.on.0, omega (arith, before.on.1, read.on.1, ended.on.1));
      fit = subst (λ xs. ItemsFit c.in-Some.inner begun next (items_view xs)) (sym pushed) more;
      stand = subst (λ xs. ItemsComplete bytes (begun + 1) next xs) (sym pushed) whole;
    }

pub items-returns-then-branch-clause-stand : goal.items-returns-then-branch-clause-stand
items-returns-then-branch-clause-stand t c =
    let bytes = c.args.cursor.now.text.now in
    let before = c.loop.invariant in
    let read = c.in_ok-item.ensures in
    let ended = c.in_ok-ends.ensures in
    let v = c.in_ok-item.item in
    let vs = c.loop.read.items in
    let begun = c.args.cursor.now.at in
    let at = c.loop.cursor.at in
    let behind = c.value.new.cursor.at in
    let next = c.ends.new.cursor.at in
    let stands : Stands bytes at behind (tree_of v) = subst (λ b. Stands b at behind (tree_of v)) before.on.0 read.says in
    let close : Separates bytes behind next 93 =
    subst (λ b. Separates b behind next 93) (read.on.0 ∙ before.on.0)
    (subst (λ f. Separates c.value.new.cursor.text.now behind next (if f then 93 else 44)) c.if-branch.true ended.separates) in
    let whole : ItemsStand bytes (begun + 1) next (items_view (vs ++ v ∷ [])) = items_end bytes (begun + 1) at behind next vs v before.stand stands close in
    let pushed : c.push.new.self.items ≡ vs ++ v ∷ [] = search rules in
    subst (λ xs. ItemsStand bytes (begun + 1) next (items_view xs)) (sym pushed) whole

pub items-returns-then-branch-clause-ok : goal.items-returns-then-branch-clause-ok
items-returns-then-branch-clause-ok t c =
    let before = c.loop.invariant in
    let read = c.in_ok-item.ensures in
    let ended = c.in_ok-ends.ensures in
    let more = items_on c.in-Some.inner c.args.cursor.now.at c.loop.cursor.at c.value.new.cursor.at c.ends.new.cursor.at c.loop.read.items c.in_ok-item.item before.on.1 read.on.1 ended.on.1 before.fit read.ok in
    let pushed : c.push.new.self.items ≡ c.loop.read.items ++ c.in_ok-item.item ∷ [] = search rules in
    let inner : c.in-Some.inner ≡ c.args.left - 1 = omega (arith, c.in-Some.ensures) in
    let P : ℕ → Type 0 = λ d. ItemsFit d c.args.cursor.now.at c.ends.new.cursor.at (items_view c.push.new.self.items) in
    subst P inner (rw pushed more)
