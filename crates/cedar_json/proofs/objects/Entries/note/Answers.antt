use Rattle.std.proofs.Common.{◌≡◌, ◌∙◌, Bool, true, false, not, map, sym, ap, refl, true≢false}
use Rattle.std.specs.BTreeSet.{insert_key}
use Rattle.std.specs.List.{list_any}
use Rattle.cedar_types.specs.Names.{text_of, text_eq}
use Rattle.cedar_json.specs.Keys.{is_among}
use Rattle.cedar_json.proofs.Keys.{key_cmp, found, inserted, kept}
use Rattle.cedar_json.proofs.objects.Entries.note.Goals as goal

not_true : (b : Bool) → true ≡ not b → b ≡ false
not_true true h = absurd (true≢false h)
not_true false h = refl

pub returns-then-is_new-clause-fresh : goal.returns-then-is_new-clause-fresh
returns-then-is_new-clause-fresh c =
    sym (ap (is_among c.args.self.now.keys) c.in_ok-kept.ensures.cases)
    ∙ sym (found c.in_ok-kept.kept c.args.self.now.keys.keys)
    ∙ not_true _ (sym c.if-is_new.true ∙ c.in_ok-is_new.ensures.added)

pub returns-then-is_new-clause-known : goal.returns-then-is_new-clause-known
returns-then-is_new-clause-known c =
    let ks = c.args.self.now.keys.keys in
    let t = text_of c.args.key.now.name in
    ap (λ ks. list_any (text_eq t) (map text_of ks)) c.in_ok-is_new.ensures.keys
    ∙ ap (λ u. list_any (text_eq u) (map text_of (insert_key key_cmp ks c.in_ok-kept.kept))) (sym c.in_ok-kept.ensures.cases)
    ∙ inserted c.in_ok-kept.kept ks

pub returns-then-is_new-clause-more : goal.returns-then-is_new-clause-more
returns-then-is_new-clause-more c = λ t h.
    ap (λ ks. list_any (text_eq t) (map text_of ks)) c.in_ok-is_new.ensures.keys
    ∙ kept c.in_ok-kept.kept t c.args.self.now.keys.keys h
