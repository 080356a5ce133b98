use Rattle.std.proofs.Common.{◌≡◌, ◌+◌, ◌<◌, ◌||◌, map, drop, length, sym, ap, ◌∙◌, arith}
use Rattle.std.proofs.Math.ListN.{drop_of_length-le}
use Rattle.std.specs.List.{list_any}
use Rattle.cedar_types.specs.Names.{text_of, text_eq}
use Rattle.cedar_types.proofs.Items.{next_item}
use Rattle.cedar_types.proofs.Schema.Choices.{same_texts, turned, nothing}
use Rattle.cedar_types.proofs.Schema.Listings.{inserted}
use Rattle.cedar_types.proofs.base.schema.choices.texts_among.Goals as goal

pub loop-text-init : goal.loop-text-init
loop-text-init c = λ t. ap (λ ks. list_any (text_eq t) (map text_of ks) || list_any (text_eq t) (map text_of c.args.texts.now)) c.new-known.ensures.empty

pub loop-text-preserved : goal.loop-text-preserved
loop-text-preserved c = λ t.
    let i = c.loop-text.text-index in
    let x = c.text-item.result in
    let key = c.in_ok-clone.field-0 in
    let here : i < length c.args.texts.now = omega arith in
    let old = list_any (text_eq t) (map text_of c.loop-text.known.keys) in
    let left = list_any (text_eq t) (map text_of (drop (i + 1) c.args.texts.now)) in
    let same : text_of key ≡ text_of x = c.in_ok-clone.ensures.cases in
    let put : list_any (text_eq t) (map text_of c.insert.new.self.keys) ≡ (text_eq t (text_of key) || old) =
    ap (λ ks. list_any (text_eq t) (map text_of ks)) c.in_ok-insert.ensures.keys
    ∙ inserted _ text_of text_eq same_texts key t c.loop-text.known.keys in
    ap (λ b. b || left) (put ∙ ap (λ v. text_eq t v || old) same)
    ∙ turned (text_eq t (text_of x)) old left
    ∙ ap (λ xs. old || list_any (text_eq t) (map text_of xs)) (sym (next_item c.args.texts.now i x here c.text-item.is))
    ∙ c.loop-text.invariant t

pub returns : goal.returns
returns c = λ t.
    let old = list_any (text_eq t) (map text_of c.loop-text.known.keys) in
    sym (nothing old)
    ∙ ap (λ xs. old || list_any (text_eq t) (map text_of xs)) (sym (drop_of_length-le c.args.texts.now c.loop-text-test.false))
    ∙ c.loop-text.invariant t
