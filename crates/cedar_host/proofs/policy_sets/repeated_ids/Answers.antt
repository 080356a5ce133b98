use Rattle.std.proofs.Common.{Global, ◌≡◌, ◌+◌, Bool, true, false, ◌||◌, not, List, [], ◌∷◌, ◌++◌, map, take, refl, sym, ap, ◌∙◌, subst}
use Rattle.std.specs.List.{list_any}
use Rattle.std.specs.declared.cmp.Ordering.TheVariants.{Equal}
use Rattle.std.specs.declared.rc.RcStr.{RcStr}
use Rattle.std.specs.Ordering.{is_eq}
use Rattle.cedar_types.specs.declared.base.names.policy_ids.PolicyID.{PolicyID}
use Rattle.std.specs.Cmp.Lexicographic.{texts_ties}
use Rattle.std.proofs.lemmas.List.{map_push}
use Rattle.std.proofs.lemmas.List.Folds.{list_any-append}
use Rattle.std.proofs.lemmas.Slice.Eq.{bytes_eq-Decides}
use Rattle.cedar_types.specs.Names.{Text, text_of, text_eq, text_cmp}
use Rattle.cedar_types.proofs.Schema.Listings.{inserted}
use Rattle.cedar_types.proofs.Schema.Places.{next_mapped}
use Rattle.cedar_host.specs.Repeats.{AreRepeats, id_in}
use Rattle.cedar_host.proofs.Repeats.{one_of, none_of, no_repeats, other_id, same_id}
use Rattle.cedar_host.proofs.policy_sets.repeated_ids.Goals as goal
use Rattle.cedar_host.proofs.policy_sets.repeated_ids.Goals.{then-not-branch+in_ok-clone-2+in_ok-push, else-not-branch}

swapped : (a b : Bool) → (a || b) ≡ (b || (a || false))
swapped true true = refl
swapped true false = refl
swapped false true = refl
swapped false false = refl

-- a negation, turned round
twice_not : (a b : Bool) → a ≡ not b → b ≡ not a
twice_not a true e = ap not (sym e)
twice_not a false e = ap not (sym e)

same_texts : (a b : RcStr Global) → text_cmp (text_of a) (text_of b) ≡ Equal → text_of a ≡ text_of b
same_texts a b e =
    (bytes_eq-Decides (text_of a) (text_of b)).0 (texts_ties (text_of a) (text_of b) ∙ ap is_eq e)

-- a set of texts is searched by text
contained : (put : RcStr Global) (ks : List (RcStr Global))
    → list_any (λ k. is_eq (text_cmp (text_of put) (text_of k))) ks ≡ list_any (text_eq (text_of put)) (map text_of ks)
contained put [] = refl
contained put (k ∷ ks) = λ i. (sym (texts_ties (text_of put) (text_of k))) i || contained put ks i

pub loop-policy-init : goal.loop-policy-init
loop-policy-init c =
    let none : map (λ (i : PolicyID). text_of i.text) c.new-repeated.result.items ≡ [] = ap (map (λ (i : PolicyID). text_of i.text)) c.new-repeated.ensures.items in
    record {
      seen = λ t. ap (λ (ks : List (RcStr Global)). list_any (text_eq t) (map text_of ks)) c.new-seen.ensures.empty;
      repeats = subst (λ (ts : List Text). AreRepeats [] ts) (sym none) no_repeats;
    }

pub loop-policy-preserved : goal.loop-policy-preserved
loop-policy-preserved c =
    let policies = c.args.policies.now in
    let i = c.loop-policy.policy-index in
    let policy = c.policy-item.result in
    let x = id_in policy in
    let put = c.in_ok-clone.field-0 in
    let so_far = map id_in (take i policies) in
    let old = c.loop-policy.seen.keys in
    let one_more : map id_in (take (i + 1) policies) ≡ so_far ++ x ∷ [] = next_mapped id_in policies i policy c.loop-policy-test.true c.policy-item.is in
    let is : text_of put ≡ x = c.in_ok-clone.ensures.cases in
    let before = c.loop-policy.invariant in
    let found = c.loop-policy.repeated.items in
    let text_in : PolicyID → Text = λ i. text_of i.text in
    let there : (b : Bool) → not c.in_ok-insert.field-0 ≡ b → list_any (text_eq x) so_far ≡ b = λ b e.
    sym (before.seen x) ∙ subst (λ u. list_any (text_eq u) (map text_of old) ≡ b) is
    (sym (contained put old) ∙ twice_not _ _ c.in_ok-insert.ensures.added ∙ e) in
    record {
      seen = λ t.
          ap (λ ks. list_any (text_eq t) (map text_of ks)) c.in_ok-insert.ensures.keys
          ∙ inserted _ text_of text_eq same_texts put t old
          ∙ ap (λ u. text_eq t u || list_any (text_eq t) (map text_of old)) is
          ∙ ap (λ b. text_eq t x || b) (before.seen t)
          ∙ swapped (text_eq t x) (list_any (text_eq t) so_far)
          ∙ sym (list_any-append (text_eq t) so_far (x ∷ []))
          ∙ ap (list_any (text_eq t)) (sym one_more);
      repeats =
          subst (λ ts. AreRepeats ts (map text_in c.if-not-branch.repeated.items)) (sym one_more)
          (elim c.if-not-branch.branch [
            | then-not-branch+in_ok-clone-2+in_ok-push w ↦
                subst (AreRepeats (so_far ++ x ∷ []))
                (sym (ap (λ v. map text_in v.items) w.repeated-is ∙ (ap (map text_in) w.in_ok-push.ensures.items
                ∙ (map_push text_in found w.in_ok-clone-2.field-0
                ∙ ap (λ u. map text_in found ++ u ∷ []) w.in_ok-clone-2.ensures.cases))))
                (same_id so_far (map text_in found) x before.repeats (one_of x so_far (there true (ap not w.if-not-branch.true))))
            | else-not-branch w ↦
                subst (AreRepeats (so_far ++ x ∷ [])) (sym (ap (λ v. map text_in v.items) w.repeated-is))
                (other_id so_far (map text_in found) x before.repeats (none_of x so_far (there false (ap not w.if-not-branch.false))))
          ]);
    }
