-- Verdicts on a set that has one policy more.
use Rattle.std.proofs.Common.{◌≡◌, ◌∙◌, ℕ, Bool, true, false, ◌||◌, List, [], ◌∷◌, ◌++◌, map, Option, refl, sym, ap, subst}
use Rattle.std.specs.List.{list_any}
use Rattle.std.proofs.lemmas.List.{map_push}
use Rattle.std.proofs.lemmas.List.Folds.{list_any-append}
use Rattle.cedar_types.specs.Names.{Text, text_eq}
use Rattle.cedar_types.specs.Templates.{PlainTemplate}
use Rattle.cedar_typing.specs.Soundness.Policies.{Basis}
use Rattle.cedar_findings.specs.declared.findings.Verdict.{Verdict}
use Rattle.cedar_verdicts.specs.Sets.{has_policy, AreVerdictsOn, one_more}
use Rattle.cedar_verdicts.specs.Verdicts.{IsRightVerdict, IsWholeVerdict}

swapped : (a b : Bool) → (a || b) ≡ (b || (a || false))
swapped true true = refl
swapped true false = refl
swapped false true = refl
swapped false false = refl

-- the ids of one policy more
pub has_one_more : (ts : List PlainTemplate) (t : PlainTemplate) (id : Text)
    → (text_eq id t.id || has_policy ts id) ≡ has_policy (ts ++ t ∷ []) id
has_one_more ts t id =
    let ids : List Text = map (λ (u : PlainTemplate). u.id) ts in
    swapped (text_eq id t.id) (list_any (text_eq id) ids)
    ∙ sym (list_any-append (text_eq id) ids (t.id ∷ []))
    ∙ ap (list_any (text_eq id)) (sym (map_push (λ (u : PlainTemplate). u.id) ts t))

-- the verdict on one policy more is right, and whole by the known ids
pub with_one_more : (b : Basis) (level : Option ℕ) (ts next : List PlainTemplate) (vs new : List Verdict)
    (t : PlainTemplate) (v : Verdict) (is_repeated : Bool) → AreVerdictsOn b level ts vs
    → next ≡ ts ++ t ∷ [] → new ≡ vs ++ v ∷ [] → is_repeated ≡ has_policy ts t.id
    → IsRightVerdict b level t v → IsWholeVerdict b level t is_repeated v → AreVerdictsOn b level next new
with_one_more b level ts next vs new t v is_repeated before one pushed same right whole =
    subst (λ (us : List PlainTemplate). AreVerdictsOn b level us new) (sym one)
    (subst (λ (ws : List Verdict). AreVerdictsOn b level (ts ++ t ∷ []) ws) (sym pushed)
    (one_more t v before right (subst (λ r. IsWholeVerdict b level t r v) same whole)))
