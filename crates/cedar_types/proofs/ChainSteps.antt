-- Steps of an extended `has`: from one step to the next.
use Rattle.std.proofs.Common.{◌≡◌, ℕ, List, [], ◌∷◌, ◌++◌, ◌+◌, ◌<◌, length, get_or, map, drop, suc, fold, arith, refl, sym, ap, ◌∙◌}
use Rattle.std.proofs.lemmas.List.Sums.{fold-append}
use Rattle.std.proofs.Math.Seq.{drop-cons}
use Rattle.cedar_types.specs.declared.types.capability.chain_steps.ChainStep.{ChainStep}
use Rattle.cedar_types.specs.Accesses.{got, texts_at}
use Rattle.cedar_types.specs.ChainSteps.{made_up, step_shape, step_written}
use Rattle.cedar_types.specs.Names.{Text}
use Rattle.cedar_types.specs.Expressions.Tree.{Tree, map_tree}
use Rattle.cedar_types.specs.Expressions.View.{Written, written}
use Rattle.cedar_types.proofs.Expressions.Marks.{shape-written}

-- The access of a last element continues the fold over the others
pub accessed_last : {S X : Type 0} (f : S → X → S) (s : S) (xs ys : List X) (x : X) → xs ++ (x ∷ []) ≡ ys → f (fold f s xs) x ≡ fold f s ys
accessed_last f s xs ys x h = sym (fold-append f s xs (x ∷ [])) ∙ ap (fold f s) h

one_more : (i : ℕ) → suc i ≡ i + 1
one_more i = omega arith

pub left_more : {X Y : Type 0} (f : X → Y) (xs : List X) (i : ℕ) (x : X) → i < length xs → x ≡ get_or xs i x
    → map f (drop i xs) ≡ f x ∷ map f (drop (i + 1) xs)
left_more f xs i x below is =
    ap (map f) (drop-cons xs i x below) ∙ ap (λ y. f y ∷ map f (drop (suc i) xs)) (sym is)
    ∙ ap (λ j. f x ∷ map f (drop j xs)) (one_more i)

form_made_up : (xs : List Text) (e : Tree Written) → map_tree (λ _. tt) (fold made_up e xs) ≡ fold got (map_tree (λ _. tt) e) xs
form_made_up [] e = refl
form_made_up (x ∷ xs) e = form_made_up xs (made_up e x)

-- A step without its places is the shape of the step
pub step_form : (s : ChainStep) → map_tree (λ (_ : Written). tt) (step_written s) ≡ step_shape s
unfolding step_written step_shape
step_form s =
    form_made_up (texts_at s.on) (written s.on.base.now)
    ∙ ap (λ t. fold got t (texts_at s.on)) (sym (shape-written s.on.base.now))
