-- Sets of texts: membership tests by plain text.
use Rattle.std.proofs.Common.{◌≡◌, refl, sym, ap, ◌∙◌, Bool, true, false, ◌||◌, List, map}
use Rattle.std.specs.declared.alloc.Global.{Global}
use Rattle.std.specs.declared.cmp.Ordering.TheVariants.{Equal}
use Rattle.std.specs.declared.rc.RcStr.{RcStr}
use Rattle.std.specs.Cmp.Lexicographic.{texts_ties}
use Rattle.std.specs.List.{list_any}
use Rattle.std.specs.Ordering.{is_eq}
use Rattle.std.proofs.lemmas.Slice.Eq.{bytes_eq-Decides}
use Rattle.cedar_types.specs.Names.{Text, text_of, text_eq, text_cmp}
use Rattle.cedar_types.proofs.Schema.Places.{any_mapped}

-- A membership test in a set of texts is a test by plain text
pub contained_text : (t : Text) (ks : List (RcStr Global)) → list_any (λ k. is_eq (text_cmp t (text_of k))) ks ≡ list_any (text_eq t) (map text_of ks)
contained_text t ks =
    ap (λ (f : RcStr Global → Bool). list_any f ks) (λ i k. sym (texts_ties t (text_of k)) i)
    ∙ any_mapped text_of (text_eq t) ks

pub same_texts : (a b : RcStr Global) → text_cmp (text_of a) (text_of b) ≡ Equal → text_of a ≡ text_of b
same_texts a b e =
    (bytes_eq-Decides (text_of a) (text_of b)).0 (texts_ties (text_of a) (text_of b) ∙ ap is_eq e)

pub turned : (o a b : Bool) → ((o || a) || b) ≡ (a || (o || b))
turned true true b = refl
turned true false b = refl
turned false a b = refl

pub nothing : (b : Bool) → (b || false) ≡ b
nothing true = refl
nothing false = refl
