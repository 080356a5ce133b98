-- The comparable types in the program.
use Rattle.std.proofs.Common.{◌≡◌, Bool, true, false, ◌||◌, List, [], ◌∷◌, map, Option, Some, None, is_eq, refl, sym, ap, ◌∙◌}
use Rattle.std.specs.List.{list_any}
use Rattle.std.specs.declared.cmp.Ordering.{Ordering}
use Rattle.cedar_types.specs.declared.base.names.Name.{Name}
use Rattle.cedar_types.specs.Types.Bounds.{ty_eq}
use Rattle.cedar_types.specs.Names.{Path, path_of, path_eq, path_cmp}
use Rattle.cedar_types.specs.Types.{Ty, TNever, TBool, TLong, TString, TSet, TAnySet, TRecord, TEntity, TAnyEntity, TExtension}
use Rattle.cedar_types.proofs.Names.Paths.{path_ties}
use Rattle.cedar_typing.specs.Views.{extension_named}

-- a name is found in a set of names by the order of names
pub overloaded : (R : Name → Ordering) (p : Path) → ((k : Name) → R k ≡ path_cmp p (path_of k)) → (ks : List Name)
    → list_any (λ k. is_eq (R k)) ks ≡ list_any (path_eq p) (map path_of ks)
overloaded R p h [] = refl
overloaded R p h (k ∷ ks) = λ i. (ap is_eq (h k) ∙ sym (path_ties p (path_of k))) i || overloaded R p h ks i

-- an extension type is among some exactly if its name is
among_extensions : (p : Path) (ps : List Path) → list_any (path_eq p) ps ≡ list_any (ty_eq (TExtension p)) (map TExtension ps)
among_extensions p [] = refl
among_extensions p (q ∷ ps) = ap (λ b. path_eq p q || b) (among_extensions p ps)

or_false : (b : Bool) → b ≡ (b || false)
or_false true = refl
or_false false = refl

none_among : (t : Ty) → ((p : Path) → ty_eq t (TExtension p) ≡ false) → (ps : List Path) → list_any (ty_eq t) (map TExtension ps) ≡ false
none_among t h [] = refl
none_among t h (p ∷ ps) = λ i. h p i || none_among t h ps i

-- whether a type is comparable, by its name if it is an extension type, else by whether it is Long
abbrev by_name : List Path → Ty → Option Path → Bool
by_name ps t (Some p) = list_any (path_eq p) ps
by_name ps t None = ty_eq t TLong

unnamed : (ps : List Path) (t : Ty) → ((p : Path) → ty_eq t (TExtension p) ≡ false)
    → ty_eq t TLong ≡ (ty_eq t TLong || list_any (ty_eq t) (map TExtension ps))
unnamed ps t h = or_false (ty_eq t TLong) ∙ ap (λ b. ty_eq t TLong || b) (sym (none_among t h ps))

pub comparable_by_name : (ps : List Path) (t : Ty) → by_name ps t (extension_named t)
    ≡ (ty_eq t TLong || list_any (ty_eq t) (map TExtension ps))
comparable_by_name ps TNever = unnamed ps TNever (λ p. refl)
comparable_by_name ps (TBool k) = unnamed ps (TBool k) (λ p. refl)
comparable_by_name ps TLong = refl
comparable_by_name ps TString = unnamed ps TString (λ p. refl)
comparable_by_name ps (TSet t) = unnamed ps (TSet t) (λ p. refl)
comparable_by_name ps TAnySet = unnamed ps TAnySet (λ p. refl)
comparable_by_name ps (TRecord xs o) = unnamed ps (TRecord xs o) (λ p. refl)
comparable_by_name ps (TEntity qs) = unnamed ps (TEntity qs) (λ p. refl)
comparable_by_name ps TAnyEntity = unnamed ps TAnyEntity (λ p. refl)
comparable_by_name ps (TExtension p) = among_extensions p ps

pub comparable_if : (ps : List Path) (t : Ty) (n : Option Path) → n ≡ extension_named t
    → by_name ps t n ≡ (ty_eq t TLong || list_any (ty_eq t) (map TExtension ps))
comparable_if ps t n h = ap (by_name ps t) h ∙ comparable_by_name ps t
