-- Ids of entities: their order and their equality; and equality of names and ids.
use Rattle.std.proofs.Common.{◌≡◌, refl, sym, ap, ◌∙◌, ◌&&◌, ◌||◌, List, [], ◌∷◌, map}
use Rattle.std.specs.declared.cmp.Ordering.{Ordering}
use Rattle.std.specs.Ordering.{ordering_then, is_eq}
use Rattle.std.specs.Bool.{Decides}
use Rattle.std.specs.Cmp.Lexicographic.{pointwise, slice_cmp, texts_ties}
use Rattle.std.specs.List.{list_any}
use Rattle.std.specs.Map.{lookup}
use Rattle.std.proofs.lemmas.Bool.Decides.{Decides-and, Decides-like, same_from_decides}
use Rattle.std.proofs.lemmas.Slice.Eq.{slice_eq-Decides, bytes_eq-Decides}
use Rattle.cedar_types.specs.declared.base.names.entities.EntityType.{EntityType}
use Rattle.cedar_types.specs.declared.base.names.entities.EntityUID.{EntityUID}
use Rattle.cedar_types.specs.Names.{Path, Uid, text_of, type_of, uid_of, text_cmp, path_cmp, uid_cmp, text_eq, path_eq, uid_eq}
use Rattle.cedar_types.proofs.Names.Paths.{names_eq, names_cmp, tied_then, path_ties}

-- ---- tests decide equality

pub path_decides : (p q : Path) → Decides (path_eq p q) (p ≡ q)
path_decides p q =
    Decides-like (path_eq p q) (λ h. λ i. record { path = h.0 i; basename = h.1 i })
    (λ e. (ap (λ r. r.path) e, ap (λ r. r.basename) e))
    (Decides-and _ _ (slice_eq-Decides {E = text_eq} bytes_eq-Decides p.path q.path _ refl)
    (bytes_eq-Decides p.basename q.basename))

pub uid_decides : (u v : Uid) → Decides (uid_eq u v) (u ≡ v)
uid_decides u v =
    Decides-like (uid_eq u v) (λ h. λ i. record { entity_type = h.0 i; eid = h.1 i })
    (λ e. (ap (λ r. r.entity_type) e, ap (λ r. r.eid) e))
    (Decides-and _ _ (path_decides u.entity_type v.entity_type) (bytes_eq-Decides u.eid v.eid))

pub path_symm : (p q : Path) → path_eq p q ≡ path_eq q p
path_symm p q = same_from_decides (path_eq p q) (path_eq q p) (path_decides p q) (Decides-like (path_eq q p) sym sym (path_decides q p))

pub uid_symm : (u v : Uid) → uid_eq u v ≡ uid_eq v u
uid_symm u v = same_from_decides (uid_eq u v) (uid_eq v u) (uid_decides u v) (Decides-like (uid_eq v u) sym sym (uid_decides v u))

pub uids_eq : (u v : EntityUID)
    → ((pointwise (λ x y. text_eq (text_of x) (text_of y)) u.entity_type.name.path.items v.entity_type.name.path.items
    && text_eq (text_of u.entity_type.name.basename) (text_of v.entity_type.name.basename))
    && text_eq (text_of u.eid) (text_of v.eid)) ≡ uid_eq (uid_of u) (uid_of v)
uids_eq u v = ap (λ r. r && text_eq (text_of u.eid) (text_of v.eid)) (names_eq u.entity_type.name v.entity_type.name)

-- ---- the order of ids

pub uid_ties : (u v : Uid) → uid_eq u v ≡ is_eq (uid_cmp u v)
uid_ties u v =
    ap (λ r. r && text_eq u.eid v.eid) (path_ties u.entity_type v.entity_type)
    ∙ ap (λ r. is_eq (path_cmp u.entity_type v.entity_type) && r) (texts_ties u.eid v.eid)
    ∙ tied_then (path_cmp u.entity_type v.entity_type) (text_cmp u.eid v.eid)

pub uids_cmp : (u v : EntityUID)
    → ordering_then (ordering_then
    (slice_cmp (λ x y. text_cmp (text_of x) (text_of y))
    u.entity_type.name.path.items v.entity_type.name.path.items)
    (text_cmp (text_of u.entity_type.name.basename) (text_of v.entity_type.name.basename)))
    (text_cmp (text_of u.eid) (text_of v.eid)) ≡ uid_cmp (uid_of u) (uid_of v)
uids_cmp u v = ap (λ r. ordering_then r (text_cmp (text_of u.eid) (text_of v.eid))) (names_cmp u.entity_type.name v.entity_type.name)

-- A membership test under a comparison R of ids is a membership test by plain id
pub contained_id : (R : EntityUID → Ordering) (u : Uid) → ((k : EntityUID) → R k ≡ uid_cmp u (uid_of k))
    → (ks : List EntityUID) → list_any (λ k. is_eq (R k)) ks ≡ list_any (uid_eq u) (map uid_of ks)
contained_id R u h [] = refl
contained_id R u h (k ∷ ks) = λ i. ((ap is_eq (h k) ∙ sym (uid_ties u (uid_of k))) i) || contained_id R u h ks i

-- ---- maps by name

-- A look-up under a comparison R of entity types is a look-up by name
pub type_lookup : {X : Type 0} (R : EntityType → Ordering) (p : Path)
    → ((k : EntityType) → R k ≡ path_cmp p (type_of k)) → (es : List (EntityType × X))
    → lookup (λ k. is_eq (R k)) es ≡ lookup (λ k. path_eq p (type_of k)) es
type_lookup R p h es = ap (λ test. lookup test es) (λ i k. (ap is_eq (h k) ∙ sym (path_ties p (type_of k))) i)

-- A look-up under a comparison R of ids is a look-up by plain id
pub uid_lookup : {X : Type 0} (R : EntityUID → Ordering) (u : Uid) → ((k : EntityUID) → R k ≡ uid_cmp u (uid_of k))
    → (es : List (EntityUID × X)) → lookup (λ k. is_eq (R k)) es ≡ lookup (λ k. uid_eq u (uid_of k)) es
uid_lookup R u h es = ap (λ test. lookup test es) (λ i k. (ap is_eq (h k) ∙ sym (uid_ties u (uid_of k))) i)
