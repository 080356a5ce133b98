-- Values that follow each other in a text.
use Rattle.std.proofs.Common.{ℕ, ◌+◌, List, [], ◌∷◌, ◌++◌, sym, subst, append_assoc, arith, ⊎_elim}
use Rattle.std.proofs.lemmas.Bool.{cases_lt}
use Rattle.cedar_json.specs.declared.values.Key.{Key}
use Rattle.cedar_json.specs.declared.values.Value.{Value}
use Rattle.cedar_json.specs.Says.{Blanks, Stands, ItemsStand, ItemsFollow, MembersStand, MembersFollow, KeyStands, KeyReads, Separates}
use Rattle.cedar_json.specs.Tree.{Tree, tree}
use Rattle.cedar_json.specs.View.{tree_of, items_view, members_view}
use Rattle.cedar_types.specs.Names.{text_of}

-- blanks behind blanks are blanks
pub blanks_on : (bytes : List ℕ) (low mid high : ℕ) → Blanks bytes low mid → Blanks bytes mid high → Blanks bytes low high
blanks_on bytes low mid high a b =
    (omega (arith, a.0, b.0), λ i l h. ⊎_elim (λ below. a.1 i l below) (λ above. b.1 i above h) (cases_lt i mid))

-- a value stands also with more blanks before it and behind it
pub widened : (bytes : List ℕ) (low' low high high' : ℕ) (t : Tree) → Blanks bytes low' low → Stands bytes low high t → Blanks bytes high high' → Stands bytes low' high' t
widened bytes low' low high high' (tree start stop form) before stands behind =
    (blanks_on bytes low' low start before stands.0, stands.1, blanks_on bytes stop high high' stands.2 behind)

pub no_blanks : (bytes : List ℕ) (at : ℕ) → Blanks bytes at at
no_blanks bytes at = (omega arith, λ i l h. absurd (omega arith))

-- ---- items

-- the array is complete with any next item and any items that follow it
abbrev pub ItemsComplete : List ℕ → ℕ → ℕ → List Value → Type 0
ItemsComplete bytes low at vs = (high stop : ℕ) (v : Value) (ws : List Value) → Stands bytes at high (tree_of v) → ItemsFollow bytes high stop (items_view ws)
    → ItemsStand bytes low stop (items_view (vs ++ v ∷ ws))

pub items_begun : (bytes : List ℕ) (low at : ℕ) → Blanks bytes low at → ItemsComplete bytes low at []
items_begun bytes low at blanks high stop v ws stands follow =
    (high, widened bytes low at high high (tree_of v) blanks stands (no_blanks bytes high), follow)

pub items_go_on : (bytes : List ℕ) (low at behind next : ℕ) (vs : List Value) (v : Value) → ItemsComplete bytes low at vs
    → Stands bytes at behind (tree_of v) → Separates bytes behind next 44 → ItemsComplete bytes low next (vs ++ v ∷ [])
items_go_on bytes low at behind next vs v so_far stands comma high stop w ws more follow =
    let here : Stands bytes at comma.0 (tree_of v) = widened bytes at at behind comma.0 (tree_of v) (no_blanks bytes at) stands comma.1 in
    let next_is : Stands bytes (comma.0 + 1) high (tree_of w) = subst (λ n. Stands bytes n high (tree_of w)) comma.3 more in
    let whole : ItemsStand bytes low stop (items_view (vs ++ v ∷ (w ∷ ws))) = so_far comma.0 stop v (w ∷ ws) here (comma.2, high, next_is, follow) in
    subst (λ us. ItemsStand bytes low stop (items_view us)) (sym (append_assoc vs (v ∷ []) (w ∷ ws))) whole

pub items_end : (bytes : List ℕ) (low at behind next : ℕ) (vs : List Value) (v : Value) → ItemsComplete bytes low at vs
    → Stands bytes at behind (tree_of v) → Separates bytes behind next 93 → ItemsStand bytes low next (items_view (vs ++ v ∷ []))
items_end bytes low at behind next vs v so_far stands close =
    let here : Stands bytes at close.0 (tree_of v) = widened bytes at at behind close.0 (tree_of v) (no_blanks bytes at) stands close.1 in
    so_far close.0 next v [] here (close.2, close.3)

-- ---- members

abbrev pub MembersComplete : List ℕ → ℕ → ℕ → List (Key × Value) → Type 0
MembersComplete bytes low at es = (colon high stop : ℕ) (k : Key) (v : Value) (fs : List (Key × Value))
    → KeyStands bytes at k.place.start k.place.end colon (text_of k.name) → Stands bytes (colon + 1) high (tree_of v) → MembersFollow bytes high stop (members_view fs)
    → MembersStand bytes low stop (members_view (es ++ (k, v) ∷ fs))

pub members_begun : (bytes : List ℕ) (low at : ℕ) → Blanks bytes low at → MembersComplete bytes low at []
members_begun bytes low at blanks colon high stop k v fs key stands follow =
    (colon, high, (blanks_on bytes low at k.place.start blanks key.0, key.1, key.2, key.3), stands, follow)

pub members_go_on : (bytes : List ℕ) (low at keyed behind next : ℕ) (es : List (Key × Value)) (k : Key) (v : Value) → MembersComplete bytes low at es
    → KeyReads bytes at keyed k.place.start k.place.end (text_of k.name) → Stands bytes keyed behind (tree_of v) → Separates bytes behind next 44
    → MembersComplete bytes low next (es ++ (k, v) ∷ [])
members_go_on bytes low at keyed behind next es k v so_far key stands comma colon high stop l w fs more_key more follow =
    let at_colon : Stands bytes (key.0 + 1) behind (tree_of v) = subst (λ n. Stands bytes n behind (tree_of v)) key.2 stands in
    let here : Stands bytes (key.0 + 1) comma.0 (tree_of v) = widened bytes (key.0 + 1) (key.0 + 1) behind comma.0 (tree_of v) (no_blanks bytes (key.0 + 1)) at_colon comma.1 in
    let next_key : KeyStands bytes (comma.0 + 1) l.place.start l.place.end colon (text_of l.name) = subst (λ n. KeyStands bytes n l.place.start l.place.end colon (text_of l.name)) comma.3 more_key in
    let whole : MembersStand bytes low stop (members_view (es ++ (k, v) ∷ ((l, w) ∷ fs))) = so_far key.0 comma.0 stop k v ((l, w) ∷ fs) key.1 here (comma.2, colon, high, next_key, more, follow) in
    subst (λ us. MembersStand bytes low stop (members_view us)) (sym (append_assoc es ((k, v) ∷ []) ((l, w) ∷ fs))) whole

pub members_end : (bytes : List ℕ) (low at keyed behind next : ℕ) (es : List (Key × Value)) (k : Key) (v : Value) → MembersComplete bytes low at es
    → KeyReads bytes at keyed k.place.start k.place.end (text_of k.name) → Stands bytes keyed behind (tree_of v) → Separates bytes behind next 125
    → MembersStand bytes low next (members_view (es ++ (k, v) ∷ []))
members_end bytes low at keyed behind next es k v so_far key stands close =
    let at_colon : Stands bytes (key.0 + 1) behind (tree_of v) = subst (λ n. Stands bytes n behind (tree_of v)) key.2 stands in
    let here : Stands bytes (key.0 + 1) close.0 (tree_of v) = widened bytes (key.0 + 1) (key.0 + 1) behind close.0 (tree_of v) (no_blanks bytes (key.0 + 1)) at_colon close.1 in
    so_far key.0 close.0 next k v [] key.1 here (close.2, close.3)
