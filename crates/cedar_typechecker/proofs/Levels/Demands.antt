-- The demands of an expression at a maximum give exactly the errors of the walk.
use Rattle.std.proofs.Common.{◌≡◌, ◌↔◌, ℕ, ◌≤◌, nat_lt, Bool, true, false, List, [], ◌∷◌, if◌then◌else◌, refl, subst, arith}
use Rattle.std.proofs.lemmas.Bool.{ltb-true}
use Rattle.cedar_types.specs.Errors.{Finding}
use Rattle.cedar_types.specs.Names.{Text, text_eq}
use Rattle.cedar_types.specs.Expressions.Tree.{lit, var, slot, unknown, if_then_else, and, or, unary, binary, call, get_attr, has_attr}
use Rattle.cedar_types.specs.Expressions.Tree.{ext_has_attr, like, is_type, set_of, record_of, Trees, no_trees, tree, Fields, no_fields}
use Rattle.cedar_types.specs.Expressions.Tree.{field}
use Rattle.cedar_typing.specs.Evaluation.Conformance.{IsOneOf}
use Rattle.cedar_typing.specs.TypedExpr.{TypedTree, Mark, annotation}
use Rattle.cedar_typechecker.specs.Levels.Chains.{base_of, is_get_tag, field_at, leaf_of_literal}
use Rattle.cedar_typechecker.specs.Levels.Costs.{cost_of, keys_of}
use Rattle.cedar_typechecker.specs.Levels.Dereferences.{accesses_first}
use Rattle.cedar_typechecker.specs.Levels.Demands.{Demand, told, MeetsAll, around, has_key, add_demands, add_all_demands, add_field_demands, add_target_demands}
use Rattle.cedar_typechecker.specs.Levels.Demands.{add_demands_along}
use Rattle.cedar_typechecker.specs.Levels.Laws.{DemandsTellErrors, DemandsAreMet}
use Rattle.cedar_typechecker.specs.Levels.Setting.{LevelSetting}
use Rattle.cedar_typechecker.specs.Levels.Shared.{is_constant, BranchesAreShared, AllAreShared, FieldsAreShared}
use Rattle.cedar_typechecker.specs.Levels.Walk.{checked_errors, all_errors, field_errors, target_errors, errors_along}
use Rattle.cedar_typechecker.proofs.Levels.CountedLevels.{level_is}
use Rattle.cedar_typechecker.proofs.Levels.Walk.{walk_finds_errors, silent_walk_is_within}
use Rattle.cedar_typechecker.proofs.Levels.DemandParts.{nil_by_members, silent_where_met, key_is, Tells, tells_none, tells_both, literal_tells, rule_tells, rule_tells_end}
use Rattle.cedar_typechecker.proofs.Levels.DemandParts.{leaf_tells, if_tells, if_target_tells, base_tells, operator_tells, chain_tells}
use Rattle.cedar_typechecker.proofs.Levels.DemandParts.{tag_tells, attribute_tells, record_tells, along_tells}

module _ (s : LevelSetting) (bounded : s.maximum ≤ 4294967295) where
  mutual
    pub checked_tells : (x : TypedTree) → BranchesAreShared x → (h : ℕ) (ds : List Demand)
        → Tells s bounded h (checked_errors s x) ds (add_demands (around s) x h ds)
    checked_tells (lit m x) i h ds = tells_none s bounded h ds
    checked_tells (var m x) i h ds = tells_none s bounded h ds
    checked_tells (slot m x) i h ds = tells_none s bounded h ds
    checked_tells (unknown m x) i h ds = tells_none s bounded h ds
    checked_tells (if_then_else m b c d) i h ds =
        if_tells s bounded (is_constant (annotation b)) b c d h ds i.0 (checked_tells b i.1)
        (checked_tells c i.2) (checked_tells d i.3)
    checked_tells (and m b c) i h ds =
        let ds1 = add_demands (around s) b h ds in
        tells_both s bounded h ds (checked_errors s b) ds1 (checked_errors s c)
        (add_demands (around s) c h ds1) (checked_tells b i.0 h ds) (checked_tells c i.1 h ds1)
    checked_tells (or m b c) i h ds =
        let ds1 = add_demands (around s) b h ds in
        tells_both s bounded h ds (checked_errors s b) ds1 (checked_errors s c)
        (add_demands (around s) c h ds1) (checked_tells b i.0 h ds) (checked_tells c i.1 h ds1)
    checked_tells (unary m o b) i h ds = checked_tells b i h ds
    checked_tells (binary m o b c) i h ds =
        operator_tells s bounded (accesses_first o) m b c h ds (checked_tells b i.0)
        (target_tells b i.0) (λ path. level_is s.action b path i.0) (checked_tells c i.1)
    checked_tells (call m f ts) i h ds = all_tell ts i h ds
    checked_tells (get_attr m b x) i h ds =
        base_tells s bounded (base_of (annotation b)) m b h ds (checked_tells b i)
        (target_tells b i) (λ path. level_is s.action b path i)
    checked_tells (has_attr m b x) i h ds =
        base_tells s bounded (base_of (annotation b)) m b h ds (checked_tells b i)
        (target_tells b i) (λ path. level_is s.action b path i)
    checked_tells (ext_has_attr m b x xs) i h ds =
        chain_tells s bounded (base_of (annotation b)) m b (cost_of s.schema (annotation b) x xs)
        (keys_of s.schema (annotation b) x xs) h ds (checked_tells b i) (target_tells b i)
        (λ path. level_is s.action b path i)
    checked_tells (like m b p) i h ds = checked_tells b i h ds
    checked_tells (is_type m b p) i h ds = checked_tells b i h ds
    checked_tells (set_of m ts) i h ds = all_tell ts i h ds
    checked_tells (record_of m es) i h ds = fields_tell es i h ds

    all_tell : (ts : Trees Mark) → AllAreShared ts → (h : ℕ) (ds : List Demand)
        → Tells s bounded h (all_errors s ts) ds (add_all_demands (around s) ts h ds)
    all_tell no_trees i h ds = tells_none s bounded h ds
    all_tell (tree t ts) i h ds =
        let ds1 = add_demands (around s) t h ds in
        tells_both s bounded h ds (checked_errors s t) ds1 (all_errors s ts)
        (add_all_demands (around s) ts h ds1) (checked_tells t i.0 h ds) (all_tell ts i.1 h ds1)

    fields_tell : (es : Fields Mark) → FieldsAreShared es → (h : ℕ) (ds : List Demand)
        → Tells s bounded h (field_errors s es) ds (add_field_demands (around s) es h ds)
    fields_tell no_fields i h ds = tells_none s bounded h ds
    fields_tell (field k t es) i h ds =
        let ds1 = add_demands (around s) t h ds in
        tells_both s bounded h ds (checked_errors s t) ds1 (field_errors s es)
        (add_field_demands (around s) es h ds1) (checked_tells t i.0 h ds)
        (fields_tell es i.1 h ds1)

    target_tells : (x : TypedTree) → BranchesAreShared x
        → (path : List Text) (h : ℕ) (ds : List Demand)
        → Tells s bounded h (target_errors s x path) ds (add_target_demands (around s) x path h ds)
    target_tells (lit m x) i path h ds =
        leaf_tells s bounded m (leaf_of_literal s.action x) h ds
    target_tells (var m x) i path h ds = tells_none s bounded h ds
    target_tells (slot m x) i path h ds = literal_tells s bounded m h ds
    target_tells (unknown m x) i path h ds = rule_tells s bounded m h ds
    target_tells (if_then_else m b c d) i path h ds =
        if_target_tells s bounded (is_constant (annotation b)) b c d path h ds i.0
        (checked_tells b i.1) (target_tells c i.2) (target_tells d i.3)
    target_tells (and m b c) i path h ds = rule_tells s bounded m h ds
    target_tells (or m b c) i path h ds = rule_tells s bounded m h ds
    target_tells (unary m o b) i path h ds = rule_tells s bounded m h ds
    target_tells (binary m o b c) i path h ds =
        tag_tells s bounded (is_get_tag o) m b c path h ds (target_tells b i.0)
        (checked_tells c i.1)
    target_tells (call m f ts) i path h ds = rule_tells s bounded m h ds
    target_tells (get_attr m b x) i path h ds =
        attribute_tells s bounded (base_of (annotation b)) m b x path h ds (target_tells b i)
    target_tells (has_attr m b x) i path h ds = rule_tells s bounded m h ds
    target_tells (ext_has_attr m b x xs) i path h ds = rule_tells s bounded m h ds
    target_tells (like m b p) i path h ds = rule_tells s bounded m h ds
    target_tells (is_type m b p) i path h ds = rule_tells s bounded m h ds
    target_tells (set_of m ts) i path h ds = rule_tells s bounded m h ds
    target_tells (record_of m es) i [] h ds = rule_tells_end s bounded m h ds
    target_tells (record_of m es) i (p ∷ path) h ds =
        record_tells s bounded m es p path h ds (has_key p es) (field_at p es) (key_is p es)
        (along_tell es i p path h ds)

    along_tell : (es : Fields Mark) → FieldsAreShared es
        → (p : Text) (path : List Text) (h : ℕ) (ds : List Demand)
        → Tells s bounded h (errors_along s es p path) ds
        (add_demands_along (around s) es p path h ds)
    along_tell no_fields i p path h ds = tells_none s bounded h ds
    along_tell (field k t es) i p path h ds =
        along_tells s bounded (text_eq p k) t es p path h ds (checked_tells t i.0)
        (target_tells t i.0) (fields_tell es i.1) (along_tell es i.1 p path)

-- ---- laws

at_least_none : (n : ℕ) → 0 ≤ n
at_least_none n = omega arith

-- below 0 nothing is hidden
none_hidden : (n : ℕ) (es : List Finding) → (if nat_lt n 0 then [] else es) ≡ es
none_hidden n es = go (nat_lt n 0) refl
  where
    go : (b : Bool) → nat_lt n 0 ≡ b → (if b then [] else es) ≡ es
    go false q = refl
    go true q = let less = ltb-true n 0 q in absurd (omega arith)

module _ (s : LevelSetting) (bounded : s.maximum ≤ 4294967295) (root : TypedTree)
    (shared : BranchesAreShared root) where
  abbrev found : List Demand
  found = add_demands (around s) root 0 []

  all_told : Tells s bounded 0 (checked_errors s root) [] found
  all_told = checked_tells s bounded root shared 0 []

  -- the errors that the demands give are those of the walk
  told_are_errors : (e : Finding)
      → IsOneOf e (told s.policy s.maximum found) ↔ IsOneOf e (checked_errors s root)
  told_are_errors e =
      let P : List Finding → Type 0 = λ es. IsOneOf e (told s.policy s.maximum found) ↔ IsOneOf e es in
      subst P (none_hidden s.maximum (checked_errors s root)) (all_told.adds e)

  -- if the walk finds no error, the demands give none
  silent_where_walk_is : checked_errors s root ≡ [] → told s.policy s.maximum found ≡ []
  silent_where_walk_is q =
      nil_by_members (told s.policy s.maximum found) (checked_errors s root)
      (λ e. (told_are_errors e).0) q

  walk_silent_where_met : MeetsAll s.maximum found → checked_errors s root ≡ []
  walk_silent_where_met m =
      nil_by_members (checked_errors s root) (told s.policy s.maximum found)
      (λ e. (told_are_errors e).1) (silent_where_met s.policy s.maximum found m)

  met_where_walk_is_silent : checked_errors s root ≡ [] → MeetsAll s.maximum found
  met_where_walk_is_silent q =
      all_told.met (λ e. at_least_none s.maximum) (λ e d i. absurd i) (silent_where_walk_is q)

pub demands_tell_errors : DemandsTellErrors
demands_tell_errors s root e le h =
    let t = told_are_errors s le root h e in
    let w = walk_finds_errors s root e in
    (λ i. w.1 (t.0 i), λ i. t.1 (w.0 i))

pub demands_are_met : DemandsAreMet
demands_are_met s root le h =
    let w = silent_walk_is_within s root in (
      λ m. w.0 (walk_silent_where_met s le root h m),
      λ i. met_where_walk_is_silent s le root h (w.1 i),
    )
