-- Demands of a typed expression on levels, in the order in which the program finds them. They do
-- not depend on the maximum, so one walk gives both the level errors at each maximum and the
-- required level.
use Rattle.std.specs.Prelude.{ℕ, ◌+◌, ◌-◌, ◌^◌, ◌≤◌, min, max, nat_lt, Bool, true, false, List, [], ◌∷◌, ◌++◌, map}
use Rattle.std.specs.Prelude.{Option, Some, None, if◌then◌else◌}
use Rattle.std.specs.List.{flat_map}
use Rattle.cedar_types.specs.declared.base.location.Loc.{Loc}
use Rattle.cedar_types.specs.Errors.{Fault, Finding, internal_invariant_violation, literal_dereference_target}
use Rattle.cedar_types.specs.Types.Lookups.{attribute_type}
use Rattle.cedar_types.specs.Names.{Text, Uid, text_eq}
use Rattle.cedar_types.specs.Schemas.{Schema}
use Rattle.cedar_types.specs.Expressions.Tree.{lit, var, slot, unknown, if_then_else, and, or, unary, binary, call, get_attr, has_attr}
use Rattle.cedar_types.specs.Expressions.Tree.{ext_has_attr, like, is_type, set_of, record_of, Trees, no_trees, tree, Fields, no_fields}
use Rattle.cedar_types.specs.Expressions.Tree.{field}
use Rattle.cedar_types.specs.Types.{Ty}
use Rattle.cedar_typing.specs.Evaluation.Conformance.{IsOneOf}
use Rattle.cedar_typing.specs.TypedExpr.{TypedTree, Mark, annotation}
use Rattle.cedar_typechecker.specs.Levels.Chains.{Base, an_entity, a_record, neither, base_of, base_of_type, is_get_tag, Leaf, good_leaf}
use Rattle.cedar_typechecker.specs.Levels.Chains.{literal_leaf, bad_leaf, leaf_of_literal}
use Rattle.cedar_typechecker.specs.Levels.Costs.{on_attribute, cost_of, keys_of}
use Rattle.cedar_typechecker.specs.Levels.Dereferences.{accesses_first}
use Rattle.cedar_typechecker.specs.Levels.Errors.{unless_within}
use Rattle.cedar_typechecker.specs.Levels.Setting.{LevelSetting}
use Rattle.cedar_typechecker.specs.Levels.Shared.{is_constant}

-- ---- one demand

pub data Need : Type 0 where
  -- a maximum of at least this level
  this_level : ℕ → Need
  -- an expression other than a literal or a slot at the end of an access chain: no maximum is
  -- enough
  no_literal : Need
  -- a rule for the node, which has none: no maximum is enough
  a_rule : Need

pub record Demand : Type 0 where
  pub place : Option Loc
  pub need : Need
  -- a maximum below this number hides the demand, because an extended `has` further up costs more
  -- than that maximum, and its error stands for all errors below it
  pub hidden_below : ℕ

-- the faults at the maximum n: none if n meets the need
abbrev pub unless_met : ℕ → Need → List Fault
unless_met n (this_level k) = unless_within n k
unless_met n no_literal = literal_dereference_target ∷ []
unless_met n a_rule = internal_invariant_violation ∷ []

abbrev pub found_for : Text → Demand → Fault → Finding
found_for p d f = record { place = d.place; policy = p; fault = f }

-- the errors of a policy p at the maximum n, from one demand and from all demands
abbrev pub told_of : Text → ℕ → Demand → List Finding
told_of p n d =
    if nat_lt n d.hidden_below then [] else map (found_for p d) (unless_met n d.need)

abbrev pub told : Text → ℕ → List Demand → List Finding
told p n = flat_map (told_of p n)

-- n meets a need
abbrev pub Meets : ℕ → Need → Type 0
Meets n (this_level k) = k ≤ n
Meets n no_literal = ⊥
Meets n a_rule = ⊥

-- n meets all demands
abbrev pub MeetsAll : ℕ → List Demand → Type 0
MeetsAll n ds = (d : Demand) → IsOneOf d ds → Meets n d.need

-- ---- numbers

-- the program counts up to the greatest number of 64 bits, and no further. This changes no error,
-- because a maximum has 32 bits, and so has each level that an error reports
abbrev pub capped : ℕ → ℕ
capped k = min k (2 ^ 64 - 1)

abbrev pub raised : ℕ → ℕ → ℕ
raised k c = capped (k + c)

-- ---- by cases

abbrev pub by_base : {A : Type 0} → Base → A → A → A → A
by_base an_entity e r n = e
by_base a_record e r n = r
by_base neither e r n = n

abbrev pub on_path : {A : Type 0} → List Text → A → (Text → List Text → A) → A
on_path [] otherwise f = otherwise
on_path (p ∷ path) otherwise f = f p path

abbrev pub has_key : Text → Fields Mark → Bool
has_key p no_fields = false
has_key p (field k t fs) = if text_eq p k then true else has_key p fs

abbrev pub on_keys : {A : Type 0} → Option (List Text) → A → (List Text → A) → A
on_keys None otherwise f = otherwise
on_keys (Some path) otherwise f = f path

-- by cases: whether the walk has met the key that is followed
abbrev pub unless_found : {A : Type 0} → Option ℕ → (ℕ → A) → A → A
unless_found (Some k) f otherwise = f k
unless_found None f otherwise = otherwise

-- ---- the attributes of extended `has`, one after another

-- i and the number of attributes after the first that lead to the first entity, if one comes before
-- the last attribute
abbrev pub entity_after : Schema → ℕ → Ty → Text → List Text → Option ℕ
entity_after s i t x [] = None
entity_after s i t x (y ∷ ys) =
    on_attribute None (attribute_type s t x)
    (λ u. by_base (base_of_type u) (Some i) (entity_after s (i + 1) u y ys)
    (entity_after s (i + 1) u y ys))

-- ---- levels of targets

abbrev mutual
  -- the level of a target along a path, as the program counts it. An `if` whose test is True or
  -- False counts one branch, because typing makes both branches one tree
  pub counted_level : TypedTree → List Text → ℕ
  counted_level (lit m x) path = 0
  counted_level (var m x) path = 0
  counted_level (slot m x) path = 0
  counted_level (unknown m x) path = 0
  counted_level (if_then_else m b c d) path =
      if is_constant (annotation b) then counted_level c path
      else max (counted_level c path) (counted_level d path)
  counted_level (and m b c) path = 0
  counted_level (or m b c) path = 0
  counted_level (unary m o b) path = 0
  counted_level (binary m o b c) path =
      if is_get_tag o then raised (counted_level b path) 1 else 0
  counted_level (call m n ts) path = 0
  counted_level (get_attr m b x) path =
      by_base (base_of (annotation b)) (raised (counted_level b path) 1)
      (counted_level b (x ∷ path)) 0
  counted_level (has_attr m b x) path = 0
  counted_level (ext_has_attr m b x xs) path = 0
  counted_level (like m b p) path = 0
  counted_level (is_type m b n) path = 0
  counted_level (set_of m ts) path = 0
  counted_level (record_of m fs) path =
      on_path path 0 (λ p rest. if has_key p fs then counted_at_key fs p rest else 0)

  pub counted_at_key : Fields Mark → Text → List Text → ℕ
  counted_at_key no_fields p path = 0
  counted_at_key (field k t fs) p path =
      if text_eq p k then counted_level t path else counted_at_key fs p path

-- ---- the walk

-- the surroundings on which the demands of an expression depend
pub record Surroundings : Type 0 where
  -- the action of the environment, if that is one of a declared action
  pub action : Option Uid
  pub schema : Schema

-- the surroundings of a setting, without its maximum and its policy
abbrev pub around : LevelSetting → Surroundings
around s = record { action = s.action; schema = s.schema }

-- the demands ds and one more, at a place
abbrev pub demands : Option Loc → Need → ℕ → List Demand → List Demand
demands l need h ds = ds ++ record { place = l; need = need; hidden_below = h } ∷ []

abbrev pub at_leaf : Option Loc → Leaf → ℕ → List Demand → List Demand
at_leaf l good_leaf h ds = ds
at_leaf l literal_leaf h ds = demands l no_literal h ds
at_leaf l bad_leaf h ds = demands l a_rule h ds

-- the demands of extended `has`, by its base, its cost and the keys to its first entity. On an
-- entity or a record it demands its cost, and, if it has a target, the target's level with the
-- cost. A maximum below the cost hides all of these but the cost, because nothing below is visited
-- then. Any other base is only checked
abbrev pub add_chain_demands : Option Loc → Base → ℕ → Option (List Text) → (List Text → ℕ)
    → (List Text → ℕ → List Demand → List Demand) → (ℕ → List Demand → List Demand)
    → ℕ → List Demand → List Demand
add_chain_demands l an_entity c keys level_along on_target on_base h ds =
    demands l (this_level (raised (level_along []) c)) (max h c)
    (on_target [] (max h c) (demands l (this_level c) h ds))
add_chain_demands l a_record c keys level_along on_target on_base h ds =
    on_keys keys (on_base (max h c) (demands l (this_level c) h ds))
    (λ path. demands l (this_level (raised (level_along path) c)) (max h c)
    (on_target path (max h c) (on_base (max h c) (demands l (this_level c) h ds))))
add_chain_demands l neither c keys level_along on_target on_base h ds = on_base h ds

module _ (s : Surroundings) where
  abbrev mutual
    -- the demands ds and those of a checked expression, which a maximum below h hides
    pub add_demands : TypedTree → ℕ → List Demand → List Demand
    add_demands (lit m x) h ds = ds
    add_demands (var m x) h ds = ds
    add_demands (slot m x) h ds = ds
    add_demands (unknown m x) h ds = ds
    add_demands (if_then_else m b c d) h ds =
        if is_constant (annotation b) then add_demands c h (add_demands b h ds)
        else add_demands d h (add_demands c h (add_demands b h ds))
    add_demands (and m b c) h ds = add_demands c h (add_demands b h ds)
    add_demands (or m b c) h ds = add_demands c h (add_demands b h ds)
    add_demands (unary m o b) h ds = add_demands b h ds
    add_demands (binary m o b c) h ds =
        add_demands c h
        (if accesses_first o
        then demands m.at.place (this_level (raised (counted_level b []) 1)) h
        (add_target_demands b [] h ds)
        else add_demands b h ds)
    add_demands (call m n ts) h ds = add_all_demands ts h ds
    add_demands (get_attr m b x) h ds =
        by_base (base_of (annotation b))
        (demands m.at.place (this_level (raised (counted_level b []) 1)) h
        (add_target_demands b [] h ds))
        (add_demands b h ds)
        (demands m.at.place a_rule h ds)
    add_demands (has_attr m b x) h ds =
        by_base (base_of (annotation b))
        (demands m.at.place (this_level (raised (counted_level b []) 1)) h
        (add_target_demands b [] h ds))
        (add_demands b h ds)
        (demands m.at.place a_rule h ds)
    add_demands (ext_has_attr m b x xs) h ds =
        add_chain_demands m.at.place (base_of (annotation b))
        (cost_of s.schema (annotation b) x xs) (keys_of s.schema (annotation b) x xs)
        (counted_level b) (add_target_demands b) (add_demands b) h ds
    add_demands (like m b p) h ds = add_demands b h ds
    add_demands (is_type m b n) h ds = add_demands b h ds
    add_demands (set_of m ts) h ds = add_all_demands ts h ds
    add_demands (record_of m es) h ds = add_field_demands es h ds

    pub add_all_demands : Trees Mark → ℕ → List Demand → List Demand
    add_all_demands no_trees h ds = ds
    add_all_demands (tree t ts) h ds = add_all_demands ts h (add_demands t h ds)

    pub add_field_demands : Fields Mark → ℕ → List Demand → List Demand
    add_field_demands no_fields h ds = ds
    add_field_demands (field k t es) h ds = add_field_demands es h (add_demands t h ds)

    -- the demands ds and those of a target, along a path
    pub add_target_demands : TypedTree → List Text → ℕ → List Demand → List Demand
    add_target_demands (lit m x) path h ds = at_leaf m.at.place (leaf_of_literal s.action x) h ds
    add_target_demands (var m x) path h ds = ds
    add_target_demands (slot m x) path h ds = demands m.at.place no_literal h ds
    add_target_demands (unknown m x) path h ds = demands m.at.place a_rule h ds
    add_target_demands (if_then_else m b c d) path h ds =
        if is_constant (annotation b) then add_target_demands c path h (add_demands b h ds)
        else add_target_demands d path h (add_target_demands c path h (add_demands b h ds))
    add_target_demands (and m b c) path h ds = demands m.at.place a_rule h ds
    add_target_demands (or m b c) path h ds = demands m.at.place a_rule h ds
    add_target_demands (unary m o b) path h ds = demands m.at.place a_rule h ds
    add_target_demands (binary m o b c) path h ds =
        if is_get_tag o then add_demands c h (add_target_demands b path h ds)
        else demands m.at.place a_rule h ds
    add_target_demands (call m n ts) path h ds = demands m.at.place a_rule h ds
    add_target_demands (get_attr m b x) path h ds =
        by_base (base_of (annotation b)) (add_target_demands b path h ds)
        (add_target_demands b (x ∷ path) h ds)
        (demands m.at.place a_rule h ds)
    add_target_demands (has_attr m b x) path h ds = demands m.at.place a_rule h ds
    add_target_demands (ext_has_attr m b x xs) path h ds = demands m.at.place a_rule h ds
    add_target_demands (like m b p) path h ds = demands m.at.place a_rule h ds
    add_target_demands (is_type m b n) path h ds = demands m.at.place a_rule h ds
    add_target_demands (set_of m ts) path h ds = demands m.at.place a_rule h ds
    add_target_demands (record_of m es) path h ds =
        on_path path (demands m.at.place a_rule h ds)
        (λ p rest. if has_key p es then add_demands_along es p rest h ds
        else demands m.at.place a_rule h ds)

    -- the demands of a record literal: its value at the key is a target, and its other values are
    -- checked
    pub add_demands_along : Fields Mark → Text → List Text → ℕ → List Demand → List Demand
    add_demands_along no_fields p path h ds = ds
    add_demands_along (field k t es) p path h ds =
        if text_eq p k then add_field_demands es h (add_target_demands t path h ds)
        else add_demands_along es p path h (add_demands t h ds)

  -- the demands of extended `has`, from its base and its attributes
  abbrev pub add_demands_of_chain : Option Loc → TypedTree → Text → List Text
      → ℕ → List Demand → List Demand
  add_demands_of_chain l b x xs h ds =
      add_chain_demands l (base_of (annotation b)) (cost_of s.schema (annotation b) x xs)
      (keys_of s.schema (annotation b) x xs) (counted_level b)
      (add_target_demands b) (add_demands b) h ds
