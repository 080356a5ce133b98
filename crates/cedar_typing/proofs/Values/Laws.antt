-- Equality of values is an equivalence, by induction on the first value with the statement for all others.
use Rattle.std.proofs.Common.{◌≡◌, refl, sym, ap, subst, Bool, true, false, Option, Some, None, true≢false}
use Rattle.cedar_types.specs.Names.{text_eq, path_eq}
use Rattle.cedar_types.specs.Lemmas.Comparisons.{and_left, and_right, and_both, text_same, path_same, uid_same, int_same, bool_same}
use Rattle.cedar_types.specs.Values.{Value, VBool, VLong, VString, VEntity, VSet, VRecord, VExtension, Values, no_values, more_values}
use Rattle.cedar_types.specs.Values.{Entries, no_entries, more_entries, entry_at, AllValues, AllEntries}
use Rattle.cedar_typing.specs.Evaluation.Equality.{same_value}
use Rattle.cedar_typing.specs.Evaluation.Equality.{EqualityIsAnEquivalence, EqualityHasNoOrder}
use Rattle.cedar_typing.proofs.Values.Equality.{member_has, sets_to, sets_from, agree_values, records_to, records_from, OnSome, entry_has}

-- ---- a property of leaves, of sets of values that have it, and of records of such values, is one of all values

-- a leaf is neither a set nor a record
abbrev IsLeaf : Value → Type 0
IsLeaf (VSet vs) = ⊥
IsLeaf (VRecord es) = ⊥
IsLeaf v = Unit {0}

module _ (P : Value → Type 0) (of_leaf : (v : Value) → IsLeaf v → P v) (of_set : (vs : Values) → AllValues P vs → P (VSet vs))
    (of_record : (es : Entries) → AllEntries P es → P (VRecord es)) where
  mutual
    every : (v : Value) → P v
    every (VSet vs) = of_set vs (all_members vs)
    every (VRecord es) = of_record es (all_fields es)
    every (VBool b) = of_leaf (VBool b) tt
    every (VLong n) = of_leaf (VLong n) tt
    every (VString t) = of_leaf (VString t) tt
    every (VEntity u) = of_leaf (VEntity u) tt
    every (VExtension n t) = of_leaf (VExtension n t) tt

    all_members : (vs : Values) → AllValues P vs
    all_members no_values = tt
    all_members (more_values v vs) = (every v, all_members vs)

    all_fields : (es : Entries) → AllEntries P es
    all_fields no_entries = tt
    all_fields (more_entries k v es) = (every v, all_fields es)

-- ---- reflexivity

abbrev Reflexive : Value → Type 0
Reflexive v = same_value v v ≡ true

agree_itself : (o : Option Value) → OnSome Reflexive o → agree_values o o ≡ true
agree_itself None h = refl
agree_itself (Some v) h = h

set_itself : (vs : Values) → AllValues Reflexive vs → Reflexive (VSet vs)
set_itself vs h =
    let f = member_has Reflexive vs h in
    sets_from vs vs
    (record {
      there = λ v m. record { it = v; among = m; passes = f v m };
      back =
          λ v m. record { it = v; among = m; passes = f v m };
    })

record_itself : (es : Entries) → AllEntries Reflexive es → Reflexive (VRecord es)
record_itself es h = records_from es es (record { at_each = λ k. agree_itself (entry_at k es) (entry_has Reflexive k es h) })

leaf_itself : (v : Value) → IsLeaf v → Reflexive v
leaf_itself (VBool b) l = bool_same.itself b
leaf_itself (VLong n) l = int_same.itself n
leaf_itself (VString t) l = text_same.itself t
leaf_itself (VEntity u) l = uid_same.itself u
leaf_itself (VSet vs) l = absurd l
leaf_itself (VRecord es) l = absurd l
leaf_itself (VExtension n t) l = and_both (path_eq n n) (text_eq t t) (path_same.itself n) (text_same.itself t)

itself : (v : Value) → Reflexive v
itself = every Reflexive leaf_itself set_itself record_itself

-- ---- a value that equals a leaf is that leaf

leaf_is : (v : Value) → IsLeaf v → (w : Value) → same_value v w ≡ true → v ≡ w
leaf_is (VBool a) l (VBool b) h = ap VBool (bool_same.to a b h)
leaf_is (VLong a) l (VLong b) h = ap VLong (int_same.to a b h)
leaf_is (VString a) l (VString b) h = ap VString (text_same.to a b h)
leaf_is (VEntity a) l (VEntity b) h = ap VEntity (uid_same.to a b h)
leaf_is (VExtension n a) l (VExtension m b) h =
    λ i. VExtension (path_same.to n m (and_left (path_eq n m) (text_eq a b) h) i)
    (text_same.to a b (and_right (path_eq n m) (text_eq a b) h) i)
leaf_is (VSet vs) l w h = absurd l
leaf_is (VRecord es) l w h = absurd l
leaf_is v l w h = absurd (true≢false (sym h))

-- a property of each set that equals a set, or of each record that equals a record, is one of each value that
-- equals it
as_set : (vs : Values) (P : Value → Type 0) → ((ws : Values) → same_value (VSet vs) (VSet ws) ≡ true → P (VSet ws))
    → (w : Value) → same_value (VSet vs) w ≡ true → P w
as_set vs P f (VSet ws) h = f ws h
as_set vs P f w h = absurd (true≢false (sym h))

as_record : (es : Entries) (P : Value → Type 0) → ((fs : Entries) → same_value (VRecord es) (VRecord fs) ≡ true → P (VRecord fs))
    → (w : Value) → same_value (VRecord es) w ≡ true → P w
as_record es P f (VRecord fs) h = f fs h
as_record es P f w h = absurd (true≢false (sym h))

-- ---- symmetry

abbrev Symmetric : Value → Type 0
Symmetric v = (w : Value) → same_value v w ≡ true → same_value w v ≡ true

-- values whose equality is identity
by_being : (v : Value) → ((w : Value) → same_value v w ≡ true → v ≡ w) → Symmetric v
by_being v f w h = subst (λ x. same_value x v ≡ true) (f w h) (itself v)

agree_turned : (o p : Option Value) → OnSome Symmetric o → agree_values o p ≡ true → agree_values p o ≡ true
agree_turned None None f h = refl
agree_turned None (Some w) f h = absurd (true≢false (sym h))
agree_turned (Some v) None f h = absurd (true≢false (sym h))
agree_turned (Some v) (Some w) f h = f w h

set_turned : (vs : Values) → AllValues Symmetric vs → Symmetric (VSet vs)
set_turned vs f =
    as_set vs (λ w. same_value w (VSet vs) ≡ true)
    (λ ws h. let s = sets_to vs ws h in let g = member_has Symmetric vs f in
    sets_from ws vs (record {
      there = λ v m. let p = s.back v m in record { it = p.it; among = p.among; passes = g p.it p.among v p.passes };
      back = λ v m. let p = s.there v m in record { it = p.it; among = p.among; passes = g v m p.it p.passes };
    }))

record_turned : (es : Entries) → AllEntries Symmetric es → Symmetric (VRecord es)
record_turned es f =
    as_record es (λ w. same_value w (VRecord es) ≡ true)
    (λ fs h. records_from fs es
    (record { at_each = λ k. agree_turned (entry_at k es) (entry_at k fs) (entry_has Symmetric k es f) ((records_to es fs h).at_each k) }))

turned : (v : Value) → Symmetric v
turned = every Symmetric (λ v l. by_being v (leaf_is v l)) set_turned record_turned

-- ---- transitivity

abbrev Transitive : Value → Type 0
Transitive u = (v w : Value) → same_value u v ≡ true → same_value v w ≡ true → same_value u w ≡ true

along_being : (u : Value) → ((v : Value) → same_value u v ≡ true → u ≡ v) → Transitive u
along_being u f v w h h' = subst (λ x. same_value x w ≡ true) (sym (f v h)) h'

agree_along : (o p q : Option Value) → OnSome Transitive o → agree_values o p ≡ true → agree_values p q ≡ true → agree_values o q ≡ true
agree_along None None q f h h' = h'
agree_along None (Some v) q f h h' = absurd (true≢false (sym h))
agree_along (Some u) None q f h h' = absurd (true≢false (sym h))
agree_along (Some u) (Some v) None f h h' = absurd (true≢false (sym h'))
agree_along (Some u) (Some v) (Some w) f h h' = f v w h h'

set_along : (us : Values) → AllValues Transitive us → Transitive (VSet us)
set_along us f v w h h' =
    as_set us (λ v. same_value v w ≡ true → same_value (VSet us) w ≡ true)
    (λ vs h. as_set vs (λ w. same_value (VSet us) w ≡ true)
    (λ ws h'. let s = sets_to us vs h in let t = sets_to vs ws h' in let g = member_has Transitive us f in
    sets_from us ws (record {
      there =
          λ u m. let p = s.there u m in let q = t.there p.it p.among in
          record { it = q.it; among = q.among; passes = g u m p.it q.it p.passes q.passes };
      back =
          λ z m. let q = t.back z m in let p = s.back q.it q.among in
          record { it = p.it; among = p.among; passes = g p.it p.among q.it z p.passes q.passes };
    })) w) v h h'

record_along : (es : Entries) → AllEntries Transitive es → Transitive (VRecord es)
record_along es f v w h h' =
    as_record es (λ v. same_value v w ≡ true → same_value (VRecord es) w ≡ true)
    (λ fs h. as_record fs (λ w. same_value (VRecord es) w ≡ true)
    (λ gs h'. records_from es gs
    (record {
      at_each = λ k. agree_along (entry_at k es) (entry_at k fs) (entry_at k gs) (entry_has Transitive k es f)
          ((records_to es fs h).at_each k) ((records_to fs gs h').at_each k);
    })) w) v h h'

along : (u : Value) → Transitive u
along = every Transitive (λ v l. along_being v (leaf_is v l)) set_along record_along

pub equality : EqualityIsAnEquivalence
equality = record { reflexive = itself; symmetric = turned; transitive = along }

both_ways : (a b : Bool) → (a ≡ true → b ≡ true) → (b ≡ true → a ≡ true) → a ≡ b
both_ways true b f g = sym (f refl)
both_ways false true f g = g refl
both_ways false false f g = refl

pub no_order : EqualityHasNoOrder
no_order v w = both_ways (same_value v w) (same_value w v) (turned v w) (turned w v)
