-- Forms whose operands are all typed first: the copy of the whole has the copies of the operands.
use Rattle.std.proofs.Common.{◌≡◌, Bool, false, List, [], ◌∷◌, refl, ◌∙◌}
use Rattle.cedar_types.specs.declared.base.location.Loc.{Loc}
use Rattle.std.proofs.Common.{Option, None}
use Rattle.cedar_types.specs.Errors.{Finding}
use Rattle.cedar_types.specs.Expressions.View.{trees_of}
use Rattle.cedar_types.specs.Names.{Text}
use Rattle.cedar_types.specs.Types.{Ty}
use Rattle.cedar_typing.specs.Capabilities.{Caps}
use Rattle.cedar_typing.specs.Eager.{Expectation, Form, first_expectation, later_expectations}
use Rattle.cedar_typing.specs.Evaluation.Eval.{eval, eval_all, eval_fields}
use Rattle.cedar_typing.specs.Evaluation.Outcomes.{Outcomes, GiveAll, more_outcomes, EntryOutcomes, GiveEntries, more_entry_outcomes}
use Rattle.cedar_typing.specs.Evaluation.World.{World, Outcome}
use Rattle.cedar_typing.specs.Judgments.{Judgment}
use Rattle.cedar_typing.specs.Rules.Eager.{Judgments, NoneDerived, none_derived, NoneGiven, none_given, no_operands, also_derived}
use Rattle.cedar_typing.specs.Rules.Eager.{also_given, one_more, eager_typed, operand_failed, table_refused, eager_rules, one_operand_rules}
use Rattle.cedar_typing.specs.Rules.Eager.{two_operand_rules}
use Rattle.cedar_typing.specs.Rules.Records.{fields_from}
use Rattle.cedar_typing.specs.TypeEnv.{TypeEnv}
use Rattle.cedar_typing.specs.TypedExpr.{TypedTree, Mark}
use Rattle.cedar_types.specs.Values.{no_values, no_entries}
use Rattle.cedar_typing.proofs.TypedCopies.Same.{AllOf, FieldsOf, IsClosed, Copies, expected_copied}

module _ (S : TypedTree → Type 0) (R : Type 0) (world : World) (closed : IsClosed S) where
  -- ---- a whole, by the copies of its operands: one lemma for all forms

  module _ (f : Form) (Js : Judgments) (o : Outcome)
      (derived : (k : Mark) (xs : List TypedTree) → Js.derive xs → S (f.node k xs) → eval world (f.node k xs) ≡ o)
      (given : R → (k : Mark) (b : Bool) (xs : List TypedTree) (es : List Finding) → Js.give b xs es → S (f.node k xs)
      → eval world (f.node k xs) ≡ o) where
    whole_derived : (t : Ty) (c : Caps) (x : TypedTree) → (eager_rules f Js).derives t c x → S x → eval world x ≡ o
    whole_derived t c x (eager_typed {xs = xs} ds e) s = derived _ xs ds s

    whole_recovered : R → (x : TypedTree) (es : List Finding) → (eager_rules f Js).recovers x es → S x → eval world x ≡ o
    whole_recovered r x es (operand_failed {xs = xs} h e) s = given r _ _ xs es h s
    whole_recovered r x es (table_refused {xs = xs} {es = before} h e) s = given r _ _ xs before h s

    pub whole_copies : Copies S R world o (eager_rules f Js)
    whole_copies = record { derivations = whole_derived; recoveries = whole_recovered }

  module _ (env : TypeEnv) where
    -- ---- one operand

    module _ (f : Form) (g : Outcome → Outcome)
        (at : (k : Mark) (y : TypedTree) → eval world (f.node k (y ∷ [])) ≡ g (eval world y))
        (part : (k : Mark) (y : TypedTree) → S (f.node k (y ∷ [])) → S y)
        (l : Option Loc) (o : Outcome) (J : Judgment) (i : Copies S R world o J) where
      abbrev One : Judgments
      One = one_more env f.goes_on (first_expectation f.expects) l J no_operands

      one_derived : (k : Mark) (xs : List TypedTree) → One.derive xs → S (f.node k xs) → eval world (f.node k xs) ≡ g o
      one_derived k xs (also_derived {t = t} {c = c} {x = y} d h none_derived) s =
          let e = i.derivations t c y d (part k y s) in
          at k y ∙ (λ j. g (e j))

      one_given : R → (k : Mark) (b : Bool) (xs : List TypedTree) (es : List Finding) → One.give b xs es → S (f.node k xs)
          → eval world (f.node k xs) ≡ g o
      one_given r k b xs es (also_given {succeeded = h} {c = c} {x = y} {es = fs} p none_given) s =
          let e = expected_copied S R world closed.marked r o J i env (first_expectation f.expects) l h c y fs p (part k y s) in
          at k y ∙ (λ j. g (e j))

      pub one_copies : Copies S R world (g o) (one_operand_rules env f l J)
      one_copies = whole_copies f One (g o) one_derived one_given

    -- ---- two operands

    module _ (f : Form) (g : Outcome → Outcome → Outcome)
        (at : (k : Mark) (y z : TypedTree) → eval world (f.node k (y ∷ z ∷ [])) ≡ g (eval world y) (eval world z))
        (parts : (k : Mark) (y z : TypedTree) → S (f.node k (y ∷ z ∷ [])) → S y × S z)
        (l l' : Option Loc) (o o' : Outcome) (J J' : Judgment) (i : Copies S R world o J) (i' : Copies S R world o' J') where
      abbrev later : List Expectation
      later = later_expectations f.expects

      abbrev Two : Judgments
      Two =
          one_more env f.goes_on (first_expectation f.expects) l J
          (one_more env f.goes_on (first_expectation (later_expectations f.expects)) l' J' no_operands)

      two_derived : (k : Mark) (xs : List TypedTree) → Two.derive xs → S (f.node k xs) → eval world (f.node k xs) ≡ g o o'
      two_derived k xs
          (also_derived {t = t} {c = c} {x = y} d h (also_derived {t = t'} {c = c'} {x = z} d' h' none_derived)) s =
          let w = parts k y z s in
          let e = i.derivations t c y d w.0 in
          let e' = i'.derivations t' c' z d' w.1 in
          at k y z ∙ (λ j. g (e j) (e' j))

      two_given : R → (k : Mark) (b : Bool) (xs : List TypedTree) (es : List Finding) → Two.give b xs es → S (f.node k xs)
          → eval world (f.node k xs) ≡ g o o'
      two_given r k b xs es
          (also_given {succeeded = h} {c = c} {x = y} {es = fs} p
          (also_given {succeeded = h'} {c = c'} {x = z} {es = fs'} p' none_given)) s =
          let w = parts k y z s in
          let e = expected_copied S R world closed.marked r o J i env (first_expectation f.expects) l h c y fs p w.0 in
          let e' = expected_copied S R world closed.marked r o' J' i' env (first_expectation later) l' h' c' z fs' p' w.1 in
          at k y z ∙ (λ j. g (e j) (e' j))

      pub two_copies : Copies S R world (g o o') (two_operand_rules env f l l' J J')
      two_copies = whole_copies f Two (g o o') two_derived two_given

    -- ---- expressions one after another

    pub record AllCopied (os : Outcomes) (Js : Judgments) : Type 0 where
      pub derivations : (xs : List TypedTree) → Js.derive xs → AllOf S (trees_of xs) → eval_all world (trees_of xs) ≡ os
      pub givings : R → (b : Bool) (xs : List TypedTree) (es : List Finding) → Js.give b xs es → AllOf S (trees_of xs)
          → eval_all world (trees_of xs) ≡ os

    no_derivations : (xs : List TypedTree) → NoneDerived xs → eval_all world (trees_of xs) ≡ GiveAll no_values
    no_derivations xs none_derived = refl

    no_givings : (b : Bool) (xs : List TypedTree) (es : List Finding) → NoneGiven b xs es
        → eval_all world (trees_of xs) ≡ GiveAll no_values
    no_givings b xs es none_given = refl

    pub none_copied : AllCopied (GiveAll no_values) no_operands
    none_copied = record { derivations = λ xs d s. no_derivations xs d; givings = λ r b xs es d s. no_givings b xs es d }

    module _ (goes_on : Bool) (q : Expectation) (l : Option Loc) (o : Outcome) (os : Outcomes) (J : Judgment) (Js : Judgments)
        (i : Copies S R world o J) (others : AllCopied os Js) where
      abbrev More : Judgments
      More = one_more env goes_on q l J Js

      more_derivations : (xs : List TypedTree) → More.derive xs → AllOf S (trees_of xs)
          → eval_all world (trees_of xs) ≡ more_outcomes o os
      more_derivations xs (also_derived {t = t} {c = c} {x = x} {xs = ys} d h ds) s =
          let e = i.derivations t c x d s.0 in
          let f = others.derivations ys ds s.1 in
          λ j. more_outcomes (e j) (f j)

      more_givings : R → (b : Bool) (xs : List TypedTree) (es : List Finding) → More.give b xs es → AllOf S (trees_of xs)
          → eval_all world (trees_of xs) ≡ more_outcomes o os
      more_givings r b xs es (also_given {succeeded = h} {later = h'} {c = c} {x = x} {xs = ys} {es = fs} {es' = fs'} p ds) s =
          let e = expected_copied S R world closed.marked r o J i env q l h c x fs p s.0 in
          let f = others.givings r h' ys fs' ds s.1 in
          λ j. more_outcomes (e j) (f j)

      pub more_copied : AllCopied (more_outcomes o os) More
      more_copied = record { derivations = more_derivations; givings = more_givings }

    -- a form of any number of operands
    pub all_copies : (f : Form) (g : Outcomes → Outcome)
        → ((k : Mark) (xs : List TypedTree) → eval world (f.node k xs) ≡ g (eval_all world (trees_of xs)))
        → ((k : Mark) (xs : List TypedTree) → S (f.node k xs) → AllOf S (trees_of xs))
        → (os : Outcomes) (Js : Judgments) → AllCopied os Js → Copies S R world (g os) (eager_rules f Js)
    all_copies f g at parts os Js i =
        whole_copies f Js (g os)
        (λ k xs d s. let e = i.derivations xs d (parts k xs s) in at k xs ∙ (λ j. g (e j)))
        (λ r k b xs es d s. let e = i.givings r b xs es d (parts k xs s) in at k xs ∙ (λ j. g (e j)))

    -- ---- the values of fields

    pub record FieldsCopied (ks : List Text) (os : EntryOutcomes) (Js : Judgments) : Type 0 where
      pub derivations : (xs : List TypedTree) → Js.derive xs → FieldsOf S (fields_from ks xs)
          → eval_fields world (fields_from ks xs) ≡ os
      pub givings : R → (b : Bool) (xs : List TypedTree) (es : List Finding) → Js.give b xs es → FieldsOf S (fields_from ks xs)
          → eval_fields world (fields_from ks xs) ≡ os

    no_field_derivations : (xs : List TypedTree) → NoneDerived xs → eval_fields world (fields_from [] xs) ≡ GiveEntries no_entries
    no_field_derivations xs none_derived = refl

    no_field_givings : (b : Bool) (xs : List TypedTree) (es : List Finding) → NoneGiven b xs es
        → eval_fields world (fields_from [] xs) ≡ GiveEntries no_entries
    no_field_givings b xs es none_given = refl

    pub no_fields_copied : FieldsCopied [] (GiveEntries no_entries) no_operands
    no_fields_copied = record {
      derivations = λ xs d s. no_field_derivations xs d;
      givings = λ r b xs es d s. no_field_givings b xs es d;
    }

    module _ (l : Option Loc) (key : Text) (ks : List Text) (o : Outcome) (os : EntryOutcomes) (J : Judgment) (Js : Judgments)
        (i : Copies S R world o J) (others : FieldsCopied ks os Js) where
      abbrev MoreFields : Judgments
      MoreFields = one_more env false None l J Js

      field_derivations : (xs : List TypedTree) → MoreFields.derive xs → FieldsOf S (fields_from (key ∷ ks) xs)
          → eval_fields world (fields_from (key ∷ ks) xs) ≡ more_entry_outcomes key o os
      field_derivations xs (also_derived {t = t} {c = c} {x = x} {xs = ys} d h ds) s =
          let e = i.derivations t c x d s.0 in
          let f = others.derivations ys ds s.1 in
          λ j. more_entry_outcomes key (e j) (f j)

      field_givings : R → (b : Bool) (xs : List TypedTree) (es : List Finding) → MoreFields.give b xs es
          → FieldsOf S (fields_from (key ∷ ks) xs)
          → eval_fields world (fields_from (key ∷ ks) xs) ≡ more_entry_outcomes key o os
      field_givings r b xs es (also_given {succeeded = h} {later = h'} {c = c} {x = x} {xs = ys} {es = fs} {es' = fs'} p ds) s =
          let e = expected_copied S R world closed.marked r o J i env None l h c x fs p s.0 in
          let f = others.givings r h' ys fs' ds s.1 in
          λ j. more_entry_outcomes key (e j) (f j)

      pub more_fields_copied : FieldsCopied (key ∷ ks) (more_entry_outcomes key o os) MoreFields
      more_fields_copied = record { derivations = field_derivations; givings = field_givings }
