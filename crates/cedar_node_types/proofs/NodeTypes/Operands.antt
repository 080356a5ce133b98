-- Forms whose operands are all typed first: the nodes of the whole are its root and the nodes of its
-- operands.
use Rattle.std.proofs.Common.{Bool, false, List, [], ◌∷◌, Option, None}
use Rattle.cedar_types.specs.declared.base.location.Loc.{Loc}
use Rattle.cedar_types.specs.Errors.{Finding}
use Rattle.cedar_types.specs.Expressions.View.{trees_of}
use Rattle.cedar_types.specs.Names.{Text}
use Rattle.cedar_types.specs.Types.{Ty}
use Rattle.cedar_typing.specs.Capabilities.{Caps}
use Rattle.cedar_typing.specs.Eager.{Expectation, Form, first_expectation, later_expectations}
use Rattle.cedar_typing.specs.Evaluation.World.{World}
use Rattle.cedar_typing.specs.Judgments.{Judgment}
use Rattle.cedar_typing.specs.Rules.Eager.{Judgments, NoneDerived, none_derived, NoneGiven, none_given, no_operands, also_derived}
use Rattle.cedar_typing.specs.Rules.Eager.{also_given, one_more, eager_typed, operand_failed, table_refused, eager_rules, one_operand_rules}
use Rattle.cedar_typing.specs.Rules.Eager.{two_operand_rules}
use Rattle.cedar_typing.specs.Rules.Records.{fields_from}
use Rattle.cedar_typing.specs.TypeEnv.{TypeEnv}
use Rattle.cedar_typing.specs.TypedExpr.{TypedTree, Mark}
use Rattle.cedar_node_types.proofs.NodeTypes.Parts.{Roots, Fits, expected_fits}
use Rattle.cedar_node_types.proofs.NodeTypes.Reached.{RootFits, Fit, AllFit, FieldsFit, none_fit, more_fit, no_fields_fit, more_fields_fit}

module _ (Known : Caps → Type 0) (world : World) where
  -- ---- a whole, by its operands: one lemma for all forms

  module _ (f : Form) (Js : Judgments)
      (derived : (k : Mark) (xs : List TypedTree) → Js.derive xs → RootFits world (f.node k xs) → Fit world (f.node k xs))
      (given : (k : Mark) (b : Bool) (xs : List TypedTree) (es : List Finding) → Js.give b xs es
      → RootFits world (f.node k xs) → Fit world (f.node k xs))
      (whole : Roots Known world (eager_rules f Js)) where
    whole_derived : (t : Ty) (c : Caps) (x : TypedTree) → (eager_rules f Js).derives t c x → Fit world x
    whole_derived t c x (eager_typed {xs = xs} ds e) = derived _ xs ds (whole.derivations _ _ _ (eager_typed ds e)).fits

    whole_recovered : (x : TypedTree) (es : List Finding) → (eager_rules f Js).recovers x es → Fit world x
    whole_recovered x es (operand_failed {xs = xs} h e) = given _ _ xs es h (whole.recoveries _ _ (operand_failed h e))
    whole_recovered x es (table_refused {xs = xs} {es = before} h e) =
        given _ _ xs before h (whole.recoveries _ _ (table_refused h e))

    pub whole_fits : Fits world (eager_rules f Js)
    whole_fits = record { derivations = whole_derived; recoveries = whole_recovered }

  module _ (env : TypeEnv) where
    -- ---- one operand

    module _ (f : Form) (l : Option Loc) (J : Judgment)
        (at : (k : Mark) (y : TypedTree) → RootFits world (f.node k (y ∷ [])) → Fit world y → Fit world (f.node k (y ∷ [])))
        (i : Fits world J) where
      abbrev One : Judgments
      One = one_more env f.goes_on (first_expectation f.expects) l J no_operands

      one_derived : (k : Mark) (xs : List TypedTree) → One.derive xs → RootFits world (f.node k xs) → Fit world (f.node k xs)
      one_derived k xs (also_derived {t = t} {c = c} {x = y} d h none_derived) r = at k y r (i.derivations t c y d)

      one_given : (k : Mark) (b : Bool) (xs : List TypedTree) (es : List Finding) → One.give b xs es
          → RootFits world (f.node k xs) → Fit world (f.node k xs)
      one_given k b xs es (also_given {succeeded = h} {c = c} {x = y} {es = fs} p none_given) r =
          at k y r (expected_fits world J i env (first_expectation f.expects) l h c y fs p)

      pub one_fits : Roots Known world (one_operand_rules env f l J) → Fits world (one_operand_rules env f l J)
      one_fits = whole_fits f One one_derived one_given

    -- ---- two operands

    module _ (f : Form) (l l' : Option Loc) (J J' : Judgment)
        (at : (k : Mark) (y z : TypedTree) → RootFits world (f.node k (y ∷ z ∷ [])) → Fit world y → Fit world z
        → Fit world (f.node k (y ∷ z ∷ [])))
        (i : Fits world J) (i' : Fits world J') where
      abbrev later : List Expectation
      later = later_expectations f.expects

      abbrev Two : Judgments
      Two =
          one_more env f.goes_on (first_expectation f.expects) l J
          (one_more env f.goes_on (first_expectation (later_expectations f.expects)) l' J' no_operands)

      two_derived : (k : Mark) (xs : List TypedTree) → Two.derive xs → RootFits world (f.node k xs) → Fit world (f.node k xs)
      two_derived k xs
          (also_derived {t = t} {c = c} {x = y} d h (also_derived {t = t'} {c = c'} {x = z} d' h' none_derived)) r =
          at k y z r (i.derivations t c y d) (i'.derivations t' c' z d')

      two_given : (k : Mark) (b : Bool) (xs : List TypedTree) (es : List Finding) → Two.give b xs es
          → RootFits world (f.node k xs) → Fit world (f.node k xs)
      two_given k b xs es
          (also_given {succeeded = h} {c = c} {x = y} {es = fs} p
          (also_given {succeeded = h'} {c = c'} {x = z} {es = fs'} p' none_given)) r =
          at k y z r (expected_fits world J i env (first_expectation f.expects) l h c y fs p)
          (expected_fits world J' i' env (first_expectation later) l' h' c' z fs' p')

      pub two_fit : Roots Known world (two_operand_rules env f l l' J J') → Fits world (two_operand_rules env f l l' J J')
      two_fit = whole_fits f Two two_derived two_given

    -- ---- operands in a row

    pub record OperandsFit (Js : Judgments) : Type 0 where
      pub derivations : (xs : List TypedTree) → Js.derive xs → AllFit world (trees_of xs)
      pub givings : (b : Bool) (xs : List TypedTree) (es : List Finding) → Js.give b xs es → AllFit world (trees_of xs)

    no_derivations : (xs : List TypedTree) → NoneDerived xs → AllFit world (trees_of xs)
    no_derivations xs none_derived = none_fit world

    no_givings : (b : Bool) (xs : List TypedTree) (es : List Finding) → NoneGiven b xs es → AllFit world (trees_of xs)
    no_givings b xs es none_given = none_fit world

    pub no_operands_fit : OperandsFit no_operands
    no_operands_fit = record { derivations = no_derivations; givings = no_givings }

    module _ (goes_on : Bool) (q : Expectation) (l : Option Loc) (J : Judgment) (Js : Judgments) (i : Fits world J)
        (others : OperandsFit Js) where
      abbrev More : Judgments
      More = one_more env goes_on q l J Js

      more_derivations : (xs : List TypedTree) → More.derive xs → AllFit world (trees_of xs)
      more_derivations xs (also_derived {t = t} {c = c} {x = x} {xs = ys} d h ds) =
          more_fit world x _ (i.derivations t c x d) (others.derivations ys ds)

      more_givings : (b : Bool) (xs : List TypedTree) (es : List Finding) → More.give b xs es → AllFit world (trees_of xs)
      more_givings b xs es (also_given {succeeded = h} {later = h'} {c = c} {x = x} {xs = ys} {es = fs} {es' = fs'} p ds) =
          more_fit world x _ (expected_fits world J i env q l h c x fs p) (others.givings h' ys fs' ds)

      pub more_operands_fit : OperandsFit More
      more_operands_fit = record { derivations = more_derivations; givings = more_givings }

    -- a form of any number of operands
    pub row_fits : (f : Form) (Js : Judgments)
        → ((k : Mark) (xs : List TypedTree) → RootFits world (f.node k xs) → AllFit world (trees_of xs) → Fit world (f.node k xs))
        → OperandsFit Js → Roots Known world (eager_rules f Js) → Fits world (eager_rules f Js)
    row_fits f Js at i =
        whole_fits f Js (λ k xs ds r. at k xs r (i.derivations xs ds)) (λ k b xs es ds r. at k xs r (i.givings b xs es ds))

    -- ---- the values of fields

    pub record ValuesFit (ks : List Text) (Js : Judgments) : Type 0 where
      pub derivations : (xs : List TypedTree) → Js.derive xs → FieldsFit world (fields_from ks xs)
      pub givings : (b : Bool) (xs : List TypedTree) (es : List Finding) → Js.give b xs es → FieldsFit world (fields_from ks xs)

    no_value_derivations : (xs : List TypedTree) → NoneDerived xs → FieldsFit world (fields_from [] xs)
    no_value_derivations xs none_derived = no_fields_fit world

    no_value_givings : (b : Bool) (xs : List TypedTree) (es : List Finding) → NoneGiven b xs es → FieldsFit world (fields_from [] xs)
    no_value_givings b xs es none_given = no_fields_fit world

    pub no_values_fit : ValuesFit [] no_operands
    no_values_fit = record { derivations = no_value_derivations; givings = no_value_givings }

    module _ (l : Option Loc) (key : Text) (ks : List Text) (J : Judgment) (Js : Judgments) (i : Fits world J)
        (others : ValuesFit ks Js) where
      abbrev MoreValues : Judgments
      MoreValues = one_more env false None l J Js

      value_derivations : (xs : List TypedTree) → MoreValues.derive xs → FieldsFit world (fields_from (key ∷ ks) xs)
      value_derivations xs (also_derived {t = t} {c = c} {x = x} {xs = ys} d h ds) =
          more_fields_fit world key x _ (i.derivations t c x d) (others.derivations ys ds)

      value_givings : (b : Bool) (xs : List TypedTree) (es : List Finding) → MoreValues.give b xs es
          → FieldsFit world (fields_from (key ∷ ks) xs)
      value_givings b xs es (also_given {succeeded = h} {later = h'} {c = c} {x = x} {xs = ys} {es = fs} {es' = fs'} p ds) =
          more_fields_fit world key x _ (expected_fits world J i env None l h c x fs p) (others.givings h' ys fs' ds)

      pub more_values_fit : ValuesFit (key ∷ ks) MoreValues
      more_values_fit = record { derivations = value_derivations; givings = value_givings }
