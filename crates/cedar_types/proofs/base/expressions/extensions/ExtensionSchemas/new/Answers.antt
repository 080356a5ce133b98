use Rattle.std.proofs.Common.{◌≡◌, sym, ap, ◌∙◌, refl, subst, map, length, None, is_some, is_lt, true, false, not, rules}
use Rattle.std.specs.List.{list_any, AllAdjacentBelow}
use Rattle.std.specs.List.Sorted.{IsSortedBy}
use Rattle.std.proofs.lemmas.List.Sorted.{answers_always, ranks_by, IsPermutation-map}
use Rattle.cedar_types.specs.Names.{path_of, path_cmp, path_eq}
use Rattle.cedar_types.specs.Names.Comparisons.{name_cmp}
use Rattle.cedar_types.specs.Extensions.{functions_of}
use Rattle.cedar_types.specs.Extensions.Functions.{function_of, has_bad_return, lacks_arguments, has_two_alike}
use Rattle.cedar_types.specs.Extensions.Functions.{table_fault}
use Rattle.cedar_types.specs.Lemmas.Comparisons.{name_cmp_is}
use Rattle.cedar_types.proofs.Names.Unions.{path_total}
use Rattle.cedar_types.proofs.Expressions.ExtensionTables.{two_alike_moved, fault_moved, named_moved}
use Rattle.cedar_types.proofs.Expressions.SortedTables.{fault_of, neighbours_apart, neighbours_alike}
use Rattle.cedar_types.proofs.base.expressions.extensions.ExtensionSchemas.new.Given.{Over}
use Rattle.cedar_types.proofs.base.expressions.extensions.ExtensionSchemas.new.Goals.{Else-not-neighbours_differ}
use Rattle.cedar_types.proofs.base.expressions.extensions.ExtensionSchemas.new.Goals as goal

pub returns-then-has_bad_return-clause-refused : goal.returns-then-has_bad_return-clause-refused
returns-then-has_bad_return-clause-refused g c = λ meaning.
    let fs = map (function_of meaning) c.args.functions.items in
    fault_of fs true (list_any lacks_arguments fs) (has_two_alike fs)
    (sym (c.has_bad_return.ensures meaning ∙ ap (λ xs. list_any has_bad_return (map (function_of meaning) xs))
    c.deref.ensures.value) ∙ c.if-has_bad_return.true)
    refl
    refl

pub returns-then-has_variadic_without_arguments-clause-refused :
    goal.returns-then-has_variadic_without_arguments-clause-refused
returns-then-has_variadic_without_arguments-clause-refused g c = λ meaning.
    let fs = map (function_of meaning) c.args.functions.items in
    fault_of fs false true (has_two_alike fs)
    (sym (c.has_bad_return.ensures meaning ∙ ap (λ xs. list_any has_bad_return (map (function_of meaning) xs))
    c.deref.ensures.value) ∙ c.if-has_bad_return.false)
    (sym (c.has_variadic_without_arguments.ensures meaning
    ∙ ap (λ xs. list_any lacks_arguments (map (function_of meaning) xs)) c.deref-2.ensures.value)
    ∙ c.if-has_variadic_without_arguments.true)
    refl

pub returns-then-not-neighbours_differ-clause-refused :
    goal.returns-then-not-neighbours_differ-clause-refused
returns-then-not-neighbours_differ-clause-refused g c = λ meaning.
    let old = c.args.functions.items in
    let new = c.sort_unstable_by.new.self.items in
    let pair = c.if-not-neighbours_differ.ensures in
    fault_of (map (function_of meaning) old) false false true
    (sym (c.has_bad_return.ensures meaning ∙ ap (λ xs. list_any has_bad_return (map (function_of meaning) xs))
    c.deref.ensures.value) ∙ c.if-has_bad_return.false)
    (sym (c.has_variadic_without_arguments.ensures meaning
    ∙ ap (λ xs. list_any lacks_arguments (map (function_of meaning) xs)) c.deref-2.ensures.value)
    ∙ c.if-has_variadic_without_arguments.false)
    (two_alike_moved _ _ (IsPermutation-map (function_of meaning) old new c.sort_unstable_by.ensures.permutation)
    ∙ ap (λ xs. has_two_alike (map (function_of meaning) xs)) (sym c.deref-3.ensures.value)
    ∙ neighbours_alike meaning c.deref-3.result.now pair.0 pair.1 pair.2)

-- The sorted functions ascend by name
rising : (g : Over) (c : Else-not-neighbours_differ g)
    → IsSortedBy (λ f h. is_lt (path_cmp (path_of f.name) (path_of h.name))) c.sort_unstable_by.new.self.items
rising g c =
    c.sort_unstable_by.ensures.sorted (λ f h. is_lt (path_cmp (path_of f.name) (path_of h.name)))
    (ranks_by path_total (λ f. path_of f.name))
    (answers_always _ _ _ (λ f a r h called. let is : r ≡ name_cmp a.0.now.name a.1.0.now.name = search rules in
    ap is_lt (is ∙ name_cmp_is a.0.now.name a.1.0.now.name)))

-- No two functions have one name, if neighbours differ
none_alike : (g : Over) (c : Else-not-neighbours_differ g) (meaning : _)
    → has_two_alike (map (function_of meaning) c.sort_unstable_by.new.self.items) ≡ false
none_alike g c meaning =
    neighbours_apart meaning c.sort_unstable_by.new.self.items (rising g c)
    (subst (λ xs. AllAdjacentBelow (λ f h. not (path_eq (path_of f.name) (path_of h.name)) ≡ true) xs (length xs))
    c.deref-3.ensures.value c.if-not-neighbours_differ.ensures)

-- The functions that the caller passed have no fault
no_fault : (g : Over) (c : Else-not-neighbours_differ g) (meaning : _)
    → table_fault (map (function_of meaning) c.args.functions.items) ≡ None
no_fault g c meaning =
    fault_of (map (function_of meaning) c.args.functions.items) false false false
    (sym (c.has_bad_return.ensures meaning ∙ ap (λ xs. list_any has_bad_return (map (function_of meaning) xs))
    c.deref.ensures.value) ∙ c.if-has_bad_return.false)
    (sym (c.has_variadic_without_arguments.ensures meaning
    ∙ ap (λ xs. list_any lacks_arguments (map (function_of meaning) xs)) c.deref-2.ensures.value)
    ∙ c.if-has_variadic_without_arguments.false)
    (two_alike_moved _ _ (IsPermutation-map (function_of meaning) c.args.functions.items c.sort_unstable_by.new.self.items
    c.sort_unstable_by.ensures.permutation)
    ∙ none_alike g c meaning)

pub invariant_of-result : goal.invariant_of-result
invariant_of-result g c =
    let at = (goal.at.invariant_of-result g c).Else-not-neighbours_differ in
    let moved = IsPermutation-map (function_of (λ check args. None)) c.args.functions.items c.sort_unstable_by.new.self.items
    c.sort_unstable_by.ensures.permutation in
    record {
      ascending = rising g at;
      faultless = ap is_some (sym (fault_moved _ _ moved) ∙ no_fault g at (λ check args. None));
    }

pub returns-clause-faultless : goal.returns-clause-faultless
returns-clause-faultless g c = λ meaning.
    no_fault g (goal.at.returns-clause-faultless g c).Else-not-neighbours_differ meaning

pub returns-clause-functions : goal.returns-clause-functions
unfolding functions_of
returns-clause-functions g c = λ meaning n.
    named_moved _ _ (IsPermutation-map (function_of meaning) c.args.functions.items c.sort_unstable_by.new.self.items
    c.sort_unstable_by.ensures.permutation)
    (none_alike g (goal.at.returns-clause-functions g c).Else-not-neighbours_differ meaning) n
