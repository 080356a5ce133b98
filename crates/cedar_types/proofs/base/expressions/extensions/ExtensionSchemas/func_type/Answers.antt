use Rattle.std.proofs.Common.{◌≡◌, ◌+◌, ◌-◌, ◌/◌, sym, subst, ◌∙◌, length, None, Less, Equal, Greater, arith}
use Rattle.std.specs.List.{AllWithin}
use Rattle.cedar_types.specs.Names.{path_of, path_cmp}
use Rattle.cedar_types.specs.Extensions.{functions_of}
use Rattle.cedar_types.specs.Lemmas.Comparisons.{name_cmp_is}
use Rattle.cedar_types.proofs.Expressions.SortedTables.{apart_in_table, found, missed, upper_half, lower_half}
use Rattle.cedar_types.proofs.base.expressions.extensions.ExtensionSchemas.func_type.Goals as goal

pub loop-low-preserved-in-Less : goal.loop-low-preserved-in-Less
loop-low-preserved-in-Less g c =
    let f = c.index-function.result.now in
    let n = path_of c.args.name.now in
    let middle = c.loop-low.low + (c.loop-low.high - c.loop-low.low) / 2 in
    let below : path_cmp (path_of f.name) n ≡ Less = sym (name_cmp_is f.name c.args.name.now) ∙ sym c.cmp.ensures ∙ c.in-Less.is in (
      omega arith,
      c.loop-low.invariant.1,
      upper_half (λ check args. None) c.args.self.now.functions.items n c.args.self.now.ascending middle f (omega arith) c.index-function.ensures below,
      c.loop-low.invariant.3,
    )

pub loop-low-preserved : goal.loop-low-preserved
loop-low-preserved g c =
    let f = c.index-function.result.now in
    let n = path_of c.args.name.now in
    let middle = c.loop-low.low + (c.loop-low.high - c.loop-low.low) / 2 in
    let above : path_cmp (path_of f.name) n ≡ Greater = sym (name_cmp_is f.name c.args.name.now) ∙ sym c.cmp.ensures ∙ c.in-Greater.is in (
      omega arith,
      omega arith,
      c.loop-low.invariant.2,
      lower_half (λ check args. None) c.args.self.now.functions.items n c.args.self.now.ascending middle f (omega arith) c.index-function.ensures above,
    )

pub returns-in-Equal : goal.returns-in-Equal
unfolding functions_of
returns-in-Equal g c = λ meaning.
    let table = c.args.self.now in
    let f = c.index-function.result.now in
    let n = path_of c.args.name.now in
    let middle = c.loop-low.low + (c.loop-low.high - c.loop-low.low) / 2 in
    let here : path_cmp (path_of f.name) n ≡ Equal = sym (name_cmp_is f.name c.args.name.now) ∙ sym c.cmp.ensures ∙ c.in-Equal.is in
    sym (found meaning table.functions.items n (apart_in_table meaning table.functions.items table.faultless)
    middle f (omega arith) c.index-function.ensures here)

pub returns : goal.returns
unfolding functions_of
returns g c = λ meaning.
    let fs = c.args.self.now.functions.items in
    let n = path_of c.args.name.now in
    let met : c.loop-low.high ≡ c.loop-low.low = omega arith in
    sym (missed meaning fs n c.loop-low.low (
      c.loop-low.invariant.2,
      subst (λ high. AllWithin (λ f. path_cmp (path_of f.name) n ≡ Greater) fs high (length fs)) met c.loop-low.invariant.3,
    ))
