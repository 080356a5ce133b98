use Rattle.std.proofs.Common.{◌≡◌, ◌<◌, ◌+◌, ◌∙◌, length, map, drop, arith, sym, ap, subst, true, ◌&&◌, [], ◌∷◌, ◌++◌, option_map, append_assoc, append-nil, refl}
use Rattle.std.specs.Prelude.{IfOk}
use Rattle.std.specs.List.Sorted.{IsStrictlySortedBy}
use Rattle.std.specs.Map.{keys_of}
use Rattle.cedar_types.specs.declared.base.expressions.ExprKind.TheVariants as K
use Rattle.cedar_types.specs.Names.{path_of, text_of, type_of}
use Rattle.cedar_types.specs.Expressions.Tree.{and, or, has_attr, get_attr, ext_has_attr, unary, binary, like, is_type}
use Rattle.cedar_types.specs.Expressions.View.{shape, written, Written, of_type, fields_written, chain_of}
use Rattle.cedar_types.specs.Types.{ty_of}
use Rattle.cedar_types.proofs.Attributes.Entries.{Entry}
use Rattle.cedar_types.proofs.Attributes.Records.{key_cmp}
use Rattle.cedar_typing.specs.Capabilities.Priors.{known_in}
use Rattle.cedar_typing.specs.Infer.{infer_within, infer, infer_fields}
use Rattle.cedar_typing.specs.Infer.Parts.{AnswerAndErrors, expect}
use Rattle.cedar_typing.specs.TypedExpr.{Source, place_of, typed_tree}
use Rattle.cedar_typing.specs.Views.Calls.{IsCallOf}
use Rattle.cedar_typing.specs.Views.Settings.{setting_at}
use Rattle.cedar_typing.specs.Views.{expected_types, answer_of, findings, operands_of, at, part_of, form_of_one, form_of_two, mark_of_one, keys_in, trees_in}
use Rattle.cedar_typing.specs.Eager.{Form}
use Rattle.cedar_typing.specs.Infer.Eager.{infer_form, infer_of_one, infer_two_operands}
use Rattle.cedar_typing.specs.Rules.Attributes.{get_form}
use Rattle.cedar_typing.specs.Rules.Calls.{expected_arguments}
use Rattle.cedar_typing.specs.Rules.Records.{field_keys, record_form}
use Rattle.cedar_typing.proofs.Rules.Calls.{written_call, written_set, call_inferred}
use Rattle.cedar_typing.proofs.Agreement.Induction.{below_limit, infer_as}
use Rattle.cedar_typing.proofs.Rules.Sets.{next_item}
use Rattle.cedar_typing.proofs.Rules.OperandLists.{operand_found, one_operand, last_operand, goes_further, goes_no_further}
use Rattle.cedar_typing.proofs.Views.Typed.{written_as, shape_as, place_is}
use Rattle.cedar_typing.proofs.Rules.Records.{goes_last, key_is_last, keys_with_last, keys_written, trees_append}
use Rattle.cedar_typing.proofs.Rules.FieldsInOrder.{finish, starts, goes_on, by_keys_typed}
use Rattle.cedar_typing.proofs.Views.Fields.{written_record}
use Rattle.cedar_typing.proofs.Rules.OneOperand.{one_found}
use Rattle.cedar_typing.proofs.Rules.TwoOperands.{is_limit, stops, typed_on, two_stopped, two_typed}
use Rattle.cedar_typing.proofs.typecheck.single_env.SingleEnvTypechecker.+typing.Goals as goal

pub type_part-returns : goal.type_part-returns
type_part-returns g t c =
    (λ i. expect (setting_at g.C.ArgumentCheck.refusal c.args.self.now).env (expected_types c.args.expected) (place_is c.args.e.now i) (c.in_ok-answer.ensures i))
    ∙ c.in_ok-part.ensures

pub type_one_operand-returns : goal.type_one_operand-returns
type_one_operand-returns g t c =
    let s = setting_at g.C.ArgumentCheck.refusal c.args.self.now in
    let prior = known_in c.args.prior.now in
    let m = mark_of_one c.args.loc c.args.form in
    let e = written c.args.operand.now in
    let p = option_map part_of c.in_ok-part.part in
    let es' = findings c.type_base.new.errors.items in
    let F : Source → Form = λ x. form_of_one s.env m prior x c.args.form in
    one_found s.env (F e) (place_of e) (infer s e prior (c.args.depth + 1)) (expected_types c.expected-expected.result)
    (c.expected-expected.ensures s.env m prior e) p (findings c.args.errors.now.items) es' c.in_ok-part.ensures.typed
    ∙ (λ i. infer_of_one (F (written (sym c.in_ok-part.ensures.base i))) p es')
    ∙ c.in_ok-answer.ensures.typed

pub type_base-returns-in_ok-part-in-GetAttr-2-clause-typed : goal.type_base-returns-in_ok-part-in-GetAttr-2-clause-typed
type_base-returns-in_ok-part-in-GetAttr-2-clause-typed g t c =
    let s = setting_at g.C.ArgumentCheck.refusal c.args.self.now in
    let prior = known_in c.args.prior.now in
    let m = at c.args.e.now.loc in
    let x = text_of c.in-GetAttr.attr in
    let e = written c.deref.result.now in
    let p = option_map part_of c.in_ok-part-in-GetAttr.part in
    let es = findings c.args.errors.now.items in
    let es' = findings c.type_base.new.errors.items in
    let F : Source → Form = λ y. get_form s.env m prior y x in
    let tree : written c.args.e.now ≡ get_attr m e x =
    written_as c.args.e.now (K.GetAttr c.in-GetAttr.owner c.in-GetAttr.attr) c.in-GetAttr.is
    ∙ (λ i. get_attr m (written (sym c.deref.ensures i)) x) in
    let found : infer_of_one (F e) p es' ≡ (answer_of c.in_ok-answer-in-GetAttr.answer, findings c.one_answer.new.errors.items) =
    (λ i. infer_of_one (F (written (sym c.in_ok-part-in-GetAttr.ensures.base i))) p es')
    ∙ c.in_ok-answer-in-GetAttr.ensures.typed in
    let P : AnswerAndErrors → Type 0 = λ z. z ≡ (answer_of c.in_ok-answer-in-GetAttr.answer, findings c.one_answer.new.errors.items) in
    let answered = infer_as P s prior c.args.depth es c.if-depth-le-MAX_TYPED_DEPTH.true tree
    (one_found s.env (F e) (place_of e) (infer s e prior (c.args.depth + 1)) (expected_types c.expected-asked.result)
    (c.expected-asked.ensures s.env m prior e) p es es' c.in_ok-part-in-GetAttr.ensures.typed ∙ found) in
    (λ i. expect s.env (expected_types c.args.expected) (place_is c.args.e.now i) (answered i)) ∙ c.in_ok-part-in-GetAttr-2.ensures

pub type_base-access-requires : goal.type_base-access-requires
type_base-access-requires g t c =
    shape_as c.args.e.now (K.GetAttr c.in-GetAttr.owner c.in-GetAttr.attr) c.in-GetAttr.is
    ∙ (λ i. get_attr tt (shape (sym c.deref.ensures i)) (text_of c.in-GetAttr.attr))
    ∙ (λ i. get_attr tt (shape (sym c.in_ok-part-in-GetAttr.ensures.base i)) (text_of c.in-GetAttr.attr))
    ∙ (λ i. get_attr tt (shape (sym c.in_ok-answer-in-GetAttr.ensures.kept i)) (text_of c.in-GetAttr.attr))

pub typecheck-returns-in-And : goal.typecheck-returns-in-And
typecheck-returns-in-And g t c =
    let tree : written c.args.e.now ≡ and (at c.args.e.now.loc) (written c.deref.result.now) (written c.deref-in-And.result.now) =
    written_as c.args.e.now (K.And c.in-And.left c.in-And.right) c.in-And.is ∙ (λ i. and (at c.args.e.now.loc) (written (sym c.deref.ensures i)) (written (sym c.deref-in-And.ensures i))) in
    let P : AnswerAndErrors → Type 0 = λ z. IfOk c.type_short_circuit.result (λ r. z ≡ (answer_of r, findings c.type_short_circuit.new.errors.items)) in
    infer_as P _ _ _ _ c.if-depth-gt-MAX_TYPED_DEPTH.false tree c.type_short_circuit.ensures

pub typecheck-returns-in-Or : goal.typecheck-returns-in-Or
typecheck-returns-in-Or g t c =
    let tree : written c.args.e.now ≡ or (at c.args.e.now.loc) (written c.deref-in-Or.result.now) (written c.deref-in-Or-2.result.now) =
    written_as c.args.e.now (K.Or c.in-Or.left c.in-Or.right) c.in-Or.is ∙ (λ i. or (at c.args.e.now.loc) (written (sym c.deref-in-Or.ensures i)) (written (sym c.deref-in-Or-2.ensures i))) in
    let P : AnswerAndErrors → Type 0 = λ z. IfOk c.type_short_circuit-in-Or.result (λ r. z ≡ (answer_of r, findings c.type_short_circuit-in-Or.new.errors.items)) in
    infer_as P _ _ _ _ c.if-depth-gt-MAX_TYPED_DEPTH.false tree c.type_short_circuit-in-Or.ensures

pub typecheck-returns-in-HasAttr : goal.typecheck-returns-in-HasAttr
typecheck-returns-in-HasAttr g t c =
    let tree : written c.args.e.now ≡ has_attr (at c.args.e.now.loc) (written c.deref-in-HasAttr.result.now) (text_of c.in-HasAttr.attr) =
    written_as c.args.e.now (K.HasAttr c.in-HasAttr.base c.in-HasAttr.attr) c.in-HasAttr.is ∙ (λ i. has_attr (at c.args.e.now.loc) (written (sym c.deref-in-HasAttr.ensures i)) (text_of c.in-HasAttr.attr)) in
    let P : AnswerAndErrors → Type 0 = λ z. IfOk c.type_one_operand-in-HasAttr.result (λ r. z ≡ (answer_of r, findings c.type_one_operand-in-HasAttr.new.errors.items)) in
    infer_as P _ _ _ _ c.if-depth-gt-MAX_TYPED_DEPTH.false tree c.type_one_operand-in-HasAttr.ensures

pub typecheck-returns-in-GetAttr : goal.typecheck-returns-in-GetAttr
typecheck-returns-in-GetAttr g t c =
    let tree : written c.args.e.now ≡ get_attr (at c.args.e.now.loc) (written c.deref-in-GetAttr.result.now) (text_of c.in-GetAttr.attr) =
    written_as c.args.e.now (K.GetAttr c.in-GetAttr.base c.in-GetAttr.attr) c.in-GetAttr.is ∙ (λ i. get_attr (at c.args.e.now.loc) (written (sym c.deref-in-GetAttr.ensures i)) (text_of c.in-GetAttr.attr)) in
    let P : AnswerAndErrors → Type 0 = λ z. IfOk c.type_one_operand-in-GetAttr.result (λ r. z ≡ (answer_of r, findings c.type_one_operand-in-GetAttr.new.errors.items)) in
    infer_as P _ _ _ _ c.if-depth-gt-MAX_TYPED_DEPTH.false tree c.type_one_operand-in-GetAttr.ensures

pub typecheck-returns-in-UnaryApp : goal.typecheck-returns-in-UnaryApp
typecheck-returns-in-UnaryApp g t c =
    let tree : written c.args.e.now ≡ unary (at c.args.e.now.loc) c.in-UnaryApp.op (written c.deref-in-UnaryApp.result.now) =
    written_as c.args.e.now (K.UnaryApp c.in-UnaryApp.op c.in-UnaryApp.operand) c.in-UnaryApp.is ∙ (λ i. unary (at c.args.e.now.loc) c.in-UnaryApp.op (written (sym c.deref-in-UnaryApp.ensures i))) in
    let P : AnswerAndErrors → Type 0 = λ z. IfOk c.type_one_operand.result (λ r. z ≡ (answer_of r, findings c.type_one_operand.new.errors.items)) in
    infer_as P _ _ _ _ c.if-depth-gt-MAX_TYPED_DEPTH.false tree c.type_one_operand.ensures

pub typecheck-returns-in-Like : goal.typecheck-returns-in-Like
typecheck-returns-in-Like g t c =
    let tree : written c.args.e.now ≡ like (at c.args.e.now.loc) (written c.deref-in-Like.result.now) c.in-Like.pattern.items =
    written_as c.args.e.now (K.Like c.in-Like.operand c.in-Like.pattern) c.in-Like.is ∙ (λ i. like (at c.args.e.now.loc) (written (sym c.deref-in-Like.ensures i)) c.in-Like.pattern.items) in
    let P : AnswerAndErrors → Type 0 = λ z. IfOk c.type_one_operand-in-Like.result (λ r. z ≡ (answer_of r, findings c.type_one_operand-in-Like.new.errors.items)) in
    infer_as P _ _ _ _ c.if-depth-gt-MAX_TYPED_DEPTH.false tree c.type_one_operand-in-Like.ensures

pub typecheck-returns-in-Is : goal.typecheck-returns-in-Is
typecheck-returns-in-Is g t c =
    let m : Written = record { place = c.args.e.now.loc; names = of_type c.in-Is.named.loc } in
    let tree : written c.args.e.now ≡ is_type m (written c.deref-in-Is.result.now) (type_of c.in-Is.named) =
    written_as c.args.e.now (K.Is c.in-Is.operand c.in-Is.named) c.in-Is.is ∙ (λ i. is_type m (written (sym c.deref-in-Is.ensures i)) (type_of c.in-Is.named)) in
    let P : AnswerAndErrors → Type 0 = λ z. IfOk c.type_one_operand-in-Is.result (λ r. z ≡ (answer_of r, findings c.type_one_operand-in-Is.new.errors.items)) in
    infer_as P _ _ _ _ c.if-depth-gt-MAX_TYPED_DEPTH.false tree c.type_one_operand-in-Is.ensures

pub typecheck-returns-in-BinaryApp : goal.typecheck-returns-in-BinaryApp
typecheck-returns-in-BinaryApp g t c =
    let s = setting_at g.C.ArgumentCheck.refusal c.args.self.now in
    let prior = known_in c.args.prior.now in
    let d = c.args.depth in
    let es = findings c.args.errors.now.items in
    let m = at c.args.e.now.loc in
    let o = c.in-BinaryApp.op in
    let a = written c.deref-in-BinaryApp.result.now in
    let b = written c.deref-in-BinaryApp-2.result.now in
    let tree : written c.args.e.now ≡ binary m o a b =
    written_as c.args.e.now (K.BinaryApp o c.in-BinaryApp.left c.in-BinaryApp.right) c.in-BinaryApp.is
    ∙ (λ i. binary m o (written (sym c.deref-in-BinaryApp.ensures i)) (written (sym c.deref-in-BinaryApp-2.ensures i))) in
    let P : AnswerAndErrors → Type 0 = λ z. IfOk c.type_two_operands.result (λ r. z ≡ (answer_of r, findings c.type_two_operands.new.errors.items)) in
    let Q : Source → Type 0 = λ e. P (infer_within s e prior d es) in
    let R : Form → Type 0 = λ f. P (infer_two_operands s.env f (place_of a) (place_of b) (infer s a prior (d + 1)) (infer s b prior (d + 1)) es) in
    subst P (sym (below_limit d es _ c.if-depth-gt-MAX_TYPED_DEPTH.false)) (subst Q (sym tree) (subst R (c.of-form.ensures s.env m prior a b) c.type_two_operands.ensures))

pub typecheck-returns-in-ExtHasAttr : goal.typecheck-returns-in-ExtHasAttr
typecheck-returns-in-ExtHasAttr g t c =
    let chain = c.in-ExtHasAttr.chain in
    let tree : written c.args.e.now ≡ ext_has_attr (at c.args.e.now.loc) (written c.deref-in-ExtHasAttr.result.now) (chain_of chain).0 (chain_of chain).1 =
    written_as c.args.e.now (K.ExtHasAttr c.in-ExtHasAttr.base chain) c.in-ExtHasAttr.is ∙ (λ i. ext_has_attr (at c.args.e.now.loc) (written (sym c.deref-in-ExtHasAttr.ensures i)) (chain_of chain).0 (chain_of chain).1) in
    let P : AnswerAndErrors → Type 0 = λ z. IfOk c.type_one_operand-in-ExtHasAttr.result (λ r. z ≡ (answer_of r, findings c.type_one_operand-in-ExtHasAttr.new.errors.items)) in
    infer_as P _ _ _ _ c.if-depth-gt-MAX_TYPED_DEPTH.false tree c.type_one_operand-in-ExtHasAttr.ensures

pub type_two_operands-returns-then-is_none-goes_on : goal.type_two_operands-returns-then-is_none-goes_on
type_two_operands-returns-then-is_none-goes_on g t c =
    let s = setting_at g.C.ArgumentCheck.refusal c.args.self.now in
    let prior = known_in c.args.prior.now in
    let d = c.args.depth in
    let m = at c.args.loc in
    let a = written c.args.operands.left.now in
    let b = written c.args.operands.right.now in
    let f = form_of_two s.env m prior a b c.args.form in
    let es = findings c.args.errors.now.items in
    let es' = findings c.operand.new.errors.items in
    let q = option_map expected_types c.expected_left.result in
    two_stopped s.env f (place_of a) (place_of b) (infer s a prior (d + 1)) (infer s b prior (d + 1)) q _ (c.expected_left.ensures s.env m prior a b) refl _ es es'
    (stops c.is_none.result c.goes_on.result f.goes_on c.in_ok-one-2.one c.is_none.ensures (c.goes_on.ensures s.env m prior a b) c.if-is_none-goes_on.true)
    (operand_found s.env c.args.operands.left.now refl c.in_ok-one.ensures c.in_ok-one-2.ensures)
    ∙ is_limit s.env m prior a b c.args.form [] es'

pub type_two_operands-returns : goal.type_two_operands-returns
type_two_operands-returns g t c =
    let s = setting_at g.C.ArgumentCheck.refusal c.args.self.now in
    let prior = known_in c.args.prior.now in
    let d = c.args.depth in
    let m = at c.args.loc in
    let a = written c.args.operands.left.now in
    let b = written c.args.operands.right.now in
    let f = form_of_two s.env m prior a b c.args.form in
    let es = findings c.args.errors.now.items in
    let es' = findings c.operand.new.errors.items in
    let q = option_map expected_types c.expected_left.result in
    let q' = option_map expected_types c.expected_right.result in
    two_typed s.env f (place_of a) (place_of b) (infer s a prior (d + 1)) (infer s b prior (d + 1)) q q' (c.expected_left.ensures s.env m prior a b) (c.expected_right.ensures s.env m prior a b) _ _ es es' (findings c.operand-2.new.errors.items)
    (typed_on c.is_none.result c.goes_on.result f.goes_on c.in_ok-one-2.one c.is_none.ensures (c.goes_on.ensures s.env m prior a b) c.if-is_none-goes_on.false)
    (operand_found s.env c.args.operands.left.now refl c.in_ok-one.ensures c.in_ok-one-2.ensures)
    (operand_found s.env c.args.operands.right.now refl c.in_ok-other.ensures c.in_ok-other-2.ensures)
    ∙ c.in_ok-answer.ensures

pub type_operands-loop-operand-preserved : goal.type_operands-loop-operand-preserved
type_operands-loop-operand-preserved g t c =
    let l = c.loop-operand in
    let items = c.deref-operand-items.result.now in
    let i = l.operand-index in
    let here : i < length items = omega arith in
    one_operand (setting_at g.C.ArgumentCheck.refusal c.args.self.now) c.args.goes_on (map ty_of l.left.now) _ (known_in c.args.prior.now)
    (c.args.depth + 1) (operands_of l.all) _ c.operand-item.result (drop (i + 1) items) (drop i items) (findings l.errors.items) _ _
    (next_item items i c.operand-item.result here c.operand-item.is) c.first_of-expected.ensures c.in_ok-answer.ensures c.in_ok-part.ensures
    (goes_further c.is_none.result c.args.goes_on c.in_ok-part.part c.is_none.ensures c.if-is_none-goes_on.false)
    c.in_ok-all.ensures c.later_types-left.ensures
    ∙ l.invariant

pub type_operands-returns-then-is_none-goes_on : goal.type_operands-returns-then-is_none-goes_on
type_operands-returns-then-is_none-goes_on g t c =
    let l = c.loop-operand in
    let items = c.deref-operand-items.result.now in
    let i = l.operand-index in
    let here : i < length items = omega arith in
    sym l.invariant
    ∙ last_operand (setting_at g.C.ArgumentCheck.refusal c.args.self.now) c.args.goes_on (map ty_of l.left.now) (known_in c.args.prior.now)
    (c.args.depth + 1) (operands_of l.all) _ c.operand-item.result (drop (i + 1) items) (drop i items) (findings l.errors.items) _ _
    (next_item items i c.operand-item.result here c.operand-item.is) c.first_of-expected.ensures c.in_ok-answer.ensures c.in_ok-part.ensures
    (goes_no_further c.is_none.result c.args.goes_on c.in_ok-part.part c.is_none.ensures c.if-is_none-goes_on.true) c.in_ok-cut.ensures

pub typecheck-returns-in-ExtensionFunctionApp : goal.typecheck-returns-in-ExtensionFunctionApp
typecheck-returns-in-ExtensionFunctionApp g t c =
    let tree = written_call c.args.e.now c.in-ExtensionFunctionApp.name c.in-ExtensionFunctionApp.arguments c.in-ExtensionFunctionApp.is in
    let P : AnswerAndErrors → Type 0 = λ z. IfOk c.type_call.result (λ r. z ≡ (answer_of r, findings c.type_call.new.errors.items)) in
    infer_as P _ _ _ _ c.if-depth-gt-MAX_TYPED_DEPTH.false tree c.type_call.ensures

pub type_call-returns : goal.type_call-returns
type_call-returns g t c =
    let s = setting_at g.C.ArgumentCheck.refusal c.args.self.now in
    let xs = map written c.args.arguments.now.items in
    let call = c.in_ok-call.call in
    let known = subst (λ ys. IsCallOf s c.args.loc (path_of c.args.name.now) (map written ys) call) c.deref.ensures.value c.in_ok-call.ensures in
    call_inferred s (at c.args.loc) (path_of c.args.name.now) xs (known_in c.args.prior.now) c.args.depth (findings c.args.errors.now.items) _ call _ known c.in_ok-typed.ensures
    ∙ c.in_ok-answer.ensures (expected_arguments (map ty_of call.argument_types.now) xs)

pub typecheck-returns-in-Set : goal.typecheck-returns-in-Set
typecheck-returns-in-Set g t c =
    let tree = written_set c.args.e.now c.in-Set.elements c.in-Set.is in
    let P : AnswerAndErrors → Type 0 = λ z. IfOk c.type_set.result (λ r. z ≡ (answer_of r, findings c.type_set.new.errors.items)) in
    infer_as P _ _ _ _ c.if-depth-gt-MAX_TYPED_DEPTH.false tree c.type_set.ensures

pub typecheck-returns-in-Record : goal.typecheck-returns-in-Record
typecheck-returns-in-Record g t c =
    let tree = written_record c.args.e.now c.in-Record.fields c.in-Record.is in
    let P : AnswerAndErrors → Type 0 = λ z. IfOk c.type_record.result (λ r. z ≡ (answer_of r, findings c.type_record.new.errors.items)) in
    infer_as P _ _ _ _ c.if-depth-gt-MAX_TYPED_DEPTH.false tree c.type_record.ensures

pub type_record-returns : goal.type_record-returns
type_record-returns g t c =
    let m = at c.args.loc in
    let env = (setting_at g.C.ArgumentCheck.refusal c.args.self.now).env in
    let ks = field_keys (fields_written c.args.fields.now.entries) in
    let values = c.in_ok-values.values in
    let es = findings c.type_fields.new.errors.items in
    ap (λ o. infer_form (record_form env m ks) o.0 o.1) c.in_ok-values.ensures.typed
    ∙ by_keys_typed env m ks values es c.in_ok-values.ensures.keys
    ∙ c.in_ok-answer.ensures es

pub type_fields-loop-key-preserved : goal.type_fields-loop-key-preserved
type_fields-loop-key-preserved g t c =
    let l = c.loop-key in
    let s = setting_at g.C.ArgumentCheck.refusal c.args.self.now in
    let prior = known_in c.args.prior.now in
    let d = c.args.depth + 1 in
    let done = l.invariant.0 in
    let e : Entry = (c.in-Some.key.now, c.in-Some.value.now) in
    let left = c.next.new.self in
    let key = c.in_ok-clone.field-0 in
    let all : c.args.fields.now.entries ≡ done ++ e ∷ left = l.invariant.1 ∙ ap (λ es. done ++ es) c.in-Some.ensures.steps in
    let named : text_of key ≡ text_of e.0 = c.in_ok-clone.ensures.cases in
    let above = key_is_last l.typed.entries done e left key l.invariant.2 named (subst (λ es. IsStrictlySortedBy key_cmp (keys_of es)) all c.iter-key-items.ensures.ordered) in
    let p = c.in-Some-into_part.part in
    let x = c.into_inner.result in
    let inner : trees_in ((key, x) ∷ []) ≡ (part_of p).tree ∷ [] = ap (λ y. typed_tree y ∷ []) c.into_inner.ensures in
    let es = findings l.errors.items in
    let es' = findings c.typecheck.new.errors.items in
    let entries = c.in_ok-insert.ensures.entries ∙ goes_last l.typed.entries key _ above in (
      done ++ e ∷ [],
      all ∙ sym (append_assoc done (e ∷ []) left),
      ap keys_in entries ∙ keys_with_last l.typed.entries done e key _ l.invariant.2 named,
      ap (λ zs. finish (p.succeeded && l.succeeded) zs (infer_fields s (fields_written left) prior d es'))
          (ap trees_in entries ∙ trees_append l.typed.entries ((key, x) ∷ []) ∙ ap (λ ts. trees_in l.typed.entries ++ ts) inner)
          ∙ sym (goes_on s prior d (text_of e.0) (written e.1) (fields_written left) l.succeeded (trees_in l.typed.entries)
          es es' _ (part_of p) c.in_ok-answer.ensures (sym c.into_part.ensures.seen ∙ ap (option_map part_of) c.in-Some-into_part.is))
          ∙ ap (λ rest. finish l.succeeded (trees_in l.typed.entries) (infer_fields s (fields_written rest) prior d es)) (sym c.in-Some.ensures.steps)
          ∙ l.invariant.3,
    )

pub type_fields-loop-key-init : goal.type_fields-loop-key-init
type_fields-loop-key-init g t c =
    let s = setting_at g.C.ArgumentCheck.refusal c.args.self.now in
    let prior = known_in c.args.prior.now in
    let d = c.args.depth + 1 in
    let es = findings c.args.errors.now.items in
    let given = c.into_iter-key-iterator.ensures.into_iter_gives ∙ c.iter-key-items.ensures.rest in (
      [],
      sym given,
      ap keys_in c.new-typed.ensures.empty,
      ap (λ typed. finish true (trees_in typed) (infer_fields s (fields_written c.into_iter-key-iterator.result) prior d es)) c.new-typed.ensures.empty
          ∙ starts _
          ∙ ap (λ fields. infer_fields s (fields_written fields) prior d es) given,
    )

pub type_fields-returns-clause-keys : goal.type_fields-returns-clause-keys
type_fields-returns-clause-keys g t c not_cut =
    let l = c.loop-key in
    let all : c.args.fields.now.entries ≡ l.invariant.0 = l.invariant.1 ∙ ap (λ es. l.invariant.0 ++ es) c.in-None.ensures.steps.0 ∙ append-nil l.invariant.0 in
    l.invariant.2 ∙ ap keys_in (sym all) ∙ sym (keys_written c.args.fields.now.entries)
