use Rattle.std.proofs.Common.{◌||◌, ◌∷◌, [], map, ap, refl, sym, ◌∙◌}
use Rattle.std.specs.Set.{is_member}
use Rattle.cedar_types.specs.contracts.base.errors.validation_errors.ValidationErrorPartialEq.TheImpl as error_impl
use Rattle.cedar_types.specs.contracts.base.errors.validation_warnings.ValidationWarningPartialEq.TheImpl as warning_impl
use Rattle.cedar_types.specs.Errors.{finding_of, warning_of}
use Rattle.cedar_types.specs.Templates.{template_of}
use Rattle.cedar_types.proofs.Expressions.SortedTables.{no_fault}
use Rattle.cedar_types.specs.Extensions.{functions_of}
use Rattle.cedar_types.specs.Schemas.Contents.{schema_of}
use Rattle.cedar_typing.specs.Views.Checks.{schema_by, extensions_by, basis_of}
use Rattle.cedar_typing.specs.PolicyCheck.Outcome.{Adds, all_errors, warnings_of}
use Rattle.cedar_typing.proofs.Basics.Gains.{union_adds, put_adds}
use Rattle.cedar_typing.proofs.Modes.{formed_for}
use Rattle.cedar_typing.proofs.Soundness.Policies.{promises_are_kept}
use Rattle.cedar_typing.proofs.Policies.Tallies.{error_decides, warning_decides, adds_same, warned, not_warned}
use Rattle.cedar_typing.proofs.typecheck.typechecker.Typechecker.typecheck_policy.Goals as goal
use Rattle.cedar_typing.proofs.typecheck.typechecker.Typechecker.typecheck_policy.Goals.{then-tally+in_ok-warning+in_ok-insert, else-tally}

pub returns-clause-exact : goal.returns-clause-exact
returns-clause-exact g c =
    let eq = error_impl.ghosts.eq in
    let old = c.args.type_errors.now.keys in
    let new = c.put_all.new.set.keys in
    let tally = c.in_ok-tally.tally in
    let found = c.in_ok-tally.ensures in
    let gained = union_adds eq finding_of error_decides old tally.errors.keys new
    (λ q. c.put_all.ensures q ∙ ap (λ b. b || is_member eq tally.errors.keys q) (c.in_ok-reserve.ensures.keys.2 q)) in
    let irrelevant = found.tallied.irrelevant in
    let warnings : Adds (map warning_of c.args.warnings.now.keys)
    (warnings_of (template_of c.args.t.now) found.verdicts)
    (map warning_of c.if-tally.warnings.keys) = elim c.if-tally.branch [
      | then-tally+in_ok-warning+in_ok-insert w ↦ rw w.warnings-is
          (warned (template_of c.args.t.now) found.verdicts (map warning_of c.args.warnings.now.keys)
          (map warning_of w.insert.new.self.keys) (warning_of w.in_ok-warning.warning)
          (sym irrelevant ∙ w.if-tally.true) w.in_ok-warning.ensures
          (union_adds warning_impl.ghosts.eq warning_of warning_decides c.args.warnings.now.keys
          (w.in_ok-warning.warning ∷ []) w.insert.new.self.keys
          (put_adds warning_impl.ghosts.eq warning_of warning_decides w.in_ok-warning.warning
          c.args.warnings.now.keys w.insert.new.self.keys (w.in_ok-insert.ensures.updates.0))))
      | else-tally w ↦ rw w.warnings-is
          (not_warned (template_of c.args.t.now) found.verdicts (map warning_of c.args.warnings.now.keys)
          _ (sym irrelevant ∙ w.if-tally.false) refl)
    ] in
    record {
      listed = found.listed;
      verdicts = found.verdicts;
      in_some_order = found.in_some_order;
      checked = found.checked;
      answered = found.tallied.passes;
      errors_added =
          adds_same (map finding_of old) (map finding_of tally.errors.keys) (all_errors found.verdicts)
          (map finding_of new) gained found.tallied.errors;
      warnings_added = warnings;
    }

pub returns-clause-safe : goal.returns-clause-safe
unfolding schema_of functions_of schema_by extensions_by
returns-clause-safe g c =
    let o = returns-clause-exact g c in
    let b = basis_of g.C.ArgumentCheck.refusal c.args.self.now in
    let table = no_fault g.C.ArgumentCheck.refusal c.args.self.now.extensions.now.functions.items
    c.args.self.now.extensions.now.faultless in
    let schema = c.args.self.now.schema.now in
    (promises_are_kept b (template_of c.args.t.now) schema.faultless (formed_for b.mode b.schema schema.formed) table
    _ _ _ _ _ o).safe

pub returns-clause-never_true : goal.returns-clause-never_true
unfolding schema_of functions_of schema_by extensions_by
returns-clause-never_true g c =
    let o = returns-clause-exact g c in
    let b = basis_of g.C.ArgumentCheck.refusal c.args.self.now in
    let table = no_fault g.C.ArgumentCheck.refusal c.args.self.now.extensions.now.functions.items
    c.args.self.now.extensions.now.faultless in
    let schema = c.args.self.now.schema.now in
    (promises_are_kept b (template_of c.args.t.now) schema.faultless (formed_for b.mode b.schema schema.formed) table
    _ _ _ _ _ o).never_true
