use Rattle.std.proofs.Common.{map, refl}
use Rattle.cedar_types.specs.Errors.{finding_of}
use Rattle.cedar_typing.specs.PolicyCheck.{irrelevant, fails}
use Rattle.cedar_typing.specs.PolicyCheck.Outcome.{all_pass, is_silent}
use Rattle.cedar_typing.specs.TypedExpr.{typed_tree}
use Rattle.cedar_typing.proofs.Basics.Gains.{union_adds}
use Rattle.cedar_typing.proofs.Policies.Tallies.{is_tied, tie_decides, one_more, silent, in_other_order}
use Rattle.cedar_typing.proofs.typecheck.policy.Tally.take_in.Goals as goal

pub returns-in-Success : goal.returns-in-Success
returns-in-Success c vs h = rw c.in-Success.is (record { passes = h.passes; irrelevant = refl; errors = h.errors })

pub returns-in-Irrelevant : goal.returns-in-Irrelevant
returns-in-Irrelevant c vs h =
    let old = c.args.self.now in
    let found = c.in-Irrelevant.errors.items in
    let v = irrelevant (map finding_of found) (typed_tree c.in-Irrelevant.field-1) in
    let gained = union_adds is_tied finding_of tie_decides old.errors.keys found c.insert_all.new.set.keys
    c.in_ok-insert_all-in-Irrelevant.ensures in
    rw c.in-Irrelevant.is (record {
      passes =
          in_other_order old.all_pass c.is_empty.result (all_pass vs) (is_silent (map finding_of found)) h.passes
          (silent found c.in-Irrelevant.errors.len c.is_empty.result
          c.in-Irrelevant.errors.ok.0 c.is_empty.ensures);
      irrelevant = h.irrelevant;
      errors = one_more v vs (map finding_of old.errors.keys) (map finding_of c.insert_all.new.set.keys) gained h.errors;
    })

pub returns : goal.returns
returns c vs h =
    let old = c.args.self.now in
    let found = c.in-Fail.errors.items in
    let v = fails (map finding_of found) in
    let gained = union_adds is_tied finding_of tie_decides old.errors.keys found c.insert_all-in-Fail.new.set.keys
    c.in_ok-insert_all-in-Fail.ensures in
    rw c.in-Fail.is (record {
      passes = refl;
      irrelevant = refl;
      errors = one_more v vs (map finding_of old.errors.keys) (map finding_of c.insert_all-in-Fail.new.set.keys) gained h.errors;
    })
