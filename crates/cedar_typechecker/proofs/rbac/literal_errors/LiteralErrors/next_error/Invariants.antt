use Rattle.std.proofs.Common.{◌≡◌, ◌+◌, cond, length}
use Rattle.cedar_types.specs.Templates.MentionViews.{mentions_left, mentions_are_over}
use Rattle.cedar_typechecker.specs.Passes.{errors_to_come}
use Rattle.cedar_typechecker.proofs.rbac.literal_errors.LiteralErrors.next_error.Given as goal

abbrev pub decreases-loop-mention : goal.decreases-loop-mention
decreases-loop-mention l = cond (mentions_are_over l.self.mentions) 0 (length (mentions_left l.self.mentions) + 1)

-- the mentions that were passed over have no error
abbrev pub invariant-loop-mention : goal.invariant-loop-mention
invariant-loop-mention l =
    (errors_to_come l.self ≡ errors_to_come l.initial.self)
    × (l.self.ended ≡ l.initial.self.ended)
