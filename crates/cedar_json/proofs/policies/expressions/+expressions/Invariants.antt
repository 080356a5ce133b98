use Rattle.cedar_json.proofs.policies.expressions.+expressions.Given as goal

abbrev pub decreases-expression : goal.decreases-expression
decreases-expression l = l.depth.left

abbrev pub decreases-members : goal.decreases-members
decreases-members l = l.depth.left

abbrev pub decreases-fields : goal.decreases-fields
decreases-fields l = l.depth.left

abbrev pub decreases-operation : goal.decreases-operation
decreases-operation l = l.depth.left
