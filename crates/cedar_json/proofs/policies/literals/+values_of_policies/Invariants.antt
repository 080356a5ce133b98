use Rattle.cedar_json.proofs.policies.literals.+values_of_policies.Given as goal

abbrev pub decreases-literal : goal.decreases-literal
decreases-literal l = l.left

abbrev pub decreases-values : goal.decreases-values
decreases-values l = l.left

abbrev pub decreases-object : goal.decreases-object
decreases-object l = l.left

abbrev pub decreases-extension_value : goal.decreases-extension_value
decreases-extension_value l = l.left

abbrev pub decreases-record : goal.decreases-record
decreases-record l = l.left
