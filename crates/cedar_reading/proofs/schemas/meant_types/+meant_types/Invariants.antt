use Rattle.cedar_reading.proofs.schemas.meant_types.+meant_types.Given as goal

abbrev pub decreases-meant_type : goal.decreases-meant_type
decreases-meant_type l = l.left

abbrev pub decreases-meant_record : goal.decreases-meant_record
decreases-meant_record l = l.left

abbrev pub decreases-meant_attributes : goal.decreases-meant_attributes
decreases-meant_attributes l = l.left

abbrev pub decreases-meant_name : goal.decreases-meant_name
decreases-meant_name l = l.left

abbrev pub decreases-meant_alias : goal.decreases-meant_alias
decreases-meant_alias l = l.left
