use Rattle.cedar_reading.proofs.schemas.types.+types.Given as goal

abbrev pub decreases-written_type : goal.decreases-written_type
decreases-written_type l = l.left

abbrev pub decreases-written_record : goal.decreases-written_record
decreases-written_record l = l.left

abbrev pub decreases-written_attributes : goal.decreases-written_attributes
decreases-written_attributes l = l.left
