use Rattle.cedar_json.proofs.schemas.types.+types.Given as goal

abbrev pub decreases-put_type : goal.decreases-put_type
decreases-put_type l = l.left

abbrev pub decreases-put_record : goal.decreases-put_record
decreases-put_record l = l.left
