use Rattle.cedar_reading.proofs.shown_types.+shown_types.Given as goal

abbrev pub decreases-read_shown_record : goal.decreases-read_shown_record
decreases-read_shown_record l = l.left

abbrev pub decreases-read_shown_type : goal.decreases-read_shown_type
decreases-read_shown_type l = l.left
