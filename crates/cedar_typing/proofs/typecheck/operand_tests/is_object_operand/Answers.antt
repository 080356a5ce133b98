use Rattle.cedar_typing.proofs.Rules.Operands.{record_is_object}
use Rattle.cedar_typing.proofs.typecheck.operand_tests.is_object_operand.Goals as goal

pub returns-in-Record : goal.returns-in-Record
returns-in-Record c = record_is_object _ _ _ c.in-Record.is
