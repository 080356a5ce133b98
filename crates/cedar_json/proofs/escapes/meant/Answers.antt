use Rattle.cedar_json.specs.Texts.{quote, backslash, slash, backspace, form_feed, line_feed, carriage_return, tab}
use Rattle.cedar_json.proofs.escapes.meant.Goals as goal

pub returns-in-34-clause-letter : goal.returns-in-34-clause-letter
returns-in-34-clause-letter c = rw c.in-34.is quote

pub returns-in-92-clause-letter : goal.returns-in-92-clause-letter
returns-in-92-clause-letter c = rw c.in-92.is backslash

pub returns-in-47-clause-letter : goal.returns-in-47-clause-letter
returns-in-47-clause-letter c = rw c.in-47.is slash

pub returns-in-98-clause-letter : goal.returns-in-98-clause-letter
returns-in-98-clause-letter c = rw c.in-98.is backspace

pub returns-in-102-clause-letter : goal.returns-in-102-clause-letter
returns-in-102-clause-letter c = rw c.in-102.is form_feed

pub returns-in-110-clause-letter : goal.returns-in-110-clause-letter
returns-in-110-clause-letter c = rw c.in-110.is line_feed

pub returns-in-114-clause-letter : goal.returns-in-114-clause-letter
returns-in-114-clause-letter c = rw c.in-114.is carriage_return

pub returns-in-116-clause-letter : goal.returns-in-116-clause-letter
returns-in-116-clause-letter c = rw c.in-116.is tab
