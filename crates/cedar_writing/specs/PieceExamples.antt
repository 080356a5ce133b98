-- Pieces of texts.
use Rattle.std.specs.Prelude.{◌≡◌, codes}
use Rattle.cedar_writing.specs.Pieces.{one_a_line}

-- which pieces texts have, one a line; a `\r` ends a comment too
pub record PieceExamples : Type 0 where
  pub tokens : one_a_line (codes "a.b2 == 1") ≡ codes "a\n.\nb2\n==\n1\n"
  pub blanks : one_a_line (codes " a\t\r\n b ") ≡ codes "a\nb\n"
  pub loose : one_a_line (codes "f((a), b,)") ≡ codes "f\na\nb\n"
  pub marks : one_a_line (codes "!a!=b:c::d") ≡ codes "!\na\n!=\nb\n:\nc\n::\nd\n"
  pub split : one_a_line (codes "a < = b") ≡ codes "a\n<\n=\nb\n"
  pub number : one_a_line (codes "1in") ≡ codes "1\nin\n"
  pub text : one_a_line (codes "\"a (b, // \\\"\"x") ≡ codes "\"a (b, // \\\"\"\nx\n"
  pub comment : one_a_line (codes "a // (b, c\nd") ≡ codes "a\n// (b, c\nd\n"
  pub comments : one_a_line (codes "//a\r//b") ≡ codes "//a\n//b\n"
  pub slash : one_a_line (codes "a / b") ≡ codes "a\n/\nb\n"
