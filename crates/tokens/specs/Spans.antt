-- The text of a token that spans a part of an input. Assumes nothing.
use Rattle.std.specs.Prelude.{ℕ, Bool, true, false, cond, not, ◌&&◌, List, pos, codes, int_lt}
use Rattle.refusals.specs.Answers.{if_given}
use Rattle.characters.specs.Text.{Text, display}
use Rattle.characters.specs.Signed.{interval_check, interval}
use Rattle.tokens.specs.declared.token.Token.{Token}
use Rattle.tokens.specs.Tokens.{is_eof}

-- the span begins below the size, and the input has the interval from its start through its stop
abbrev pub spans : Text → Token → Bool
spans t k = int_lt k.start (pos t.size) && if_given (interval_check t k.start k.stop) true false

-- the code points that begin in the span, in UTF-8; the EOF, and a span outside the input, show `<EOF>`
abbrev pub span_text : Text → Token → List ℕ
span_text t k = cond (not (is_eof k) && spans t k) (display (interval t k.start k.stop)) (codes "<EOF>")
