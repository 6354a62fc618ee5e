-- A source over a caller's tokens and bytes. Assumes nothing.
use Rattle.std.specs.Prelude.{ℕ, ◌-◌, Bool, false, cond, not, ◌&&◌, ◌||◌, List, [], ◌∷◌, length, take, drop, ℤ, pos, negsuc, codes, nat_le, nat_lt}
use Rattle.refusals.specs.Answers.{Answer, gives, unless, if_given}
use Rattle.characters.specs.Signed.{past}
use Rattle.tokens.specs.declared.token.Token.{Token}
use Rattle.tokens.specs.Tokens.{is_eof, ends}

-- whether tokens are a list that a source may give: at most 65,536, the last its only EOF; 15 bad list
abbrev pub list_check : List Token → Answer (Unit {0})
list_check ks = unless (nat_lt 65536 (length ks) || not (ends ks)) 15 (gives tt)

-- what stands for a bad list
abbrev pub lone_eof : Token
lone_eof = record { token_type = negsuc 0; channel = pos 0; start = pos 0; stop = negsuc 0; line = pos 1; column = pos 0; index = negsuc 0 }

abbrev pub good_list : List Token → List Token
good_list ks = if_given (list_check ks) ks (lone_eof ∷ [])

-- the bytes from one position through another, where both lie inside; each byte is a position
abbrev pub bytes_within : List ℕ → ℤ → ℤ → Bool
bytes_within bytes (pos i) stop = nat_lt i (length bytes) && (nat_le i (past stop) && nat_le (past stop) (length bytes))
bytes_within bytes (negsuc i) stop = false

abbrev pub bytes_of : List ℕ → ℤ → ℤ → List ℕ
bytes_of bytes (pos i) stop = take (past stop - i) (drop i bytes)
bytes_of bytes (negsuc i) stop = []

-- a token's text: the bytes of its span; the EOF, and a span outside the bytes, show `<EOF>`
abbrev pub byte_text : List ℕ → Token → List ℕ
byte_text bytes k = cond (not (is_eof k) && bytes_within bytes k.start k.stop) (bytes_of bytes k.start k.stop) (codes "<EOF>")
