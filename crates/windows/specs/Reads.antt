-- Tokens and texts by their indexes, out of what is held. Assumes nothing.
use Rattle.std.specs.Prelude.{ℕ, ◌-◌, cond, List, [], ◌∷◌, ℤ, pos, negsuc, Some, None, Option, int_lt, nat_le, nat_lt, slice_index_or}
use Rattle.std.specs.List.{between, flat_map}
use Rattle.refusals.specs.Answers.{Answer, gives, refuses, unless, if_given}
use Rattle.refusals.specs.Outputs.{written, overwritten}
use Rattle.characters.specs.Signed.{upward, past, backward}
use Rattle.tokens.specs.declared.token.Token.{Token}
use Rattle.tokens.specs.Tokens.{is_eof}
use Rattle.windows.specs.Lists.{blank}
use Rattle.windows.specs.Windows.{View, end}

-- the token of an index: 5 negative, 4 dropped, 6 not held
abbrev pub token_found : View → ℕ → Answer Token
token_found v i = unless (nat_lt i v.start) 4 (unless (nat_le (end v) i) 6 (gives (slice_index_or v.tokens (i - v.start) blank)))

abbrev pub token_answer : View → ℤ → Answer Token
token_answer v (negsuc i) = refuses 5
token_answer v (pos i) = token_found v i

-- the tokens before the first EOF
abbrev pub before_eof : List Token → List Token
before_eof [] = []
before_eof (k ∷ ks) = cond (is_eof k) [] (k ∷ before_eof ks)

-- a token, if there is one and it is no EOF
abbrev pub unless_eof : Option Token → Option Token
unless_eof None = None
unless_eof (Some k) = cond (is_eof k) None (Some k)

-- the texts of tokens, one after the other, up to the EOF
abbrev pub texts_of : (Token → List ℕ) → List Token → List ℕ
texts_of text ks = flat_map text (before_eof ks)

-- the texts of the tokens from one index on and below another
abbrev pub texts_between : (Token → List ℕ) → View → ℕ → ℕ → List ℕ
texts_between text v i j = texts_of text (between (i - v.start) (j - v.start) v.tokens)

-- whether the tokens from start through stop are held: 5 negative, 13 bad interval, 4 dropped, 6 not held
abbrev pub interval_held : View → ℤ → ℤ → Answer (Unit {0})
interval_held v start stop =
    unless (int_lt start (pos 0)) 5
    (unless (backward start stop) 13
    (unless (nat_lt (upward start) v.start) 4
    (unless (nat_lt (end v) (past stop)) 6 (gives tt))))

-- the tokens from start through stop
abbrev pub interval_tokens : View → ℤ → ℤ → List Token
interval_tokens v start stop = between (upward start - v.start) (past stop - v.start) v.tokens

abbrev pub follow : {A B : Type 0} → Answer A → Answer B → Answer B
follow (gives _) next = next
follow (refuses n) next = refuses n

-- a text that is written, 14 short output last
abbrev pub text_answer : (Token → List ℕ) → View → ℤ → ℤ → List ℕ → Answer ℕ
text_answer text v start stop out = follow (interval_held v start stop) (written (texts_of text (interval_tokens v start stop)) out)

abbrev pub text_after : (Token → List ℕ) → View → ℤ → ℤ → List ℕ → List ℕ
text_after text v start stop out = if_given (interval_held v start stop) (overwritten (texts_of text (interval_tokens v start stop)) out) out
