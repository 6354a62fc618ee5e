-- What a script prints. Assumes nothing.
use Rattle.std.specs.Prelude.{ℕ, ◌+◌, ◌/◌, ◌%◌, cond, List, [], ◌∷◌, ◌++◌, Some, None, Ok, Err, codes, decimal, Result, nat_lt}
use Rattle.std.specs.List.{flat_map}
use Rattle.std.specs.Fmt.{signed_decimal}
use Rattle.refusals.specs.declared.Refusal.{Refusal}
use Rattle.refusals.specs.Numbers.{number}
use Rattle.tokens.specs.declared.token.Token as token
use Rattle.scripts.specs.Calls.{named}
use Rattle.scripts.specs.declared.answers.Value.{Value}
use Rattle.scripts.specs.declared.answers.Value.TheVariants.{Done, Number, Count, Token}

-- a space before each word
abbrev pub spaced : List (List ℕ) → List ℕ
spaced ws = flat_map (λ w. 32 ∷ w) ws

-- the first word only
abbrev pub only_first : List (List ℕ) → List (List ℕ)
only_first [] = []
only_first (w ∷ ws) = w ∷ []

-- the words of a line, with a space between; of an input, which can be long, only the first two
abbrev pub echo : List (List ℕ) → List ℕ
echo [] = []
echo (w ∷ ws) = w ++ spaced (named w (codes "input") (only_first ws) ws)

abbrev pub refusal_text : Refusal → List ℕ
refusal_text e = codes "REFUSED " ++ decimal (number e)

-- start, stop, line and column of a token
abbrev pub place_text : token.Token → List ℕ
place_text k = signed_decimal k.start ++ (codes " " ++ (signed_decimal k.stop ++ (codes " " ++ (signed_decimal k.line ++ (codes " " ++ signed_decimal k.column)))))

-- a token is its seven numbers
abbrev pub token_text : token.Token → List ℕ
token_text k = signed_decimal k.index ++ (codes " " ++ (signed_decimal k.token_type ++ (codes " " ++ (signed_decimal k.channel ++ (codes " " ++ place_text k)))))

-- what a call gave: a look for a token may have found none
abbrev pub value_text : Value → List ℕ
value_text Done = codes "ok"
value_text (Number z) = signed_decimal z
value_text (Count n) = decimal n
value_text (Token None) = codes "none"
value_text (Token (Some k)) = token_text k

-- what a call gave, or its refusal
abbrev pub answer_text : Result Value Refusal → List ℕ
answer_text (Ok v) = value_text v
answer_text (Err e) = refusal_text e

-- a byte in hexadecimal
abbrev pub hex_digit : ℕ → ℕ
hex_digit n = cond (nat_lt n 10) (48 + n) (87 + n)

abbrev pub hex_byte : ℕ → List ℕ
hex_byte b = hex_digit (b / 16) ∷ hex_digit (b % 16) ∷ []

-- a colon, and then the bytes, if there are any
abbrev pub bytes_text : List ℕ → List ℕ
bytes_text [] = codes " :"
bytes_text (b ∷ bs) = codes " : " ++ flat_map hex_byte (b ∷ bs)

-- how much a call wrote, or its refusal
abbrev pub count_text : Result ℕ Refusal → List ℕ
count_text (Ok n) = decimal n
count_text (Err e) = refusal_text e
