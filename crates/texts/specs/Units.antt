-- Texts of units that each hold one code point. Assumes nothing.
use Rattle.std.specs.Prelude.{ℕ, ◌%◌, ◌^◌, Bool, not, List, map, length, nat_lt}
use Rattle.std.specs.List.{list_all}
use Rattle.refusals.specs.Answers.{Answer, gives, unless, if_given}
use Rattle.characters.specs.Text.{Text, empty}
use Rattle.texts.specs.Laid.{laid_out}

-- a code point is a number of at most 31 bits
abbrev pub small : ℕ → Bool
small n = nat_lt n (2 ^ 31)

abbrev pub all_small : List ℕ → Bool
all_small ns = list_all small ns

-- whether units of these numbers are a text: 12 too long, 11 bad text
abbrev pub units_check : List ℕ → Answer (Unit {0})
units_check ns = unless (nat_lt 65536 (length ns)) 12 (unless (not (all_small ns)) 11 (gives tt))

-- one code point at each position: these numbers, in order
abbrev pub in_a_row : List ℕ → Text
in_a_row ns = laid_out (λ _. 1) ns

-- the text of units of these numbers; where they are refused, the empty one
abbrev pub units_text : List ℕ → Text
units_text ns = if_given (units_check ns) (in_a_row ns) empty

-- the low 31 bits of a unit's number, which are the number itself wherever it is small
abbrev pub low : {A : Type 0} → (A → ℕ) → A → ℕ
low number unit = number unit % 2 ^ 31

-- what units stand for, whether or not they are all small
unfoldable pub row_of : {A : Type 0} → (A → ℕ) → List A → Text
row_of number units = in_a_row (map (low number) units)
