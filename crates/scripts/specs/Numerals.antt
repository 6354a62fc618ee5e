-- Numbers and units as a script writes them. Assumes nothing.
use Rattle.std.specs.Prelude.{ℕ, ◌+◌, ◌*◌, Bool, true, false, cond, ◌&&◌, List, [], ◌∷◌, length, ℤ, pos, neg_ℤ, Some, None, Option, ◌==◌, nat_le, nat_lt}
use Rattle.std.specs.Option.{option_map}
use Rattle.std.specs.Str.Parse.{digits_value}
use Rattle.std.specs.Char.{digit_value}
use Rattle.std.specs.List.{flat_map}

-- a byte is a digit of a base; letters count on from nine, in either case
abbrev pub digit : ℕ → ℕ → Bool
digit base c = nat_lt (digit_value c) base

abbrev pub digits : ℕ → List ℕ → Bool
digits base [] = true
digits base (c ∷ cs) = digit base c && digits base cs

-- one digit or more, and nothing else
abbrev pub numeral : ℕ → List ℕ → Bool
numeral base [] = false
numeral base (c ∷ cs) = digits base (c ∷ cs)

-- the number that a word writes in a base, if it is at most the largest
abbrev pub natural : ℕ → ℕ → List ℕ → Option ℕ
natural base most word = cond (numeral base word && nat_le (digits_value base word) most) (Some (digits_value base word)) None

-- decimal digits, with a minus before a negative number, within 32 bits
abbrev pub number : List ℕ → Option ℤ
number [] = None
number (c ∷ cs) = cond (c == 45) (option_map (λ n. neg_ℤ (pos n)) (natural 10 2147483648 cs)) (option_map pos (natural 10 2147483647 (c ∷ cs)))

-- one to four hexadecimal digits, and one to eight
abbrev pub half : List ℕ → Option ℕ
half word = cond (nat_lt 4 (length word)) None (natural 16 65535 word)

abbrev pub whole : List ℕ → Option ℕ
whole word = cond (nat_lt 8 (length word)) None (natural 16 4294967295 word)

-- the first before the others, if all are there
abbrev pub before : {A : Type 0} → Option A → Option (List A) → Option (List A)
before None others = None
before (Some x) others = option_map (λ xs. x ∷ xs) others

-- what each word gives, if each gives something
abbrev pub every : {A : Type 0} → (List ℕ → Option A) → List (List ℕ) → Option (List A)
every gives [] = Some []
every gives (w ∷ ws) = before (gives w) (every gives ws)

-- two hexadecimal digits are a byte
abbrev pub pair : ℕ → ℕ → Option ℕ
pair high low = cond (digit 16 high && digit 16 low) (Some (16 * digit_value high + digit_value low)) None

abbrev pub paired : List ℕ → Option (List ℕ)
paired [] = Some []
paired (c ∷ []) = None
paired (c ∷ d ∷ cs) = before (pair c d) (paired cs)

-- the bytes that words write when they are joined
abbrev pub joined_bytes : List (List ℕ) → Option (List ℕ)
joined_bytes ws = paired (flat_map (λ w. w) ws)
