-- The calls, tokens and streams of a line, by its name and numbers. Assumes nothing.
use Rattle.std.specs.Prelude.{ℕ, zero, suc, cond, List, [], ◌∷◌, ℤ, pos, negsuc, Some, None, codes, Option, nat_le}
use Rattle.std.specs.Option.{option_map}
use Rattle.std.specs.Str.{bytes_eq}
use Rattle.tokens.specs.declared.token.Token.{Token}
use Rattle.scripts.specs.declared.line.Kind.{Kind}
use Rattle.scripts.specs.declared.line.Kind.TheVariants.{Common, Unbuffered, Chars}
use Rattle.scripts.specs.declared.line.Call.{Call}
use Rattle.scripts.specs.declared.line.Call.TheVariants.{Open, Consume, La, Lt, Index, Size, Seek, Reset, Mark, Release, Get, Text, TextOf, AllText, Interval, HiddenLeft, HiddenRight, Close}

-- the value of the first name that a word is
abbrev pub named : {A : Type 0} → List ℕ → List ℕ → A → A → A
named word name this other = cond (bytes_eq word name) this other

-- a buffer has at most 1,048,576 places
abbrev pub room : ℤ → Option ℕ
room (pos n) = cond (nat_le n 1048576) (Some n) None
room (negsuc n) = None

-- a mark is numbered from -255 to 0
abbrev pub released : ℤ → Option Call
released (pos zero) = Some (Release (pos 0))
released (pos (suc n)) = None
released (negsuc n) = cond (nat_le n 254) (Some (Release (negsuc n))) None

abbrev pub bare_call : List ℕ → Option Call
bare_call w =
    named w (codes "consume") (Some Consume) (named w (codes "index") (Some Index) (named w (codes "size") (Some Size) (named w (codes "reset") (Some Reset) (named w (codes "mark") (Some Mark) (named w (codes "close") (Some Close) None)))))

abbrev pub one_call : List ℕ → ℤ → Option Call
one_call w k =
    named w (codes "open") (Some (Open k)) (named w (codes "la") (Some (La k)) (named w (codes "lt") (Some (Lt k)) (named w (codes "seek") (Some (Seek k)) (named w (codes "get") (Some (Get k)) (named w (codes "release") (released k) (named w (codes "all-text") (option_map AllText (room k)) None))))))

abbrev pub two_call : List ℕ → ℤ → ℤ → Option Call
two_call w a b = named w (codes "text") (Some (Interval a b)) None

-- the last of three numbers is a room
abbrev pub roomy_call : List ℕ → ℤ → ℤ → ℕ → Option Call
roomy_call w a b n =
    named w (codes "text") (Some (Text a b n)) (named w (codes "text-of") (Some (TextOf a b n)) (named w (codes "hidden-left") (Some (HiddenLeft a b n)) (named w (codes "hidden-right") (Some (HiddenRight a b n)) None)))

abbrev pub three_call : List ℕ → ℤ → ℤ → Option ℕ → Option Call
three_call w a b None = None
three_call w a b (Some n) = roomy_call w a b n

abbrev pub call_of : List ℕ → List ℤ → Option Call
call_of w [] = bare_call w
call_of w (k ∷ []) = one_call w k
call_of w (a ∷ b ∷ []) = two_call w a b
call_of w (a ∷ b ∷ c ∷ []) = three_call w a b (room c)
call_of w (a ∷ b ∷ c ∷ d ∷ ks) = None

-- a token has six numbers, and no place in a stream yet
abbrev pub token_of : List ℤ → Option Token
token_of [] = None
token_of (a ∷ []) = None
token_of (a ∷ b ∷ []) = None
token_of (a ∷ b ∷ c ∷ []) = None
token_of (a ∷ b ∷ c ∷ d ∷ []) = None
token_of (a ∷ b ∷ c ∷ d ∷ e ∷ []) = None
token_of (a ∷ b ∷ c ∷ d ∷ e ∷ f ∷ []) = Some (record { token_type = a; channel = b; start = c; stop = d; line = e; column = f; index = negsuc 0 })
token_of (a ∷ b ∷ c ∷ d ∷ e ∷ f ∷ g ∷ ks) = None

abbrev pub kind_of : List ℕ → List ℤ → Option Kind
kind_of w [] = named w (codes "unbuffered") (Some Unbuffered) (named w (codes "chars") (Some Chars) None)
kind_of w (k ∷ []) = named w (codes "common") (Some (Common k)) None
kind_of w (k ∷ l ∷ ks) = None
