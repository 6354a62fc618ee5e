-- What a window keeps once the cursor has come to an index. Assumes nothing.
use Rattle.std.specs.Prelude.{ℕ, ◌-◌, Bool, cond, Option}
use Rattle.std.specs.Option.{option_or}
use Rattle.tokens.specs.declared.token.Token.{Token}
use Rattle.windows.specs.Windows.{View, token_of, without}

-- with no mark out, nothing below the cursor
abbrev pub settled_view : Bool → View → ℕ → View
settled_view free v cursor = cond free (without v cursor) v

-- and the token just below it, if the window has it
abbrev pub settled_before : Bool → View → ℕ → Option Token → Option Token
settled_before free v cursor before = cond free (option_or (token_of v (cursor - 1)) before) before
