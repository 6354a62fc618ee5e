-- From the bytes of a sheet to its listing. Assumes nothing.
use Rattle.std.specs.Prelude.{◌≡◌, ℕ, List, codes, Ok, Err, vec_items, Result, Vec}
use Rattle.std.specs.declared.alloc.Global.{Global}
use Rattle.refusals.specs.Answers.{refuses}
use Rattle.refusals.specs.Numbers.{number, meaning}
use Rattle.utf8.specs.Reading.{Checked}
use Rattle.texts.specs.Encoded.{Readable, encoded_text}
use Rattle.tokens.specs.declared.token.Token.{Token}
use Rattle.tokens.specs.Spans.{span_text}
use Rattle.lexer.specs.Sheets.{Sheet}
use Rattle.lexer.specs.Remarks.{ToldApart}
use Rattle.listing.specs.declared.sheet.Stop.{Stop}
use Rattle.listing.specs.declared.sheet.Stop.TheVariants.{Refused, NoMemory}
use Rattle.listing.specs.Lines.{listed}

-- the bytes are a text, and the listing is that of its tokens, which keep values and remarks apart
pub record Listed (bytes listing : List ℕ) : Type 0 where
  pub readable : Readable bytes
  pub tokens : List Token
  pub sheet : Sheet (encoded_text bytes) tokens
  pub remark_is_never_a_value : ToldApart (encoded_text bytes) tokens
  pub lines : listing ≡ listed (span_text (encoded_text bytes)) 0 tokens

-- bytes that are no text are refused as their check refuses them; memory can run out for a text alone
abbrev pub Listing : List ℕ → Result (Vec ℕ Global) Stop → Type 0
Listing bytes (Ok v) = Listed bytes (vec_items v)
Listing bytes (Err (Refused e)) = Checked bytes (refuses (number e))
Listing bytes (Err NoMemory) = Readable bytes

-- the words for a person to read
abbrev pub words : Stop → List ℕ
words (Refused e) = meaning e
words NoMemory = codes "out of memory"
