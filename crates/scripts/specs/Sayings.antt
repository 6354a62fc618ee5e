-- What a line says, by its words. Assumes nothing.
use Rattle.std.specs.Prelude.{ℕ, List, [], ◌∷◌, ℤ, Some, None, vec_items, codes, Option}
use Rattle.tokens.specs.declared.token.Token.{Token}
use Rattle.scripts.specs.declared.line.Kind.{Kind}
use Rattle.scripts.specs.declared.line.Call.{Call}
use Rattle.scripts.specs.declared.line.Units.TheVariants.{Utf8, Bytes, Halves, Words}
use Rattle.scripts.specs.declared.line.Line.{Line}
use Rattle.scripts.specs.declared.line.Line.TheVariants.{Input, NewToken, ListSource, SheetSource, NewStream, CountAhead, Ask}
use Rattle.scripts.specs.Numerals.{number, half, whole, every, joined_bytes}
use Rattle.scripts.specs.Calls.{named, call_of, token_of, kind_of}

-- what a line says, with the lists that it takes along
pub data Saying : Type 0 where
  nothing : Saying
  utf8_input : List ℕ → Saying
  byte_input : List ℕ → Saying
  half_input : List ℕ → Saying
  word_input : List ℕ → Saying
  new_token : Token → Saying
  list_source : Saying
  sheet_source : Saying
  new_stream : Kind → Saying
  count_ahead : List ℤ → Saying
  ask : Call → Saying

-- nothing where a part of the line is missing or wrong
abbrev pub if_read : {A : Type 0} → (A → Saying) → Option A → Saying
if_read say None = nothing
if_read say (Some x) = say x

abbrev pub input_words : List (List ℕ) → Saying
input_words [] = nothing
input_words (kind ∷ ws) =
    named kind (codes "utf8") (if_read utf8_input (joined_bytes ws)) (named kind (codes "u8") (if_read byte_input (joined_bytes ws)) (named kind (codes "u16") (if_read half_input (every half ws)) (named kind (codes "u32") (if_read word_input (every whole ws)) nothing)))

abbrev pub source_words : List (List ℕ) → Saying
source_words [] = nothing
source_words (kind ∷ []) = named kind (codes "list") list_source (named kind (codes "sheet") sheet_source nothing)
source_words (kind ∷ w ∷ ws) = nothing

abbrev pub stream_numbers : List ℕ → Option (List ℤ) → Saying
stream_numbers kind None = nothing
stream_numbers kind (Some ks) = if_read new_stream (kind_of kind ks)

abbrev pub stream_words : List (List ℕ) → Saying
stream_words [] = nothing
stream_words (kind ∷ ws) = stream_numbers kind (every number ws)

abbrev pub name_numbers : List ℕ → Option (List ℤ) → Saying
name_numbers name None = nothing
name_numbers name (Some ks) =
    named name (codes "count-ahead") (count_ahead ks) (named name (codes "token") (if_read new_token (token_of ks)) (if_read ask (call_of name ks)))

-- what words say
abbrev pub said : List (List ℕ) → Saying
said [] = nothing
said (name ∷ ws) =
    named name (codes "input") (input_words ws) (named name (codes "source") (source_words ws) (named name (codes "stream") (stream_words ws) (name_numbers name (every number ws))))

-- what a line that was read says, and nothing where none could be; the tokens of a list source stand in the lines before it
abbrev pub saying : Option Line → Saying
saying None = nothing
saying (Some (Input (Utf8 v))) = utf8_input (vec_items v)
saying (Some (Input (Bytes v))) = byte_input (vec_items v)
saying (Some (Input (Halves v))) = half_input (vec_items v)
saying (Some (Input (Words v))) = word_input (vec_items v)
saying (Some (NewToken k)) = new_token k
saying (Some (ListSource v)) = list_source
saying (Some SheetSource) = sheet_source
saying (Some (NewStream k)) = new_stream k
saying (Some (CountAhead v)) = count_ahead (vec_items v)
saying (Some (Ask c)) = ask c
