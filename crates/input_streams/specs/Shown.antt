-- Which stream of symbols an input stream shows. Assumes nothing.
use Rattle.std.specs.Prelude.{List, ℤ}
use Rattle.characters.specs.declared.char_stream.InputData.{Ghosts}
use Rattle.streams.specs.Streams.{Stream}
use Rattle.streams.specs.Marks.{numbers}
use Rattle.input_streams.specs.declared.input_stream.InputStream.{InputStream}
use Rattle.input_streams.specs.Symbols.{Shows}

-- the marks that are out, the latest first
abbrev pub marks_of : {D : Type 0} → InputStream D → List ℤ
marks_of x = numbers x.marks.numbering x.marks.out

abbrev pub Shown : {D : Type 0} → Ghosts D → InputStream D → Stream → Type 0
Shown input x s = Shows (input.meaning x.text) x.index (marks_of x) s
