use Rattle.std.proofs.Common.{◌≡◌, vec_items}
use Rattle.scripts.specs.Words.{words}
use Rattle.scripts.specs.Numerals.{every}
use Rattle.scripts.proofs.Gathered.{onto}
use Rattle.scripts.proofs.numerals.numerals.Given as goal

abbrev pub invariant-loop-word : goal.invariant-loop-word
invariant-loop-word g l = every g.T.Numeral.reads (words l.line) ≡ onto (vec_items l.found) (every g.T.Numeral.reads (words l.word-iterator.line.now))
