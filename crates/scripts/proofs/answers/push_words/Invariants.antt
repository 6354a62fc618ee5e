use Rattle.std.proofs.Common.{◌≡◌, ◌++◌, vec_items}
use Rattle.scripts.specs.Words.{words}
use Rattle.scripts.specs.Printed.{spaced}
use Rattle.scripts.proofs.answers.push_words.Given as goal

abbrev pub invariant-loop-word : goal.invariant-loop-word
invariant-loop-word l = vec_items l.initial.out ++ spaced (words l.line) ≡ vec_items l.out ++ spaced (words l.word-iterator.line.now)
