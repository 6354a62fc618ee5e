-- The table is the classes of the numbers from 0 to 127, one after the other: antt computes both lists and compares them.
use Rattle.std.proofs.Common.{zero-add}
use Rattle.std.proofs.lemmas.List.FromFn.{get_or-map-range_with_len}
use Rattle.lexer.specs.declared.class.Class.TheVariants.{Letter}
use Rattle.lexer.specs.Classes.{class}
use Rattle.lexer.proofs.class.class_of.Goals as goal

pub returns-then-code-lt128 : goal.returns-then-code-lt128
returns-then-code-lt128 c = record { value = get_or-map-range_with_len class 0 128 c.args.code c.args.code Letter c.if-code-lt128.true (zero-add c.args.code) }
