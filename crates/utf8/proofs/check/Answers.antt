-- The walk or the library decides whether the bytes are text; the grammar comes in at the end.
use Rattle.std.proofs.Common.{rules}
use Rattle.std.proofs.lemmas.Str.{encodes-chars, scalars-chars}
use Rattle.utf8.proofs.Grammar.{agrees}
use Rattle.utf8.proofs.check.Goals as goal

pub returns-then-bytes-gt-MOST_BYTES-clause-agrees : goal.returns-then-bytes-gt-MOST_BYTES-clause-agrees
returns-then-bytes-gt-MOST_BYTES-clause-agrees c = agrees c.args.bytes.now

pub returns-then-bytes-lt-FEW_BYTES-clause-checked : goal.returns-then-bytes-lt-FEW_BYTES-clause-checked
returns-then-bytes-lt-FEW_BYTES-clause-checked c = search (rules, agrees c.args.bytes.now)

pub returns-then-bytes-lt-FEW_BYTES-clause-agrees : goal.returns-then-bytes-lt-FEW_BYTES-clause-agrees
returns-then-bytes-lt-FEW_BYTES-clause-agrees c = agrees c.args.bytes.now

pub returns-then-bytes-lt-FEW_BYTES-clause-decoded : goal.returns-then-bytes-lt-FEW_BYTES-clause-decoded
returns-then-bytes-lt-FEW_BYTES-clause-decoded c = search (rules, encodes-chars c.args.bytes.now, scalars-chars c.args.bytes.now)

pub returns-clause-checked : goal.returns-clause-checked
returns-clause-checked c = search (rules, agrees c.args.bytes.now)

pub returns-clause-agrees : goal.returns-clause-agrees
returns-clause-agrees c = agrees c.args.bytes.now

pub returns-clause-decoded : goal.returns-clause-decoded
returns-clause-decoded c = search (rules, encodes-chars c.args.bytes.now, scalars-chars c.args.bytes.now)
