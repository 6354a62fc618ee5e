use Rattle.std.proofs.Common.{sym, arith}
use Rattle.texts.proofs.Encoded.{back_end, back_last}
use Rattle.texts.proofs.utf8_text.Utf8TextInputData.start_before.Goals as goal

pub returns-then-at-self : goal.returns-then-at-self
returns-then-at-self c = record { value = sym (back_end c.args.self.now.bytes.now c.args.self.now.encoded c.args.at c.if-at-self.true) }

pub returns : goal.returns
returns c = record { value = back_last c.args.self.now.bytes.now c.args.self.now.encoded c.args.at _ c.last_start.result (grind arith) (omega arith) c.last_start.ensures.value }
