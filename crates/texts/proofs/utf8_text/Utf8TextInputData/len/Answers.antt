use Rattle.std.proofs.Common.{sym}
use Rattle.texts.proofs.Encoded.{encoded_size}
use Rattle.texts.proofs.utf8_text.Utf8TextInputData.len.Goals as goal

pub returns : goal.returns
returns c = record { value = sym (encoded_size c.args.self.now.bytes.now c.args.self.now.encoded) }
