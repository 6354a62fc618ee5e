use Rattle.std.proofs.Common.{drop, arith, length-drop}
use Rattle.std.proofs.lemmas.List.Sums.{prefix_len-le-length}
use Rattle.texts.specs.Encoded.{goes_on}
use Rattle.std.proofs.lemmas.List.{take_rest}
use Rattle.texts.proofs.Encoded.{from_going_on}
use Rattle.texts.proofs.utf8_text.Utf8TextInputData.start_from.Goals as goal

pub overflow_add-result : goal.overflow_add-result
overflow_add-result c =
    let bytes = c.args.self.now.bytes.now in
    let start = c.min-start.result in
    record { fits = omega (arith, rw take_rest at c.going_on.ensures.value, prefix_len-le-length goes_on (drop start bytes), length-drop start bytes, c.min-start.ensures, c.args.self.now.few) }

pub returns : goal.returns
returns c = record { value = omega (arith, rw take_rest at c.going_on.ensures.value, from_going_on c.args.self.now.bytes.now c.args.self.now.encoded c.args.at c.min-start.result c.min-start.ensures) }
