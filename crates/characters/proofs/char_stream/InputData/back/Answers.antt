use Rattle.std.proofs.Common.{◌-◌, ◌+◌, sym, ◌∙◌, arith}
use Rattle.characters.proofs.Starts.{back_step, back_stop}
use Rattle.characters.proofs.char_stream.InputData.back.Goals as goal

pub returns-in_err-at : goal.returns-in_err-at
returns-in_err-at g c =
    let self = g.Self.InputData in
    rw c.from_residual.ensures record { value = sym (back_stop (self.meaning c.args.self.now) (self.lawful c.args.self.now) _ _ (c.args.steps - (c.loop.counter + 1)) (omega arith) (sym c.in_err-at.ensures.value)) ∙ c.loop.invariant }

pub loop-preserved : goal.loop-preserved
loop-preserved g c =
    let self = g.Self.InputData in
    sym (back_step (self.meaning c.args.self.now) (self.lawful c.args.self.now) _ _ _ (c.args.steps - (c.loop.counter + 1)) (omega arith) (sym c.in_ok-at.ensures.value)) ∙ c.loop.invariant
