use Rattle.std.proofs.Common.{◌-◌, ◌+◌, sym, ap, ◌∙◌, arith}
use Rattle.characters.specs.Text.{on}
use Rattle.characters.proofs.Starts.{on_step, on_stop}
use Rattle.characters.proofs.char_stream.InputData.on.Goals as goal

pub returns-then-at-len : goal.returns-then-at-len
returns-then-at-len g c =
    let self = g.Self.InputData in
    record { value = sym (on_stop (self.meaning c.args.self.now) (self.lawful c.args.self.now) _ _ (c.args.steps - (c.loop.counter + 1)) (omega arith) (omega (arith, c.len.ensures.value))) ∙ c.loop.invariant }

pub loop-preserved : goal.loop-preserved
loop-preserved g c =
    let self = g.Self.InputData in
    let t = self.meaning c.args.self.now in
    let left = c.args.steps - (c.loop.counter + 1) in
    ap (λ s. on t s left) c.start_from-at.ensures.value ∙ sym (on_step t (self.lawful c.args.self.now) _ _ left (omega arith) (omega (arith, c.len.ensures.value))) ∙ c.loop.invariant
