use Rattle.stream_laws.proofs.Wanders.{wander_none, wander_step, wander_seek}
use Rattle.stream_laws.proofs.wander.Goals as goal

pub loop-init : goal.loop-init
loop-init g c = wander_none g.S.IntStream c.args.stream.now

pub loop-preserved : goal.loop-preserved
loop-preserved g c = let on = c.consume.ensures in wander_step g.S.IntStream c.consume.new.self c.loop.invariant on.status on.unaltered on.after

pub returns : goal.returns
returns g c =
    let on = c.seek.ensures in
    let w = wander_seek g.S.IntStream c.seek.new.self c.loop.invariant on.status on.unaltered _ on.after in
    record { after = w.somewhere; status = w.status; unaltered = w.unaltered }
