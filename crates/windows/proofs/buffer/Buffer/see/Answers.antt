use Rattle.std.proofs.Common.{◌<◌, IfSome, sym, ◌∙◌, subst}
use Rattle.windows.specs.Windows.{end}
use Rattle.windows.proofs.Filling.{sees, seen_held}
use Rattle.windows.proofs.buffer.Buffer.see.Goals as goal

pub returns-clause-value : goal.returns-clause-value
returns-clause-value g c =
    let pulled = c.pull_to.ensures in
    λ list h. c.seen.ensures.value ∙ sees list _ c.pull_to.new.self.window _ c.args.index (pulled.after list h) pulled.start pulled.capacity (pulled.pulled list h)

pub returns-clause-held : goal.returns-clause-held
returns-clause-held g c =
    let now = c.pull_to.new.self.window in
    subst (λ r. IfSome r (λ i. i < end now)) (sym c.seen.ensures.value) (seen_held now c.args.index)
