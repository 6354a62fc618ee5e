use Rattle.windows.proofs.Ring.{kept_bounded}
use Rattle.windows.proofs.window.Window.start.Goals as goal

pub returns-clause-bounds : goal.returns-clause-bounds
returns-clause-bounds c = kept_bounded c.self.inside _ c.self.invariant c.self.view_is
