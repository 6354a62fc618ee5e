use Rattle.std.proofs.Common.{rules}
use Rattle.windows.proofs.Ring.{seen_bounded, kept_bounded}
use Rattle.windows.proofs.window.Window.admit.Goals as goal

pub returns-then-not-contains-clause-was : goal.returns-then-not-contains-clause-was
returns-then-not-contains-clause-was c = kept_bounded c.self.inside _ c.self.invariant c.self.view_is

pub returns-clause-was : goal.returns-clause-was
returns-clause-was c = kept_bounded c.self.inside _ c.self.invariant c.self.view_is

pub returns-then-not-contains-clause-bounds : goal.returns-then-not-contains-clause-bounds
returns-then-not-contains-clause-bounds c = kept_bounded c.self.inside _ c.self.invariant c.self.view_is

pub returns-clause-bounds : goal.returns-clause-bounds
returns-clause-bounds c =
    let self = c.self.inside in
    let kept = c.self.invariant in
    seen_bounded self.places _ self.start self.end kept.ordered (search rules) kept.fits kept.few
