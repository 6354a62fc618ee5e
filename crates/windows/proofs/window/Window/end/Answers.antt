use Rattle.std.proofs.Common.{◌-◌, length, sym, ap, ◌∙◌, arith}
use Rattle.windows.specs.Windows.{end}
use Rattle.windows.proofs.Ring.{length_ring, ring_end, kept_bounded}
use Rattle.windows.proofs.window.Window.end.Goals as goal

pub returns-clause-value : goal.returns-clause-value
returns-clause-value c = let self = c.self.inside in sym (ring_end self.places self.start self.end c.self.invariant.ordered) ∙ ap end c.self.view_is

pub returns-clause-places : goal.returns-clause-places
returns-clause-places c =
    let self = c.self.inside in
    omega (arith, length_ring self.places self.start (self.end - self.start), ap (λ v. length v.tokens) c.self.view_is, c.self.invariant.fits)

pub returns-clause-bounds : goal.returns-clause-bounds
returns-clause-bounds c = kept_bounded c.self.inside _ c.self.invariant c.self.view_is
