use Rattle.std.proofs.Common.{ap, ◌∙◌, arith}
use Rattle.windows.specs.Windows.{without}
use Rattle.windows.proofs.Ring.{seen_bounded, kept_bounded, drop_held}
use Rattle.windows.proofs.window.Window.drop_below.Goals as goal

pub returns : goal.returns
returns c =
    let self = c.self.inside in
    let kept = c.self.invariant in
    let from = c.clamp-self-inside.result in
    let is = c.clamp-self-inside.ensures in
    record {
      after = drop_held self.places self.capacity self.start self.end kept.ordered c.args.index from is ∙ ap (λ v. without v c.args.index) c.self.view_is;
      was = kept_bounded self _ kept c.self.view_is;
      bounds = seen_bounded self.places self.capacity from self.end (omega (arith, is, kept.ordered)) kept.admitted (omega (arith, is, kept.fits)) kept.few;
    }
