use Rattle.std.proofs.Common.{◌<◌, ◌≤◌, ◌⊎◌, refl, ap, ◌∙◌, arith}
use Rattle.std.proofs.lemmas.Grind.{common_steps}
use Rattle.windows.specs.Windows.{token_of}
use Rattle.windows.proofs.Ring.{get_outside, get_held, kept_bounded}
use Rattle.windows.proofs.window.Window.get.Goals as goal

pub returns-then-not-contains : goal.returns-then-not-contains
returns-then-not-contains c =
    let self = c.self.inside in
    let outside : (c.args.index < self.start) ⊎ (self.end ≤ c.args.index) = grind (arith, common_steps) in
    record { value = get_outside self.places self.capacity self.start self.end c.self.invariant.ordered c.args.index outside ∙ ap (λ v. token_of v c.args.index) c.self.view_is; few = tt; bounds = kept_bounded self _ c.self.invariant c.self.view_is }

pub returns : goal.returns
returns c =
    let self = c.self.inside in
    let low : self.start ≤ c.args.index = grind (arith, common_steps) in
    let high : c.args.index < self.end = grind (arith, common_steps) in
    record { value = get_held self.places self.capacity self.start self.end c.self.invariant.ordered c.args.index _ low high refl ∙ ap (λ v. token_of v c.args.index) c.self.view_is; few = omega (arith, high, c.self.invariant.few); bounds = kept_bounded self _ c.self.invariant c.self.view_is }
