use Rattle.std.proofs.Common.{sym, ap, ◌∙◌, subst, arith}
use Rattle.std.specs.Char.{len_utf8}
use Rattle.characters.proofs.Onward.{item_within}
use Rattle.characters.proofs.Display.{Counted, counted_none, counted_more, counted_all, next_above}
use Rattle.characters.proofs.char_stream.InputData.display_len.Goals as goal

pub walk-init : goal.walk-init
walk-init g c =
    let self = g.Self.InputData in
    let t = self.meaning c.args.self.now in
    subst (λ at. Counted t at 0) (sym c.start_from-at.ensures.value) (counted_none t (self.lawful c.args.self.now))

pub overflow_add-len : goal.overflow_add-len
overflow_add-len g c =
    let self = g.Self.InputData in
    let ok = self.lawful c.args.self.now in
    let below = item_within (self.meaning c.args.self.now) ok _ _ (sym c.in-Some.ensures.value) in
    record { fits = omega (arith, c.walk.invariant.small, ok.few, below, c.len_utf8-len.ensures.upper_bound) }

pub walk-smaller : goal.walk-smaller
walk-smaller g c =
    let self = g.Self.InputData in
    let t = self.meaning c.args.self.now in
    let ok = self.lawful c.args.self.now in
    let below = item_within t ok _ _ (sym c.in-Some.ensures.value) in
    omega (arith, below, next_above t ok _ below, c.in-Some.ensures.next)

pub walk-preserved : goal.walk-preserved
walk-preserved g c =
    let self = g.Self.InputData in
    let found = c.in-Some.ensures in
    counted_more (self.meaning c.args.self.now) (self.lawful c.args.self.now) _ _ _ _ _ c.walk.invariant (sym found.value) found.next (c.len_utf8-len.ensures.value ∙ ap len_utf8 c.shown.ensures.value)

pub returns : goal.returns
returns g c =
    let self = g.Self.InputData in
    record { value = counted_all (self.meaning c.args.self.now) (self.lawful c.args.self.now) _ _ c.walk.invariant (sym c.in_default.ensures.value) }
