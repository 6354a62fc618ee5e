use Rattle.std.proofs.Common.{◌+◌, ◌≤◌, ◌++◌, length, drop, sym, ap, ◌∙◌, subst, arith}
use lib.Utf8 as utf8
use borrow.Rule.Slice.PartMut.{put_mid}
use Rattle.std.specs.Char.{len_utf8}
use Rattle.refusals.specs.Answers.{gives}
use Rattle.characters.specs.Text.{display}
use Rattle.characters.proofs.Onward.{item_within}
use Rattle.characters.proofs.Display.{Written, written_none, written_end, written_more, written_all, written_answer, written_leaves, next_above}
use Rattle.characters.proofs.char_stream.InputData.to_display.Goals as goal

pub walk-init : goal.walk-init
walk-init g c =
    let self = g.Self.InputData in
    let t = self.meaning c.args.self.now in
    let fits : length (display t) ≤ length c.args.out.now = omega (arith, c.display_len.ensures.value) in
    (subst (λ at. Written t at 0 c.args.out.now c.args.out.now) (sym c.start_from-at.ensures.value) (written_none t (self.lawful c.args.self.now) _ fits), omega arith)

pub slice_bounds-encode-end : goal.slice_bounds-encode-end
slice_bounds-encode-end g c =
    let self = g.Self.InputData in
    let wide = c.len_utf8.ensures.value ∙ ap len_utf8 c.shown-c.ensures.value in
    let end = written_end (self.meaning c.args.self.now) (self.lawful c.args.self.now) _ _ _ _ _ c.walk.invariant.0 c.walk.invariant.1 (sym c.in-Some.ensures.value) in
    subst (λ n. c.walk.len + n ≤ length c.walk.out) (sym wide) end

pub walk-smaller : goal.walk-smaller
walk-smaller g c =
    let self = g.Self.InputData in
    let t = self.meaning c.args.self.now in
    let ok = self.lawful c.args.self.now in
    let below = item_within t ok _ _ (sym c.in-Some.ensures.value) in
    omega (arith, below, next_above t ok _ below, c.in-Some.ensures.next)

pub walk-preserved : goal.walk-preserved
walk-preserved g c =
    let self = g.Self.InputData in
    let t = self.meaning c.args.self.now in
    let ok = self.lawful c.args.self.now in
    let found = c.in-Some.ensures in
    let code = c.shown-c.ensures.value in
    let wide = c.len_utf8.ensures.value ∙ ap len_utf8 code in
    let put = ap (put_mid c.walk.len _ c.walk.out) (c.encode.ensures.after ∙ ap utf8.encode code) in
    let more = written_more t ok _ _ _ _ _ _ _ _ c.walk.invariant.0 c.walk.invariant.1 (sym found.value) found.next (ap (λ n. c.walk.len + n) wide) put in
    (more, omega (arith, more.long, c.walk.invariant.0.long, wide, written_end t ok _ _ _ _ _ c.walk.invariant.0 c.walk.invariant.1 (sym found.value)))

pub returns : goal.returns
returns g c =
    let self = g.Self.InputData in
    let t = self.meaning c.args.self.now in
    let ok = self.lawful c.args.self.now in
    let old = c.args.out.now in
    let all = written_all t ok _ _ _ _ c.walk.invariant.0 c.walk.invariant.1 (sym c.in_default.ensures.value) in
    record {
      value = ap gives all.0 ∙ written_answer t ok old c.walk.invariant.0.fits;
      after = all.1 ∙ ap (λ n. display t ++ drop n old) all.0 ∙ written_leaves t ok old c.walk.invariant.0.fits;
    }
