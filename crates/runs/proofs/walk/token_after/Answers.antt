use Rattle.std.proofs.Common.{◌≡◌, sym, refl, ap, ◌∙◌, subst, arith, w32}
use Rattle.std.proofs.lemmas.Int.{to_z-of_z}
use Rattle.streams.proofs.Steps.{passed_on}
use Rattle.windows.specs.Windows.{admission}
use Rattle.token_streams.specs.Unbuffered.{Feed, unopened}
use Rattle.token_streams.specs.Calls.{after_open, opened_with}
use Rattle.token_streams.proofs.Steps.{together_as}
use Rattle.runs.proofs.Walks.{Walking, walking_on, comes, opens, stays_closed}
use Rattle.runs.proofs.walk.token_after.Goals as goal

pub returns-in_err-open : goal.returns-in_err-open
returns-in_err-open g c =
    let passed = to_z-of_z w32 c.args.capacity c.ranges.capacity in
    let refused = c.in_err-open.ensures.value _ c.new_unbuffered-stream.ensures.shows ∙ ap admission passed in
    record { every_token_comes = passed_on c.from_residual.result _ c.from_residual.ensures.1 ∙ stays_closed (g.S.TokenSource.coming c.args.token_source) c.args.capacity c.args.steps _ refused }

pub loop-preserved : goal.loop-preserved
loop-preserved g c = λ u s o m z.
    let w = c.loop.invariant u s o m z in
    walking_on _ _ u.feed.list c.loop.counter w _ _ _ _ _ _ w.is_shown (c.consume.ensures.after w.stream w.is_shown)

pub returns : goal.returns
returns g c =
    let feed : Feed = record { list = g.S.TokenSource.coming c.args.token_source; text = g.S.TokenSource.text c.args.token_source } in
    let start = c.new_unbuffered-stream.ensures.shows in
    let passed = to_z-of_z w32 c.args.capacity c.ranges.capacity in
    let admitted = c.in_ok-open.ensures.value _ start ∙ ap admission passed in
    let opened = opened_with (unopened feed) c.args.capacity in
    let shown = together_as (sym (ap (after_open (unopened feed)) passed ∙ opens feed c.args.capacity admitted)) refl refl refl refl refl refl (c.open.ensures.after _ start) in
    let all : c.loop.counter ≡ c.args.steps = omega arith in
    let w = subst (Walking _ feed.list) all (c.loop.invariant opened shown refl refl refl) in
    record { every_token_comes = c.lt.ensures.value w.stream w.is_shown ∙ comes _ feed.list c.args.capacity c.args.steps w _ _ _ _ _ _ w.is_shown admitted }
