use Rattle.std.proofs.Common.{subst, w32, SFits, rules}
use Rattle.std.proofs.lemmas.Int.{to_z-of_z}
use Rattle.refusals.specs.Answers.{answer}
use Rattle.streams.specs.Calls.{sought_out}
use Rattle.streams.proofs.Trips.{Trip, unmarked_shows, done_status, done_shows}
use Rattle.count_ahead.proofs.Counts.{counted_marked, counted_longest}
use Rattle.count_ahead.proofs.count_ahead.Goals as goal

pub returns-in_err-mark-clause-after : goal.returns-in_err-mark-clause-after
returns-in_err-mark-clause-after g c = let mark = c.in_err-mark.ensures in unmarked_shows g.S.IntStream c.args.stream.now c.mark.new.self _ mark.value mark.status mark.after

pub returns : goal.returns
returns g c =
    let i = g.S.IntStream in
    let x = c.args.stream.now in
    let here = c.in_ok-here.here in
    let fits : SFits w32 here = search rules in
    let mark = c.in_ok-mark.ensures in
    let walk = c.agreeing-count.ensures in
    let back = c.seek.ensures in
    let end = c.release.ensures in
    let trip : Trip i x c.mark.new.self c.agreeing-count.new.stream c.seek.new.self c.in_ok-mark.mark.number here = record {
      noted = c.in_ok-here.ensures.value;
      made = mark.value;
      mark_after = mark.after;
      mark_status = mark.status;
      went_after = walk.after;
      went_status = walk.status;
      seek_after = λ s shown. subst (λ k. i.shows c.seek.new.self (sought_out s k)) (to_z-of_z w32 here fits) (back.after s shown);
      seek_status = back.status;
    } in
    let value = counted_marked i trip c.args.wanted.now (answer c.agreeing-count.result) walk.value in
    record {
      value = value;
      longest = λ s shown. counted_longest s c.args.wanted.now c.agreeing-count.result (value s shown);
      after = done_shows i trip c.release.new.self end.status end.after;
      status = done_status i trip c.release.new.self end.status;
      unaltered =
          i.chained _ _ _ mark.unaltered (i.chained _ _ _ walk.unaltered (i.chained _ _ _ back.unaltered end.unaltered));
    }
