use Rattle.std.proofs.Common.{sym, ap, ◌∙◌, subst, w32, SFits, rules}
use Rattle.std.proofs.lemmas.Result.{IfOk-from_err, err_from_is_err_and}
use Rattle.std.proofs.lemmas.Int.{to_z-of_z}
use Rattle.refusals.specs.Answers.{answer, refuses}
use Rattle.refusals.specs.Numbers.{number}
use Rattle.streams.specs.Streams.{with_marks}
use Rattle.streams.specs.Calls.{seek, sought_out}
use Rattle.streams.proofs.Trips.{Trip, back_shows, back_given}
use Rattle.stream_laws.specs.Returns.{mark_made}
use Rattle.stream_laws.proofs.Wanders.{closed_unmarked, closed_status, closed_shows}
use Rattle.stream_laws.proofs.seek_back_restores.Goals as goal

pub returns-in_err-here : goal.returns-in_err-here
returns-in_err-here g c =
    let i = g.S.IntStream in
    let x = c.args.stream.now in
    let r = c.from_residual in
    let p = err_from_is_err_and r.result r.ensures.1 in
    let none = c.in_err-here.ensures.value in
    record {
      seek_back_restores = λ s shown. closed_shows i x i.NOTHING_BEFORE _ s shown (none s shown);
      accepted = λ s shown. IfOk-from_err r.result _ r.ensures.0;
      value = λ s shown. ap mark_made p.1 ∙ ap (λ d. refuses (number d)) p.2 ∙ closed_unmarked i x _ _ s shown (none s shown);
      status = λ s shown. closed_status i x _ _ s shown (none s shown);
      unaltered = i.same x;
    }

pub returns : goal.returns
returns g c =
    let i = g.S.IntStream in
    let x = c.args.stream.now in
    let here = c.in_ok-here.here in
    let fits : SFits w32 here = search rules in
    let mark = c.in_ok-mark.ensures in
    let away = c.wander.ensures in
    let back = c.seek-back.ensures in
    let trip : Trip i x c.mark.new.self c.wander.new.stream c.seek-back.new.self c.in_ok-mark.mark.number here = record {
      noted = c.in_ok-here.ensures.value;
      made = mark.value;
      mark_after = mark.after;
      mark_status = mark.status;
      went_after = away.after;
      went_status = away.status;
      seek_after = λ s shown. subst (λ k. i.shows c.seek-back.new.self (sought_out s k)) (to_z-of_z w32 here fits) (back.after s shown);
      seek_status = back.status;
    } in
    record {
      seek_back_restores = λ s shown. subst (λ t. i.shows c.seek-back.new.self (with_marks s t.marks)) (sym (back.status ∙ away.status)) (back_shows i trip s shown);
      accepted = back_given i trip (answer c.seek-back.result) (λ s shown. back.value s shown ∙ ap (seek s) (to_z-of_z w32 here fits));
      value = λ s shown. mark.value;
      status = λ s shown. back.status ∙ away.status ∙ mark.status;
      unaltered = i.chained _ _ _ mark.unaltered (i.chained _ _ _ away.unaltered back.unaltered);
    }
