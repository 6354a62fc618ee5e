use Rattle.std.proofs.Common.{◌≡◌, ◌<◌, length, get_or, pos, sym, refl, ap, ◌∙◌, subst, arith}
use Rattle.std.proofs.lemmas.List.{drop_more}
use Rattle.std.proofs.lemmas.Bool.{cond-true, cond-false, lt-ltb, le-ltb}
use Rattle.token_streams.proofs.Steps.{together_as}
use Rattle.runs.specs.declared.call.Call.TheVariants.{Open}
use Rattle.runs.specs.Runs.{after, after_all, left_by_all}
use Rattle.runs.specs.Laws.{ShowsTheList}
use Rattle.runs.proofs.Lists.{of_list}
use Rattle.runs.proofs.Ran.{ran_none, ran_more, the_law, none_made, none_replied, finished}
use Rattle.runs.proofs.session.Session.run.Goals as goal

pub returns-then-answers-calls : goal.returns-then-answers-calls
returns-then-answers-calls g c =
    let cs = c.args.calls.now in
    let before = c.args.answers.now in
    let old = c.args.out.now in
    let short = c.if-answers-calls.true in
    record {
      value = sym (cond-true _ _ _ (lt-ltb (length before) (length cs) short));
      replies = λ u s. none_replied u old cs before short;
      after = λ u s. together_as (ap (after_all u) (none_made u old cs before short)) refl refl refl refl refl refl s;
      output = λ u s. ap (left_by_all u old) (sym (none_made u old cs before short));
      shows_the_list = λ u s. subst (ShowsTheList u old) (sym (none_made u old cs before short)) (the_law u old _ u _ _ _ _ _ _ refl refl tt s);
    }

pub loop-at-init : goal.loop-at-init
loop-at-init g c = λ u s. record { stream = u; is_shown = s; ran = ran_none u _ _ _ }

pub loop-at-preserved : goal.loop-at-preserved
loop-at-preserved g c =
    let at = c.loop-at.at in
    let made = c.call.ensures in
    let inside : at < length c.args.answers.now = omega (arith, c.loop-at-test.true, c.if-answers-calls.false) in
    let here = get_or c.args.calls.now at (Open (pos 0)) in
    let next = drop_more c.args.calls.now at (Open (pos 0)) c.loop-at-test.true in
    λ u s.
    let go = c.loop-at.invariant u s in
    record {
      stream = after go.stream here;
      is_shown = made.after go.stream go.is_shown;
      ran = ran_more u _ _ _ at go.stream _ _ here _ c.call.result go.ran inside next (made.value go.stream go.is_shown) (made.output go.stream go.is_shown) (of_list go.stream _ _ _ _ _ _ go.is_shown c.loop-at.out here);
    }

pub returns : goal.returns
returns g c =
    let cs = c.args.calls.now in
    let before = c.args.answers.now in
    let old = c.args.out.now in
    let room = c.if-answers-calls.false in
    let at = c.loop-at.at in
    let all : at ≡ length cs = omega arith in
    record {
      value = sym (cond-false _ _ _ (le-ltb (length before) (length cs) room));
      replies = λ u s. (finished _ _ _ _ _ _ _ _ room all (c.loop-at.invariant u s).ran).replied;
      after = λ u s. let e = finished _ _ _ _ _ _ _ _ room all (c.loop-at.invariant u s).ran in together_as (ap (after_all u) e.made ∙ e.after_is) refl refl refl refl refl refl (c.loop-at.invariant u s).is_shown;
      output = λ u s. let e = finished _ _ _ _ _ _ _ _ room all (c.loop-at.invariant u s).ran in sym e.left_is ∙ ap (left_by_all u old) (sym e.made);
      shows_the_list = λ u s.
          let e = finished _ _ _ _ _ _ _ _ room all (c.loop-at.invariant u s).ran in
          subst (ShowsTheList u old) (sym e.made) (the_law u old cs _ _ _ _ _ _ _ e.after_is e.same_feed e.tokens (c.loop-at.invariant u s).is_shown);
    }
