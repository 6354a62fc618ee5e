use Rattle.std.proofs.Common.{◌≡◌, sym, ap, ◌∙◌, w32}
use Rattle.std.proofs.lemmas.Int.{to_z-of_z}
use Rattle.refusals.specs.Answers.{answer}
use Rattle.streams.specs.Streams.{Stream}
use Rattle.streams.specs.Calls.{la}
use Rattle.stream_laws.proofs.Laws.{end_stays}
use Rattle.stream_laws.proofs.end_stays.Goals as goal

pub returns : goal.returns
returns g c =
    let i = g.S.IntStream in
    let x = c.args.stream.now in
    let one = c.la-near.ensures in
    let two = c.la-far.ensures in
    let near : (s : Stream) → i.shows x s → answer c.la-near.result ≡ la s i.NOTHING_BEFORE c.args.near =
    λ s shown. one.value s shown ∙ ap (la s i.NOTHING_BEFORE) (to_z-of_z w32 c.args.near c.ranges.near) in
    let far : (s : Stream) → i.shows x s → answer c.la-far.result ≡ la s i.NOTHING_BEFORE c.args.far =
    λ s shown. two.value s (one.after s shown) ∙ ap (la s i.NOTHING_BEFORE) (to_z-of_z w32 c.args.far c.ranges.far) in
    record {
      end_stays = λ s shown low further met.
          far s shown ∙ end_stays s i.NOTHING_BEFORE c.args.near c.args.far (i.lawful x s shown).0 low further (sym (near s shown) ∙ met);
      near = near;
      far = far;
      after = λ s shown. two.after s (one.after s shown);
      status = two.status ∙ one.status;
      unaltered = i.chained _ _ _ one.unaltered two.unaltered;
    }
