use Rattle.std.proofs.Common.{sym, refl, ap, ◌∙◌, w32}
use Rattle.std.proofs.lemmas.Int.{to_z-of_z}
use Rattle.streams.specs.Calls as symbols
use Rattle.token_streams.specs.Calls.{seek, after_seek}
use Rattle.token_streams.proofs.Steps.{together_as}
use Rattle.token_streams.proofs.Symbols.{seek_same, sought_out_same, feed_seek}
use Rattle.token_streams.proofs.token_stream.symbols.UnbufferedTokenStreamIntStream.seek.Goals as goal

pub returns : goal.returns
returns g c =
    let found = c.seek.ensures in
    let i = c.args.index in
    let passed = to_z-of_z w32 i c.ranges.index in
    record {
      value = λ s of.
          let u = of.stream in
          found.value u of.is_shown ∙ ap (seek u) passed ∙ sym (seek_same u of.is_shown.holds.ended of.is_shown.on_token i) ∙ ap (λ s. symbols.seek s i) (sym of.symbols);
      after = λ s of.
          let u = of.stream in
          record {
            stream = after_seek u i;
            is_shown = together_as (ap (after_seek u) (sym passed)) refl refl refl refl refl refl (found.after u of.is_shown);
            symbols = ap (λ s. symbols.sought_out s i) of.symbols ∙ sought_out_same u of.is_shown.holds.ended of.is_shown.on_token i;
          };
      status = found.status;
      unaltered = λ u s. record { stream = after_seek u _; is_shown = found.after u s; same_feed = feed_seek u _ };
    }
