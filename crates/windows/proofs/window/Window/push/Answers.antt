use Rattle.std.proofs.Common.{◌≡◌, ◌+◌, ◌%◌, ◌<◌, length, pos, sym, ap, ◌∙◌, arith, w32, to_z}
use Rattle.std.proofs.lemmas.Int.{ints}
use Rattle.std.proofs.lemmas.List.{get_or-set_same}
use Rattle.tokens.specs.Tokens.{with_index}
use Rattle.windows.specs.Windows.{pushed}
use Rattle.windows.proofs.Ring.{seen, seen_bounded, push_full, push_late, push_one, kept_bounded}
use Rattle.windows.proofs.window.Window.push.Goals.{then-self-ge-PLACES-via-then-self-ge-PLACES, then-self-ge-PLACES-via-else-self-ge-PLACES+then-self-ge-MOST_TOKENS}
use Rattle.windows.proofs.window.Window.push.Goals as goal

pub returns-then-self-ge-PLACES : goal.returns-then-self-ge-PLACES
returns-then-self-ge-PLACES c =
    let self = c.self.inside in
    let held = seen self.places self.capacity self.start self.end in
    let kept : held ≡ pushed held c.args.token = elim c.then-self-ge-PLACES.branch [
      | then-self-ge-PLACES-via-then-self-ge-PLACES w ↦ push_full self.places self.capacity self.start self.end c.self.invariant.ordered c.args.token (omega arith)
      | then-self-ge-PLACES-via-else-self-ge-PLACES+then-self-ge-MOST_TOKENS w ↦ push_late self.places self.capacity self.start self.end c.self.invariant.ordered c.args.token (omega arith)
    ] in
    record {
      after = sym c.self.view_is ∙ kept ∙ ap (λ v. pushed v c.args.token) c.self.view_is;
      was = kept_bounded self _ c.self.invariant c.self.view_is;
      bounds = kept_bounded self _ c.self.invariant c.self.view_is;
    }

pub returns : goal.returns
returns c =
    let self = c.self.inside in
    let inside : self.end % 2048 < length self.places = omega (arith, c.self.invariant.whole) in
    let number : to_z w32 self.end ≡ pos self.end = omega (arith, ints, c.self.invariant.few) in
    let lent = get_or-set_same self.places (self.end % 2048) c.args.token _ inside in
    record {
      after =
          push_one self.places self.capacity self.start self.end c.self.invariant.ordered c.args.token c.args.token _ c.self.invariant.whole (omega arith) (omega arith)
          (c.set_token_index.ensures.after ∙ (λ i. with_index (number i) (lent i))) ∙ ap (λ v. pushed v c.args.token) c.self.view_is;
      was = kept_bounded self _ c.self.invariant c.self.view_is;
      bounds = seen_bounded _ self.capacity self.start (self.end + 1) (omega (arith, c.self.invariant.ordered)) c.self.invariant.admitted (omega arith) (omega arith);
    }
