use Rattle.std.proofs.Common.{◌+◌, ◌++◌, vec_items, sym, ap, ◌∙◌, append_assoc, arith}
use Rattle.listing.specs.Lines.{line, listed}
use Rattle.listing.proofs.Pulled.{some_left, pulled_more, pulled_last}
use Rattle.listing.proofs.lines.list.Goals as goal

pub pull-preserved : goal.pull-preserved
pull-preserved g c =
    let source = g.S.TokenSource in
    let text = source.text c.args.source in
    let token = c.next_token-token.result in
    let texts = c.next_token-token.ensures.texts ∙ c.pull.invariant.texts in
    let more = pulled_more text c.pull.index (source.coming c.pull.source) (source.coming c.next_token-token.new.self) c.next_token-token.result c.next_token-token.ensures.pulls (source.lawful c.pull.source).ended (sym c.if-is_eof.ensures.value) in
    let pushed = c.in_ok-push_token.ensures.after ∙ ap (λ f. vec_items c.pull.out ++ line c.pull.index token (f token)) texts in
    record {
      texts = texts;
      lines =
          ap (λ l. l ++ listed text (c.pull.index + 1) (source.coming c.next_token-token.new.self)) pushed ∙ append_assoc (vec_items c.pull.out) _ _
          ∙ ap (λ l. vec_items c.pull.out ++ l) (sym more.0) ∙ c.pull.invariant.lines;
      few = omega (arith, more.1, c.pull.invariant.few);
    }

pub returns-then-is_eof : goal.returns-then-is_eof
returns-then-is_eof g c =
    let source = g.S.TokenSource in
    let text = source.text c.args.source in
    let token = c.next_token-token.result in
    let texts = c.next_token-token.ensures.texts ∙ c.pull.invariant.texts in
    let last = pulled_last text c.pull.index (source.coming c.pull.source) (source.coming c.next_token-token.new.self) c.next_token-token.result c.next_token-token.ensures.pulls (source.lawful c.pull.source).ended (sym c.if-is_eof.ensures.value) in
    record {
      made =
          c.in_ok-push_token.ensures.after ∙ ap (λ f. vec_items c.pull.out ++ line c.pull.index token (f token)) texts
          ∙ ap (λ l. vec_items c.pull.out ++ l) (sym last) ∙ c.pull.invariant.lines;
    }

pub unreachable-requires : goal.unreachable-requires
unreachable-requires g c = omega (arith, c.pull.invariant.few, some_left (g.S.TokenSource.coming c.pull.source) (g.S.TokenSource.lawful c.pull.source).ended)
