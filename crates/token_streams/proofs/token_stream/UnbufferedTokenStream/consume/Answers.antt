use Rattle.std.proofs.Common.{◌<◌, IfSome, sym, refl, ap, ◌∙◌, subst, arith}
use Rattle.token_streams.proofs.Together.{frees}
use Rattle.token_streams.proofs.Steps.{together_as, consume_finds_full, consume_finds_eof, consume_finds_next}
use Rattle.token_streams.proofs.token_stream.UnbufferedTokenStream.consume.Goals as goal

pub returns-in_err-at-clause-after : goal.returns-in_err-at-clause-after
returns-in_err-at-clause-after g c = λ u s.
    let see = c.see.ensures in
    (consume_finds_full s c.in_ok-opened.ensures.open _ _ _ see.start see.capacity see.after see.texts see.pulled (λ list holds. sym c.in_err-at.ensures.ok_part ∙ see.value list holds)).1

pub returns-then-at-self-clause-after : goal.returns-then-at-self-clause-after
returns-then-at-self-clause-after g c = λ u s.
    let see = c.see.ensures in
    (consume_finds_eof s c.in_ok-opened.ensures.open _ _ _ see.start see.capacity see.after see.texts see.pulled c.in_ok-at.at (λ list holds. sym c.in_ok-at.ensures.ok_part ∙ see.value list holds) c.if-at-self.true).1

pub invariant_of-self-2 : goal.invariant_of-self-2
invariant_of-self-2 g c =
    let few : c.in_ok-at.at < 1048576 = subst (λ o. IfSome o (λ i. i < 1048576)) c.in_ok-at.ensures.ok_part c.see.ensures.few in
    record { few = omega (arith, few); falling = c.args.self.now.falling; unmarked = c.args.self.now.unmarked }

pub returns-clause-after : goal.returns-clause-after
returns-clause-after g c = λ u s.
    let see = c.see.ensures in
    let settled = c.settle.ensures in
    let self = c.args.self.now in
    together_as refl settled.window (ap g.S.TokenSource.coming settled.source) (ap g.S.TokenSource.text settled.source) settled.cursor settled.before settled.status
    (consume_finds_next s c.in_ok-opened.ensures.open _ _ _ see.start see.capacity see.after see.texts see.pulled c.in_ok-at.at (λ list holds. sym c.in_ok-at.ensures.ok_part ∙ see.value list holds) c.if-at-self.false _ (frees self.marks.numbering self.marks.out)).1
