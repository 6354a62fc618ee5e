use Rattle.std.proofs.Common.{◌∙◌, ⊎_elim, pos, get_or, arith, rules}
use Rattle.streams.proofs.Steps.{passed_on}
use Rattle.count_ahead.proofs.Walks.{here, walk_looked, walk_more, turning, seen_here, la_not_refused, agrees, differs, wants_eof, wants_more, ends_differing, ends_unwanted, ends_at_eof, ends_unseen, walked_more}
use Rattle.count_ahead.proofs.agreeing.Goals as goal

pub returns-in_err-la-clause-value : goal.returns-in_err-la-clause-value
returns-in_err-la-clause-value g c =
    let i = g.S.IntStream in
    let turns = turning i c.requires.opened c.requires.marked c.loop-count.invariant c.loop-count-test.true in
    λ s shown. absurd (la_not_refused s _ _ (turns s shown) i.NOTHING_BEFORE _ (c.in_err-la.ensures.value _ (c.loop-count.invariant.walked s shown).there))

pub returns-then-branch-number-clause-value : goal.returns-then-branch-number-clause-value
returns-then-branch-number-clause-value g c =
    let i = g.S.IntStream in
    let n = c.loop-count.count in
    let number = get_or c.args.wanted.now n (pos 0) in
    let turns = turning i c.requires.opened c.requires.marked c.loop-count.invariant c.loop-count-test.true in
    let is = seen_here i c.in_ok-la.field-0 c.loop-count.invariant turns c.in_ok-la.ensures.value in
    λ s shown. ends_differing s _ n (turns s shown) (pos 0) (differs c.in_ok-la.field-0 number (here s n).number c.if-branch-number.true (is s shown))

pub returns-then-number-clause-value : goal.returns-then-number-clause-value
returns-then-number-clause-value g c =
    let i = g.S.IntStream in
    let n = c.loop-count.count in
    let number = get_or c.args.wanted.now n (pos 0) in
    let turns = turning i c.requires.opened c.requires.marked c.loop-count.invariant c.loop-count-test.true in
    let is = seen_here i c.in_ok-la.field-0 c.loop-count.invariant turns c.in_ok-la.ensures.value in
    λ s shown.
    let alike = agrees c.in_ok-la.field-0 number (here s n).number (search rules) (search rules) c.if-branch-number.false (is s shown) in
    ⊎_elim (λ eof. ends_at_eof s _ n (turns s shown) (pos 0) alike (wants_eof number (here s n).number (search rules) eof alike)) (λ last. ends_unwanted s _ n (turns s shown) (pos 0) alike last.1) c.then-number.either

pub returns-in_err-consume-clause-value : goal.returns-in_err-consume-clause-value
returns-in_err-consume-clause-value g c =
    let i = g.S.IntStream in
    let n = c.loop-count.count in
    let number = get_or c.args.wanted.now n (pos 0) in
    let w = walk_looked i c.la.new.self c.loop-count.invariant c.la.ensures.after c.la.ensures.status c.la.ensures.unaltered in
    let turns = turning i c.requires.opened c.requires.marked c.loop-count.invariant c.loop-count-test.true in
    let is = seen_here i c.in_ok-la.field-0 c.loop-count.invariant turns c.in_ok-la.ensures.value in
    λ s shown.
    let alike = agrees c.in_ok-la.field-0 number (here s n).number (search rules) (search rules) c.if-branch-number.false (is s shown) in
    passed_on c.from_residual-in_err-consume.result _ c.from_residual-in_err-consume.ensures.1
    ∙ ends_unseen s _ n (turns s shown) (pos 0) alike (wants_more number (here s n).number c.if-number.false alike) (omega arith) _ (c.in_err-consume.ensures.value _ (w.walked s shown).there)

pub returns-in_err-consume-clause-unaltered : goal.returns-in_err-consume-clause-unaltered
returns-in_err-consume-clause-unaltered g c =
    let chained = g.S.IntStream.chained in
    chained _ _ _ c.loop-count.invariant.unaltered (chained _ _ _ c.la.ensures.unaltered c.consume.ensures.unaltered)

pub loop-count-preserved : goal.loop-count-preserved
loop-count-preserved g c =
    let i = g.S.IntStream in
    let n = c.loop-count.count in
    let number = get_or c.args.wanted.now n (pos 0) in
    let step = c.in_ok-consume.ensures in
    let w = walk_looked i c.la.new.self c.loop-count.invariant c.la.ensures.after c.la.ensures.status c.la.ensures.unaltered in
    let turns = turning i c.requires.opened c.requires.marked c.loop-count.invariant c.loop-count-test.true in
    let is = seen_here i c.in_ok-la.field-0 c.loop-count.invariant turns c.in_ok-la.ensures.value in
    walk_more i c.consume.new.self w
    (λ s shown.
    let alike = agrees c.in_ok-la.field-0 number (here s n).number (search rules) (search rules) c.if-branch-number.false (is s shown) in
    walked_more s _ n (turns s shown) (pos 0) alike (wants_more number (here s n).number c.if-number.false alike) _ (step.value _ (w.walked s shown).there) (step.after _ (w.walked s shown).there))
    step.status step.unaltered
