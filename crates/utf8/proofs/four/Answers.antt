-- Each way out with nothing breaks a rule of the four bytes that a code point would begin with.
use Rattle.std.proofs.Common.{arith}
use Rattle.std.proofs.lemmas.List.{take_rest}
use Rattle.std.proofs.lemmas.Bool.{ltb-true, ltb-false}
use Rattle.utf8.proofs.Forms.{forms, four, proper_at}
use Rattle.utf8.proofs.four.Goals as goal

pub returns-in_default : goal.returns-in_default
returns-in_default c = record { cases = λ d rest b. omega (arith, ltb-true, forms b) }

pub returns-in_err-tail : goal.returns-in_err-tail
returns-in_err-tail c = rw c.from_residual.ensures record { cases = λ d rest b. c.in_err-tail.ensures.cases (omega (arith, forms b)) }

pub returns-in_err-tail-2 : goal.returns-in_err-tail-2
returns-in_err-tail-2 c = rw c.from_residual-in_err-tail-2.ensures record { cases = λ d rest b. c.in_err-tail-2.ensures.cases (omega (arith, forms b)) }

pub returns-in_err-code : goal.returns-in_err-code
returns-in_err-code c = rw c.from_residual-in_err-code.ensures record { cases = λ d rest b. c.in_err-code.ensures.cases (omega (arith, forms b)) }

pub returns-in_err-proper : goal.returns-in_err-proper
returns-in_err-proper c =
    let second = c.in_ok-tail.ensures in
    let third = c.in_ok-tail-2.ensures in
    let fourth = c.in_ok-code.ensures in
    rw c.from_residual-in_err-proper.ensures record {
      cases = λ d rest b. c.in_err-proper.ensures.cases (proper_at b (omega (arith, forms b)));
    }

pub returns : goal.returns
returns c =
    let second = c.in_ok-tail.ensures in
    let third = c.in_ok-tail-2.ensures in
    let fourth = c.in_ok-code.ensures in
    let p = c.in_ok-proper.ensures.cases in
    record { cases = rw take_rest (four c.args.bytes.now _ p.1.value (omega (arith, ltb-false))) }
