use Rattle.std.proofs.Common.{sym, refl, arith}
use Rattle.std.proofs.lemmas.Bool.{eqb-false}
use Rattle.scripts.proofs.Digits.{digit_more, digit_missing, too_large, all_digits, sum_is}
use Rattle.scripts.proofs.numerals.natural.Goals as goal

pub returns-in_err-digit : goal.returns-in_err-digit
returns-in_err-digit c =
    record { value = rw c.from_residual.ensures (digit_missing _ _ _ _ c.loop-byte.invariant.0 _ _ c.from.ensures (omega arith) c.in_err-digit.ensures.value) }

pub returns-then-number-gt-MOST : goal.returns-then-number-gt-MOST
returns-then-number-gt-MOST c =
    let told = c.in_ok-digit.ensures.value in
    let sum = sum_is _ _ _ _ _ _ _ refl c.from-in-loop-byte.ensures c.from-in-loop-byte-2.ensures told.1 in
    let so_far = digit_more _ _ _ _ c.loop-byte.invariant.0 _ _ c.from.ensures (omega arith) told.0 sum in
    record { value = too_large _ _ _ _ so_far _ (omega arith) c.if-number-gt-MOST.true }

pub loop-byte-preserved : goal.loop-byte-preserved
loop-byte-preserved c =
    let told = c.in_ok-digit.ensures.value in
    let sum = sum_is _ _ _ _ _ _ _ refl c.from-in-loop-byte.ensures c.from-in-loop-byte-2.ensures told.1 in
    (digit_more _ _ _ _ c.loop-byte.invariant.0 _ _ c.from.ensures (omega arith) told.0 sum, c.if-number-gt-MOST.false)

pub returns : goal.returns
returns c =
    let some = eqb-false _ _ (sym c.if-is_empty.ensures) in
    record { value = all_digits _ _ _ _ c.loop-byte.invariant.0 _ (omega (arith, some)) c.loop-byte-test.false c.loop-byte.invariant.1 }
