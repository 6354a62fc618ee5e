-- The count of leading ones says in which range the first byte is, and so how long its form must be.
use Rattle.std.proofs.Common.{◌<◌, get_or, arith}
use lib.Utf8.{low_scalar}
use Rattle.std.proofs.lemmas.List.{take_rest}
use Rattle.std.proofs.lemmas.Bool.{ltb-true, ltb-false}
use Rattle.utf8.proofs.Forms.{forms, one}
use Rattle.utf8.proofs.Leads.{leads}
use Rattle.utf8.proofs.front.Goals as goal

pub returns-in_default : goal.returns-in_default
returns-in_default c = record { cases = λ d rest b. omega (arith, ltb-true, forms b) }

pub returns-in-0 : goal.returns-in-0
returns-in-0 c =
    let small : c.from.result < 0x80 = omega (arith, leads (get_or c.args.bytes.now 0 0) (omega arith)) in
    record { cases = rw take_rest (one c.args.bytes.now c.from.result (low_scalar c.from.result (omega arith)) (omega (arith, ltb-false))) }

pub two-requires : goal.two-requires
two-requires c = record { lead = omega (arith, leads (get_or c.args.bytes.now 0 0) (omega arith)) }

pub three-requires : goal.three-requires
three-requires c = record { lead = omega (arith, leads (get_or c.args.bytes.now 0 0) (omega arith)) }

pub four-requires : goal.four-requires
four-requires c = record { lead = omega (arith, leads (get_or c.args.bytes.now 0 0) (omega arith)) }

pub returns-in_default-leading_ones : goal.returns-in_default-leading_ones
returns-in_default-leading_ones c = record { cases = λ d rest b. omega (arith, forms b, leads (get_or c.args.bytes.now 0 0) (omega arith)) }
