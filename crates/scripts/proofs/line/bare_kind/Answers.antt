use Rattle.std.proofs.Common.{◌≡◌, codes, rules, arith}
use Rattle.std.proofs.lemmas.Slice.Eq.{text_from_reads}
use Rattle.scripts.proofs.line.bare_kind.Goals as goal

pub returns-in-unbuffered : goal.returns-in-unbuffered
returns-in-unbuffered c =
    let e : c.args.kind.now ≡ codes "unbuffered" = text_from_reads _ _ (omega arith) (search rules) in
    record { value = rw e (search rules) }
