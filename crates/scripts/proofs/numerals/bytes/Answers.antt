use Rattle.std.proofs.Common.{◌≡◌, ℕ, List, IfOk, vec_items, subst}
use Rattle.std.specs.Option.{option_map}
use Rattle.scripts.specs.Numerals.{paired}
use Rattle.scripts.proofs.Wording.{joined_words}
use Rattle.scripts.proofs.numerals.bytes.Goals as goal

pub returns : goal.returns
returns c =
    record { made = subst (λ (l : List ℕ). IfOk c.pairs.result (λ o. option_map vec_items o ≡ paired l)) (joined_words c.args.line.now) c.pairs.ensures.made }
