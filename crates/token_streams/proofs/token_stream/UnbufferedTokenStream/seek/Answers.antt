use Rattle.std.proofs.Common.{refl, rules}
use Rattle.token_streams.proofs.Steps.{together_as}
use Rattle.token_streams.proofs.token_stream.UnbufferedTokenStream.seek.Goals as goal

pub returns-clause-after : goal.returns-clause-after
returns-clause-after g c = λ u s. together_as (search rules) refl refl refl refl refl refl (c.go_to.ensures.after u s)
