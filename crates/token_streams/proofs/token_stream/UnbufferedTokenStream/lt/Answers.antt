use Rattle.std.proofs.Common.{refl, rules}
use Rattle.token_streams.proofs.Steps.{together_as}
use Rattle.token_streams.proofs.token_stream.UnbufferedTokenStream.lt.Goals as goal

pub returns-in-Greater-clause-after : goal.returns-in-Greater-clause-after
returns-in-Greater-clause-after g c = λ u s. together_as (search rules) refl refl refl refl refl refl (c.ahead.ensures.after u s)
