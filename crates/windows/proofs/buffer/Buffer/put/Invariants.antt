use Rattle.windows.proofs.Texts.{Put}
use Rattle.windows.proofs.buffer.Buffer.put.Given as goal

abbrev pub invariant-put : goal.invariant-put
invariant-put g l = Put (g.S.TokenSource.text l.self.source) l.self.window l.from l.to l.at l.len l.initial.out l.out
