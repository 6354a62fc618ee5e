use Rattle.windows.proofs.Texts.{Tells}
use Rattle.windows.proofs.buffer.Buffer.fits.Given as goal

-- what is left decides
abbrev pub invariant-sum : goal.invariant-sum
invariant-sum g l = Tells (g.S.TokenSource.text l.self.source) l.self.window l.from l.to l.room l.at l.left
