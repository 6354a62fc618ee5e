use Rattle.std.proofs.Common.{◌≡◌, ◌+◌, ◌≤◌, ◌++◌, length, vec_items}
use Rattle.listing.specs.Lines.{listed}
use Rattle.listing.proofs.lines.list.Given as goal

-- what is listed, and then the lines of what is to come, are the whole listing
abbrev pub invariant-pull : goal.invariant-pull
invariant-pull g l = record {
  texts : g.S.TokenSource.text l.source ≡ g.S.TokenSource.text l.initial.source;
  lines : vec_items l.out ++ listed (g.S.TokenSource.text l.initial.source) l.index (g.S.TokenSource.coming l.source) ≡ listed (g.S.TokenSource.text l.initial.source) 0 (g.S.TokenSource.coming l.initial.source);
  few : l.index + length (g.S.TokenSource.coming l.source) ≤ 1048576;
}
