use Rattle.std.proofs.Common.{◌≡◌, ◌++◌, map, vec_items}
use Rattle.scripts.specs.Sayings.{saying}
use Rattle.scripts.specs.Scripts.{sayings}
use Rattle.scripts.proofs.reading.read_script.Given as goal

abbrev pub invariant-loop-text : goal.invariant-loop-text
invariant-loop-text l = map saying (vec_items l.lines) ++ sayings l.text-iterator.lines.script.now ≡ sayings l.script
