use Rattle.std.proofs.Common.{sym, refl, ◌∙◌}
use Rattle.windows.proofs.Filling.{wanted, pull_falls, filling_more, filling_done}
use Rattle.windows.proofs.buffer.Buffer.pull_to.Goals as goal

pub pull-preserved : goal.pull-preserved
pull-preserved g c = (
  filling_more _ _ c.args.index _ _ _ _ (c.pull-test.ensures.admitted refl) c.pull.invariant.0 (wanted _ c.args.index (sym c.pull-test.ensures.value)) c.pull-in-pull.ensures.after,
  c.pull-in-pull.ensures.texts ∙ c.pull.invariant.1,
)

pub pull-smaller : goal.pull-smaller
pull-smaller g c =
    pull_falls _ _ c.args.index _ _ _ _ (c.pull-test.ensures.admitted refl) c.pull.invariant.0 (wanted _ c.args.index (sym c.pull-test.ensures.value)) c.pull-in-pull.ensures.after

pub returns-clause-pulled : goal.returns-clause-pulled
returns-clause-pulled g c = filling_done _ _ c.args.index _ _ c.pull.invariant.0 (sym c.pull-test.ensures.value)
