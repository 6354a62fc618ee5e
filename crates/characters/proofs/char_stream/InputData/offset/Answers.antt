use Rattle.std.proofs.Common.{◌≡◌, ◌^◌, ◌<◌, ◌≤◌, ℤ, pos, Some, Option, sym, ap, ◌∙◌, subst, arith, w32, to_z, of_z}
use Rattle.std.proofs.lemmas.Int.{to_z-of_z, to_z_pos}
use Rattle.characters.specs.Text.{Text, Lawful}
use Rattle.characters.specs.Signed.{moved, offset, Returns}
use Rattle.characters.proofs.Asked.{made, steps_on, steps_back, offset_is, moved_within, returning}
use Rattle.characters.proofs.char_stream.InputData.offset.Given as given
use Rattle.characters.proofs.char_stream.InputData.offset.Goals as goal
use Rattle.characters.proofs.char_stream.InputData.offset.Goals.{then-item_offset-lt0, else-item_offset-lt0}

module _ (g : given.Over) (c : goal.In_ok-at g) where
  reached : Some c.in_ok-at.at ≡ moved (g.Self.InputData.meaning c.args.self.now) c.in_ok-from.from c.args.item_offset
  reached =
      let t = g.Self.InputData.meaning c.args.self.now in
      let k = to_z-of_z w32 c.args.item_offset c.ranges.item_offset in
      let n = c.unsigned_abs-steps.ensures.value in
      sym c.in_ok-at.was
      ∙ elim c.if-item_offset-lt0.branch [
        | then-item_offset-lt0 w ↦ w.branch'-is ∙ steps_back t _ _ _ _ _ k n w.if-item_offset-lt0.true w.back.ensures.value
        | else-item_offset-lt0 w ↦ w.branch'-is ∙ steps_on t _ _ _ _ _ k n w.if-item_offset-lt0.false w.on.ensures.value
      ]

  from_within : c.in_ok-from.from ≤ (g.Self.InputData.meaning c.args.self.now).size
  from_within = omega (arith, c.len.ensures.value)

  at_within : c.in_ok-at.at < 2 ^ 31
  at_within =
      let self = g.Self.InputData in
      let ok = self.lawful c.args.self.now in
      omega (arith, ok.few, moved_within (self.meaning c.args.self.now) ok _ _ c.args.item_offset from_within (sym reached))

  value : Some (to_z w32 (of_z w32 (pos c.in_ok-at.at))) ≡ offset (g.Self.InputData.meaning c.args.self.now) c.args.index c.args.item_offset
  value =
      let index = sym (to_z-of_z w32 c.args.index c.ranges.index) ∙ made _ _ _ c.try_from.ensures c.in_ok-from.ensures.value in
      ap Some (to_z_pos w32 c.in_ok-at.at at_within) ∙ offset_is _ c.args.index c.args.item_offset _ _ index from_within reached

pub overflow_cast-result : goal.overflow_cast-result
overflow_cast-result g c = record { sfits = at_within g c }

pub returns-clause-value : goal.returns-clause-value
returns-clause-value g c = value g c

-- the law of steps on and back holds of whatever the definition gives
both : (t : Text) (ok : Lawful t) (index k : ℤ) (r : Option ℤ) → r ≡ offset t index k → Returns t index k r
both t ok index k r e = subst (Returns t index k) (sym e) (returning t ok index k)

pub returns-clause-returns : goal.returns-clause-returns
returns-clause-returns g c = both _ (g.Self.InputData.lawful c.args.self.now) _ _ _ (value g c)
