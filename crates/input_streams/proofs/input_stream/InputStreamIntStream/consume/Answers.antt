use Rattle.std.proofs.Common.{◌≡◌, suc, Some, None, IfSome, sym, ◌∙◌, subst, rules}
use Rattle.std.specs.Option.{option_map}
use Rattle.refusals.specs.Answers.{answer, refuses}
use Rattle.characters.specs.declared.char_stream.CodePoint.{CodePoint}
use Rattle.characters.specs.Text.{item_at, start_from}
use Rattle.input_streams.proofs.Moves.{start_small, not_consumed, is_consumed}
use Rattle.input_streams.proofs.input_stream.InputStreamIntStream.consume.Goals as goal

pub returns-in_err-point : goal.returns-in_err-point
returns-in_err-point g c =
    let input = g.D.InputData in
    let self = c.args.self.now in
    let none : None ≡ item_at (input.meaning self.text) self.index = subst (λ o. option_map (λ (p : CodePoint). p.code) o ≡ item_at (input.meaning self.text) self.index) c.in_err-point.ensures.ok_part c.code_point.ensures.value in
    let refused : answer c.from_residual.result ≡ refuses 2 = search rules in
    record {
      value = λ s shown. refused ∙ (not_consumed (input.meaning self.text) (input.lawful self.text) _ _ s shown (sym none)).0;
      after = λ s shown. (not_consumed (input.meaning self.text) (input.lawful self.text) _ _ s shown (sym none)).1;
      status = search rules;
      unaltered = search rules;
    }

pub invariant_of-self-2 : goal.invariant_of-self-2
invariant_of-self-2 g c =
    let input = g.D.InputData in
    let self = c.args.self.now in
    let next : c.in_ok-point.point.next ≡ start_from (input.meaning self.text) (suc self.index) = subst (λ o. IfSome o (λ p. p.next ≡ start_from (input.meaning self.text) (suc self.index))) c.in_ok-point.ensures.ok_part c.code_point.ensures.next in
    record { inside = start_small (input.meaning self.text) (input.lawful self.text) _ _ next; alike = self.alike }

pub returns : goal.returns
returns g c =
    let input = g.D.InputData in
    let self = c.args.self.now in
    let code : Some c.in_ok-point.point.code ≡ item_at (input.meaning self.text) self.index = subst (λ o. option_map (λ (p : CodePoint). p.code) o ≡ item_at (input.meaning self.text) self.index) c.in_ok-point.ensures.ok_part c.code_point.ensures.value in
    let next : c.in_ok-point.point.next ≡ start_from (input.meaning self.text) (suc self.index) = subst (λ o. IfSome o (λ p. p.next ≡ start_from (input.meaning self.text) (suc self.index))) c.in_ok-point.ensures.ok_part c.code_point.ensures.next in
    record {
      value = λ s shown. (is_consumed (input.meaning self.text) (input.lawful self.text) _ _ s shown _ _ (sym code) next).0;
      after = λ s shown. (is_consumed (input.meaning self.text) (input.lawful self.text) _ _ s shown _ _ (sym code) next).1;
      status = search rules;
      unaltered = search rules;
    }
