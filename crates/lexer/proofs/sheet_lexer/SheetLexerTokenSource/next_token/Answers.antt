use Rattle.std.proofs.Common.{sym, refl, arith}
use Rattle.lexer.proofs.Passing.{next_start, end_within}
use Rattle.lexer.proofs.Pulling.{pulled_eof, pulled_more, passed_wide, line_feed_line, line_feed_column, same_line, same_line_column}
use Rattle.lexer.proofs.sheet_lexer.SheetLexerTokenSource.next_token.Goals as goal

pub returns-in_default : goal.returns-in_default
returns-in_default g c =
    let self = c.args.self.now in
    record {
      pulls = pulled_eof (g.D.InputData.meaning self.input) (g.D.InputData.lawful self.input) self.at self.line self.column _ (sym c.in_default.ensures.value) c.eof.ensures.value;
      texts = refl;
    }

pub invariant_of-second : goal.invariant_of-second
invariant_of-second g c =
    let input = c.args.self.now.input in
    record { start = next_start (g.D.InputData.meaning input) (g.D.InputData.lawful input) _ _ c.in-Some.ensures.next }

pub token-token-requires : goal.token-token-requires
token-token-requires g c =
    let self = c.args.self.now in
    record { fits = end_within (g.D.InputData.meaning self.input) (g.D.InputData.lawful self.input) _ c.rest_of_match-piece.ensures.passed.start }

pub invariant_of-self-in-LineFeed : goal.invariant_of-self-in-LineFeed
invariant_of-self-in-LineFeed g c =
    let self = c.args.self.now in
    let t = g.D.InputData.meaning self.input in
    let ok = g.D.InputData.lawful self.input in
    let found = c.in-Some.ensures in
    let passed = c.rest_of_match-piece.ensures.passed in
    let wide = passed_wide t ok _ _ _ _ _ _ (sym found.value) found.next passed in
    record { inside = end_within t ok _ passed.start; lines = omega (arith, self.lines, wide); columns = omega arith }

pub invariant_of-self-in_default-class : goal.invariant_of-self-in_default-class
invariant_of-self-in_default-class g c =
    let self = c.args.self.now in
    let t = g.D.InputData.meaning self.input in
    let ok = g.D.InputData.lawful self.input in
    let found = c.in-Some.ensures in
    let passed = c.rest_of_match-piece.ensures.passed in
    let wide = passed_wide t ok _ _ _ _ _ _ (sym found.value) found.next passed in
    record { inside = end_within t ok _ passed.start; lines = omega (arith, self.lines, wide); columns = omega (arith, self.columns, wide) }

pub returns-in-LineFeed : goal.returns-in-LineFeed
returns-in-LineFeed g c =
    let self = c.args.self.now in
    let found = c.in-Some.ensures in
    let feed = c.in-LineFeed.is in
    record {
      pulls =
          pulled_more (g.D.InputData.meaning self.input) (g.D.InputData.lawful self.input) _ _ _ _ _ _ _ _ _ _ _ (sym found.value) found.next c.class_of-class.ensures.value
          c.rest_of_match-piece.ensures.passed c.token-token.ensures.value (sym (line_feed_line _ self.line feed)) (sym (line_feed_column _ _ self.column feed));
      texts = refl;
    }

pub returns-in_default-class : goal.returns-in_default-class
returns-in_default-class g c =
    let self = c.args.self.now in
    let found = c.in-Some.ensures in
    let other = c.in_default-class.not-LineFeed in
    record {
      pulls =
          pulled_more (g.D.InputData.meaning self.input) (g.D.InputData.lawful self.input) _ _ _ _ _ _ _ _ _ _ _ (sym found.value) found.next c.class_of-class.ensures.value
          c.rest_of_match-piece.ensures.passed c.token-token.ensures.value (sym (same_line _ self.line other)) (sym (same_line_column _ _ self.column other));
      texts = refl;
    }
