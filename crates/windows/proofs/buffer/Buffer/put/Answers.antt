use Rattle.std.proofs.Common.{◌≡◌, ◌+◌, ◌≤◌, length, ◌∙◌, arith, rules}
use Rattle.std.specs.List.{between}
use Rattle.std.proofs.lemmas.List.Edits.{length-between}
use Rattle.windows.proofs.Texts.{put_end, put_more, put_stop, just_written}
use Rattle.windows.proofs.buffer.Buffer.put.Goals as goal

pub overflow_add-end : goal.overflow_add-end
overflow_add-end g c =
    let low : c.args.self.now.window.start ≤ c.put.at = omega (arith, c.requires.held) in
    let within = put_end (g.S.TokenSource.text c.args.self.now.source) c.args.self.now.window c.args.from c.args.to c.put.at c.put.len c.in-Some.token _ _ low c.put-test.true c.in-Some.ensures.value c.put.invariant c.text_len.result c.text_len.ensures.value in
    search rules

pub slice_bounds-write_text-end : goal.slice_bounds-write_text-end
slice_bounds-write_text-end g c =
    let low : c.args.self.now.window.start ≤ c.put.at = omega (arith, c.requires.held) in
    put_end (g.S.TokenSource.text c.args.self.now.source) c.args.self.now.window c.args.from c.args.to c.put.at c.put.len c.in-Some.token _ _ low c.put-test.true c.in-Some.ensures.value c.put.invariant c.text_len.result c.text_len.ensures.value

pub returns-in_default : goal.returns-in_default
returns-in_default g c =
    let v = c.args.self.now.window in
    let low : v.start ≤ c.put.at = omega (arith, c.requires.held) in
    let done = put_stop (g.S.TokenSource.text c.args.self.now.source) v c.args.from c.args.to c.put.at c.put.len _ _ low c.put-test.true c.in_default.ensures.value c.put.invariant in
    record { value = done.0; after = done.1 }

pub put-preserved : goal.put-preserved
put-preserved g c =
    let v = c.args.self.now.window in
    let text = g.S.TokenSource.text c.args.self.now.source in
    let low : v.start ≤ c.put.at = omega (arith, c.requires.held) in
    let end = c.put.len + c.text_len.result in
    let within : end ≤ length c.put.out = put_end text v c.args.from c.args.to c.put.at c.put.len c.in-Some.token _ _ low c.put-test.true c.in-Some.ensures.value c.put.invariant c.text_len.result c.text_len.ensures.value in
    let wide : length (between c.put.len end c.put.out) ≡ length (text c.in-Some.token) = omega (arith, length-between c.put.out c.put.len end within, c.text_len.ensures.value) in
    let written = c.write_text.ensures.after ∙ just_written (text c.in-Some.token) (between c.put.len end c.put.out) wide in
    put_more text v c.args.from c.args.to c.put.at c.put.len c.in-Some.token _ _ low c.put-test.true c.in-Some.ensures.value c.put.invariant c.text_len.result c.write_text.new.out c.text_len.ensures.value written
