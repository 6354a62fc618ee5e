use Rattle.std.proofs.Common.{◌≡◌, ℕ, ◌+◌, ◌-◌, ◌<◌, List, [], ◌∷◌, ◌++◌, length, get_or, drop, take, Some, Option, sym, ap, ◌∙◌, subst, arith, length-drop}
use lib.Utf8.{low_scalar}
use Rattle.std.specs.Borrow.{Bor}
use Rattle.std.proofs.lemmas.List.{take_rest, drop_more}
use Rattle.std.proofs.lemmas.Str.{encode_ascii}
use Rattle.utf8.specs.Reading.{Begins, Front}
use Rattle.texts.proofs.Encoded.{item_begins, next_begins, item_none, item_end}
use Rattle.texts.proofs.utf8_text.Utf8TextInputData.code_point.Goals as goal

pub returns-in_err-lead-clause-value : goal.returns-in_err-lead-clause-value
returns-in_err-lead-clause-value c = rw c.from_residual.ensures (sym (item_end c.args.self.now.bytes.now c.args.self.now.encoded c.args.at c.in_err-lead.ensures.lookup.3))

-- an ASCII byte is a code point of its own
ascii : (bytes : List ℕ) (at lead : ℕ) → at < length bytes → lead ≡ get_or bytes at 0 → lead < 128 → Begins (drop at bytes) lead (drop (at + 1) bytes)
ascii bytes at lead here e small = record { value = low_scalar lead (omega arith); whole = drop_more bytes at 0 here ∙ ap (λ l. l ++ drop (at + 1) bytes) (ap (λ b. b ∷ []) (sym e) ∙ sym (encode_ascii lead small)) }

pub returns-then-lead-lt128-clause-value : goal.returns-then-lead-lt128-clause-value
returns-then-lead-lt128-clause-value c =
    let bytes = c.args.self.now.bytes.now in
    let found = c.in_ok-lead.ensures.lookup in
    ap Some c.from.ensures ∙ sym (item_begins bytes c.args.self.now.encoded c.args.at found.3.0 _ _ (ascii bytes c.args.at _ found.3.0 (found.4 (omega arith) 0) c.if-lead-lt128.true))

pub returns-then-lead-lt128-clause-next : goal.returns-then-lead-lt128-clause-next
returns-then-lead-lt128-clause-next c =
    let bytes = c.args.self.now.bytes.now in
    let found = c.in_ok-lead.ensures.lookup in
    let here : c.args.at < length bytes = found.3.0 in
    let next : c.args.at + 1 ≡ length bytes - length (drop (c.args.at + 1) bytes) = omega (arith, length-drop (c.args.at + 1) bytes) in
    next ∙ sym (next_begins bytes c.args.self.now.encoded c.args.at here _ _ (ascii bytes c.args.at _ here (found.4 (omega arith) 0) c.if-lead-lt128.true))

-- what `front` found, from the position on
begins : (bytes : List ℕ) (at code : ℕ) (rest : Bor (List ℕ)) (r : Option (ℕ × Bor (List ℕ))) → Front (take (length bytes - at) (drop at bytes)) r → r ≡ Some (code, rest) → Begins (drop at bytes) code rest.now
begins bytes at code rest r f e = subst (λ l. Begins l code rest.now) (take_rest bytes at) (subst (Front (take (length bytes - at) (drop at bytes))) e f)

pub returns-in_err-code-clause-value : goal.returns-in_err-code-clause-value
returns-in_err-code-clause-value c =
    let bytes = c.args.self.now.bytes.now in
    let never : (code : ℕ) (rest : List ℕ) → Begins (drop c.args.at bytes) code rest → ⊥ =
    λ code rest b. c.in_err-code.ensures.cases code rest (subst (λ l. Begins l code rest) (sym (take_rest bytes c.args.at)) b) in
    rw c.from_residual-in_err-code.ensures (sym (item_none bytes c.args.self.now.encoded c.args.at c.in_ok-lead.ensures.lookup.3.0 c.args.self.now.valid never))

pub returns-clause-value : goal.returns-clause-value
returns-clause-value c =
    let bytes = c.args.self.now.bytes.now in
    sym (item_begins bytes c.args.self.now.encoded c.args.at c.in_ok-lead.ensures.lookup.3.0 _ _ (begins bytes c.args.at _ _ _ c.front.ensures.cases c.in_ok-code.was))

pub returns-clause-next : goal.returns-clause-next
returns-clause-next c =
    let bytes = c.args.self.now.bytes.now in
    sym (next_begins bytes c.args.self.now.encoded c.args.at c.in_ok-lead.ensures.lookup.3.0 _ _ (begins bytes c.args.at _ _ _ c.front.ensures.cases c.in_ok-code.was))
