-- Between two starts the part holds whole code points, and else it is empty.
use Rattle.std.proofs.Common.{sym, ap, ◌∙◌, subst, arith}
use Rattle.std.proofs.lemmas.Bool.{cond-false}
use Rattle.texts.specs.declared.utf8_text.Utf8Text.{Utf8Text}
use Rattle.texts.specs.Encoded.{encoded_text}
use Rattle.texts.proofs.Encoded.{Fit, none_fit, none_text, slice_fit, slice_text, encoded_cut, cut_order}
use Rattle.texts.proofs.utf8_text.Utf8TextInputData.part.Goals as goal
use Rattle.texts.proofs.utf8_text.Utf8TextInputData.part.Goals.{then-cuts, else-cuts}

held : (t : Utf8Text) → Fit t.bytes.now
held t = record { few = t.few; encoded = t.encoded; valid = t.valid }

pub slice_bounds-bytes-end : goal.slice_bounds-bytes-end
slice_bounds-bytes-end c =
    let order = cut_order c.args.self.now.bytes.now c.args.from c.args.to c.args.self.now.encoded (sym c.if-cuts.ensures.value) in omega (arith, order.0, order.1)

fit : (c : goal.Joined-cuts) → Fit c.if-cuts.bytes.now
fit c =
    let bytes = c.args.self.now.bytes.now in
    elim c.if-cuts.branch [
      | then-cuts w ↦
          let cut = encoded_cut bytes c.args.from c.args.to (sym w.if-cuts.ensures.value) in
          subst (λ r. Fit r.now) (sym w.bytes-is) (slice_fit bytes c.args.from c.args.to (held c.args.self.now) cut)
      | else-cuts w ↦ subst (λ r. Fit r.now) (sym w.bytes-is) none_fit
    ]

pub invariant_of-result : goal.invariant_of-result
invariant_of-result c = record { few = (fit c).few; encoded = (fit c).encoded; valid = (fit c).valid }

pub returns : goal.returns
returns c =
    let bytes = c.args.self.now.bytes.now in
    record {
      value =
          elim c.if-cuts.branch [
            | then-cuts w ↦
                let cut = encoded_cut bytes c.args.from c.args.to (sym w.if-cuts.ensures.value) in
                ap (λ r. encoded_text r.now) w.bytes-is ∙ sym (slice_text bytes c.args.from c.args.to (held c.args.self.now) cut)
            | else-cuts w ↦ ap (λ r. encoded_text r.now) w.bytes-is ∙ none_text ∙ sym (cond-false _ _ _ (sym w.if-cuts.ensures.value))
          ];
    }
