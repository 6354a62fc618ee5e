-- The loop steps over one code point a turn.
use Rattle.std.proofs.Common.{◌<◌, length, get_or, IsUtf8, sym, refl, subst, arith}
use lib.Utf8.{low_scalar}
use Rattle.std.proofs.lemmas.List.{nil_from_length, take_rest}
use Rattle.std.proofs.lemmas.Bool.{ltb-true, ltb-false}
use Rattle.std.proofs.lemmas.Str.{IsUtf8-nil, IsUtf8-past_char}
use Rattle.utf8.proofs.Forms.{one}
use Rattle.utf8.proofs.Texts.{utf8_whole, rest_shorter, begun}
use Rattle.utf8.proofs.is_utf8.Goals as goal

pub walk-smaller : goal.walk-smaller
walk-smaller c = omega (arith, rest_shorter c.in-Some.ensures.cases)

pub walk-preserved : goal.walk-preserved
walk-preserved c =
    let b = c.in-Some.ensures.cases in
    ((λ u. c.walk.invariant.0 (utf8_whole b u)), λ u. IsUtf8-past_char _ _ _ (c.walk.invariant.1 u) b.whole)

-- an ASCII byte is a code point of its own
pub walk-preserved-then-lead-lt128 : goal.walk-preserved-then-lead-lt128
walk-preserved-then-lead-lt128 c =
    let rest = c.walk.rest.now in
    let lead = get_or rest 0 0 in
    let b = one rest lead (low_scalar lead (omega arith)) (record { long = omega (arith, ltb-false); small = c.if-lead-lt128.true; code = refl }) in
    rw take_rest ((λ u. c.walk.invariant.0 (utf8_whole b u)), λ u. IsUtf8-past_char _ _ _ (c.walk.invariant.1 u) b.whole)

pub returns-in_default-front : goal.returns-in_default-front
returns-in_default-front c =
    let some : 0 < length c.walk.rest.now = omega (arith, ltb-false) in
    let bad = λ (u : IsUtf8 c.args.bytes.now). let b = begun c.walk.rest.now (c.walk.invariant.1 u) some in c.in_default-front.ensures.cases b.0 b.1 b.2 in
    record { value = ((λ h. cc), λ u. absurd (bad u)) }

pub returns : goal.returns
returns c =
    let nothing_left = nil_from_length c.walk.rest.now (omega (arith, ltb-true)) in
    record { value = ((λ h. c.walk.invariant.0 (subst IsUtf8 (sym nothing_left) IsUtf8-nil)), λ u. refl) }
