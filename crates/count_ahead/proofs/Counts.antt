-- What is counted under a mark is what is counted without it. Assumes nothing.
use Rattle.std.proofs.Common.{◌≡◌, ℕ, not, ◌||◌, leb, List, [], ◌∷◌, length, ℤ, IfOk, Ok, Err, Result, sym, refl, ap, ◌∙◌, subst}
use Rattle.refusals.specs.declared.Refusal.{Refusal}
use Rattle.refusals.specs.Answers.{Answer, gives, answer, unless}
use Rattle.streams.specs.declared.int_stream.IntStream.{Ghosts}
use Rattle.streams.specs.Streams.{Symbol, Stream, beyond, with_marks}
use Rattle.streams.proofs.Moves.{beyond_marked}
use Rattle.streams.proofs.Steps.{unless_passed}
use Rattle.streams.proofs.Trips.{Trip, tells, out}
use Rattle.count_ahead.specs.Agreement.{agreed, Longest, numbers_coming, compared, some_beyond, tallied, counted}
use Rattle.count_ahead.proofs.Fronts.{longest_agreed}

beyond_alike : (s t : Stream) → ((i : ℕ) → beyond s i ≡ beyond t i) → (ys : List Symbol) → some_beyond s ys ≡ some_beyond t ys
beyond_alike s t alike [] = refl
beyond_alike s t alike (y ∷ ys) = λ k. alike y.index k || beyond_alike s t alike ys k

tallied_marked : (s : Stream) (n : ℤ) (ms wanted : List ℤ) → tallied (with_marks s (n ∷ ms)) wanted ≡ tallied s wanted
tallied_marked s n ms wanted = ap (λ b. unless b 3 (gives (agreed (numbers_coming s) wanted))) (beyond_alike (with_marks s (n ∷ ms)) s (beyond_marked s n ms) (compared s wanted))

module _ {S : Type 0} (i : Ghosts S) where
  -- under a mark the count is the one that was asked for
  pub counted_marked : {x kept gone back : S} {number index : ℤ} → Trip i x kept gone back number index → (wanted : List ℤ) (a : Answer ℕ) → ((s : Stream) → i.shows kept s → a ≡ tallied s wanted) → (s : Stream) → i.shows x s → a ≡ counted s wanted
  counted_marked {x} {kept} t wanted a e s shown =
      let is = (i.lawful x s shown).1 in
      let opened = ap (λ t. t.opened) is ∙ (tells i t).opened in
      let few = ap (λ t. leb 255 (length t.marks)) is ∙ (tells i t).few in
      e (with_marks s (i.status kept).marks) (t.mark_after s shown) ∙ ap (λ t. tallied (with_marks s t.marks) wanted) (out i t) ∙ tallied_marked s _ (i.status x).marks wanted
      ∙ sym (λ k. unless (not (opened k)) 9 (unless (few k) 8 (tallied s wanted)))

-- what is counted is the longest front that agrees
pub counted_longest : (s : Stream) (wanted : List ℤ) (r : Result ℕ Refusal) → answer r ≡ counted s wanted → IfOk r (λ n. Longest n (numbers_coming s) wanted)
counted_longest s wanted (Err e) is = tt
counted_longest s wanted (Ok n) is =
    let opened = (unless_passed (not s.status.opened) 9 (unless (leb 255 (length s.status.marks)) 8 (tallied s wanted)) n (sym is)).1 in
    let few = (unless_passed (leb 255 (length s.status.marks)) 8 (tallied s wanted) n opened).1 in
    let told = (unless_passed (some_beyond s (compared s wanted)) 3 (gives (agreed (numbers_coming s) wanted)) n few).1 in
    let same : agreed (numbers_coming s) wanted ≡ n = cc in
    subst (λ n. Longest n (numbers_coming s) wanted) same (longest_agreed (numbers_coming s) wanted)
