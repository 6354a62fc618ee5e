-- A mark that is made and then taken back, by the status alone. Assumes nothing.
use Rattle.std.proofs.Common.{◌≡◌, ℕ, Bool, true, false, cond, not, leb, ◌∷◌, length, ℤ, sym, refl, ap, ◌∙◌}
use Rattle.refusals.specs.Answers.{Answer, gives, refuses, unless, if_given}
use Rattle.streams.specs.Streams.{Status, Stream, with_marks, Lawful}
use Rattle.streams.specs.Marks.{releasing, after_releasing}
use Rattle.streams.specs.Calls.{when_open, mark_answer, marks_after_mark, release_answer, marks_after_release, status_with}
use Rattle.streams.proofs.Equals.{same_self}
use Rattle.streams.proofs.Moves.{moved_here}
use Rattle.streams.proofs.Steps.{given_refused, unless_passed}

-- what a mark that was made tells: its number is z, and the kind of stream numbers it n
pub record Marked (t : Status) (n z : ℤ) : Type 0 where
  pub opened : t.opened ≡ true
  pub few : leb 255 (length t.marks) ≡ false
  pub numbered : z ≡ n
  pub after : marks_after_mark t n ≡ n ∷ t.marks

pub marked : (t : Status) (n z : ℤ) → gives z ≡ mark_answer t n → Marked t n z
marked t n z e =
    let one = unless_passed (not t.opened) 9 _ z (sym e) in
    let two = unless_passed (leb 255 (length t.marks)) 8 (gives n) z one.1 in
    record { opened = open_from t.opened one.0; few = two.0; numbered = given two.1; after = ap (λ a. if_given a (n ∷ t.marks) t.marks) (sym e) }
  where
    open_from : (b : Bool) → not b ≡ false → b ≡ true
    open_from true e = refl
    open_from false e = sym e

    given : gives n ≡ gives z → z ≡ n
    given e = cc

-- a mark that was refused changes no mark, and any call that tests the same first refuses the same
module _ (t : Status) (n : ℤ) (m : ℕ) (e : refuses m ≡ mark_answer t n) where
  pub unmarked : marks_after_mark t n ≡ t.marks
  unmarked = ap (λ a. if_given a (n ∷ t.marks) t.marks) (sym e)

  pub unmarked_first : {A : Type 0} (follows : Answer A) → refuses m ≡ when_open t (unless (leb 255 (length t.marks)) 8 follows)
  unmarked_first {A} follows = go t.opened (leb 255 (length t.marks)) e
    where
      go : (o few : Bool) → refuses m ≡ unless (not o) 9 (unless few 8 (gives n)) → ◌≡◌ {A = Answer A} (refuses m) (unless (not o) 9 (unless few 8 follows))
      go false few e = let same : m ≡ 9 = cc in ap refuses same
      go true true e = let same : m ≡ 8 = cc in ap refuses same
      go true false e = absurd (given_refused n m (sym e))

-- the latest mark comes back
module _ (t : Status) (n z : ℤ) (m : Marked t n z) where
  latest_back : releasing (n ∷ t.marks) z ≡ gives tt
  latest_back = ap (λ z. releasing (n ∷ t.marks) z) m.numbered ∙ ap (λ b. unless (not b) 7 (gives tt)) (same_self n)

  pub released_given : release_answer (status_with t (n ∷ t.marks)) z ≡ gives tt
  released_given = ap (λ o. unless (not o) 9 (releasing (n ∷ t.marks) z)) m.opened ∙ latest_back

  pub released_marks : marks_after_release (status_with t (n ∷ t.marks)) z ≡ t.marks
  released_marks = ap (λ o. cond o (after_releasing (n ∷ t.marks) z) (n ∷ t.marks)) m.opened ∙ ap (λ a. if_given a t.marks (n ∷ t.marks)) latest_back

-- with the marks that are out a stream is as it is
pub marks_same : (s : Stream) → Lawful s → with_marks s s.status.marks ≡ s
marks_same s ok = moved_here s ok
