-- Going anywhere in a stream of any kind. Assumes nothing.
use Rattle.std.proofs.Common.{◌≡◌, ℕ, ◌+◌, Bool, true, false, not, ℤ, pos, sym, refl, ap, ◌∙◌, subst}
use Rattle.refusals.specs.Answers.{Answer, gives, refuses, unless, if_given}
use Rattle.streams.specs.declared.int_stream.IntStream.{Ghosts}
use Rattle.streams.specs.Streams.{Stream, ahead, moved, with_marks}
use Rattle.streams.specs.Marks.{marking}
use Rattle.streams.specs.Calls.{when_open, consume, consumed, sought, went, sought_out, index_answer, mark_answer, marks_after_mark, status_with}
use Rattle.streams.proofs.Moves.{moved_moved, moved_here}
use Rattle.streams.proofs.Steps.{given_refused}
use Rattle.streams.proofs.Marking.{unmarked, marks_same}

-- after each step a stream is one that was moved
stepped : (s : Stream) (j : ℕ) → (k : ℕ) × (consumed (moved s j) ≡ moved s k)
stepped s j = go (consume (moved s j))
  where
    go : (a : Answer (Unit {0})) → (k : ℕ) × (if_given a (moved (moved s j) (j + 1)) (moved s j) ≡ moved s k)
    go (gives _) = (j + 1, moved_moved s j (j + 1))
    go (refuses _) = (j, refl)

arrived : (s : Stream) (j : ℕ) (index : ℤ) → (k : ℕ) × (sought_out (moved s j) index ≡ moved s k)
arrived s j index = go (when_open s.status (sought (moved s j) index))
  where
    go : (a : Answer ℕ) → (k : ℕ) × (went (moved s j) a ≡ moved s k)
    go (gives n) = (n, moved_moved s j n)
    go (refuses _) = (j, refl)

module _ {S : Type 0} (i : Ghosts S) where
  -- from where a stream was to where it is, what it shows has only moved
  pub record Wander (from to : S) : Type 0 where
    pub somewhere : (s : Stream) → i.shows from s → (j : ℕ) × i.shows to (moved s j)
    pub status : i.status to ≡ i.status from
    pub unaltered : i.unaltered from to

  pub wander_none : (x : S) → Wander x x
  wander_none x = record { somewhere = λ s shown. (s.cursor, subst (i.shows x) (sym (moved_here s (i.lawful x s shown).0)) shown); status = refl; unaltered = i.same x }

  module _ {x y : S} (z : S) (w : Wander x y) (status : i.status z ≡ i.status y) (unaltered : i.unaltered y z) where
    further : ((s : Stream) (j : ℕ) → i.shows y (moved s j) → (k : ℕ) × i.shows z (moved s k)) → Wander x z
    further on = record {
      somewhere = λ s shown. let at = w.somewhere s shown in on s at.0 at.1;
      status = status ∙ w.status;
      unaltered = i.chained x y z w.unaltered unaltered;
    }

    pub wander_step : ((s : Stream) → i.shows y s → i.shows z (consumed s)) → Wander x z
    wander_step after = further (λ s j shown. let on = stepped s j in (on.0, subst (i.shows z) on.1 (after _ shown)))

    pub wander_seek : (index : ℤ) → ((s : Stream) → i.shows y s → i.shows z (sought_out s index)) → Wander x z
    wander_seek index after = further (λ s j shown. let on = arrived s j index in (on.0, subst (i.shows z) on.1 (after _ shown)))

  -- a stream that has no index is not open, and takes no mark
  module _ (x : S) (n : ℤ) (m : ℕ) (s : Stream) (shown : i.shows x s) (e : refuses m ≡ index_answer s) where
    pub closed_unmarked : refuses m ≡ mark_answer (i.status x) n
    closed_unmarked = subst (λ t. refuses m ≡ mark_answer t n) (i.lawful x s shown).1 (go s.status.opened e)
      where
        go : (o : Bool) → refuses m ≡ unless (not o) 9 (gives (pos (ahead s 0).index)) → refuses m ≡ unless (not o) 9 (marking s.status.marks n)
        go true e = absurd (given_refused (pos (ahead s 0).index) m (sym e))
        go false e = let nine : m ≡ 9 = cc in ap refuses nine

    pub closed_status : i.status x ≡ status_with (i.status x) (marks_after_mark (i.status x) n)
    closed_status = ap (status_with (i.status x)) (sym (unmarked (i.status x) n m closed_unmarked))

    pub closed_shows : i.shows x (with_marks s (i.status x).marks)
    closed_shows = let ok = i.lawful x s shown in subst (i.shows x) (sym (ap (λ t. with_marks s t.marks) (sym ok.1) ∙ marks_same s ok.0)) shown
