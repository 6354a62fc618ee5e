-- Out under a mark and back again, in a stream of any kind. Assumes nothing.
use Rattle.std.proofs.Common.{◌≡◌, ℕ, ◌<◌, true, not, ◌∷◌, length, ℤ, pos, sym, ap, ◌∙◌, subst, arith}
use Rattle.refusals.specs.Answers.{Answer, gives, refuses}
use Rattle.streams.specs.declared.int_stream.IntStream.{Ghosts}
use Rattle.streams.specs.Streams.{Stream, ahead, moved, with_marks}
use Rattle.streams.specs.Calls.{index_answer, seek, sought_out, mark_answer, marks_after_mark, release_answer, marks_after_release, status_with}
use Rattle.streams.proofs.Moves.{marks_back, seek_back, sought_back}
use Rattle.streams.proofs.Steps.{unless_passed}
use Rattle.streams.proofs.Marking.{Marked, marked, unmarked, released_given, released_marks, marks_same}

module _ {S : Type 0} (i : Ghosts S) where
  -- the number of the next mark
  abbrev next : S → ℤ
  next x = i.numbered (length (i.status x).marks)

  -- where no mark was made, the stream is as it was
  module _ (x same : S) (m : ℕ) (refused : refuses m ≡ mark_answer (i.status x) (next x)) (status : i.status same ≡ status_with (i.status x) (marks_after_mark (i.status x) (next x))) where
    pub unmarked_status : i.status same ≡ i.status x
    unmarked_status = status ∙ ap (status_with (i.status x)) (unmarked (i.status x) (next x) m refused)

    pub unmarked_shows : ((s : Stream) → i.shows x s → i.shows same (with_marks s (i.status same).marks)) → (s : Stream) → i.shows x s → i.shows same s
    unmarked_shows after s shown =
        let ok = i.lawful x s shown in
        subst (i.shows same) (ap (λ t. with_marks s t.marks) (unmarked_status ∙ sym ok.1) ∙ marks_same s ok.0) (after s shown)

  -- a stream is marked, goes anywhere and seeks the index that it had
  pub record Trip (x kept gone back : S) (number index : ℤ) : Type 0 where
    pub noted : (s : Stream) → i.shows x s → gives index ≡ index_answer s
    pub made : gives number ≡ mark_answer (i.status x) (next x)
    pub mark_after : (s : Stream) → i.shows x s → i.shows kept (with_marks s (i.status kept).marks)
    pub mark_status : i.status kept ≡ status_with (i.status x) (marks_after_mark (i.status x) (next x))
    pub went_after : (s : Stream) → i.shows kept s → (j : ℕ) × i.shows gone (moved s j)
    pub went_status : i.status gone ≡ i.status kept
    pub seek_after : (s : Stream) → i.shows gone s → i.shows back (sought_out s index)
    pub seek_status : i.status back ≡ i.status gone

  module _ {x kept gone back : S} {number index : ℤ} (t : Trip x kept gone back number index) where
    pub tells : Marked (i.status x) (next x) number
    tells = marked (i.status x) (next x) number t.made

    pub out : i.status kept ≡ status_with (i.status x) (next x ∷ (i.status x).marks)
    out = t.mark_status ∙ ap (status_with (i.status x)) tells.after

    some : 0 < length (i.status kept).marks
    some = omega (arith, ap (λ t. length t.marks) out)

    opened : (s : Stream) → i.shows x s → s.status.opened ≡ true
    opened s shown = ap (λ t. t.opened) (i.lawful x s shown).1 ∙ tells.opened

    noted_here : (s : Stream) → i.shows x s → index ≡ pos (ahead s 0).index
    noted_here s shown = let e = (unless_passed (not s.status.opened) 9 (gives (pos (ahead s 0).index)) index (sym (t.noted s shown))).1 in cc

    -- it is back where it was marked
    pub back_status : i.status back ≡ status_with (i.status x) (next x ∷ (i.status x).marks)
    back_status = t.seek_status ∙ t.went_status ∙ out

    pub back_given : (a : Answer (Unit {0})) → ((s : Stream) → i.shows gone s → a ≡ seek s index) → (s : Stream) → i.shows x s → a ≡ gives tt
    back_given a e s shown =
        let u = with_marks s (i.status kept).marks in
        let seen = t.mark_after s shown in
        let went = t.went_after u seen in
        e _ went.1 ∙ ap (seek (moved u went.0)) (noted_here s shown) ∙ seek_back u (i.lawful kept u seen).0 (opened s shown) some went.0

    pub back_shows : (s : Stream) → i.shows x s → i.shows back (with_marks s (i.status kept).marks)
    back_shows s shown =
        let u = with_marks s (i.status kept).marks in
        let seen = t.mark_after s shown in
        let went = t.went_after u seen in
        subst (i.shows back) (ap (sought_out (moved u went.0)) (noted_here s shown) ∙ sought_back u (i.lawful kept u seen).0 (opened s shown) some went.0) (t.seek_after _ went.1)

    -- and with the mark given back it is as it was
    pub given_back : release_answer (i.status back) number ≡ gives tt
    given_back = ap (λ t. release_answer t number) back_status ∙ released_given (i.status x) (next x) number tells

    module _ (done : S) (status : i.status done ≡ status_with (i.status back) (marks_after_release (i.status back) number)) where
      pub done_status : i.status done ≡ i.status x
      done_status =
          status ∙ ap (λ t. status_with t (marks_after_release t number)) back_status
          ∙ ap (status_with (i.status x)) (released_marks (i.status x) (next x) number tells)

      pub done_shows : ((s : Stream) → i.shows back s → i.shows done (with_marks s (i.status done).marks)) → (s : Stream) → i.shows x s → i.shows done s
      done_shows after s shown =
          let ok = i.lawful x s shown in
          let before = ap (λ t. t.marks) out in
          let now = ap (λ t. t.marks) (done_status ∙ sym ok.1) in
          subst (i.shows done) ((λ k. with_marks (with_marks s (before k)) (now k)) ∙ marks_back s (next x) (i.status x).marks ok.0) (after _ (back_shows s shown))
