-- Stepping along the symbols that agree, while a mark is out. Assumes nothing.
use Rattle.std.proofs.Common.{◌≡◌, ℕ, ◌+◌, ◌<◌, ◌≤◌, Bool, true, false, List, ◌∷◌, length, get_or, drop, ℤ, pos, negsuc, sym, refl, ap, ◌∙◌, subst, add-zero, add_assoc, arith, w32, SFits, to_z, of_z, rules}
use Rattle.std.proofs.lemmas.List.{drop_more, drop_all, drop-drop, length-drop}
use Rattle.std.proofs.lemmas.Int.{to_z-of_z}
use Rattle.refusals.specs.Answers.{Answer, gives, refuses, unless}
use Rattle.tokens.specs.Tokens.{same}
use Rattle.streams.specs.declared.int_stream.IntStream.{Ghosts}
use Rattle.streams.specs.Streams.{Symbol, Status, Stream, minus_one, is_eof, last_of, coming, ahead, beyond, moved, Lawful}
use Rattle.streams.specs.Calls.{la, consume, consumed}
use Rattle.streams.proofs.Equals.{same_self, same_equal, same_minus_one}
use Rattle.streams.proofs.Moves.{moved_moved, beyond_moved, ahead_at, ahead_here}
use Rattle.streams.proofs.Steps.{la_here, consume_on, consumed_on, given_refused, eof_ends, eof_later}
use Rattle.count_ahead.specs.Agreement.{tallied}
use Rattle.count_ahead.proofs.Tallies.{tally, raised, raised_more, tally_unwanted, tally_ended, tally_beyond, tally_differs, tally_agrees}

-- what is tallied from the n-th symbol on
abbrev pub left_over : Stream → List ℤ → ℕ → Answer ℕ
left_over s wanted n = tally s (drop n (coming s)) (drop n wanted)

-- so many symbols agreed and were passed, and the tally of what is left decides
pub record Walked (Shows : Stream → Type 0) (s : Stream) (wanted : List ℤ) (n : ℕ) : Type 0 where
  pub there : Shows (moved s (s.cursor + n))
  pub left : raised n (left_over s wanted n) ≡ tallied s wanted

-- a turn of the walk: another number is wanted, and the stream is open and has a mark out
pub record Turn (s : Stream) (wanted : List ℤ) (n : ℕ) : Type 0 where
  pub opened : s.status.opened ≡ true
  pub marked : 0 < length s.status.marks
  pub ok : Lawful (moved s (s.cursor + n))
  pub left : raised n (left_over s wanted n) ≡ tallied s wanted
  pub more : n < length wanted

pub turn : (t : Status) (s : Stream) (wanted : List ℤ) (n : ℕ) → s.status ≡ t → t.opened ≡ true → 0 < length t.marks → Lawful (moved s (s.cursor + n)) → raised n (left_over s wanted n) ≡ tallied s wanted → n < length wanted → Turn s wanted n
turn t s wanted n e opened marked ok left more = record {
  opened = ap (λ t. t.opened) e ∙ opened;
  marked = subst (λ t. 0 < length t.marks) (sym e) marked;
  ok = ok;
  left = left;
  more = more;
}

-- where the walk stands in a turn, and the symbol there
abbrev pub at : Stream → ℕ → Stream
at s n = moved s (s.cursor + n)

abbrev pub here : Stream → ℕ → Symbol
here s n = ahead (at s n) 0

module _ (s : Stream) (wanted : List ℤ) (n : ℕ) (t : Turn s wanted n) where
  -- the symbol here, and those after it
  here_on : drop n (coming s) ≡ here s n ∷ drop (n + 1) (coming s)
  here_on =
      let there = sym (ahead_here (at s n)) in
      let more = ap (λ k. drop k s.symbols) (add_assoc s.cursor n 1) ∙ sym (drop-drop (n + 1) s.cursor s.symbols) in
      drop-drop n s.cursor s.symbols ∙ drop_more s.symbols (s.cursor + n) (last_of s.symbols) t.ok.inside ∙ (λ i. there i ∷ more i)

  seen : beyond s (here s n).index ≡ false
  seen = sym (beyond_moved s (s.cursor + n) (here s n).index t.marked) ∙ t.ok.below_reach t.opened

  -- what la answers
  pub la_now : (nothing z : ℤ) → gives z ≡ la (at s n) nothing (pos 1) → z ≡ (here s n).number
  la_now nothing z e = let same = e ∙ la_here (at s n) t.opened nothing t.ok in cc

  pub la_not_refused : (nothing : ℤ) (m : ℕ) → refuses m ≡ la (at s n) nothing (pos 1) → ⊥
  la_not_refused nothing m e = given_refused (here s n).number m (sym (e ∙ la_here (at s n) t.opened nothing t.ok))

  -- by the number that is wanted here
  module _ (d : ℤ) where
    fronts : left_over s wanted n ≡ tally s (here s n ∷ drop (n + 1) (coming s)) (get_or wanted n d ∷ drop (n + 1) wanted)
    fronts = λ i. tally s (here_on i) (drop_more wanted n d t.more i)

    pub ends_differing : same (here s n).number (get_or wanted n d) ≡ false → gives n ≡ tallied s wanted
    ends_differing e =
        ap gives (sym (add-zero n)) ∙ ap (raised n) (sym (fronts ∙ tally_differs s (here s n) (drop (n + 1) (coming s)) (get_or wanted n d) (drop (n + 1) wanted) seen e)) ∙ t.left

    goes_on : same (here s n).number (get_or wanted n d) ≡ true → raised (n + 1) (left_over s wanted (n + 1)) ≡ tallied s wanted
    goes_on e =
        raised_more n (left_over s wanted (n + 1))
        ∙ ap (raised n) (sym (fronts ∙ tally_agrees s (here s n) (drop (n + 1) (coming s)) (get_or wanted n d) (drop (n + 1) wanted) seen e)) ∙ t.left

    pub ends_unwanted : same (here s n).number (get_or wanted n d) ≡ true → n + 1 ≡ length wanted → gives (n + 1) ≡ tallied s wanted
    ends_unwanted e last =
        let none = ap (tally s (drop (n + 1) (coming s))) (drop_all (n + 1) wanted (omega arith)) ∙ tally_unwanted s (drop (n + 1) (coming s)) in
        ap gives (sym (add-zero (n + 1))) ∙ ap (raised (n + 1)) (sym none) ∙ goes_on e

    pub ends_at_eof : same (here s n).number (get_or wanted n d) ≡ true → is_eof (here s n) ≡ true → gives (n + 1) ≡ tallied s wanted
    ends_at_eof e eof =
        let none = ap (λ ys. tally s ys (drop (n + 1) wanted)) (drop_all (n + 1) (coming s) past) ∙ tally_ended s (drop (n + 1) wanted) in
        ap gives (sym (add-zero (n + 1))) ∙ ap (raised (n + 1)) (sym none) ∙ goes_on e
      where
        past : length (coming s) ≤ n + 1
        past = omega (arith, eof_ends (at s n) t.ok eof, length-drop s.cursor s.symbols)

    -- a step on: refused where the next symbol, which has to be compared, is not seen
    module _ (agrees : same (here s n).number (get_or wanted n d) ≡ true) (more : is_eof (here s n) ≡ false) where
      next_on : drop (n + 1) (coming s) ≡ ahead (at s n) 1 ∷ drop (n + 2) (coming s)
      next_on =
          let next = sym (ahead_at (at s n) 1) in
          let after = ap (λ k. drop k s.symbols) {x = s.cursor + n + 1 + 1} {y = s.cursor + (n + 2)} (omega arith) ∙ sym (drop-drop (n + 2) s.cursor s.symbols) in
          drop-drop (n + 1) s.cursor s.symbols ∙ ap (λ k. drop k s.symbols) (sym (add_assoc s.cursor n 1))
          ∙ drop_more s.symbols (s.cursor + n + 1) (last_of s.symbols) (eof_later (at s n) t.ok more) ∙ (λ i. next i ∷ after i)

      pub ends_unseen : n + 1 < length wanted → (m : ℕ) → refuses m ≡ consume (at s n) → refuses m ≡ tallied s wanted
      ends_unseen within m e = go (beyond (at s n) (ahead (at s n) 1).index) refl (e ∙ consume_on (at s n) t.opened more)
        where
          go : (b : Bool) → beyond (at s n) (ahead (at s n) 1).index ≡ b → ◌≡◌ {A = Answer (Unit {0})} (refuses m) (unless b 3 (gives tt)) → refuses m ≡ tallied s wanted
          go false is e = absurd (given_refused tt m (sym e))
          go true is e =
              let three : m ≡ 3 = cc in
              let unseen = sym (beyond_moved s (s.cursor + n) (ahead (at s n) 1).index t.marked) ∙ is in
              let refused = (λ i. tally s (next_on i) (drop_more wanted (n + 1) d within i)) ∙ tally_beyond s (ahead (at s n) 1) (drop (n + 2) (coming s)) (get_or wanted (n + 1) d) (drop (n + 1 + 1) wanted) unseen in
              ap refuses three ∙ ap (raised (n + 1)) (sym refused) ∙ goes_on agrees

      pub walked_more : (Shows : Stream → Type 0) → gives tt ≡ consume (at s n) → Shows (consumed (at s n)) → Walked Shows s wanted (n + 1)
      walked_more Shows e shown = record {
        there = subst Shows (consumed_on (at s n) (sym e) ∙ moved_moved s (s.cursor + n) (s.cursor + n + 1) ∙ ap (moved s) (add_assoc s.cursor n 1)) shown;
        left = goes_on agrees;
      }

-- a comparison of two numbers, which the code makes by their bits
same_bits : (z w : ℤ) → SFits w32 z → SFits w32 w → of_z w32 z ≡ of_z w32 w → z ≡ w
same_bits z w zf wf e = sym (to_z-of_z w32 z zf) ∙ ap (to_z w32) e ∙ to_z-of_z w32 w wf

pub agrees : (z w y : ℤ) → SFits w32 z → SFits w32 w → of_z w32 z ≡ of_z w32 w → z ≡ y → same y w ≡ true
agrees z w y zf wf e is = ap (λ x. same x w) (sym is ∙ same_bits z w zf wf e) ∙ same_self w

pub differs : (z w y : ℤ) → (of_z w32 z ≡ of_z w32 w → ⊥) → z ≡ y → same y w ≡ false
differs z w y ne is = go (same y w) refl
  where
    go : (b : Bool) → same y w ≡ b → b ≡ false
    go false e = refl
    go true e = absurd (ne (ap (of_z w32) (is ∙ same_equal y w e)))

-- the wanted number that agrees is the EOF's, or it is not
pub wants_eof : (w y : ℤ) → SFits w32 w → of_z w32 w ≡ 4294967295 → same y w ≡ true → minus_one y ≡ true
wants_eof w y wf e agrees = let fits : SFits w32 (negsuc 0) = search rules in ap minus_one (same_equal y w agrees ∙ same_bits w (negsuc 0) wf fits e)

pub wants_more : (w y : ℤ) → (of_z w32 w ≡ 4294967295 → ⊥) → same y w ≡ true → minus_one y ≡ false
wants_more w y ne agrees = go (minus_one y) refl
  where
    go : (b : Bool) → minus_one y ≡ b → b ≡ false
    go false e = refl
    go true e = absurd (ne (ap (of_z w32) (sym (same_equal y w agrees) ∙ same_equal y (negsuc 0) (same_minus_one y ∙ e))))

-- a walk of a stream of some kind from where it was to where it is
module _ {S : Type 0} (i : Ghosts S) where
  pub record Walk (from to : S) (wanted : List ℤ) (n : ℕ) : Type 0 where
    pub walked : (s : Stream) → i.shows from s → Walked (i.shows to) s wanted n
    pub status : i.status to ≡ i.status from
    pub unaltered : i.unaltered from to

  -- a look changes nothing
  pub walk_looked : {x y : S} (z : S) {wanted : List ℤ} {n : ℕ} → Walk x y wanted n → ((s : Stream) → i.shows y s → i.shows z s) → i.status z ≡ i.status y → i.unaltered y z → Walk x z wanted n
  walk_looked {x} {y} z old after status unaltered = record {
    walked = λ s shown. record { there = after _ (old.walked s shown).there; left = (old.walked s shown).left };
    status = status ∙ old.status;
    unaltered = i.chained x y z old.unaltered unaltered;
  }

  pub turning : {x y : S} {wanted : List ℤ} {n : ℕ} → (i.status x).opened ≡ true → 0 < length (i.status x).marks → Walk x y wanted n → n < length wanted → (s : Stream) → i.shows x s → Turn s wanted n
  turning {x} {y} {wanted} {n} opened marked w more s shown = turn (i.status x) s wanted n (i.lawful x s shown).1 opened marked (i.lawful y (at s n) (w.walked s shown).there).0 (w.walked s shown).left more

  -- the number that a look gave is the symbol's
  pub seen_here : {x y : S} {wanted : List ℤ} {n : ℕ} (z : ℤ) → Walk x y wanted n → ((s : Stream) → i.shows x s → Turn s wanted n) → ((s : Stream) → i.shows y s → gives z ≡ la s i.NOTHING_BEFORE (pos 1)) → (s : Stream) → i.shows x s → z ≡ (here s n).number
  seen_here {wanted} {n} z w turns e s shown = la_now s wanted n (turns s shown) i.NOTHING_BEFORE z (e (at s n) (w.walked s shown).there)

  -- a step on
  pub walk_more : {x y : S} (z : S) {wanted : List ℤ} {n : ℕ} → Walk x y wanted n → ((s : Stream) → i.shows x s → Walked (i.shows z) s wanted (n + 1)) → i.status z ≡ i.status y → i.unaltered y z → Walk x z wanted (n + 1)
  walk_more {x} {y} z old walked status unaltered = record { walked = walked; status = status ∙ old.status; unaltered = i.chained x y z old.unaltered unaltered }
