-- Going about in a stream, and coming back. Assumes nothing.
use Rattle.std.proofs.Common.{◌≡◌, ℕ, ◌+◌, ◌<◌, true, not, ltb, List, [], ◌∷◌, length, get_or, ℤ, pos, sym, refl, ap, ◌∙◌, add-zero, arith}
use Rattle.std.proofs.lemmas.List.{get_or-drop}
use Rattle.std.proofs.lemmas.Bool.{le-ltb}
use Rattle.refusals.specs.Answers.{gives, unless}
use Rattle.streams.specs.Streams.{Sight, whole, upto, sliding, Stream, last_of, ahead, place, reach_of, at_or_above, beyond, resting, moved, with_marks, Lawful}
use Rattle.streams.specs.Calls.{when_open, target, sought, arrives, went, seek, sought_out}
use Rattle.streams.proofs.Symbols.{place_own}

-- the k-th symbol ahead, by its place among all
pub ahead_at : (s : Stream) (k : ℕ) → ahead s k ≡ get_or s.symbols (s.cursor + k) (last_of s.symbols)
ahead_at s k = get_or-drop s.cursor s.symbols k (last_of s.symbols)

pub ahead_here : (s : Stream) → ahead s 0 ≡ get_or s.symbols s.cursor (last_of s.symbols)
ahead_here s = ahead_at s 0 ∙ ap (λ c. get_or s.symbols c (last_of s.symbols)) (add-zero s.cursor)

-- while a mark is out, the floor stays
pub floor_stays : (sight : Sight) (ms : List ℤ) (here floor : ℕ) → 0 < length ms → resting sight ms here floor ≡ floor
floor_stays whole ms here floor some = refl
floor_stays (upto reach) ms here floor some = refl
floor_stays (sliding places) [] here floor some = absurd (omega arith)
floor_stays (sliding places) (m ∷ ms) here floor some = refl

-- where a window rests does not depend on where it was, unless a mark is out
rests_again : (sight : Sight) (ms : List ℤ) (here there floor : ℕ) → resting sight ms here (resting sight ms there floor) ≡ resting sight ms here floor
rests_again whole ms here there floor = refl
rests_again (upto reach) ms here there floor = refl
rests_again (sliding places) [] here there floor = refl
rests_again (sliding places) (m ∷ ms) here there floor = refl

-- a stream with another floor
abbrev with_floor : Stream → ℕ → Stream
with_floor s n = record { status = s.status; symbols = s.symbols; cursor = s.cursor; floor = n; sight = s.sight }

-- of two moves the second counts
pub moved_moved : (s : Stream) (j k : ℕ) → moved (moved s j) k ≡ moved s k
moved_moved s j k = ap (with_floor (moved s k)) (rests_again s.sight s.status.marks (ahead (moved s k) 0).index (ahead (moved s j) 0).index s.floor)

pub moved_here : (s : Stream) → Lawful s → moved s s.cursor ≡ s
moved_here s ok = ap (with_floor s) ok.at_rest

-- a mark that is made and taken back leaves a stream as it was
pub marked_floor : (s : Stream) (n : ℤ) (ms : List ℤ) → (with_marks s (n ∷ ms)).floor ≡ s.floor
marked_floor s n ms = floor_stays s.sight (n ∷ ms) _ s.floor (omega arith)

pub marks_back : (s : Stream) (n : ℤ) (ms : List ℤ) → Lawful s → with_marks (with_marks s (n ∷ ms)) s.status.marks ≡ s
marks_back s n ms ok =
    ap (λ f. with_floor s (resting s.sight s.status.marks (ahead s 0).index f)) (marked_floor s n ms)
    ∙ ap (with_floor s) ok.at_rest

-- what is seen is what the floor lets be seen
pub beyond_moved : (s : Stream) (j i : ℕ) → 0 < length s.status.marks → beyond (moved s j) i ≡ beyond s i
beyond_moved s j i some = ap (λ f. at_or_above (reach_of s.sight f) i) (floor_stays s.sight s.status.marks _ s.floor some)

pub beyond_marked : (s : Stream) (n : ℤ) (ms : List ℤ) (i : ℕ) → beyond (with_marks s (n ∷ ms)) i ≡ beyond s i
beyond_marked s n ms i = ap (λ f. at_or_above (reach_of s.sight f) i) (marked_floor s n ms)

-- while a mark is out, the way back to where a stream was is open
abbrev own : Stream → ℕ
own s = (ahead s 0).index

module _ (s : Stream) (ok : Lawful s) (opened : s.status.opened ≡ true) (some : 0 < length s.status.marks) where
  own_place : place s.symbols (own s) ≡ s.cursor
  own_place =
      ap (λ y. place s.symbols y.index) (ahead_here s) ∙ place_own 0 s.symbols s.cursor (last_of s.symbols) ok.rising ok.inside

  own_target : (j : ℕ) → (target (moved s j) (own s)).index ≡ own s
  own_target j = ap (λ c. (get_or s.symbols c (last_of s.symbols)).index) own_place ∙ ap (λ y. y.index) (sym (ahead_here s))

  way_back : (j : ℕ) → when_open s.status (sought (moved s j) (pos (own s))) ≡ gives s.cursor
  way_back j =
      let floor = floor_stays s.sight s.status.marks (ahead (moved s j) 0).index s.floor some in
      let kept = ap (ltb (own s)) floor ∙ le-ltb (own s) s.floor ok.above_floor in
      let seen = beyond_moved s j _ some ∙ ap (beyond s) (own_target j) ∙ ok.below_reach opened in
      ap (λ o. unless (not o) 9 (sought (moved s j) (pos (own s)))) opened
      ∙ ap (λ b. unless b 4 (unless (beyond (moved s j) (target (moved s j) (own s)).index) 3 (gives (place s.symbols (own s))))) kept
      ∙ ap (λ b. unless b 3 (gives (place s.symbols (own s)))) seen ∙ ap gives own_place

  pub seek_back : (j : ℕ) → seek (moved s j) (pos (own s)) ≡ gives tt
  seek_back j = ap arrives (way_back j)

  pub sought_back : (j : ℕ) → sought_out (moved s j) (pos (own s)) ≡ s
  sought_back j = ap (went (moved s j)) (way_back j) ∙ moved_moved s j s.cursor ∙ moved_here s ok
