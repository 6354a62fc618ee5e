-- What each call of a stream of symbols answers, and what it leaves. Assumes nothing.
use Rattle.std.specs.Prelude.{ℕ, zero, suc, ◌+◌, cond, not, ◌&&◌, List, ◌∷◌, ℤ, pos, negsuc, Some, None, Option, ◌==◌, nat_lt, slice_index_or}
use Rattle.refusals.specs.Answers.{Answer, gives, refuses, unless, if_given}
use Rattle.streams.specs.Streams.{Symbol, Status, Stream, is_eof, last_of, ahead, behind, place, beyond, moved}
use Rattle.streams.specs.Marks.{marking, releasing, after_releasing}

-- 9 not open
abbrev pub when_open : {A : Type 0} → Status → Answer A → Answer A
when_open t follows = unless (not t.opened) 9 follows

-- a symbol before the cursor: 4 dropped where it lies below the floor, unless it is the nearest
abbrev pub seen : Stream → ℕ → ℤ → Option Symbol → Answer ℤ
seen s k nothing None = gives nothing
seen s k nothing (Some y) = unless (not (k == 0) && nat_lt y.index s.floor) 4 (gives y.number)

-- 1 zero offset, 4 dropped, 3 window full
abbrev pub looked : Stream → ℤ → ℤ → Answer ℤ
looked s nothing (pos zero) = refuses 1
looked s nothing (pos (suc k)) = unless (beyond s (ahead s k).index) 3 (gives (ahead s k).number)
looked s nothing (negsuc k) = seen s k nothing (behind s k)

abbrev pub la : Stream → ℤ → ℤ → Answer ℤ
la s nothing k = when_open s.status (looked s nothing k)

-- 2 end of stream, 3 window full
abbrev pub consume : Stream → Answer (Unit {0})
consume s = when_open s.status (unless (is_eof (ahead s 0)) 2 (unless (beyond s (ahead s 1).index) 3 (gives tt)))

abbrev pub consumed : Stream → Stream
consumed s = if_given (consume s) (moved s (s.cursor + 1)) s

-- the symbol that a seek goes to
abbrev pub target : Stream → ℕ → Symbol
target s i = slice_index_or s.symbols (place s.symbols i) (last_of s.symbols)

-- 5 negative, 4 dropped, 3 window full
abbrev pub sought : Stream → ℤ → Answer ℕ
sought s (negsuc i) = refuses 5
sought s (pos i) = unless (nat_lt i s.floor) 4 (unless (beyond s (target s i).index) 3 (gives (place s.symbols i)))

abbrev pub arrives : Answer ℕ → Answer (Unit {0})
arrives (gives n) = gives tt
arrives (refuses n) = refuses n

abbrev pub went : Stream → Answer ℕ → Stream
went s (gives n) = moved s n
went s (refuses n) = s

abbrev pub seek : Stream → ℤ → Answer (Unit {0})
seek s i = arrives (when_open s.status (sought s i))

abbrev pub sought_out : Stream → ℤ → Stream
sought_out s i = went s (when_open s.status (sought s i))

abbrev pub index_answer : Stream → Answer ℤ
index_answer s = when_open s.status (gives (pos (ahead s 0).index))

abbrev pub size_answer : Status → ℕ → Answer ℤ
size_answer t n = when_open t (gives (pos n))

-- marks, by the status alone: the number is the one that the kind of stream gives
abbrev pub mark_answer : Status → ℤ → Answer ℤ
mark_answer t n = when_open t (marking t.marks n)

abbrev pub marks_after_mark : Status → ℤ → List ℤ
marks_after_mark t n = if_given (mark_answer t n) (n ∷ t.marks) t.marks

abbrev pub release_answer : Status → ℤ → Answer (Unit {0})
release_answer t n = when_open t (releasing t.marks n)

abbrev pub marks_after_release : Status → ℤ → List ℤ
marks_after_release t n = cond t.opened (after_releasing t.marks n) t.marks

-- a status with other marks out
abbrev pub status_with : Status → List ℤ → Status
status_with t ms = record { opened = t.opened; marks = ms }
