-- What each call of an unbuffered token stream answers, and what it leaves. Assumes nothing.
use Rattle.std.specs.Prelude.{ℕ, zero, suc, ◌+◌, ◌-◌, true, cond, ◌&&◌, List, ℤ, pos, negsuc, Some, None, Option, ◌==◌, int_lt, nat_le, nat_lt}
use Rattle.std.specs.List.{between}
use Rattle.refusals.specs.Answers.{Answer, gives, refuses, unless, if_given}
use Rattle.refusals.specs.Outputs.{written, overwritten}
use Rattle.characters.specs.Signed.{upward, past, backward}
use Rattle.tokens.specs.declared.token.Token.{Token}
use Rattle.streams.specs.Calls.{when_open, mark_answer, marks_after_mark, release_answer, marks_after_release, status_with}
use Rattle.windows.specs.Windows.{admission}
use Rattle.windows.specs.Reads.{follow, texts_of}
use Rattle.token_streams.specs.Unbuffered.{Unbuffered, tokens, token_at, eof_index, reach, clamped, needed, moved, with_status}

-- 16 already open, 10 capacity
abbrev pub open_answer : Unbuffered → ℤ → Answer (Unit {0})
open_answer u c = unless u.status.opened 16 (admission c)

abbrev pub opened_with : Unbuffered → ℤ → Unbuffered
opened_with u c = record { feed = u.feed; status = record { opened = true; marks = u.status.marks }; capacity = upward c; cursor = u.cursor; floor = u.floor; pulled = u.pulled }

abbrev pub after_open : Unbuffered → ℤ → Unbuffered
after_open u c = if_given (open_answer u c) (opened_with u c) u

-- the k-th token before the cursor, counted from 1: 4 dropped below the floor, unless it is the nearest
abbrev pub behind : Unbuffered → ℕ → Answer (Option Token)
behind u k =
    cond (nat_lt u.cursor k) (gives None)
    (unless (nat_lt 1 k && nat_lt (u.cursor - k) u.floor) 4 (gives (Some (token_at u (u.cursor - k)))))

-- the k-th token from the cursor on, counted from 0, or the EOF where fewer remain: 3 window full
abbrev pub ahead : Unbuffered → ℕ → Answer (Option Token)
ahead u k = unless (nat_le (reach u) (clamped u (u.cursor + k))) 3 (gives (Some (token_at u (clamped u (u.cursor + k)))))

-- 1 zero offset, 4 dropped, 3 window full
abbrev pub looked : Unbuffered → ℤ → Answer (Option Token)
looked u (pos zero) = refuses 1
looked u (pos (suc k)) = ahead u k
looked u (negsuc k) = behind u (suc k)

abbrev pub lt : Unbuffered → ℤ → Answer (Option Token)
lt u k = when_open u.status (looked u k)

abbrev pub looked_for : Unbuffered → ℤ → Unbuffered
looked_for u (pos zero) = u
looked_for u (pos (suc k)) = needed u (clamped u (u.cursor + k))
looked_for u (negsuc k) = u

abbrev pub after_lt : Unbuffered → ℤ → Unbuffered
after_lt u k = cond u.status.opened (looked_for u k) u

-- the type of a token, and 0 for none
abbrev pub type_of : Option Token → ℤ
type_of (Some k) = k.token_type
type_of None = pos 0

abbrev pub typed : Answer (Option Token) → Answer ℤ
typed (gives t) = gives (type_of t)
typed (refuses n) = refuses n

abbrev pub la : Unbuffered → ℤ → Answer ℤ
la u k = typed (lt u k)

-- 2 end of stream, 3 window full
abbrev pub consume : Unbuffered → Answer (Unit {0})
consume u = when_open u.status (unless (u.cursor == eof_index u) 2 (unless (nat_le (reach u) (u.cursor + 1)) 3 (gives tt)))

abbrev pub after_consume : Unbuffered → Unbuffered
after_consume u =
    let seen = needed u (clamped u (u.cursor + 1)) in
    cond u.status.opened (if_given (consume u) (moved seen (u.cursor + 1)) seen) u

-- 5 negative, 4 dropped, 3 window full
abbrev pub sought : Unbuffered → ℕ → Answer (Unit {0})
sought u i = unless (nat_lt i u.floor) 4 (unless (nat_le (reach u) (clamped u i)) 3 (gives tt))

abbrev pub seek : Unbuffered → ℤ → Answer (Unit {0})
seek u (negsuc i) = when_open u.status (refuses 5)
seek u (pos i) = when_open u.status (sought u i)

abbrev pub after_sought : Unbuffered → ℕ → Unbuffered
after_sought u i =
    let seen = needed u (clamped u i) in
    cond (nat_lt i u.floor) u (if_given (sought u i) (moved seen (clamped u i)) seen)

abbrev pub after_seek : Unbuffered → ℤ → Unbuffered
after_seek u (negsuc i) = u
after_seek u (pos i) = cond u.status.opened (after_sought u i) u

abbrev pub index_of : Unbuffered → Answer ℤ
index_of u = when_open u.status (gives (pos u.cursor))

-- the tokens held from the floor on
abbrev pub size_of : Unbuffered → Answer ℤ
size_of u = when_open u.status (gives (pos (u.pulled - u.floor)))

-- a mark has the number -1, -2 and so on
abbrev pub mark_of : Unbuffered → ℤ → Answer ℤ
mark_of u n = mark_answer u.status n

abbrev pub after_mark : Unbuffered → ℤ → Unbuffered
after_mark u n = with_status u (status_with u.status (marks_after_mark u.status n))

abbrev pub release_of : Unbuffered → ℤ → Answer (Unit {0})
release_of u n = release_answer u.status n

abbrev pub after_release : Unbuffered → ℤ → Unbuffered
after_release u n = with_status u (status_with u.status (marks_after_release u.status n))

-- 5 negative, 4 dropped, 6 not held
abbrev pub get : Unbuffered → ℤ → Answer Token
get u (negsuc i) = when_open u.status (refuses 5)
get u (pos i) = when_open u.status (unless (nat_lt i u.floor) 4 (unless (nat_le u.pulled i) 6 (gives (token_at u i))))

-- 5 negative, 13 bad interval, 4 dropped, 6 not held
abbrev pub interval_held : Unbuffered → ℤ → ℤ → Answer (Unit {0})
interval_held u start stop =
    unless (int_lt start (pos 0)) 5
    (unless (backward start stop) 13
    (unless (nat_lt (upward start) u.floor) 4
    (unless (nat_lt u.pulled (past stop)) 6 (gives tt))))

-- the texts of the tokens from start through stop, one after the other, up to the EOF
abbrev pub interval_text : Unbuffered → ℤ → ℤ → List ℕ
interval_text u start stop = texts_of u.feed.text (between (upward start) (past stop) (tokens u))

-- 14 short output comes last
abbrev pub text : Unbuffered → ℤ → ℤ → List ℕ → Answer ℕ
text u start stop out = when_open u.status (follow (interval_held u start stop) (written (interval_text u start stop) out))

abbrev pub text_left : Unbuffered → ℤ → ℤ → List ℕ → List ℕ
text_left u start stop out = cond u.status.opened (if_given (interval_held u start stop) (overwritten (interval_text u start stop) out) out) out
