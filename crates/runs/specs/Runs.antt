-- What a list of calls answers, over a source's whole list. Assumes nothing.
use Rattle.std.specs.Prelude.{ℕ, cond, List, [], ◌∷◌, length, ℤ, negsuc, nat_lt}
use Rattle.refusals.specs.Answers.{Answer, gives, unless}
use Rattle.token_streams.specs.Unbuffered.{Unbuffered}
use Rattle.token_streams.specs.Calls.{open_answer, after_open, lt, after_lt, la, consume, after_consume, seek, after_seek, index_of, size_of, mark_of, after_mark, release_of, after_release, get, text, text_left}
use Rattle.runs.specs.declared.call.Call.{Call}
use Rattle.runs.specs.declared.call.Call.TheVariants.{Open, Consume, La, Lt, Seek, Index, Size, Mark, Release, Get, Text}
use Rattle.runs.specs.Replies.{Replied, as_done, as_number, as_token, as_got, as_count}

-- the number of the next mark
abbrev pub next_mark : Unbuffered → ℤ
next_mark u = negsuc (length u.status.marks)

-- what a call answers, with an output at hand
abbrev pub replied : Unbuffered → List ℕ → Call → Replied
replied u out (Open capacity) = as_done (open_answer u capacity)
replied u out Consume = as_done (consume u)
replied u out (La k) = as_number (la u k)
replied u out (Lt k) = as_token (lt u k)
replied u out (Seek index) = as_done (seek u index)
replied u out Index = as_number (index_of u)
replied u out Size = as_number (size_of u)
replied u out Mark = as_number (mark_of u (next_mark u))
replied u out (Release number) = as_done (release_of u number)
replied u out (Get index) = as_got (get u index)
replied u out (Text start stop) = as_count (text u start stop out)

-- the stream after it
abbrev pub after : Unbuffered → Call → Unbuffered
after u (Open capacity) = after_open u capacity
after u Consume = after_consume u
after u (La k) = after_lt u k
after u (Lt k) = after_lt u k
after u (Seek index) = after_seek u index
after u Index = u
after u Size = u
after u Mark = after_mark u (next_mark u)
after u (Release number) = after_release u number
after u (Get index) = u
after u (Text start stop) = u

-- and what the output then holds
abbrev pub left_by : Unbuffered → List ℕ → Call → List ℕ
left_by u out (Open capacity) = out
left_by u out Consume = out
left_by u out (La k) = out
left_by u out (Lt k) = out
left_by u out (Seek index) = out
left_by u out Index = out
left_by u out Size = out
left_by u out Mark = out
left_by u out (Release number) = out
left_by u out (Get index) = out
left_by u out (Text start stop) = text_left u start stop out

-- the same for one call after the other
abbrev pub replies : Unbuffered → List ℕ → List Call → List Replied
replies u out [] = []
replies u out (c ∷ cs) = replied u out c ∷ replies (after u c) (left_by u out c) cs

abbrev pub after_all : Unbuffered → List Call → Unbuffered
after_all u [] = u
after_all u (c ∷ cs) = after_all (after u c) cs

abbrev pub left_by_all : Unbuffered → List ℕ → List Call → List ℕ
left_by_all u out [] = out
left_by_all u out (c ∷ cs) = left_by_all (after u c) (left_by u out c) cs

-- 14 short output, where the replies to all calls have no room
abbrev pub run_answer : {A B : Type 0} → List A → List B → Answer ℕ
run_answer cs room = unless (nat_lt (length room) (length cs)) 14 (gives (length cs))

-- then none is made
abbrev pub calls_made : {B : Type 0} → List Call → List B → List Call
calls_made cs room = cond (nat_lt (length room) (length cs)) [] cs
