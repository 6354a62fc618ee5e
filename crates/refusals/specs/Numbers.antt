-- The number and the words of each refusal. Contracts name a refusal by its number, which is the one that is printed.
-- Assumes nothing.
use Rattle.std.specs.Prelude.{ℕ, List, codes}
use Rattle.refusals.specs.declared.Refusal.{Refusal}
use Rattle.refusals.specs.declared.Refusal.TheVariants.{ZeroOffset, EndOfStream, WindowFull, Dropped, Negative, NotHeld, WrongMark, MarksUsedUp, NotOpen, Capacity, BadText, TooLong, BadInterval, ShortOutput, BadList, AlreadyOpen}

abbrev pub number : Refusal → ℕ
number ZeroOffset = 1
number EndOfStream = 2
number WindowFull = 3
number Dropped = 4
number Negative = 5
number NotHeld = 6
number WrongMark = 7
number MarksUsedUp = 8
number NotOpen = 9
number Capacity = 10
number BadText = 11
number TooLong = 12
number BadInterval = 13
number ShortOutput = 14
number BadList = 15
number AlreadyOpen = 16

abbrev pub meaning : Refusal → List ℕ
meaning ZeroOffset = codes "zero offset"
meaning EndOfStream = codes "end of stream"
meaning WindowFull = codes "window full"
meaning Dropped = codes "dropped"
meaning Negative = codes "negative"
meaning NotHeld = codes "not held"
meaning WrongMark = codes "wrong mark"
meaning MarksUsedUp = codes "marks used up"
meaning NotOpen = codes "not open"
meaning Capacity = codes "capacity"
meaning BadText = codes "bad text"
meaning TooLong = codes "too long"
meaning BadInterval = codes "bad interval"
meaning ShortOutput = codes "short output"
meaning BadList = codes "bad list"
meaning AlreadyOpen = codes "already open"
