-- What holds of every list of calls, whatever was dropped on the way. Assumes nothing.
use Rattle.std.specs.Prelude.{◌≡◌, ℕ, ◌<◌, ◌≤◌, List, length, drop, Some, None, slice_index_or}
use Rattle.std.specs.List.{AllByRecursion}
use Rattle.characters.specs.Signed.{upward}
use Rattle.tokens.specs.declared.token.Token.{Token}
use Rattle.windows.specs.Lists.{stamps, blank}
use Rattle.token_streams.specs.Unbuffered.{Unbuffered, tokens, reach}
use Rattle.runs.specs.declared.call.Call.{Call}
use Rattle.runs.specs.Replies.{Replied, done, number, count, token, refused}
use Rattle.runs.specs.Runs.{replies, after_all}

-- a token that was answered is the one of its index in the source's list, stamped from the list's front
abbrev pub OfList : List Token → Replied → Type 0
OfList list done = Unit {0}
OfList list (number z) = Unit {0}
OfList list (count n) = Unit {0}
OfList list (token None) = Unit {0}
OfList list (token (Some k)) = (upward k.index < length list) × (k ≡ slice_index_or (stamps 0 list) (upward k.index) blank)
OfList list (refused n) = Unit {0}

-- Over every list of calls a stream shows its source's list, and nothing else: the list and its texts stay, every token
-- that is answered comes from it, the cursor is on a token of it, no less is held than from the floor on, and no more than
-- the window may hold or the list has.
pub record ShowsTheList (u : Unbuffered) (out : List ℕ) (cs : List Call) : Type 0 where
  pub the_list_stays : (after_all u cs).feed ≡ u.feed
  pub tokens_are_of_the_list : AllByRecursion (OfList u.feed.list) (replies u out cs)
  pub cursor_on_a_token : (after_all u cs).cursor < length u.feed.list
  pub floor_never_passes_the_cursor : (after_all u cs).floor ≤ (after_all u cs).cursor
  pub none_pulled_past_the_eof : (after_all u cs).pulled ≤ length u.feed.list
  pub none_held_at_the_reach : (after_all u cs).pulled ≤ reach (after_all u cs)

-- a source that comes back has the tokens that were not pulled still to give, if there are any, and the same texts
pub record GivenBack (u : Unbuffered) (coming : List Token) (text : Token → List ℕ) : Type 0 where
  pub rest : u.pulled < length u.feed.list → drop u.pulled (tokens u) ≡ stamps u.pulled coming
  pub texts : text ≡ u.feed.text
