-- What each call answers of a token comes from the source's list, and no call alters the list. Assumes nothing.
use Rattle.std.proofs.Common.{◌≡◌, ℕ, Option, zero, suc, ◌+◌, ◌-◌, ◌<◌, Bool, true, false, cond, not, ◌&&◌, ltb, leb, List, length, get_or, ℤ, pos, negsuc, Some, None, sym, refl, ap, ◌∙◌, arith}
use Rattle.std.proofs.lemmas.Bool.{leb-false}
use Rattle.refusals.specs.Answers.{Answer, gives, refuses, unless, if_given}
use Rattle.characters.specs.Signed.{upward}
use Rattle.tokens.specs.declared.token.Token.{Token}
use Rattle.streams.specs.Streams.{Status}
use Rattle.windows.specs.Lists.{stamps, blank}
use Rattle.windows.specs.Windows.{View}
use Rattle.windows.proofs.Stamps.{get_or_stamps}
use Rattle.token_streams.specs.Unbuffered.{Unbuffered, token_at, reach, clamped}
use Rattle.token_streams.specs.Calls.{open_answer, opened_with, looked, get, consume, la, seek, index_of, size_of, mark_of, release_of, text}
use Rattle.token_streams.specs.Shown.{Together}
use Rattle.token_streams.proofs.Symbols.{feed_lt, feed_consume, feed_seek}
use Rattle.runs.specs.declared.call.Call.{Call}
use Rattle.runs.specs.declared.call.Call.TheVariants.{Open, Consume, La, Lt, Seek, Index, Size, Mark, Release, Get, Text}
use Rattle.runs.specs.Replies.{token, as_done, as_number, as_token, as_got, as_count}
use Rattle.runs.specs.Runs.{next_mark, replied, after}
use Rattle.runs.specs.Laws.{OfList}

pub feed_after : (u : Unbuffered) (c : Call) → (after u c).feed ≡ u.feed
feed_after u (Open z) = go (open_answer u z)
  where
    go : (a : Answer (Unit {0})) → (if_given a (opened_with u z) u).feed ≡ u.feed
    go (gives x) = refl
    go (refuses n) = refl
feed_after u Consume = feed_consume u
feed_after u (La k) = feed_lt u k
feed_after u (Lt k) = feed_lt u k
feed_after u (Seek i) = feed_seek u i
feed_after u Index = refl
feed_after u Size = refl
feed_after u Mark = refl
feed_after u (Release n) = refl
feed_after u (Get i) = refl
feed_after u (Text a b) = refl

of_done : (list : List Token) (a : Answer (Unit {0})) → OfList list (as_done a)
of_done list (gives x) = tt
of_done list (refuses n) = tt

of_number : (list : List Token) (a : Answer ℤ) → OfList list (as_number a)
of_number list (gives x) = tt
of_number list (refuses n) = tt

of_count : (list : List Token) (a : Answer ℕ) → OfList list (as_count a)
of_count list (gives x) = tt
of_count list (refuses n) = tt

of_place : (list : List Token) (i : ℕ) → i < length list → OfList list (token (Some (get_or (stamps 0 list) i blank)))
of_place list i h =
    let at : upward (get_or (stamps 0 list) i blank).index ≡ i = ap (λ k. upward k.index) (get_or_stamps list i 0 blank h) ∙ omega arith in
    (omega (arith, at), ap (λ n. get_or (stamps 0 list) n blank) (sym at))

module _ (u : Unbuffered) (v : View) (coming : List Token) (texts : Token → List ℕ) (cursor : ℕ) (before : Option Token) (status : Status) (t : Together u v coming texts cursor before status) where
  list : List Token
  list = u.feed.list

  of_looked : (k : ℤ) → OfList u.feed.list (as_token (looked u k))
  of_looked (pos zero) = tt
  of_looked (pos (suc k)) = go (leb (reach u) (clamped u (u.cursor + k)))
    where
      go : (b : Bool) → OfList u.feed.list (as_token (unless b 3 (gives (Some (token_at u (clamped u (u.cursor + k)))))))
      go true = tt
      go false = of_place u.feed.list (clamped u (u.cursor + k)) (omega (arith, t.on_token))
  of_looked (negsuc k) = go (ltb u.cursor (suc k)) (ltb 1 (suc k) && ltb (u.cursor - suc k) u.floor)
    where
      go : (b d : Bool) → OfList u.feed.list (as_token (cond b (gives None) (unless d 4 (gives (Some (token_at u (u.cursor - suc k)))))))
      go true d = tt
      go false true = tt
      go false false = of_place u.feed.list (u.cursor - suc k) (omega (arith, t.on_token))

  of_got : (i : ℤ) → OfList u.feed.list (as_got (get u i))
  of_got (negsuc i) = go u.status.opened
    where
      go : (b : Bool) → OfList u.feed.list (as_got (unless (not b) 9 (refuses 5)))
      go true = tt
      go false = tt
  of_got (pos i) = go u.status.opened (ltb i u.floor) (leb u.pulled i) refl
    where
      go : (b d e : Bool) → leb u.pulled i ≡ e → OfList u.feed.list (as_got (unless (not b) 9 (unless d 4 (unless e 6 (gives (token_at u i))))))
      go false d e p = tt
      go true true e p = tt
      go true false true p = tt
      go true false false p = let h = leb-false u.pulled i p in of_place u.feed.list i (omega (arith, t.same_pulled, t.holds.within))

  pub of_list : (out : List ℕ) (c : Call) → OfList u.feed.list (replied u out c)
  of_list out (Open z) = of_done u.feed.list (open_answer u z)
  of_list out Consume = of_done u.feed.list (consume u)
  of_list out (La k) = of_number u.feed.list (la u k)
  of_list out (Lt k) = go u.status.opened
    where
      go : (b : Bool) → OfList u.feed.list (as_token (unless (not b) 9 (looked u k)))
      go true = of_looked k
      go false = tt
  of_list out (Seek i) = of_done u.feed.list (seek u i)
  of_list out Index = of_number u.feed.list (index_of u)
  of_list out Size = of_number u.feed.list (size_of u)
  of_list out Mark = of_number u.feed.list (mark_of u (next_mark u))
  of_list out (Release n) = of_done u.feed.list (release_of u n)
  of_list out (Get i) = of_got i
  of_list out (Text a b) = of_count u.feed.list (text u a b out)
