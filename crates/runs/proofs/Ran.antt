-- A list of calls, one after the other. Assumes nothing.
use Rattle.std.proofs.Common.{◌≡◌, ℕ, Option, suc, ◌+◌, ◌<◌, ◌≤◌, ltb, List, [], ◌∷◌, ◌++◌, map, length, get_or, drop, set, sym, refl, ap, ◌∙◌, subst, arith, Result}
use Rattle.std.specs.List.{AllByRecursion}
use Rattle.std.proofs.lemmas.List.{append_assoc, append-nil, length_push, length-map, drop_more, drop_all, set_at, map-set}
use Rattle.std.proofs.ByRecursion.{All-push}
use Rattle.std.proofs.lemmas.Bool.{le-ltb, lt-ltb, cond-true, cond-false}
use Rattle.refusals.specs.declared.Refusal.{Refusal}
use Rattle.refusals.specs.Outputs.{overwritten}
use Rattle.tokens.specs.declared.token.Token.{Token}
use Rattle.streams.specs.Streams.{Status}
use Rattle.windows.specs.Windows.{View}
use Rattle.token_streams.specs.Unbuffered.{Unbuffered, reach}
use Rattle.token_streams.specs.Shown.{Together}
use Rattle.runs.specs.declared.call.Call.{Call}
use Rattle.runs.specs.declared.call.Reply.{Reply}
use Rattle.runs.specs.Replies.{Replied, done, reply_of}
use Rattle.runs.specs.Runs.{replied, after, left_by, replies, after_all, left_by_all, calls_made}
use Rattle.runs.specs.Laws.{OfList, ShowsTheList}
use Rattle.runs.proofs.Lists.{feed_after}

-- after the first calls: what they answered, and what is left to do
pub record Ran (u : Unbuffered) (old : List ℕ) (cs : List Call) (before : List (Result Reply Refusal)) (at : ℕ) (w : Unbuffered) (out : List ℕ) (now : List (Result Reply Refusal)) : Type 0 where
  pub given : List Replied
  pub many : length given ≡ at
  pub here : map reply_of now ≡ given ++ drop at (map reply_of before)
  pub all : replies u old cs ≡ given ++ replies w out (drop at cs)
  pub after_is : after_all u cs ≡ after_all w (drop at cs)
  pub left_is : left_by_all u old cs ≡ left_by_all w out (drop at cs)
  pub same_feed : w.feed ≡ u.feed
  pub tokens : AllByRecursion (OfList u.feed.list) given

pub record Going (shown : Unbuffered → Type 0) (u : Unbuffered) (old : List ℕ) (cs : List Call) (before : List (Result Reply Refusal)) (at : ℕ) (out : List ℕ) (now : List (Result Reply Refusal)) : Type 0 where
  pub stream : Unbuffered
  pub is_shown : shown stream
  pub ran : Ran u old cs before at stream out now

pub ran_none : (u : Unbuffered) (old : List ℕ) (cs : List Call) (before : List (Result Reply Refusal)) → Ran u old cs before 0 u old before
ran_none u old cs before = record { given = []; many = refl; here = refl; all = refl; after_is = refl; left_is = refl; same_feed = refl; tokens = tt }

pub ran_more : (u : Unbuffered) (old : List ℕ) (cs : List Call) (before : List (Result Reply Refusal)) (at : ℕ) (w : Unbuffered) (out : List ℕ) (now : List (Result Reply Refusal)) (c : Call) (new : List ℕ) (r : Result Reply Refusal) → Ran u old cs before at w out now → at < length before → drop at cs ≡ c ∷ drop (at + 1) cs → reply_of r ≡ replied w out c → new ≡ left_by w out c → OfList w.feed.list (replied w out c) → Ran u old cs before (at + 1) (after w c) new (set now at r)
ran_more u old cs before at w out now c new r ran inside front replies_so left_so of =
    let xs = map reply_of before in
    let x = replied w out c in
    let more = drop_more xs at done (omega (arith, length-map before reply_of)) in
    let long = length_push ran.given x in
    record {
      given = ran.given ++ x ∷ [];
      many = omega (arith, long, ran.many);
      here =
          map-set reply_of now at r ∙ (λ i. set (ran.here i) at (replies_so i))
          ∙ ap (λ l. set (ran.given ++ l) at x) more ∙ set_at ran.given (get_or xs at done) (drop (at + 1) xs) x at ran.many
          ∙ sym (append_assoc ran.given (x ∷ []) (drop (at + 1) xs));
      all = ran.all ∙ ap (λ l. ran.given ++ replies w out l) front ∙ sym (append_assoc ran.given (x ∷ []) (replies (after w c) (left_by w out c) (drop (at + 1) cs))) ∙ ap (λ o. (ran.given ++ x ∷ []) ++ replies (after w c) o (drop (at + 1) cs)) (sym left_so);
      after_is = ran.after_is ∙ ap (after_all w) front;
      left_is = ran.left_is ∙ ap (left_by_all w out) front ∙ ap (λ o. left_by_all (after w c) o (drop (at + 1) cs)) (sym left_so);
      same_feed = feed_after w c ∙ ran.same_feed;
      tokens = All-push (OfList u.feed.list) ran.given x ran.tokens (subst (λ f. OfList f.list x) ran.same_feed of);
    }

pub length_replies : (u : Unbuffered) (out : List ℕ) (cs : List Call) → length (replies u out cs) ≡ length cs
length_replies u out [] = refl
length_replies u out (c ∷ cs) = ap suc (length_replies (after u c) (left_by u out c) cs)

-- the law, from the last stream that is shown
pub the_law : (u : Unbuffered) (out : List ℕ) (cs : List Call) (w : Unbuffered) (v : View) (coming : List Token) (text : Token → List ℕ) (cursor : ℕ) (b : Option Token) (status : Status) → after_all u cs ≡ w → w.feed ≡ u.feed → AllByRecursion (OfList u.feed.list) (replies u out cs) → Together w v coming text cursor b status → ShowsTheList u out cs
the_law u out cs w v coming text cursor b status last same tokens t =
    let list : length w.feed.list ≡ length u.feed.list = ap (λ f. length f.list) same in
    record {
      the_list_stays = ap (λ s. s.feed) last ∙ same;
      tokens_are_of_the_list = tokens;
      cursor_on_a_token = subst (λ s. s.cursor < length u.feed.list) (sym last) (omega (arith, t.on_token, list));
      floor_never_passes_the_cursor = subst (λ s. s.floor ≤ s.cursor) (sym last) t.above_floor;
      none_pulled_past_the_eof = subst (λ s. s.pulled ≤ length u.feed.list) (sym last) (omega (arith, t.same_pulled, t.holds.within, list));
      none_held_at_the_reach = subst (λ s. s.pulled ≤ reach s) (sym last) t.in_window;
    }

-- where the answers have no room, no call is made
module _ (u : Unbuffered) (old : List ℕ) (cs : List Call) (before : List (Result Reply Refusal)) (short : length before < length cs) where
  pub none_made : calls_made cs before ≡ []
  none_made = cond-true (ltb (length before) (length cs)) [] cs (lt-ltb (length before) (length cs) short)

  pub none_replied : map reply_of before ≡ overwritten (replies u old cs) (map reply_of before)
  none_replied =
      let few : length (map reply_of before) < length (replies u old cs) = omega (arith, length-map before reply_of, length_replies u old cs) in
      sym (cond-true (ltb (length (map reply_of before)) (length (replies u old cs))) (map reply_of before) _ (lt-ltb (length (map reply_of before)) (length (replies u old cs)) few))

-- where they have, all are made
pub record Finished (u : Unbuffered) (old : List ℕ) (cs : List Call) (before : List (Result Reply Refusal)) (w : Unbuffered) (out : List ℕ) (now : List (Result Reply Refusal)) : Type 0 where
  pub made : calls_made cs before ≡ cs
  pub replied : map reply_of now ≡ overwritten (replies u old cs) (map reply_of before)
  pub after_is : after_all u cs ≡ w
  pub left_is : left_by_all u old cs ≡ out
  pub same_feed : w.feed ≡ u.feed
  pub tokens : AllByRecursion (OfList u.feed.list) (replies u old cs)

pub finished : (u : Unbuffered) (old : List ℕ) (cs : List Call) (before : List (Result Reply Refusal)) (at : ℕ) (w : Unbuffered) (out : List ℕ) (now : List (Result Reply Refusal)) → length cs ≤ length before → at ≡ length cs → Ran u old cs before at w out now → Finished u old cs before w out now
finished u old cs before at w out now room over ran =
    let none_left = drop_all at cs (omega arith) in
    let given_all : ran.given ≡ replies u old cs = sym (append-nil ran.given) ∙ ap (λ l. ran.given ++ replies w out l) (sym none_left) ∙ sym ran.all in
    let items = replies u old cs in
    let long : length items ≡ at = ap length (sym given_all) ∙ ran.many in
    let fits : length items ≤ length (map reply_of before) = omega (arith, length-map before reply_of, long) in
    record {
      made = cond-false (ltb (length before) (length cs)) [] cs (le-ltb (length before) (length cs) room);
      replied =
          ran.here ∙ (λ i. given_all i ++ drop (sym long i) (map reply_of before))
          ∙ sym (cond-false (ltb (length (map reply_of before)) (length items)) (map reply_of before) (items ++ drop (length items) (map reply_of before)) (le-ltb (length (map reply_of before)) (length items) fits));
      after_is = ran.after_is ∙ ap (after_all w) none_left;
      left_is = ran.left_is ∙ ap (left_by_all w out) none_left;
      same_feed = ran.same_feed;
      tokens = subst (AllByRecursion (OfList u.feed.list)) given_all ran.tokens;
    }

-- a stream over the same list, with as much pulled, is shown
pub record Kept (shown : Unbuffered → Type 0) (u : Unbuffered) : Type 0 where
  pub stream : Unbuffered
  pub is_shown : shown stream
  pub same_feed : stream.feed ≡ u.feed
  pub same_pulled : stream.pulled ≡ u.pulled
