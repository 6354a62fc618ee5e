-- The symbols of a token stream keep to the rules of a stream of symbols. Assumes nothing.
use Rattle.std.specs.Prelude.{◌≡◌, ℕ, suc, ◌+◌, ◌<◌, true, not, List, [], ◌∷◌, map, length, get_or, drop, ℤ, pos, negsuc, slice_index_or, Option, refl}
use Rattle.std.proofs.Common.{sym, ap, subst, ◌∙◌, add-zero, arith}
use Rattle.std.proofs.lemmas.List.{length-map, get_or-drop, get_or-map}
use Rattle.std.proofs.lemmas.Bool.{and_parts, not-true, lt-leb}
use Rattle.tokens.specs.declared.token.Token.{Token}
use Rattle.tokens.specs.Tokens.{same, is_eof, ends}
use Rattle.streams.specs.Streams.{Symbol, Status, Stream, Rising, Lawful, minus_one, last_of, ahead, sliding, resting}
use Rattle.windows.specs.Lists.{stamps, blank}
use Rattle.windows.specs.Windows.{View}
use Rattle.windows.proofs.Stamps.{length_stamps, get_or_stamps}
use Rattle.token_streams.specs.Unbuffered.{Unbuffered, tokens, token_at}
use Rattle.token_streams.specs.Shown.{Together}
use Rattle.token_streams.specs.Symbols.{symbol, stream_of, SymbolsOf}

pub eof_same : (z : ℤ) → minus_one z ≡ same z (negsuc 0)
eof_same (pos n) = refl
eof_same (negsuc n) = refl

rising : (i : ℕ) (ks : List Token) → ends ks ≡ true → Rising i (map symbol (stamps i ks))
rising i [] e = let z : ◌≡◌ {A = ℕ} 0 1 = cc in absurd (omega arith)
rising i (k ∷ []) e = (omega arith, eof_same k.token_type ∙ e)
rising i (k ∷ l ∷ ks) e =
    let parts = and_parts (not (is_eof k)) (ends (l ∷ ks)) e in
    (omega arith, eof_same k.token_type ∙ not-true (is_eof k) parts.0, rising (suc i) (l ∷ ks) parts.1)

module _ (u : Unbuffered) where
  pub count : length (map symbol (tokens u)) ≡ length u.feed.list
  count = length-map (tokens u) symbol ∙ length_stamps 0 u.feed.list

  -- the symbol under the cursor has the cursor for its index
  pub here : (d : Symbol) (i : ℕ) → i < length u.feed.list → slice_index_or (drop i (map symbol (tokens u))) 0 d ≡ symbol (token_at u i)
  here d i h =
      get_or-drop i (map symbol (tokens u)) 0 d ∙ ap (λ n. get_or (map symbol (tokens u)) n d) (add-zero i)
      ∙ get_or-map symbol (tokens u) i blank d (omega (arith, length_stamps 0 u.feed.list))

  pub index_at : (i : ℕ) → i < length u.feed.list → (symbol (token_at u i)).index ≡ i
  index_at i h = ap (λ k. (symbol k).index) (get_or_stamps u.feed.list i 0 blank h) ∙ omega arith

pub lawful : {u : Unbuffered} {v : View} {coming : List Token} {text : Token → List ℕ} {cursor : ℕ} {before : Option Token} {status : Status} → Together u v coming text cursor before status → Lawful (stream_of u)
lawful {u = u} t =
    let at : (ahead (stream_of u) 0).index ≡ u.cursor = ap (λ y. y.index) (here u (last_of (map symbol (tokens u))) u.cursor t.on_token) ∙ index_at u u.cursor t.on_token in
    record {
      rising = rising 0 u.feed.list t.holds.ended;
      inside = omega (arith, count u, t.on_token);
      above_floor = omega (arith, at, t.above_floor);
      at_rest = rest u.status.marks refl at;
      below_reach = λ o. let s = t.sees o in lt-leb (u.floor + u.capacity) (ahead (stream_of u) 0).index (omega (arith, at));
    }
  where
    rest : (ms : List ℤ) → u.status.marks ≡ ms → (ahead (stream_of u) 0).index ≡ u.cursor → resting (sliding u.capacity) u.status.marks (ahead (stream_of u) 0).index u.floor ≡ u.floor
    rest [] e at = ap (λ ms. resting (sliding u.capacity) ms (ahead (stream_of u) 0).index u.floor) e ∙ at ∙ sym (t.at_rest e)
    rest (m ∷ ms) e at = ap (λ ms. resting (sliding u.capacity) ms (ahead (stream_of u) 0).index u.floor) e

-- as the trait asks for it
pub keeps : (shown : Unbuffered → Type 0) (status : Status) → ((u : Unbuffered) → shown u → Lawful (stream_of u) × (u.status ≡ status)) → (s : Stream) → SymbolsOf shown s → Lawful s × (s.status ≡ status)
keeps shown status each s of =
    let found = each of.stream of.is_shown in
    (subst Lawful (sym of.symbols) found.0, ap (λ s. s.status) of.symbols ∙ found.1)
