-- Where the code points of bytes in UTF-8 start. Assumes nothing.
use Rattle.std.proofs.Common.{◌≡◌, ℕ, zero, suc, ◌+◌, ◌-◌, ◌/◌, ◌%◌, ◌<◌, ◌≤◌, true, false, cond, ◌&&◌, eqb, ltb, leb, List, [], ◌∷◌, ◌++◌, length, get_or, take, drop, min, Some, None, Option, MatchOption, sym, refl, ap, ◌∙◌, ⊎_elim, add-zero, arith}
use lib.Utf8.{scalar, scalars, encode, encodes, next}
use Rattle.std.specs.Char.{len_utf8}
use Rattle.std.specs.List.{AllByRecursion, prefix_len}
use Rattle.std.specs.Str.{chars}
use Rattle.std.proofs.ByRecursion.{All-get_or}
use Rattle.std.proofs.lemmas.List.{length-append, length-take, length-take-le, get_or-take, length-drop, get_or-append-add, get_or_append_left, get_or-drop, drop_at, take_at}
use Rattle.std.proofs.lemmas.Bool.{ltb-true, leb-true, le-leb, lt-leb, both_ways, and_left, and_right, and_from, and_parts, cond_both, cases_lt, cases_Bool}
use Rattle.std.proofs.lemmas.List.Sums.{prefix_len-drop_yes, prefix_len-drop_no, prefix_len-drop_all}
use Rattle.std.proofs.lemmas.Str.{length-encode, len_utf8_bounds, encode_same, encodes-append, chars-nil, chars-encodes}
use Rattle.characters.specs.Text.{start_from, item_at, back, empty, cuts, part}
use Rattle.utf8.specs.Reading.{Begins}
use Rattle.texts.specs.Laid.{span, laid_out}
use Rattle.texts.specs.Encoded.{encoded_text, goes_on, AllGoOn}
use Rattle.texts.specs.Keeps.{span_width}
use Rattle.texts.proofs.Laid.{Within, Cut, located, from_start, from_within, from_past, item_start, item_within, item_past, back_within, back_first, back_past, cuts_split, part_cut}

-- a byte that starts a code point, and then bytes that go on with it
abbrev Spelt : List ℕ → Type 0
Spelt [] = ⊥
Spelt (b ∷ bs) = (goes_on b ≡ false) × AllByRecursion (λ x. goes_on x ≡ true) bs

starts_low : (b : ℕ) → b < 128 → goes_on b ≡ false
starts_low b h = and_left _ _ (lt-leb 128 b h)

starts_high : (b : ℕ) → 192 ≤ b → goes_on b ≡ false
starts_high b h = and_right (leb 128 b) _ (lt-leb b 191 (omega arith))

next_goes_on : (bits : ℕ) → goes_on (next bits) ≡ true
next_goes_on bits = and_from _ _ (le-leb 128 (128 + bits % 64) (omega arith)) (le-leb (128 + bits % 64) 191 (omega arith))

spelt : (c : ℕ) → Spelt (encode c)
unfolding encode
spelt c =
    cond_both (ltb c 128) (c ∷ []) _ Spelt (λ e. (starts_low c (ltb-true c 128 e), tt))
    (λ _. cond_both (ltb c 2048) ((192 + c / 64) ∷ next c ∷ []) _ Spelt (λ _. (starts_high (192 + c / 64) (omega arith), (next_goes_on c, tt)))
    (λ _. cond_both (ltb c 65536) ((224 + c / 4096) ∷ next (c / 64) ∷ next c ∷ []) _ Spelt (λ _. (starts_high (224 + c / 4096) (omega arith), (next_goes_on (c / 64), (next_goes_on c, tt))))
    (λ _. (starts_high (240 + c / 262144) (omega arith), (next_goes_on (c / 4096), (next_goes_on (c / 64), (next_goes_on c, tt)))))))

first_starts : (bs : List ℕ) → Spelt bs → goes_on (get_or bs 0 0) ≡ false
first_starts [] h = absurd h
first_starts (b ∷ bs) h = h.0

later_goes_on : (bs : List ℕ) (d : ℕ) → Spelt bs → 0 < d → d < length bs → goes_on (get_or bs d 0) ≡ true
later_goes_on [] d h l k = absurd h
later_goes_on (b ∷ bs) zero h l k = absurd (omega arith)
later_goes_on (b ∷ bs) (suc d) h l k = All-get_or (λ x. goes_on x ≡ true) bs d 0 (omega arith) h.1

wide : (c : ℕ) → 1 ≤ len_utf8 c
wide c = (len_utf8_bounds c).0

scalars_parts : (xs ys : List ℕ) → scalars (xs ++ ys) ≡ true → (scalars xs ≡ true) × (scalars ys ≡ true)
scalars_parts [] ys e = (refl, e)
scalars_parts (x ∷ xs) ys e =
    let both = and_parts (scalar x) (scalars (xs ++ ys)) e in
    let more = scalars_parts xs ys both.1 in
    (and_from (scalar x) (scalars xs) both.0 more.0, more.1)

-- the bytes before a split of the code points, and after it
split_bytes : (bs xs ys : List ℕ) → encodes (chars bs) ≡ bs → chars bs ≡ xs ++ ys → bs ≡ encodes xs ++ encodes ys
split_bytes bs xs ys enc e = sym enc ∙ ap encodes e ∙ encodes-append xs ys

module _ (bs : List ℕ) (enc : encodes (chars bs) ≡ bs) where
  pub encoded_size : (encoded_text bs).size ≡ length bs
  encoded_size = span_width (chars bs) ∙ ap length enc

  find : (p : ℕ) → p < length bs → Within len_utf8 (chars bs) p
  find p h = located len_utf8 (chars bs) p (omega (arith, encoded_size))

  module _ (p : ℕ) (at : Within len_utf8 (chars bs) p) where
    bytes_around : bs ≡ encodes at.before ++ (encode at.here ++ encodes at.after)
    bytes_around = split_bytes bs at.before (at.here ∷ at.after) enc at.whole

    byte_here : get_or bs p 0 ≡ get_or (encode at.here) at.deep 0
    byte_here =
        let place : p ≡ length (encodes at.before) + at.deep = omega (arith, at.spot, span_width at.before) in
        (λ k. get_or (bytes_around k) (place k) 0)
        ∙ get_or-append-add (encodes at.before) (encode at.here ++ encodes at.after) at.deep 0
        ∙ get_or_append_left (encode at.here) (encodes at.after) 0 at.deep (omega (arith, at.inner, length-encode at.here))

    -- a byte goes on exactly where it is no start
    inner_goes_on : 0 < at.deep → goes_on (get_or bs p 0) ≡ true
    inner_goes_on d = ap goes_on byte_here ∙ later_goes_on (encode at.here) at.deep (spelt at.here) d (omega (arith, at.inner, length-encode at.here))

    start_stops : at.deep ≡ 0 → goes_on (get_or bs p 0) ≡ false
    start_stops e = ap goes_on (byte_here ∙ ap (λ d. get_or (encode at.here) d 0) e) ∙ first_starts (encode at.here) (spelt at.here)

    goes_on_inner : goes_on (get_or bs p 0) ≡ true → 0 < at.deep
    goes_on_inner t = ⊎_elim (λ d. d) (λ d. absurd (both_ways _ (start_stops (omega arith)) t)) (cases_lt 0 at.deep)

    stops_start : goes_on (get_or bs p 0) ≡ false → at.deep ≡ 0
    stops_start f = ⊎_elim (λ d. absurd (both_ways _ f (inner_goes_on d))) (λ d. omega arith) (cases_lt 0 at.deep)

    -- the starts around the code point here
    next_start : (q : ℕ) → span len_utf8 at.before < q → q ≤ span len_utf8 at.before + len_utf8 at.here → start_from (encoded_text bs) q ≡ span len_utf8 at.before + len_utf8 at.here
    next_start q low high = ap (λ l. start_from (laid_out len_utf8 l) q) at.whole ∙ from_within len_utf8 wide at.before at.here at.after q low high

    this_start : (q : ℕ) → span len_utf8 at.before < q → q ≤ span len_utf8 at.before + len_utf8 at.here → back (encoded_text bs) q 1 ≡ Some (span len_utf8 at.before)
    this_start q low high = ap (λ l. back (laid_out len_utf8 l) q 1) at.whole ∙ back_within len_utf8 wide at.before at.here at.after q low high

    bytes_from : at.deep ≡ 0 → drop p bs ≡ encode at.here ++ encodes at.after
    bytes_from e = ap (drop p) bytes_around ∙ drop_at (encodes at.before) (encode at.here ++ encodes at.after) p (omega (arith, at.spot, span_width at.before))

  module _ (p : ℕ) (h : p < length bs) where
    pub from_on : goes_on (get_or bs p 0) ≡ true → start_from (encoded_text bs) p ≡ start_from (encoded_text bs) (p + 1)
    from_on t =
        let at = find p h in
        let d = goes_on_inner p at t in
        next_start p at p (omega (arith, at.spot)) (omega (arith, at.spot, at.inner)) ∙ sym (next_start p at (p + 1) (omega (arith, at.spot)) (omega (arith, at.spot, at.inner)))

    pub from_here : goes_on (get_or bs p 0) ≡ false → start_from (encoded_text bs) p ≡ p
    from_here f =
        let at = find p h in
        let place : p ≡ span len_utf8 at.before = omega (arith, at.spot, stops_start p at f) in
        (λ k. start_from (laid_out len_utf8 (at.whole k)) (place k)) ∙ from_start len_utf8 wide at.before (at.here ∷ at.after) ∙ sym place

    pub back_on : goes_on (get_or bs p 0) ≡ true → (0 < p) × (back (encoded_text bs) (p + 1) 1 ≡ back (encoded_text bs) p 1)
    back_on t =
        let at = find p h in
        let d = goes_on_inner p at t in
        (omega (arith, at.spot), this_start p at (p + 1) (omega (arith, at.spot)) (omega (arith, at.spot, at.inner)) ∙ sym (this_start p at p (omega (arith, at.spot)) (omega (arith, at.spot, at.inner))))

    pub back_here : goes_on (get_or bs p 0) ≡ false → back (encoded_text bs) (p + 1) 1 ≡ Some p
    back_here f =
        let at = find p h in
        let place : span len_utf8 at.before ≡ p = omega (arith, at.spot, stops_start p at f) in
        this_start p at (p + 1) (omega arith) (omega (arith, at.inner)) ∙ ap Some place

    -- bytes that begin with the encoding of a code point begin where one starts, and with that one
    begins_stops : (c : ℕ) (rest : List ℕ) → Begins (drop p bs) c rest → goes_on (get_or bs p 0) ≡ false
    begins_stops c rest b =
        let first : get_or bs p 0 ≡ get_or (encode c) 0 0 =
        ap (λ k. get_or bs k 0) (sym (add-zero p))
        ∙ sym (get_or-drop p bs 0 0)
        ∙ ap (λ l. get_or l 0 0) b.whole
        ∙ get_or_append_left (encode c) rest 0 0 (omega (arith, length-encode c, wide c)) in
        ap goes_on first ∙ first_starts (encode c) (spelt c)

    begins_here : (c : ℕ) (rest : List ℕ) → Begins (drop p bs) c rest → (at : Within len_utf8 (chars bs) p) × (at.deep ≡ 0) × (c ≡ at.here) × (rest ≡ encodes at.after)
    begins_here c rest b =
        let at = find p h in
        let start = stops_start p at (begins_stops c rest b) in
        let same = encode_same c at.here rest (encodes at.after) (sym b.whole ∙ bytes_from p at start) in
        (at, start, same.0, same.1)

    pub item_begins : (c : ℕ) (rest : List ℕ) → Begins (drop p bs) c rest → item_at (encoded_text bs) p ≡ Some c
    item_begins c rest b =
        let here = begins_here c rest b in
        let at = here.0 in
        let place : p ≡ span len_utf8 at.before = omega (arith, at.spot, here.1) in
        (λ k. item_at (laid_out len_utf8 (at.whole k)) (place k)) ∙ item_start len_utf8 wide at.before at.here at.after ∙ ap Some (sym here.2)

    pub next_begins : (c : ℕ) (rest : List ℕ) → Begins (drop p bs) c rest → start_from (encoded_text bs) (suc p) ≡ length bs - length rest
    next_begins c rest b =
        let here = begins_here c rest b in
        let at = here.0 in
        let long = ap length (bytes_around p at) ∙ length-append (encodes at.before) (encode at.here ++ encodes at.after) in
        next_start p at (suc p) (omega (arith, at.spot)) (omega (arith, at.spot, at.inner))
        ∙ omega (arith, long, length-append (encode at.here) (encodes at.after), span_width at.before, length-encode at.here, ap length here.3)

    pub item_none : scalars (chars bs) ≡ true → ((c : ℕ) (rest : List ℕ) → Begins (drop p bs) c rest → ⊥) → item_at (encoded_text bs) p ≡ None
    item_none valid never =
        let at = find p h in
        ⊎_elim
        (λ d. ap (λ l. item_at (laid_out len_utf8 l) p) at.whole ∙ item_within len_utf8 wide at.before at.here at.after p (omega (arith, at.spot)) (omega (arith, at.spot, at.inner)))
        (λ d.
        let from_here = (scalars_parts at.before (at.here ∷ at.after) (ap scalars (sym at.whole) ∙ valid)).1 in
        absurd (never at.here (encodes at.after) (record { value = (and_parts (scalar at.here) (scalars at.after) from_here).0; whole = bytes_from p at (omega arith) })))
        (cases_lt 0 at.deep)

  pub from_end : (p : ℕ) → length bs ≤ p → start_from (encoded_text bs) p ≡ length bs
  from_end p h = from_past len_utf8 wide (chars bs) p (omega (arith, encoded_size)) ∙ encoded_size

  pub back_end : (p : ℕ) → length bs < p → back (encoded_text bs) p 1 ≡ Some (length bs)
  back_end p h = back_past len_utf8 wide (chars bs) p (omega (arith, encoded_size)) ∙ ap Some encoded_size

  pub item_end : (p : ℕ) → length bs ≤ p → item_at (encoded_text bs) p ≡ None
  item_end p h = item_past len_utf8 wide (chars bs) p (omega (arith, encoded_size))

  pub back_none : (p : ℕ) → p ≡ 0 → back (encoded_text bs) p 1 ≡ None
  back_none p e = ap (λ q. back (encoded_text bs) q 1) e ∙ back_first len_utf8 wide (chars bs)

  -- the bytes that go on from a position end where the first start is
  going : (k p : ℕ) → p + k ≡ length bs → p + prefix_len goes_on (drop p bs) ≡ start_from (encoded_text bs) p
  going zero p e = omega (arith, from_end p (omega arith), prefix_len-drop_all goes_on bs p (omega arith))
  going (suc k) p e = ⊎_elim
      (λ t. omega (arith, prefix_len-drop_yes goes_on bs p 0 (omega arith) t, going k (p + 1) (omega arith), from_on p (omega arith) t))
      (λ f. omega (arith, prefix_len-drop_no goes_on bs p 0 (omega arith) f, from_here p (omega arith) f))
      (cases_Bool (goes_on (get_or bs p 0)))

  pub from_going_on : (p m : ℕ) → m ≡ min p (length bs) → m + prefix_len goes_on (drop m bs) ≡ start_from (encoded_text bs) p
  from_going_on p m e = ⊎_elim
      (λ l. let same : m ≡ p = omega arith in going (length bs - m) m (omega arith) ∙ ap (start_from (encoded_text bs)) same)
      (λ l. going (length bs - m) m (omega arith) ∙ from_end m (omega arith) ∙ sym (from_end p l))
      (cases_lt p (length bs))

  -- back over bytes that go on, to the one that starts
  down : (d i p : ℕ) → p ≡ i + 1 + d → p ≤ length bs → goes_on (get_or bs i 0) ≡ false → ((k : ℕ) → i + 1 ≤ k → k < p → goes_on (get_or bs k 0) ≡ true) → back (encoded_text bs) p 1 ≡ Some i
  down zero i p e h f all = let next : p ≡ i + 1 = omega arith in ap (λ q. back (encoded_text bs) q 1) next ∙ back_here i (omega arith) f
  down (suc d) i p e h f all =
      let q = i + 1 + d in
      let next : p ≡ q + 1 = omega arith in
      ap (λ p. back (encoded_text bs) p 1) next ∙ (back_on q (omega arith) (all q (omega arith) (omega arith))).1 ∙ down d i q refl (omega arith) f (λ k l m. all k l (omega arith))

  long : (p : ℕ) (part : List ℕ) → part ≡ take p bs → p ≤ length bs → length part ≡ p
  long p part e h = ap length e ∙ length-take-le p bs h

  within : (p : ℕ) (part : List ℕ) → part ≡ take p bs → p ≤ length bs → (k : ℕ) → k < p → get_or part k 0 ≡ get_or bs k 0
  within p part e h k l = ap (λ l. get_or l k 0) e ∙ get_or-take p bs k 0 l

  pub back_last : (p : ℕ) (part : List ℕ) (r : Option ℕ) → part ≡ take p bs → p ≤ length bs → MatchOption r (AllGoOn part 0) (λ i. (i < length part) × (goes_on (get_or part i 0) ≡ false) × AllGoOn part (i + 1)) → r ≡ back (encoded_text bs) p 1
  back_last p part None e h all = ⊎_elim
      (λ l. let first = sym (ap goes_on (within p part e h 0 l)) ∙ all 0 (omega arith) (omega (arith, long p part e h)) in absurd (omega (arith, (back_on 0 (omega arith) first).0)))
      (λ l. sym (back_none p (omega arith)))
      (cases_lt 0 p)
  back_last p part (Some i) e h found =
      let below : i < p = omega (arith, found.0, long p part e h) in
      sym (down (p - (i + 1)) i p (omega arith) h (sym (ap goes_on (within p part e h i below)) ∙ found.1) (λ k l m. sym (ap goes_on (within p part e h k m)) ∙ found.2 k l (omega (arith, long p part e h))))

pub rest_fits : (bs : List ℕ) (p c : ℕ) (rest : List ℕ) → Begins (drop p bs) c rest → length rest ≤ length bs
rest_fits bs p c rest b = omega (arith, length-drop p bs, ap length b.whole, length-append (encode c) rest)

-- bytes that a text may hold
pub record Fit (bs : List ℕ) : Type 0 where
  pub few : length bs ≤ 65536
  pub encoded : encodes (chars bs) ≡ bs
  pub valid : scalars (chars bs) ≡ true

pub none_fit : Fit []
none_fit = record { few = omega arith; encoded = ap encodes chars-nil; valid = ap scalars chars-nil }

pub none_text : encoded_text [] ≡ empty
none_text = ap (laid_out len_utf8) chars-nil

-- a part between two starts holds whole code points
module _ (bs : List ℕ) (i j : ℕ) (fit : Fit bs) (cut : Cut len_utf8 (chars bs) i j) where
  slice : take (j - i) (drop i bs) ≡ encodes cut.between
  slice =
      let around = split_bytes bs cut.before (cut.between ++ cut.after) fit.encoded cut.whole ∙ ap (λ l. encodes cut.before ++ l) (encodes-append cut.between cut.after) in
      ap (λ l. take (j - i) (drop i l)) around
      ∙ ap (take (j - i)) (drop_at (encodes cut.before) (encodes cut.between ++ encodes cut.after) i (omega (arith, cut.first, span_width cut.before)))
      ∙ take_at (encodes cut.between) (encodes cut.after) (j - i) (omega (arith, cut.first, cut.last, span_width cut.between))

  between_valid : scalars cut.between ≡ true
  between_valid = (scalars_parts cut.between cut.after (scalars_parts cut.before (cut.between ++ cut.after) (ap scalars (sym cut.whole) ∙ fit.valid)).1).0

  slice_codes : chars (take (j - i) (drop i bs)) ≡ cut.between
  slice_codes = ap chars slice ∙ chars-encodes cut.between between_valid

  pub slice_fit : Fit (take (j - i) (drop i bs))
  slice_fit =
      record {
        few = omega (arith, fit.few, length-take (j - i) (drop i bs), length-drop i bs);
        encoded = ap encodes slice_codes ∙ sym slice;
        valid = ap scalars slice_codes ∙ between_valid;
      }

  pub slice_text : cond (cuts (encoded_text bs) i j) (part (encoded_text bs) i j) empty ≡ encoded_text (take (j - i) (drop i bs))
  slice_text = part_cut len_utf8 wide (chars bs) i j cut ∙ ap (laid_out len_utf8) (sym slice_codes)

pub encoded_cut : (bs : List ℕ) (i j : ℕ) → cuts (encoded_text bs) i j ≡ true → Cut len_utf8 (chars bs) i j
encoded_cut bs i j e = cuts_split len_utf8 wide (chars bs) i j e

pub cut_order : (bs : List ℕ) (i j : ℕ) → encodes (chars bs) ≡ bs → cuts (encoded_text bs) i j ≡ true → (i ≤ j) × (j ≤ length bs)
cut_order bs i j enc e =
    let t = encoded_text bs in
    let order = and_parts (leb i j) (leb j t.size) (and_parts (leb i j && leb j t.size) (eqb (start_from t i) i && eqb (start_from t j) j) e).0 in
    (leb-true i j order.0, omega (arith, leb-true j t.size order.1, encoded_size bs enc))
