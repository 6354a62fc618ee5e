-- The stream of a text keeps to the rules of a stream. Assumes nothing.
use Rattle.std.specs.Prelude.{◌≡◌, ℕ, suc, ◌<◌, not, ◌&&◌, List, [], ◌∷◌, ◌++◌, map, length, ℤ, filter, nat_lt, refl}
use Rattle.std.proofs.Common.{sym, ap, subst, ◌∙◌, arith, length-append}
use Rattle.std.proofs.lemmas.List.Elements.{filter-append}
use Rattle.std.proofs.lemmas.List.Sums.{length-filter, count_by-le-length}
use Rattle.characters.specs.Text.{Point, Text, Rises}
use Rattle.characters.specs.Text as text
use Rattle.streams.specs.Streams.{Symbol, Stream, Rising, Lawful, is_eof, place}
use Rattle.input_streams.specs.Symbols.{symbol, eof, symbols, open_with, characters, Shows}

rising : (low size : ℕ) (ps : List Point) → Rises low ps size → Rising low (map symbol ps ++ eof size ∷ [])
rising low size [] h = (h, refl)
rising low size (p ∷ []) h = (h.0, refl, (h.1, refl))
rising low size (p ∷ q ∷ ps) h = (h.0, refl, rising (suc p.at) size (q ∷ ps) h.1)

-- the EOF is never passed over
place_inside : (t : Text) (i : ℕ) → place (symbols t) i < length (symbols t)
place_inside t i =
    let test = λ (y : Symbol). not (is_eof y) && nat_lt y.index i in
    let points = map symbol t.points in
    let split = ap length (filter-append test points (eof t.size ∷ [])) ∙ length-append (filter test points) _ in
    omega (arith, split, length-filter test points, count_by-le-length test points, length-append points (eof t.size ∷ []))

pub shown_lawful : (t : Text) → text.Lawful t → (index : ℕ) (marks : List ℤ) (s : Stream) → Shows t index marks s → Lawful s × (s.status ≡ open_with marks)
shown_lawful t ok index marks s shown =
    let lawful : Lawful (characters t marks (place (symbols t) index)) = record {
      rising = rising 0 t.size t.points ok.rises;
      inside = place_inside t index;
      above_floor = omega arith;
      at_rest = refl;
      below_reach = λ _. refl;
    } in
    (subst Lawful (sym shown.stream) lawful, ap (λ s. s.status) shown.stream)
