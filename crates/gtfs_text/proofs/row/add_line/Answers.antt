use Rattle.std.proofs.Common.{◌≡◌, ◌∙◌, ◌≤◌, ◌++◌, ◌∷◌, [], List, ℕ, Bor, ap, sym, arith, length, map}
use Rattle.std.specs.Str.{is_utf8}
use Rattle.std.proofs.lemmas.List.{map-append}
use Rattle.std.proofs.lemmas.Str.{IsUtf8-from_is_utf8}
use Rattle.gtfs_text.specs.Commas.{fields_from}
use Rattle.gtfs_text.specs.Sheets.{is_text, without_spaces}
use Rattle.gtfs_text.proofs.CommaMarks.{last_field}
use Rattle.gtfs_text.proofs.TestFacts.{both}
use Rattle.gtfs_text.proofs.row.add_line.Goals as goal

pub from_utf8_unchecked-requires : goal.from_utf8_unchecked-requires
from_utf8_unchecked-requires c =
    let line = c.split_at.result.0.now in
    let past : length line ≤ c.chunks.at = omega (arith, c.split_at.ensures.front_len, c.if-at-size.false) in
    let field = c.without_spaces.result.now in
    let is : fields_from line c.chunks.next ≡ field ∷ [] =
    last_field line c.chunks.next c.chunks.at c.chunks.invariant.none past
    ∙ ap (λ (f : List ℕ). f ∷ []) (ap without_spaces (sym c.split_at-2.ensures.back) ∙ sym c.without_spaces.ensures) in
    IsUtf8-from_is_utf8 field (both (is_utf8 field) (is_text []) (ap is_text (sym is) ∙ c.chunks.invariant.text)).0

pub returns : goal.returns
returns c =
    let line = c.split_at.result.0.now in
    let past : length line ≤ c.chunks.at = omega (arith, c.split_at.ensures.front_len, c.if-at-size.false) in
    let is : fields_from line c.chunks.next ≡ c.without_spaces.result.now ∷ [] =
    last_field line c.chunks.next c.chunks.at c.chunks.invariant.none past
    ∙ ap (λ (f : List ℕ). f ∷ []) (ap without_spaces (sym c.split_at-2.ensures.back) ∙ sym c.without_spaces.ensures) in
    let now = λ (f : Bor (List ℕ)). f.now in
    let kept = c.chunks.fields.items in
    ap (map now) c.in_ok-push.ensures.items
    ∙ map-append now kept (c.from_utf8_unchecked.result ∷ [])
    ∙ ap (λ (f : List ℕ). map now kept ++ f ∷ []) c.from_utf8_unchecked.ensures
    ∙ ap (λ (fs : List (List ℕ)). map now kept ++ fs) (sym is)
    ∙ c.chunks.invariant.whole
    ∙ ap (λ (xs : List ℕ). map now c.args.fields.now.items ++ fields_from xs 0) c.split_at.ensures.front
