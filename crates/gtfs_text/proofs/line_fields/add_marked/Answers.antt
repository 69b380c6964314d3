use Rattle.std.proofs.Common.{◌≡◌, ◌∙◌, ◌+◌, ◌++◌, ◌∷◌, [], List, ℕ, Bor, map, sym, ap, arith, append_assoc}
use Rattle.std.specs.Str.{is_utf8}
use Rattle.std.proofs.lemmas.List.{map-append}
use Rattle.std.proofs.lemmas.Str.{IsUtf8-from_is_utf8}
use Rattle.gtfs_text.specs.Commas.{fields_from}
use Rattle.gtfs_text.specs.Sheets.{is_text}
use Rattle.gtfs_text.proofs.CommaMarks.{lowest_is_next, marks_after, next_field, none_unmarked}
use Rattle.gtfs_text.proofs.TestFacts.{both}
use Rattle.gtfs_text.proofs.line_fields.add_marked.Goals as goal

pub from_utf8_unchecked-requires : goal.from_utf8_unchecked-requires
from_utf8_unchecked-requires c =
    let line = c.args.line.now in
    let inv = c.commas.invariant in
    let is = lowest_is_next line c.args.at c.commas.next c.commas.left c.lowest-bit.result inv.marks inv.none c.lowest-bit.ensures.bound c.lowest-bit.ensures.set c.lowest-bit.ensures.below in
    let field = c.without_spaces-field.result.now in
    let after = fields_from line (c.args.at + c.lowest-bit.result + 1) in
    let whole : fields_from line c.commas.next ≡ field ∷ after =
    next_field line c.commas.next (c.args.at + c.lowest-bit.result) is ∙ ap (λ (f : List ℕ). f ∷ after) (sym c.without_spaces-field.ensures) in
    IsUtf8-from_is_utf8 field (both (is_utf8 field) (is_text after) (ap is_text (sym whole) ∙ inv.text)).0

pub commas-preserved : goal.commas-preserved
commas-preserved c =
    let line = c.args.line.now in
    let inv = c.commas.invariant in
    let at = c.args.at in
    let bit = c.lowest-bit.result in
    let is = lowest_is_next line at c.commas.next c.commas.left bit inv.marks inv.none c.lowest-bit.ensures.bound c.lowest-bit.ensures.set c.lowest-bit.ensures.below in
    let field = c.without_spaces-field.result.now in
    let after = fields_from line (at + bit + 1) in
    let whole : fields_from line c.commas.next ≡ field ∷ after =
    next_field line c.commas.next (at + bit) is ∙ ap (λ (f : List ℕ). f ∷ after) (sym c.without_spaces-field.ensures) in
    let now = λ (f : Bor (List ℕ)). f.now in
    let kept = c.commas.fields.items in
    record {
      low = omega (arith, c.lowest-bit.ensures.bound);
      within = omega (arith, is.within);
      none = λ k from to. absurd (omega (arith, from, to));
      marks = marks_after line at c.commas.next c.commas.left bit c.without-left.result inv.marks is.low c.lowest-bit.ensures.below c.without-left.ensures.gone c.without-left.ensures.kept;
      text = (both (is_utf8 field) (is_text after) (ap is_text (sym whole) ∙ inv.text)).1;
      whole =
          ap (λ (fs : List (Bor (List ℕ))). map now fs ++ after) c.in_ok-push.ensures.items
          ∙ ap (λ (fs : List (List ℕ)). fs ++ after) (map-append now kept (c.from_utf8_unchecked.result ∷ []))
          ∙ append_assoc (map now kept) (c.from_utf8_unchecked.result.now ∷ []) after
          ∙ ap (λ (f : List ℕ). map now kept ++ (f ∷ after)) c.from_utf8_unchecked.ensures
          ∙ ap (λ (fs : List (List ℕ)). map now kept ++ fs) (sym whole)
          ∙ inv.whole;
    }

pub returns-clause-none : goal.returns-clause-none
returns-clause-none c = none_unmarked c.args.line.now c.args.at c.commas.next c.commas.left c.commas.invariant.marks c.commas.invariant.none c.commas-test.false
