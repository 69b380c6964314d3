use Rattle.std.proofs.Common.{◌≡◌, ◌∙◌, sym, ap, refl, ℕ, Option, true, false, subst, ◌≤◌}
use Rattle.std.specs.Prelude.{is_some}
use Rattle.std.specs.Option.{IfSome}
use Rattle.gtfs_text.specs.Values.{time_of}
use Rattle.gtfs_rows.specs.Rows.{text_under, texts_in, number_in}
use Rattle.gtfs_rows.proofs.ClockFacts.{time_below}
use Rattle.gtfs_frequencies.specs.Frequencies.{trip_id, start_time, end_time, headway_secs, exact_times, headway_of, is_exactness}
use Rattle.gtfs_frequencies.proofs.FrequencyFacts.{fields_pass, headway_some}
use Rattle.gtfs_frequencies.proofs.frequencies.read_row.Goals as goal

pub returns-clause-value : goal.returns-clause-value
returns-clause-value c =
    let table = c.args.sheet.now in
    let row = c.args.row in
    let trips = texts_in c.args.trips.now.keys in
    let at = λ (column : Option ℕ). text_under table column row in
    let trip = c.in-Some.ensures.number ∙ ap (number_in trips) (c.text_under.ensures ∙ ap at c.requires.columns.trip) in
    let start = c.in-Some-time.ensures ∙ ap time_of (c.text_under-2.ensures ∙ ap at c.requires.columns.start) in
    let end = c.in-Some-time-2.ensures ∙ ap time_of (c.text_under-3.ensures ∙ ap at c.requires.columns.end) in
    let headway = c.in-Some-headway.ensures ∙ ap headway_of (c.text_under-4.ensures ∙ ap at c.requires.columns.headway) in
    let text = c.text_under-exactness.result.now in
    let written = c.text_under-exactness.ensures ∙ ap at c.requires.columns.exact in
    let holds : is_exactness text ≡ true = sym c.is_exactness.ensures ∙ c.if-not-is_exactness.false in
    fields_pass trips table row c.in-Some.trip c.in-Some-time.start c.in-Some-time-2.end c.in-Some-headway.headway text c.eq.result trip start end headway written holds c.eq.ensures

pub returns-clause-known : goal.returns-clause-known
returns-clause-known c = record {
  trip = c.in-Some.ensures.below;
  start = subst (λ (o : Option ℕ). IfSome o (λ t. t ≤ 604_799)) (sym c.in-Some-time.ensures) (time_below c.text_under-2.result.now);
  end = subst (λ (o : Option ℕ). IfSome o (λ t. t ≤ 604_799)) (sym c.in-Some-time-2.ensures) (time_below c.text_under-3.result.now);
  headway = headway_some c.text_under-4.result.now c.in-Some-headway.headway c.in-Some-headway.ensures;
}

pub returns-in_default-clause-value : goal.returns-in_default-clause-value
returns-in_default-clause-value c =
    let at = λ (column : Option ℕ). text_under c.args.sheet.now column c.args.row in
    let trips = texts_in c.args.trips.now.keys in
    let trip : is_some (number_in trips (trip_id c.args.sheet.now c.args.row)) ≡ false = ap is_some (sym (c.in_default.ensures.number ∙ ap (number_in trips) (c.text_under.ensures ∙ ap at c.requires.columns.trip))) in
    rw (c.new.ensures, trip) refl

pub returns-in_default-time-clause-value : goal.returns-in_default-time-clause-value
returns-in_default-time-clause-value c =
    let at = λ (column : Option ℕ). text_under c.args.sheet.now column c.args.row in
    let trips = texts_in c.args.trips.now.keys in
    let trip : is_some (number_in trips (trip_id c.args.sheet.now c.args.row)) ≡ true = ap is_some (sym (c.in-Some.ensures.number ∙ ap (number_in trips) (c.text_under.ensures ∙ ap at c.requires.columns.trip))) in
    let start : is_some (time_of (start_time c.args.sheet.now c.args.row)) ≡ false = ap is_some (sym (c.in_default-time.ensures ∙ ap time_of (c.text_under-2.ensures ∙ ap at c.requires.columns.start))) in
    rw (c.new-bad_field.ensures, trip, start) refl

pub returns-in_default-time-2-clause-value : goal.returns-in_default-time-2-clause-value
returns-in_default-time-2-clause-value c =
    let at = λ (column : Option ℕ). text_under c.args.sheet.now column c.args.row in
    let trips = texts_in c.args.trips.now.keys in
    let trip : is_some (number_in trips (trip_id c.args.sheet.now c.args.row)) ≡ true = ap is_some (sym (c.in-Some.ensures.number ∙ ap (number_in trips) (c.text_under.ensures ∙ ap at c.requires.columns.trip))) in
    let start : is_some (time_of (start_time c.args.sheet.now c.args.row)) ≡ true = ap is_some (sym (c.in-Some-time.ensures ∙ ap time_of (c.text_under-2.ensures ∙ ap at c.requires.columns.start))) in
    let end : is_some (time_of (end_time c.args.sheet.now c.args.row)) ≡ false = ap is_some (sym (c.in_default-time-2.ensures ∙ ap time_of (c.text_under-3.ensures ∙ ap at c.requires.columns.end))) in
    rw (c.new-bad_field.ensures, trip, start, end) refl

pub returns-in_default-headway-clause-value : goal.returns-in_default-headway-clause-value
returns-in_default-headway-clause-value c =
    let at = λ (column : Option ℕ). text_under c.args.sheet.now column c.args.row in
    let trips = texts_in c.args.trips.now.keys in
    let trip : is_some (number_in trips (trip_id c.args.sheet.now c.args.row)) ≡ true = ap is_some (sym (c.in-Some.ensures.number ∙ ap (number_in trips) (c.text_under.ensures ∙ ap at c.requires.columns.trip))) in
    let start : is_some (time_of (start_time c.args.sheet.now c.args.row)) ≡ true = ap is_some (sym (c.in-Some-time.ensures ∙ ap time_of (c.text_under-2.ensures ∙ ap at c.requires.columns.start))) in
    let end : is_some (time_of (end_time c.args.sheet.now c.args.row)) ≡ true = ap is_some (sym (c.in-Some-time-2.ensures ∙ ap time_of (c.text_under-3.ensures ∙ ap at c.requires.columns.end))) in
    let headway : is_some (headway_of (headway_secs c.args.sheet.now c.args.row)) ≡ false = ap is_some (sym (c.in_default-headway.ensures ∙ ap headway_of (c.text_under-4.ensures ∙ ap at c.requires.columns.headway))) in
    rw (c.new-bad_field.ensures, trip, start, end, headway) refl

pub returns-then-not-is_exactness-clause-value : goal.returns-then-not-is_exactness-clause-value
returns-then-not-is_exactness-clause-value c =
    let at = λ (column : Option ℕ). text_under c.args.sheet.now column c.args.row in
    let trips = texts_in c.args.trips.now.keys in
    let trip : is_some (number_in trips (trip_id c.args.sheet.now c.args.row)) ≡ true = ap is_some (sym (c.in-Some.ensures.number ∙ ap (number_in trips) (c.text_under.ensures ∙ ap at c.requires.columns.trip))) in
    let start : is_some (time_of (start_time c.args.sheet.now c.args.row)) ≡ true = ap is_some (sym (c.in-Some-time.ensures ∙ ap time_of (c.text_under-2.ensures ∙ ap at c.requires.columns.start))) in
    let end : is_some (time_of (end_time c.args.sheet.now c.args.row)) ≡ true = ap is_some (sym (c.in-Some-time-2.ensures ∙ ap time_of (c.text_under-3.ensures ∙ ap at c.requires.columns.end))) in
    let headway : is_some (headway_of (headway_secs c.args.sheet.now c.args.row)) ≡ true = ap is_some (sym (c.in-Some-headway.ensures ∙ ap headway_of (c.text_under-4.ensures ∙ ap at c.requires.columns.headway))) in
    let exact : is_exactness (exact_times c.args.sheet.now c.args.row) ≡ false = sym (c.is_exactness.ensures ∙ ap is_exactness (c.text_under-exactness.ensures ∙ ap at c.requires.columns.exact)) ∙ c.if-not-is_exactness.true in
    rw (c.new-bad_field.ensures, trip, start, end, headway, exact) refl
