use Rattle.std.proofs.Common.{◌∙◌, sym, ap, refl, ℕ, true, false, Option}
use Rattle.std.specs.Prelude.{is_some}
use Rattle.gtfs_text.specs.Values.{whole_of}
use Rattle.gtfs_rows.specs.Rows.{text_under}
use Rattle.gtfs_calls.specs.StopTimes.{trip_id, stop_id, stop_sequence}
use Rattle.gtfs_calls.proofs.CallRowFacts.{known, numbered, whole-value, pair_is}
use Rattle.gtfs_calls.proofs.stop_times.call_key.Goals as goal

pub returns-in_default : goal.returns-in_default
returns-in_default c =
    let at = λ (column : Option ℕ). text_under c.args.sheet.now column c.args.row in
    let trip = known c.args.trips.now.keys c.text_under.result.now (trip_id c.args.sheet.now c.args.row) c.get_index_of.result false
    c.get_index_of.ensures.found (c.text_under.ensures ∙ ap at c.requires.columns.trip) (ap is_some c.in_default.is) in
    rw (c.new.ensures, trip) refl

pub returns-in_default-get_index_of : goal.returns-in_default-get_index_of
returns-in_default-get_index_of c =
    let at = λ (column : Option ℕ). text_under c.args.sheet.now column c.args.row in
    let trip = known c.args.trips.now.keys c.text_under.result.now (trip_id c.args.sheet.now c.args.row) c.get_index_of.result true
    c.get_index_of.ensures.found (c.text_under.ensures ∙ ap at c.requires.columns.trip) (ap is_some c.in-Some.is) in
    let stop = known c.args.stops.now.keys c.text_under-2.result.now (stop_id c.args.sheet.now c.args.row) c.get_index_of-2.result false
    c.get_index_of-2.ensures.found (c.text_under-2.ensures ∙ ap at c.requires.columns.stop) (ap is_some c.in_default-get_index_of.is) in
    rw (c.new-in_default-get_index_of.ensures, trip, stop) refl

pub returns-in_default-whole : goal.returns-in_default-whole
returns-in_default-whole c =
    let at = λ (column : Option ℕ). text_under c.args.sheet.now column c.args.row in
    let trip = known c.args.trips.now.keys c.text_under.result.now (trip_id c.args.sheet.now c.args.row) c.get_index_of.result true
    c.get_index_of.ensures.found (c.text_under.ensures ∙ ap at c.requires.columns.trip) (ap is_some c.in-Some.is) in
    let stop = known c.args.stops.now.keys c.text_under-2.result.now (stop_id c.args.sheet.now c.args.row) c.get_index_of-2.result true
    c.get_index_of-2.ensures.found (c.text_under-2.ensures ∙ ap at c.requires.columns.stop) (ap is_some c.in-Some-get_index_of.is) in
    let sequence = sym (c.whole.ensures ∙ ap whole_of (c.text_under-3.ensures ∙ ap at c.requires.columns.sequence)) ∙ c.in_default-whole.is in
    rw (c.new-in_default-whole.ensures, trip, stop, ap is_some sequence) refl

pub returns : goal.returns
returns c =
    let table = c.args.sheet.now in
    let row = c.args.row in
    let at = λ (column : Option ℕ). text_under table column row in
    let trip_text = c.text_under.ensures ∙ ap at c.requires.columns.trip in
    let trip = known c.args.trips.now.keys c.text_under.result.now (trip_id table row) c.get_index_of.result true c.get_index_of.ensures.found trip_text (ap is_some c.in-Some.is) in
    let stop = known c.args.stops.now.keys c.text_under-2.result.now (stop_id table row) c.get_index_of-2.result true
    c.get_index_of-2.ensures.found (c.text_under-2.ensures ∙ ap at c.requires.columns.stop) (ap is_some c.in-Some-get_index_of.is) in
    let sequence = sym (c.whole.ensures ∙ ap whole_of (c.text_under-3.ensures ∙ ap at c.requires.columns.sequence)) ∙ c.in-Some-whole.is in
    let number = numbered c.args.trips.now.keys c.text_under.result.now (trip_id table row) c.get_index_of.result c.in-Some.trip c.get_index_of.ensures.index trip_text c.in-Some.is in
    (rw (trip, stop, ap is_some sequence) refl, pair_is number (whole-value (stop_sequence table row) c.in-Some-whole.sequence sequence))
