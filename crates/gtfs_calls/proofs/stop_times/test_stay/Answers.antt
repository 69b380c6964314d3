use Rattle.std.proofs.Common.{◌≡◌, ◌∙◌, sym, ap, true, false, List, ℕ, Bor}
use Rattle.gtfs_rows.specs.Rows.{texts_in}
use Rattle.gtfs_calls.specs.StopTimes.{arrival_time, departure_time, pickup_type, drop_off_type, is_time_or_empty, is_boarding_rule, stay_at, stay_stands}
use Rattle.gtfs_calls.proofs.CallRowFacts.{some-of, none-of, stay-fails, stay-holds}
use Rattle.gtfs_calls.proofs.stop_times.test_stay.Goals as goal

pub returns-in_default : goal.returns-in_default
returns-in_default c =
    let table = c.args.sheet.now in
    let row = c.args.row in
    let same = ap (λ (items : List (Bor (List ℕ))). texts_in items) c.deref.ensures.value ∙ c.in_ok-fields.ensures in
    let stay : stay_stands table row ≡ false = none-of (stay_stands table row) (stay_at table row) (sym (c.stay_of.ensures table row c.requires.columns same) ∙ c.in_default.is) in
    rw c.new.ensures
    (stay-fails row (is_time_or_empty (arrival_time table row)) (is_time_or_empty (departure_time table row)) (is_boarding_rule (pickup_type table row)) (is_boarding_rule (drop_off_type table row)) stay)

pub returns : goal.returns
returns c =
    let table = c.args.sheet.now in
    let row = c.args.row in
    let same = ap (λ (items : List (Bor (List ℕ))). texts_in items) c.deref.ensures.value ∙ c.in_ok-fields.ensures in
    let stay : stay_stands table row ≡ true = (some-of (stay_stands table row) (stay_at table row) _ (sym (c.stay_of.ensures table row c.requires.columns same) ∙ c.in-Some.is)).0 in
    stay-holds row (is_time_or_empty (arrival_time table row)) (is_time_or_empty (departure_time table row)) (is_boarding_rule (pickup_type table row)) (is_boarding_rule (drop_off_type table row)) stay
