use Rattle.std.proofs.Common.{◌≡◌, ◌∙◌, sym, ap, ℕ, List, Bool, Option, None, Some, ◌<◌, ◌≤◌, length, map, take, get_or, arith}
use Rattle.std.proofs.lemmas.List.{take_more, take_more_set, take_all, map_push, length-set}
use Rattle.gtfs_rows.specs.Rows.{text_under}
use Rattle.gtfs_services.specs.Calendar.{flag_of, weekdays_in}
use Rattle.gtfs_services.proofs.CalendarFacts.{weekdays_more, no_weekdays}
use Rattle.gtfs_services.proofs.calendar.weekdays_of.Goals as goal

pub returns-in_err-weekdays : goal.returns-in_err-weekdays
returns-in_err-weekdays c =
    let text = λ (column : Option ℕ). text_under c.args.sheet.now column c.args.row in
    let lt : c.loop-day.day < length c.args.columns.now = omega arith in
    c.from_residual.ensures ∙ sym (no_weekdays text c.args.columns.now c.loop-day.day None lt (sym (ap flag_of c.text_under.ensures) ∙ sym c.in_err-weekdays.ensures))

pub loop-day-preserved : goal.loop-day-preserved
loop-day-preserved c =
    let text = λ (column : Option ℕ). text_under c.args.sheet.now column c.args.row in
    let columns = c.args.columns.now in
    let day = c.loop-day.day in
    let lt : day < length columns = omega arith in
    let below : day < length c.loop-day.weekdays = omega arith in
    let flag : flag_of (text (get_or columns day None)) ≡ Some c.in_ok-weekdays.field-0 = sym (ap flag_of c.text_under.ensures) ∙ sym c.in_ok-weekdays.ensures in
    record {
      seven = length-set c.loop-day.weekdays day c.in_ok-weekdays.field-0 ∙ c.loop-day.invariant.seven;
      so_far = ap (λ (xs : List (Option ℕ)). weekdays_in (map text xs)) (take_more columns day None lt) ∙ ap weekdays_in (map_push text (take day columns) (get_or columns day None))
          ∙ weekdays_more (map text (take day columns)) (text (get_or columns day None)) (take day c.loop-day.weekdays) c.in_ok-weekdays.field-0 c.loop-day.invariant.so_far flag
          ∙ ap (λ (xs : List Bool). Some xs) (sym (take_more_set c.loop-day.weekdays day c.in_ok-weekdays.field-0 below));
    }

pub returns : goal.returns
returns c =
    let text = λ (column : Option ℕ). text_under c.args.sheet.now column c.args.row in
    let all : length c.args.columns.now ≤ c.loop-day.day = omega arith in
    let full : length c.loop-day.weekdays ≤ c.loop-day.day = omega arith in
    sym (ap (λ (xs : List (Option ℕ)). weekdays_in (map text xs)) (sym (take_all c.loop-day.day c.args.columns.now all)) ∙ c.loop-day.invariant.so_far ∙ ap (λ (xs : List Bool). Some xs) (take_all c.loop-day.day c.loop-day.weekdays full))
