-- Names and timetable of the same tables.
use Rattle.std.proofs.Common.{ℕ, ◌<◌, length, arith, ◌∙◌, sym, ap, subst}
use Rattle.std.proofs.lemmas.List.{length-map}
use Rattle.gtfs_tables.specs.Tables.{TableValues}
use Rattle.jiff.specs.Types.{Date, TimeZone}
use Rattle.service_days.specs.Answers.{IsCoverOf}
use Rattle.service_days.specs.Cover.{CoverDays, IsCovered}
use Rattle.service_days.specs.Noon.{IsDaysAfter}
use Rattle.feed_timetable.proofs.KnownTrips.{trips_are_known}
use Rattle.feed_timetable.specs.Answers.{IsTimetable}
use Rattle.feed_ids.specs.Names.{KnowsStops}
use Rattle.feed_timetable.specs.Names.{AreNamesOf}
use Rattle.timetable.specs.Table.{IsTable}
use Rattle.feed_basis.specs.Basis.{BasisData, IsSound}

-- the day before the first covered day, and each covered day, is a date
day_before : (first : Date) (days : ℕ) (zone : TimeZone) (cover : CoverDays) → IsCoverOf first days zone cover → (date : Date) × IsDaysAfter 1 date cover.first
day_before first days zone cover covered =
    let date = covered.before_is.date in (date, subst (λ f. IsDaysAfter 1 date f) (sym covered.first_is) covered.before_is.date_is)

date_of : (first : Date) (days : ℕ) (zone : TimeZone) (cover : CoverDays) → IsCoverOf first days zone cover → (day : ℕ) → day < length cover.starts
    → (date : Date) × IsCovered cover day date
date_of first days zone cover covered day lt =
    let is = covered.starts_are.each day (omega (arith, lt, covered.days_is)) in
    (is.0, (lt, subst (λ f. IsDaysAfter day f is.0) (sym covered.first_is) is.1))

-- a basis of a timetable and names of the same tables
pub is_sound : (t : TableValues) (first : Date) (days : ℕ) (zone : TimeZone) (cover : CoverDays) (default_walk : ℕ) (basis : BasisData)
    → IsCoverOf first days zone cover → IsTable basis.timetable → IsTimetable t cover default_walk basis.timetable → AreNamesOf t basis.names
    → KnowsStops basis.names → IsSound basis
is_sound t first days zone cover default_walk basis covered valid is named known = record {
  valid = valid;
  names = known;
  stops = ap (λ l. length l) named.stops ∙ length-map t.stops (λ stop. stop.id) ∙ sym is.changes.count;
  trips = λ k d lt. (
      let known = trips_are_known t cover basis.timetable.instances (day_before first days zone cover covered) (date_of first days zone cover covered) is.instances k d lt in
      let count = ap (λ l. length l) named.trips in
      let same = length-map t.trips (λ trip. trip.id) in
      omega (arith, known, count, same)
      );
}
