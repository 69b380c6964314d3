-- Which fault of a feed or its days is reported.
use Rattle.std.proofs.Common.{◌≡◌, None, Err}
use Rattle.jiff_core.specs.declared.civil.date.Date.{Date}
use Rattle.gtfs_rows.specs.Faults.{first_fault}
use Rattle.gtfs_rows.specs.declared.fault.FaultKind.{FaultKind}
use Rattle.gtfs_rows.specs.declared.fault.FaultKind.TheVariants as kinds
use Rattle.gtfs_rows.specs.declared.fault.FeedFault.{FeedFault}
use Rattle.gtfs_tables.specs.Feed.{Feed, feed_tests}
use Rattle.service_days.specs.Answers.{IsCoverAnswer}
use Rattle.service_days.specs.declared.fault.DayFault.{DayFault}
use Rattle.service_days.specs.declared.fault.DayFault.TheVariants as days
use Rattle.feed_basis.specs.BasisFaults.{IsKeyedFault, IsRowFault}
use Rattle.faults.specs.Faults.{of_days, of_feed, of_kind}
use Rattle.options.specs.declared.settings.Settings.{Settings}

by_kind : (feed : Feed) (settings : Settings) (k : FaultKind) (f : FeedFault) (first : Date) → IsRowFault feed settings first f
    → IsKeyedFault feed settings first (of_kind k f)
by_kind feed settings kinds.Memory f first h = tt
by_kind feed settings kinds.MissingFile f first h = h
by_kind feed settings kinds.MissingColumn f first h = h
by_kind feed settings kinds.BadField f first h = h
by_kind feed settings kinds.DuplicateKey f first h = h
by_kind feed settings kinds.UnknownReference f first h = h
by_kind feed settings kinds.TimesDecrease f first h = h
by_kind feed settings kinds.TooMany f first h = h
by_kind feed settings kinds.BadCsv f first h = h
by_kind feed settings kinds.ReadFailed f first h = h
by_kind feed settings kinds.EndTimeMissing f first h = h

pub of_rows : (feed : Feed) (settings : Settings) (f : FeedFault) (first : Date) → IsRowFault feed settings first f
    → IsKeyedFault feed settings first (of_feed f)
of_rows feed settings f first h = by_kind feed settings f.kind f first h

pub of_cover : (feed : Feed) (settings : Settings) (first : Date) (f : DayFault) → first_fault (feed_tests feed) ≡ None
    → IsCoverAnswer first settings.days settings.zone.now (Err f) → IsKeyedFault feed settings first (of_days f)
of_cover feed settings first days.Memory whole h = tt
of_cover feed settings first days.BadRange whole h = (whole, h)
of_cover feed settings first days.BadZone whole h = (whole, h)
of_cover feed settings first days.ZoneJump whole h = (whole, h)
