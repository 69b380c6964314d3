-- Why there is nothing to ask a question of.
use Rattle.std.specs.Prelude.{◌≡◌, ◌⊎◌, Bool, true, false, None, Err}
use Rattle.jiff_core.specs.declared.civil.date.Date.{Date}
use Rattle.gtfs_rows.specs.Faults.{first_fault, Explains}
use Rattle.gtfs_rows.specs.declared.fault.FeedFault.{FeedFault}
use Rattle.gtfs_tables.specs.Feed.{Feed, feed_tests, values_of}
use Rattle.service_days.specs.Answers.{IsCoverAnswer}
use Rattle.service_days.specs.Cover.{CoverDays}
use Rattle.feed_timetable.specs.Answers.{IsFault}
use Rattle.faults.specs.declared.fault.Fault.{Fault}
use Rattle.faults.specs.declared.fault.Fault.TheVariants as faults
use Rattle.options.specs.declared.settings.Settings.{Settings}
use Rattle.feed_basis.specs.Basis.{AreDays}

-- the fault is that of the feed's first test that doesn't hold, or else the timetable on the covered days is too large
abbrev pub IsRowFault : Feed → Settings → Date → FeedFault → Type 0
IsRowFault feed settings first f =
    Explains (first_fault (feed_tests feed)) f.kind f
    ⊎ ((cover : CoverDays) × AreDays feed settings first cover × IsFault (values_of feed) cover settings.default_walk f)

-- With hash keys to look ids up with, the faults in the order in which they are looked for: the feed is at fault; its days from the
-- first on are. Memory may run out at any time.
abbrev pub IsKeyedFault : Feed → Settings → Date → Fault → Type 0
IsKeyedFault feed settings first (faults.Feed f) = IsRowFault feed settings first f
IsKeyedFault feed settings first (faults.Days f) =
    (first_fault (feed_tests feed) ≡ None) × IsCoverAnswer first settings.days settings.zone.now (Err f)
IsKeyedFault feed settings first faults.Memory = Unit {0}
IsKeyedFault feed settings first faults.BadDate = ⊥
IsKeyedFault feed settings first faults.BadTime = ⊥
IsKeyedFault feed settings first faults.NoRandomness = ⊥
IsKeyedFault feed settings first (faults.Question refusal) = ⊥
IsKeyedFault feed settings first faults.TooLarge = ⊥
IsKeyedFault feed settings first (faults.Store f) = ⊥
IsKeyedFault feed settings first faults.GateDamaged = ⊥
IsKeyedFault feed settings first faults.StoreInUse = ⊥
IsKeyedFault feed settings first faults.PutFailed = ⊥
IsKeyedFault feed settings first (faults.Migration side f) = ⊥
IsKeyedFault feed settings first faults.OtherList = ⊥
IsKeyedFault feed settings first faults.FileTooLarge = ⊥
IsKeyedFault feed settings first (faults.Part path f) = ⊥
IsKeyedFault feed settings first (faults.OtherTree stop part before) = ⊥

-- If the system gave no randomness for hash keys, that is the fault, whatever the feed is.
abbrev pub IsBasisFault : Bool → Feed → Settings → Date → Fault → Type 0
IsBasisFault false feed settings first fault = fault ≡ faults.NoRandomness
IsBasisFault true feed settings first fault = IsKeyedFault feed settings first fault
