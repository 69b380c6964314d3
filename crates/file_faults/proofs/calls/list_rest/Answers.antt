use Rattle.std.proofs.Common.{◌∙◌, sym, true}
use Rattle.gtfs_rows.specs.declared.fault.FeedFile.TheVariants as files
use Rattle.gtfs_rows.specs.Rows.{texts_in}
use Rattle.file_faults.specs.Tables.{trip_faults}
use Rattle.file_faults.proofs.ListFacts.{on-ok-then}
use Rattle.file_faults.proofs.TableFacts.{fits-rows, size-else, size-then}
use Rattle.file_faults.proofs.calls.list_rest.Goals as goal

pub list_times-requires-clause-few : goal.list_times-requires-clause-few
list_times-requires-clause-few c = fits-rows true c.args.sheet.now (sym c.in_ok-fits.ensures.fits ∙ c.if-fits.true)

pub returns-then-fits : goal.returns-then-fits
returns-then-fits c =
    let last = trip_faults (texts_in c.args.stops.now.keys) (texts_in c.args.trips.now.keys) c.args.sheet.now in
    on-ok-then c.list_times.result c.list_times.ensures
    (size-then files.StopTimes true c.args.sheet.now last (sym c.in_ok-fits.ensures.fits ∙ c.if-fits.true) c.in_ok-fits.ensures.adds)

pub returns-else-fits : goal.returns-else-fits
returns-else-fits c =
    let last = trip_faults (texts_in c.args.stops.now.keys) (texts_in c.args.trips.now.keys) c.args.sheet.now in
    size-else files.StopTimes true c.args.sheet.now last (sym c.in_ok-fits.ensures.fits ∙ c.if-fits.false) c.in_ok-fits.ensures.adds
