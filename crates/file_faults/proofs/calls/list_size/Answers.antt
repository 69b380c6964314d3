use Rattle.std.proofs.Common.{sym, true, [], ◌∷◌}
use Rattle.gtfs_rows.specs.declared.fault.FeedFile.TheVariants as files
use Rattle.gtfs_rows.specs.Faults.{first_fault}
use Rattle.file_faults.specs.Tables.{size_test}
use Rattle.file_faults.proofs.ListFacts.{adds-is}
use Rattle.file_faults.proofs.TableFacts.{or-nothing}
use Rattle.file_faults.proofs.calls.list_size.Goals as goal

pub returns : goal.returns
returns c = adds-is (sym (or-nothing (first_fault (size_test files.StopTimes true c.args.sheet.now ∷ [])))) c.in_ok-add_size.ensures.adds
