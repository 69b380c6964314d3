-- The timetable that a ledger is for if nobody picks one.
use Rattle.std.specs.Prelude.{[]}
use Rattle.timetable.specs.Table.{Table}

abbrev pub bare_table : Table
bare_table = record { horizon = 0; changes = []; walks = []; instances = [] }
