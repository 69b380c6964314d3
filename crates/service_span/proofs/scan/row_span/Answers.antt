use Rattle.std.proofs.Common.{◌∙◌, sym}
use Rattle.jiff_core.specs.Date.{weekday_of}
use Rattle.service_span.proofs.ScanFacts.{none_marked, none_of_none}
use Rattle.service_span.proofs.scan.row_span.Goals as goal

pub returns-then-not-has_weekday : goal.returns-then-not-has_weekday
returns-then-not-has_weekday c = λ date.
    none_marked c.args.removed.now c.args.row.now date (none_of_none c.args.row.now.weekdays (weekday_of date) (sym c.has_weekday.ensures ∙ c.if-not-has_weekday.true))
