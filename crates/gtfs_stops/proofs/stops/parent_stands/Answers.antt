use Rattle.std.proofs.Common.{◌≡◌, ◌∙◌, sym, ap, not, true, false}
use Rattle.std.specs.Str.{bytes_eq}
use Rattle.gtfs_rows.specs.Rows.{is_empty}
use Rattle.gtfs_rows.proofs.TextFacts.{any-texts_in}
use Rattle.gtfs_stops.proofs.stops.parent_stands.Goals as goal
use Rattle.gtfs_stops.proofs.stops.parent_stands.Goals.{then-not-is_stop, else-not-is_stop}

pub returns-else-is_empty : goal.returns-else-is_empty
returns-else-is_empty c = elim c.if-not-is_stop.branch [
  | then-not-is_stop w ↦ let e : false ≡ true = sym c.if-is_empty.false ∙ w.value-is ∙ ap not w.if-not-is_stop.true in absurd (cc e)
  | else-not-is_stop w ↦
      let filled : is_empty c.args.parent.now ≡ false = sym w.is_empty.ensures ∙ sym w.value-is ∙ c.if-is_empty.false in
      rw (w.if-not-is_stop.false, filled) (c.contains.ensures ∙ any-texts_in c.args.stations.now.keys (bytes_eq c.args.parent.now))
]
