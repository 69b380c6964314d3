use Rattle.std.proofs.Common.{◌≡◌, ◌<◌, ◌^◌, take}
use Rattle.gtfs_text.specs.Values.{decimal}
use Rattle.gtfs_text.proofs.values.decimal.Given as goal

abbrev pub invariant-loop-digit : goal.invariant-loop-digit
invariant-loop-digit l = record {
  same : l.number ≡ decimal (take l.digit-index l.digits);
  bound : l.number < 10 ^ l.digit-index;
}
