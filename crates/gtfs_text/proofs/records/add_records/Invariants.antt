use Rattle.std.proofs.Common.{◌≡◌, true, map, List, ℕ, Some, ◌-◌, length}
use Rattle.std.specs.List.{list_all}
use Rattle.csv.specs.Reading.{Reached, Ready, default_config, source_of}
use Rattle.csv.specs.declared.parser.State.TheVariants as st
use Rattle.csv.specs.declared.reader.Trim.TheVariants as trim
use Rattle.gtfs_text.specs.Packed.{unpacked}
use Rattle.gtfs_text.specs.Reading.{text_left}
use Rattle.gtfs_text.specs.Sheets.{table_of, is_text}
use Rattle.gtfs_text.specs.declared.commas.UpToCommas.{UpToCommas}
use Rattle.gtfs_text.proofs.records.add_records.Given as goal

abbrev pub invariant-records : goal.invariant-records
invariant-records l = record {
  trims : l.reader.trim ≡ trim.None;
  flexible : l.reader.flexible ≡ true;
  ready : Ready l.reader;
  config : l.reader.config ≡ default_config;
  packed_text : list_all is_text (map unpacked l.records) ≡ true;
  reached : (y : List ℕ) × (rows : List (List (List ℕ))) × (source_of (λ (r : UpToCommas). Some r.bytes.now) l.reader ≡ Some y)
      × Reached default_config st.StartRecord (text_left l.fn.reader) rows l.reader.state y
      × (map unpacked l.records ≡ table_of rows)
      × (list_all is_text rows ≡ true);
}

abbrev pub decreases-records : goal.decreases-records
decreases-records l = length (text_left l.fn.reader) - length l.records
