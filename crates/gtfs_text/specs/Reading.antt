-- A reader of the crate csv over the bytes of a file.
use Rattle.std.specs.Prelude.{◌≡◌, ◌+◌, true, ℕ, List, [], Some, unwrap_or}
use Rattle.csv.specs.Reading.{Ready, default_config, records, source_of}
use Rattle.csv.specs.declared.parser.State.TheVariants as states
use Rattle.csv.specs.declared.reader.Reader.{Reader}
use Rattle.csv.specs.declared.reader.Trim.TheVariants as trims
use Rattle.gtfs_text.specs.Sheets.{bad_record}
use Rattle.gtfs_text.specs.declared.commas.UpToCommas.{UpToCommas}
use Rattle.gtfs_text.specs.declared.fault.SheetFault.{SheetFault}
use Rattle.gtfs_text.specs.declared.fault.SheetFault.TheVariants as fault

-- the text that it has yet to read
abbrev pub text_left : Reader UpToCommas → List ℕ
text_left reader = unwrap_or (source_of (λ (r : UpToCommas). Some r.bytes.now) reader) []

-- the records of that text, each a list of fields
abbrev pub records_left : Reader UpToCommas → List (List (List ℕ))
records_left reader = records default_config (text_left reader)

-- what a fault says of records that are read after `count` others: which of them is the first that isn't UTF-8, and nothing if memory was
-- refused
abbrev pub ExplainsAfter : ℕ → List (List (List ℕ)) → SheetFault → Type 0
ExplainsAfter count records (fault.BadRecord row) = (at : ℕ) × (row ≡ count + at) × (bad_record records ≡ Some at)
ExplainsAfter count records fault.Memory = Unit {0}

-- it reads records of any length only by commas, quotes and line ends, and has read none
pub record IsAtStart (reader : Reader UpToCommas) : Type 0 where
  pub trims : reader.trim ≡ trims.None
  pub flexible : reader.flexible ≡ true
  pub ready : Ready reader
  pub config : reader.config ≡ default_config
  pub state : reader.state ≡ states.StartRecord
  pub source : source_of (λ (r : UpToCommas). Some r.bytes.now) reader ≡ Some (text_left reader)
