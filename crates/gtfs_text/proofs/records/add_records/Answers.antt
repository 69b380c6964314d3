use Rattle.std.proofs.Common.{◌≡◌, ◌∙◌, sym, refl, ap, inl, map, Some, ◌∷◌, ◌++◌, [], List, ℕ, length, arith, ◌≤◌}
use Rattle.std.specs.List.{list_all}
use Rattle.std.proofs.lemmas.List.{map-append, length-append}
use Rattle.std.proofs.lemmas.List.Folds.{list_all-append}
use Rattle.csv.specs.Reading.{Reached, default_config, source_of, error_kind}
use Rattle.csv.specs.Records.{fields_of}
use Rattle.csv.specs.declared.parser.State.TheVariants as st
use Rattle.csv.proofs.ReadFacts.{rows-end, rows-more}
use Rattle.gtfs_text.specs.Packed.{unpacked}
use Rattle.gtfs_text.specs.Reading.{text_left, records_left}
use Rattle.gtfs_text.specs.Sheets.{Table, without_spaces, is_text, table_of, bad_record}
use Rattle.gtfs_text.proofs.RecordFacts.{records_all, none_bad, is_text_from, fault_explained, fault_after, reached_few, packed_count, packed_few, sum_fits}
use Rattle.gtfs_text.specs.declared.commas.UpToCommas.{UpToCommas}
use Rattle.gtfs_text.proofs.records.add_records.Goals as goal

pub records-init : goal.records-init
unfolding Reached
records-init c =
    let start = c.requires.start in
    record {
      trims = start.trims;
      flexible = start.flexible;
      ready = start.ready;
      config = start.config;
      packed_text = ap (λ (packed : List (List ℕ)). list_all is_text (map unpacked packed)) c.requires.empty;
      reached = (text_left c.args.reader.now, [], start.source, (sym start.state, refl), ap (map unpacked) c.requires.empty, refl);
    }

-- the read took one more record
more : (c : goal.In_ok-push-in-Ok-true) → (y : List ℕ) × (source_of (λ (r : UpToCommas). Some r.bytes.now) c.read_record.new.self ≡ Some y)
    × Reached default_config st.StartRecord (text_left c.args.reader.now) (c.records.invariant.reached.1 ++ fields_of c.read_record.new.row ∷ []) c.read_record.new.self.state y
more c =
    let inv = c.records.invariant in
    let s = rw c.in-Ok-true.field-0-test at (c.in-Ok-true.ensures.reads inv.trims inv.ready) in
    rows-more (λ (r : UpToCommas). Some r.bytes.now) c.records.reader c.read_record.new.self (fields_of c.read_record.new.row) default_config st.StartRecord (text_left c.args.reader.now) inv.reached.0 inv.reached.1 inv.config inv.reached.2 inv.reached.3 s

-- and it was packed
kept : (c : goal.In_ok-push-in-Ok-true) → c.push.new.self ≡ c.records.records ++ c.pack.new.packed.items ∷ []
kept c = rw c.deref.ensures.value at c.in_ok-push-in-Ok-true.ensures.added

unpacks : (c : goal.In_ok-push-in-Ok-true) → map unpacked c.push.new.self ≡ map unpacked c.records.records ++ map without_spaces (fields_of c.read_record.new.row) ∷ []
unpacks c = ap (map unpacked) (kept c) ∙ map-append unpacked c.records.records (c.pack.new.packed.items ∷ [])
    ∙ ap (λ (fields : List (List ℕ)). map unpacked c.records.records ++ fields ∷ []) c.in_ok-pack-in-Ok-true.ensures.fields

pub records-smaller : goal.records-smaller
records-smaller c =
    let inv = c.records.invariant in
    let few = reached_few st.StartRecord (text_left c.args.reader.now) (inv.reached.1 ++ fields_of c.read_record.new.row ∷ []) c.read_record.new.self.state (more c).0 refl (more c).2 in
    let before = packed_count c.records.records inv.reached.1 inv.reached.4 in
    let grown = ap length (kept c) ∙ length-append c.records.records (c.pack.new.packed.items ∷ []) in
    let rows = length-append inv.reached.1 (fields_of c.read_record.new.row ∷ []) in
    omega (arith, few, before, grown, rows)

pub records-preserved : goal.records-preserved
records-preserved c =
    let inv = c.records.invariant in
    let s = rw c.in-Ok-true.field-0-test at (c.in-Ok-true.ensures.reads inv.trims inv.ready) in
    record {
      trims = s.3 ∙ inv.trims;
      flexible = c.in-Ok-true.ensures.flexible ∙ inv.flexible;
      ready = inl (c.in-Ok-true.ensures.ready inv.trims);
      config = s.2 ∙ inv.config;
      packed_text = rw (kept c, map-append unpacked c.records.records (c.pack.new.packed.items ∷ []), list_all-append is_text (map unpacked c.records.records) (unpacked c.pack.new.packed.items ∷ []), inv.packed_text, c.in_ok-pack-in-Ok-true.ensures.text) refl;
      reached = (
        (more c).0,
        inv.reached.1 ++ fields_of c.read_record.new.row ∷ [],
        (more c).1,
        (more c).2,
        unpacks c ∙ ap (λ (t : Table). t ++ map without_spaces (fields_of c.read_record.new.row) ∷ []) inv.reached.4
            ∙ sym (map-append (map without_spaces) inv.reached.1 (fields_of c.read_record.new.row ∷ [])),
        rw (list_all-append is_text inv.reached.1 (fields_of c.read_record.new.row ∷ []), inv.reached.5, is_text_from (fields_of c.read_record.new.row) (c.in-Ok-true.ensures.text inv.trims)) refl,
      );
    }

pub returns-in-Ok-false-clause-records : goal.returns-in-Ok-false-clause-records
returns-in-Ok-false-clause-records c =
    let inv = c.records.invariant in
    let text = text_left c.args.reader.now in
    let s = rw c.in-Ok-false.field-0-test at (c.in-Ok-false.ensures.reads inv.trims inv.ready) in
    let end = rows-end (λ (r : UpToCommas). Some r.bytes.now) c.records.reader c.read_record.new.self (fields_of c.read_record.new.row) default_config inv.reached.0 inv.config inv.reached.2 s in
    let all : records_left c.args.reader.now ≡ inv.reached.1 = records_all text inv.reached.1 c.records.reader.state inv.reached.0 inv.reached.3 end in
    inv.reached.4 ∙ sym (ap table_of all)

pub returns-in-Ok-false-clause-few : goal.returns-in-Ok-false-clause-few
returns-in-Ok-false-clause-few c =
    let inv = c.records.invariant in
    packed_few c.records.records inv.reached.1 (text_left c.args.reader.now) c.records.reader.state inv.reached.0 inv.reached.4 inv.reached.3

pub overflow_add-before : goal.overflow_add-before
overflow_add-before c =
    let inv = c.records.invariant in
    let few : c.len.result ≤ length (text_left c.args.reader.now) =
    rw c.len.ensures (packed_few c.records.records inv.reached.1 (text_left c.args.reader.now) c.records.reader.state inv.reached.0 inv.reached.4 inv.reached.3) in
    sum_fits c.args.before c.len.result (length (text_left c.args.reader.now)) c.requires.few few

pub returns-in-Ok-false-clause-text : goal.returns-in-Ok-false-clause-text
returns-in-Ok-false-clause-text c =
    let inv = c.records.invariant in
    let text = text_left c.args.reader.now in
    let s = rw c.in-Ok-false.field-0-test at (c.in-Ok-false.ensures.reads inv.trims inv.ready) in
    let end = rows-end (λ (r : UpToCommas). Some r.bytes.now) c.records.reader c.read_record.new.self (fields_of c.read_record.new.row) default_config inv.reached.0 inv.config inv.reached.2 s in
    let all : records_left c.args.reader.now ≡ inv.reached.1 = records_all text inv.reached.1 c.records.reader.state inv.reached.0 inv.reached.3 end in
    ap bad_record all ∙ none_bad inv.reached.1 0 inv.reached.5

pub returns-in-Err-clause-fault : goal.returns-in-Err-clause-fault
returns-in-Err-clause-fault c =
    let inv = c.records.invariant in
    let s = c.in-Err.ensures.why inv.trims inv.ready in
    let at_end = fault_explained (λ (r : UpToCommas). Some r.bytes.now) c.records.reader c.read_record.new.self (error_kind c.in-Err.error) (text_left c.args.reader.now) inv.reached.0 inv.reached.1 inv.config inv.reached.2 inv.reached.3 inv.reached.5 s in
    let row : c.len.result ≡ length inv.reached.1 = c.len.ensures ∙ packed_count c.records.records inv.reached.1 inv.reached.4 in
    rw (c.fault_of.ensures, row) (fault_after (error_kind c.in-Err.error) c.args.before (length inv.reached.1) (records_left c.args.reader.now) at_end)
