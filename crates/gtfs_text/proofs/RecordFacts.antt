-- All the records of a text, as csv reads them one by one.
use Rattle.std.proofs.Common.{◌≡◌, ℕ, suc, ◌+◌, ◌-◌, ◌<◌, ◌≤◌, Bool, true, false, not, List, [], ◌∷◌, ◌++◌, length, map, refl, cond, arith, sym, ◌∙◌, ap, Option, Some, None, zero-add, add-zero, ◌&&◌, ◌^◌, Fits, w64, IsUtf8}
use Rattle.std.proofs.lemmas.List.{append-nil, length-map}
use Rattle.std.specs.List.{list_all, position_from}
use Rattle.std.specs.Str.{is_utf8}
use Rattle.std.proofs.lemmas.Str.{is_utf8-from_IsUtf8, IsUtf8-from_is_utf8}
use Rattle.csv.specs.Records.{AllText}
use Rattle.gtfs_text.specs.Packed.{unpacked}
use Rattle.gtfs_text.specs.Sheets.{without_spaces, is_text, bad_record, table_of, Explains}
use Rattle.gtfs_text.specs.Reading.{ExplainsAfter}
use Rattle.gtfs_text.specs.declared.fault.SheetFault.{SheetFault}
use Rattle.gtfs_text.specs.declared.fault.SheetFault.TheVariants as faults
use Rattle.std.specs.Prelude.{option_map}
use Rattle.gtfs_text.specs.Faults.{fault_at}
use Rattle.csv.specs.Machine.{Read, step, is_end, ends_at_end, next_record, fields_after, field_after}
use Rattle.csv.specs.Reading.{records, records_from, Reached, default_config, NextIs, ReadsNext, ExplainsRead, source_of, pending_of}
use Rattle.csv.specs.declared.reader.Reader.{Reader}
use Rattle.csv.specs.declared.error.ErrorKind.{ErrorKind}
use Rattle.csv.specs.declared.error.ErrorKind.TheVariants as kind
use Rattle.csv.specs.declared.parser.State.{State}
use Rattle.csv.specs.declared.parser.State.TheVariants as st

-- after the end of a record the end of the text ends no other
pub end_state : (s : State) (c : ℕ) → is_end (step default_config s c).1 ≡ true → ends_at_end (step default_config s c).0 ≡ false
end_state st.StartRecord c h = grind (arith, h)
end_state st.StartField c h = grind (arith, h)
end_state st.InField c h = grind (arith, h)
end_state st.InQuoted c h = grind (arith, h)
end_state st.AfterQuote c h = grind (arith, h)
end_state st.InEscape c h = cc h
end_state st.InComment c h = grind (arith, h)
end_state st.AfterCr c h = grind (arith, h)

-- the text left after a record is no longer than before, and ends no other record of itself
in_text : (xs : List ℕ) (s : State) (fields : List (List ℕ)) (field : List ℕ) (p : Read) → next_record default_config s fields field xs ≡ Some p → (length p.2 ≤ length xs) × (ends_at_end p.1 ≡ false)
unfolding next_record
in_text [] s fields field p h =
    elim (ends_at_end s) as (λ t. cond t (Some (fields ++ (field ∷ []), st.StartRecord, [])) None ≡ Some p → (length p.2 ≤ 0) × (ends_at_end p.1 ≡ false))
    [ true ↦ λ e. let q : p ≡ (fields ++ (field ∷ []), st.StartRecord, []) = cc in rw q (omega arith, refl) | false ↦ λ e. cc e ] h
in_text (c ∷ rest) s fields field p h =
    elim (is_end (step default_config s c).1) as (λ t. is_end (step default_config s c).1 ≡ t
    → cond t (Some (fields_after (step default_config s c).1 fields field, (step default_config s c).0, rest))
    (next_record default_config (step default_config s c).0 (fields_after (step default_config s c).1 fields field) (field_after (step default_config s c).1 c field) rest) ≡ Some p
    → (length p.2 ≤ suc (length rest)) × (ends_at_end p.1 ≡ false)) [
      | true ↦ λ t e. let q : p ≡ (fields_after (step default_config s c).1 fields field, (step default_config s c).0, rest) = cc in rw q (omega arith, end_state s c t)
      | false ↦ λ t e. let deeper = in_text rest _ _ _ p e in (omega (arith, deeper.0), deeper.1)
    ] refl h

-- a record that was read took a byte
pub record_takes : (s : State) (xs : List ℕ) (p : Read) → ends_at_end s ≡ false → next_record default_config s [] [] xs ≡ Some p → (length p.2 < length xs) × (ends_at_end p.1 ≡ false)
unfolding next_record
record_takes s [] p n h = absurd (cc (rw n at h))
record_takes s (c ∷ rest) p n h =
    elim (is_end (step default_config s c).1) as (λ t. is_end (step default_config s c).1 ≡ t
    → cond t (Some (fields_after (step default_config s c).1 [] [], (step default_config s c).0, rest))
    (next_record default_config (step default_config s c).0 (fields_after (step default_config s c).1 [] []) (field_after (step default_config s c).1 c []) rest) ≡ Some p
    → (length p.2 < suc (length rest)) × (ends_at_end p.1 ≡ false)) [
      | true ↦ λ t e. let q : p ≡ (fields_after (step default_config s c).1 [] [], (step default_config s c).0, rest) = cc in rw q (omega arith, end_state s c t)
      | false ↦ λ t e. let deeper = in_text rest _ _ _ p e in (omega (arith, deeper.0), deeper.1)
    ] refl h

-- records that were reached are fewer than the bytes
pub reached_few : (s : State) (xs : List ℕ) (rows : List (List (List ℕ))) (s2 : State) (ys : List ℕ) → ends_at_end s ≡ false
    → Reached default_config s xs rows s2 ys → length rows + length ys ≤ length xs
unfolding Reached
reached_few s xs [] s2 ys n h = rw h.1 (omega arith)
reached_few s xs (r ∷ rs) s2 ys n h =
    let took = record_takes s xs h.0 n h.1 in
    let rest = reached_few h.0.1 h.0.2 rs s2 ys took.1 h.3 in
    omega (arith, took.0, rest)

-- the records are those that were reached, and then those of the rest
pub reached_front : (s : State) (xs : List ℕ) (rows : List (List (List ℕ))) (s2 : State) (ys : List ℕ) (n : ℕ)
    → Reached default_config s xs rows s2 ys → records_from default_config (length rows + n) s xs ≡ rows ++ records_from default_config n s2 ys
unfolding Reached records_from
reached_front s xs [] s2 ys n h = rw (h.0, h.1, zero-add) refl
reached_front s xs (r ∷ rs) s2 ys n h =
    let e : suc (length rs) + n ≡ suc (length rs + n) = omega arith in
    rw (e, h.1, h.2, reached_front h.0.1 h.0.2 rs s2 ys n h.3) refl

-- if the text ends after them, those are all its records
pub records_all : (xs : List ℕ) (rows : List (List (List ℕ))) (s2 : State) (ys : List ℕ) → Reached default_config st.StartRecord xs rows s2 ys
    → next_record default_config s2 [] [] ys ≡ None → records default_config xs ≡ rows
unfolding records_from
records_all xs rows s2 ys h none =
    let few = reached_few st.StartRecord xs rows s2 ys refl h in
    let e : length xs + 1 ≡ length rows + suc (length xs - length rows) = omega (arith, few) in
    rw (e, reached_front st.StartRecord xs rows s2 ys (suc (length xs - length rows)) h, none) (append-nil rows)

-- if another record follows, it is the next
pub records_next_one : (xs : List ℕ) (rows : List (List (List ℕ))) (s2 : State) (ys : List ℕ) (p : Read) → Reached default_config st.StartRecord xs rows s2 ys
    → next_record default_config s2 [] [] ys ≡ Some p → (more : List (List (List ℕ))) × (records default_config xs ≡ rows ++ p.0 ∷ more)
unfolding records_from
records_next_one xs rows s2 ys p h one =
    let few = reached_few st.StartRecord xs rows s2 ys refl h in
    let e : length xs + 1 ≡ length rows + suc (length xs - length rows) = omega (arith, few) in (
      records_from default_config (length xs - length rows) p.1 p.2,
      rw (e, reached_front st.StartRecord xs rows s2 ys (suc (length xs - length rows)) h, one) refl,
    )

-- csv's statement on text, as a test
pub is_text_from : (fields : List (List ℕ)) → AllText fields → is_text fields ≡ true
unfolding AllText
is_text_from [] h = refl
is_text_from (f ∷ fs) h = rw (is_utf8-from_IsUtf8 f h.0) (is_text_from fs h.1)

pub text_from_is : (fields : List (List ℕ)) → is_text fields ≡ true → AllText fields
unfolding AllText
text_from_is [] h = tt
text_from_is (f ∷ fs) h =
    elim (is_utf8 f) as (λ t. is_utf8 f ≡ t → (t && is_text fs) ≡ true → IsUtf8 f × AllText fs)
    [ true ↦ λ e k. (IsUtf8-from_is_utf8 f e, text_from_is fs k) | false ↦ λ e k. cc k ] refl h

pub no_text : (fields : List (List ℕ)) → ¬ (AllText fields) → is_text fields ≡ false
no_text fields h = elim (is_text fields) as (λ t. is_text fields ≡ t → t ≡ false) [ true ↦ λ e. absurd (h (text_from_is fields e)) | false ↦ λ e. refl ] refl

-- the first that isn't text, after records of text
pub bad_behind : (rows : List (List (List ℕ))) (fields : List (List ℕ)) (more : List (List (List ℕ))) (i : ℕ) → list_all is_text rows ≡ true → is_text fields ≡ false
    → position_from (λ fields. not (is_text fields)) i (rows ++ fields ∷ more) ≡ Some (i + length rows)
bad_behind [] fields more i a b = rw b (ap Some (sym (add-zero i)))
bad_behind (r ∷ rs) fields more i a b =
    elim (is_text r) as (λ t. (t && list_all is_text rs) ≡ true → cond (not t) (Some i) (position_from (λ fields. not (is_text fields)) (i + 1) (rs ++ fields ∷ more)) ≡ Some (i + suc (length rs)))
    [ true ↦ λ k. let e : i + suc (length rs) ≡ (i + 1) + length rs = omega arith in rw e (bad_behind rs fields more (i + 1) k b) | false ↦ λ k. cc k ] a

pub none_bad : (rows : List (List (List ℕ))) (i : ℕ) → list_all is_text rows ≡ true → position_from (λ fields. not (is_text fields)) i rows ≡ None
none_bad [] i a = refl
none_bad (r ∷ rs) i a =
    elim (is_text r) as (λ t. (t && list_all is_text rs) ≡ true → cond (not t) (Some i) (position_from (λ fields. not (is_text fields)) (i + 1) rs) ≡ None)
    [ true ↦ λ k. none_bad rs (i + 1) k | false ↦ λ k. cc k ] a

next_found : (o : Option Read) (f : List (List ℕ)) (s : State) (z : List ℕ) → NextIs o true f s z → (p : Read) × (o ≡ Some p) × (f ≡ p.0)
next_found None f s z n = cc n
next_found (Some p) f s z n = (p, refl, n.1)

took_next : (s b : State) (y : List ℕ) (f : List (List ℕ)) (k : Option (List ℕ)) → ReadsNext default_config s (Some y) k true f b → (p : Read) × (next_record default_config s [] [] y ≡ Some p) × (f ≡ p.0)
took_next s b y f None r = absurd r
took_next s b y f (Some z) r = next_found _ f b z r

bad_next : (xs : List ℕ) (rows : List (List (List ℕ))) (s : State) (y : List ℕ) (f : List (List ℕ)) (p : Read) → Reached default_config st.StartRecord xs rows s y
    → list_all is_text rows ≡ true → next_record default_config s [] [] y ≡ Some p → f ≡ p.0 → ¬ (AllText f) → bad_record (records default_config xs) ≡ Some (length rows)
bad_next xs rows s y f p h text one same bad =
    let more = records_next_one xs rows s y p h one in
    let test : is_text p.0 ≡ false = no_text p.0 (λ t. bad (rw same t)) in
    rw more.1 (bad_behind rows p.0 more.0 0 text test ∙ ap Some (zero-add (length rows)))

-- why a read of a record failed, after records of text
pub fault_explained : {R : Type 0} (rem : R → Option (List ℕ)) (a b : Reader R) (k : ErrorKind) (xs y : List ℕ) (rows : List (List (List ℕ))) → a.config ≡ default_config
    → source_of rem a ≡ Some y → Reached default_config st.StartRecord xs rows a.state y → list_all is_text rows ≡ true → ExplainsRead rem a b true k
    → Explains (records default_config xs) (fault_at (length rows) k)
fault_explained rem a b (kind.Utf8 pos err) xs y rows ec ex h text why =
    let took = took_next a.state b.state y why.1 (pending_of (rem b.rdr) b) (rw (ec, ex) at why.2) in
    bad_next xs rows a.state y why.1 took.0 h text took.1 took.2 why.3
fault_explained rem a b (kind.Io e) xs y rows ec ex h text why = tt
fault_explained rem a b (kind.UnequalLengths pos expected len) xs y rows ec ex h text why = tt
fault_explained rem a b (kind.Serialize t) xs y rows ec ex h text why = tt
fault_explained rem a b (kind.Deserialize pos err) xs y rows ec ex h text why = tt
fault_explained rem a b kind.OutOfMemory xs y rows ec ex h text why = tt

-- packed records are as many as those that they unpack to
pub packed_count : (packed : List (List ℕ)) (rows : List (List (List ℕ))) → map unpacked packed ≡ table_of rows → length packed ≡ length rows
packed_count packed rows same = sym (length-map packed unpacked) ∙ ap length same ∙ length-map rows (map without_spaces)

-- and no more than the text has bytes
pub packed_few : (packed : List (List ℕ)) (rows : List (List (List ℕ))) (text : List ℕ) (s : State) (ys : List ℕ) → map unpacked packed ≡ table_of rows
    → Reached default_config st.StartRecord text rows s ys → length packed ≤ length text
packed_few packed rows text s ys same reached =
    let few = reached_few st.StartRecord text rows s ys refl reached in
    let count = packed_count packed rows same in
    omega (arith, few, count)

pub sum_fits : (before count most : ℕ) → before + most < 2 ^ 64 → count ≤ most → Fits w64 (before + count)
sum_fits before count most few within = omega (arith, few, within)

-- what a fault says of the records after others
pub fault_after : (k : ErrorKind) (before at : ℕ) (found : List (List (List ℕ))) → Explains found (fault_at at k) → ExplainsAfter before found (fault_at (before + at) k)
fault_after (kind.Utf8 pos err) before at found why = (at, refl, why)
fault_after (kind.Io e) before at found why = tt
fault_after (kind.UnequalLengths pos expected len) before at found why = tt
fault_after (kind.Serialize t) before at found why = tt
fault_after (kind.Deserialize pos err) before at found why = tt
fault_after kind.OutOfMemory before at found why = tt

-- a position is counted on from that of the first
position_on : (p : List (List ℕ) → Bool) (n i : ℕ) (xs : List (List (List ℕ))) → position_from p (n + i) xs ≡ option_map (λ (at : ℕ). n + at) (position_from p i xs)
position_on p n i [] = refl
position_on p n i (x ∷ xs) =
    elim (p x) as (λ t. cond t (Some (n + i)) (position_from p (n + i + 1) xs) ≡ option_map (λ (at : ℕ). n + at) (cond t (Some i) (position_from p (i + 1) xs)))
    [ true ↦ refl | false ↦ let e : n + i + 1 ≡ n + (i + 1) = omega arith in rw e (position_on p n (i + 1) xs) ]

-- records of text are passed over
passed : (rows more : List (List (List ℕ))) (i : ℕ) → list_all is_text rows ≡ true
    → position_from (λ fields. not (is_text fields)) i (rows ++ more) ≡ position_from (λ fields. not (is_text fields)) (i + length rows) more
passed [] more i utf8 = rw (add-zero i) refl
passed (r ∷ rs) more i utf8 =
    elim (is_text r) as (λ t. (t && list_all is_text rs) ≡ true → cond (not t) (Some i) (position_from (λ fields. not (is_text fields)) (i + 1) (rs ++ more))
    ≡ position_from (λ fields. not (is_text fields)) (i + suc (length rs)) more)
    [ true ↦ λ k. let e : i + suc (length rs) ≡ (i + 1) + length rs = omega arith in rw e (passed rs more (i + 1) k) | false ↦ λ k. cc k ] utf8

-- the first that isn't UTF-8 comes after them
pub bad_after : (rows more : List (List (List ℕ))) → list_all is_text rows ≡ true → bad_record (rows ++ more) ≡ option_map (λ (at : ℕ). length rows + at) (bad_record more)
bad_after rows more utf8 =
    let e : 0 + length rows ≡ length rows + 0 = omega arith in
    passed rows more 0 utf8 ∙ ap (λ (n : ℕ). position_from (λ fields. not (is_text fields)) n more) e ∙ position_on (λ fields. not (is_text fields)) (length rows) 0 more

-- what a fault says of all records
pub explained_after : (rows more : List (List (List ℕ))) (fault : SheetFault) → list_all is_text rows ≡ true → ExplainsAfter (length rows) more fault → Explains (rows ++ more) fault
explained_after rows more (faults.BadRecord row) utf8 why =
    bad_after rows more utf8 ∙ ap (option_map (λ (at : ℕ). length rows + at)) why.2 ∙ ap Some (sym why.1)
explained_after rows more faults.Memory utf8 why = tt
