-- What is printed of some stops to leave from, and then of others.
use Rattle.std.proofs.Common.{◌≡◌, ◌∙◌, ℕ, zero, ◌+◌, ◌-◌, ◌≤◌, ◌++◌, List, [], ◌∷◌, length, map, take, drop, Option, arith, append_assoc, refl, sym, ap, subst}
use Rattle.std.proofs.KnownBytes.{Appends-nil, Appends-trans}
use Rattle.std.proofs.Math.Seq.{take-add}
use Rattle.std.proofs.lemmas.List.{append-nil, length-map, map-append}
use Rattle.std.proofs.lemmas.List.Elements.{All-nil, All-cons}
use Rattle.std.specs.List.{All}
use Rattle.std.specs.Global.{Vec}
use Rattle.reaching.specs.declared.travel_time.TravelTimes.{TravelTimes}
use Rattle.streams.specs.Streams.{HasBeginning, HasWhole, StreamData}
use Rattle.timetable.specs.Table.{Table}
use Rattle.travel_matrix.specs.Rows.{AreRows, IsCell, IsRow}
use Rattle.travel_matrix.specs.declared.window.Window.{Window}
use Rattle.told_matrix.specs.Batches.{HasLines, HasLinesCut, IsLinesBroken, IsLinesCut}
use Rattle.told_matrix.specs.Lines.{lines_of}
use Rattle.told_matrix.specs.Tables.{AreLines, HasTable, IsBrokenOff, IsCutOff}
use Rattle.told_matrix.specs.Writers.{HasLength}
use Rattle.told_matrix.specs.declared.asking.Matrix.{Matrix}
use Rattle.told_matrix.specs.declared.batches.TheConstants.{HEADER}
use Rattle.told_matrix.specs.declared.place.Place.{Place}
use Rattle.told_matrix.proofs.LineFacts.{lines_append}
use Rattle.told_matrix.proofs.ZipFacts.{zip_append, zip_long}

-- two texts, one after the other
pub whole_more : (a b : List ℕ) (old mid new : StreamData) → HasWhole a old mid → HasWhole b mid new → HasWhole (a ++ b) old new
whole_more a b old mid new first second = record {
  added = Appends-trans old.contents mid.contents new.contents a b first.added second.added;
  taken = second.taken ∙ first.taken;
}

pub beginning_more : (a b : List ℕ) (old mid new : StreamData) → HasWhole a old mid → HasBeginning b mid new → HasBeginning (a ++ b) old new
beginning_more a b old mid new first second =
    let written = second.added.1.0 in record {
      added = (
        second.added.0,
        (
          a ++ written,
          ap (λ (l : List ℕ). a ++ l) second.added.1.1 ∙ sym (append_assoc a written second.added.0),
          Appends-trans old.contents mid.contents new.contents a written first.added second.added.1.2,
        ),
      );
      refused = second.refused;
    }

-- nothing was printed yet
pub none_yet : (w : Window) (goals : List Place) (old : StreamData) → HasLines w [] goals old old
none_yet w goals old = ([], ([], tt, refl), record { added = Appends-nil old.contents; taken = refl })

module _ (w : Window) (a b goals : List Place) where
  lines_both : (s t : List ℕ) → AreLines w.table.now w.rides w.first w.last a goals s → AreLines w.table.now w.rides w.first w.last b goals t
      → AreLines w.table.now w.rides w.first w.last (a ++ b) goals (s ++ t)
  lines_both s t first second =
      let stop = λ (place : Place). place.stop in
      let Is = λ (from : ℕ) (row : Vec (Option TravelTimes)). IsRow w.table.now w.rides w.first w.last (map stop goals) from row.items in
      let long : length first.0 ≡ length a = zip_long Is (map stop a) first.0 first.1 ∙ length-map a stop in (
        first.0 ++ second.0,
        subst (λ (l : List ℕ). AreRows w.table.now w.rides w.first w.last (map stop goals) l (first.0 ++ second.0)) (sym (map-append stop a b))
            (zip_append Is (map stop a) (map stop b) first.0 second.0 first.1 second.1),
        ap (λ (l : List ℕ). l ++ t) first.2 ∙ ap (λ (l : List ℕ). lines_of a goals first.0 ++ l) second.2
            ∙ sym (lines_append a b goals first.0 second.0 long),
      )

  pub has_more : (old mid new : StreamData) → HasLines w a goals old mid → HasLines w b goals mid new → HasLines w (a ++ b) goals old new
  has_more old mid new first second =
      (first.0 ++ second.0, lines_both first.0 second.0 first.1 second.1, whole_more first.0 second.0 old mid new first.2 second.2)

  pub cut_more : (old mid new : StreamData) → HasLines w a goals old mid → HasLinesCut w b goals mid new → HasLinesCut w (a ++ b) goals old new
  cut_more old mid new first second =
      (first.0 ++ second.0, lines_both first.0 second.0 first.1 second.1, beginning_more first.0 second.0 old mid new first.2 second.2)

-- the first ones, and those of the next batch
pub batch_more : {X : Type 0} (xs : List X) (done end : ℕ) → done ≤ end → take done xs ++ take (end - done) (drop done xs) ≡ take end xs
batch_more xs done end le =
    let e : done + (end - done) ≡ end = omega (arith, le) in sym (take-add done (end - done) xs) ∙ ap (λ (n : ℕ). take n xs) e

-- each row has a cell for each stop to go to
pub all_sized : (table : Table) (k first last : ℕ) (stops origins : List ℕ) (rows : List (Vec (Option TravelTimes)))
    → AreRows table k first last stops origins rows → All (HasLength (length stops)) rows
all_sized table k first last stops [] [] h = All-nil (HasLength (length stops))
all_sized table k first last stops [] (row ∷ rows) h = absurd h
all_sized table k first last stops (s ∷ origins) [] h = absurd h
all_sized table k first last stops (s ∷ origins) (row ∷ rows) h =
    All-cons (HasLength (length stops)) row rows (zip_long (IsCell h.0.0) stops row.items h.0.2)
    (all_sized table k first last stops origins rows h.1)

-- the stream refused a write of the header
pub header_cut : (table : Table) (k : ℕ) (matrix : Matrix) (old new : StreamData) → HasBeginning HEADER.now old new → IsCutOff table k matrix old new
header_cut table k matrix old new h = (
  zero,
  HEADER.now ++ [],
  ([], ([], tt, refl), refl),
  subst (λ (text : List ℕ). HasBeginning text old new) (sym (append-nil HEADER.now)) h,
)

-- memory ran out after the header was printed
pub header_broken : (table : Table) (k : ℕ) (matrix : Matrix) (old new : StreamData) → HasWhole HEADER.now old new → IsBrokenOff table k matrix old new
header_broken table k matrix old new h = (
  zero,
  HEADER.now ++ [],
  ([], ([], tt, refl), refl),
  subst (λ (text : List ℕ). HasWhole text old new) (sym (append-nil HEADER.now)) h,
)

-- the header, and then lines; the window is the table's
module _ (w : Window) (table : Table) (k : ℕ) (matrix : Matrix) (origins goals : List Place) (is_table : w.table.now ≡ table) (is_k : w.rides ≡ k)
    (is_first : w.first ≡ matrix.first) (is_last : w.last ≡ matrix.last) (from : origins ≡ matrix.origins.items) (to : goals ≡ matrix.goals.items)
    (old mid new : StreamData) (header : HasWhole HEADER.now old mid) where
  moved : (a b : List Place) (text : List ℕ) → a ≡ b → AreLines w.table.now w.rides w.first w.last a goals text
      → AreLines table k matrix.first matrix.last b matrix.goals.items text
  moved a b text same h =
      subst (λ (t : Table). AreLines t k matrix.first matrix.last b matrix.goals.items text) is_table
      (subst (λ (n : ℕ). AreLines w.table.now n matrix.first matrix.last b matrix.goals.items text) is_k
      (subst (λ (n : ℕ). AreLines w.table.now w.rides n matrix.last b matrix.goals.items text) is_first
      (subst (λ (n : ℕ). AreLines w.table.now w.rides w.first n b matrix.goals.items text) is_last
      (subst (λ (l : List Place). AreLines w.table.now w.rides w.first w.last l matrix.goals.items text) same
      (subst (λ (l : List Place). AreLines w.table.now w.rides w.first w.last a l text) to h)))))

  first_ones : (n : ℕ) → take n origins ≡ take n matrix.origins.items
  first_ones n = ap (λ (l : List Place). take n l) from

  pub table_whole : HasLines w origins goals mid new → HasTable table k matrix old new
  table_whole h = (
    HEADER.now ++ h.0,
    (h.0, moved origins matrix.origins.items h.0 from h.1, refl),
    whole_more HEADER.now h.0 old mid new header h.2,
  )

  pub table_cut : IsLinesCut w origins goals mid new → IsCutOff table k matrix old new
  table_cut h = (
    h.0,
    HEADER.now ++ h.1.0,
    (h.1.0, moved (take h.0 origins) (take h.0 matrix.origins.items) h.1.0 (first_ones h.0) h.1.1, refl),
    beginning_more HEADER.now h.1.0 old mid new header h.1.2,
  )

  pub table_broken : IsLinesBroken w origins goals mid new → IsBrokenOff table k matrix old new
  table_broken h = (
    h.0,
    HEADER.now ++ h.1.0,
    (h.1.0, moved (take h.0 origins) (take h.0 matrix.origins.items) h.1.0 (first_ones h.0) h.1.1, refl),
    whole_more HEADER.now h.1.0 old mid new header h.1.2,
  )
