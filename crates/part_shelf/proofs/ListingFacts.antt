-- Where trees stand that are listed one by one.
use Rattle.std.proofs.Common.{◌≡◌, ℕ, ◌+◌, List, [], ◌∷◌, ◌++◌, length, take, drop, ⊎_elim, ◌≤◌, inl, inr, refl, sym, ◌∙◌, ap, subst, arith, append_assoc, append-nil, length-append}
use Rattle.std.specs.List.{AllZip}
use Rattle.std.specs.Int.{to_be_bytes, w32}
use Rattle.std.proofs.lemmas.Bool.{cases_lt}
use Rattle.std.proofs.lemmas.List.{drop_at, take_at}
use Rattle.pattern_tree.specs.Content.{Content}
use Rattle.tree_codec.specs.Text.{TreeText, OneText}
use Rattle.section_store.specs.Sections.{AreTexts, Form, IsFresh, IsSection, Stands, header, header_tail, open_gate, sections, sized, stop_width, table_bytes}
use Rattle.timetable.specs.Table.{stops_of}
use Rattle.recovery.specs.Keeping.{GivenAll}
use Rattle.part_shelf.specs.Spots.{IsEntry, Lists}
use Rattle.part_shelf.specs.declared.entry.Entry.{Entry}
use Rattle.part_shelf.specs.declared.listing.Index.{Index}

-- how long a header is
tail_long : (form : Form) → length (header_tail form) ≡ 13 + length (table_bytes form)
unfolding header_tail
tail_long form = omega (arith, length-append (to_be_bytes w32 (length (table_bytes form))) (table_bytes form))

header_is : (form : Form) → header form ≡ open_gate ∷ header_tail form
unfolding header
header_is form = refl

pub header_long : (form : Form) → length (header form) ≡ 14 + length (table_bytes form)
header_long form = omega (arith, tail_long form, ap length (header_is form))

-- what stands after a gate and a length
text_there : (front text more read : List ℕ) (place size : ℕ) → read ≡ front ++ (open_gate ∷ sized text ++ more) → place ≡ length front + 5 → size ≡ length text
    → take size (drop place read) ≡ text
text_there front text more read place size are place_is size_is =
    let head = open_gate ∷ to_be_bytes w32 (length text) in
    let whole : read ≡ (front ++ head) ++ (text ++ more) =
    are
    ∙ ap (λ (l : List ℕ). front ++ (open_gate ∷ l)) (append_assoc (to_be_bytes w32 (length text)) text more)
    ∙ sym (append_assoc front head (text ++ more)) in
    ap (λ (l : List ℕ). take size (drop place l)) whole
    ∙ ap (λ (l : List ℕ). take size l) (drop_at (front ++ head) (text ++ more) place (omega (arith, length-append front head, place_is)))
    ∙ take_at text more size (sym size_is)

module _ (one : OneText) (form : Form) (width : stop_width form ≡ 4) (read : List ℕ) where
  -- of texts that stand one after the other each stands where it is listed
  listed : (trees : List Content) (texts : List (List ℕ)) (front rest : List ℕ) (old new : Index) → GivenAll Lists old trees new → AreTexts form texts trees
      → read ≡ front ++ (sections texts ++ rest) → old.next ≡ length front
      → (more : List Entry) × (new.entries.items ≡ old.entries.items ++ more) × AllZip (IsEntry form read) more trees
  listed [] texts front rest old new given of are there = ([], ap (λ (i : Index). i.entries.items) given ∙ sym (append-nil old.entries.items), tt)
  listed (tree ∷ trees) [] front rest old new given of are there = absurd of
  listed (tree ∷ trees) (text ∷ texts) front rest old new given of are there =
      let mid = given.0 in
      let first = given.1 in
      let own : TreeText 4 (stops_of form.table) text tree = subst (λ (w : ℕ). TreeText w (stops_of form.table) text tree) width of.0.is_text in
      let same : first.text ≡ text = one 4 1000000 (stops_of form.table) first.text text tree first.is_text own in
      let long : length first.text ≡ length text = ap length same in
      let after = sections texts ++ rest in
      let begins : read ≡ front ++ (open_gate ∷ sized text ++ after) =
      are ∙ ap (λ (l : List ℕ). front ++ (open_gate ∷ l)) (append_assoc (sized text) (sections texts) rest) in
      let moved : read ≡ (front ++ (open_gate ∷ sized text)) ++ after = begins ∙ sym (append_assoc front (open_gate ∷ sized text) after) in
      let next : mid.next ≡ length (front ++ (open_gate ∷ sized text)) =
      omega (arith, first.next, there, long, length-append front (open_gate ∷ sized text), length-append (to_be_bytes w32 (length text)) text) in
      let later = listed trees texts (front ++ (open_gate ∷ sized text)) rest mid new given.2 of.1 moved next in
      let here : take first.entry.size (drop first.entry.place read) ≡ text =
      text_there front text after read first.entry.place first.entry.size begins (omega (arith, first.place, there)) (first.size ∙ long) in (
        first.entry ∷ later.0,
        later.1 ∙ ap (λ (l : List Entry). l ++ later.0) first.listed ∙ append_assoc old.entries.items (first.entry ∷ []) later.0,
        (
          record {
            source = first.source;
            there = record {
              section = subst (λ (l : List ℕ). IsSection form l tree) (sym here) of.0;
              within = omega (arith, first.small, first.next, first.place, first.size);
            };
          },
          later.2,
        ),
      )

  -- of a whole file
  pub all_listed : (trees : List Content) (old new : Index) → GivenAll Lists old trees new → (IsFresh read → ⊥) → Stands form read trees
      → old.next ≡ 14 + length (table_bytes form) → old.entries.items ≡ [] → AllZip (IsEntry form read) new.entries.items trees
  all_listed trees old new given begun (inl fresh) there none = absurd (begun fresh.0)
  all_listed trees old new given begun (inr s) there none =
      let found = listed trees s.texts (header form) (s.gate ∷ s.free) old new given s.of (s.are ∙ append_assoc (header form) (sections s.texts) (s.gate ∷ s.free)) (there ∙ sym (header_long form)) in
      let are : found.0 ≡ new.entries.items = sym (found.1 ∙ ap (λ (l : List Entry). l ++ found.0) none) in
      subst (λ (l : List Entry). AllZip (IsEntry form read) l trees) are found.2

-- what isn't begun is fresh
pub fresh_by : (bytes : List ℕ) → ((IsFresh bytes → ⊥) → ⊥) → IsFresh bytes
fresh_by [] not = tt
fresh_by (gate ∷ bytes) not = elim (cases_lt (length bytes) 14) [ inl short ↦ inl short | inr le ↦ long le ] where
  long : 14 ≤ length bytes → IsFresh (gate ∷ bytes)
  long le = inr (λ same. not (λ fresh. ⊎_elim (λ short. omega (arith, short, le)) (λ closed. closed same) fresh))
