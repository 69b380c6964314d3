-- Trees that are read once more.
use Rattle.std.proofs.Common.{◌≡◌, ◌↔◌, ℕ, ◌<◌, min, Bool, IsTrue, List, [], length, map, get_or, take, drop, Result, Ok, Err, MatchResult, sym, ◌∙◌, ap, subst, arith, append-nil, take-append-drop}
use Rattle.std.proofs.Math.ListN.{set}
use Rattle.std.proofs.Math.Seq.{map-set_same}
use Rattle.std.proofs.lemmas.List.{get_or-map, get_or-set_same, length-drop, length-map, map-set}
use Rattle.disk_model.specs.Disk.{Grew}
use Rattle.pattern_tree.specs.Content.{Content}
use Rattle.tree_codec.specs.Text.{BeginsNoText, OneText, TextsApart, TreeText}
use Rattle.timetable.specs.Table.{Table, IsTable, stops_of}
use Rattle.section_store.specs.Sections.{Form, IsSection, stop_width}
use Rattle.part_shelf.specs.declared.fault.TextFault.{TextFault}
use Rattle.part_shelf.specs.declared.fault.TextFault.TheVariants as texts

-- one of several disks was read: the calls of the others that failed are as many as before
module _ {D : Type 0} (failures : D → ℕ) (disks : List D) (part : ℕ) (was is : D) (within : part < length disks) (own : was ≡ get_or disks part was) where
  at_part : get_or (map failures disks) part 0 ≡ failures was
  at_part = get_or-map failures disks part was 0 within ∙ ap failures (sym own)

  at_part_after : get_or (map failures (set disks part is)) part 0 ≡ failures is
  at_part_after =
      ap (λ (l : List ℕ). get_or l part 0) (map-set failures disks part is)
      ∙ get_or-set_same (map failures disks) part (failures is) 0 (omega (arith, within, length-map disks failures))

  pub spot_counted : {X : Type 0} (read : Result X TextFault)
      → MatchResult read (λ x. failures is ≡ failures was) (λ fault. fault ≡ texts.Device → Grew (failures was) (failures is))
      → MatchResult read (λ x. map failures (set disks part is) ≡ map failures disks)
      (λ fault. fault ≡ texts.Device → Grew (get_or (map failures disks) part 0) (get_or (map failures (set disks part is)) part 0))
  spot_counted (Ok x) same = map-set_same failures disks part is was (same ∙ ap failures own)
  spot_counted (Err fault) grew = λ device.
      subst (λ (n : ℕ). Grew n (get_or (map failures (set disks part is)) part 0)) (sym at_part)
      (subst (λ (n : ℕ). Grew (failures was) n) (sym at_part_after) (grew device))

-- texts are the same if trees are, and only then
pub same_texts : TextsApart → OneText → (form : Form) (left right : List ℕ) (tree other : Content) (b : Bool) → IsSection form left other → IsSection form right tree
    → IsTrue b ↔ left ≡ right → IsTrue b ↔ tree ≡ other
same_texts apart one form left right tree other b l r told = (
  (λ yes.
      let same = told.0 yes in
      sym (apart (stop_width form) (stops_of form.table) (stops_of form.table) left [] other tree l.is_text
      (subst (λ (z : List ℕ). TreeText (stop_width form) (stops_of form.table) z tree) (sym same ∙ sym (append-nil left)) r.is_text)).1),
  λ same. told.1 (one (stop_width form) (stops_of form.table) (stops_of form.table) left right other l.is_text
      (subst (λ (t : Content). TreeText (stop_width form) (stops_of form.table) right t) same r.is_text)),
)

-- no stop of a timetable is left out
pub all_stops : (asked : ℕ) (given : Table) → asked ≡ stops_of given → IsTable given → min asked 1000000 ≡ stops_of given
all_stops asked given is valid = omega (arith, is, valid.few_stops)

-- what was read of a whole text
module _ (apart : TextsApart) (stops : ℕ) (text : List ℕ) (used : ℕ) (t u : Content) (front : TreeText 4 stops (take used text) t) (whole : TreeText 4 stops text u) where
  found : (drop used text ≡ []) × (t ≡ u)
  found = apart 4 stops stops (take used text) (drop used text) t u front
      (subst (λ (l : List ℕ). TreeText 4 stops l u) (sym (take-append-drop used text)) whole)

  pub same_tree : t ≡ u
  same_tree = found.1

  pub no_more : used < length text → ⊥
  no_more lt = omega (arith, lt, length-drop used text, ap length found.0)

pub none_begins : (stops : ℕ) (text : List ℕ) (u : Content) → BeginsNoText 4 stops text → TreeText 4 stops text u → ⊥
none_begins stops text u none is = none text [] u is (sym (append-nil text))
