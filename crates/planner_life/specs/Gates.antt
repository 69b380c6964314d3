-- Where the closed gate of a store stands.
use Rattle.std.specs.Prelude.{◌≡◌, ◌+◌, ℕ, List, [], ◌∷◌, ◌++◌, length}
use Rattle.timetable.specs.Table.{stops_of}
use Rattle.pattern_tree.specs.Content.{Content}
use Rattle.pattern_tree.specs.Completeness.{IsTreeOf}
use Rattle.tree_codec.specs.Text.{TreeText}
use Rattle.section_store.specs.Sections.{Form, Stands, AreTexts, header, sections, sources, stop_width}

-- the bytes stand for trees of these sources, and the header and their sections end at the place
pub record EndsAt (form : Form) (bytes list : List ℕ) (place : ℕ) : Type 0 where
  pub trees : List Content
  pub stands : Stands form bytes trees
  pub are : list ≡ sources trees
  pub texts : List (List ℕ)
  pub of : AreTexts form texts trees
  pub there : place ≡ length (header form ++ sections texts)

-- the section of the source's tree, with its gate at the place, ends at the next one
pub record IsBehind (form : Form) (s place next : ℕ) : Type 0 where
  pub tree : Content
  pub right : IsTreeOf form.table form.rides s tree
  pub text : List ℕ
  pub is_text : TreeText (stop_width form) (stops_of form.table) text tree
  pub there : next ≡ place + 5 + length text

-- the sections of these sources' trees, one after the other from the place on, end at the next one
abbrev pub AreBehind : Form → List ℕ → ℕ → ℕ → Type 0
AreBehind form [] place next = next ≡ place
AreBehind form (s ∷ list) place next = (between : ℕ) × IsBehind form s place between × AreBehind form list between next

-- The list begins with the first sources, whose sections end at the start. Of an honest disk the closed gate stands after the sections of
-- all others.
pub record GateAt (honest : Type 0) (form : Form) (first : List ℕ) (start : ℕ) (list : List ℕ) (place : ℕ) : Type 0 where
  pub since : List ℕ
  pub are : list ≡ first ++ since
  pub behind : honest → AreBehind form since start place
