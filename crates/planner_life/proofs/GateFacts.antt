-- Where the closed gate stands after puts.
use Rattle.std.proofs.Common.{◌≡◌, ◌+◌, ℕ, List, [], ◌∷◌, ◌++◌, length, arith, sym, subst}
use Rattle.std.specs.Int.{to_be_bytes, w32}
use Rattle.std.proofs.lemmas.List.{length-append}
use Rattle.disk_model.specs.Disk.{State}
use Rattle.timetable.specs.Table.{stops_of}
use Rattle.pattern_tree.specs.Content.{Content}
use Rattle.tree_codec.specs.Text.{OneText, TreeText}
use Rattle.section_store.specs.Sections.{Form, AreTexts, header, sections, sized, stop_width}
use Rattle.section_store.specs.Store.{Holds}
use Rattle.section_store.specs.Lasting.{IsExact}
use Rattle.planner_life.specs.Gates.{AreBehind, GateAt, IsBehind}

-- more sections after some
pub behind_more : (form : Form) (list more : List ℕ) (start place next : ℕ) → AreBehind form list start place → AreBehind form more place next
    → AreBehind form (list ++ more) start next
behind_more form [] more start place next same behind = subst (λ (n : ℕ). AreBehind form more n next) same behind
behind_more form (s ∷ list) more start place next here behind = (here.0, here.1, behind_more form list more here.0 place next here.2 behind)

-- a gate whose place is known
pub gate_here : (honest : Type 0) (form : Form) (first : List ℕ) (start : ℕ) (list : List ℕ) (place : ℕ) (since : List ℕ) → list ≡ first ++ since
    → (honest → AreBehind form since start place) → (here : ℕ) → here ≡ place → GateAt honest form first start list here
gate_here honest form first start list place since are behind here same = record {
  since = since;
  are = are;
  behind = λ (h : honest). subst (λ (n : ℕ). AreBehind form since start n) (sym same) (behind h);
}

-- the text of a tree, whose section is all that the others have beyond the texts
record LastText (form : Form) (texts others : List (List ℕ)) (tree : Content) : Type 0 where
  pub text : List ℕ
  pub is_text : TreeText (stop_width form) (stops_of form.table) text tree
  pub longer : length (sections others) ≡ length (sections texts) + 5 + length text

last_text : OneText → (form : Form) (texts others : List (List ℕ)) (trees : List Content) (tree : Content)
    → AreTexts form texts trees → AreTexts form others (trees ++ tree ∷ []) → LastText form texts others tree
last_text one form [] [] [] tree are too = absurd too
last_text one form [] (text ∷ []) [] tree are too = record {
  text = text;
  is_text = too.0.is_text;
  longer = omega (arith, length-append (sized text) [], length-append (to_be_bytes w32 (length text)) text);
}
last_text one form [] (text ∷ (other ∷ others)) [] tree are too = absurd too.1
last_text one form [] others (t ∷ trees) tree are too = absurd are
last_text one form (x ∷ texts) others [] tree are too = absurd are
last_text one form (x ∷ texts) [] (t ∷ trees) tree are too = absurd too
last_text one form (x ∷ texts) (y ∷ others) (t ∷ trees) tree are too =
    let same : x ≡ y = one (stop_width form) (stops_of form.table) (stops_of form.table) x y t are.0.is_text too.0.is_text in
    let rest = last_text one form texts others trees tree are.1 too.1 in
    let grown = rest.longer in
    let here = length-append (sized x) (sections texts) in
    let there = length-append (sized x) (sections others) in
    let is : LastText form (x ∷ texts) (x ∷ others) tree = record {
      text = rest.text;
      is_text = rest.is_text;
      longer = omega (arith, grown, here, there);
    } in
    subst (λ (t : List ℕ). LastText form (x ∷ texts) (t ∷ others) tree) same is

-- after a put the closed gate stands after the tree's section
pub gate_behind : OneText → (form : Form) (trees : List Content) (tree : Content) (list others : List ℕ) (place end : ℕ) (old new : State)
    → IsExact form tree → Holds form trees place list old → Holds form (trees ++ tree ∷ []) end others new → IsBehind form tree.source place end
gate_behind one form trees tree list others place end old new right was is =
    let before = was.rest.begins in
    let after = is.rest.begins in
    let last = last_text one form before.texts after.texts trees tree before.of after.of in
    let longer = last.longer in
    let here = before.there in
    let there = after.there in
    let first = length-append (header form) (sections before.texts) in
    let second = length-append (header form) (sections after.texts) in
    record {
      tree = tree;
      right = right;
      text = last.text;
      is_text = last.is_text;
      there = omega (arith, longer, here, there, first, second);
    }
