-- How long a text is, and where its length stands.
use Rattle.std.proofs.Common.{◌≡◌, ℕ, ◌+◌, ◌-◌, ◌*◌, ◌≤◌, List, [], ◌∷◌, ◌++◌, length, drop, ap, ◌∙◌, arith, length-append}
use Rattle.std.proofs.lemmas.List.{drop_at}
use Rattle.std.specs.Int.{to_be_bytes, w32}
use Rattle.byteorder.specs.Endian.{big_bytes}
use Rattle.byteorder.specs.Numbers.{length-bytes_high_first}
use Rattle.pattern_tree.specs.Forest.{Forest, none, node, node_count, end_count}
use Rattle.pattern_tree.specs.Content.{Content}
use Rattle.pattern_tree.specs.Within.{IsWithin}
use Rattle.tree_codec.proofs.Within.{within as stops_within}
use Rattle.tree_codec.specs.Text.{TreeText, numbers_text, nodes_text, siblings}
use Rattle.timetable.specs.Widths.{byte_count}
use Rattle.timetable.specs.declared.width.Width.{Width}
use Rattle.timetable.specs.declared.width.Width.TheVariants.{Two, Four}
use Rattle.section_store.specs.Sections.{sized}

numbers_long : (w : ℕ) (xs : List ℕ) → length (numbers_text w xs) ≡ w * length xs
numbers_long w [] = omega arith
numbers_long w (x ∷ xs) = omega (arith, length-append (big_bytes w x) (numbers_text w xs), length-bytes_high_first w x, numbers_long w xs)

nodes_long : (w : ℕ) (f : Forest) → length (nodes_text w f) ≡ (3 * w + 4) * node_count f + w * end_count f
nodes_long w none = omega arith
nodes_long w (node b a ends next rest) =
    let step = numbers_text w (b ∷ a ∷ length ends ∷ ends) in
    let count = big_bytes 4 (siblings next) in
    omega (
      arith,
      length-append step (count ++ (nodes_text w next ++ nodes_text w rest)),
      length-append count (nodes_text w next ++ nodes_text w rest),
      length-append (nodes_text w next) (nodes_text w rest),
      numbers_long w (b ∷ a ∷ length ends ∷ ends),
      length-bytes_high_first 4 (siblings next),
      nodes_long w next,
      nodes_long w rest,
    )

text_size : (w n : ℕ) (text : List ℕ) (tree : Content) → (is : TreeText w n text tree) → length text ≡ w + 4 + ((3 * w + 4) * node_count is.nodes + w * end_count is.nodes)
text_size w n text tree is =
    let first = big_bytes w tree.source in
    let count = big_bytes 4 (siblings is.nodes) in
    omega (
      arith,
      ap length is.bytes_are,
      length-append first (count ++ nodes_text w is.nodes),
      length-append count (nodes_text w is.nodes),
      length-bytes_high_first w tree.source,
      length-bytes_high_first 4 (siblings is.nodes),
      nodes_long w is.nodes,
    )

pub text_long : (w : Width) (n : ℕ) (text : List ℕ) (tree : Content) → TreeText (byte_count w) n text tree → length text ≤ 80_000_008
text_long Two n text tree is = omega (arith, text_size 2 n text tree is, is.lawful.few_nodes, is.lawful.few_ends)
text_long Four n text tree is = omega (arith, text_size 4 n text tree is, is.lawful.few_nodes, is.lawful.few_ends)

-- a length in the four places before a text
pub size_written : (front text all : List ℕ) → length front ≡ 4 → all ≡ front ++ text → to_be_bytes w32 (length all - 4) ++ drop 4 all ≡ sized text
size_written front text all four is =
    let long : length all - 4 ≡ length text = omega (arith, ap length is, length-append front text, four) in
    ap (λ (n : ℕ). to_be_bytes w32 n ++ drop 4 all) long ∙ ap (λ (l : List ℕ). to_be_bytes w32 (length text) ++ l) (ap (λ (l : List ℕ). drop 4 l) is ∙ drop_at front text 4 four)

-- the text of a tree with only these stops
pub text_within : (stops : ℕ) → stops ≤ 1_000_000 → (text : List ℕ) (tree : Content) → IsWithin stops tree → TreeText 4 1000000 text tree → TreeText 4 stops text tree
text_within stops few text tree within is = (stops_within 4 1000000 stops text tree (omega (arith, few)) is).1 within
