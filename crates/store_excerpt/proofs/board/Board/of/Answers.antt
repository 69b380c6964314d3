use Rattle.std.proofs.Common.{rules, ◌≡◌, ℕ, Option, Some, List, slice_set, length, [], ◌∷◌, ◌++◌, ◌∙◌, append_assoc, append-nil, arith, refl, sym, ap, subst, All}
use Rattle.std.specs.Vec.Iter.{into_iter_items}
use Rattle.std.proofs.lemmas.List.{length-set, map-append}
use Rattle.std.proofs.lemmas.List.Elements.{All-pop}
use Rattle.pattern_tree.specs.Content.{Content}
use Rattle.section_store.specs.Sections.{sources}
use Rattle.section_store.specs.Lasting.{IsExact}
use Rattle.store_excerpt.specs.Board.{AreOf, IsBoardOf, AreExact, IsWholeAmong, AreWholeAmong}
use Rattle.store_excerpt.proofs.BoardFacts.{board_none, board_more, same_more, same_none, right_none, right_more, right_still, whole_none, whole_more, whole_still}
use Rattle.store_excerpt.proofs.board.Board.of.Goals as goal

nothing_left : {X : Type 0} (l : List X) → length l ≡ 0 → l ≡ []
nothing_left [] h = refl
nothing_left (x ∷ xs) h = absurd (omega arith)

pub loop-tree-init : goal.loop-tree-init
loop-tree-init c = record {
  rest = refl;
  count = search rules;
  long = c.in_ok-board.ensures.long;
  shows = board_none c.args.stops c.in_ok-board.board c.in_ok-board.ensures.bare;
  same = same_none c.in_ok-board.board c.in_ok-board.ensures.bare;
  right = λ form all. right_none form c.in_ok-board.board c.in_ok-board.ensures.bare;
  whole = λ form froms all. whole_none form froms c.in_ok-board.board c.in_ok-board.ensures.bare;
}

pub loop-tree-preserved : goal.loop-tree-preserved
loop-tree-preserved c =
    let at = c.loop-tree in
    let tree : Content = c.in-Some.tree in
    let patterns : Content = c.in_ok-of.field-0 in
    let source : patterns.source ≡ tree.source = c.in_ok-of.ensures.source in
    let steps : into_iter_items at.tree-iterator ≡ tree ∷ into_iter_items c.next.new.self = c.in-Some.ensures.steps.0 in
    let set : c.show.new.self ≡ slice_set at.board patterns.source (Some patterns) = c.show.ensures in
    let more : sources (at.yielded ++ tree ∷ []) ≡ sources at.yielded ++ patterns.source ∷ [] =
    map-append (λ (t : Content). t.source) at.yielded (tree ∷ []) ∙ ap (λ (s : ℕ). sources at.yielded ++ s ∷ []) (sym source) in
    let shown = board_more c.args.stops (sources at.yielded) at.board patterns at.invariant.long at.invariant.shows in
    record {
      rest = append_assoc at.yielded (tree ∷ []) _ ∙ rw (← steps) at.invariant.rest;
      count = let was = at.invariant.count in let gone = c.in-Some.ensures.steps.1 in let short = ap length steps in omega arith;
      long = ap (λ (b : List (Option Content)). length b) set ∙ length-set at.board patterns.source (Some patterns) ∙ at.invariant.long;
      shows = subst (λ (l : List ℕ). IsBoardOf c.args.stops l c.show.new.self) (sym more)
          (subst (λ (b : List (Option Content)). IsBoardOf c.args.stops (sources at.yielded ++ patterns.source ∷ []) b) (sym set) shown);
      same = subst (AreOf (at.yielded ++ tree ∷ [])) (sym set)
          (same_more at.yielded at.board tree patterns at.invariant.same source c.in_ok-of.ensures.pairs);
      right = λ form all.
          let both = All-pop (IsExact form) (at.yielded ++ tree ∷ []) at.yielded (Some tree) refl all in
          subst (AreExact form) (sym set)
          (right_more form at.board patterns.source patterns (at.invariant.right form both.0) (right_still form tree patterns source c.in_ok-of.ensures.pairs both.1));
      whole = λ form froms all.
          let both = All-pop (IsWholeAmong form froms) (at.yielded ++ tree ∷ []) at.yielded (Some tree) refl all in
          subst (AreWholeAmong form froms) (sym set)
          (whole_more form froms at.board patterns.source patterns (at.invariant.whole form froms both.0)
          (whole_still form froms tree patterns source c.in_ok-of.ensures.pairs both.1));
    }

pub returns-clause-shows : goal.returns-clause-shows
returns-clause-shows c =
    let at = c.loop-tree in
    let none = c.in-None.ensures.steps in
    let empty : into_iter_items at.tree-iterator ≡ [] = nothing_left _ (sym at.invariant.count ∙ none.0) in
    let all = sym (append-nil at.yielded) ∙ rw empty at at.invariant.rest ∙ c.into_iter-tree-iterator.ensures.into_iter_gives.0 in
    subst (λ (l : List Content). IsBoardOf c.args.stops (sources l) at.board) all at.invariant.shows

pub returns-clause-right : goal.returns-clause-right
returns-clause-right c = λ form exact.
    let at = c.loop-tree in
    let none = c.in-None.ensures.steps in
    let empty : into_iter_items at.tree-iterator ≡ [] = nothing_left _ (sym at.invariant.count ∙ none.0) in
    let all = sym (append-nil at.yielded) ∙ rw empty at at.invariant.rest ∙ c.into_iter-tree-iterator.ensures.into_iter_gives.0 in
    at.invariant.right form (subst (All (IsExact form)) (sym all) exact)

pub returns-clause-whole : goal.returns-clause-whole
returns-clause-whole c = λ form froms whole.
    let at = c.loop-tree in
    let none = c.in-None.ensures.steps in
    let empty : into_iter_items at.tree-iterator ≡ [] = nothing_left _ (sym at.invariant.count ∙ none.0) in
    let all = sym (append-nil at.yielded) ∙ rw empty at at.invariant.rest ∙ c.into_iter-tree-iterator.ensures.into_iter_gives.0 in
    at.invariant.whole form froms (subst (All (IsWholeAmong form froms)) (sym all) whole)

pub returns-clause-same : goal.returns-clause-same
returns-clause-same c =
    let at = c.loop-tree in
    let none = c.in-None.ensures.steps in
    let empty : into_iter_items at.tree-iterator ≡ [] = nothing_left _ (sym at.invariant.count ∙ none.0) in
    let all = sym (append-nil at.yielded) ∙ rw empty at at.invariant.rest ∙ c.into_iter-tree-iterator.ensures.into_iter_gives.0 in
    subst (λ (l : List Content). AreOf l at.board) all at.invariant.same
