use Rattle.std.proofs.Common.{◌≡◌, ◌↔◌, ◌⊎◌, inl, inr, refl, sym, subst, get_or, List, Option, Some, None}
use Rattle.std.specs.List.{Contains}
use Rattle.pattern_tree.specs.Forest.{Pair}
use Rattle.pattern_building.specs.Latest.{AreIn, IsIn}
use Rattle.pattern_building.specs.declared.latest.Latest.{Latest}
use Rattle.pattern_building.specs.declared.latest.Known.{Known}
use Rattle.pattern_building.proofs.growing.GrowingTree.insert.Goals as goal

kept : (old new : List Pair) → ((p : Pair) → Contains old p → Contains new p) → (pair : Option Known) → IsIn old pair → IsIn new pair
kept old new keeps None h = tt
kept old new keeps (Some known) h = keeps (known.path.items, known.end) h

-- what is remembered of a content is in each content that has all of it
all_kept : (old new : List Pair) → ((p : Pair) → Contains old p → Contains new p) → (latest : Latest) → AreIn old latest → AreIn new latest
all_kept old new keeps latest are = λ k d lt.
    let place = get_or latest.places.items k d in
    let is = are k d lt in
    (kept old new keeps place.last is.0, kept old new keeps place.earlier is.1)

pub invariant_of-self-2 : goal.invariant_of-self-2
invariant_of-self-2 g c =
    let added = c.in_ok-insert.ensures.added in
    c.put.ensures c.insert.new.self.pairs
    (all_kept c.self.inside.tree.pairs c.insert.new.self.pairs (λ p h. (added p).1 (inl h)) c.self.inside.latest c.self.invariant)
    ((added (c.args.path.now, c.args.end)).1 (inr refl))

-- a pair that is there makes no difference
has_it : (content : List Pair) (q : Pair) → Contains content q → (p : Pair) → Contains content p ↔ (Contains content p ⊎ (p ≡ q))
has_it content q there p = (λ h. inl h, λ h. elim h [ inl was ↦ was | inr e ↦ subst (λ (x : Pair). Contains content x) (sym e) there ])

pub returns-then-has-clause-added : goal.returns-then-has-clause-added
returns-then-has-clause-added g c =
    let there = c.has.ensures c.if-has.true c.self.inside.tree.pairs c.self.invariant in
    rw (← c.self.view_is) (has_it c.self.inside.tree.pairs (c.args.path.now, c.args.end) there)

pub returns-clause-added : goal.returns-clause-added
returns-clause-added g c = rw (← c.self.view_is) c.in_ok-insert.ensures.added
