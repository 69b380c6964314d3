use Rattle.std.proofs.Common.{rules, ◌≡◌, ◌++◌, [], ◌∷◌, List, Option, length, sym, ◌∙◌, subst}
use Rattle.std.specs.Arc.{arc_value}
use Rattle.section_store.specs.Sections.{Stands, form_of}
use Rattle.recovery.specs.Recovery.{IsLeftAlone}
use Rattle.part_shelf.specs.Shelves.{HasTrees}
use Rattle.part_shelf.specs.Spots.{AreSpots}
use Rattle.part_shelf.specs.declared.entry.Spot.{Spot}
use Rattle.part_shelf.proofs.AddingFacts.{counted_disks, entries_still, read_alone, unlike_why}
use Rattle.part_shelf.proofs.ShelfFacts.{more_held, still_held}
use Rattle.part_shelf.proofs.shelf.PartShelf.add.Goals as goal

pub returns-in-Err-compare-clause-added : goal.returns-in-Err-compare-clause-added
returns-in-Err-compare-clause-added g c = λ states all has honest.
    let form = form_of (arc_value c.args.self.now.table) c.args.self.now.rides in
    let state = g.D.Disk.state in
    let s = state c.args.disk in
    let t = state c.in-Ok.disk in
    let listing = c.in-Ok.ensures.listed honest in
    let there = c.in-Ok.ensures.honest.0 honest in
    let did = c.compare.ensures in
    let each = entries_still form s t c.in-Ok.entries.items c.deref-in-Ok.result.now listing.trees listing.alone c.deref-in-Ok.ensures.value listing.are in
    let spots = subst (λ (l : List (Option Spot)). AreSpots form states l all) (sym c.deref.ensures.value) has.are_spots in
    let unlike = c.in-Err-compare.ensures.agree form states all listing.trees has.honest there has.states_are spots each in (
      unlike_why form s.read states all listing.trees listing.stands c.in-Err-compare.fault unlike,
      subst (IsLeftAlone s) (sym (did.still.1 there)) listing.alone,
      still_held g.D.Disk.honest state form c.args.self.now.disks.items c.compare.new.disks.items c.args.self.now.spots.items states all did.honest.0 did.still.0 has,
    )

pub returns-clause-added : goal.returns-clause-added
returns-clause-added g c = λ states all has honest.
    let form = form_of (arc_value c.args.self.now.table) c.args.self.now.rides in
    let state = g.D.Disk.state in
    let s = state c.args.disk in
    let t = state c.in-Ok.disk in
    let disk = c.compare.new.disk in
    let disks = c.compare.new.disks.items in
    let listing = c.in-Ok.ensures.listed honest in
    let there = c.in-Ok.ensures.honest.0 honest in
    let did = c.compare.ensures in
    let each = entries_still form s t c.in-Ok.entries.items c.deref-in-Ok.result.now listing.trees listing.alone c.deref-in-Ok.ensures.value listing.are in
    let spots = subst (λ (l : List (Option Spot)). AreSpots form states l all) (sym c.deref.ensures.value) has.are_spots in
    let agrees = c.in-Ok-compare.ensures.agree form states all listing.trees has.honest there has.states_are spots each in
    let alone : IsLeftAlone s (state disk) = subst (IsLeftAlone s) (sym (did.still.1 there)) listing.alone in
    let kept = still_held g.D.Disk.honest state form c.args.self.now.disks.items disks c.args.self.now.spots.items states all did.honest.0 did.still.0 has in
    let now = entries_still form s (state disk) c.in-Ok.entries.items c.deref-in-Ok-compare.result.now listing.trees alone c.deref-in-Ok-compare.ensures.value listing.are in
    let count : c.len.result ≡ length disks = search rules in
    let are = c.note.ensures form states (state disk) all listing.trees (count ∙ counted_disks state disks states kept.states_are) has.are_spots now in
    let stands : Stands form (state disk).read listing.trees = subst (λ r. Stands form r listing.trees) (sym (read_alone s (state disk) alone)) listing.stands in
    let all_disks : c.push_reserved.new.self.items ≡ disks ++ disk ∷ [] = search rules in
    record {
      trees = listing.trees;
      now = state disk;
      stands = listing.stands;
      alone = alone;
      exact = listing.exact;
      has = subst (λ l. HasTrees g.D.Disk.honest state form l c.note.new.spots.items (states ++ state disk ∷ []) (all ++ listing.trees)) (sym all_disks)
          (more_held g.D.Disk.honest state form disks disk c.args.self.now.spots.items c.note.new.spots.items states all listing.trees kept
          (did.honest.1.0 there) stands agrees are);
    }
