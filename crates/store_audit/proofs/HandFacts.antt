-- Trees that are audited as they come, and what comes of them at the end.
use Rattle.std.proofs.Common.{◌≡◌, ◌∙◌, ◌<◌, ◌++◌, ℕ, List, [], ◌∷◌, Option, All, append_assoc, append-nil, refl, sym, ap, subst, inl, inr}
use Rattle.std.specs.Global.{Vec}
use Rattle.std.specs.List.{AllZip}
use Rattle.std.proofs.lemmas.List.Elements.{All-nil, All-cons, All-head, All-tail}
use Rattle.std.proofs.lemmas.List.Sorted.{IsPermutation-sym}
use Rattle.timetable.specs.Table.{stops_of}
use Rattle.pattern_tree.specs.Content.{Content}
use Rattle.pattern_tree.proofs.OrderFacts.{longest_still}
use Rattle.auditing.specs.declared.auditing.Difference.{Difference}
use Rattle.recovery.specs.Keeping.{GivenAll}
use Rattle.section_store.specs.Sections.{AreTexts, Form, Stands}
use Rattle.store_audit.specs.Hands.{AreInHand, Gathers, HoldsMore, IsAuditOf, IsDone, IsHeldTree, IsTakenAudit, IsTakenDifference, joined, waiting_in}
use Rattle.store_audit.specs.TreeAudits.{AreAuditsOf, IsKnown, IsTreeAudit}
use Rattle.store_audit.specs.declared.due.Due.{Due}
use Rattle.store_audit.specs.declared.due.TreeAudit.{TreeAudit}
use Rattle.store_audit.specs.declared.waiting.Waiting.{Waiting}
use Rattle.store_audit.proofs.ListFacts.{zip_append, zip_split}
use Rattle.store_audit.proofs.SameTrees.{first_still}

-- the audit of a tree that waited
of_one : (form : Form) (tree : Content) (old new : Due) (audit : TreeAudit) → IsHeldTree tree old → IsDone form old new → IsAuditOf new audit
    → IsTakenAudit form tree audit
of_one form tree old new audit held done is =
    let own : IsTakenDifference form old.patterns audit.difference =
    subst (λ (found : Option Difference). IsTakenDifference form old.patterns found) (sym is.difference) (done.audited is.audited) in
    record {
      source = is.source ∙ ap (λ (c : Content). c.source) done.same ∙ held.source;
      found = record {
        first = λ below shallow. first_still form.table old.patterns tree form.rides audit.difference held.source
            (IsPermutation-sym tree.pairs old.patterns.pairs held.pairs)
            (own.first (subst (λ (s : ℕ). s < stops_of form.table) (sym held.source) below)
            (longest_still tree.pairs old.patterns.pairs form.rides held.pairs shallow));
        to = own.to;
      };
    }

of_batch : (form : Form) (trees : List Content) (old new : List Due) (audits : List TreeAudit) → AllZip IsHeldTree trees old
    → AllZip (IsDone form) old new → AllZip IsAuditOf new audits → AllZip (IsTakenAudit form) trees audits
of_batch form [] [] [] [] held done has = tt
of_batch form [] [] [] (audit ∷ audits) held done has = absurd has
of_batch form [] [] (n ∷ new) audits held done has = absurd done
of_batch form [] (o ∷ old) new audits held done has = absurd held
of_batch form (tree ∷ trees) [] new audits held done has = absurd held
of_batch form (tree ∷ trees) (o ∷ old) [] audits held done has = absurd done
of_batch form (tree ∷ trees) (o ∷ old) (n ∷ new) [] held done has = absurd has
of_batch form (tree ∷ trees) (o ∷ old) (n ∷ new) (audit ∷ audits) held done has =
    (of_one form tree o n audit held.0 done.0 has.0, of_batch form trees old new audits held.1 done.1 has.1)

-- the first of those that waited are audited
pub batch_done : (form : Form) (trees : List Content) (before after : List TreeAudit) (old new rest : List Due)
    → AreInHand form trees before (old ++ rest) → AllZip (IsDone form) old new → Gathers new before after → AreInHand form trees after rest
batch_done form trees before after old new rest h done gathers =
    let parts = zip_split IsHeldTree h.back old rest h.held in
    let first : List Content = parts.0 in
    let later : List Content = parts.1 in
    record {
      front = h.front ++ first;
      back = later;
      are = h.are ∙ ap (λ (l : List Content). h.front ++ l) parts.2 ∙ sym (append_assoc h.front first later);
      audited = subst (AllZip (IsTakenAudit form) (h.front ++ first)) (sym gathers.are)
          (zip_append (IsTakenAudit form) h.front first before gathers.audits h.audited
          (of_batch form first old new gathers.audits parts.3 done gathers.of));
      held = parts.4;
    }

-- nothing is audited yet
pub all_wait : (form : Form) (trees : List Content) (due : List Due) → AllZip IsHeldTree trees due → AreInHand form trees [] due
all_wait form trees due held = record { front = []; back = trees; are = refl; audited = tt; held = held }

none_waits : (back : List Content) → AllZip IsHeldTree back [] → back ≡ []
none_waits [] h = refl
none_waits (tree ∷ back) h = absurd h

-- if none waits, all are audited
pub all_done : (form : Form) (trees : List Content) (done : List TreeAudit) → AreInHand form trees done [] → AllZip (IsTakenAudit form) trees done
all_done form trees done h =
    subst (λ (l : List Content). AllZip (IsTakenAudit form) l done)
    (sym (h.are ∙ ap (λ (l : List Content). h.front ++ l) (none_waits h.back h.held) ∙ append-nil h.front)) h.audited

-- one batch more
pub joined_more : (batches : List (Vec Due)) (batch : Vec Due) → joined (batches ++ batch ∷ []) ≡ joined batches ++ batch.items
joined_more [] batch = append-nil batch.items
joined_more (first ∷ batches) batch =
    ap (λ (l : List Due). first.items ++ l) (joined_more batches batch) ∙ sym (append_assoc first.items (joined batches) batch.items)

-- trees that come one by one wait in their order
pub all_held : (old new : Waiting) (before trees : List Content) → GivenAll HoldsMore old trees new
    → AllZip IsHeldTree before (waiting_in old.whole.items old.last.items)
    → AllZip IsHeldTree (before ++ trees) (waiting_in new.whole.items new.last.items)
all_held old new before [] given h =
    subst (λ (l : List Content). AllZip IsHeldTree l (waiting_in new.whole.items new.last.items)) (sym (append-nil before))
    (subst (λ (w : Waiting). AllZip IsHeldTree before (waiting_in w.whole.items w.last.items)) (sym given) h)
all_held old new before (tree ∷ trees) given h =
    let mid = given.0 in
    let more = given.1 in
    let next : AllZip IsHeldTree (before ++ tree ∷ []) (waiting_in mid.whole.items mid.last.items) =
    subst (AllZip IsHeldTree (before ++ tree ∷ [])) (sym more.are)
    (zip_append IsHeldTree before (tree ∷ []) (waiting_in old.whole.items old.last.items) (more.due ∷ []) h (more.held, tt)) in
    subst (λ (l : List Content). AllZip IsHeldTree l (waiting_in new.whole.items new.last.items)) (append_assoc before (tree ∷ []) trees)
    (all_held mid new (before ++ tree ∷ []) trees given.2 next)

module _ (form : Form) where
  abbrev pub IsBelow : Content → Type 0
  IsBelow tree = tree.source < stops_of form.table

  -- the trees of a file may stand in it, so what was taken of them are their audits
  texts_audits : (texts : List (List ℕ)) (trees : List Content) (audits : List TreeAudit) → AreTexts form texts trees → All IsBelow trees
      → AllZip (IsTakenAudit form) trees audits → AllZip (IsTreeAudit form) trees audits
  texts_audits [] [] [] are below taken = tt
  texts_audits [] [] (audit ∷ audits) are below taken = absurd taken
  texts_audits [] (tree ∷ trees) audits are below taken = absurd are
  texts_audits (text ∷ texts) [] audits are below taken = absurd are
  texts_audits (text ∷ texts) (tree ∷ trees) [] are below taken = absurd taken
  texts_audits (text ∷ texts) (tree ∷ trees) (audit ∷ audits) are below taken = (
    record { source = taken.0.source; first = taken.0.found.first (All-head IsBelow tree trees below) are.0.shallow },
    texts_audits texts trees audits are.1 (All-tail IsBelow tree trees below) taken.1,
  )

  pub are_audits : (bytes : List ℕ) (trees : List Content) (audits : List TreeAudit) → Stands form bytes trees → All IsBelow trees
      → AllZip (IsTakenAudit form) trees audits → AreAuditsOf form bytes audits
  are_audits bytes trees audits (inl fresh) below taken = (
    trees,
    inl fresh,
    subst (λ (l : List Content). AllZip (IsTreeAudit form) l audits) (sym fresh.1)
        (texts_audits [] [] audits tt (All-nil IsBelow) (subst (λ (l : List Content). AllZip (IsTakenAudit form) l audits) fresh.1 taken)),
  )
  are_audits bytes trees audits (inr sections) below taken =
      (trees, inr sections, texts_audits sections.texts trees audits sections.of below taken)

  -- they name stops of the timetable
  pub all_known : (trees : List Content) (audits : List TreeAudit) → All IsBelow trees → AllZip (IsTakenAudit form) trees audits
      → All (IsKnown (stops_of form.table)) audits
  all_known [] [] below taken = All-nil (IsKnown (stops_of form.table))
  all_known [] (audit ∷ audits) below taken = absurd taken
  all_known (tree ∷ trees) [] below taken = absurd taken
  all_known (tree ∷ trees) (audit ∷ audits) below taken =
      All-cons (IsKnown (stops_of form.table)) audit audits
      (record {
        source = subst (λ (s : ℕ). s < stops_of form.table) (sym taken.0.source) (All-head IsBelow tree trees below);
        to = taken.0.found.to;
      })
      (all_known trees audits (All-tail IsBelow tree trees below) taken.1)
