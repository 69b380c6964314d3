-- What the disk of an open store holds after each call of a put.
use Rattle.std.proofs.Common.{◌≡◌, ◌⊎◌, ℕ, ◌+◌, Bool, true, false, not, is_ok, Result, Ok, Err, OnOk, MatchResult, MatchBool, List, [], ◌∷◌, ◌++◌, refl, sym, ap, ◌∙◌, subst, inl, inr}
use Rattle.std.specs.List.{Contains}
use Rattle.std.proofs.lemmas.List.{append_cancel_left}
use Rattle.std.proofs.lemmas.List.Elements.{All-push, All-weaker, Contains-append_left, Contains-push}
use Rattle.disk_model.specs.Image.{IsOutcome}
use Rattle.disk_model.specs.Disk.{State, Syncs, Writes, after_sync}
use Rattle.disk_model.specs.Moments.{Leaves, LeavesOnly}
use Rattle.disk_model.proofs.Moments.{leaves_last}
use Rattle.pattern_tree.specs.Content.{Content}
use Rattle.pattern_tree.specs.Finished.{FinishedTree}
use Rattle.section_store.specs.Lasting.{IsExact, LosesNothing}
use Rattle.section_store.specs.Sections.{Form, IsSections, IsBeforeOrAfter, open_gate, sources}
use Rattle.section_store.specs.declared.fault.PutFault.{PutFault}
use Rattle.section_store.specs.Store.{Holds, IsRest, IsBody, IsDurable, IsOpened, WroteBody, BodyFailed}
use Rattle.section_store.specs.StoreView.{ReceiptView}
use Rattle.section_store.specs.declared.step.Step.{Step}
use Rattle.section_store.specs.declared.step.Step.TheVariants as N
use Rattle.planner_core.specs.Archive.{IsPutting, IsResting, IsStage, IsArchive}
use Rattle.planner_core.specs.Calls.{OpensGate, SyncsGate, SyncsSection, WritesSection, extent_of}
use Rattle.planner_core.specs.Views.{ArchiveView}
use Rattle.planner_core.proofs.Files.{rest_leaves, source_more}

-- the section was written, or its write failed
pub after_write_body : (form : Form) (trees : List Content) (storing storing' : List ℕ) (tree : Content) (source place place' extent : ℕ) (old new : State) (next : Step) → IsResting form trees storing place old
    → LeavesOnly old new (λ bytes. IsSections form bytes trees) → IsExact form tree → storing' ≡ storing ++ tree.source ∷ []
    → ((next ≡ N.SyncBody) × IsBody form trees tree place' extent new × (source ≡ tree.source)) ⊎ (next ≡ N.Failed)
    → IsStage next form trees storing' source place' extent new
after_write_body form trees storing storing' tree source place place' extent old new next rest moments exact are (inl (going, body, is)) =
    rw going (record {
      tree = tree;
      exact = exact;
      storing_are = are ∙ ap (λ (l : List ℕ). l ++ tree.source ∷ []) rest.storing_are;
      at = (sym is, body, leaves_last old new (λ bytes. IsSections form bytes trees) moments (rest_leaves form trees place old rest.rest));
    })
after_write_body form trees storing storing' tree source place place' extent old new next rest moments exact are (inr going) =
    rw going (record {
      tree = tree;
      exact = exact;
      storing_are = are ∙ ap (λ (l : List ℕ). l ++ tree.source ∷ []) rest.storing_are;
      at = λ bytes left. inl (leaves_last old new (λ b. IsSections form b trees) moments (rest_leaves form trees place old rest.rest) bytes left);
    })

-- what a call leaves, by its answer
module _ (form : Form) (trees : List Content) (storing : List ℕ) (source place extent : ℕ) (old : State) where
  pub after_sync_body : (is : IsPutting N.SyncBody form trees storing source place extent old) (r : Result Unit PutFault) (source' place' extent' : ℕ) (new : State) (next : Step)
      → ((tree : Content) → IsBody form trees tree place extent old → OnOk r (IsBody form trees tree place' extent' new × IsDurable new))
      → ((tree : Content) → IsBody form trees tree place extent old → LeavesOnly old new (λ bytes. IsSections form bytes trees))
      → Syncs r old new → MatchResult r (λ _. next ≡ N.OpenGate) (λ _. next ≡ N.Failed) → source' ≡ source
      → IsStage next form trees storing source' place' extent' new
  after_sync_body is (Ok u) source' place' extent' new next body moments sync going noted =
      let durable = body is.tree is.at.1 in
      rw going (record {
        tree = is.tree;
        exact = is.exact;
        storing_are = is.storing_are;
        at = (
          is.at.0 ∙ sym noted,
          durable.0,
          durable.1,
          leaves_last old new (λ bytes. IsSections form bytes trees) (moments is.tree is.at.1) is.at.2,
        );
      })
  after_sync_body is (Err e) source' place' extent' new next body moments sync going noted =
      rw going (record {
        tree = is.tree;
        exact = is.exact;
        storing_are = is.storing_are;
        at = λ bytes left. inl (is.at.2 bytes (subst (λ (d : State). IsOutcome d.now bytes) sync left));
      })

  pub after_open_gate : (is : IsPutting N.OpenGate form trees storing source place extent old) (r : Result Unit PutFault) (source' place' extent' : ℕ) (new : State) (next : Step)
      → ((tree : Content) → IsBody form trees tree place extent old → OnOk r (IsOpened form (trees ++ tree ∷ []) (place' + extent') new))
      → ((tree : Content) → IsBody form trees tree place extent old → IsDurable old → LeavesOnly old new (IsBeforeOrAfter form trees tree))
      → MatchResult r (λ _. next ≡ N.SyncGate) (λ _. next ≡ N.Failed) → source' ≡ source
      → IsStage next form trees storing source' place' extent' new
  after_open_gate is r source' place' extent' new next opened moments going noted = by_answer r opened going
    where
      leaves : Leaves (IsBeforeOrAfter form trees is.tree) new.now
      leaves = leaves_last old new (IsBeforeOrAfter form trees is.tree) (moments is.tree is.at.1 is.at.2) (λ bytes left. inl (is.at.3 bytes left))

      by_answer : (r : Result Unit PutFault) → ((tree : Content) → IsBody form trees tree place extent old → OnOk r (IsOpened form (trees ++ tree ∷ []) (place' + extent') new))
          → MatchResult r (λ _. next ≡ N.SyncGate) (λ _. next ≡ N.Failed) → IsStage next form trees storing source' place' extent' new
      by_answer (Ok u) opened going = rw going (record {
        tree = is.tree;
        exact = is.exact;
        storing_are = is.storing_are;
        at = (is.at.0 ∙ sym noted, opened is.tree is.at.1, leaves);
      })
      by_answer (Err e) opened going = rw going (record { tree = is.tree; exact = is.exact; storing_are = is.storing_are; at = leaves })

-- an open store of which all is as it was
pub as_before : {form form' : Form} {stored stored' storing storing' acknowledged acknowledged' : List ℕ} {next next' : Step} {source source' place place' extent extent' : ℕ} {disk disk' : State}
    → form' ≡ form → stored' ≡ stored → storing' ≡ storing → acknowledged' ≡ acknowledged → next' ≡ next → source' ≡ source → place' ≡ place → extent' ≡ extent → disk' ≡ disk
    → IsArchive form stored storing acknowledged next source place extent disk → IsArchive form' stored' storing' acknowledged' next' source' place' extent' disk'
as_before a b c d e f g h i is = rw (a, b, c, d, e, f, g, h, i) is

-- if nothing was stored
pub still_archive : {form form' : Form} {stored stored' storing storing' acknowledged : List ℕ} {next next' : Step} {source source' place place' extent extent' : ℕ} {disk disk' : State}
    → (is : IsArchive form stored storing acknowledged next source place extent disk) → form' ≡ form → stored' ≡ stored
    → IsStage next' form is.trees storing' source' place' extent' disk' → IsArchive form' stored' storing' acknowledged next' source' place' extent' disk'
still_archive is same as_before stage =
    rw (same, as_before) (record { trees = is.trees; stored_are = is.stored_are; exact = is.exact; held = is.held; stage = stage })

-- the source of the put has its receipt
pub settled_archive : (form form' : Form) (stored stored' storing acknowledged acknowledged' : List ℕ) (source other place place' extent extent' : ℕ) (disk disk' : State)
    → (is : IsArchive form stored storing acknowledged N.SyncGate source place extent disk) → form' ≡ form → stored' ≡ stored ++ source ∷ []
    → IsRest form (is.trees ++ is.stage.tree ∷ []) place' disk' → acknowledged' ≡ acknowledged ++ source ∷ []
    → IsArchive form' stored' storing acknowledged' N.WriteBody other place' extent' disk'
settled_archive form form' stored stored' storing acknowledged acknowledged' source other place place' extent extent' disk disk' is same more rest told =
    let trees = is.trees ++ is.stage.tree ∷ [] in
    let of : is.stage.tree.source ≡ source = is.stage.at.0 in
    let are : stored ++ source ∷ [] ≡ sources trees =
    ap (λ (l : List ℕ). l ++ source ∷ []) is.stored_are ∙ ap (λ (n : ℕ). sources is.trees ++ n ∷ []) (sym of) ∙ sym (source_more is.trees is.stage.tree) in
    rw (same, more, told) (record {
      trees = trees;
      stored_are = are;
      exact = All-push (IsExact form) is.trees is.stage.tree is.exact is.stage.exact;
      held = All-push (Contains (stored ++ source ∷ [])) acknowledged source
          (All-weaker (Contains stored) (Contains (stored ++ source ∷ [])) (λ s has. Contains-append_left stored (source ∷ []) s has) acknowledged is.held) (Contains-push stored source);
      stage = record { rest = rest; storing_are = is.stage.storing_are ∙ sym (source_more is.trees is.stage.tree) };
    })

-- the source of the put is the one that the store has noted
pub same_source : (form : Form) (stored storing acknowledged : List ℕ) (source place extent : ℕ) (old : State) → IsArchive form stored storing acknowledged N.SyncGate source place extent old → (told : ℕ)
    → storing ≡ stored ++ told ∷ [] → told ≡ source
same_source form stored storing acknowledged source place extent old is told storing_is =
    let both : stored ++ told ∷ [] ≡ stored ++ source ∷ [] =
    sym storing_is ∙ is.stage.storing_are ∙ ap (λ (l : List ℕ). l ++ is.stage.tree.source ∷ []) (sym is.stored_are)
    ∙ ap (λ (n : ℕ). stored ++ n ∷ []) is.stage.at.0 in
    cc (append_cancel_left stored (told ∷ []) (source ∷ []) both)

-- what the last call of a put leaves
pub after_sync_gate : (form form' : Form) (stored stored' storing acknowledged acknowledged' : List ℕ) (source place extent : ℕ) (old : State)
    (is : IsArchive form stored storing acknowledged N.SyncGate source place extent old) (r : Result ReceiptView PutFault) (source' place' extent' : ℕ) (new : State) (next : Step) (told : ℕ)
    → ((trees : List Content) → IsOpened form trees (place + extent) old → OnOk r (IsRest form trees place' new))
    → MatchResult r (λ _. new ≡ after_sync old) (λ _. new ≡ old) → MatchResult r (λ _. next ≡ N.WriteBody) (λ _. next ≡ N.Failed)
    → MatchResult r (λ _. stored' ≡ stored ++ source ∷ []) (λ _. stored' ≡ stored) → form' ≡ form → storing ≡ stored ++ told ∷ []
    → MatchBool (is_ok r) (acknowledged' ≡ acknowledged ++ told ∷ []) (acknowledged' ≡ acknowledged)
    → IsArchive form' stored' storing acknowledged' next source' place' extent' new
after_sync_gate form form' stored stored' storing acknowledged acknowledged' source place extent old is (Ok receipt) source' place' extent' new next told rest sync going more same storing_is ack =
    let one : told ≡ source = same_source form stored storing acknowledged source place extent old is told storing_is in
    rw going (settled_archive form form' stored stored' storing acknowledged acknowledged' source source' place place' extent extent' old new is same
    more (rest (is.trees ++ is.stage.tree ∷ []) is.stage.at.1) (ack ∙ ap (λ (n : ℕ). acknowledged ++ n ∷ []) one))
after_sync_gate form form' stored stored' storing acknowledged acknowledged' source place extent old is (Err e) source' place' extent' new next told rest sync going more same storing_is ack =
    rw (going, same, more, ack) (record {
      trees = is.trees;
      stored_are = is.stored_are;
      exact = is.exact;
      held = is.held;
      stage = record {
        tree = is.stage.tree;
        exact = is.stage.exact;
        storing_are = is.stage.storing_are;
        at = λ bytes left. is.stage.at.2 bytes (subst (λ (d : State). IsOutcome d.now bytes) sync left);
      };
    })

-- what a call that was done makes of a section
pub body_kept : (r : Result Unit PutFault) (form : Form) (place extent place' extent' : ℕ) (old new : State)
    → ((trees : List Content) (tree : Content) → IsBody form trees tree place extent old → OnOk r (IsBody form trees tree place' extent' new × IsDurable new))
    → OnOk r ((trees : List Content) (tree : Content) → IsBody form trees tree place extent old → IsBody form trees tree place' extent' new)
body_kept (Ok u) form place extent place' extent' old new is = λ trees tree body. (is trees tree body).0
body_kept (Err e) form place extent place' extent' old new is = tt

pub body_opened : (r : Result Unit PutFault) (form : Form) (place extent place' extent' : ℕ) (old new : State)
    → ((trees : List Content) (tree : Content) → IsBody form trees tree place extent old → OnOk r (IsOpened form (trees ++ tree ∷ []) (place' + extent') new))
    → OnOk r ((trees : List Content) (tree : Content) → IsBody form trees tree place extent old → IsOpened form (trees ++ tree ∷ []) (place' + extent') new)
body_opened (Ok u) form place extent place' extent' old new is = is
body_opened (Err e) form place extent place' extent' old new is = tt

pub put_rests : (r : Result ReceiptView PutFault) (form : Form) (end place : ℕ) (old new : State)
    → ((trees : List Content) → IsOpened form trees end old → OnOk r (IsRest form trees place new))
    → OnOk r ((trees : List Content) → IsOpened form trees end old → IsRest form trees place new)
put_rests (Ok receipt) form end place old new is = is
put_rests (Err e) form end place old new is = tt

-- two views are equal if their parts are
pub same_view : {form form' : Form} {stored stored' : List ℕ} {place place' extent extent' : ℕ} {next next' : Step} {disk disk' : State} {storing storing' acknowledged acknowledged' : List ℕ}
    → form ≡ form' → stored ≡ stored' → place ≡ place' → extent ≡ extent' → next ≡ next' → disk ≡ disk' → storing ≡ storing' → acknowledged ≡ acknowledged'
    → ◌≡◌ {A = ArchiveView} (record { form = form; stored = stored; place = place; extent = extent; next = next; disk = disk; storing = storing; acknowledged = acknowledged })
    (record { form = form'; stored = stored'; place = place'; extent = extent'; next = next'; disk = disk'; storing = storing'; acknowledged = acknowledged' })
same_view a b c d e f g h = rw (a, b, c, d, e, f, g, h) refl

-- the gate was opened, or not
pub gate_case : (r : Result Unit PutFault) (fails : Bool) (a : ArchiveView) (form : Form) (stored : List ℕ) (place extent : ℕ) (next : Step) (disk : State) (storing acknowledged : List ℕ)
    → fails ≡ not (is_ok r) → Writes a.place (open_gate ∷ []) r a.disk disk → MatchResult r (λ _. next ≡ N.SyncGate) (λ _. next ≡ N.Failed)
    → form ≡ a.form → stored ≡ a.stored → place ≡ a.place → extent ≡ a.extent → storing ≡ a.storing → acknowledged ≡ a.acknowledged
    → LosesNothing a.form a.disk disk
    → OnOk r ((trees : List Content) (tree : Content) → IsBody a.form trees tree a.place a.extent a.disk → IsOpened a.form (trees ++ tree ∷ []) (place + extent) disk)
    → OpensGate fails a (record { form = form; stored = stored; place = place; extent = extent_of next extent; next = next; disk = disk; storing = storing; acknowledged = acknowledged })
gate_case (Ok u) fails a form stored place extent next disk storing acknowledged made written going e1 e2 e3 e4 e5 e6 lasts opens =
    rw (made, going) (same_view e1 e2 e3 e4 refl written e5 e6, lasts, opens)
gate_case (Err e) fails a form stored place extent next disk storing acknowledged made written going e1 e2 e3 e4 e5 e6 lasts opens =
    rw (made, going) (disk, written, same_view e1 e2 e3 refl refl refl e5 e6, lasts)

-- the section was written
pub section_made : (fails : Bool) (t : FinishedTree) (a : ArchiveView) (form : Form) (stored : List ℕ) (place extent : ℕ) (next : Step) (disk : State) (storing acknowledged : List ℕ)
    → fails ≡ false → WroteBody a.form t.tree a.place extent a.disk disk → next ≡ N.SyncBody → form ≡ a.form → stored ≡ a.stored → place ≡ a.place
    → storing ≡ a.storing ++ t.tree.source ∷ [] → acknowledged ≡ a.acknowledged → LosesNothing a.form a.disk disk
    → ((trees : List Content) → Holds a.form trees a.place a.stored a.disk → IsBody a.form trees t.tree place extent disk)
    → WritesSection fails t a (record { form = form; stored = stored; place = place; extent = extent_of next extent; next = next; disk = disk; storing = storing; acknowledged = acknowledged })
section_made fails t a form stored place extent next disk storing acknowledged made wrote going e1 e2 e3 e4 e5 lasts adds =
    rw (made, going) (extent, disk, wrote, same_view e1 e2 e3 refl refl refl e4 e5, lasts, adds)

-- its write failed
pub section_failed : (fails : Bool) (t : FinishedTree) (a : ArchiveView) (form : Form) (stored : List ℕ) (place extent : ℕ) (next : Step) (disk : State) (storing acknowledged : List ℕ)
    → fails ≡ true → BodyFailed a.form t.tree a.place a.disk disk → next ≡ N.Failed → form ≡ a.form → stored ≡ a.stored → place ≡ a.place
    → storing ≡ a.storing ++ t.tree.source ∷ [] → acknowledged ≡ a.acknowledged → LosesNothing a.form a.disk disk
    → WritesSection fails t a (record { form = form; stored = stored; place = place; extent = extent_of next extent; next = next; disk = disk; storing = storing; acknowledged = acknowledged })
section_failed fails t a form stored place extent next disk storing acknowledged made wrote going e1 e2 e3 e4 e5 lasts =
    rw (made, going) (disk, wrote, same_view e1 e2 e3 refl refl refl e4 e5, lasts)

-- the section was brought to the disk, or not
pub synced_case : (r : Result Unit PutFault) (fails : Bool) (a : ArchiveView) (form : Form) (stored : List ℕ) (place extent : ℕ) (next : Step) (disk : State) (storing acknowledged : List ℕ)
    → fails ≡ not (is_ok r) → Syncs r a.disk disk → MatchResult r (λ _. next ≡ N.OpenGate) (λ _. next ≡ N.Failed)
    → form ≡ a.form → stored ≡ a.stored → place ≡ a.place → extent ≡ a.extent → storing ≡ a.storing → acknowledged ≡ a.acknowledged
    → LosesNothing a.form a.disk disk
    → OnOk r ((trees : List Content) (tree : Content) → IsBody a.form trees tree a.place a.extent a.disk → IsBody a.form trees tree place extent disk)
    → SyncsSection fails a (record { form = form; stored = stored; place = place; extent = extent_of next extent; next = next; disk = disk; storing = storing; acknowledged = acknowledged })
synced_case (Ok u) fails a form stored place extent next disk storing acknowledged made synced going e1 e2 e3 e4 e5 e6 lasts keeps =
    rw (made, going) (same_view e1 e2 e3 e4 refl synced e5 e6, lasts, keeps)
synced_case (Err e) fails a form stored place extent next disk storing acknowledged made synced going e1 e2 e3 e4 e5 e6 lasts keeps =
    rw (made, going) (same_view e1 e2 e3 refl refl synced e5 e6, lasts)

-- the open gate was brought to the disk, or not
pub receipt_case : (r : Result ReceiptView PutFault) (fails : Bool) (source : ℕ) (a : ArchiveView) (form : Form) (stored : List ℕ) (place extent : ℕ) (next : Step) (disk : State) (storing acknowledged : List ℕ)
    → fails ≡ not (is_ok r) → MatchResult r (λ _. disk ≡ after_sync a.disk) (λ _. disk ≡ a.disk) → MatchResult r (λ _. next ≡ N.WriteBody) (λ _. next ≡ N.Failed)
    → form ≡ a.form → MatchResult r (λ _. stored ≡ a.stored ++ source ∷ []) (λ _. stored ≡ a.stored)
    → MatchResult r (λ _. place ≡ a.place + a.extent) (λ _. place ≡ a.place) → storing ≡ a.storing
    → MatchBool (is_ok r) (acknowledged ≡ a.acknowledged ++ source ∷ []) (acknowledged ≡ a.acknowledged) → LosesNothing a.form a.disk disk
    → OnOk r ((trees : List Content) → IsOpened a.form trees (a.place + a.extent) a.disk → IsRest a.form trees place disk)
    → SyncsGate fails source a (record { form = form; stored = stored; place = place; extent = extent_of next extent; next = next; disk = disk; storing = storing; acknowledged = acknowledged })
receipt_case (Ok receipt) fails source a form stored place extent next disk storing acknowledged made synced going e1 e2 e3 e4 e5 lasts rests =
    rw (made, going) (same_view e1 e2 e3 refl refl synced e4 e5, lasts, rests)
receipt_case (Err e) fails source a form stored place extent next disk storing acknowledged made synced going e1 e2 e3 e4 e5 lasts rests =
    rw (made, going) (same_view e1 e2 e3 refl refl synced e4 e5, lasts)
