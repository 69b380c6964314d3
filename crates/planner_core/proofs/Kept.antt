-- A file keeps these trees, and a board shows only kept trees, step by step.
use Rattle.std.proofs.Common.{◌≡◌, ◌≢◌, ℕ, zero, suc, ◌+◌, Bool, true, false, Option, Some, None, List, [], ◌∷◌, ◌++◌, All, refl, sym, ap, ◌∙◌, subst, arith, inl, inr}
use Rattle.std.specs.List.{AllZip, Contains}
use Rattle.std.proofs.lemmas.List.{append-nil, append_assoc}
use Rattle.std.proofs.lemmas.List.Elements.{All-cons, All-nil, All-push, All-weaker, Contains-append_left, Contains-append_right, Contains-push}
use Rattle.disk_model.specs.Crash.{filled_bytes}
use Rattle.disk_model.specs.Disk.{State}
use Rattle.disk_model.specs.Image.{Image, IsOutcome}
use Rattle.disk_model.specs.Laws.{LeavesTheReads, MakesOutcomes}
use Rattle.disk_model.specs.Moments.{Leaves}
use Rattle.disk_model.proofs.Moments.{leaves_last, only_settled}
use Rattle.pattern_tree.specs.Content.{Content}
use Rattle.pattern_tree.specs.Finished.{FinishedTree}
use Rattle.section_store.specs.Lasting.{BeginsWith, IsTrusted, LosesNothing}
use Rattle.section_store.specs.Laws.{StandsForOne}
use Rattle.section_store.specs.Sections.{Form, IsSections, sources}
use Rattle.section_store.specs.Store.{IsBody, IsOpened, IsRest}
use Rattle.section_store.specs.declared.step.Step.{Step as DiskCall}
use Rattle.section_store.specs.declared.step.Step.TheVariants as N
use Rattle.work_ledger.specs.declared.entry.Call.{Call}
use Rattle.work_ledger.specs.declared.entry.Call.TheVariants as C
use Rattle.work_ledger.specs.declared.entry.Reply.{Reply as LedgerReply}
use Rattle.work_ledger.specs.declared.entry.Outcome.{Outcome}
use Rattle.work_ledger.specs.declared.entry.Outcome.TheVariants.{Keep, Discard}
use Rattle.planner_core.specs.Calls.{WritesSection, SyncsSection, OpensGate, SyncsGate}
use Rattle.planner_core.specs.Kept.{HasFile, IsShownOf, IsHeldOf, IsHandOf, tree_in, ShowsOnly, ShowsKept, Acknowledges, KeptAfter, ShowsKeptAlong}
use Rattle.planner_core.specs.Run.{Run}
use Rattle.planner_core.specs.Safety.{IsSafePhase}
use Rattle.planner_core.specs.Steps.{Shows, Calls, HandsIn, Takes, MaySettle, Settles, Acks, WritesBody, MakesCall, GivesReceipt, Publishes, Asks, Begins, Crashes, Recovers, Case, StepsTo, reply_to}
use Rattle.planner_core.specs.Views.{Basis, HandView, ArchiveView, RunningView, StoppedView, Phase, disk_in, runs, stopped}
use Rattle.planner_core.specs.declared.step.Reply.{Reply}
use Rattle.planner_core.specs.declared.step.Reply.TheVariants as replies
use Rattle.planner_core.specs.declared.step.Step.{Step}
use Rattle.planner_core.specs.declared.step.Step.TheVariants as E
use Rattle.planner_core.specs.declared.hand.Put.{Put}
use Rattle.planner_core.specs.declared.hand.Put.TheVariants as P
use Rattle.planner_core.proofs.Files.{rest_leaves, source_more}
use Rattle.planner_core.proofs.Hands.{Went, section_begun, section_synced, gate_opened}
use Rattle.planner_core.proofs.Lasting.{IsFor, step_lasts}

-- each outcome begins with these trees, by all that they have
abbrev AreLeft : Form → List Content → State → Type 0
AreLeft form kept disk = Leaves (BeginsWith form kept) disk.now

-- what lasts is left, on a disk that is trusted
left_on : (form : Form) (kept : List Content) (old new : State) → LosesNothing form old new → IsTrusted form new → AreLeft form kept old → AreLeft form kept new
left_on form [] old new loses trusted left = λ bytes there. let is = trusted bytes there in record { more = is.trees; stands = is.stands }
left_on form (tree ∷ later) old new loses trusted left =
    leaves_last old new (BeginsWith form (tree ∷ later))
    (record {
      since = loses.since;
      are = loses.are;
      each = λ i image inside. (loses.each zero (suc i) image (omega arith) (omega (arith, inside))).trees tree later left;
    })
    left

-- a file at rest begins with its trees
rest_left : (form : Form) (trees : List Content) (place : ℕ) (disk : State) → IsRest form trees place disk → AreLeft form trees disk
rest_left form trees place disk rest = λ bytes there. record {
  more = [];
  stands = inr (subst (λ (l : List Content). IsSections form bytes l) (sym (append-nil trees)) (rest_leaves form trees place disk rest bytes there));
}

-- a step that keeps some trees, and shows only such
abbrev Goes : Basis → Phase → Reply → List Content → Phase → Type 0
Goes basis old reply kept new = (after : List Content) × KeptAfter basis.form old reply kept after × ShowsKept basis.form after new

-- a case that keeps the same trees
abbrev pub Stays : (RunningView → Reply → RunningView → Type 0) → Type 0
Stays Does = (u m : RunningView) (reply : Reply) (kept : List Content) → ShowsOnly kept u → Does u reply m → Acknowledges u reply kept kept × ShowsOnly kept m

-- what the file of an open store has
abbrev FileOf : List Content → Option FinishedTree → ArchiveView → Type 0
FileOf kept tree a = HasFile a.next a.form kept tree a.place a.extent a.disk

-- if no put is under way, the hand is no matter
file_at_rest : (kept : List Content) (tree other : Option FinishedTree) (a : ArchiveView) → a.next ≡ N.WriteBody → FileOf kept tree a → FileOf kept other a
file_at_rest kept tree other a rest file =
    let at : IsRest a.form kept a.place a.disk = subst (λ (n : DiskCall). HasFile n a.form kept tree a.place a.extent a.disk) rest file in
    subst (λ (n : DiskCall). HasFile n a.form kept other a.place a.extent a.disk) (sym rest) at

calls_go : (call : Call) → Stays (Calls call)
calls_go call u m reply kept s c = (rw c.2 refl, rw c.5 (record { stored = s.stored; board = s.board; hand = s.hand; file = s.file }))

hand_in_goes : (seat : ℕ) (t : FinishedTree) → Stays (HandsIn seat t)
hand_in_goes seat t u m reply kept s c = (rw c.2 refl, rw c.4 (record { stored = s.stored; board = s.board; hand = s.hand; file = s.file }))

-- an empty hand
empty_rest : (kept : List Content) (next : DiskCall) (o : Option HandView) → IsHandOf kept next o → o ≡ None → next ≡ N.WriteBody
empty_rest kept next o is none = subst (IsHandOf kept next) none is

take_goes : Stays Takes
take_goes u m reply kept s c =
    let rest = empty_rest kept u.archive.next u.hand s.hand c.3 in (
      rw c.4 refl,
      rw c.7 (record {
        stored = s.stored;
        board = s.board;
        hand = elim c.6 [ inl g ↦ rw g.6 (rest, (g.0, refl, refl)) | inr g ↦ rw g.2 rest ];
        file = file_at_rest kept (tree_in u.hand) (tree_in c.2) u.archive rest s.file;
      }),
    )

settles_at_rest : (kept : List Content) (next : DiskCall) (put : Put) (source : ℕ) (tree : Option FinishedTree) (outcome : Outcome) → IsHeldOf kept next put source tree
    → MaySettle outcome put → next ≡ N.WriteBody
settles_at_rest kept next put source tree Keep held may = (subst (λ (p : Put). IsHeldOf kept next p source tree) may held).0
settles_at_rest kept next put source tree Discard held may = (subst (λ (p : Put). IsHeldOf kept next p source tree) may held).0

settled : (kept : List Content) (a : ArchiveView) (o : Option HandView) (s : ℕ) (outcome : Outcome) (k : LedgerReply) (after : Option HandView)
    → IsHandOf kept a.next o → FileOf kept (tree_in o) a → Settles o s outcome k after → IsHandOf kept a.next after × FileOf kept (tree_in after) a
settled kept a None s outcome k after is file c = rw c.1 (is, file)
settled kept a (Some h) s outcome k after is file (inl c) = rw c.2 (is, file)
settled kept a (Some h) s outcome k after is file (inr c) =
    let rest = settles_at_rest kept a.next h.put h.source h.tree outcome is c.2 in
    rw c.3 (rest, file_at_rest kept h.tree None a rest file)

ack_goes : (x : ℕ) (outcome : Outcome) → Stays (Acks x outcome)
ack_goes x outcome u m reply kept s c =
    let both = settled kept u.archive u.hand x outcome c.0 c.2 s.hand s.file c.6 in
    (rw c.3 refl, rw c.7 (record { stored = s.stored; board = s.board; hand = both.0; file = both.1 }))

-- what is in hand
held_of : (kept : List Content) (next : DiskCall) (o : Option HandView) (h : HandView) → IsHandOf kept next o → o ≡ Some h → IsHeldOf kept next h.put h.source h.tree
held_of kept next o h is some = subst (IsHandOf kept next) some is

file_of : (kept : List Content) (a : ArchiveView) (o : Option HandView) (h : HandView) → FileOf kept (tree_in o) a → o ≡ Some h → FileOf kept h.tree a
file_of kept a o h file some = subst (λ (x : Option HandView). FileOf kept (tree_in x) a) some file

made_reply : (u : RunningView) (kept : List Content) (fails : Bool) → Acknowledges u (reply_to fails) kept kept
made_reply u kept true = refl
made_reply u kept false = refl

-- the section of the tree in hand is written
body_file : (fails : Bool) (t : FinishedTree) (kept : List Content) (tree : Option FinishedTree) (a b : ArchiveView) → WritesSection fails t a b → a.next ≡ N.WriteBody
    → a.stored ≡ sources kept → tree ≡ Some t → FileOf kept tree a → FileOf kept tree b
body_file true t kept tree a b (disk, failed, is, lasts) rest stored same file = rw is tt
body_file false t kept tree a b (size, disk, wrote, is, lasts, adds) rest stored same file =
    let at : IsRest a.form kept a.place a.disk = subst (λ (n : DiskCall). HasFile n a.form kept tree a.place a.extent a.disk) rest file in
    let body : IsBody a.form kept t.tree b.place b.extent b.disk = adds kept (record { rest = at; stored_are = stored }) in
    rw is (t, same, rw is at body)

body_goes : (fails : Bool) → Stays (WritesBody fails)
body_goes fails u m reply kept s c =
    let h = c.0 in
    let held = held_of kept u.archive.next u.hand h s.hand c.3 in
    let waiting : IsHeldOf kept u.archive.next P.Waiting h.source h.tree = subst (λ (p : Put). IsHeldOf kept u.archive.next p h.source h.tree) c.4.1 held in
    let file = file_of kept u.archive u.hand h s.file c.3 in (
      rw c.6 (made_reply u kept fails),
      rw c.7 (record {
        stored = (section_begun fails c.1 u.archive c.2 c.5).0.stored ∙ s.stored;
        board = s.board;
        hand = waiting.1;
        file = body_file fails c.1 kept h.tree u.archive c.2 c.5 c.4.2 s.stored c.4.0 file;
      }),
    )

-- the tree in hand, whose put is under way
held_on : (kept : List Content) (next later : DiskCall) (put : Put) (source : ℕ) (tree : Option FinishedTree) → next ≢ N.WriteBody → IsHeldOf kept next put source tree
    → IsHeldOf kept later put source tree
held_on kept next later P.Waiting source tree busy is = absurd (busy is.0)
held_on kept next later P.Begun source tree busy is = is
held_on kept next later P.Done source tree busy is = absurd (busy is.0)

held_tree : (kept : List Content) (next : DiskCall) (put : Put) (source : ℕ) (tree : Option FinishedTree) → next ≢ N.WriteBody → IsHeldOf kept next put source tree
    → (t : FinishedTree) × (tree ≡ Some t) × (t.tree.source ≡ source)
held_tree kept next P.Waiting source tree busy is = absurd (busy is.0)
held_tree kept next P.Begun source tree busy is = is
held_tree kept next P.Done source tree busy is = absurd (busy is.0)

-- the file goes on by a call
abbrev FileGoesOn : DiskCall → (ArchiveView → ArchiveView → Type 0) → Type 0
FileGoesOn call Changes = (kept : List Content) (tree : Option FinishedTree) (a b : ArchiveView) → Changes a b → a.next ≡ call → FileOf kept tree a → FileOf kept tree b

sync_file : (fails : Bool) → FileGoesOn N.SyncBody (SyncsSection fails)
sync_file true kept tree a b c next file = rw c.0 tt
sync_file false kept tree a b c next file =
    let at = subst (λ (n : DiskCall). HasFile n a.form kept tree a.place a.extent a.disk) next file in
    let body : IsBody a.form kept at.0.tree b.place b.extent b.disk = c.2 kept at.0.tree at.2 in
    rw c.0 (at.0, at.1, rw c.0 at body)

open_file : (fails : Bool) → FileGoesOn N.OpenGate (OpensGate fails)
open_file true kept tree a b (disk, failed, is, lasts) next file = rw is tt
open_file false kept tree a b c next file =
    let at = subst (λ (n : DiskCall). HasFile n a.form kept tree a.place a.extent a.disk) next file in
    let opened : IsOpened a.form (kept ++ at.0.tree ∷ []) (b.place + b.extent) b.disk = c.2 kept at.0.tree at.2 in
    rw c.0 (at.0, at.1, rw c.0 at opened)

call_goes : (call : DiskCall) (Changes : ArchiveView → ArchiveView → Type 0) (fails : Bool) → call ≢ N.WriteBody → ((a b : ArchiveView) → Changes a b → Went a b)
    → FileGoesOn call Changes → Stays (MakesCall call Changes fails)
call_goes call Changes fails not went goes u m reply kept s c =
    let h = c.0 in
    let busy : u.archive.next ≢ N.WriteBody = λ e. not (sym c.3 ∙ e) in
    let held = held_of kept u.archive.next u.hand h s.hand c.2 in
    let on : IsHandOf kept c.1.next (Some h) = held_on kept u.archive.next c.1.next h.put h.source h.tree busy held in (
      rw c.5 (made_reply u kept fails),
      rw c.6 (record {
        stored = (went u.archive c.1 c.4).on.stored ∙ s.stored;
        board = s.board;
        hand = subst (IsHandOf kept c.1.next) (sym c.2) on;
        file = goes kept (tree_in u.hand) u.archive c.1 c.4 c.3 s.file;
      }),
    )

-- the last call, which fails
refused_goes : Stays (GivesReceipt true)
refused_goes u m reply kept s c =
    let h = c.0 in
    let busy : u.archive.next ≢ N.WriteBody = λ e. cc (c.3, e) in
    let held = held_of kept u.archive.next u.hand h s.hand c.2 in (
      rw c.5 refl,
      rw (c.6, c.4.0) (record {
        stored = s.stored;
        board = s.board;
        hand = held_on kept u.archive.next N.Failed h.put h.source h.tree busy held;
        file = tt;
      }),
    )

-- and which is done: the tree in hand is kept too
shown_more : (u : RunningView) (kept : List Content) (t : FinishedTree) (h : HandView) (a : ArchiveView) → ShowsOnly kept u → SyncsGate false h.source u.archive a
    → u.archive.stored ++ h.source ∷ [] ≡ sources (kept ++ t.tree ∷ []) → IsRest u.archive.form (kept ++ t.tree ∷ []) a.place a.disk → h.tree ≡ Some t
    → ShowsOnly (kept ++ t.tree ∷ []) (record u { hand = Some (record h { put = P.Done }); archive = a })
shown_more u kept t h a s c stored rest is =
    let more : List Content = kept ++ t.tree ∷ [] in
    rw c.0 (record {
      stored = stored;
      board = All-weaker (IsShownOf kept) (IsShownOf more)
          (λ shown of. record { tree = of.tree; has = Contains-append_left kept (t.tree ∷ []) of.tree of.has; shows = of.shows }) u.board s.board;
      hand = (
        refl,
        λ other e.
            let same : t ≡ other = cc (is, e) in
            subst (λ (x : FinishedTree). Contains more x.tree) same (Contains-push kept t.tree),
      );
      file = rw c.0 at rest;
    })

receipt_goes : (basis : Basis) (u m : RunningView) (reply : Reply) (kept : List Content) → u.archive.form ≡ basis.form → ShowsOnly kept u → GivesReceipt false u reply m
    → Goes basis (runs u) reply kept (runs m)
receipt_goes basis u m reply kept own s c =
    let h = c.0 in
    let a = c.1 in
    let busy : u.archive.next ≢ N.WriteBody = λ e. cc (c.3, e) in
    let held = held_tree kept u.archive.next h.put h.source h.tree busy (held_of kept u.archive.next u.hand h s.hand c.2) in
    let t = held.0 in
    let more : List Content = kept ++ t.tree ∷ [] in
    let stored : u.archive.stored ++ h.source ∷ [] ≡ sources more =
    ap (λ (l : List ℕ). l ++ h.source ∷ []) s.stored ∙ ap (λ (n : ℕ). sources kept ++ n ∷ []) (sym held.2) ∙ sym (source_more kept t.tree) in
    let at = subst (λ (n : DiskCall). HasFile n u.archive.form kept h.tree u.archive.place u.archive.extent u.archive.disk) c.3
    (file_of kept u.archive u.hand h s.file c.2) in
    let same : at.0 ≡ t = cc (at.1, held.1) in
    let opened : IsOpened u.archive.form more (u.archive.place + u.archive.extent) u.archive.disk =
    subst (λ (x : FinishedTree). IsOpened u.archive.form (kept ++ x.tree ∷ []) (u.archive.place + u.archive.extent) u.archive.disk) same at.2 in
    let rest : IsRest u.archive.form more a.place a.disk = c.4.2 more opened in (
      more,
      rw c.5 (h, t, c.2, held.1, held.2, refl),
      rw c.6 (record {
        left = rest_left basis.form more a.place a.disk (subst (λ (f : Form). IsRest f more a.place a.disk) own rest);
        only = shown_more u kept t h a s c.4 stored rest held.1;
      }),
    )

publish_goes : Stays Publishes
publish_goes u m reply kept s c =
    let h = c.0 in
    let held = held_of kept u.archive.next u.hand h s.hand c.3 in
    let done : IsHeldOf kept u.archive.next P.Done h.source h.tree = subst (λ (p : Put). IsHeldOf kept u.archive.next p h.source h.tree) c.4 held in
    let shown : IsShownOf kept c.2 = record { tree = c.1.tree; has = done.1 c.1 c.5; shows = c.7 } in
    let emptied : IsHeldOf kept u.archive.next P.Done h.source None = (done.0, λ t none. absurd (cc none)) in (
      rw c.6 refl,
      rw c.8 (record {
        stored = s.stored;
        board = All-push (IsShownOf kept) u.board c.2 s.board shown;
        hand = subst (λ (p : Put). IsHeldOf kept u.archive.next p h.source None) (sym c.4) emptied;
        file = file_at_rest kept (tree_in u.hand) None u.archive done.0 s.file;
      }),
    )

ask_goes : (basis : Basis) (from to depart : ℕ) → Stays (Asks basis from to depart)
ask_goes basis from to depart u m reply kept s c = (elim c.4 [ inl none ↦ rw none.1 refl | inr one ↦ rw one.5 refl ], rw c.3 s)

-- a step of what runs
module _ (basis : Basis) (u m : RunningView) (reply : Reply) (kept : List Content) (own : u.archive.form ≡ basis.form) (loses : LosesNothing basis.form u.archive.disk m.archive.disk)
    (trusted : IsTrusted basis.form m.archive.disk) (s : ShowsKept basis.form kept (runs u)) where
  same_kept : Acknowledges u reply kept kept × ShowsOnly kept m → Goes basis (runs u) reply kept (runs m)
  same_kept p = (kept, p.0, record { left = left_on basis.form kept u.archive.disk m.archive.disk loses trusted s.left; only = p.1 })

  running_goes : (event : Step) → Case basis event (runs u) reply (runs m) → Goes basis (runs u) reply kept (runs m)
  running_goes (E.Claim seat) c = same_kept (calls_go (C.Claim seat) u m reply kept s.only c)
  running_goes (E.HandIn seat t) c = same_kept (hand_in_goes seat t u m reply kept s.only c)
  running_goes (E.GiveBack seat x) c = same_kept (calls_go (C.GiveBack seat x) u m reply kept s.only c)
  running_goes E.Take c = same_kept (take_goes u m reply kept s.only c)
  running_goes (E.Ack x outcome) c = same_kept (ack_goes x outcome u m reply kept s.only c)
  running_goes E.Stop c = same_kept (calls_go C.Stop u m reply kept s.only c)
  running_goes (E.WriteBody fails) c = same_kept (body_goes fails u m reply kept s.only c)
  running_goes (E.SyncBody fails) c =
      same_kept (call_goes N.SyncBody (SyncsSection fails) fails (λ e. cc) (section_synced fails) (sync_file fails) u m reply kept s.only c)
  running_goes (E.OpenGate fails) c =
      same_kept (call_goes N.OpenGate (OpensGate fails) fails (λ e. cc) (gate_opened fails) (open_file fails) u m reply kept s.only c)
  running_goes (E.SyncGate true) c = same_kept (refused_goes u m reply kept s.only c)
  running_goes (E.SyncGate false) c = receipt_goes basis u m reply kept own s.only c
  running_goes E.Publish c = same_kept (publish_goes u m reply kept s.only c)
  running_goes (E.Ask from to depart) c = same_kept (ask_goes basis from to depart u m reply kept s.only c)
  running_goes (E.Crash len fill) c = absurd c
  running_goes E.Restart c = absurd c

-- what shows the trees shows only such
zip_shown : (before trees board : List Content) → AllZip Shows trees board → All (IsShownOf (before ++ trees)) board
zip_shown before [] [] zip = All-nil (IsShownOf (before ++ []))
zip_shown before [] (shown ∷ board) zip = absurd zip
zip_shown before (tree ∷ trees) [] zip = absurd zip
zip_shown before (tree ∷ trees) (shown ∷ board) zip =
    All-cons (IsShownOf (before ++ tree ∷ trees)) shown board
    (record { tree = tree; has = Contains-append_right before (tree ∷ trees) tree (0, omega arith, refl); shows = zip.0 })
    (subst (λ (l : List Content). All (IsShownOf l) board) (append_assoc before (tree ∷ []) trees) (zip_shown (before ++ tree ∷ []) trees board zip.1))

pub begins_shown : (basis : Basis) (trees : List Content) (u : RunningView) → Begins basis trees u → ShowsKept basis.form trees (runs u)
begins_shown basis trees u is = record {
  left = rest_left basis.form trees u.archive.place u.archive.disk is.rest;
  only = record {
    stored = is.stored;
    board = zip_shown [] trees u.board is.board;
    hand = rw is.hand is.next;
    file = rw (is.next, is.form) is.rest;
  };
}

-- a crash leaves an outcome
crash_goes : MakesOutcomes → (basis : Basis) (len : ℕ) (fill : List ℕ) (u : RunningView) (reply : Reply) (d : StoppedView) (kept : List Content) → ShowsKept basis.form kept (runs u)
    → Crashes len fill u reply d → Goes basis (runs u) reply kept (stopped d)
crash_goes law basis len fill u reply d kept s c =
    let bytes = filled_bytes u.archive.disk.now 0 len fill in
    let outcome : IsOutcome u.archive.disk.now bytes = law u.archive.disk.now len fill c.can in (
      kept,
      rw c.reply_is refl,
      rw c.left (record {
        left = λ other there. subst (BeginsWith basis.form kept) (sym (only_settled bytes other there)) (s.left bytes outcome);
        only = refl;
      }),
    )

-- a recovery gives the kept trees first
restart_goes : StandsForOne → LeavesTheReads → (basis : Basis) (d : StoppedView) (reply : Reply) (m : RunningView) (kept : List Content) → ShowsKept basis.form kept (stopped d)
    → Recovers basis d reply m → Goes basis (stopped d) reply kept (runs m)
restart_goes one reads basis d reply m kept s c =
    let outcome : IsOutcome d.disk.now d.disk.read = subst (λ (i : Image). IsOutcome i d.disk.read) (sym s.only) (reads d.disk.read).0 in
    let is = s.left d.disk.read outcome in
    let same : kept ++ is.more ≡ c.trees = one basis.form d.disk.read (kept ++ is.more) c.trees is.stands c.stands in
    (c.trees, rw c.reply_is (c.stands, (is.more, same)), begins_shown basis c.trees m c.begins)

trusted_in : (form : Form) (phase : Phase) → IsSafePhase form phase → IsTrusted form (disk_in phase)
trusted_in form (runs u) safe = safe.trusted
trusted_in form (stopped d) safe = safe.trusted

case_goes : StandsForOne → MakesOutcomes → LeavesTheReads → (basis : Basis) (event : Step) (old new : Phase) (reply : Reply) (kept : List Content) → IsFor basis.form old
    → LosesNothing basis.form (disk_in old) (disk_in new) → IsTrusted basis.form (disk_in new) → ShowsKept basis.form kept old → Case basis event old reply new
    → Goes basis old reply kept new
case_goes one law reads basis event (runs u) (runs m) reply kept own loses trusted s c = running_goes basis u m reply kept own loses trusted s event c
case_goes one law reads basis (E.Crash len fill) (runs u) (stopped d) reply kept own loses trusted s c = crash_goes law basis len fill.items u reply d kept s c
case_goes one law reads basis (E.Claim seat) (runs u) (stopped d) reply kept own loses trusted s c = absurd c
case_goes one law reads basis (E.HandIn seat t) (runs u) (stopped d) reply kept own loses trusted s c = absurd c
case_goes one law reads basis (E.GiveBack seat x) (runs u) (stopped d) reply kept own loses trusted s c = absurd c
case_goes one law reads basis E.Take (runs u) (stopped d) reply kept own loses trusted s c = absurd c
case_goes one law reads basis (E.Ack x outcome) (runs u) (stopped d) reply kept own loses trusted s c = absurd c
case_goes one law reads basis E.Stop (runs u) (stopped d) reply kept own loses trusted s c = absurd c
case_goes one law reads basis (E.WriteBody fails) (runs u) (stopped d) reply kept own loses trusted s c = absurd c
case_goes one law reads basis (E.SyncBody fails) (runs u) (stopped d) reply kept own loses trusted s c = absurd c
case_goes one law reads basis (E.OpenGate fails) (runs u) (stopped d) reply kept own loses trusted s c = absurd c
case_goes one law reads basis (E.SyncGate fails) (runs u) (stopped d) reply kept own loses trusted s c = absurd c
case_goes one law reads basis E.Publish (runs u) (stopped d) reply kept own loses trusted s c = absurd c
case_goes one law reads basis (E.Ask from to depart) (runs u) (stopped d) reply kept own loses trusted s c = absurd c
case_goes one law reads basis E.Restart (runs u) (stopped d) reply kept own loses trusted s c = absurd c
case_goes one law reads basis E.Restart (stopped d) (runs m) reply kept own loses trusted s c = restart_goes one reads basis d reply m kept s c
case_goes one law reads basis event (stopped d) new reply kept own loses trusted s c = absurd c

idle_goes : (basis : Basis) (old new : Phase) (reply : Reply) (kept : List Content) → ShowsKept basis.form kept old → reply ≡ replies.Idle → new ≡ old → Goes basis old reply kept new
idle_goes basis (runs u) new reply kept s idle same = (kept, rw idle refl, rw same s)
idle_goes basis (stopped d) new reply kept s idle same = (kept, rw idle refl, rw same s)

-- each step goes on with kept trees
pub step_goes : StandsForOne → MakesOutcomes → LeavesTheReads → (basis : Basis) (event : Step) (old new : Phase) (reply : Reply) (kept : List Content) → IsFor basis.form old
    → ShowsKept basis.form kept old → StepsTo basis event old reply new → IsSafePhase basis.form new → Goes basis old reply kept new
step_goes one law reads basis event old new reply kept own s (inl c) safe =
    case_goes one law reads basis event old new reply kept own (step_lasts law basis event old new reply own (inl c)).0 (trusted_in basis.form new safe) s c
step_goes one law reads basis event old new reply kept own s (inr i) safe = idle_goes basis old new reply kept s i.0 i.1

-- so a whole run keeps these trees, and shows only such
pub run_shows : StandsForOne → MakesOutcomes → LeavesTheReads → (basis : Basis) (kept : List Content) (old new : Phase) (events : List Step) (replies : List Reply) → IsFor basis.form old
    → ShowsKept basis.form kept old → Run basis old events replies new
    → (end : List Content) × ShowsKeptAlong basis kept old events replies end new × ShowsKept basis.form end new
run_shows one law reads basis kept old new [] [] own s r = (kept, (s, refl, r), rw r s)
run_shows one law reads basis kept old new [] (reply ∷ replies) own s r = absurd r
run_shows one law reads basis kept old new (event ∷ events) [] own s r = absurd r
run_shows one law reads basis kept old new (event ∷ events) (reply ∷ replies) own s r =
    let goes = step_goes one law reads basis event old r.0 reply kept own s r.1 r.2.safe in
    let next = (step_lasts law basis event old r.0 reply own r.1).1 in
    let rest = run_shows one law reads basis goes.0 r.0 new events replies next goes.2 r.4 in
    (rest.0, (r.0, goes.0, s, r.1, goes.1, rest.1), rest.2)
