-- What comes of replying to the questions of an input, while trees are built.
use Rattle.std.specs.Prelude.{◌≡◌, ◌↔◌, ◌⊎◌, ℕ, Bool, true, false, List, [], ◌++◌, MatchBool, Option, None, Some, Result, Ok, Err, IfErr, MatchResult}
use Rattle.std.specs.Io.KnownBytes.{Keeps}
use Rattle.answer_lines.specs.Reports.{built_status as of_built, count_line}
use Rattle.answer_lines.specs.declared.report.Built.{Built}
use Rattle.option_words.specs.declared.format.Style.{Style}
use Rattle.option_words.specs.declared.format.Style.TheVariants as styles
use Rattle.feed_basis.specs.Basis.{BasisData}
use Rattle.printing.specs.Faults.{IsFaultSaid, IsFaultText}
use Rattle.printing.specs.Finished.{IsFaulted, StreamsData}
use Rattle.printing.specs.declared.fault.Voice.{Voice}
use Rattle.printing.specs.declared.finishing.TheConstants.{NO_MEMORY, UNWRITTEN}
use Rattle.faults.specs.Faults.{status_of}
use Rattle.faults.specs.declared.fault.Fault.{Fault}
use Rattle.faults.specs.declared.fault.Fault.TheVariants as faults
use Rattle.section_store.specs.Beginnings.{CanBegin}
use Rattle.section_store.specs.Sections.{Form, IsFresh}
use Rattle.reply_lines.specs.Tellings.{Telling as ReplyTelling}
use Rattle.serving.specs.declared.serving.End.{End}
use Rattle.serving.specs.declared.serving.End.TheVariants as ends
use Rattle.store_building.specs.Replies.{IsServing}
use Rattle.store_terms.specs.Stores.{IsUnopened, OnlyFailing, form_over}
use Rattle.store_building.specs.declared.served.Served.{Served}
use Rattle.streams.specs.Streams.{IsSaid, StreamData}
use Rattle.printing.specs.Tellings.{Telling, tells_legs, tells_reply}
use Rattle.store_files.specs.Files.{IsKeptOut, IsNoticed}
use Rattle.store_files.specs.Disks.{DiskView}
use Rattle.store_commands.specs.declared.served.TheConstants.{UNREAD}

-- the status of what came of a build
abbrev pub built_status : Result Built Fault → ℕ
built_status (Ok built) = of_built built
built_status (Err fault) = status_of fault

-- How replies ended: standard output refused a write, memory ran out before the first line, or else as the build beside them did. That
-- standard output refused is an end only if it refused a write.
abbrev pub status_after : End → Bool → ℕ → ℕ
status_after ends.AllRead refused built = built
status_after ends.Unread refused built = built
status_after ends.OutputRefused true built = 8
status_after ends.OutputRefused false built = built
status_after ends.NoMemory refused built = 7

abbrev pub end_text : End → Bool → List ℕ
end_text ends.AllRead refused = []
end_text ends.Unread refused = UNREAD.now
end_text ends.OutputRefused true = UNWRITTEN.now
end_text ends.OutputRefused false = []
end_text ends.NoMemory refused = NO_MEMORY.now

-- how many trees the file has, or why the build came to an early end
abbrev pub IsBuiltText : Telling → Voice → Result Built Fault → List ℕ → Type 0
IsBuiltText t voice (Ok built) text = text ≡ count_line built.stored built.of
IsBuiltText t voice (Err fault) text = IsFaultText t voice fault text

-- replies and the build came to an end, and standard error says how
pub record IsEndSaid (t : Telling) (voice : Voice) (served : Served) (refused : Bool) (old new : StreamData) (status : ℕ) : Type 0 where
  pub status_is : status ≡ status_after served.end refused (built_status served.built)
  pub built : List ℕ
  pub built_is : IsBuiltText t voice served.built built
  pub said : IsSaid (built ++ end_text served.end refused) old new

-- or the store wasn't opened, and it says why
abbrev pub IsServingSaid : Telling → Voice → Result Served Fault → Bool → StreamData → StreamData → ℕ → Type 0
IsServingSaid t voice (Ok served) refused old new status = IsEndSaid t voice served refused old new status
IsServingSaid t voice (Err fault) refused old new status = (status ≡ status_of fault) × IsFaultSaid t voice fault old new

-- there was no file in which the store may be opened
pub record IsShutOut {D : Type 0} (v : DiskView D) (t : Telling) (form : Form) (path : List ℕ) (voice : Voice) (old new : StreamsData) (status : ℕ)
    (disk : Option D) : Type 0 where
  pub fault : Fault
  pub kept_out : IsKeptOut v form path fault disk
  pub faulted : IsFaulted t voice fault old new status

-- the replies are printed so, with rides and walks if they are wanted, to the lines of this input
pub record Dialogue : Type 1 where
  pub tells : ReplyTelling
  pub wanted : Bool
  pub input : Option (List ℕ)

abbrev pub dialogue_of : ReplyTelling → Bool → Option (List ℕ) → Dialogue
dialogue_of tells wanted input = record { tells = tells; wanted = wanted; input = input }

-- The file was opened, and the input replied to over its disk while its missing trees were built; or the store wasn't opened there. A fault
-- that says that a call of the disk failed comes only if one did.
pub record IsServedOver {D : Type 0} (v : DiskView D) (t : Telling) (basis : BasisData) (k : ℕ) (path : List ℕ) (voice : Voice) (dialogue : Dialogue)
    (old new : StreamsData) (status : ℕ) (disk : Option D) : Type 0 where
  pub first : D
  pub last : D
  pub is_new : Bool
  pub opened : v.opens path (Ok first)
  pub may : v.honest first → MatchBool is_new (CanBegin (form_over basis k) (v.state first).read) (¬ IsFresh (v.state first).read)
  pub given_back : disk ≡ Some last
  pub honest : v.honest first ↔ v.honest last
  pub noticed_err : StreamData
  pub noticed : IsNoticed path is_new old.err noticed_err
  pub served : Result Served Fault
  pub right : v.honest first → MatchResult served
      (IsServing basis k dialogue.tells dialogue.wanted (v.state first) (v.state last) dialogue.input old.out.contents new.out.contents)
      (IsUnopened (form_over basis k) (v.state first) (v.state last))
  pub kept : IfErr served (λ _. Keeps old.out.contents new.out.contents)
  pub device : MatchResult served (λ s. IfErr s.built (OnlyFailing (v.failures first) (v.failures last)))
      (OnlyFailing (v.failures first) (v.failures last))
  pub said : IsServingSaid t voice served new.out.has_refused noticed_err new.err status

abbrev pub IsServedBy : {D : Type 0} → DiskView D → Telling → BasisData → ℕ → List ℕ → Voice → Dialogue → StreamsData → StreamsData → ℕ → Option D → Type 0
IsServedBy v t basis k path voice dialogue old new status disk =
    IsShutOut v t (form_over basis k) path voice old new status disk ⊎ IsServedOver v t basis k path voice dialogue old new status disk

-- memory ran out before the file of the store was opened, which only what a format looks up can bring about
abbrev pub IsNoLookup : {D : Type 0} → Telling → Style → Voice → StreamsData → StreamsData → ℕ → Option D → Type 0
IsNoLookup t styles.Lines voice old new status disk = ⊥
IsNoLookup t (styles.Told format) voice old new status disk = (disk ≡ None) × IsFaulted t voice faults.Memory old new status

-- questions of an input, over the file of that path, with the replies in a style
abbrev pub IsServed : {D : Type 0} → DiskView D → Telling → Option (List ℕ) → Style → Voice → BasisData → ℕ → List ℕ → StreamsData → StreamsData → ℕ → Option D → Type 0
IsServed v t input style voice basis k path old new status disk =
    IsNoLookup t style voice old new status disk
    ⊎ IsServedBy v t basis k path voice
    (dialogue_of (λ question reply text. tells_reply t style basis question reply text) (tells_legs style false) input)
    old new status disk
