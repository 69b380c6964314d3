-- Which texts may be made in a format.
use Rattle.std.specs.Prelude.{◌≡◌, ◌⊎◌, ℕ, Bool, true, List}
use Rattle.answer_lines.specs.declared.answer.Answer.{Answer}
use Rattle.answer_lines.specs.declared.report.Report.{Report}
use Rattle.option_words.specs.declared.format.Format.{Format}
use Rattle.option_words.specs.declared.format.Style.{Style}
use Rattle.option_words.specs.declared.format.Style.TheVariants as styles
use Rattle.option_words.specs.declared.stop_search.StopSearch.{StopSearch}
use Rattle.connection_lines.specs.declared.connections.Connections.{Connections}
use Rattle.feed_basis.specs.Basis.{BasisData}
use Rattle.feed_report.specs.declared.report.FeedReport.{FeedReport}
use Rattle.file_faults.specs.declared.list.FaultList.{FaultList}
use Rattle.gtfs_rows.specs.declared.fault.FeedFault.{FeedFault}
use Rattle.faults.specs.declared.fault.Fault.{Fault}
use Rattle.faults.specs.declared.fault.Fault.TheVariants as faults
use Rattle.reply_lines.specs.Tellings.{Telling as ReplyTelling, line_telling}
use Rattle.command_line.specs.declared.given.Given.{Given}

-- Which texts may state an answer, connections, a report, what a feed has, all its faults, a reply or a fault in a format; which may list
-- the stops that are searched for, and which lines may be added to those of a fault.
pub record Telling : Type 1 where
  pub tells : Format → BasisData → Answer → List ℕ → Type 0
  pub connects : Format → BasisData → Connections → List ℕ → Type 0
  pub reports : Format → Report → List ℕ → Type 0
  pub feeds : Format → FeedReport → List ℕ → Type 0
  pub lists : Format → FaultList → List ℕ → Type 0
  pub finds : StopSearch → List ℕ → Type 0
  pub replies : Format → BasisData → ReplyTelling
  pub faults : Format → Given → Fault → List ℕ → Type 0
  pub hints : Given → Fault → List ℕ → Type 0

-- nothing is claimed of the texts
abbrev pub any_text : Telling
any_text = record {
  tells = λ _ _ _ _. Unit {0};
  connects = λ _ _ _ _. Unit {0};
  reports = λ _ _ _. Unit {0};
  feeds = λ _ _ _. Unit {0};
  lists = λ _ _ _. Unit {0};
  finds = λ _ _. Unit {0};
  replies = λ _ _ _ _ _. Unit {0};
  faults = λ _ _ _ _. Unit {0};
  hints = λ _ _ _. Unit {0};
}

-- a reply in a style: as lines, or as a format has it
abbrev pub tells_reply : Telling → Style → BasisData → ReplyTelling
tells_reply t styles.Lines basis question reply text = line_telling question reply text
tells_reply t (styles.Told format) basis question reply text = t.replies format basis question reply text

-- a format reports the rides and walks, whether or not the words ask for them
abbrev pub tells_legs : Style → Bool → Bool
tells_legs styles.Lines legs = legs
tells_legs (styles.Told format) legs = true

-- why stops aren't listed: the feed is at fault, or memory ran out
abbrev pub IsStopsFault : Fault → Type 0
IsStopsFault fault = (fault ≡ faults.Memory) ⊎ ((f : FeedFault) × (fault ≡ faults.Feed f))
