-- Why words give no job, and which fault of theirs is reported. It is the first of these: one of `clap`; that they name no job; the first
-- covered day or the date of a check; the day to leave on; the day of the last time to leave at; the time to leave at; the last such time.
use Rattle.std.specs.Prelude.{◌≡◌, ◌⊎◌, [], List, Option, None, Some, codes}
use Rattle.jiff_core.specs.declared.civil.date.Date.{Date}
use Rattle.clap.specs.Words.{Kinds, Row, Text}
use Rattle.gtfs_text.specs.Values.{date_of}
use Rattle.options.specs.Statuses.{IsStatus}
use Rattle.option_words.specs.Days.{HasNoDate, IsDate}
use Rattle.command_line.specs.FeedWords.{HasCheckWords}
use Rattle.command_line.specs.Jobs.{IsOutline, NamesNoJob, question_of}
use Rattle.command_line.specs.declared.feed_check.FeedCheck.{FeedCheck}
use Rattle.option_words.specs.declared.format.Style.{Style}
use Rattle.command_line.specs.declared.job.Plan.{Plan}
use Rattle.command_line.specs.declared.unread.Unread.{Unread}
use Rattle.command_line.specs.declared.unread.Unread.TheVariants as unread
use Rattle.command_line.specs.declared.unread.Word.{Word}
use Rattle.option_words.specs.Questions.{IsAsked, LacksDay, LacksLastDay, LacksTime, LacksUntil}

-- the word is this option with this text
pub record IsWord (word : Word) (option text : Text) : Type 0 where
  pub option_is : word.option.now ≡ option
  pub text_is : word.text.now ≡ text

-- the date of a check is named, and is none
abbrev pub NamesNoDate : List Row → Type 0
NamesNoDate rows = HasNoDate rows (codes "date")

-- the word has the first covered day, which is none; or else the day to leave on, which is; or else the day of the last time, which is
abbrev pub IsBadDate : Word → List Row → Plan → Type 0
IsBadDate word rows plan =
    ((date_of plan.settings.date.now ≡ None) × IsWord word (codes "date") plan.settings.date.now)
    ⊎ ((first : Date) × IsDate plan.settings.date.now first × IsAsked (question_of plan.command)
    × (((lacks : LacksDay rows) × IsWord word (codes "on") lacks.0)
    ⊎ ((lacks : LacksLastDay rows first) × IsWord word (codes "until-on") lacks.1.0)))

-- the days are such, and the word has the time, which is none; or else the last time, which is
abbrev pub IsBadTime : Word → List Row → Plan → Type 0
IsBadTime word rows plan =
    (first : Date) × IsDate plan.settings.date.now first × IsAsked (question_of plan.command)
    × (((lacks : LacksTime rows first) × IsWord word (codes "at") lacks.1.0)
    ⊎ ((lacks : LacksUntil rows first) × IsWord word (codes "until") lacks.1.0))

-- a command's name and rows give a plan whose answer has that style, but for days and times, of which this is the fault
pub record IsMisread (Fault : List Row → Plan → Type 0) (style : Style) (name : Text) (rows : List Row) : Type 0 where
  pub plan : Plan
  pub outline : IsOutline name rows plan
  pub told : plan.style ≡ style
  pub fault : Fault rows plan

-- The words of a check that answers in that style, but for its date, which is none: the word has it.
pub record IsCheckMisread (word : Word) (style : Style) (rows : List Row) : Type 0 where
  pub check : FeedCheck
  pub outline : HasCheckWords rows check
  pub told : check.style ≡ style
  pub lacks : NamesNoDate rows
  pub is_word : IsWord word (codes "date") lacks.0

abbrev pub IsCheckMisreadIn : Word → Style → Option (Text × List Row) → Type 0
IsCheckMisreadIn word style None = ⊥
IsCheckMisreadIn word style (Some met) = (met.0 ≡ codes "check") × IsCheckMisread word style met.1

abbrev pub IsMisreadIn : (List Row → Plan → Type 0) → Style → Option (Text × List Row) → Type 0
IsMisreadIn Fault style None = ⊥
IsMisreadIn Fault style (Some met) = IsMisread Fault style met.0 met.1

-- The words have no job, and what is to be shown goes with such a status. Or clap takes them, and they have a job but for a day that is
-- none, or for a time. The word that has it is named.
abbrev pub IsUnread : Kinds → Option (Text × List Row) → Unread → Type 0
IsUnread kinds met (unread.Shown status) = IsStatus kinds (NamesNoJob met) status
IsUnread kinds met (unread.BadDate style word) =
    (kinds ≡ []) × (IsMisreadIn (IsBadDate word) style met ⊎ IsCheckMisreadIn word style met)
IsUnread kinds met (unread.BadTime style word) = (kinds ≡ []) × IsMisreadIn (IsBadTime word) style met
