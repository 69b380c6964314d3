-- The faults of a plan's words, as they are found.
use Rattle.std.proofs.Common.{◌≡◌, ◌∙◌, List, Option, None, option_map, refl, sym, subst, ap, inl, inr, codes}
use Rattle.jiff_core.specs.declared.civil.date.Date.{Date}
use Rattle.clap.specs.Words.{Row, Text}
use Rattle.gtfs_text.specs.Values.{date_of, ymd}
use Rattle.options.specs.Settings.{HasSettings}
use Rattle.options.specs.declared.settings.Settings.{Settings}
use Rattle.option_words.specs.Formats.{IsStyle}
use Rattle.command_line.specs.Jobs.{IsCommand, question_of}
use Rattle.command_line.specs.Misreads.{IsBadDate, IsMisread, IsWord}
use Rattle.option_words.specs.Questions.{IsFaultOf}
use Rattle.command_line.specs.Readings.{IsDateWord, IsPlanFault, IsUnreadOf}
use Rattle.option_words.specs.declared.format.Style.{Style}
use Rattle.command_line.specs.declared.job.Command.{Command}
use Rattle.command_line.specs.declared.job.Plan.{Plan}
use Rattle.command_line.specs.declared.unread.Unread.{Unread}
use Rattle.command_line.specs.declared.unread.Word.{Word}
use Rattle.option_words.specs.declared.word_fault.WordFault.{WordFault}
use Rattle.option_words.specs.declared.word_fault.WordFault.TheVariants as faults
use Rattle.option_words.proofs.DayFacts.{some_day}

-- `first` is the first covered day, if the settings' text is one
module _ (name : Text) (rows : List Row) (settings : Settings) (style : Style) (first : Option Date)
    (has : HasSettings rows settings) (told : IsStyle name rows style) (value : option_map ymd first ≡ date_of settings.date.now) where
  abbrev pub planned : Command → Plan
  planned named = record { settings = settings; first = some_day; command = named; style = style }

  -- the first covered day is none
  no_first : first ≡ None → (word : Word) → IsWord word (codes "date") settings.date.now → (named : Command)
      → IsCommand name rows named → IsMisread (IsBadDate word) style name rows
  no_first none word is_word named is = record {
    plan = planned named;
    outline = record { settings = has; command = is; style = told };
    told = refl;
    fault = inl (sym value ∙ ap (option_map ymd) none, is_word);
  }

  -- so the word of such a fault is the text of the settings
  pub first_misread : first ≡ None → (why : Unread) → IsUnreadOf rows settings.date.now first style faults.BadDate why → (named : Command)
      → IsCommand name rows named → IsPlanFault name rows why
  first_misread none why is named has_words = subst (IsPlanFault name rows) (sym is.1)
      (no_first none is.0 (subst (λ (first : Option Date). IsDateWord rows settings.date.now first is.0) none is.2) named has_words)

  -- a fault of the command is one of the plan
  pub misread : (fault : WordFault) → IsFaultOf (IsCommand name rows) question_of rows first fault → (why : Unread)
      → IsUnreadOf rows settings.date.now first style fault why → IsPlanFault name rows why
  misread faults.NoJob lacks why is = subst (IsPlanFault name rows) (sym is) (refl, λ plan is. lacks plan.command is.command)
  misread faults.BadDate bad why is = subst (IsPlanFault name rows) (sym is.1) (elim bad.3 [
    | inl none ↦ no_first none is.0 (subst (λ (first : Option Date). IsDateWord rows settings.date.now first is.0) none is.2) bad.0 bad.1
    | inr day ↦ record {
      plan = planned bad.0;
      outline = record { settings = has; command = bad.1; style = told };
      told = refl;
      fault = inr (
        day.0.0,
        sym value ∙ ap (option_map ymd) day.0.1,
        bad.2,
        inl (day.1, subst (λ (first : Option Date). IsDateWord rows settings.date.now first is.0) day.0.1 is.2 day.1.0 day.1.1),
      );
    }
  ])
  misread faults.BadLastDay bad why is = subst (IsPlanFault name rows) (sym is.1) (record {
    plan = planned bad.0;
    outline = record { settings = has; command = bad.1; style = told };
    told = refl;
    fault = inr (bad.3.0, sym value ∙ ap (option_map ymd) bad.3.1, bad.2, inr (bad.3.2, is.2 bad.3.2.1.0 bad.3.2.1.1));
  })
  misread faults.BadTime bad why is = subst (IsPlanFault name rows) (sym is.1) (record {
    plan = planned bad.0;
    outline = record { settings = has; command = bad.1; style = told };
    told = refl;
    fault = (bad.3.0, sym value ∙ ap (option_map ymd) bad.3.1, bad.2, inl (bad.3.2, is.2 bad.3.2.1.0 bad.3.2.1.1));
  })
  misread faults.BadUntil bad why is = subst (IsPlanFault name rows) (sym is.1) (record {
    plan = planned bad.0;
    outline = record { settings = has; command = bad.1; style = told };
    told = refl;
    fault = (bad.3.0, sym value ∙ ap (option_map ymd) bad.3.1, bad.2, inr (bad.3.2, is.2 bad.3.2.1.0 bad.3.2.1.1));
  })
