-- The questions that are asked.
use Rattle.std.specs.Prelude.{◌≢◌, ℕ, ◌<◌, ◌≤◌}
use Rattle.bench.specs.declared.questions.Question.{Question}
use Rattle.bench.specs.declared.questions.Questions.{Questions}

-- from how many stops the questions go out, the first ones, and between how many they are
abbrev pub sources_of : Questions → ℕ
sources_of questions = questions.sources

abbrev pub stops_of : Questions → ℕ
stops_of questions = questions.stops

-- from one of the first `sources` stops to another, of `stops`, at a time from 05:00:00 to before 22:00:00
pub record IsAsked (sources stops : ℕ) (question : Question) : Type 0 where
  pub from : question.from < sources
  pub to : question.to < stops
  pub different : question.from ≢ question.to
  pub early : 18_000 ≤ question.depart
  pub late : question.depart < 79_200
