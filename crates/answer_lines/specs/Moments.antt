-- Moments as times of service days.
use Rattle.std.specs.Prelude.{ℕ}
use Rattle.service_days.specs.Answers.{IsSplit}
use Rattle.service_days.specs.Cover.{CoverDays}
use Rattle.answer_lines.specs.declared.moment.DayTime.{DayTime}

-- the time of a service day is that of the moment, by the last covered day that has begun
abbrev pub TellsMoment : CoverDays → ℕ → DayTime → Type 0
TellsMoment c moment time = IsSplit c moment (time.date, time.seconds)
