-- How moments, journeys and answers are shown.
use Rattle.std.specs.Prelude.{ℕ, ◌-◌, ◌/◌, ◌%◌, List, [], ◌∷◌, ◌++◌, length, replicate, unsigned_abs, codes}
use Rattle.std.specs.Fmt.{decimal}
use Rattle.std.specs.List.{flat_map}
use Rattle.jiff_core.specs.declared.civil.date.Date.{Date}
use Rattle.shown_ids.specs.Shown.{shown}
use Rattle.answer_lines.specs.declared.answer.Answer.{Answer}
use Rattle.answer_lines.specs.declared.answer.Answer.TheVariants as answers
use Rattle.answer_lines.specs.declared.answer.Point.{Point}
use Rattle.answer_lines.specs.declared.moment.DayTime.{DayTime}
use Rattle.answer_lines.specs.declared.stage.Stage.{Stage}
use Rattle.answer_lines.specs.declared.stage.Stage.TheVariants as stages

-- a number in decimal digits, with zeros before them if it has fewer than `width`
abbrev pub with_zeros : ℕ → ℕ → List ℕ
with_zeros width n = replicate (width - length (decimal n)) 48 ++ decimal n

-- a date as YYYYMMDD
abbrev pub date_text : Date → List ℕ
date_text date = with_zeros 4 (unsigned_abs date.year) ++ (with_zeros 2 date.month ++ with_zeros 2 date.day)

-- seconds of a service day as HH:MM:SS
abbrev pub time_text : ℕ → List ℕ
time_text seconds =
    with_zeros 2 (seconds / 3600) ++ (58 ∷ with_zeros 2 (seconds / 60 % 60) ++ (58 ∷ with_zeros 2 (seconds % 60)))

-- a time of a service day as YYYYMMDD HH:MM:SS
abbrev pub day_time_text : DayTime → List ℕ
day_time_text t = date_text t.date ++ (32 ∷ time_text t.seconds)

-- a ride as its trip and the stop and time at which it boards and alights; a walk as its stops and when it arrives
abbrev pub stage_text : Stage → List ℕ
stage_text (stages.Ride leg trip board leaves alight comes) =
    codes "  ride " ++ (shown trip
    ++ (32 ∷ shown board ++ (32 ∷ day_time_text leaves ++ (32 ∷ shown alight ++ (32 ∷ day_time_text comes)))))
stage_text (stages.Walk leaves begins reaches comes) = codes "  walk " ++ (shown leaves ++ (32 ∷ shown reaches ++ (32 ∷ day_time_text comes)))

-- a point, and a line for each of its stages
abbrev pub point_text : Point → List ℕ
point_text point =
    (codes "rides " ++ (decimal point.rides ++ (codes " arrive " ++ day_time_text point.at)))
    ++ flat_map (λ stage. 10 ∷ stage_text stage) point.stages.items

-- a line for each point and each of its stages, without a line's end after the last
unfoldable pub points_text : List Point → List ℕ
points_text [] = codes "no journey"
points_text (point ∷ points) = point_text point ++ flat_map (λ p. 10 ∷ point_text p) points

abbrev pub answer_text : Answer → List ℕ
answer_text answers.NoRide = codes "no ride"
answer_text (answers.Arrive at) = codes "arrive " ++ day_time_text at
answer_text (answers.Points points) = points_text points.items
