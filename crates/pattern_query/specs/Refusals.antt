-- How the refusal of a question is shown.
use Rattle.std.specs.Prelude.{ℕ, List, ◌++◌, codes}
use Rattle.shown_ids.specs.Shown.{shown}
use Rattle.pattern_query.specs.declared.refusal.Refusal.{Refusal}
use Rattle.pattern_query.specs.declared.refusal.Refusal.TheVariants as refusals

-- the code and the name of a refusal, and the id that it is about
abbrev pub refusal_text : Refusal → List ℕ
refusal_text (refusals.UnknownStop id) = codes "Q1 UnknownStop " ++ shown id.now
refusal_text refusals.NotCovered = codes "Q2 NotCovered"
refusal_text (refusals.NotStored id) = codes "Q3 NotStored " ++ shown id.now
