-- What standard error says of a fault.
use Rattle.std.specs.Prelude.{◌≡◌, ◌⊎◌, ℕ, Bool, true, false, List, ◌++◌}
use Rattle.option_words.specs.declared.format.Style.{Style}
use Rattle.option_words.specs.declared.format.Style.TheVariants as styles
use Rattle.faults.specs.Lines.{fault_lines}
use Rattle.faults.specs.declared.fault.Fault.{Fault}
use Rattle.faults.specs.declared.fault.Fault.TheVariants as faults
use Rattle.pattern_query.specs.declared.refusal.Refusal.{Refusal}
use Rattle.pattern_query.specs.declared.refusal.Refusal.TheVariants as refusals
use Rattle.printing.specs.declared.fault.Voice.{Voice}
use Rattle.service_days.specs.declared.fault.DayFault.{DayFault}
use Rattle.service_days.specs.declared.fault.DayFault.TheVariants as days
use Rattle.streams.specs.Streams.{IsSaid, StreamData}
use Rattle.printing.specs.Tellings.{Telling}
use Rattle.command_line.specs.Given.{given_by}
use Rattle.command_line.specs.declared.given.Given.{Given}
use Rattle.command_line.specs.declared.job.Plan.{Plan}

-- in the style of a plan, with what its words say
abbrev pub voice_of : Plan → Voice
voice_of plan = record { style = plan.style; given = given_by plan }

-- of the faults of the days, lines are added to those of a zone that is none
abbrev pub days_hint : DayFault → Bool
days_hint days.BadZone = true
days_hint days.BadRange = false
days_hint days.ZoneJump = false
days_hint days.Memory = false

-- of the refusals of a question, to those of an id that no stop has
abbrev pub question_hint : Refusal → Bool
question_hint (refusals.UnknownStop id) = true
question_hint refusals.NotCovered = false
question_hint (refusals.NotStored id) = false

-- whether lines may be added to those of a fault: to a day or a time of the words, a fault of the feed, and those two
abbrev pub has_hint : Fault → Bool
has_hint faults.BadDate = true
has_hint faults.BadTime = true
has_hint faults.NoRandomness = false
has_hint (faults.Feed f) = true
has_hint (faults.Days f) = days_hint f
has_hint (faults.Store f) = false
has_hint faults.GateDamaged = false
has_hint faults.StoreInUse = false
has_hint faults.PutFailed = false
has_hint (faults.Migration side f) = false
has_hint faults.OtherList = false
has_hint faults.FileTooLarge = false
has_hint (faults.Part path f) = false
has_hint (faults.OtherTree stop part before) = false
has_hint (faults.Question refusal) = question_hint refusal
has_hint faults.TooLarge = false
has_hint faults.Memory = false

-- lines may be added to those of the fault, and the teller adds these
abbrev pub IsHint : Telling → Given → Fault → List ℕ → Type 0
IsHint t given fault lines = (has_hint fault ≡ true) × t.hints given fault lines

-- the lines of the fault, perhaps with those that are added
abbrev pub AreFaultLines : Telling → Given → Fault → List ℕ → Type 0
AreFaultLines t given fault text =
    (text ≡ fault_lines fault) ⊎ ((hint : List ℕ) × IsHint t given fault hint × (text ≡ fault_lines fault ++ hint))

-- the text of the fault in a format
abbrev pub IsFormatText : Telling → Given → Style → Fault → List ℕ → Type 0
IsFormatText t given styles.Lines fault text = ⊥
IsFormatText t given (styles.Told format) fault text = t.faults format given fault text

-- the fault as the voice has it; a format may leave it to the lines
abbrev pub IsFaultText : Telling → Voice → Fault → List ℕ → Type 0
IsFaultText t voice fault text = IsFormatText t voice.given voice.style fault text ⊎ AreFaultLines t voice.given fault text

-- it is said on standard error
abbrev pub IsFaultSaid : Telling → Voice → Fault → StreamData → StreamData → Type 0
IsFaultSaid t voice fault old new = (text : List ℕ) × IsFaultText t voice fault text × IsSaid text old new
