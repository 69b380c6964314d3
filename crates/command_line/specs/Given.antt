-- What the words say that a fault may be about.
use Rattle.std.specs.Prelude.{ℕ, List, Option, None, Some}
use denote.Ref.{Bor}
use Rattle.questions.specs.declared.question.Question.{Question}
use Rattle.command_line.specs.declared.job.Command.{Command}
use Rattle.command_line.specs.declared.job.Command.TheVariants as commands
use Rattle.command_line.specs.declared.job.Plan.{Plan}
use Rattle.command_line.specs.declared.job.Search.{Search}
use Rattle.command_line.specs.declared.job.Search.TheVariants as searches
use Rattle.command_line.specs.declared.job.Task.{Task}
use Rattle.command_line.specs.declared.job.Task.TheVariants as tasks
use Rattle.command_line.specs.declared.unread.Word.{Word}
use Rattle.command_line.specs.declared.given.Given.{Given}
use Rattle.command_line.specs.declared.given.GivenPlaces.{GivenPlaces}

-- the places of a question
abbrev pub places_of : Question → GivenPlaces
places_of question = record { from = question.from; to = question.to }

-- those that a task, a search or a command asks about
abbrev pub task_places : Task → Option GivenPlaces
task_places (tasks.Ask question legs) = Some (places_of question)
task_places tasks.List = None
task_places (tasks.Audit whose) = None
task_places (tasks.Build workers progress part) = None
task_places (tasks.Migrate old progress) = None
task_places (tasks.Merge parts progress) = None

abbrev pub search_places : Search → Option GivenPlaces
search_places (searches.Direct question) = Some (places_of question)
search_places (searches.Scan question legs) = Some (places_of question)
search_places (searches.Reach question minutes) = Some (places_of question)
search_places (searches.Stored store task) = task_places task

abbrev pub command_places : Command → Option GivenPlaces
command_places (commands.Find search) = search_places search
command_places (commands.Matrix question workers progress) = None
command_places (commands.Serve store workers) = None

-- the words of a plan: the feed, the zone and the places
abbrev pub given_by : Plan → Given
given_by plan = record { feed = Some plan.settings.feed; zone = Some plan.settings.zone; places = command_places plan.command; word = None }

-- those of a command without days: the feed
abbrev pub folder_given : Bor (List ℕ) → Given
folder_given feed = record { feed = Some feed; zone = None; places = None; word = None }

-- those of a fault of the words: the word that is at fault
abbrev pub word_given : Word → Given
word_given word = record { feed = None; zone = None; places = None; word = Some word }
