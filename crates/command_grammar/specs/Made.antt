-- How the program's command line is made. Only private clauses cite these words.
use Rattle.std.specs.Prelude.{◌≡◌, IfErr, IfOk, Result}
use Rattle.clap.specs.Words.{App, app_of, kind_of}
use Rattle.clap.specs.declared.builder.command.Command.{Command}
use Rattle.clap.specs.declared.error.Error.{Error}
use Rattle.clap.specs.declared.error.kind.ErrorKind.TheVariants.{OutOfMemory}

-- a program of this command line was made, or memory ran out
pub record IsProgram (app : App) (made : Result Command Error) : Type 0 where
  pub shape : IfOk made (λ c. app_of c ≡ app)
  pub err : IfErr made (λ e. kind_of e ≡ OutOfMemory)
