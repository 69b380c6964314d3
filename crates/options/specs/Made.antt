-- How commands are made.
use Rattle.std.specs.Prelude.{◌≡◌, false, IfErr, IfOk, Result}
use Rattle.clap.specs.Words.{App, app_of, kind_of}
use Rattle.clap.specs.declared.builder.command.Command.{Command}
use Rattle.clap.specs.declared.builder.command.Command.TheViews.{out-Command as fields_of}
use Rattle.clap.specs.declared.error.Error.{Error}
use Rattle.clap.specs.declared.error.kind.ErrorKind.TheVariants.{OutOfMemory}

-- a command of this command line was made, without global options, or memory ran out
pub record IsMade (app : App) (made : Result Command Error) : Type 0 where
  pub shape : IfOk made (λ c. app_of c ≡ app)
  pub local : IfOk made (λ c. (fields_of c).has_globals ≡ false)
  pub err : IfErr made (λ e. kind_of e ≡ OutOfMemory)
