-- The benchmark's command line, and what its words say.
use Rattle.std.specs.Prelude.{◌≡◌, ◌^◌, List, Some, codes, option_map}
use Rattle.clap.specs.Words.{App, Row, first_of, with_rule}
use Rattle.options.specs.Options.{common_app, number_rule, optional_rule}
use Rattle.options.specs.Settings.{HasSettings}
use Rattle.options.specs.Values.{HasNumber}
use Rattle.bench.specs.declared.words.Measure.{Measure}

abbrev pub bench_app : App
bench_app =
    with_rule (with_rule (with_rule (with_rule (with_rule (with_rule (common_app (codes "bench"))
    (number_rule (codes "direct") (codes "100000") 0 10_000_000))
    (number_rule (codes "plain") (codes "100") 0 1_000_000))
    (number_rule (codes "queries") (codes "1000") 0 1_000_000))
    (number_rule (codes "seed") (codes "1") 0 4_294_967_295))
    (number_rule (codes "sources") (codes "0") 0 1_000_000))
    (optional_rule (codes "store"))

-- the rows of the words say to measure that
pub record IsMeasure (rows : List Row) (measure : Measure) : Type 0 where
  pub settings : HasSettings rows measure.settings
  pub direct : HasNumber (2 ^ 32) rows (codes "direct") (Some measure.direct)
  pub plain : HasNumber (2 ^ 32) rows (codes "plain") (Some measure.plain)
  pub queries : HasNumber (2 ^ 32) rows (codes "queries") (Some measure.queries)
  pub seed : HasNumber (2 ^ 32) rows (codes "seed") (Some measure.seed)
  pub sources : HasNumber (2 ^ 32) rows (codes "sources") (Some measure.sources)
  pub store : option_map (λ file. file.now) measure.store ≡ first_of (codes "store") rows

-- an option has no value, or one that is out of its range
abbrev pub NamesNothing : List Row → Type 0
NamesNothing rows = (measure : Measure) → ¬ IsMeasure rows measure
