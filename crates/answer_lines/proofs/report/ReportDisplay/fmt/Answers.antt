use Rattle.std.proofs.Common.{◌++◌, ◌∙◌, ap, refl, sym, true}
use Rattle.std.proofs.Output.{has_written_append, has_written_of_eq}
use Rattle.std.specs.List.{flat_map}
use Rattle.std.specs.Prelude.{codes}
use Rattle.answer_lines.specs.Reports.{count_line, id_line, report_text}
use Rattle.answer_lines.proofs.report.ReportDisplay.fmt.Goals as goal

pub returns-in_ok-writeln-in-Built-clause-writes : goal.returns-in_ok-writeln-in-Built-clause-writes
returns-in_ok-writeln-in-Built-clause-writes g c plain ok =
    let counts = count_line c.in-Built.built.stored c.in-Built.built.of in
    let first = c.in_ok-writeln-in-Built.ensures.writes plain (refl {a = true}) in
    let others = c.write_ids-in-Built.ensures first.plain ok in
    has_written_of_eq _ _ _ _ _ (
    ap (λ ids. counts ++ flat_map (λ id. id_line (codes "missing ") id.now) ids) c.deref-in-Built.ensures.value ∙ ap report_text (sym c.in-Built.is)) (
    has_written_append _ _ counts _ _ _ first others)
