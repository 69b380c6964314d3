use Rattle.std.proofs.Common.{◌∙◌, ℕ, Ok, ap, inl, string_bytes}
use Rattle.printing.specs.declared.told.Told.TheVariants as tolds
use Rattle.feed_commands.specs.Found.{found_status}
use Rattle.feed_commands.proofs.FoundFacts.{made_ok}
use Rattle.feed_commands.proofs.found.in_format.Goals.{in-Answer, in-Connections, in-Report}
use Rattle.feed_commands.proofs.found.in_format.Goals as goal

pub returns-in-Ok : goal.returns-in-Ok
returns-in-Ok g c =
    let basis = c.args.basis.now in
    let format = c.args.format in
    elim c.match-found.branch [
      | in-Answer w ↦ rw w.in-Answer.is (inl (
        c.in-Ok.text,
        ap (λ (n : ℕ). Ok (tolds.Text c.in-Ok.text n)) (c.found_status.ensures ∙ ap found_status w.in-Answer.is),
        made_ok w.answer-text.result c.match-found.text c.in-Ok.text (λ text. g.T.Teller.telling.tells format basis w.in-Answer.answer (string_bytes text))
            w.answer-text.ensures w.text-is c.in-Ok.is,
      ))
      | in-Connections w ↦ rw w.in-Connections.is (inl (
        c.in-Ok.text,
        ap (λ (n : ℕ). Ok (tolds.Text c.in-Ok.text n)) (c.found_status.ensures ∙ ap found_status w.in-Connections.is),
        made_ok w.connections-text.result c.match-found.text c.in-Ok.text
            (λ text. g.T.Teller.telling.connects format basis w.in-Connections.connections (string_bytes text))
            w.connections-text.ensures w.text-is c.in-Ok.is,
      ))
      | in-Report w ↦ rw w.in-Report.is (inl (
        c.in-Ok.text,
        ap (λ (n : ℕ). Ok (tolds.Text c.in-Ok.text n)) (c.found_status.ensures ∙ ap found_status w.in-Report.is),
        made_ok w.report-text.result c.match-found.text c.in-Ok.text (λ text. g.T.Teller.telling.reports format w.in-Report.report (string_bytes text))
            w.report-text.ensures w.text-is c.in-Ok.is,
      ))
    ]
