use Rattle.std.proofs.Common.{◌≤◌, ℕ, List, length, ap, subst, arith}
use Rattle.std.specs.Str.{IsUtf8}
use Rattle.csv.specs.Reading.{strip_bom}
use Rattle.stop_lists.specs.declared.reading.TheConstants.{LONGEST}
use Rattle.stop_lists.proofs.ListFacts.{all_read, is_list, no_list}
use Rattle.stop_lists.proofs.reading.read_list.Goals as goal

pub returns-clause-content : goal.returns-clause-content
returns-clause-content g c =
    let items = c.read_to_end.new.buf.items in
    let few : length items ≤ LONGEST = (let own = c.read_to_end.new.buf.ok in let len = c.len.ensures in omega (arith, own, len)) in
    let all = all_read (g.R.Read.remaining c.take-first.result.inner) (g.R.Read.remaining c.args.reader) c.take-first.result.limit
    c.new-list.result.items items (ap g.R.Read.remaining c.take-first.ensures.inner) c.take-first.ensures.limit c.new-list.ensures.items
    c.in_default.ensures.bytes few in
    is_list (g.R.Read.remaining c.args.reader) items all
    (subst (λ (l : List ℕ). IsUtf8 (strip_bom l)) c.deref.ensures.value c.if-not-is_text.ensures)

pub returns-then-not-is_text-clause-fault : goal.returns-then-not-is_text-clause-fault
returns-then-not-is_text-clause-fault g c =
    let items = c.read_to_end.new.buf.items in
    let few : length items ≤ LONGEST = (let own = c.read_to_end.new.buf.ok in let len = c.len.ensures in omega (arith, own, len)) in
    let all = all_read (g.R.Read.remaining c.take-first.result.inner) (g.R.Read.remaining c.args.reader) c.take-first.result.limit
    c.new-list.result.items items (ap g.R.Read.remaining c.take-first.ensures.inner) c.take-first.ensures.limit c.new-list.ensures.items
    c.in_default.ensures.bytes few in
    no_list (g.R.Read.remaining c.args.reader) items all
    (subst (λ (l : List ℕ). ¬ IsUtf8 (strip_bom l)) c.deref.ensures.value c.if-not-is_text.ensures)
