use Rattle.std.proofs.Common.{◌≡◌, ◌∙◌, ℕ, List, length, arith, ap, ap₂, sym, subst}
use Rattle.std.proofs.lemmas.Result.{IfOk-from_err}
use Rattle.timetable.specs.Table.{Table, stops_of}
use Rattle.section_store.specs.Sections.{Form, form_of}
use Rattle.section_store.specs.Sources.{IsSetOf}
use Rattle.precomputing.proofs.precomputing.prepare.Goals as goal

pub returns-in_err-room : goal.returns-in_err-room
returns-in_err-room g c = IfOk-from_err _ _ c.from_residual.ensures.0

pub returns-in_err-set : goal.returns-in_err-set
returns-in_err-set g c = IfOk-from_err _ _ c.from_residual-in_err-set.ensures.0

pub returns-in_err-ledger : goal.returns-in_err-ledger
returns-in_err-ledger g c = IfOk-from_err _ _ c.from_residual-in_err-ledger.ensures.0

pub returns : goal.returns
returns g c =
    let desk = c.args.desk.now in
    let stops : c.stops-stops.result ≡ stops_of desk.form.table =
    c.stops-stops.ensures.value
    ∙ ap (λ (t : Table). stops_of t) (c.timetable.ensures.value ∙ c.network.ensures ∙ ap (λ (f : Form). f.table) (sym c.requires.own)) in
    record {
      ledger =
          ap₂ (λ (t : Table) (k : ℕ). form_of t k) (c.in_ok-ledger.ensures.table ∙ c.shared.ensures ∙ c.network-network.ensures) c.in_ok-ledger.ensures.rides
          ∙ c.k.ensures.own ∙ sym c.requires.own;
      set =
          subst (λ (n : ℕ). IsSetOf n c.in_ok-set.set desk.stored) stops
          (subst (λ (l : List ℕ). IsSetOf c.stops-stops.result c.in_ok-set.set l) c.stored-stored.ensures.stored c.in_ok-set.ensures);
      bare = c.in_ok-room.ensures.items;
      room = c.in_ok-room.ensures.capacity;
      stops = stops;
      few = (let few = c.stops-stops.ensures.valid.few_stops in let is = c.stops-stops.ensures.value in omega (arith, few, is));
      before = ap (λ (l : List ℕ). length l) c.stored-stored.ensures.stored;
    }
