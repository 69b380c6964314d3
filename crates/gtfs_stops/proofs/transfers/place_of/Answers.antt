use Rattle.std.proofs.Common.{◌≡◌, ◌∙◌, sym, refl, Some, None}
use Rattle.std.specs.Str.{bytes_eq}
use Rattle.gtfs_rows.specs.Rows.{number_in, texts_in}
use Rattle.gtfs_rows.proofs.TextFacts.{position-texts_in}
use Rattle.gtfs_stops.proofs.transfers.place_of.Goals as goal

pub returns-in-Some-clause-value : goal.returns-in-Some-clause-value
returns-in-Some-clause-value c =
    let stop : number_in (texts_in c.args.ids.now.stops.keys) c.args.id.now ≡ Some c.in-Some.number =
    sym (position-texts_in c.args.ids.now.stops.keys (bytes_eq c.args.id.now)) ∙ sym c.get_index_of.ensures.index ∙ c.in-Some.is in
    rw stop refl

pub returns-in-Some-get_index_of-clause-value : goal.returns-in-Some-get_index_of-clause-value
returns-in-Some-get_index_of-clause-value c =
    let stop : number_in (texts_in c.args.ids.now.stops.keys) c.args.id.now ≡ None =
    sym (position-texts_in c.args.ids.now.stops.keys (bytes_eq c.args.id.now)) ∙ sym c.get_index_of.ensures.index ∙ c.in_default.is in
    let station : number_in (texts_in c.args.ids.now.stations.keys) c.args.id.now ≡ Some c.in-Some-get_index_of.number =
    sym (position-texts_in c.args.ids.now.stations.keys (bytes_eq c.args.id.now)) ∙ sym c.get_index_of-2.ensures.index ∙ c.in-Some-get_index_of.is in
    rw (stop, station) refl

pub returns-in-None-clause-value : goal.returns-in-None-clause-value
returns-in-None-clause-value c =
    let stop : number_in (texts_in c.args.ids.now.stops.keys) c.args.id.now ≡ None =
    sym (position-texts_in c.args.ids.now.stops.keys (bytes_eq c.args.id.now)) ∙ sym c.get_index_of.ensures.index ∙ c.in_default.is in
    let station : number_in (texts_in c.args.ids.now.stations.keys) c.args.id.now ≡ None =
    sym (position-texts_in c.args.ids.now.stations.keys (bytes_eq c.args.id.now)) ∙ sym c.get_index_of-2.ensures.index ∙ c.in-None.is in
    rw (stop, station) refl
