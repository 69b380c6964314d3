use Rattle.std.proofs.Common.{◌≡◌, ◌∙◌, List, map, None, Some, Bor, option_map, codes, sym, ap}
use Rattle.clap.specs.Words.{Text, all_of, rows_of, found_of}
use Rattle.clap.proofs.WalkLemmas.{raw_values-rows}
use Rattle.option_words.specs.MergeWords.{PutsTogether}
use Rattle.option_words.proofs.MergeFacts.{among, if_none, no_store, none_named, others}
use Rattle.option_words.proofs.merged.parts_of.Goals.{in_default-via-in-Some+else-is_among, in_default-via-in_default}
use Rattle.option_words.proofs.merged.parts_of.Goals as goal

pub returns-in_err-parts-clause-none : goal.returns-in_err-parts-clause-none
returns-in_err-parts-clause-none c =
    let found = found_of c.args.found.now in
    let rows = rows_of found in
    let none : all_of (codes "part") rows ≡ None =
    sym (c.get_strs.ensures ∙ raw_values-rows found (codes "part")) ∙ ap (option_map (λ s. map (λ v. v.now) s.now)) c.in_err-parts.was in
    if_none c.from_residual.result ((parts : List Text) → ¬ PutsTogether rows parts) (none_named rows none)

pub returns-in-Some-clause-none : goal.returns-in-Some-clause-none
returns-in-Some-clause-none c =
    let found = found_of c.args.found.now in
    let rows = rows_of found in
    let named : all_of (codes "part") rows ≡ Some (map (λ (f : Bor Text). f.now) c.in_ok-parts.parts.now) =
    sym (c.get_strs.ensures ∙ raw_values-rows found (codes "part")) ∙ ap (option_map (λ s. map (λ v. v.now) s.now)) c.in_ok-parts.was in
    let is = sym c.text_of.ensures ∙ ap (option_map (λ text. text.now)) c.in-Some.is in
    among rows c.in_ok-parts.parts.now c.in-Some.store.now is (sym c.is_among.ensures ∙ c.if-is_among.true) named

pub returns-in_default-clause-parts : goal.returns-in_default-clause-parts
returns-in_default-clause-parts c =
    let found = found_of c.args.found.now in
    let rows = rows_of found in
    let files = c.in_ok-parts.parts.now in
    let named : all_of (codes "part") rows ≡ Some (map (λ (f : Bor Text). f.now) files) =
    sym (c.get_strs.ensures ∙ raw_values-rows found (codes "part")) ∙ ap (option_map (λ s. map (λ v. v.now) s.now)) c.in_ok-parts.was in
    record {
      named = named;
      others = elim c.in_default.branch [
        | in_default-via-in-Some+else-is_among w ↦
            others rows files w.in-Some.store.now (sym c.text_of.ensures ∙ ap (option_map (λ text. text.now)) w.in-Some.is) (sym w.is_among.ensures ∙ w.if-is_among.false)
        | in_default-via-in_default w ↦ no_store rows files (sym c.text_of.ensures ∙ ap (option_map (λ text. text.now)) w.in_default.is)
      ];
    }
