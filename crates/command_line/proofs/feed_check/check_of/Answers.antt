use Rattle.std.proofs.Common.{◌∙◌, sym, ap, option_map, subst, IfSome, None, Some, refl}
use Rattle.clap.specs.Words.{rows_of, found_of}
use Rattle.gtfs_text.specs.Values.{ymd}
use Rattle.command_line.specs.FeedWords.{IsNamedDate}
use Rattle.command_line.proofs.FeedFacts.{date_read}
use Rattle.command_line.proofs.feed_check.check_of.Goals as goal

pub returns-in-Some-date-clause-check : goal.returns-in-Some-date-clause-check
returns-in-Some-date-clause-check c =
    let rows = rows_of (found_of c.args.found.now) in
    let named = sym c.text_of-2.ensures ∙ ap (option_map (λ text. text.now)) c.in-Some-text_of.is in (
      record {
        feed = sym c.text_of.ensures ∙ ap (option_map (λ text. text.now)) c.in-Some.is;
        all = c.flag_of-all.ensures;
        style = c.in-Some-plain_style_of.ensures.style;
      },
      subst (λ read. IfSome read (λ day. IsNamedDate rows (Some day))) c.in-Some-date.is
          (date_read rows c.in-Some-text_of.text.now named c.date.result c.date.ensures),
    )

pub returns-in-None-clause-fault : goal.returns-in-None-clause-fault
returns-in-None-clause-fault c =
    let named = sym c.text_of-2.ensures ∙ ap (option_map (λ text. text.now)) c.in-Some-text_of.is in
    record {
      check = record { feed = c.in-Some.feed; date = None; all = c.flag_of-all.result; style = c.in-Some-plain_style_of.style };
      outline = record {
        feed = sym c.text_of.ensures ∙ ap (option_map (λ text. text.now)) c.in-Some.is;
        all = c.flag_of-all.ensures;
        style = c.in-Some-plain_style_of.ensures.style;
      };
      told = refl;
      lacks = (c.in-Some-text_of.text.now, named, sym c.date.ensures ∙ ap (option_map ymd) c.in-None.is);
      is_word = record { option_is = refl; text_is = refl };
    }
