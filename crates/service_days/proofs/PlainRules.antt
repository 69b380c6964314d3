-- What the rules without an offset and without summer time come to.
use Rattle.std.proofs.Common.{◌≡◌, ◌∙◌, List, inl, inr, ℕ, pos, ◌+ℤ◌, ◌*◌, ◌<◌, arith, refl, sym, ap, codes, Option, None, Some, Ok, Err, option_map, unwrap_or, slice_index}
use Rattle.std.proofs.lemmas.Option.{none-some}
use Rattle.jiff.specs.Types.{Date, DateTime, TimeZone, Offset}
use Rattle.jiff.specs.Words.{read_whole, compatible_offset, picked_instant, civil_nanos, nanos_of_seconds}
use Rattle.jiff.specs.Placed.{IsPosixZone}
use Rattle.jiff.proofs.Family.{civil_nanos-parts}
use Rattle.jiff.proofs.OnLiterals.{jiff_on_literals}
use Rattle.jiff_core.proofs.SignedLemmas.{signed_arith}
use Rattle.jiff_tz.specs.PosixText.{TzText, dst_view}
use Rattle.jiff_tz.specs.PosixRule.{ambiguous_at_by}
use Rattle.jiff_tz.specs.declared.posix.Dst.{Dst}
use Rattle.service_days.specs.Answers.{IsCoverAnswer}
use Rattle.service_days.specs.Cover.{CoverDays}
use Rattle.service_days.specs.Laws.{IsPlainRule}
use Rattle.service_days.specs.Noon.{noon, start_instant, IsDaysAfter}
use Rattle.service_days.specs.declared.fault.DayFault.{DayFault}
use Rattle.service_days.specs.declared.fault.DayFault.TheVariants.{BadRange, BadZone, ZoneJump, Memory}
use Rattle.service_days.proofs.RuleFacts.{rule_of, picked_instant-Posix}

-- the parts of such a rule
abbrev plain_text : List ℕ → TzText
plain_text name = record { std_name = name; std_seconds = pos 0; dst = None }

reads_utc : read_whole (codes "UTC0") ≡ Some (plain_text (codes "UTC"))
unfolding jiff_on_literals
reads_utc = refl

reads_local : read_whole (codes "<-00>0") ≡ Some (plain_text (codes "-00"))
unfolding jiff_on_literals
reads_local = refl

-- a text of such a rule, and the name that it has
reads_plain : (rule : List ℕ) → IsPlainRule rule → (name : List ℕ) × (read_whole rule ≡ Some (plain_text name))
reads_plain rule (inl is) = (codes "UTC", ap read_whole is ∙ reads_utc)
reads_plain rule (inr is) = (codes "-00", ap read_whole is ∙ reads_local)

-- a rule without summer time
plain_rule : (std : Offset) (dst : Option Dst) (dt : DateTime) → std.seconds ≡ pos 0 → option_map dst_view dst ≡ None → (compatible_offset (ambiguous_at_by std dst dt)).seconds ≡ pos 0
plain_rule std None dt e none = e
plain_rule std (Some x) dt e none = absurd (none-some _ (sym none))

module _ (rule : List ℕ) (plain : IsPlainRule rule) where
  plain_noon : (zone : TimeZone) (d : Date) → IsPosixZone rule zone → picked_instant zone (noon d) ≡ civil_nanos (noon d)
  plain_noon zone d h =
      let r = rule_of rule zone h in
      let reads = reads_plain rule plain in
      let view = ap (λ o. unwrap_or o (plain_text reads.0)) (sym r.2 ∙ reads.1) in
      let zero = plain_rule r.0.std_offset r.0.dst (noon d) (ap (λ (v : TzText). v.std_seconds) view) (ap (λ (v : TzText). v.dst) view) in
      ap (λ z. picked_instant z (noon d)) r.1 ∙ picked_instant-Posix r.0 (noon d) ∙ omega (arith, signed_arith, zero)

  plain_start : (zone : TimeZone) (first d : Date) (day : ℕ) → IsPosixZone rule zone → IsDaysAfter day first d
      → start_instant zone d ≡ start_instant zone first +ℤ nanos_of_seconds (pos (86_400 * day))
  plain_start zone first d day h after =
      let here = plain_noon zone d h in
      let there = plain_noon zone first h in
      omega (arith, signed_arith, here, there, after, civil_nanos-parts (noon d), civil_nanos-parts (noon first))

  pub plain_days : (first : Date) (days : ℕ) (c : CoverDays) → IsCoverAnswer first days rule (Ok c)
      → (c.before ≡ 86_400) × ((day : ℕ) → day < days → slice_index c.starts day ≡ 86_400 * day)
  plain_days first days c h = (
    (let b = h.3.before_is in
        let at = plain_start h.1 b.date first 1 h.2 b.date_is in
        let step = b.start in
        let e : c.before ≡ 86_400 = omega (arith, signed_arith, step, at) in e),
    λ day lt.
        let start = h.3.starts_are.each day lt in
        let at = plain_start h.1 first start.0 day h.2 start.1 in
        omega (arith, signed_arith, start.2, at),
  )

  pub plain_covers : (first : Date) (days : ℕ) (fault : DayFault) → IsCoverAnswer first days rule (Err fault) → fault ≡ BadRange
  plain_covers first days BadRange h = refl
  plain_covers first days BadZone h = absurd (none-some _ (sym h.1 ∙ (reads_plain rule plain).1))
  plain_covers first days ZoneJump h =
      let jump = h.3 in
      let at = plain_start h.1 jump.before jump.date 1 h.2 jump.before_is in
      absurd (jump.no_step (omega (arith, signed_arith, at)))
  plain_covers first days Memory h = absurd h
