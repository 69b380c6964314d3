-- The audit of a stored tree.
use Rattle.std.proofs.Common.{◌≡◌, ◌<◌, ◌≤◌, ◌∙◌, ℕ, List, [], ◌∷◌, Option, None, Some, IfSome, Contains, arith, refl, sym, subst, inl, inr}
use Rattle.std.specs.Option.{option_map}
use Rattle.std.proofs.lemmas.List.Sorted.{IsPermutation-sym}
use Rattle.disk_model.specs.Disk.{State}
use Rattle.timetable.specs.Table.{stops_of}
use Rattle.pattern_tree.specs.Content.{Content, longest}
use Rattle.pattern_tree.specs.Paths.{IsIn}
use Rattle.pattern_tree.proofs.PairFacts.{contains_in}
use Rattle.pattern_tree.proofs.OrderFacts.{longest_still}
use Rattle.section_store.specs.Sections.{AreTexts, Form, IsNew, Stands}
use Rattle.pattern_query.specs.Questions.{tree_at}
use Rattle.store_excerpt.specs.Board.{IsOneOf, ShowsAmong}
use Rattle.store_excerpt.specs.Excerpt.{ShowsWhole}
use Rattle.recovery.specs.Opening.{IsOpening, StandsForSources}
use Rattle.answer_lines.specs.declared.audit.Audit.{Audit}
use Rattle.answer_lines.specs.declared.report.Report.TheVariants as reports
use Rattle.faults.specs.declared.fault.Fault.{Fault}
use Rattle.feed_basis.specs.Basis.{BasisData}
use Rattle.feed_basis.specs.Ids.{stop_alone}
use Rattle.store_audit.proofs.SameTrees.{first_still}
use Rattle.auditing.specs.declared.auditing.Difference.{Difference}
use Rattle.store_answers.specs.Audited.{IsAudited, IsComparedIn, IsIdOf, IsUncomparedFrom, IsUncomparedIn, TellsAudit}
use Rattle.store_terms.specs.Stores.{OnlyFailing, form_over}

one_of : (o : Option ℕ) (s : ℕ) → option_map (λ x. x ∷ []) o ≡ Some (s ∷ []) → o ≡ Some s
one_of None s e = cc
one_of (Some x) s e = cc

-- no path of a section's tree has more rides than the form says
shallow_text : (form : Form) (texts : List (List ℕ)) (trees : List Content) (tree : Content) → AreTexts form texts trees → IsIn tree trees
    → longest tree.pairs ≤ form.rides
shallow_text form [] [] tree are has = absurd has
shallow_text form [] (t ∷ trees) tree are has = absurd are
shallow_text form (text ∷ texts) [] tree are has = absurd are
shallow_text form (text ∷ texts) (t ∷ trees) tree are (inl e) = subst (λ (x : Content). longest x.pairs ≤ form.rides) (sym e) are.0.shallow
shallow_text form (text ∷ texts) (t ∷ trees) tree are (inr has) = shallow_text form texts trees tree are.1 has

shallow : (form : Form) (bytes : List ℕ) (trees : List Content) (tree : Content) → Stands form bytes trees → IsIn tree trees
    → longest tree.pairs ≤ form.rides
shallow form bytes trees tree (inl fresh) has = absurd (subst (IsIn tree) fresh.1 has)
shallow form bytes trees tree (inr sections) has = shallow_text form sections.texts trees tree sections.of has

-- nor does one of a tree with these pairs in another order
shallow_one : (form : Form) (bytes : List ℕ) (trees : List Content) (tree : Content) → Stands form bytes trees → IsOneOf trees tree
    → longest tree.pairs ≤ form.rides
shallow_one form bytes trees tree stands is =
    longest_still is.one.pairs tree.pairs form.rides is.pairs (shallow form bytes trees is.one stands (contains_in is.one trees is.among))

-- a tree that can't be compared reports no failed call
pub uncompared_fails : (basis : BasisData) (held : ℕ → Option Content) (from : List ℕ) (fault : Fault) (before after : ℕ)
    → IsUncomparedIn basis held from fault → OnlyFailing before after fault
uncompared_fails basis held from fault before after (inl none) (inl e) = absurd (let t = none.told in cc)
uncompared_fails basis held from fault before after (inl none) (inr (inl e)) = absurd (let t = none.told in cc)
uncompared_fails basis held from fault before after (inl none) (inr (inr e)) = absurd (let t = none.told in cc)
uncompared_fails basis held from fault before after (inr (inl none)) (inl e) = absurd (let t = none.told in cc)
uncompared_fails basis held from fault before after (inr (inl none)) (inr (inl e)) = absurd (let t = none.told in cc)
uncompared_fails basis held from fault before after (inr (inl none)) (inr (inr e)) = absurd (let t = none.told in cc)
uncompared_fails basis held from fault before after (inr (inr memory)) (inl e) = absurd cc
uncompared_fails basis held from fault before after (inr (inr memory)) (inr (inl e)) = absurd cc
uncompared_fails basis held from fault before after (inr (inr memory)) (inr (inr e)) = absurd cc

-- what an opened store shows of the stop of an id
pub record ShowsOne (basis : BasisData) (k : ℕ) (old new : State) (from : List ℕ) (list : List ℕ) (board : List (Option Content)) : Type 0 where
  pub stands : StandsForSources (form_over basis k) list old.read
  pub opening : IsOpening (form_over basis k) old new
  pub stop : Option ℕ
  pub named : option_map (λ x. x ∷ []) stop ≡ stop_alone basis.names from
  pub below : IfSome stop (λ s. s < stops_of basis.timetable)
  pub kept : List ℕ
  pub are_kept : (s : ℕ) → stop ≡ Some s → kept ≡ s ∷ []
  pub shows : ShowsAmong (stops_of basis.timetable) kept list board
  pub whole : ShowsWhole (form_over basis k) old list board

module _ (basis : BasisData) (k : ℕ) (old new : State) (from : List ℕ) (list : List ℕ) (board : List (Option Content))
    (is : ShowsOne basis k old new from list board) where
  the_stop : (s : ℕ) → IsIdOf basis from s → is.stop ≡ Some s
  the_stop s named = one_of is.stop s (is.named ∙ named)

  is_new : (s : ℕ) → IsIdOf basis from s → tree_at board s ≡ None → IsNew s list
  is_new s named none =
      let e = the_stop s named in
      let below : s < stops_of basis.timetable = subst (λ (o : Option ℕ). IfSome o (λ x. x < stops_of basis.timetable)) e is.below in
      let has : Contains is.kept s = subst (λ (l : List ℕ). Contains l s) (sym (is.are_kept s e)) (0, omega arith, refl) in
      (is.shows.missing s below has).0 none

  pub audited : (difference : Option Difference) (audit : Audit) → IsComparedIn basis (tree_at board) k from difference
      → TellsAudit basis from difference audit → IsAudited basis k from old new (reports.Audited audit)
  audited difference audit h told =
      let stored = is.whole.same h.stop h.tree h.holds in
      record {
        trees = is.whole.trees;
        stands = is.whole.stands;
        stop = h.stop;
        named = h.named;
        tree = stored.one;
        stored = stored.among;
        of = sym stored.source ∙ h.of;
        audit = audit;
        is = refl;
        told = record {
          difference = difference;
          first = first_still basis.timetable h.tree stored.one k difference stored.source
              (IsPermutation-sym stored.one.pairs h.tree.pairs stored.pairs)
              (h.first (shallow_one (form_over basis k) old.read is.whole.trees h.tree is.whole.stands stored));
          told = told;
        };
        opening = is.opening;
      }

  pub uncompared_from : (fault : Fault) → IsUncomparedIn basis (tree_at board) from fault → IsUncomparedFrom basis k from old new fault
  uncompared_from fault h = record {
    list = list;
    stands = is.stands;
    why = elim h [
      | inl none ↦ inl none
      | inr other ↦ inr (elim other [
        | inl no_tree ↦ inl (record {
          id = no_tree.id;
          same = no_tree.same;
          told = no_tree.told;
          stop = no_tree.stop;
          named = no_tree.named;
          lacks = is_new no_tree.stop no_tree.named no_tree.lacks;
        })
        | inr memory ↦ inr memory
      ])
    ];
    opening = is.opening;
  }
