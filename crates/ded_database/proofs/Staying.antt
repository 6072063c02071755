-- What is upheld over a catalogue stays so where the catalogue changes and marks and lists are of views that the change doesn't touch.
use Rattle.std.proofs.Common.{◌≡◌, ℕ, Bool, true, false, not, is_some, List, [], ◌∷◌, Result, Ok, Err, refl, sym, ap, ◌∙◌, subst, true≢false, bytes_eq}
use Rattle.std.specs.Prelude.{OnOk, OnErr}
use Rattle.std.specs.List.{AllByRecursion, list_any}
use Rattle.std.proofs.lemmas.Bool.{and_from}
use Rattle.ded_model.specs.Catalogue.{Entry, Catalogue}
use Rattle.ded_model.specs.Entries.{entry_of, entry_uses}
use Rattle.ded_model.specs.Known.{IsWellFormed}
use Rattle.ded_sorts.specs.Changes.{AddsEntry, DropsEntry}
use Rattle.ded_genrel.proofs.Items.{all_weaker}
use Rattle.ded_algebra.specs.declared.given.GivenRelation.{GivenRelation}
use Rattle.ded_algebra.specs.Given.{has_name, without_name}
use Rattle.ded_views.specs.Unaffected.{AreUnaffected}
use Rattle.ded_views.proofs.Changing.{added, dropped}
use Rattle.ded_database.specs.declared.mark.Mark.{Mark}
use Rattle.ded_database.specs.Marks.{IsMark}
use Rattle.ded_database.proofs.MarksOfViews.{untouched_marks}
use Rattle.ded_database.specs.Held.{IsHeld, IsUpheld, is_marked}
use Rattle.ded_database.proofs.ListsStaying.{all_stay}
use Rattle.ded_database.proofs.Under.{all_left_over, each_named, all_both, gone_name}
use Rattle.ded_database.specs.Keeping.{without_mark}
use Rattle.ded_database.proofs.Marking.{all_without, others_without, marked_without, apart_without}
use Rattle.ded_query.proofs.GivenNames.{same_name}

-- of two facts of all marks the one that follows
both_marks : (P Q R : Mark → Type 0) (ms : List Mark) → ((m : Mark) → P m → Q m → R m) → AllByRecursion P ms → AllByRecursion Q ms → AllByRecursion R ms
both_marks P Q R [] f k l = tt
both_marks P Q R (m ∷ ms) f k l = (f m k.0 l.0, both_marks P Q R ms f k.1 l.1)

module _ (c d : Catalogue) (formed : IsWellFormed c) (formed_after : IsWellFormed d) where
  untouched : (among : List ℕ → Bool) → AreUnaffected c d among → (ms : List Mark) (rs : List GivenRelation) → AllByRecursion (λ (m : Mark). among m.name ≡ true) ms
      → AllByRecursion (λ (r : GivenRelation). among r.name ≡ true) rs → IsUpheld c ms rs → IsUpheld d ms rs
  untouched among a ms rs k l u = record {
    marks = both_marks (λ (m : Mark). among m.name ≡ true) (IsMark c) (IsMark d) ms (λ m x y. untouched_marks c d among m formed formed_after a x y) k u.marks;
    apart = u.apart;
    held = all_stay c d formed formed_after among a rs l u.held;
    marked = u.marked;
  }

  -- an entry more
  upheld_added : (e : Entry) (ms : List Mark) (rs : List GivenRelation) → AddsEntry c d e → IsUpheld c ms rs → IsUpheld d ms rs
  upheld_added e ms rs x u = untouched (λ n. is_some (entry_of c.entries n)) (added c d e formed x) ms rs
      (all_weaker (IsMark c) (λ (m : Mark). is_some (entry_of c.entries m.name) ≡ true) ms (λ m k. ap is_some k.entry) u.marks)
      (all_weaker (IsHeld c) (λ (r : GivenRelation). is_some (entry_of c.entries r.name) ≡ true) rs (λ r k. ap is_some k.view.view.entry) u.held) u

  -- an entry less, and its mark and its list
  pub upheld_dropped : (n : List ℕ) (ms : List Mark) (rs : List GivenRelation) → DropsEntry c d n → list_any (entry_uses n) c.entries ≡ false → IsUpheld c ms rs → IsUpheld d (without_mark n ms) (without_name n rs)
  upheld_dropped n ms rs x unused u = untouched (λ m. not (bytes_eq m n)) (dropped c d n x unused) (without_mark n ms) (without_name n rs) (others_without n ms) others left
    where
      others : AllByRecursion (λ (r : GivenRelation). not (bytes_eq r.name n) ≡ true) (without_name n rs)
      others = each_named (λ v. not (bytes_eq v n) ≡ true) (without_name n rs) (λ v h. by v h (bytes_eq v n) refl)
        where
          by : (v : List ℕ) → has_name v (without_name n rs) ≡ true → (b : Bool) → bytes_eq v n ≡ b → not b ≡ true
          by v h true e = absurd (true≢false (sym h ∙ ap (λ k. has_name k (without_name n rs)) (sym (same_name v n e)) ∙ gone_name n rs))
          by v h false e = refl

      still_marked : AllByRecursion (λ (r : GivenRelation). is_marked (without_mark n ms) r.name ≡ true) (without_name n rs)
      still_marked = all_both (λ (r : GivenRelation). not (bytes_eq r.name n) ≡ true) (λ (r : GivenRelation). is_marked ms r.name ≡ true) (λ (r : GivenRelation). is_marked (without_mark n ms) r.name ≡ true) (without_name n rs)
          (λ r a b. marked_without n r.name ms ∙ and_from (not (bytes_eq r.name n)) (is_marked ms r.name) a b) others (all_left_over (λ (r : GivenRelation). is_marked ms r.name ≡ true) n rs u.marked)

      left : IsUpheld c (without_mark n ms) (without_name n rs)
      left = record {
        marks = all_without (IsMark c) n ms u.marks;
        apart = apart_without n ms u.apart;
        held = all_left_over (IsHeld c) n rs u.held;
        marked = still_marked;
      }

  -- a definition that may want memory
  pub upheld_defined : {E : Type 0} (r : Result (Unit {0}) E) (e : Entry) (ms : List Mark) (rs : List GivenRelation) → OnOk r (AddsEntry c d e) → OnErr r (d ≡ c) → IsUpheld c ms rs → IsUpheld d ms rs
  upheld_defined (Ok u) e ms rs ok err k = upheld_added e ms rs ok k
  upheld_defined (Err x) e ms rs ok err k = subst (λ x. IsUpheld x ms rs) (sym err) k
