-- The first tuples that are lent of a relation, renamed, hold only where a scan does.
use Rattle.std.proofs.Common.{◌≡◌, ℕ, zero, suc, ◌*◌, ◌<◌, ◌≤◌, Bool, true, List, [], ◌∷◌, take, length, ⊎_elim, inl, inr, arith, sym, ap, ◌∙◌, subst, true≢false, map}
use lib.Dec.{leb}
use Rattle.std.proofs.lemmas.Bool.Decides.{leb_tells}
use Rattle.std.proofs.lemmas.List.{take_all}
use Rattle.std.specs.List.{AllByRecursion}
use Rattle.ded_model.specs.declared.slot.Slot.{Slot}
use Rattle.ded_model.specs.Point.{Point, stands_in, AreDistinctSlots}
use Rattle.ded_model.specs.Row.{Atom, tuple_holds, tuples_hold}
use Rattle.ded_model.specs.Known.{IsTupleOver, heading_slots}
use Rattle.ded_model.specs.Normal.{IsNormalTuple}
use Rattle.ded_model.specs.Value.{slot_value, overs, arguments}
use Rattle.ded_model.specs.Catalogue.{Catalogue}
use Rattle.ded_model.specs.Logic.{atom}
use Rattle.ded_model.specs.PlanForm.{scan}
use Rattle.ded_model.specs.Lines.{Line}
use Rattle.ded_model.specs.Renaming.{renamed, IsOneToOne, KeepsSorts}
use Rattle.ded_model.proofs.Members.{or_split}
use Rattle.ded_model.proofs.Rows.{or_left, or_right}
use Rattle.ded_genrel.specs.Lists.{conjs_hold, conjs_mention, conjs_lines}
use Rattle.ded_genrel.specs.Operations.{IsRenaming}
use Rattle.ded_genrel.proofs.Items.{all_weaker}
use Rattle.ded_ranges.specs.declared.window.Window.{Window}
use Rattle.ded_ranges.specs.Windows.{IsNear}
use Rattle.ded_packed.specs.declared.lent.Lent.{Lent}
use Rattle.ded_packed.specs.Lent.{tuple_of, lent}
use Rattle.ded_ranges.proofs.Near.{near_all}
use Rattle.ded_eval.specs.Finding.{IsFoundIn}
use Rattle.ded_atoms.specs.Reading.{IsListOf}
use Rattle.ded_algebra.specs.Columns.{column_pairs}
use Rattle.ded_algebra.proofs.Columns.{IsRead, read, read_sort, read_once}
use Rattle.ded_algebra.proofs.ColumnPoints.{column_point, overs_one, columns_point}
use Rattle.ded_eval.proofs.Found.{IsFound, IsLent}
use Rattle.ded_eval.proofs.Scanned.{over_columns}

-- tuples without some that hold nowhere in a window hold only where all do
near_only : (w : Window) (p : Point) (us ts : List (List Atom)) → IsNear w us ts → tuples_hold us p ≡ true → tuples_hold ts p ≡ true
unfolding tuples_hold
near_only w p us [] n x = sym (ap (λ (vs : List (List Atom)). tuples_hold vs p) n) ∙ x
near_only w p us (t ∷ ts) (inl m) x = or_right (tuple_holds t p) (tuples_hold ts p) (near_only w p us ts m.1 x)
near_only w p us (t ∷ ts) (inr m) x =
    ⊎_elim (λ (y : tuple_holds t p ≡ true). or_left (tuple_holds t p) (tuples_hold ts p) y) (λ y. or_right (tuple_holds t p) (tuples_hold ts p) (near_only w p m.0 ts m.2 y))
    (or_split (tuple_holds t p) (tuples_hold m.0 p) (sym (ap (λ (vs : List (List Atom)). tuples_hold vs p) m.1) ∙ x))

-- so do the first ones
first_only : (p : Point) (k : ℕ) (bs : List Lent) → tuples_hold (lent (take k bs)) p ≡ true → tuples_hold (lent bs) p ≡ true
unfolding tuples_hold
first_only p zero [] x = x
first_only p zero (b ∷ bs) x = absurd (true≢false (sym x))
first_only p (suc k) [] x = x
first_only p (suc k) (b ∷ bs) x =
    ⊎_elim (λ (y : tuple_holds (tuple_of b) p ≡ true). or_left (tuple_holds (tuple_of b) p) (tuples_hold (lent bs) p) y) (λ y. or_right (tuple_holds (tuple_of b) p) (tuples_hold (lent bs) p) (first_only p k bs y))
    (or_split (tuple_holds (tuple_of b) p) (tuples_hold (lent (take k bs)) p) x)

first_all : (P : List Atom → Type 0) (k : ℕ) (bs : List Lent) → AllByRecursion P (lent bs) → AllByRecursion P (lent (take k bs))
first_all P zero [] a = tt
first_all P zero (b ∷ bs) a = tt
first_all P (suc k) [] a = tt
first_all P (suc k) (b ∷ bs) a = (a.0, first_all P k bs a.1)

-- tuples over columns of the slots' sorts, which hold only where the name does
pub record IsSomeOf (Reads : Atom → Type 0) (c : Catalogue) (n : List ℕ) (ss : List Slot) (us : List (List Atom)) : Type 1 where
  pub all : List (List Atom)
  pub found : IsFound Reads c n ss all
  pub over : AllByRecursion (λ t. IsTupleOver found.heading t × AllByRecursion Reads t) us
  pub only : (p : Point) → tuples_hold us p ≡ true → tuples_hold all p ≡ true

pub first_lent : (Reads : Atom → Type 0) (c : Catalogue) (n : List ℕ) (ss : List Slot) (w : Window) (k : ℕ) (bs : List Lent) → IsLent Reads c n ss w (lent bs) → IsSomeOf Reads c n ss (lent (take k bs))
first_lent Reads c n ss w k bs a = record {
  all = a.all;
  found = a.found;
  over = first_all (λ t. IsTupleOver a.found.heading t × AllByRecursion Reads t) k bs (near_all w (λ t. IsTupleOver a.found.heading t × AllByRecursion Reads t) (lent bs) a.all a.near a.found.over);
  only = λ p x. near_only w p (lent bs) a.all a.near (first_only p k bs x);
}

-- where there are no more than k, these are all that are lent
pub all_lent : (Reads : Atom → Type 0) (c : Catalogue) (n : List ℕ) (ss : List Slot) (w : Window) (k l : ℕ) (bs : List Lent) → l ≡ length bs → leb l k ≡ true → IsLent Reads c n ss w (lent bs) → IsLent Reads c n ss w (lent (take k bs))
all_lent Reads c n ss w k l bs e t a = subst (λ (us : List Lent). IsLent Reads c n ss w (lent us)) (sym (take_all k bs (⊎_elim (λ h. subst (λ m. m ≤ k) e h.1) (λ h. absurd (true≢false (sym t ∙ h.0))) (leb_tells l k)))) a

pub first_reads : (Reads : Atom → Type 0) (c : Catalogue) (n : List ℕ) (ss : List Slot) (us : List (List Atom)) → IsSomeOf Reads c n ss us → AllByRecursion (λ t. AllByRecursion Reads t) us
first_reads Reads c n ss us k = all_weaker (λ t. IsTupleOver k.found.heading t × AllByRecursion Reads t) (λ t. AllByRecursion Reads t) us (λ t j. j.1) k.over

pub first_normal : (Reads : Atom → Type 0) (c : Catalogue) (n : List ℕ) (ss : List Slot) (us : List (List Atom)) → IsSomeOf Reads c n ss us → AllByRecursion IsNormalTuple us
first_normal Reads c n ss us k = all_weaker (λ t. IsTupleOver k.found.heading t × AllByRecursion Reads t) IsNormalTuple us (λ t j. j.0.normal) k.over

module _ {A : Type 0} (h : A → Point → Bool) (m : A → Slot → Bool) (l : A → List Line) (Reads : Atom → Type 0) (c : Catalogue) (x : List ℕ) (ss : List Slot) (us : List (List Atom)) (k : IsSomeOf Reads c x ss us) (list : List (List A)) (is : IsListOf h m l list us) where
  -- the list is over the columns
  columns : (s : Slot) → conjs_mention m list s ≡ true → stands_in (heading_slots 0 k.found.heading) s ≡ true
  columns s e = over_columns (λ t. AllByRecursion Reads t) k.found.heading us s k.over (sym (is.slots s) ∙ e)

  -- so it can be renamed
  pub first_apart : AreDistinctSlots ss → IsOneToOne (column_pairs 0 ss) (conjs_mention m list)
  first_apart d = record {
    apart = λ s t e g z. read_once 0 k.found.heading ss s t (renamed (column_pairs 0 ss) t) d
        (subst (IsRead 0 k.found.heading ss s) z (read 0 k.found.heading ss s k.found.sorts (columns s e))) (read 0 k.found.heading ss t k.found.sorts (columns t g));
  }

  pub first_sorts : KeepsSorts (column_pairs 0 ss) (conjs_mention m list)
  first_sorts = record { sort = λ s e. read_sort 0 k.found.heading ss s (renamed (column_pairs 0 ss) s) k.found.sorts (read 0 k.found.heading ss s k.found.sorts (columns s e)) }

  -- and then holds only where the scan does
  pub first_found : (inside : Point → Bool) (out : List (List A)) → IsRenaming (column_pairs 0 ss) (conjs_hold h list) (conjs_hold h out) (conjs_mention m list) (conjs_mention m out) (conjs_lines l list) (conjs_lines l out) → IsFoundIn h c inside (atom (scan x ss)) out
  first_found inside out r = λ q i w t.
      let positive : 0 < (column_point q k.found.heading ss).den = subst (λ z. 0 < z) (sym (ap (λ z. q.den * z) (overs_one q ss) ∙ omega arith)) i.positive in
      let there : conjs_hold h out q ≡ tuples_hold us (column_point q k.found.heading ss)
      = r.holds (column_point q k.found.heading ss) q positive (columns_point q k.found.heading ss (conjs_mention m list) k.found.sorts columns) ∙ is.holds (column_point q k.found.heading ss) in
      (k.found.means (q.den * overs (map (slot_value q) ss)) (arguments (map (slot_value q) ss))).1 (k.only (column_point q k.found.heading ss) (sym there ∙ t))
