-- The stored tuples in a window, lent as a change leaves them, and how many these are.
use Rattle.std.proofs.Common.{◌≡◌, ◌+◌, ◌≤◌, ℕ, suc, Bool, true, false, List, [], ◌∷◌, length, Option, None, Some, inl, inr, arith, refl, sym, ap, ◌∙◌, subst, length-append}
use Rattle.std.specs.Prelude.{if◌then◌else◌}
use Rattle.std.specs.Borrow.{Bor}
use Rattle.std.specs.Map.{lookup}
use Rattle.std.specs.Option.{option_map}
use Rattle.std.specs.Str.{bytes_eq}
use Rattle.std.proofs.lemmas.List.{length-map}
use Rattle.ded_model.specs.Catalogue.{Catalogue, tuples_of}
use Rattle.ded_model.specs.Entries.{entry_of, relation_in}
use Rattle.ded_model.specs.Row.{Atom}
use Rattle.ded_ranges.specs.declared.window.Window.{Window}
use Rattle.ded_ranges.specs.Windows.{IsNear, AreLent}
use Rattle.ded_ranges.proofs.Near.{near_append, near_same}
use Rattle.ded_packed.specs.declared.lent.Lent.{Lent}
use Rattle.ded_packed.specs.Lent.{tuple_of, lent}
use Rattle.ded_relation.specs.Lookups.{IsLookup, most_reads}
use Rattle.ded_relation.specs.Nearby.{numbered, AreNear, AreFound}
use Rattle.ded_relation.specs.Relations.{Relation}
use Rattle.ded_catalog.specs.Changing.{PendingChange, changed, inserted_in, deleted_in, is_left_out, without_number, with_last}
use Rattle.ded_catalog.specs.Snapshots.{Snapshot, AreSnapshotSteps}
use Rattle.ded_catalog.specs.State.{Table, relation_at}
use Rattle.ded_catalog.proofs.SnapshotTuples.{read_with, tuples-changed}

left_one : (o : Option ℕ) (t : ℕ × List Atom) (us : List (ℕ × List Atom)) (b : Bool) → is_left_out o t.0 ≡ b → without_number o (t ∷ us) ≡ (if b then without_number o us else t ∷ without_number o us)
left_one o t us b e = ap (λ c. if c then without_number o us else t ∷ without_number o us) e

-- without a number
left_near : (w : Window) (o : Option ℕ) (us ts : List (ℕ × List Atom)) → AreNear w us ts → IsNear w (tuples_of (without_number o us)) (tuples_of (without_number o ts))
left_near w o us [] n = ap (λ us. tuples_of (without_number o us)) n
left_near w o us (t ∷ ts) (inl m) = by (is_left_out o t.0) refl (left_near w o us ts m.1)
  where
    by : (b : Bool) → is_left_out o t.0 ≡ b → IsNear w (tuples_of (without_number o us)) (tuples_of (without_number o ts)) → IsNear w (tuples_of (without_number o us)) (tuples_of (without_number o (t ∷ ts)))
    by true e n = subst (λ vs. IsNear w (tuples_of (without_number o us)) (tuples_of vs)) (sym (left_one o t ts true e)) n
    by false e n = subst (λ vs. IsNear w (tuples_of (without_number o us)) (tuples_of vs)) (sym (left_one o t ts false e)) (inl (m.0, n))
left_near w o us (t ∷ ts) (inr m) = subst (λ vs. IsNear w (tuples_of (without_number o vs)) (tuples_of (without_number o (t ∷ ts)))) (sym m.1) (by (is_left_out o t.0) refl (left_near w o m.0 ts m.2))
  where
    by : (b : Bool) → is_left_out o t.0 ≡ b → IsNear w (tuples_of (without_number o m.0)) (tuples_of (without_number o ts)) → IsNear w (tuples_of (without_number o (t ∷ m.0))) (tuples_of (without_number o (t ∷ ts)))
    by true e n = subst (λ vs. IsNear w (tuples_of vs) (tuples_of (without_number o (t ∷ ts)))) (sym (left_one o t m.0 true e)) (subst (λ vs. IsNear w (tuples_of (without_number o m.0)) (tuples_of vs)) (sym (left_one o t ts true e)) n)
    by false e n = subst (λ vs. IsNear w (tuples_of vs) (tuples_of (without_number o (t ∷ ts)))) (sym (left_one o t m.0 false e)) (subst (λ vs. IsNear w (t.1 ∷ tuples_of (without_number o m.0)) (tuples_of vs)) (sym (left_one o t ts false e)) (inr (tuples_of (without_number o m.0), refl, n)))

last_near : (w : Window) (o : Option (List Atom)) (us ts : List (List Atom)) → IsNear w us ts → IsNear w (with_last us o) (with_last ts o)
last_near w None us ts n = n
last_near w (Some t) us ts n = near_append w us ts (t ∷ []) (t ∷ []) n (near_same w (t ∷ []))

module _ (w : Window) (c : Catalogue) (x : PendingChange) (m : List ℕ) where
  some_read : (us : List (ℕ × List Atom)) (o : Option (List (ℕ × List Atom))) → AreFound w (Some us) o → AreLent w (Some (with_last (tuples_of (without_number (deleted_in x m) us)) (inserted_in x m))) (read_with (deleted_in x m) (inserted_in x m) o)
  some_read us None n = n
  some_read us (Some ts) n = last_near w (inserted_in x m) (tuples_of (without_number (deleted_in x m) us)) (tuples_of (without_number (deleted_in x m) ts)) (left_near w (deleted_in x m) us ts n)

  none_read : (o : Option (List (ℕ × List Atom))) → AreFound w None o → AreLent w None (read_with (deleted_in x m) (inserted_in x m) o)
  none_read None n = n
  none_read (Some ts) n = n

  pub lent_some : (us : List (ℕ × List Atom)) → AreFound w (Some us) (relation_in (entry_of c.entries m)) → AreLent w (Some (with_last (tuples_of (without_number (deleted_in x m) us)) (inserted_in x m))) (option_map tuples_of (relation_in (entry_of (changed c x).entries m)))
  lent_some us n = subst (AreLent w (Some (with_last (tuples_of (without_number (deleted_in x m) us)) (inserted_in x m)))) (tuples-changed c x m) (some_read us (relation_in (entry_of c.entries m)) n)

  pub lent_none : AreFound w None (relation_in (entry_of c.entries m)) → AreLent w None (option_map tuples_of (relation_in (entry_of (changed c x).entries m)))
  lent_none n = subst (AreLent w None) (tuples-changed c x m) (none_read (relation_in (entry_of c.entries m)) n)

-- ---- how many are lent

left_fewer : (o : Option ℕ) (ts : List (ℕ × List Atom)) → length (tuples_of (without_number o ts)) ≤ length ts
left_fewer o [] = omega arith
left_fewer o (t ∷ ts) = by (is_left_out o t.0) refl (left_fewer o ts)
  where
    by : (b : Bool) → is_left_out o t.0 ≡ b → length (tuples_of (without_number o ts)) ≤ length ts → length (tuples_of (without_number o (t ∷ ts))) ≤ suc (length ts)
    by true e h = subst (λ us. length (tuples_of us) ≤ suc (length ts)) (sym (left_one o t ts true e)) (omega (arith, h))
    by false e h = subst (λ us. length (tuples_of us) ≤ suc (length ts)) (sym (left_one o t ts false e)) (omega (arith, h))

last_counted : (o : Option (List Atom)) (ts : List (List Atom)) → length (with_last ts o) ≤ length ts + 1
last_counted None ts = omega arith
last_counted (Some t) ts = omega (arith, length-append ts (t ∷ []))

-- one more than were found at most
pub lent_counted : (o : Option ℕ) (p : Option (List Atom)) (us : List (ℕ × Bor (List Atom))) (ts : List Lent) (old mid new : ℕ) → lent ts ≡ with_last (tuples_of (without_number o (numbered us))) p → old + length us ≤ mid → new ≡ mid + 1 → old + length ts ≤ new
lent_counted o p us ts old mid new is h tick =
    sum (length ts) (length (tuples_of (without_number o (numbered us)))) (length us) old mid new (subst (λ k. k ≤ length (tuples_of (without_number o (numbered us))) + 1) same (last_counted p (tuples_of (without_number o (numbered us)))))
    (subst (λ k. length (tuples_of (without_number o (numbered us))) ≤ k) (length-map us (λ (t : ℕ × Bor (List Atom)). (t.0, t.1.now))) (left_fewer o (numbered us))) h tick
  where
    same : length (with_last (tuples_of (without_number o (numbered us))) p) ≡ length ts
    same = sym (ap (λ (xs : List (List Atom)). length xs) is) ∙ length-map ts tuple_of

    sum : (a b c old mid new : ℕ) → a ≤ b + 1 → b ≤ c → old + c ≤ mid → new ≡ mid + 1 → old + a ≤ new
    sum a b c old mid new h k l e = omega arith

-- ---- steps

-- those of the catalogue, and one more at most
pub steps_more : (w : Window) (t : Table) (x : PendingChange) (s : Snapshot) (n : List ℕ) (old mid new : ℕ) → record { table = t; change = x } ≡ s → ((r : Relation) → relation_at (lookup (bytes_eq n) t.names) ≡ Some r → IsLookup w r → mid ≤ old + most_reads w r)
    → new ≤ mid + 1 → AreSnapshotSteps s n w old new
steps_more w t x s n old mid new is few more = subst (λ (s : Snapshot). AreSnapshotSteps s n w old new) is (λ r e l. sum mid new (most_reads w r) more (few r e l))
  where
    sum : (mid new k : ℕ) → new ≤ mid + 1 → mid ≤ old + k → new ≤ old + 1 + k
    sum mid new k h l = omega arith

pub no_steps : (s : Snapshot) (n : List ℕ) (w : Window) (k : ℕ) → AreSnapshotSteps s n w k k
no_steps s n w k = λ r e l. sum (most_reads w r)
  where
    sum : (m : ℕ) → k ≤ k + 1 + m
    sum m = omega arith
