-- The arguments of an atom gathered one after another: the invariant of the loop, its steps and its end.
use Rattle.std.proofs.Common.{◌≡◌, ℕ, zero, suc, ◌+◌, ◌<◌, ◌≤◌, List, [], ◌∷◌, ◌++◌, arith, refl, sym, ap, subst, ◌∙◌, map, length, take, drop, get_or, append-nil}
use Rattle.std.proofs.Math.Seq.{take-length, drop-length}
use Rattle.std.proofs.lemmas.List.{take_more}
use Rattle.ded_model.specs.declared.goal.Place.{Place}
use Rattle.ded_model.specs.PlanForm.{plan_form}
use Rattle.ded_model.specs.Scanned.{scanned, scanned_slots, tied_atoms, fresh_slots, above_place, first_free}
use Rattle.ded_algebra.specs.declared.scanning.Scanning.{Scanning}
use Rattle.ded_algebra.specs.Compile.{row_plan}
use Rattle.ded_algebra.specs.Compiled.{IsByteText, AreByteTexts}
use Rattle.ded_algebra.specs.Gathering.{Gathered, gathered, IsApart}
use Rattle.ded_algebra.proofs.Apart.{apart_none}
use Rattle.ded_algebra.proofs.Compiled.{drop_split}

-- what all places give
abbrev pub whole : List Place → Gathered
whole ts = record { slots = scanned_slots (scanned ts); fresh = fresh_slots (scanned ts); ties = map row_plan (tied_atoms (scanned ts)) }

-- the first i places are gathered
pub record IsGathering (ts : List Place) (i : ℕ) (s : Scanning) : Type 0 where
  pub gathered : gathered s (drop i ts) ≡ whole ts
  pub apart : IsApart s.next s.slots.items
  pub next : first_free ts ≤ s.next
  pub bytes : AreByteTexts (take i ts)

pub gathering_none : (ts : List Place) (s : Scanning) → s.slots.items ≡ [] → s.fresh.items ≡ [] → s.ties.items ≡ [] → s.next ≡ first_free ts → IsGathering ts 0 s
gathering_none ts s a b c d = record {
  gathered = rw (a, b, c, d) refl;
  apart = subst (IsApart s.next) (sym a) (apart_none s.next);
  next = omega (arith, d);
  bytes = tt;
}

above_at : (ts : List Place) (i : ℕ) (d : Place) → i < length ts → above_place (get_or ts i d) ≤ first_free ts
above_at [] i d h = absurd (none h)
  where
    none : i < 0 → ⊥
    none k = omega (arith, k)
above_at (t ∷ ts) zero d h = omega arith
above_at (t ∷ ts) (suc i) d h = let k = above_at ts i d (omega (arith, h)) in omega (arith, k)

pub gathering_above : (ts : List Place) (i : ℕ) (s : Scanning) (t : Place) → i < length ts → t ≡ get_or ts i t → IsGathering ts i s → above_place t ≤ s.next
gathering_above ts i s t h e g = let k = above_at ts i t h in let f = ap above_place e in let n = g.next in omega (arith, k, f, n)

bytes_more : (ts : List Place) (t : Place) → AreByteTexts ts → IsByteText t → AreByteTexts (ts ++ t ∷ [])
bytes_more [] t h k = (k, tt)
bytes_more (x ∷ ts) t h k = (h.0, bytes_more ts t h.1 k)

pub gathering_more : (ts : List Place) (i : ℕ) (s s' : Scanning) (t : Place) → i < length ts → t ≡ get_or ts i t → ((us : List Place) → gathered s' us ≡ gathered s (t ∷ us)) → IsApart s'.next s'.slots.items
    → s.next ≤ s'.next → IsByteText t → IsGathering ts i s → IsGathering ts (i + 1) s'
gathering_more ts i s s' t h e f a n b g = record {
  gathered = f (drop (i + 1) ts) ∙ ap (λ x. gathered s (x ∷ drop (i + 1) ts)) e ∙ sym (ap (gathered s) (drop_split ts i t h)) ∙ g.gathered;
  apart = a;
  next = let k = g.next in omega (arith, k, n);
  bytes = subst AreByteTexts (sym (take_more ts i t h ∙ ap (λ x. take i ts ++ x ∷ []) (sym e))) (bytes_more (take i ts) t g.bytes b);
}

-- at the end
pub gathering_all : (ts : List Place) (i : ℕ) (s : Scanning) → i ≡ length ts → IsGathering ts i s → gathered s [] ≡ whole ts
gathering_all ts i s e g = ap (gathered s) (sym (ap (λ n. drop n ts) e ∙ drop-length ts)) ∙ g.gathered

pub gathered_slots : (ts : List Place) (i : ℕ) (s : Scanning) → i ≡ length ts → IsGathering ts i s → s.slots.items ≡ scanned_slots (scanned ts)
gathered_slots ts i s e g = sym (append-nil s.slots.items) ∙ ap (λ (x : Gathered). x.slots) (gathering_all ts i s e g)

pub gathered_fresh : (ts : List Place) (i : ℕ) (s : Scanning) → i ≡ length ts → IsGathering ts i s → s.fresh.items ≡ fresh_slots (scanned ts)
gathered_fresh ts i s e g = sym (append-nil s.fresh.items) ∙ ap (λ (x : Gathered). x.fresh) (gathering_all ts i s e g)

pub gathered_ties : (ts : List Place) (i : ℕ) (s : Scanning) → i ≡ length ts → IsGathering ts i s → map plan_form s.ties.items ≡ map row_plan (tied_atoms (scanned ts))
gathered_ties ts i s e g = sym (append-nil (map plan_form s.ties.items)) ∙ ap (λ (x : Gathered). x.ties) (gathering_all ts i s e g)

pub gathered_bytes : (ts : List Place) (i : ℕ) (s : Scanning) → i ≡ length ts → IsGathering ts i s → AreByteTexts ts
gathered_bytes ts i s e g = subst AreByteTexts (ap (λ n. take n ts) e ∙ take-length ts) g.bytes
