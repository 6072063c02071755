-- Coefficients and atoms that are read one by one.
use Rattle.std.proofs.Common.{◌≡◌, ◌≢◌, to_z, of_z, ℕ, suc, ◌+◌, ◌-◌, ◌<◌, List, [], ◌∷◌, ◌++◌, arith, sym, ap, ◌∙◌, subst}
use Rattle.std.specs.Prelude.{ℤ, pos}
use Rattle.std.specs.Int.{w128}
use Rattle.std.proofs.lemmas.List.{append-nil, append_assoc}
use Rattle.ded_num.specs.Length.{IsShort}
use Rattle.ded_num.proofs.Tests.{minus_step}
use Rattle.ded_num.proofs.Signs.{short_in_code}
use Rattle.ded_model.specs.declared.slot.Slot.{Slot}
use Rattle.ded_model.specs.Coefs.{AllAbove, AllBelow, AreCoefs}
use Rattle.ded_model.specs.Normal.{IsNormalTuple}
use Rattle.ded_model.specs.Row.{Atom}
use Rattle.ded_packed.specs.Numbers.{after_natural}
use Rattle.ded_packed.specs.Atoms.{coef_in, coefs_in, after_coefs, CoefsFit, atom_in, after_atom, atoms_in, AtomsFit}
use Rattle.ded_packed.specs.Taking.{CoefsTaken, AtomsTaken}

none : (count : ℕ) → count - count ≡ 0
none count = omega arith

whole : (count : ℕ) → count - 0 ≡ count
whole count = omega arith

-- ---- coefficients

pub coefs_begin : (s : List ℕ) (count : ℕ) → CoefsFit count s → CoefsTaken s count 0 [] s
coefs_begin s count h = record {
  value = ap (λ k. coefs_in k s) (whole count);
  left = ap (λ k. after_coefs k s) (whole count);
  fits = subst (λ k. CoefsFit k s) (sym (whole count)) h;
}

module _ (start : List ℕ) (count i : ℕ) (read : List (Slot × ℤ)) (s : List ℕ) (l : i < count) (h : CoefsTaken start count i read s) where
  pub next_fits : CoefsFit (suc (count - (i + 1))) s
  next_fits = subst (λ k. CoefsFit k s) (minus_step count i l) h.fits

  together : read ++ (coef_in s ∷ coefs_in (count - (i + 1)) (after_natural (after_natural s))) ≡ coefs_in count start
  together = ap (λ k. read ++ coefs_in k s) (sym (minus_step count i l)) ∙ h.value

  pub one_coef_more : CoefsTaken start count (i + 1) (read ++ coef_in s ∷ []) (after_natural (after_natural s))
  one_coef_more = record {
    value = append_assoc read (coef_in s ∷ []) (coefs_in (count - (i + 1)) (after_natural (after_natural s))) ∙ together;
    left = ap (λ k. after_coefs k s) (sym (minus_step count i l)) ∙ h.left;
    fits = next_fits.2;
  }

  pub next_coefs : AreCoefs (coefs_in count start) → AreCoefs (read ++ (coef_in s ∷ coefs_in (count - (i + 1)) (after_natural (after_natural s))))
  next_coefs k = subst AreCoefs (sym together) k

pub coefs_done : (start : List ℕ) (count : ℕ) (read : List (Slot × ℤ)) (s : List ℕ) → CoefsTaken start count count read s → read ≡ coefs_in count start
coefs_done start count read s h = sym (append-nil read) ∙ ap (λ k. read ++ coefs_in k s) (sym (none count)) ∙ h.value

pub coefs_left : (start : List ℕ) (count : ℕ) (read : List (Slot × ℤ)) (s : List ℕ) → CoefsTaken start count count read s → s ≡ after_coefs count start
coefs_left start count read s h = ap (λ k. after_coefs k s) (sym (none count)) ∙ h.left

-- the next coefficient stands behind the ones before
last_coefs : (xs : List (Slot × ℤ)) (c : Slot × ℤ) (cs : List (Slot × ℤ)) → AreCoefs (xs ++ (c ∷ cs)) → AreCoefs (c ∷ cs)
last_coefs [] c cs h = h
last_coefs (x ∷ xs) c cs h = last_coefs xs c cs h.4

above_last : (n : ℕ) (xs : List (Slot × ℤ)) (c : Slot × ℤ) (cs : List (Slot × ℤ)) → AllAbove n (xs ++ (c ∷ cs)) → n < c.0.number
above_last n [] c cs h = h.0
above_last n (x ∷ xs) c cs h = above_last n xs c cs h.1

pub below_next : (xs : List (Slot × ℤ)) (c : Slot × ℤ) (cs : List (Slot × ℤ)) → AreCoefs (xs ++ (c ∷ cs)) → AllBelow c.0.number xs
below_next [] c cs h = tt
below_next (x ∷ xs) c cs h = (above_last x.0.number xs c cs h.3, below_next xs c cs h.4)

module _ (start : List ℕ) (count i : ℕ) (read : List (Slot × ℤ)) (s : List ℕ) (l : i < count) (h : CoefsTaken start count i read s) (are : AreCoefs (coefs_in count start)) (c : Slot × ℤ) (same : c ≡ coef_in s) where
  next_are : AreCoefs (read ++ (c ∷ coefs_in (count - (i + 1)) (after_natural (after_natural s))))
  next_are = subst (λ x. AreCoefs (read ++ (x ∷ coefs_in (count - (i + 1)) (after_natural (after_natural s))))) (sym same) (next_coefs start count i read s l h are)

  coef_is : AreCoefs (c ∷ coefs_in (count - (i + 1)) (after_natural (after_natural s)))
  coef_is = last_coefs read c _ next_are

  pub coef_short : IsShort (to_z w128 (of_z w128 c.1))
  coef_short = subst IsShort (sym (short_in_code c.1 coef_is.1)) coef_is.1

  pub coef_nonzero : to_z w128 (of_z w128 c.1) ≢ pos 0
  coef_nonzero = λ e. coef_is.2 (sym (short_in_code c.1 coef_is.1) ∙ e)

  pub coef_last : AllBelow c.0.number read
  coef_last = below_next read c _ next_are

  pub coef_pushed : (new : List (Slot × ℤ)) (t : List ℕ) → new ≡ read ++ (c.0, to_z w128 (of_z w128 c.1)) ∷ [] → t ≡ after_natural (after_natural s) → CoefsTaken start count (i + 1) new t
  coef_pushed new t e f =
      let is : new ≡ read ++ coef_in s ∷ [] = e ∙ ap (λ z. read ++ (c.0, z) ∷ []) (short_in_code c.1 coef_is.1) ∙ ap (λ x. read ++ x ∷ []) same in
      subst (λ u. CoefsTaken start count (i + 1) new u) (sym f)
      (subst (λ r. CoefsTaken start count (i + 1) r (after_natural (after_natural s))) (sym is) (one_coef_more start count i read s l h))

-- ---- atoms

pub atoms_begin : (s : List ℕ) (count : ℕ) → AtomsFit count s → IsNormalTuple (atoms_in count s) → AtomsTaken s count 0 [] s
atoms_begin s count h n = record {
  value = ap (λ k. atoms_in k s) (whole count);
  fits = subst (λ k. AtomsFit k s) (sym (whole count)) h;
  normal = subst (λ k. IsNormalTuple (atoms_in k s)) (sym (whole count)) n;
}

module _ (start : List ℕ) (count i : ℕ) (read : List Atom) (s : List ℕ) (l : i < count) (h : AtomsTaken start count i read s) where
  pub next_atom_fits : AtomsFit (suc (count - (i + 1))) s
  next_atom_fits = subst (λ k. AtomsFit k s) (minus_step count i l) h.fits

  pub next_atom_normal : IsNormalTuple (atom_in s ∷ atoms_in (count - (i + 1)) (after_atom s))
  next_atom_normal = subst (λ k. IsNormalTuple (atoms_in k s)) (minus_step count i l) h.normal

  pub one_atom_more : AtomsTaken start count (i + 1) (read ++ atom_in s ∷ []) (after_atom s)
  one_atom_more = record {
    value = append_assoc read (atom_in s ∷ []) (atoms_in (count - (i + 1)) (after_atom s)) ∙ ap (λ k. read ++ atoms_in k s) (sym (minus_step count i l)) ∙ h.value;
    fits = next_atom_fits.1;
    normal = next_atom_normal.2;
  }

pub atom_pushed : (start : List ℕ) (count i : ℕ) (read : List Atom) (s : List ℕ) → i < count → AtomsTaken start count i read s → (a : Atom) → a ≡ atom_in s → (new : List Atom) (t : List ℕ) → new ≡ read ++ a ∷ [] → t ≡ after_atom s → AtomsTaken start count (i + 1) new t
atom_pushed start count i read s l h a same new t e f =
    let is : new ≡ read ++ atom_in s ∷ [] = e ∙ ap (λ x. read ++ x ∷ []) same in
    subst (λ u. AtomsTaken start count (i + 1) new u) (sym f)
    (subst (λ r. AtomsTaken start count (i + 1) r (after_atom s)) (sym is) (one_atom_more start count i read s l h))

pub atoms_done : (start : List ℕ) (count : ℕ) (read : List Atom) (s : List ℕ) → AtomsTaken start count count read s → read ≡ atoms_in count start
atoms_done start count read s h = sym (append-nil read) ∙ ap (λ k. read ++ atoms_in k s) (sym (none count)) ∙ h.value
