-- Coefficients and atoms that are put from the last to the first.
use Rattle.std.proofs.Common.{◌≡◌, ℕ, zero, suc, ◌+◌, ◌-◌, ◌<◌, List, [], ◌∷◌, length, get_or, drop, arith, sym, ap, ◌∙◌, subst}
use Rattle.std.specs.Prelude.{ℤ}
use Rattle.std.proofs.lemmas.List.{drop_more, drop_all}
use Rattle.ded_model.specs.declared.slot.Sort.TheVariants.{Rat}
use Rattle.ded_model.specs.declared.slot.Slot.{Slot}
use Rattle.ded_model.specs.Coefs.{AreCoefs}
use Rattle.ded_model.specs.Normal.{IsNormalAtom, IsNormalTuple}
use Rattle.ded_model.specs.Row.{Atom}
use Rattle.ded_model.proofs.CoefLists.{drop-kept}
use Rattle.ded_packed.specs.Numbers.{natural_in, after_natural, whole_in}
use Rattle.ded_packed.specs.Atoms.{coefs_in, after_coefs, CoefsFit, after_atom, atoms_in, AtomsFit}
use Rattle.ded_packed.specs.Putting.{IsPutCoef, CoefsPut, IsPut, AtomsPut}

-- one more than those behind a place
count : {A : Type 0} (xs : List A) (i : ℕ) → i < length xs → length xs - i ≡ suc (length xs - (i + 1))
count xs i h = omega (arith, h)

-- ---- coefficients

pub no_coefs : (cs : List (Slot × ℤ)) (s : List ℕ) → CoefsPut cs (length cs) s s
no_coefs cs s =
    let none : length cs - length cs ≡ 0 = omega arith in
    record {
      value = ap (λ k. coefs_in k s) none ∙ sym (drop_all (length cs) cs (omega arith));
      left = ap (λ k. after_coefs k s) none;
      fits = subst (λ k. CoefsFit k s) (sym none) tt;
    }

same_coef : (c : Slot × ℤ) (n : ℕ) (z : ℤ) → c.0.sort ≡ Rat → n ≡ c.0.number → z ≡ c.1 → (record { number = n; sort = Rat }, z) ≡ c
same_coef c n z s e f = ap (λ t. (record { number = n; sort = t }, z)) (sym s) ∙ ap (λ m. (record { number = m; sort = c.0.sort }, z)) e ∙ ap (λ y. (c.0, y)) f

-- the coefficient at a place
pub coef_at_place : (cs : List (Slot × ℤ)) (i : ℕ) (d : Slot × ℤ) → i < length cs → AreCoefs cs → AreCoefs (get_or cs i d ∷ drop (i + 1) cs)
coef_at_place cs i d l h = subst AreCoefs (drop_more cs i d l) (drop-kept cs i h)

pub one_more_coef : (cs : List (Slot × ℤ)) (i : ℕ) (d : Slot × ℤ) (old mid new : List ℕ) → i < length cs → AreCoefs cs → CoefsPut cs (i + 1) old mid → IsPutCoef (get_or cs i d) mid new → CoefsPut cs i old new
one_more_coef cs i d old mid new l h p q =
    let one : length cs - i ≡ suc (length cs - (i + 1)) = count cs i l in
    let c = get_or cs i d in
    record {
      value = ap (λ k. coefs_in k new) one
          ∙ ap (λ x. x ∷ coefs_in (length cs - (i + 1)) (after_natural (after_natural new))) (same_coef c (natural_in new) (whole_in (after_natural new)) (coef_at_place cs i d l h).0 q.slot q.number)
          ∙ ap (λ s. c ∷ coefs_in (length cs - (i + 1)) s) q.left
          ∙ ap (λ xs. c ∷ xs) p.value
          ∙ sym (drop_more cs i d l);
      left = ap (λ k. after_coefs k new) one ∙ ap (after_coefs (length cs - (i + 1))) q.left ∙ p.left;
      fits = subst (λ k. CoefsFit k new) (sym one) (q.slot_fits, q.number_fits, subst (CoefsFit (length cs - (i + 1))) (sym q.left) p.fits);
    }

-- ---- atoms

pub no_atoms : (atoms : List Atom) (s : List ℕ) → AtomsPut atoms (length atoms) s
no_atoms atoms s =
    let none : length atoms - length atoms ≡ 0 = omega arith in
    record {
      value = ap (λ k. atoms_in k s) none ∙ sym (drop_all (length atoms) atoms (omega arith));
      fits = subst (λ k. AtomsFit k s) (sym none) tt;
    }

normal_from : (atoms : List Atom) (i : ℕ) → IsNormalTuple atoms → IsNormalTuple (drop i atoms)
normal_from atoms zero h = h
normal_from [] (suc i) h = tt
normal_from (a ∷ atoms) (suc i) h = normal_from atoms i h.2

-- the atom at a place
pub atom_at_place : (atoms : List Atom) (i : ℕ) (a : Atom) → i < length atoms → a ≡ get_or atoms i a → IsNormalTuple atoms → IsNormalAtom a
atom_at_place atoms i a l e h = subst IsNormalAtom (sym e) (subst IsNormalTuple (drop_more atoms i a l) (normal_from atoms i h)).0

pub one_more_atom : (atoms : List Atom) (i : ℕ) (d : Atom) (mid new : List ℕ) → i < length atoms → AtomsPut atoms (i + 1) mid → IsPut (get_or atoms i d) mid new → AtomsPut atoms i new
one_more_atom atoms i d mid new l p q =
    let one : length atoms - i ≡ suc (length atoms - (i + 1)) = count atoms i l in
    let a = get_or atoms i d in
    record {
      value = ap (λ k. atoms_in k new) one
          ∙ ap (λ x. x ∷ atoms_in (length atoms - (i + 1)) (after_atom new)) q.value
          ∙ ap (λ s. a ∷ atoms_in (length atoms - (i + 1)) s) q.left
          ∙ ap (λ xs. a ∷ xs) p.value
          ∙ sym (drop_more atoms i d l);
      fits = subst (λ k. AtomsFit k new) (sym one) (q.fits, subst (AtomsFit (length atoms - (i + 1))) (sym q.left) p.fits);
    }
