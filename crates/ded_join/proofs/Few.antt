-- A list is few where it isn't long, and where it is no longer than pieces of conjunctions.
use Rattle.std.proofs.Common.{◌≡◌, ◌⊎◌, ℕ, suc, ◌+◌, ◌*◌, ◌-◌, ◌^◌, ◌<◌, ◌≤◌, ℤ, length, min, max, leb, Bool, true, false, List, [], ◌∷◌, ◌++◌, Vec, Global, arith, refl, sym, ap, ◌∙◌, subst, inl, inr, true≢false}
use Rattle.std.proofs.Math.Nat.{mul-le-mul_left}
use Rattle.std.proofs.lemmas.List.{length-append}
use Rattle.std.proofs.lemmas.Bool.Decides.{leb_tells}
use Rattle.ded_model.specs.Point.{Point}
use Rattle.ded_model.specs.Cell.{HasCells}
use Rattle.ded_genrel.specs.Lists.{conjs_of}
use Rattle.ded_complement.specs.Pieces.{all_atoms, IsListForEach}
use Rattle.ded_join.specs.Few.{IsFew}
use Rattle.ded_join.proofs.Joined.{conjs_count}

-- ---- counts of atoms

-- one number is at most the other, or more
at_most_or_more : (m n : ℕ) → (m ≤ n) ⊎ (n < m)
at_most_or_more m n = elim (leb_tells m n) [ inl h ↦ inl h.1 | inr h ↦ inr h.1 ]

-- the atoms of one more conjunction are counted, up to the greatest number
pub counted_more : {A : Type 0} (done next : List (List A)) (c : List A) (old new : ℕ) → next ≡ done ++ c ∷ [] → old ≡ min (length (all_atoms done)) (2 ^ 64 - 1) → new ≡ min (old + length c) (2 ^ 64 - 1)
    → new ≡ min (length (all_atoms next)) (2 ^ 64 - 1)
counted_more done next c old new e f k =
    k ∙ ap (λ n. min (n + length c) (2 ^ 64 - 1)) f ∙ sum (length (all_atoms done)) (length c) ∙ ap (λ n. min n (2 ^ 64 - 1)) (sym (ap (λ xs. length (all_atoms xs)) e ∙ long done c))
  where
    long : {A : Type 0} (xs : List (List A)) (c : List A) → length (all_atoms (xs ++ c ∷ [])) ≡ length (all_atoms xs) + length c
    long [] c = length-append c [] ∙ omega arith
    long (x ∷ xs) c = length-append x (all_atoms (xs ++ c ∷ [])) ∙ ap (λ n. length x + n) (long xs c) ∙ omega (arith, length-append x (all_atoms xs))

    sum : (n m : ℕ) → min (min n (2 ^ 64 - 1) + m) (2 ^ 64 - 1) ≡ min (n + m) (2 ^ 64 - 1)
    sum n m = omega arith

-- a count up to the greatest number is at most 32 where the number is
pub small_count : (n : ℕ) → leb (min n (2 ^ 64 - 1)) 32 ≡ leb n 32
small_count n = elim (leb_tells n 32) [
  | inl h ↦ elim (leb_tells (min n (2 ^ 64 - 1)) 32) [ inl k ↦ k.0 ∙ sym h.0 | inr k ↦ absurd (omega (arith, h.1, k.1)) ]
  | inr h ↦ elim (leb_tells (min n (2 ^ 64 - 1)) 32) [ inl k ↦ absurd (omega (arith, h.1, k.1)) | inr k ↦ k.0 ∙ sym h.0 ]
]

-- ---- lengths

module _ {A : Type 0} (cell : A → Point → ℤ) where
  no_cells : (atoms : List A) → HasCells cell atoms 0
  no_cells atoms = record { points = []; count = refl; positive = λ k lt d. absurd (omega (arith, lt)); differ = λ i j lt le d e. omega (arith, le) }

  -- a list that isn't long
  pub few_short : (xs ys out : List (List A)) → (32 < length out → length xs < length out → length ys < length out → ⊥) → IsFew cell xs ys out
  few_short xs ys out k = record { cells = 0; realised = no_cells (all_atoms xs ++ all_atoms ys); few = λ i j n. absurd (k i j n) }

  -- the greatest count of cells of the lists for each conjunction bounds all of them
  pub record Bounded (atoms : List A) (xs out : List (List A)) : Type 0 where
    pub cells : ℕ
    pub realised : HasCells cell atoms cells
    pub long : length out ≤ length xs * cells

  bounded : (Q : List (List A) → Type 0) (atoms : List A) (xs out : List (List A)) → IsListForEach (λ ps. HasCells cell atoms (length ps) × Q ps) xs out → Bounded atoms xs out
  bounded Q atoms [] out e = record { cells = 0; realised = no_cells atoms; long = subst (λ ps. length ps ≤ 0) (sym e) (omega arith) }
  bounded Q atoms (x ∷ xs) out e =
      let rest = bounded Q atoms xs e.1 e.4 in
      let sum = ap length e.2 ∙ length-append e.0 e.1 in
      elim (at_most_or_more (length e.0) rest.cells) [
        | inl h ↦ record { cells = rest.cells; realised = rest.realised; long = one_more (length out) (length e.0) (length e.1) rest.cells (length xs) sum h rest.long }
        | inr h ↦ record { cells = length e.0; realised = e.3.0; long = grown (length out) (length e.0) (length e.1) rest.cells (length xs) sum h rest.long }
      ]
    where
      one_more : (o p r n k : ℕ) → o ≡ p + r → p ≤ n → r ≤ k * n → o ≤ suc k * n
      one_more o p r n k e h i = omega (arith, e, h, i)

      grown : (o p r n k : ℕ) → o ≡ p + r → n < p → r ≤ k * n → o ≤ suc k * p
      grown o p r n k e h i = let j : k * n ≤ k * p = mul-le-mul_left k (omega (arith, h)) in omega (arith, e, i, j)

  -- one that is no longer than lists for each conjunction
  pub few_by_pieces : (Q : List (List A) → Type 0) (xs ys pieces out : List (List A)) → IsListForEach (λ ps. HasCells cell (all_atoms xs ++ all_atoms ys) (length ps) × Q ps) xs pieces → length out ≤ length pieces → IsFew cell xs ys out
  few_by_pieces Q xs ys pieces out e k =
      let b = bounded Q (all_atoms xs ++ all_atoms ys) xs pieces e in
      record { cells = b.cells; realised = b.realised; few = λ _ _ _. omega (arith, k, b.long) }

-- a list isn't small: its atoms are more than 32
pub not_small : (n : ℕ) (b : Bool) → b ≡ leb n 32 → b ≡ false → n ≤ 32 → ⊥
not_small n b e f h = elim (leb_tells n 32) [ inl k ↦ true≢false (sym k.0 ∙ sym e ∙ f) | inr k ↦ omega (arith, h, k.1) ]

-- a list is small: its atoms are at most 32
pub small : (n : ℕ) (b : Bool) → b ≡ leb n 32 → b ≡ true → n ≤ 32
small n b e f = elim (leb_tells n 32) [ inl k ↦ k.1 | inr k ↦ absurd (true≢false (sym f ∙ e ∙ k.0)) ]

-- the lengths of lists and of what stands in them
pub no_longer : {A : Type 0} (xs ys : List (Vec A Global)) (cs ds : List (List A)) → conjs_of xs ≡ cs → conjs_of ys ≡ ds → length ys ≤ length xs → length ds ≤ length cs
no_longer xs ys cs ds e f h = omega (arith, h, sym (conjs_count xs) ∙ ap length e, sym (conjs_count ys) ∙ ap length f)

pub fewer : {A : Type 0} (xs ys : List (Vec A Global)) (cs ds : List (List A)) → conjs_of xs ≡ cs → conjs_of ys ≡ ds → length xs < length ys → length cs < length ds
fewer xs ys cs ds e f h = omega (arith, h, sym (conjs_count xs) ∙ ap length e, sym (conjs_count ys) ∙ ap length f)

pub longest : {A : Type 0} (xs ys : List (Vec A Global)) (cs ds : List (List A)) (most : ℕ) → conjs_of xs ≡ cs → conjs_of ys ≡ ds → most ≡ max (length xs) (length ys) → most ≡ max (length cs) (length ds)
longest xs ys cs ds most e f h = h ∙ ap (λ n. max n (length ys)) (sym (conjs_count xs) ∙ ap length e) ∙ ap (λ n. max (length cs) n) (sym (conjs_count ys) ∙ ap length f)
