-- The pairs that are kept of a meet, and what is no longer than they are.
use Rattle.std.proofs.Common.{◌≡◌, ℕ, ◌<◌, ◌≤◌, ◌⊎◌, max, ℤ, Bool, ◌||◌, List, [], ◌∷◌, ◌++◌, length, inl, inr, arith, refl, sym, ap, ◌∙◌, subst}
use Rattle.std.specs.List.{AllByRecursion}
use Rattle.ded_model.specs.declared.slot.Slot.{Slot}
use Rattle.ded_model.specs.Point.{Point}
use Rattle.ded_model.specs.Cell.{conj_holds, HoldsSomewhere, HasCells}
use Rattle.ded_model.specs.Lines.{Line, In}
use Rattle.ded_theory.specs.Conjunctions.{conj_mentions, conj_lines, IsWide}
use Rattle.ded_theory.proofs.Conjunctions.{conj_mentions-append}
use Rattle.ded_theory.proofs.Parted.{wide_more}
use Rattle.ded_genrel.specs.Lists.{conjs_mention, conjs_lines}
use Rattle.ded_genrel.specs.Operations.{IsMeet}
use Rattle.ded_genrel.proofs.Items.{all-append}
use Rattle.ded_genrel.proofs.Laws.{conj_lines-append}
use Rattle.ded_complement.specs.Pieces.{all_atoms, IsListForEach}
use Rattle.ded_complement.proofs.PieceLaws.{all_atoms-mention, all_atoms-lines}
use Rattle.ded_complement.proofs.NarrowLists.{none_wide}
use Rattle.ded_join.specs.Kept.{IsKeptMeet, IsShorter}
use Rattle.ded_join.specs.Merged.{AllInhabited, IsCondensed}
use Rattle.ded_join.proofs.Kept.{kept_is, kept_hold}

-- pieces for each conjunction are inhabited
pub pieces_inhabited : {A : Type 0} (h : A → Point → Bool) (cell : A → Point → ℤ) (atoms : List A) (xs out : List (List A))
    → IsListForEach (λ ps. HasCells cell atoms (length ps) × AllByRecursion (λ c. HoldsSomewhere (conj_holds h c)) ps) xs out → AllInhabited h out
pieces_inhabited h cell atoms [] out e = subst (AllInhabited h) (sym e) tt
pieces_inhabited h cell atoms (x ∷ xs) out e =
    subst (AllInhabited h) (sym e.2) (all-append (λ c. HoldsSomewhere (conj_holds h c)) e.0 e.1 e.3.1 (pieces_inhabited h cell atoms xs e.1 e.4))

-- what holds unless something is so, where that is never so
all_where : {A : Type 0} (P Q : A → Type 0) (xs : List A) → AllByRecursion (λ x. (P x → ⊥) → Q x) xs → AllByRecursion (λ x. P x → ⊥) xs → AllByRecursion Q xs
all_where P Q [] h k = tt
all_where P Q (x ∷ xs) h k = (h.0 k.0, all_where P Q xs h.1 k.1)

module _ {A : Type 0} (h : A → Point → Bool) (m : A → Slot → Bool) (l : A → List Line) where
  -- a meet is wide only where the atoms of both lists are
  wide_meet : (xs ys out : List (List A)) → IsMeet h m l xs ys out → IsWide m l (all_atoms out) → IsWide m l (all_atoms xs ++ all_atoms ys)
  wide_meet xs ys out r =
      let us = all_atoms xs in
      let vs = all_atoms ys in
      let lines : conj_lines l (us ++ vs) ≡ conjs_lines l xs ++ conjs_lines l ys = conj_lines-append l us vs ∙ ap (λ ls. ls ++ conj_lines l vs) (all_atoms-lines l xs) ∙ ap (λ ls. conjs_lines l xs ++ ls) (all_atoms-lines l ys) in
      wide_more m l m l (all_atoms out) (us ++ vs)
      (λ x i. subst (λ ls. In x ls) (sym lines) (r.lines x (subst (λ ls. In x ls) (all_atoms-lines l out) i)))
      (λ s e.
      conj_mentions-append m us vs s ∙ ap (λ b. b || conj_mentions m vs s) (all_atoms-mention m xs s) ∙ ap (λ b. conjs_mention m xs s || b) (all_atoms-mention m ys s) ∙ r.slots s (sym (all_atoms-mention m out s) ∙ e))

  module _ (ss : List Slot) (xs ys pairs : List (List A)) (old new : ℕ) where
    -- the pairs that are kept are inhabited
    pairs_inhabited : IsKeptMeet h m l ss xs ys pairs old new → (IsWide m l (all_atoms xs ++ all_atoms ys) → ⊥) → AllInhabited h pairs
    pairs_inhabited k n =
        all_where (IsWide m l) (λ c. HoldsSomewhere (conj_holds h c)) pairs (kept_hold h m l ss xs ys pairs old new k) (none_wide m l pairs (λ w. n (wide_meet xs ys pairs (kept_is h m l ss xs ys pairs old new k) w)))

    -- the pairs themselves
    pub shorter_same : IsKeptMeet h m l ss xs ys pairs old new → IsShorter h m l ss xs ys pairs old new
    shorter_same k = record { pairs = pairs; kept = k; large = λ _. refl; short = λ _. refl; no_more = omega arith; inhabited = pairs_inhabited k }

    -- the pairs condensed, where they are more than both lists have
    pub shorter_condensed : (out : List (List A)) (most : ℕ) → most ≡ max (length xs) (length ys) → length (all_atoms ys) ≤ 32 → IsKeptMeet h m l ss xs ys pairs old new → IsCondensed h m l pairs out → (length pairs ≤ most → out ≡ pairs)
        → IsShorter h m l ss xs ys out old new
    shorter_condensed out most e small k r s = record {
      pairs = pairs;
      kept = k;
      large = λ long. absurd (omega (arith, small, long));
      short = λ f. s (within (length pairs) (length xs) (length ys) most e f);
      no_more = r.no_more;
      inhabited = λ n. r.inhabited (pairs_inhabited k n);
    }
      where
        within : (n i j most : ℕ) → most ≡ max i j → (n ≤ i) ⊎ (n ≤ j) → n ≤ most
        within n i j most e (inl a) = omega (arith, e, a)
        within n i j most e (inr b) = omega (arith, e, b)

    -- pieces that are fewer than the pairs condensed, where these are more than both lists have
    pub shorter_pieces : (short out : List (List A)) → length (all_atoms ys) ≤ 32 → IsKeptMeet h m l ss xs ys pairs old new → IsCondensed h m l pairs short → (length xs < length short) × (length ys < length short) → length out < length short
        → ((IsWide m l (all_atoms xs ++ all_atoms ys) → ⊥) → AllInhabited h out) → IsShorter h m l ss xs ys out old new
    shorter_pieces short out small k r grown fewer inhabited = record {
      pairs = pairs;
      kept = k;
      large = λ long. absurd (omega (arith, small, long));
      short = λ f. absurd (neither (length pairs) (length short) (length xs) (length ys) r.no_more grown.0 grown.1 f);
      no_more = omega (arith, r.no_more, fewer);
      inhabited = inhabited;
    }
      where
        neither : (n k i j : ℕ) → k ≤ n → i < k → j < k → (n ≤ i) ⊎ (n ≤ j) → ⊥
        neither n k i j e a b (inl f) = omega (arith, e, a, f)
        neither n k i j e a b (inr f) = omega (arith, e, b, f)
