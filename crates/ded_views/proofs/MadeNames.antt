-- A name that is made of another means the same where that one does.
--
-- What is near some arguments has as many of them, with the same texts, so only such arguments count.
use Rattle.std.proofs.Common.{◌≡◌, ℕ, suc, ◌<◌, false, List, [], ◌∷◌, length, ap, ◌∙◌, subst, refl}
use Rattle.std.specs.Prelude.{◌↔◌}
use Rattle.ded_model.specs.Point.{AllBytes}
use Rattle.ded_model.specs.Value.{Argument, Meaning}
use Rattle.ded_model.specs.Made.{Reading, itself, closure_of, interior_of, reading, base_by, base, is_made}
use Rattle.ded_model.specs.Near.{AreNear, IsClose, IsInside}
use Rattle.ded_model.specs.Catalogue.{Catalogue, read_as, stored, meaning}
use Rattle.ded_model.proofs.Entries.{meaning-plain}
use Rattle.ded_views.specs.Same.{AreByteArguments, MeansSame, IsSameOf}

-- ---- what is near

pub near_bytes : (m k d e : ℕ) (xs ys : List Argument) → AreNear m k d e xs ys → AreByteArguments xs → AreByteArguments ys
near_bytes m k d e [] [] n h = tt
near_bytes m k d e [] (y ∷ ys) n h = absurd n
near_bytes m k d e (x ∷ xs) [] n h = absurd n
near_bytes m k d e (x ∷ xs) (y ∷ ys) n h = (subst AllBytes n.1 h.0, near_bytes m k d e xs ys n.2 h.1)

pub near_length : (m k d e : ℕ) (xs ys : List Argument) → AreNear m k d e xs ys → length ys ≡ length xs
near_length m k d e [] [] n = refl
near_length m k d e [] (y ∷ ys) n = absurd n
near_length m k d e (x ∷ xs) [] n = absurd n
near_length m k d e (x ∷ xs) (y ∷ ys) n = ap suc (near_length m k d e xs ys n.2)

-- ---- closures and interiors

-- of the same arguments the same is close, and the same is inside
module _ (k : ℕ) (R S : ℕ → List Argument → Type 0) (f : (den : ℕ) (xs : List Argument) → 0 < den → AreByteArguments xs → length xs ≡ k → R den xs → S den xs) where
  close_on : (den : ℕ) (xs : List Argument) → AreByteArguments xs → length xs ≡ k → IsClose R den xs → IsClose S den xs
  close_on den xs b l h m i p q =
      let w = h m i p q in
      (w.0, w.1, w.2, w.3, f w.0 w.1 w.2 (near_bytes m i den w.0 xs w.1 w.3 b) (near_length m i den w.0 xs w.1 w.3 ∙ l) w.4)

  inside_on : (den : ℕ) (xs : List Argument) → AreByteArguments xs → length xs ≡ k → IsInside R den xs → IsInside S den xs
  inside_on den xs b l h =
      (h.0, h.1, h.2, h.3, λ e ys p n. f e ys p (near_bytes h.0 h.1 den e xs ys n b) (near_length h.0 h.1 den e xs ys n ∙ l) (h.4 e ys p n))

pub close_of : (k : ℕ) (R S : ℕ → List Argument → Type 0) → IsSameOf k R S → IsSameOf k (IsClose R) (IsClose S)
close_of k R S f den xs p b l = (close_on k R S (λ e ys q c i. (f e ys q c i).0) den xs b l, close_on k S R (λ e ys q c i. (f e ys q c i).1) den xs b l)

pub inside_of : (k : ℕ) (R S : ℕ → List Argument → Type 0) → IsSameOf k R S → IsSameOf k (IsInside R) (IsInside S)
inside_of k R S f den xs p b l = (inside_on k R S (λ e ys q c i. (f e ys q c i).0) den xs b l, inside_on k S R (λ e ys q c i. (f e ys q c i).1) den xs b l)

-- ---- names

read_of : (I J : Meaning) (n : List ℕ) (r : Reading) (k : ℕ) → IsSameOf k (I (base_by n r)) (J (base_by n r)) → IsSameOf k (read_as I n r) (read_as J n r)
read_of I J n itself k f = f
read_of I J n (closure_of m) k f = close_of k (I m) (J m) f
read_of I J n (interior_of m) k f = inside_of k (I m) (J m) f

-- a name means the same where what stands under the name that it is made of does
pub stored_same : (c d : Catalogue) (n : List ℕ) (k : ℕ) → IsSameOf k (stored c (base n)) (stored d (base n)) → IsSameOf k (meaning c n) (meaning d n)
unfolding meaning
stored_same c d n k f = read_of (stored c) (stored d) n (reading n) k f

-- a name that isn't made of another one means what stands under it
pub plain_same : (c : Catalogue) (n : List ℕ) → is_made n ≡ false → (den : ℕ) (xs : List Argument) → meaning c n den xs ↔ stored c n den xs
plain_same c n p den xs = meaning-plain c n den xs p

-- where the name that it is made of isn't made itself, what that one means decides
pub made_same : (c d : Catalogue) (n : List ℕ) (k : ℕ) → is_made (base n) ≡ false → IsSameOf k (meaning c (base n)) (meaning d (base n)) → IsSameOf k (meaning c n) (meaning d n)
made_same c d n k p f = stored_same c d n k (λ den xs i b l.
    let same = f den xs i b l in
    let here = plain_same c (base n) p den xs in
    let there = plain_same d (base n) p den xs in
    (λ s. there.0 (same.0 (here.1 s)), λ s. here.0 (same.1 (there.1 s))))

-- or what is given of it
pub given_same : (c d : Catalogue) (n : List ℕ) (k : ℕ) → is_made (base n) ≡ false → IsSameOf k (stored c (base n)) (meaning d (base n)) → IsSameOf k (meaning c n) (meaning d n)
given_same c d n k p f = stored_same c d n k (λ den xs i b l.
    let same = f den xs i b l in
    let there = plain_same d (base n) p den xs in
    (λ s. there.0 (same.0 s), λ s. same.1 (there.1 s)))

-- of any number of arguments
pub made_means : (c d : Catalogue) (n : List ℕ) → is_made (base n) ≡ false → MeansSame c d (base n) → MeansSame c d n
made_means c d n p f den xs i b = made_same c d n (length xs) p (λ e ys j h l. f e ys j h) den xs i b refl
