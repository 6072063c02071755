-- Lists of conjunctions in boxes.
use Rattle.std.proofs.Common.{◌≡◌, ℕ, zero, suc, ◌<◌, Bool, List, [], ◌∷◌, ◌++◌, Vec, Global, length, take, get_or, arith, refl, sym, ap, ◌∙◌, subst}
use Rattle.std.specs.List.{AllByRecursion}
use Rattle.ded_model.specs.declared.slot.Slot.{Slot}
use Rattle.ded_model.specs.Point.{Point}
use Rattle.ded_genrel.specs.Lists.{conjs_of, AreNormal}
use Rattle.ded_genrel.specs.Rounds.{IsRound}
use Rattle.ded_complement.specs.declared.boxed.Boxed.{Boxed}
use Rattle.ded_complement.specs.Boxed.{conjs_in, IsBoxed, AreBoxed}

module _ {A : Type 0} where
  pub conjs_in-append : (xs ys : List (Boxed A)) → conjs_in (xs ++ ys) ≡ conjs_in xs ++ conjs_in ys
  conjs_in-append [] ys = refl
  conjs_in-append (x ∷ xs) ys = ap (λ zs. x.conj.items ∷ zs) (conjs_in-append xs ys)

  pub normal_in : (h : A → Point → Bool) (n : A → Type 0) (ss : List Slot) (bs : List (Boxed A)) → AreBoxed h n ss bs → AreNormal n (conjs_in bs)
  normal_in h n ss [] k = tt
  normal_in h n ss (b ∷ bs) k = (k.0.normal, normal_in h n ss bs k.1)

  pub normal_take : (n : A → Type 0) (k : ℕ) (xs : List (Vec A Global)) → AreNormal n (conjs_of xs) → AreNormal n (conjs_of (take k xs))
  normal_take n zero xs h = tt
  normal_take n (suc k) [] h = tt
  normal_take n (suc k) (x ∷ xs) h = (h.0, normal_take n k xs h.1)

  pub normal_in-at : (n : A → Type 0) (bs : List (Boxed A)) (i : ℕ) (b : Boxed A) → i < length bs → b ≡ get_or bs i b → AreNormal n (conjs_in bs) → AllByRecursion n b.conj.items
  normal_in-at n [] i b lt e h = absurd (omega (arith, lt))
  normal_in-at n (x ∷ bs) zero b lt e h = subst (λ (z : Boxed A). AllByRecursion n z.conj.items) (sym e) h.0
  normal_in-at n (x ∷ bs) (suc i) b lt e h = normal_in-at n bs i b (omega (arith, lt)) e h.1

  -- the conjunction in a box
  pub is_boxed : (h : A → Point → Bool) (n : A → Type 0) (ss : List Slot) (b : Boxed A) (conj : List A) → b.conj.items ≡ conj → AllByRecursion n conj → IsRound h ss conj b.bounds → IsBoxed h n ss b
  is_boxed h n ss b conj e k r = record { normal = subst (AllByRecursion n) (sym e) k; round = subst (λ c. IsRound h ss c b.bounds) (sym e) r }

  -- one more at the end
  pub longer_by : (old new : List (Boxed A)) (done next : List (List A)) (b : Boxed A) (conj : List A) → new ≡ old ++ b ∷ [] → b.conj.items ≡ conj → conjs_in old ≡ done → next ≡ done ++ conj ∷ [] → conjs_in new ≡ next
  longer_by old new done next b conj e f g k = ap conjs_in e ∙ conjs_in-append old (b ∷ []) ∙ ap (λ xs. xs ++ b.conj.items ∷ []) g ∙ ap (λ c. done ++ c ∷ []) f ∙ sym k

  -- the same lists under other names
  pub boxed_in : (h : A → Point → Bool) (n : A → Type 0) (slots old new : List Slot) (xs ys : List (Boxed A)) → old ≡ slots → new ≡ slots → ys ≡ xs → AreBoxed h n old xs → AreBoxed h n new ys
  boxed_in h n slots old new xs ys e f g k = subst (AreBoxed h n new) (sym g) (subst (λ ss. AreBoxed h n ss xs) (e ∙ sym f) k)
