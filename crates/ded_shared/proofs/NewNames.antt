-- Names that are added to others.
use Rattle.std.proofs.Common.{◌≡◌, ℕ, Bool, ◌||◌, true, false, List, [], ◌∷◌, ◌++◌, refl, sym, ap, ◌∙◌, bytes_eq}
use Rattle.std.proofs.Math.Bool.{or-false}
use Rattle.std.proofs.lemmas.List.{append_assoc}
use Rattle.std.proofs.lemmas.Slice.Eq.{bytes_eq-Decides}
use Rattle.ded_model.proofs.Bools.{or_assoc}
use Rattle.ded_shared.specs.State.{is_among}
use Rattle.ded_shared.proofs.ClosedNames.{among_more}

-- some are added behind the names, and then those that were to be added are among them
pub record AreAdded (old taken names : List (List ℕ)) : Type 0 where
  pub added : List (List ℕ)
  pub is : names ≡ old ++ added
  pub among : (n : List ℕ) → is_among names n ≡ (is_among old n || is_among taken n)

or_true : (a : Bool) → (a || true) ≡ true
or_true true = refl
or_true false = refl

-- a name is added, and the next of those to add
pub name_added : (old names new taken next : List (List ℕ)) (x : List ℕ) → new ≡ names ++ x ∷ [] → next ≡ taken ++ x ∷ [] → AreAdded old taken names → AreAdded old next new
name_added old names new taken next x e f h = record {
  added = h.added ++ x ∷ [];
  is = e ∙ ap (λ l. l ++ x ∷ []) h.is ∙ append_assoc old h.added (x ∷ []);
  among = λ n.
      ap (λ l. is_among l n) e ∙ among_more names x n ∙ ap (λ b. b || bytes_eq n x) (h.among n) ∙ or_assoc (is_among old n) (is_among taken n) (bytes_eq n x)
      ∙ ap (λ b. is_among old n || b) (sym (among_more taken x n)) ∙ ap (λ l. is_among old n || is_among l n) (sym f);
}

-- a name that is there already is next
pub name_there : (old names taken next : List (List ℕ)) (x : List ℕ) → is_among names x ≡ true → next ≡ taken ++ x ∷ [] → AreAdded old taken names → AreAdded old next names
name_there old names taken next x there f h = record { added = h.added; is = h.is; among = among }
  where
    by : (n : List ℕ) (b : Bool) → bytes_eq n x ≡ b → is_among names n ≡ ((is_among old n || is_among taken n) || bytes_eq n x)
    by n true e =
        ap (λ m. is_among names m) ((bytes_eq-Decides n x).0 e) ∙ there ∙ sym (ap (λ b. (is_among old n || is_among taken n) || b) e ∙ or_true (is_among old n || is_among taken n))
    by n false e = h.among n ∙ sym (ap (λ b. (is_among old n || is_among taken n) || b) e ∙ or-false (is_among old n || is_among taken n))

    among : (n : List ℕ) → is_among names n ≡ (is_among old n || is_among next n)
    among n = by n (bytes_eq n x) refl ∙ or_assoc (is_among old n) (is_among taken n) (bytes_eq n x) ∙ ap (λ b. is_among old n || b) (sym (among_more taken x n)) ∙ ap (λ l. is_among old n || is_among l n) (sym f)
