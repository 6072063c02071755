-- A conjunction without atoms that its last one implies holds alike.
use Rattle.std.proofs.Common.{◌≡◌, Bool, true, false, ◌&&◌, List, [], ◌∷◌, ◌++◌, refl, sym, ap, ◌∙◌, subst}
use Rattle.std.specs.List.{AllByRecursion}
use Rattle.ded_model.specs.Point.{Point, IsPoint}
use Rattle.ded_model.specs.Cell.{conj_holds}
use Rattle.ded_theory.proofs.Conjunctions.{conj_holds-append}
use Rattle.ded_genrel.proofs.Items.{all-push}
use Rattle.ded_complement.specs.Pieces.{AreAmong, IsAlike}
use Rattle.ded_complement.proofs.PieceLaws.{among_front, among_both, among_self}
use Rattle.std.proofs.Math.Bool.{and-true}

and_swap : (k a l : Bool) → ((k && a) && l) ≡ ((k && l) && a)
and_swap true true true = refl
and_swap true true false = refl
and_swap true false true = refl
and_swap true false false = refl
and_swap false a l = refl

and_implied : (d a l : Bool) → (l ≡ true → a ≡ true) → (d && l) ≡ ((d && a) && l)
and_implied true true l k = refl
and_implied true false true k = sym (k refl)
and_implied true false false k = refl
and_implied false a l k = refl

module _ {A : Type 0} (h : A → Point → Bool) where
  pub alike_same : (c d : List A) → d ≡ c → IsAlike h c d
  alike_same c d e = subst (IsAlike h c) (sym e) (record { holds = λ p i. refl; among = among_self c })

  module _ (n : A → Type 0) where
    -- of the atoms that are done some are kept; together with the last one they hold alike
    pub record Shortened (last : A) (done kept : List A) : Type 0 where
      pub holds : (p : Point) → IsPoint p → (conj_holds h kept p && h last p) ≡ (conj_holds h done p && h last p)
      pub among : AreAmong done kept
      pub all_normal : AllByRecursion n kept

    pub shortened_none : (last : A) (kept : List A) → kept ≡ [] → Shortened last [] kept
    shortened_none last kept e = subst (Shortened last []) (sym e) (record { holds = λ p i. refl; among = tt; all_normal = tt })

    push : (xs : List A) (a : A) (p : Point) → conj_holds h (xs ++ a ∷ []) p ≡ (conj_holds h xs p && h a p)
    push xs a p = conj_holds-append h xs (a ∷ []) p ∙ ap (λ b. conj_holds h xs p && b) (and-true (h a p))

    -- an atom that is kept
    pub shortened_kept : (last : A) (done next kept new : List A) (a : A) → next ≡ done ++ a ∷ [] → new ≡ kept ++ a ∷ [] → n a → Shortened last done kept → Shortened last next new
    shortened_kept last done next kept new a e f k s = subst (λ xs. Shortened last xs new) (sym e) (subst (Shortened last (done ++ a ∷ [])) (sym f) (record {
      holds = λ p i. ap (λ b. b && h last p) (push kept a p) ∙ and_swap (conj_holds h kept p) (h a p) (h last p) ∙ ap (λ b. b && h a p) (s.holds p i)
          ∙ sym (and_swap (conj_holds h done p) (h a p) (h last p)) ∙ ap (λ b. b && h last p) (sym (push done a p));
      among = among_both done (a ∷ []) kept (a ∷ []) s.among (among_self (a ∷ []));
      all_normal = all-push n kept a s.all_normal k;
    }))

    -- and one that the last one implies
    pub shortened_dropped : (last : A) (done next kept : List A) (a : A) → next ≡ done ++ a ∷ [] → ((p : Point) → IsPoint p → h last p ≡ true → h a p ≡ true) → Shortened last done kept → Shortened last next kept
    shortened_dropped last done next kept a e z s = subst (λ xs. Shortened last xs kept) (sym e) (record {
      holds = λ p i. s.holds p i ∙ and_implied (conj_holds h done p) (h a p) (h last p) (z p i) ∙ ap (λ b. b && h last p) (sym (push done a p));
      among = among_front done (a ∷ []) kept s.among;
      all_normal = s.all_normal;
    })

    -- with the last one
    pub shortened_alike : (last : A) (rest kept new : List A) → new ≡ kept ++ last ∷ [] → Shortened last rest kept → IsAlike h (rest ++ last ∷ []) new
    shortened_alike last rest kept new e s = subst (IsAlike h (rest ++ last ∷ [])) (sym e) (record {
      holds = λ p i. push kept last p ∙ s.holds p i ∙ sym (push rest last p);
      among = among_both rest (last ∷ []) kept (last ∷ []) s.among (among_self (last ∷ []));
    })
