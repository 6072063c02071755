-- Pieces cut in two, and what is near the halves.
--
-- A piece is cut at an atom of the list whose negation is one piece: what of it satisfies the negation, and what satisfies the atom.
-- These share no point and are all of the piece, so what of the one is outside of the list and what of the other is, one after
-- another, are what of the piece is. A conjunction of the list whose box shares no value with that of a half takes nothing away
-- from it.
use Rattle.std.proofs.Common.{◌≡◌, ℕ, zero, suc, ◌+◌, ◌<◌, ℤ, Bool, true, false, not, ◌&&◌, ◌||◌, List, [], ◌∷◌, ◌++◌, length, take, get_or, arith, refl, sym, ap, ap₂, ◌∙◌, subst, add-one, append_assoc, append-nil}
use Rattle.std.specs.List.{AllByRecursion}
use Rattle.ded_model.specs.declared.slot.Slot.{Slot}
use Rattle.ded_model.specs.declared.tuple.Negated.{Negated}
use Rattle.ded_model.specs.declared.tuple.Negated.TheVariants.{One}
use Rattle.ded_model.specs.Point.{Point, IsPoint}
use Rattle.ded_model.specs.Cell.{conj_holds, HoldsNowhere}
use Rattle.ded_model.specs.Lines.{Line}
use Rattle.ded_genrel.specs.Lists.{conjs_hold}
use Rattle.ded_genrel.proofs.Items.{all-append, all_weaker}
use Rattle.ded_complement.specs.declared.boxed.Boxed.{Boxed}
use Rattle.ded_complement.specs.declared.parts.Halves.{Halves}
use Rattle.ded_complement.specs.Boxed.{conjs_in}
use Rattle.ded_complement.specs.Parts.{conj_at, conjs_at, IsSameOutside, IsPart, AreHalves, AreCarved}
use Rattle.ded_complement.specs.Pieces.{all_atoms, IsAmong, AreAmong, IsAlike, ArePieces}
use Rattle.ded_complement.proofs.PieceLaws.{among_left, among_right, among_self, all_among, all_left, all_right, made_piece, made_append, made_among, made_alike, conj_push, conjs_push, pieces_same, more_trans}
use Rattle.ded_complement.proofs.Cutting.{IsNegation, Outside, AreOutside, passed, not_or, less_sum, less_apart}
use Rattle.std.proofs.Math.Seq.{take-suc}

-- a place of the list
pub place_below : (n : ℕ) (is : List ℕ) (k : ℕ) → k < length is → AllByRecursion (λ i. i < n) is → get_or is k 0 < n
place_below n [] k lt a = absurd (omega (arith, lt))
place_below n (i ∷ is) zero lt a = a.0
place_below n (i ∷ is) (suc k) lt a = place_below n is k (omega (arith, lt)) a.1

-- ---- tests

halves_apart : (c a : Bool) → ((c && not a) && (c && a)) ≡ false
halves_apart true true = refl
halves_apart true false = refl
halves_apart false a = refl

halves_all : (c a : Bool) → c ≡ ((c && not a) || (c && a))
halves_all true true = refl
halves_all true false = refl
halves_all false a = refl

module _ {A : Type 0} where
  -- ---- conjunctions at places

  conjs_at-append : (bs : List (Boxed A)) (is js : List ℕ) → conjs_at bs (is ++ js) ≡ conjs_at bs is ++ conjs_at bs js
  conjs_at-append bs [] js = refl
  conjs_at-append bs (i ∷ is) js = ap (λ cs. conj_at bs i ++ cs) (conjs_at-append bs is js) ∙ sym (append_assoc (conj_at bs i) (conjs_at bs is) (conjs_at bs js))

  pub conj_at-is : (bs : List (Boxed A)) (i : ℕ) (b : Boxed A) → i < length bs → b ≡ get_or bs i b → conj_at bs i ≡ b.conj.items ∷ []
  conj_at-is [] i b lt e = absurd (omega (arith, lt))
  conj_at-is (x ∷ bs) zero b lt e = ap (λ (z : Boxed A). z.conj.items ∷ []) (sym e)
  conj_at-is (x ∷ bs) (suc i) b lt e = conj_at-is bs i b (omega (arith, lt)) e

  conj_at-next : (bs : List (Boxed A)) (i : ℕ) → i < length bs → conjs_in (take (suc i) bs) ≡ conjs_in (take i bs) ++ conj_at bs i
  conj_at-next [] i lt = absurd (omega (arith, lt))
  conj_at-next (b ∷ bs) zero lt = refl
  conj_at-next (b ∷ bs) (suc i) lt = ap (λ cs. b.conj.items ∷ cs) (conj_at-next bs i (omega (arith, lt)))

  -- at the first places are the first conjunctions
  pub places_more : (bs : List (Boxed A)) (i : ℕ) (old new : List ℕ) → i < length bs → new ≡ old ++ i ∷ [] → conjs_at bs old ≡ conjs_in (take i bs) → conjs_at bs new ≡ conjs_in (take (i + 1) bs)
  places_more bs i old new lt e f =
      ap (conjs_at bs) e ∙ conjs_at-append bs old (i ∷ []) ∙ ap₂ (λ xs ys. xs ++ ys) f (append-nil (conj_at bs i)) ∙ sym (ap (λ k. conjs_in (take k bs)) (add-one i) ∙ conj_at-next bs i lt)

  -- the conjunction at one more place
  pub conjs_at-push : (bs : List (Boxed A)) (old new : List ℕ) (i : ℕ) (b : Boxed A) → new ≡ old ++ i ∷ [] → i < length bs → b ≡ get_or bs i b → conjs_at bs new ≡ conjs_at bs old ++ b.conj.items ∷ []
  conjs_at-push bs old new i b e lt f = ap (conjs_at bs) e ∙ conjs_at-append bs old (i ∷ []) ∙ ap (λ cs. conjs_at bs old ++ cs) (append-nil (conj_at bs i) ∙ conj_at-is bs i b lt f)

  pub conjs_at-to : (bs : List (Boxed A)) (is : List ℕ) (k : ℕ) (b : Boxed A) → k < length is → get_or is k 0 < length bs → b ≡ get_or bs (get_or is k 0) b → conjs_at bs (take (k + 1) is) ≡ conjs_at bs (take k is) ++ b.conj.items ∷ []
  conjs_at-to bs is k b lt below e = conjs_at-push bs (take k is) (take (k + 1) is) (get_or is k 0) b (ap (λ j. take j is) (add-one k) ∙ take-suc is k 0 lt) below e

  -- ---- their atoms

  all_atoms-append : (xs ys : List (List A)) → all_atoms (xs ++ ys) ≡ all_atoms xs ++ all_atoms ys
  all_atoms-append [] ys = refl
  all_atoms-append (x ∷ xs) ys = ap (λ zs. x ++ zs) (all_atoms-append xs ys) ∙ sym (append_assoc x (all_atoms xs) (all_atoms ys))

  -- what holds of the atoms of the list holds of those at the places
  all_at : (P : A → Type 0) (bs : List (Boxed A)) (i : ℕ) → AllByRecursion P (all_atoms (conjs_in bs)) → AllByRecursion P (all_atoms (conj_at bs i))
  all_at P [] i k = tt
  all_at P (b ∷ bs) zero k = all-append P b.conj.items [] (all_left P b.conj.items (all_atoms (conjs_in bs)) k) tt
  all_at P (b ∷ bs) (suc i) k = all_at P bs i (all_right P b.conj.items (all_atoms (conjs_in bs)) k)

  all_at_places : (P : A → Type 0) (bs : List (Boxed A)) (is : List ℕ) → AllByRecursion P (all_atoms (conjs_in bs)) → AllByRecursion P (all_atoms (conjs_at bs is))
  all_at_places P bs [] k = tt
  all_at_places P bs (i ∷ is) k = subst (AllByRecursion P) (sym (all_atoms-append (conj_at bs i) (conjs_at bs is)))
      (all-append P (all_atoms (conj_at bs i)) (all_atoms (conjs_at bs is)) (all_at P bs i k) (all_at_places P bs is k))

  -- the atoms of a conjunction of the list are among its atoms
  pub among_in : (bs : List (Boxed A)) (i : ℕ) (b : Boxed A) → i < length bs → b ≡ get_or bs i b → AreAmong (all_atoms (conjs_in bs)) b.conj.items
  among_in [] i b lt e = absurd (omega (arith, lt))
  among_in (x ∷ bs) zero b lt e =
      all_weaker (λ a. IsAmong b.conj.items a) (λ a. IsAmong (x.conj.items ++ all_atoms (conjs_in bs)) a) b.conj.items
      (λ a k. among_left x.conj.items (all_atoms (conjs_in bs)) a (subst (λ (z : Boxed A). IsAmong z.conj.items a) e k)) (among_self b.conj.items)
  among_in (x ∷ bs) (suc i) b lt e =
      all_weaker (λ a. IsAmong (all_atoms (conjs_in bs)) a) (λ a. IsAmong (x.conj.items ++ all_atoms (conjs_in bs)) a) b.conj.items (λ a k. among_right x.conj.items (all_atoms (conjs_in bs)) a k) (among_in bs i b (omega (arith, lt)) e)

module _ {A : Type 0} (h : A → Point → Bool) (m : A → Slot → Bool) (l : A → List Line) (cell : A → Point → ℤ) where
  -- ---- what is near

  -- one more of both lists
  pub near_more : (c : List A) (ds es dn en : List (List A)) (x : List A) → dn ≡ ds ++ x ∷ [] → en ≡ es ++ x ∷ [] → IsSameOutside h c ds es → IsSameOutside h c dn en
  near_more c ds es dn en x e f k = λ p i. push dn ds e p ∙ ap (λ b. b && not (conj_holds h x p)) (k p i) ∙ sym (push en es f p)
    where
      push : (xs ys : List (List A)) → xs ≡ ys ++ x ∷ [] → (p : Point) → (conj_holds h c p && not (conjs_hold h xs p)) ≡ ((conj_holds h c p && not (conjs_hold h ys p)) && not (conj_holds h x p))
      push xs ys g p = ap (λ zs. conj_holds h c p && not (conjs_hold h zs p)) g ∙ ap (λ b. conj_holds h c p && not b) (conjs_push h m l cell ys x p) ∙ sym (not_or (conj_holds h c p) (conjs_hold h ys p) (conj_holds h x p))

  -- one that shares no point with the piece
  pub near_passed : (c : List A) (ds es dn : List (List A)) (x : List A) → dn ≡ ds ++ x ∷ [] → HoldsNowhere (λ p. conj_holds h c p && conj_holds h x p) → IsSameOutside h c ds es → IsSameOutside h c dn es
  near_passed c ds es dn x e z k = λ p i.
      ap (λ zs. conj_holds h c p && not (conjs_hold h zs p)) e ∙ ap (λ b. conj_holds h c p && not b) (conjs_push h m l cell ds x p) ∙ passed (conj_holds h c p) (conjs_hold h ds p) (conj_holds h x p) (z p i) ∙ k p i

  -- ---- halves

  -- what of a conjunction satisfies the one piece of the negation, and what satisfies the atom
  pub halves_are : (n : A → Type 0) (ss : List Slot) (taken : List (Boxed A)) (c : List A) (r : Halves A) (a b : A) (k : Negated A) → k ≡ One b → IsNegation h m l cell a k
      → IsAmong (all_atoms (conjs_in taken)) a → IsAlike h (c ++ b ∷ []) r.first.piece.conj.items → IsAlike h (c ++ a ∷ []) r.second.piece.conj.items → IsPart h n ss taken r.first → IsPart h n ss taken r.second
      → AreHalves h m l cell n ss taken c r
  halves_are n ss taken c r a b k e f i d s u v =
      let g = subst (IsNegation h m l cell a) e f in
      let first = λ (p : Point) (j : IsPoint p). d.holds p j ∙ conj_push h m l cell c b p ∙ ap (λ z. conj_holds h c p && z) (g.holds p j.positive) in
      let second = λ (p : Point) (j : IsPoint p). s.holds p j ∙ conj_push h m l cell c a p in
      record {
        first = u;
        second = v;
        apart = λ p j. ap₂ (λ x y. x && y) (first p j) (second p j) ∙ halves_apart (conj_holds h c p) (h a p);
        all = λ p j. halves_all (conj_holds h c p) (h a p) ∙ ap₂ (λ x y. x || y) (sym (first p j)) (sym (second p j));
        made_first = λ atoms t w. made_alike m l cell h atoms (c ++ b ∷ []) r.first.piece.conj.items
            (made_append m l cell atoms c (b ∷ []) t (made_piece m l cell atoms a b (all_among (λ z. IsAmong atoms z) (all_atoms (conjs_in taken)) a w i) g.cells g.slots g.lines)) d;
        made_second = λ atoms t w. made_alike m l cell h atoms (c ++ a ∷ []) r.second.piece.conj.items
            (made_append m l cell atoms c (a ∷ []) t (made_among m l cell atoms (a ∷ []) (all_among (λ z. IsAmong atoms z) (all_atoms (conjs_in taken)) a w i, tt))) s;
      }

  -- ---- what is carved

  -- of both halves
  pub carved_both : (n : A → Type 0) (ss : List Slot) (taken : List (Boxed A)) (c : List A) (r : Halves A) (old mid new : List (List A)) → AreHalves h m l cell n ss taken c r
      → AreCarved h m l cell taken r.first.piece.conj.items old mid → AreCarved h m l cell taken r.second.piece.conj.items mid new → AreCarved h m l cell taken c old new
  carved_both n ss taken c r old mid new k x y =
      more_trans h m l cell _ _ _ (λ p. conj_holds h r.first.piece.conj.items p && not (conjs_hold h (conjs_in taken) p)) (λ p. conj_holds h r.second.piece.conj.items p && not (conjs_hold h (conjs_in taken) p))
      (λ p. conj_holds h c p && not (conjs_hold h (conjs_in taken) p)) old mid new x y
      (λ atoms g. (k.made_first atoms g.0 g.1, g.1)) (λ atoms g. (k.made_second atoms g.0 g.1, g.1))
      (λ p i. less_apart (conj_holds h r.first.piece.conj.items p) (conj_holds h r.second.piece.conj.items p) (conjs_hold h (conjs_in taken) p) (k.apart p i))
      (λ p i. ap (λ b. b && not (conjs_hold h (conjs_in taken) p)) (k.all p i) ∙ less_sum (conj_holds h r.first.piece.conj.items p) (conj_holds h r.second.piece.conj.items p) (conjs_hold h (conjs_in taken) p))

  -- what is left after those that are near
  pub carved_near : (taken : List (Boxed A)) (c : List A) (is : List ℕ) (old new pieces : List (List A)) → new ≡ old ++ pieces → IsSameOutside h c (conjs_in taken) (conjs_at taken is) → Outside h m l cell c (conjs_at taken is) pieces
      → AreCarved h m l cell taken c old new
  carved_near taken c is old new pieces e k o = record {
    pieces = pieces;
    list = e;
    are = λ atoms g. pieces_same h m l cell atoms (λ p. conj_holds h c p && not (conjs_hold h (conjs_at taken is) p)) (λ p. conj_holds h c p && not (conjs_hold h (conjs_in taken) p)) pieces
        (o.are atoms g.0 (all_at_places (λ z. IsAmong atoms z) taken is g.1)) k;
  }

  -- set at the end of no pieces, they are what of the conjunction is outside
  pub carved_alone : (taken : List (Boxed A)) (c d : List A) (old new : List (List A)) → old ≡ [] → d ≡ c → AreCarved h m l cell taken d old new → AreOutside h m l cell c (conjs_in taken) new
  carved_alone taken c d old new e f x = subst (λ xs. AreOutside h m l cell xs (conjs_in taken) new) f (λ atoms g i.
      subst (ArePieces h m l cell atoms (λ p. conj_holds h d p && not (conjs_hold h (conjs_in taken) p))) (sym (x.list ∙ ap (λ xs. xs ++ x.pieces) e)) (x.are atoms (g, i)))
