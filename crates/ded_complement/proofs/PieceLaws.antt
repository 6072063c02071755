-- What conjunctions and pieces are made of, and pieces one after another.
use Rattle.std.proofs.Common.{◌≡◌, ℤ, Bool, true, false, ◌&&◌, ◌||◌, List, [], ◌∷◌, ◌++◌, inl, inr, refl, sym, ap, ap₂, ◌∙◌, subst, true≢false, append_assoc, append-nil}
use Rattle.std.specs.List.{AllByRecursion}
use Rattle.std.specs.Prelude.{pos}
use Rattle.ded_model.specs.declared.slot.Slot.{Slot}
use Rattle.ded_model.specs.Point.{Point, IsPoint}
use Rattle.ded_model.specs.Cell.{cells, conj_holds, HoldsSomewhere}
use Rattle.ded_model.specs.Lines.{Line, In, IsSubset}
use Rattle.ded_model.proofs.Rows.{or_left, or_right}
use Rattle.ded_model.proofs.Members.{In-left, In-right, In-split, or_split}
use Rattle.ded_theory.specs.Conjunctions.{conj_mentions, conj_lines, IsWide}
use Rattle.ded_theory.proofs.Conjunctions.{conj_holds-append, conj_mentions-append}
use Rattle.ded_theory.proofs.Parted.{wide_more}
use Rattle.ded_genrel.specs.Lists.{conjs_hold, conjs_mention, conjs_lines}
use Rattle.ded_genrel.proofs.Items.{all-append, all_weaker}
use Rattle.ded_genrel.proofs.Laws.{conjs_hold-append, conj_lines-append}
use Rattle.ded_complement.specs.Pieces.{all_atoms, AreDisjoint, IsAmong, AreAmong, IsMadeOf, IsAlike, ArePieces, IsMore}
use Rattle.std.proofs.Math.Bool.{or-false, and-true}

-- ---- tests

both_out : (x y z : Bool) → (x && y) ≡ false → (x && z) ≡ false → (x && (y || z)) ≡ false
both_out true true z e f = e
both_out true false z e f = f
both_out false y z e f = refl

head_out : (x y z : Bool) → ((x || y) && z) ≡ false → (x && z) ≡ false
head_out true y z e = e
head_out false y z e = refl

tail_out : (x y z : Bool) → ((x || y) && z) ≡ false → (y && z) ≡ false
tail_out true true z e = e
tail_out true false z e = refl
tail_out false y z e = e

left_out : (x y z : Bool) → (x && (y || z)) ≡ false → (x && y) ≡ false
left_out true true z e = e
left_out true false z e = refl
left_out false y z e = refl

right_out : (x y z : Bool) → (x && (y || z)) ≡ false → (x && z) ≡ false
right_out true true z e = absurd (true≢false e)
right_out true false z e = e
right_out false y z e = refl

either_out : (x y z : Bool) → (x && z) ≡ false → (y && z) ≡ false → ((x || y) && z) ≡ false
either_out true y z e f = e
either_out false y z e f = f

-- ---- atoms among others

module _ {A : Type 0} where
  pub among_left : (xs ys : List A) (a : A) → IsAmong xs a → IsAmong (xs ++ ys) a
  among_left [] ys a i = absurd i
  among_left (x ∷ xs) ys a (inl e) = inl e
  among_left (x ∷ xs) ys a (inr i) = inr (among_left xs ys a i)

  pub among_right : (xs ys : List A) (a : A) → IsAmong ys a → IsAmong (xs ++ ys) a
  among_right [] ys a i = i
  among_right (x ∷ xs) ys a i = inr (among_right xs ys a i)

  -- all of them
  pub among_self : (xs : List A) → AreAmong xs xs
  among_self [] = tt
  among_self (x ∷ xs) = (inl refl, all_weaker (λ a. IsAmong xs a) (λ a. IsAmong (x ∷ xs) a) xs (λ a i. inr i) (among_self xs))

  -- among more
  pub among_front : (us vs xs : List A) → AreAmong us xs → AreAmong (us ++ vs) xs
  among_front us vs xs i = all_weaker (λ a. IsAmong us a) (λ a. IsAmong (us ++ vs) a) xs (λ a k. among_left us vs a k) i

  pub among_back : (us vs xs : List A) → AreAmong vs xs → AreAmong (us ++ vs) xs
  among_back us vs xs i = all_weaker (λ a. IsAmong vs a) (λ a. IsAmong (us ++ vs) a) xs (λ a k. among_right us vs a k) i

  -- those of two lists
  pub among_both : (us vs xs ys : List A) → AreAmong us xs → AreAmong vs ys → AreAmong (us ++ vs) (xs ++ ys)
  among_both us vs xs ys i j = all-append (λ a. IsAmong (us ++ vs) a) xs ys (among_front us vs xs i) (among_back us vs ys j)

  -- what holds of all holds of one among them
  pub all_among : (P : A → Type 0) (xs : List A) (a : A) → AllByRecursion P xs → IsAmong xs a → P a
  all_among P [] a k i = absurd i
  all_among P (x ∷ xs) a k (inl e) = subst P (sym e) k.0
  all_among P (x ∷ xs) a k (inr i) = all_among P xs a k.1 i

  pub among_trans : (us vs xs : List A) → AreAmong us vs → AreAmong vs xs → AreAmong us xs
  among_trans us vs xs i j = all_weaker (λ a. IsAmong vs a) (λ a. IsAmong us a) xs (λ a k. all_among (λ b. IsAmong us b) vs a i k) j

  pub all_left : (P : A → Type 0) (xs ys : List A) → AllByRecursion P (xs ++ ys) → AllByRecursion P xs
  all_left P [] ys h = tt
  all_left P (x ∷ xs) ys h = (h.0, all_left P xs ys h.1)

  pub all_right : (P : A → Type 0) (xs ys : List A) → AllByRecursion P (xs ++ ys) → AllByRecursion P ys
  all_right P [] ys h = h
  all_right P (x ∷ xs) ys h = all_right P xs ys h.1

-- ---- what is made of atoms

abbrev pub head_of : List ℤ → ℤ
head_of [] = pos 0
head_of (z ∷ zs) = z

abbrev pub tail_of : List ℤ → List ℤ
tail_of [] = []
tail_of (z ∷ zs) = zs

module _ {A : Type 0} (cell : A → Point → ℤ) where
  -- points of one cell of the atoms have one cell of each
  among_cell : (atoms : List A) (a : A) (p q : Point) → IsAmong atoms a → cells cell atoms p ≡ cells cell atoms q → cell a p ≡ cell a q
  among_cell [] a p q i e = absurd i
  among_cell (x ∷ xs) a p q (inl j) e = ap (λ z. cell z p) j ∙ ap head_of e ∙ ap (λ z. cell z q) (sym j)
  among_cell (x ∷ xs) a p q (inr j) e = among_cell xs a p q j (ap tail_of e)

  -- and one cell of all that are among the atoms
  among_cells : (atoms xs : List A) (p q : Point) → AreAmong atoms xs → cells cell atoms p ≡ cells cell atoms q → cells cell xs p ≡ cells cell xs q
  among_cells atoms [] p q i e = refl
  among_cells atoms (x ∷ xs) p q i e = ap₂ (λ z zs. z ∷ zs) (among_cell atoms x p q i.0 e) (among_cells atoms xs p q i.1 e)

  -- points of one cell of both lists
  cells_append : (xs ys : List A) (p q : Point) → cells cell xs p ≡ cells cell xs q → cells cell ys p ≡ cells cell ys q → cells cell (xs ++ ys) p ≡ cells cell (xs ++ ys) q
  cells_append [] ys p q e f = f
  cells_append (x ∷ xs) ys p q e f = ap₂ (λ z zs. z ∷ zs) (ap head_of e) (cells_append xs ys p q (ap tail_of e) f)

module _ {A : Type 0} (m : A → Slot → Bool) where
  among_slots : (atoms : List A) (a : A) (s : Slot) → IsAmong atoms a → m a s ≡ true → conj_mentions m atoms s ≡ true
  among_slots [] a s i e = absurd i
  among_slots (x ∷ xs) a s (inl j) e = or_left (m x s) (conj_mentions m xs s) (ap (λ z. m z s) (sym j) ∙ e)
  among_slots (x ∷ xs) a s (inr j) e = or_right (m x s) (conj_mentions m xs s) (among_slots xs a s j e)

  pub all_among_slots : (atoms xs : List A) (s : Slot) → AreAmong atoms xs → conj_mentions m xs s ≡ true → conj_mentions m atoms s ≡ true
  all_among_slots atoms [] s i e = absurd (true≢false (sym e))
  all_among_slots atoms (x ∷ xs) s i e = elim (or_split (m x s) (conj_mentions m xs s) e) [ inl j ↦ among_slots atoms x s i.0 j | inr k ↦ all_among_slots atoms xs s i.1 k ]

  -- all atoms mention what the list does
  pub all_atoms-mention : (conjs : List (List A)) (s : Slot) → conj_mentions m (all_atoms conjs) s ≡ conjs_mention m conjs s
  all_atoms-mention [] s = refl
  all_atoms-mention (c ∷ conjs) s = conj_mentions-append m c (all_atoms conjs) s ∙ ap (λ b. conj_mentions m c s || b) (all_atoms-mention conjs s)

module _ {A : Type 0} (l : A → List Line) where
  among_lines : (atoms : List A) (a : A) → IsAmong atoms a → IsSubset (l a) (conj_lines l atoms)
  among_lines [] a i x k = absurd i
  among_lines (y ∷ ys) a (inl j) x k = In-left x (l y) (conj_lines l ys) (subst (λ z. In x (l z)) j k)
  among_lines (y ∷ ys) a (inr j) x k = In-right x (l y) (conj_lines l ys) (among_lines ys a j x k)

  pub all_among_lines : (atoms xs : List A) → AreAmong atoms xs → IsSubset (conj_lines l xs) (conj_lines l atoms)
  all_among_lines atoms [] i x k = absurd k
  all_among_lines atoms (y ∷ ys) i x k = elim (In-split x (l y) (conj_lines l ys) k) [ inl j ↦ among_lines atoms y i.0 x j | inr n ↦ all_among_lines atoms ys i.1 x n ]

  -- all atoms have the lines of the list
  pub all_atoms-lines : (conjs : List (List A)) → conj_lines l (all_atoms conjs) ≡ conjs_lines l conjs
  all_atoms-lines [] = refl
  all_atoms-lines (c ∷ conjs) = conj_lines-append l c (all_atoms conjs) ∙ ap (λ ls. conj_lines l c ++ ls) (all_atoms-lines conjs)

module _ {A : Type 0} (m : A → Slot → Bool) (l : A → List Line) (cell : A → Point → ℤ) where
  -- the conjunction of no atom
  pub made_none : (atoms : List A) → IsMadeOf m l cell atoms []
  made_none atoms = record { cells = λ p q e. refl; slots = λ s i. absurd (true≢false (sym i)); lines = λ x i. absurd i }

  -- the atoms of two
  pub made_append : (atoms xs ys : List A) → IsMadeOf m l cell atoms xs → IsMadeOf m l cell atoms ys → IsMadeOf m l cell atoms (xs ++ ys)
  made_append atoms xs ys a b = record {
    cells = λ p q e. cells_append cell xs ys p q (a.cells p q e) (b.cells p q e);
    slots = λ s i. elim (or_split (conj_mentions m xs s) (conj_mentions m ys s) (sym (conj_mentions-append m xs ys s) ∙ i)) [ inl j ↦ a.slots s j | inr k ↦ b.slots s k ];
    lines = λ x i. elim (In-split x (conj_lines l xs) (conj_lines l ys) (subst (In x) (conj_lines-append l xs ys) i)) [ inl j ↦ a.lines x j | inr k ↦ b.lines x k ];
  }

  -- an atom that tells apart no points of one cell of one of the atoms, has its lines and mentions only its slots
  pub made_piece : (atoms : List A) (a n : A) → IsAmong atoms a → ((p q : Point) → cell a p ≡ cell a q → cell n p ≡ cell n q) → ((s : Slot) → m n s ≡ true → m a s ≡ true) → l n ≡ l a → IsMadeOf m l cell atoms (n ∷ [])
  made_piece atoms a n i tell slots same = record {
    cells = λ p q e. ap (λ z. z ∷ []) (tell p q (among_cell cell atoms a p q i e));
    slots = λ s j. among_slots m atoms a s i (slots s (sym (or-false (m n s)) ∙ j));
    lines = λ x j. among_lines l atoms a i x (subst (In x) (append-nil (l n) ∙ same) j);
  }

  pub made_among : (atoms xs : List A) → AreAmong atoms xs → IsMadeOf m l cell atoms xs
  made_among atoms xs i = record { cells = λ p q e. among_cells cell atoms xs p q i e; slots = λ s e. all_among_slots m atoms xs s i e; lines = λ x k. all_among_lines l atoms xs i x k }

  -- what is made of what is made of the atoms
  pub made_trans : (atoms c d : List A) → IsMadeOf m l cell atoms c → IsMadeOf m l cell c d → IsMadeOf m l cell atoms d
  made_trans atoms c d a b = record { cells = λ p q e. b.cells p q (a.cells p q e); slots = λ s i. a.slots s (b.slots s i); lines = λ x i. a.lines x (b.lines x i) }

  -- what is alike is made of the same
  pub made_alike : (h : A → Point → Bool) (atoms c d : List A) → IsMadeOf m l cell atoms c → IsAlike h c d → IsMadeOf m l cell atoms d
  made_alike h atoms c d a e = made_trans atoms c d a (made_among c d e.among)

  -- the atoms of conjunctions that are made of the atoms
  pub made_all : (atoms : List A) (conjs : List (List A)) → AllByRecursion (λ c. IsMadeOf m l cell atoms c) conjs → IsMadeOf m l cell atoms (all_atoms conjs)
  made_all atoms [] k = made_none atoms
  made_all atoms (c ∷ conjs) k = made_append atoms c (all_atoms conjs) k.0 (made_all atoms conjs k.1)

  -- wide pieces come of wide atoms
  pub made_wide : (atoms c : List A) → IsMadeOf m l cell atoms c → IsWide m l c → IsWide m l atoms
  made_wide atoms c a w = wide_more m l m l c atoms a.lines a.slots w

module _ {A : Type 0} (h : A → Point → Bool) (m : A → Slot → Bool) (l : A → List Line) (cell : A → Point → ℤ) where
  -- ---- lists of pieces

  pub conj_push : (xs : List A) (a : A) (p : Point) → conj_holds h (xs ++ a ∷ []) p ≡ (conj_holds h xs p && h a p)
  conj_push xs a p = conj_holds-append h xs (a ∷ []) p ∙ ap (λ b. conj_holds h xs p && b) (and-true (h a p))

  pub conjs_push : (xs : List (List A)) (c : List A) (p : Point) → conjs_hold h (xs ++ c ∷ []) p ≡ (conjs_hold h xs p || conj_holds h c p)
  conjs_push xs c p = conjs_hold-append h xs (c ∷ []) p ∙ ap (λ b. conjs_hold h xs p || b) (or-false (conj_holds h c p))

  disjoint_append : (xs ys : List (List A)) → AreDisjoint h xs → AreDisjoint h ys → ((p : Point) → IsPoint p → (conjs_hold h xs p && conjs_hold h ys p) ≡ false) → AreDisjoint h (xs ++ ys)
  disjoint_append [] ys d e o = e
  disjoint_append (x ∷ xs) ys d e o = (
    λ p i. ap (λ b. conj_holds h x p && b) (conjs_hold-append h xs ys p)
        ∙ both_out (conj_holds h x p) (conjs_hold h xs p) (conjs_hold h ys p) (d.0 p i) (head_out (conj_holds h x p) (conjs_hold h xs p) (conjs_hold h ys p) (o p i)),
    disjoint_append xs ys d.1 e (λ p i. tail_out (conj_holds h x p) (conjs_hold h xs p) (conjs_hold h ys p) (o p i)),
  )

  disjoint_front : (xs : List (List A)) (c : List A) → AreDisjoint h (xs ++ c ∷ []) → AreDisjoint h xs × ((p : Point) → IsPoint p → (conjs_hold h xs p && conj_holds h c p) ≡ false)
  disjoint_front [] c d = (tt, λ p i. refl)
  disjoint_front (x ∷ xs) c d =
      let f = disjoint_front xs c d.1 in
      let g = λ (p : Point) (i : IsPoint p). ap (λ b. conj_holds h x p && b) (sym (conjs_push xs c p)) ∙ d.0 p i in (
        (λ p i. left_out (conj_holds h x p) (conjs_hold h xs p) (conj_holds h c p) (g p i), f.0),
        λ p i. either_out (conj_holds h x p) (conjs_hold h xs p) (conj_holds h c p) (right_out (conj_holds h x p) (conjs_hold h xs p) (conj_holds h c p) (g p i)) (f.1 p i),
      )

  pub pieces_none : (atoms : List A) (test : Point → Bool) → ((p : Point) → IsPoint p → test p ≡ false) → ArePieces h m l cell atoms test []
  pieces_none atoms test e = record { holds = λ p i. sym (e p i); disjoint = tt; made = tt; inhabited = λ n. tt }

  pub pieces_one : (atoms c : List A) → IsMadeOf m l cell atoms c → ((IsWide m l atoms → ⊥) → HoldsSomewhere (conj_holds h c)) → ArePieces h m l cell atoms (conj_holds h c) (c ∷ [])
  pieces_one atoms c a w = record {
    holds = λ p i. or-false (conj_holds h c p);
    disjoint = (λ p i. and_false (conj_holds h c p), tt);
    made = (a, tt);
    inhabited = λ n. (w n, tt);
  }
    where
      and_false : (b : Bool) → (b && false) ≡ false
      and_false true = refl
      and_false false = refl

  pub pieces_same : (atoms : List A) (f g : Point → Bool) (xs : List (List A)) → ArePieces h m l cell atoms f xs → ((p : Point) → IsPoint p → g p ≡ f p) → ArePieces h m l cell atoms g xs
  pieces_same atoms f g xs a e = record { holds = λ p i. a.holds p i ∙ sym (e p i); disjoint = a.disjoint; made = a.made; inhabited = a.inhabited }

  pub pieces_append : (atoms : List A) (f g : Point → Bool) (xs ys : List (List A)) → ArePieces h m l cell atoms f xs → ArePieces h m l cell atoms g ys → ((p : Point) → IsPoint p → (f p && g p) ≡ false)
      → ArePieces h m l cell atoms (λ p. f p || g p) (xs ++ ys)
  pieces_append atoms f g xs ys a b o = record {
    holds = λ p i. conjs_hold-append h xs ys p ∙ ap₂ (λ x y. x || y) (a.holds p i) (b.holds p i);
    disjoint = disjoint_append xs ys a.disjoint b.disjoint (λ p i. ap₂ (λ x y. x && y) (a.holds p i) (b.holds p i) ∙ o p i);
    made = all-append (IsMadeOf m l cell atoms) xs ys a.made b.made;
    inhabited = λ n. all-append (λ c. HoldsSomewhere (conj_holds h c)) xs ys (a.inhabited n) (b.inhabited n);
  }

  -- the pieces but the last one
  pub pieces_front : (atoms : List A) (f : Point → Bool) (xs : List (List A)) (c : List A) → ArePieces h m l cell atoms f (xs ++ c ∷ []) → ArePieces h m l cell atoms (conjs_hold h xs) xs
  pieces_front atoms f xs c a = record {
    holds = λ p i. refl;
    disjoint = (disjoint_front xs c a.disjoint).0;
    made = all_left (IsMadeOf m l cell atoms) xs (c ∷ []) a.made;
    inhabited = λ n. all_left (λ d. HoldsSomewhere (conj_holds h d)) xs (c ∷ []) (a.inhabited n);
  }

  -- and the last one
  pub pieces_last : (atoms : List A) (f : Point → Bool) (xs : List (List A)) (c : List A) → ArePieces h m l cell atoms f (xs ++ c ∷ [])
      → IsMadeOf m l cell atoms c × ((IsWide m l atoms → ⊥) → HoldsSomewhere (conj_holds h c)) × ((p : Point) → IsPoint p → (conjs_hold h xs p && conj_holds h c p) ≡ false)
  pieces_last atoms f xs c a = (
    (all_right (IsMadeOf m l cell atoms) xs (c ∷ []) a.made).0,
    λ n. (all_right (λ d. HoldsSomewhere (conj_holds h d)) xs (c ∷ []) (a.inhabited n)).0,
    (disjoint_front xs c a.disjoint).1,
  )

  -- ---- pieces at the end of a list

  pub more_none : (G : List A → Type 0) (f : Point → Bool) (old new : List (List A)) → new ≡ old → ((p : Point) → IsPoint p → f p ≡ false) → IsMore h m l cell G f old new
  more_none G f old new e z = record { pieces = []; list = e ∙ sym (append-nil old); are = λ atoms k. pieces_none atoms f z }

  pub more_one : (G : List A → Type 0) (f : Point → Bool) (old new : List (List A)) (c : List A) → new ≡ old ++ c ∷ [] → ((p : Point) → IsPoint p → f p ≡ conj_holds h c p)
      → ((atoms : List A) → G atoms → IsMadeOf m l cell atoms c × ((IsWide m l atoms → ⊥) → HoldsSomewhere (conj_holds h c))) → IsMore h m l cell G f old new
  more_one G f old new c e z w = record {
    pieces = c ∷ [];
    list = e;
    are = λ atoms k. let v = w atoms k in pieces_same atoms (conj_holds h c) f (c ∷ []) (pieces_one atoms c v.0 v.1) z;
  }

  pub more_same : (G K : List A → Type 0) (f g : Point → Bool) (old new : List (List A)) → IsMore h m l cell G f old new → ((atoms : List A) → K atoms → G atoms) → ((p : Point) → IsPoint p → g p ≡ f p) → IsMore h m l cell K g old new
  more_same G K f g old new a k e = record { pieces = a.pieces; list = a.list; are = λ atoms x. pieces_same atoms f g a.pieces (a.are atoms (k atoms x)) e }

  pub more_trans : (G H K : List A → Type 0) (f g k : Point → Bool) (old mid new : List (List A)) → IsMore h m l cell G f old mid → IsMore h m l cell H g mid new → ((atoms : List A) → K atoms → G atoms) → ((atoms : List A) → K atoms → H atoms)
      → ((p : Point) → IsPoint p → (f p && g p) ≡ false) → ((p : Point) → IsPoint p → k p ≡ (f p || g p)) → IsMore h m l cell K k old new
  more_trans G H K f g k old mid new a b x y o e = record {
    pieces = a.pieces ++ b.pieces;
    list = b.list ∙ ap (λ xs. xs ++ b.pieces) a.list ∙ append_assoc old a.pieces b.pieces;
    are = λ atoms z. pieces_same atoms (λ p. f p || g p) k (a.pieces ++ b.pieces) (pieces_append atoms f g a.pieces b.pieces (a.are atoms (x atoms z)) (b.are atoms (y atoms z)) o) e;
  }
