-- Taking conjunctions away from pieces.
--
-- What of a piece is outside of a conjunction of atoms a, b, c.. is told apart by the first atom that fails: not a; a and not b;
-- a and b and not c. These exclude each other, and together they are the piece without the conjunction. An atom that the piece
-- and the atoms before it imply gives nothing, and what is left holds alike without it.
use Rattle.std.proofs.Common.{◌≡◌, ℕ, zero, suc, ◌<◌, ◌≤◌, ℤ, length, take, get_or, arith, Bool, true, false, not, ◌&&◌, ◌||◌, List, [], ◌∷◌, ◌++◌, Vec, Global, inl, inr, refl, sym, ap, ap₂, ◌∙◌, subst, true≢false, append_assoc, append-nil}
use Rattle.std.specs.List.{AllByRecursion}
use Rattle.ded_model.specs.declared.slot.Slot.{Slot}
use Rattle.ded_model.specs.declared.tuple.Negated.{Negated}
use Rattle.ded_model.specs.declared.tuple.Negated.TheVariants.{One, Two}
use Rattle.ded_model.specs.Point.{Point, IsPoint}
use Rattle.ded_model.specs.Cell.{conj_holds, HoldsSomewhere, HasCells, HoldsNowhere}
use Rattle.ded_model.specs.Lines.{Line, In, IsSubset}
use Rattle.ded_model.specs.Negation.{EachPiece, some_piece_holds, both_pieces_hold}
use Rattle.ded_model.proofs.Members.{In-split, or_split}
use Rattle.ded_theory.specs.Conjunctions.{conj_mentions, conj_lines, IsWide}
use Rattle.ded_theory.specs.declared.answers.Verdict.{Verdict}
use Rattle.ded_theory.specs.declared.answers.Verdict.TheVariants.{Empty, Inhabited, Unknown}
use Rattle.ded_theory.specs.Verdicts.{IsVerdict}
use Rattle.ded_theory.proofs.Conjunctions.{conj_holds-append, conj_mentions-append}
use Rattle.ded_genrel.specs.Lists.{conjs_of, conjs_hold, conjs_mention, conjs_lines}
use Rattle.ded_genrel.specs.Operations.{IsOperation}
use Rattle.ded_genrel.proofs.Items.{all-push, all-append, all_weaker}
use Rattle.ded_genrel.proofs.Laws.{conjs_hold-append, conj_lines-append}
use Rattle.ded_complement.specs.Pieces.{all_atoms, AreDisjoint, IsListForEach, IsAmong, AreAmong, IsMadeOf, IsAlike, ArePieces, IsMore}
use Rattle.ded_complement.proofs.Cells.{CellsTell, has_cells}
use Rattle.ded_complement.proofs.PieceLaws.{among_left, among_right, among_front, among_back, among_self, all_left, all_right, all_atoms-mention, all_atoms-lines, made_none, made_append, made_piece, made_among, made_alike, made_wide, conj_push, conjs_push, pieces_none, pieces_same, pieces_append, pieces_front, pieces_last, more_none, more_one, more_same, more_trans}
use Rattle.std.proofs.Math.Bool.{and-true, and-false}
use Rattle.std.proofs.lemmas.Bool.{or_parts}
use Rattle.ded_num.proofs.Tests.{implied, and_assoc, and_over_or}

-- ---- tests

cut_apart : (x t a : Bool) → ((x && not t) && ((x && t) && not a)) ≡ false
cut_apart true true a = refl
cut_apart true false a = refl
cut_apart false t a = refl

cut_sum : (x t a : Bool) → (x && not (t && a)) ≡ ((x && not t) || ((x && t) && not a))
cut_sum true true a = refl
cut_sum true false a = refl
cut_sum false t a = refl

-- what doesn't go with it goes with the negation
apart : (x a : Bool) → (x && a) ≡ false → (x && not a) ≡ x
apart true true e = sym e
apart true false e = refl
apart false a e = refl

both_apart : (x a b : Bool) → (a && b) ≡ false → ((x && a) && (x && b)) ≡ false
both_apart true a b e = e
both_apart false a b e = refl

pub less_sum : (t x c : Bool) → ((t || x) && not c) ≡ ((t && not c) || (x && not c))
less_sum true true true = refl
less_sum true true false = refl
less_sum true false true = refl
less_sum true false false = refl
less_sum false x c = refl

pub less_apart : (t x c : Bool) → (t && x) ≡ false → ((t && not c) && (x && not c)) ≡ false
less_apart true true c e = absurd (true≢false e)
less_apart true false c e = and-false (not c)
less_apart false x c e = refl

pub not_or : (z x y : Bool) → ((z && not x) && not y) ≡ (z && not (x || y))
not_or true true y = refl
not_or true false y = refl
not_or false x y = refl

or_not : (x y t : Bool) → ((x && not t) || (y && not t)) ≡ ((x || y) && not t)
or_not x y t = sym (less_sum x y t)

pub passed : (x d c : Bool) → (x && c) ≡ false → (x && not (d || c)) ≡ (x && not d)
passed true true c e = refl
passed true false true e = sym e
passed true false false e = refl
passed false d c e = refl

-- at the end all elements are done
pub taken_all : {A : Type 0} (xs : List A) (i : ℕ) → length xs ≤ i → take i xs ≡ xs
taken_all [] zero h = refl
taken_all [] (suc i) h = refl
taken_all (x ∷ xs) zero h = absurd (omega (arith, h))
taken_all (x ∷ xs) (suc i) h = ap (λ ys. x ∷ ys) (taken_all xs i (omega (arith, h)))

module _ {A : Type 0} (h : A → Point → Bool) (m : A → Slot → Bool) (l : A → List Line) (cell : A → Point → ℤ) where
  -- ---- a piece

  -- one that may hold somewhere is kept
  pub kept_more : (piece copy : List A) (old new : List (List A)) (v : Verdict) → copy ≡ piece → (v ≡ Empty → ⊥) → IsVerdict h m l copy v → new ≡ old ++ piece ∷ []
      → IsMore h m l cell (λ atoms. IsMadeOf m l cell atoms piece) (conj_holds h piece) old new
  kept_more piece copy old new v e not_empty k f =
      more_one h m l cell _ (conj_holds h piece) old new piece f (λ p i. refl) (λ atoms a. (a, kept v not_empty (subst (λ xs. IsVerdict h m l xs v) e k) atoms a))
    where
      kept : (v : Verdict) → (v ≡ Empty → ⊥) → IsVerdict h m l piece v → (atoms : List A) → IsMadeOf m l cell atoms piece → (IsWide m l atoms → ⊥) → HoldsSomewhere (conj_holds h piece)
      kept Empty not_empty k atoms a n = absurd (not_empty refl)
      kept Inhabited not_empty k atoms a n = k
      kept Unknown not_empty k atoms a n = absurd (n (made_wide m l cell atoms piece a k))

  -- ---- one more atom

  pub with_more : (rest piece : List A) (last : A) (old new : List (List A)) → IsAlike h (rest ++ last ∷ []) piece → IsMore h m l cell (λ atoms. IsMadeOf m l cell atoms piece) (conj_holds h piece) old new
      → IsMore h m l cell (λ atoms. IsMadeOf m l cell atoms rest × IsMadeOf m l cell atoms (last ∷ [])) (λ p. conj_holds h rest p && h last p) old new
  with_more rest piece last old new e a =
      more_same h m l cell _ _ (conj_holds h piece) (λ p. conj_holds h rest p && h last p) old new a (λ atoms k. made_alike m l cell h atoms (rest ++ last ∷ []) piece (made_append m l cell atoms rest (last ∷ []) k.0 k.1) e)
      (λ p i. sym (e.holds p i ∙ conj_push h m l cell rest last p))

  pub with_nowhere : (rest piece : List A) (last : A) → IsAlike h (rest ++ last ∷ []) piece → HoldsNowhere (conj_holds h piece) → HoldsNowhere (λ p. conj_holds h rest p && h last p)
  with_nowhere rest piece last e k = λ p i. sym (e.holds p i ∙ conj_push h m l cell rest last p) ∙ k p i

  -- ---- the negation of an atom

  pub record IsNegation (a : A) (n : Negated A) : Type 0 where
    pub holds : (p : Point) → 0 < p.den → some_piece_holds h n p ≡ not (h a p)
    pub disjoint : (p : Point) → 0 < p.den → both_pieces_hold h n p ≡ false
    pub slots : EachPiece (λ b. (s : Slot) → m b s ≡ true → m a s ≡ true) n
    pub lines : EachPiece (λ b. l b ≡ l a) n
    pub cells : EachPiece (λ b. (p q : Point) → cell a p ≡ cell a q → cell b p ≡ cell b q) n

  pub one_more : (rest : List A) (a b : A) (n : Negated A) (old new : List (List A)) → n ≡ One b → IsNegation a n
      → IsMore h m l cell (λ atoms. IsMadeOf m l cell atoms rest × IsMadeOf m l cell atoms (b ∷ [])) (λ p. conj_holds h rest p && h b p) old new
      → IsMore h m l cell (λ atoms. IsMadeOf m l cell atoms rest × IsAmong atoms a) (λ p. conj_holds h rest p && not (h a p)) old new
  one_more rest a b n old new e k x =
      let i = subst (IsNegation a) e k in
      more_same h m l cell _ _ (λ p. conj_holds h rest p && h b p) (λ p. conj_holds h rest p && not (h a p)) old new x (λ atoms g. (g.0, made_piece m l cell atoms a b g.1 i.cells i.slots i.lines))
      (λ p j. ap (λ c. conj_holds h rest p && c) (sym (i.holds p j.positive)))

  pub one_nowhere : (rest : List A) (a b : A) (n : Negated A) → n ≡ One b → IsNegation a n → HoldsNowhere (λ p. conj_holds h rest p && h b p) → HoldsNowhere (λ p. conj_holds h rest p && not (h a p))
  one_nowhere rest a b n e k x = let i = subst (IsNegation a) e k in λ p j. ap (λ c. conj_holds h rest p && c) (sym (i.holds p j.positive)) ∙ x p j

  pub two_more : (rest copy : List A) (a b c : A) (n : Negated A) (old mid new : List (List A)) → n ≡ Two b c → copy ≡ rest → IsNegation a n
      → IsMore h m l cell (λ atoms. IsMadeOf m l cell atoms copy × IsMadeOf m l cell atoms (b ∷ [])) (λ p. conj_holds h copy p && h b p) old mid
      → IsMore h m l cell (λ atoms. IsMadeOf m l cell atoms rest × IsMadeOf m l cell atoms (c ∷ [])) (λ p. conj_holds h rest p && h c p) mid new
      → IsMore h m l cell (λ atoms. IsMadeOf m l cell atoms rest × IsAmong atoms a) (λ p. conj_holds h rest p && not (h a p)) old new
  two_more rest copy a b c n old mid new e f k x y =
      let i = subst (IsNegation a) e k in
      let z = subst (λ xs. IsMore h m l cell (λ atoms. IsMadeOf m l cell atoms xs × IsMadeOf m l cell atoms (b ∷ [])) (λ p. conj_holds h xs p && h b p) old mid) f x in
      more_trans h m l cell _ _ _ (λ p. conj_holds h rest p && h b p) (λ p. conj_holds h rest p && h c p) (λ p. conj_holds h rest p && not (h a p)) old mid new z y
      (λ atoms g. (g.0, made_piece m l cell atoms a b g.1 i.cells.0 i.slots.0 i.lines.0))
      (λ atoms g. (g.0, made_piece m l cell atoms a c g.1 i.cells.1 i.slots.1 i.lines.1))
      (λ p j. both_apart (conj_holds h rest p) (h b p) (h c p) (i.disjoint p j.positive))
      (λ p j. and_over_or (conj_holds h rest p) (h b p) (h c p) (not (h a p)) (i.holds p j.positive))

  pub two_nowhere : (rest copy : List A) (a b c : A) (n : Negated A) (u v w : Bool) → n ≡ Two b c → copy ≡ rest → IsNegation a n → w ≡ (u || v) → (u ≡ false → HoldsNowhere (λ p. conj_holds h copy p && h b p))
      → (v ≡ false → HoldsNowhere (λ p. conj_holds h rest p && h c p)) → w ≡ false → HoldsNowhere (λ p. conj_holds h rest p && not (h a p))
  two_nowhere rest copy a b c n u v w e f k r x y z =
      let i = subst (IsNegation a) e k in
      let t = or_parts u v (sym r ∙ z) in
      λ p j. and_over_or (conj_holds h rest p) (h b p) (h c p) (not (h a p)) (i.holds p j.positive) ∙ ap₂ (λ d g. d || g) (ap (λ xs. conj_holds h xs p && h b p) (sym f) ∙ x t.0 p j) (y t.1 p j)

  -- ---- the atoms of a conjunction, one after another

  -- the pieces outside of the atoms that are done, and what of the piece satisfies those atoms
  pub record Cutting (normal : A → Type 0) (piece done : List A) (old out : List (List A)) (rest : List A) : Type 0 where
    pub more : IsMore h m l cell (λ atoms. IsMadeOf m l cell atoms piece × AreAmong atoms done) (λ p. conj_holds h piece p && not (conj_holds h done p)) old out
    pub holds : (p : Point) → IsPoint p → conj_holds h rest p ≡ (conj_holds h piece p && conj_holds h done p)
    pub made : (atoms : List A) → IsMadeOf m l cell atoms piece → AreAmong atoms done → IsMadeOf m l cell atoms rest
    pub all_normal : AllByRecursion normal rest

  pub cutting_none : (normal : A → Type 0) (piece rest : List A) (old out : List (List A)) → out ≡ old → rest ≡ piece → AllByRecursion normal piece → Cutting normal piece [] old out rest
  cutting_none normal piece rest old out e f n = record {
    more = more_none h m l cell _ (λ p. conj_holds h piece p && false) old out e (λ p i. and-false (conj_holds h piece p));
    holds = λ p i. ap (λ xs. conj_holds h xs p) f ∙ sym (and-true (conj_holds h piece p));
    made = λ atoms g k. subst (IsMadeOf m l cell atoms) (sym f) g;
    all_normal = subst (AllByRecursion normal) (sym f) n;
  }

  -- the pieces outside of one more
  pub cut_more : (normal : A → Type 0) (piece done next : List A) (old out new : List (List A)) (rest copy : List A) (a : A) → next ≡ done ++ a ∷ [] → copy ≡ rest → Cutting normal piece done old out rest
      → IsMore h m l cell (λ atoms. IsMadeOf m l cell atoms copy × IsAmong atoms a) (λ p. conj_holds h copy p && not (h a p)) out new
      → IsMore h m l cell (λ atoms. IsMadeOf m l cell atoms piece × AreAmong atoms next) (λ p. conj_holds h piece p && not (conj_holds h next p)) old new
  cut_more normal piece done next old out new rest copy a e f c x =
      let y = subst (λ xs. IsMore h m l cell (λ atoms. IsMadeOf m l cell atoms xs × IsAmong atoms a) (λ p. conj_holds h xs p && not (h a p)) out new) f x in
      subst (λ xs. IsMore h m l cell (λ atoms. IsMadeOf m l cell atoms piece × AreAmong atoms xs) (λ p. conj_holds h piece p && not (conj_holds h xs p)) old new) (sym e)
      (more_trans h m l cell _ _ _ (λ p. conj_holds h piece p && not (conj_holds h done p)) (λ p. conj_holds h rest p && not (h a p)) (λ p. conj_holds h piece p && not (conj_holds h (done ++ a ∷ []) p)) old out new c.more y
      (λ atoms g. (g.0, all_left (λ z. IsAmong atoms z) done (a ∷ []) g.1))
      (λ atoms g. (c.made atoms g.0 (all_left (λ z. IsAmong atoms z) done (a ∷ []) g.1), (all_right (λ z. IsAmong atoms z) done (a ∷ []) g.1).0))
      (λ p i. ap (λ b. (conj_holds h piece p && not (conj_holds h done p)) && (b && not (h a p))) (c.holds p i) ∙ cut_apart (conj_holds h piece p) (conj_holds h done p) (h a p))
      (λ p i. ap (λ b. conj_holds h piece p && not b) (conj_push h m l cell done a p) ∙ cut_sum (conj_holds h piece p) (conj_holds h done p) (h a p)
      ∙ ap (λ b. (conj_holds h piece p && not (conj_holds h done p)) || (b && not (h a p))) (sym (c.holds p i))))

  -- an atom that is added to what is left
  pub cutting_added : (normal : A → Type 0) (piece done next : List A) (old out new : List (List A)) (rest copy longer : List A) (a b : A) → next ≡ done ++ a ∷ [] → copy ≡ rest → longer ≡ rest ++ b ∷ [] → b ≡ a → normal a
      → Cutting normal piece done old out rest → IsMore h m l cell (λ atoms. IsMadeOf m l cell atoms copy × IsAmong atoms a) (λ p. conj_holds h copy p && not (h a p)) out new
      → Cutting normal piece next old new longer
  cutting_added normal piece done next old out new rest copy longer a b e f g s n c x =
      let long = g ∙ ap (λ z. rest ++ z ∷ []) s in
      record {
        more = cut_more normal piece done next old out new rest copy a e f c x;
        holds = λ p i. ap (λ xs. conj_holds h xs p) long ∙ conj_push h m l cell rest a p ∙ ap (λ z. z && h a p) (c.holds p i) ∙ and_assoc (conj_holds h piece p) (conj_holds h done p) (h a p)
            ∙ ap (λ z. conj_holds h piece p && z) (sym (ap (λ xs. conj_holds h xs p) e ∙ conj_push h m l cell done a p));
        made = λ atoms k t. let u = subst (AreAmong atoms) e t in subst (IsMadeOf m l cell atoms) (sym long) (made_append m l cell atoms rest (a ∷ []) (c.made atoms k (all_left (λ z. IsAmong atoms z) done (a ∷ []) u))
            (made_among m l cell atoms (a ∷ []) (all_right (λ z. IsAmong atoms z) done (a ∷ []) u)));
        all_normal = subst (AllByRecursion normal) (sym long) (all-push normal rest a c.all_normal n);
      }

  -- and one that is implied
  pub cutting_implied : (normal : A → Type 0) (piece done next : List A) (old out new : List (List A)) (rest copy same : List A) (a : A) → next ≡ done ++ a ∷ [] → copy ≡ rest → same ≡ rest
      → Cutting normal piece done old out rest → IsMore h m l cell (λ atoms. IsMadeOf m l cell atoms copy × IsAmong atoms a) (λ p. conj_holds h copy p && not (h a p)) out new
      → HoldsNowhere (λ p. conj_holds h copy p && not (h a p)) → Cutting normal piece next old new same
  cutting_implied normal piece done next old out new rest copy same a e f g c x z = subst (Cutting normal piece next old new) (sym g) (record {
    more = cut_more normal piece done next old out new rest copy a e f c x;
    holds = λ p i. implied (conj_holds h rest p) (h a p) (ap (λ xs. conj_holds h xs p && not (h a p)) (sym f) ∙ z p i) ∙ ap (λ b. b && h a p) (c.holds p i) ∙ and_assoc (conj_holds h piece p) (conj_holds h done p) (h a p)
        ∙ ap (λ b. conj_holds h piece p && b) (sym (ap (λ xs. conj_holds h xs p) e ∙ conj_push h m l cell done a p));
    made = λ atoms k t. c.made atoms k (all_left (λ y. IsAmong atoms y) done (a ∷ []) (subst (AreAmong atoms) e t));
    all_normal = c.all_normal;
  })

  -- ---- a piece and a conjunction

  -- they share no point, so the piece stays
  pub apart_more : (piece conj : List A) (old new : List (List A)) → new ≡ old ++ piece ∷ [] → HoldsNowhere (λ p. conj_holds h piece p && conj_holds h conj p)
      → IsMore h m l cell (λ atoms. IsMadeOf m l cell atoms piece × AreAmong atoms conj × ((IsWide m l atoms → ⊥) → HoldsSomewhere (conj_holds h piece))) (λ p. conj_holds h piece p && not (conj_holds h conj p)) old new
  apart_more piece conj old new f z =
      more_one h m l cell _ (λ p. conj_holds h piece p && not (conj_holds h conj p)) old new piece f (λ p i. apart (conj_holds h piece p) (conj_holds h conj p) (z p i)) (λ atoms k. (k.0, k.2))

  -- what is refuted together is so at each point
  pub refuted_apart : (piece conj shared : List A) → shared ≡ piece ++ conj → HoldsNowhere (conj_holds h shared) → HoldsNowhere (λ p. conj_holds h piece p && conj_holds h conj p)
  refuted_apart piece conj shared e z = λ p i. sym (ap (λ xs. conj_holds h xs p) e ∙ conj_holds-append h piece conj p) ∙ z p i

  -- what of the piece is outside of the conjunction was set at the end
  abbrev pub IsMoreOutside : List A → List A → List (List A) → List (List A) → Type 0
  IsMoreOutside piece conj old new = IsMore h m l cell (λ atoms. IsMadeOf m l cell atoms piece × AreAmong atoms conj) (λ p. conj_holds h piece p && not (conj_holds h conj p)) old new

  -- the same pieces at the end of another list
  pub more_moved : (piece conj : List A) (empty parts old new : List (List A)) → empty ≡ [] → new ≡ old ++ parts
      → IsMoreOutside piece conj empty parts
      → IsMore h m l cell (λ atoms. IsMadeOf m l cell atoms piece × AreAmong atoms conj × ((IsWide m l atoms → ⊥) → HoldsSomewhere (conj_holds h piece))) (λ p. conj_holds h piece p && not (conj_holds h conj p)) old new
  more_moved piece conj empty parts old new e f a = record { pieces = a.pieces; list = f ∙ ap (λ xs. old ++ xs) (a.list ∙ ap (λ xs. xs ++ a.pieces) e); are = λ atoms k. a.are atoms (k.0, k.1) }

  -- ---- all pieces, one after another

  pub record Lessening (conj : List A) (done out : List (List A)) : Type 0 where
    pub are : (atoms : List A) → ArePieces h m l cell atoms (conjs_hold h done) done → AreAmong atoms conj → ArePieces h m l cell atoms (λ p. conjs_hold h done p && not (conj_holds h conj p)) out

  pub lessening_none : (conj : List A) → Lessening conj [] []
  lessening_none conj = record { are = λ atoms k i. pieces_none h m l cell atoms (λ p. false) (λ p j. refl) }

  pub lessening_more : (conj : List A) (done next out new : List (List A)) (c : List A) → next ≡ done ++ c ∷ [] → Lessening conj done out
      → IsMore h m l cell (λ atoms. IsMadeOf m l cell atoms c × AreAmong atoms conj × ((IsWide m l atoms → ⊥) → HoldsSomewhere (conj_holds h c))) (λ p. conj_holds h c p && not (conj_holds h conj p)) out new → Lessening conj next new
  lessening_more conj done next out new c e k x = subst (λ xs. Lessening conj xs new) (sym e) (record {
    are = λ atoms a i.
        let front = pieces_front h m l cell atoms (conjs_hold h (done ++ c ∷ [])) done c a in
        let last = pieces_last h m l cell atoms (conjs_hold h (done ++ c ∷ [])) done c a in
        subst (ArePieces h m l cell atoms (λ p. conjs_hold h (done ++ c ∷ []) p && not (conj_holds h conj p))) (sym x.list)
        (pieces_same h m l cell atoms (λ p. (conjs_hold h done p && not (conj_holds h conj p)) || (conj_holds h c p && not (conj_holds h conj p))) (λ p. conjs_hold h (done ++ c ∷ []) p && not (conj_holds h conj p)) (out ++ x.pieces)
        (pieces_append h m l cell atoms (λ p. conjs_hold h done p && not (conj_holds h conj p)) (λ p. conj_holds h c p && not (conj_holds h conj p)) out x.pieces (k.are atoms front i) (x.are atoms (last.0, i, last.1))
        (λ p j. less_apart (conjs_hold h done p) (conj_holds h c p) (conj_holds h conj p) (last.2 p j)))
        (λ p j. ap (λ b. b && not (conj_holds h conj p)) (conjs_push h m l cell done c p) ∙ less_sum (conjs_hold h done p) (conj_holds h c p) (conj_holds h conj p)));
  })

  -- ---- all conjunctions, one after another

  all_atoms-push : (xs : List (List A)) (c : List A) → all_atoms (xs ++ c ∷ []) ≡ all_atoms xs ++ c
  all_atoms-push [] c = append-nil c
  all_atoms-push (x ∷ xs) c = ap (λ ys. x ++ ys) (all_atoms-push xs c) ∙ sym (append_assoc x (all_atoms xs) c)

  -- what of the piece is outside of the conjunctions that are done
  pub record Outside (piece : List A) (done pieces : List (List A)) : Type 0 where
    pub are : (atoms : List A) → IsMadeOf m l cell atoms piece → AreAmong atoms (all_atoms done) → ArePieces h m l cell atoms (λ p. conj_holds h piece p && not (conjs_hold h done p)) pieces

  pub outside_none : (piece : List A) (old new : List (List A)) → old ≡ [] → IsMore h m l cell (λ atoms. IsMadeOf m l cell atoms piece) (conj_holds h piece) old new → Outside piece [] new
  outside_none piece old new e x = record {
    are = λ atoms g i.
        subst (ArePieces h m l cell atoms (λ p. conj_holds h piece p && true)) (sym (x.list ∙ ap (λ xs. xs ++ x.pieces) e))
        (pieces_same h m l cell atoms (conj_holds h piece) (λ p. conj_holds h piece p && true) x.pieces (x.are atoms g) (λ p j. and-true (conj_holds h piece p)));
  }

  pub outside_more : (piece : List A) (done next pieces new : List (List A)) (c conj : List A) → next ≡ done ++ c ∷ [] → conj ≡ c → Outside piece done pieces
      → ((atoms : List A) → ArePieces h m l cell atoms (conjs_hold h pieces) pieces → AreAmong atoms conj → ArePieces h m l cell atoms (λ p. conjs_hold h pieces p && not (conj_holds h conj p)) new) → Outside piece next new
  outside_more piece done next pieces new c conj e f o less = subst (λ xs. Outside piece xs new) (sym e) (record {
    are = λ atoms g i.
        let u = subst (AreAmong atoms) (all_atoms-push done c) i in
        let a = o.are atoms g (all_left (λ z. IsAmong atoms z) (all_atoms done) c u) in
        let b = less atoms (pieces_same h m l cell atoms (λ p. conj_holds h piece p && not (conjs_hold h done p)) (conjs_hold h pieces) pieces a (λ p j. a.holds p j))
        (subst (AreAmong atoms) (sym f) (all_right (λ z. IsAmong atoms z) (all_atoms done) c u)) in
        pieces_same h m l cell atoms (λ p. conjs_hold h pieces p && not (conj_holds h conj p)) (λ p. conj_holds h piece p && not (conjs_hold h (done ++ c ∷ []) p)) new b
        (λ p j. ap (λ z. conj_holds h piece p && not z) (conjs_push h m l cell done c p) ∙ sym (ap₂ (λ y z. y && not z) (a.holds p j) (ap (λ xs. conj_holds h xs p) f) ∙ not_or (conj_holds h piece p) (conjs_hold h done p) (conj_holds h c p)));
  })

  -- the list is what of the piece is outside of the conjunctions
  abbrev pub AreOutside : List A → List (List A) → List (List A) → Type 0
  AreOutside piece taken out = (atoms : List A) → IsMadeOf m l cell atoms piece → AreAmong atoms (all_atoms taken) → ArePieces h m l cell atoms (λ p. conj_holds h piece p && not (conjs_hold h taken p)) out

  -- ---- the results

  -- what is made of the atoms mentions only their slots, and its lines are among theirs
  made_slots : (atoms : List A) (out : List (List A)) (s : Slot) → AllByRecursion (IsMadeOf m l cell atoms) out → conjs_mention m out s ≡ true → conj_mentions m atoms s ≡ true
  made_slots atoms [] s k i = absurd (true≢false (sym i))
  made_slots atoms (c ∷ out) s k i = elim (or_split (conj_mentions m c s) (conjs_mention m out s) i) [ inl a ↦ k.0.slots s a | inr b ↦ made_slots atoms out s k.1 b ]

  made_lines : (atoms : List A) (out : List (List A)) → AllByRecursion (IsMadeOf m l cell atoms) out → IsSubset (conjs_lines l out) (conj_lines l atoms)
  made_lines atoms [] k x i = absurd i
  made_lines atoms (c ∷ out) k x i = elim (In-split x (conj_lines l c) (conjs_lines l out) i) [ inl a ↦ k.0.lines x a | inr b ↦ made_lines atoms out k.1 x b ]

  -- the complement is outside of the list
  complemented : (rel out : List (List A)) (piece : List A) → piece ≡ []
      → ((atoms : List A) → IsMadeOf m l cell atoms piece → AreAmong atoms (all_atoms rel) → ArePieces h m l cell atoms (λ p. conj_holds h piece p && not (conjs_hold h rel p)) out)
      → ArePieces h m l cell (all_atoms rel) (λ p. not (conjs_hold h rel p)) out
  complemented rel out piece e are =
      let a = are (all_atoms rel) (subst (IsMadeOf m l cell (all_atoms rel)) (sym e) (made_none m l cell (all_atoms rel))) (among_self (all_atoms rel)) in
      pieces_same h m l cell (all_atoms rel) (λ p. conj_holds h piece p && not (conjs_hold h rel p)) (λ p. not (conjs_hold h rel p)) out a (λ p i. ap (λ xs. conj_holds h xs p && not (conjs_hold h rel p)) (sym e))

  -- a complement
  pub record IsComplement (rel out : List (List A)) : Type 0 where
    pub is : IsOperation h m l (λ p. not (conjs_hold h rel p)) (conjs_mention m rel) (conjs_lines l rel) out
    pub disjoint : AreDisjoint h out
    pub cells : (IsWide m l (all_atoms rel) → ⊥) → HasCells cell (all_atoms rel) (length out)
    pub inhabited : (IsWide m l (all_atoms rel) → ⊥) → AllByRecursion (λ c. HoldsSomewhere (conj_holds h c)) out
    pub made : AllByRecursion (IsMadeOf m l cell (all_atoms rel)) out

  pub complement_is : CellsTell h cell → (rel out : List (List A)) (piece : List A) → piece ≡ []
      → ((atoms : List A) → IsMadeOf m l cell atoms piece → AreAmong atoms (all_atoms rel) → ArePieces h m l cell atoms (λ p. conj_holds h piece p && not (conjs_hold h rel p)) out) → IsComplement rel out
  complement_is tell rel out piece e are =
      let a = complemented rel out piece e are in
      record {
        is = record {
          holds = a.holds;
          slots = λ s i. sym (all_atoms-mention m rel s) ∙ made_slots (all_atoms rel) out s a.made i;
          lines = λ x i. subst (In x) (all_atoms-lines l rel) (made_lines (all_atoms rel) out a.made x i);
        };
        disjoint = a.disjoint;
        cells = λ n. has_cells h m l cell tell (all_atoms rel) out (a.inhabited n) a.disjoint a.made;
        inhabited = a.inhabited;
        made = a.made;
      }

  -- the conjunctions that are done, without the list
  pub record Subtracting (atoms : List A) (taken done out : List (List A)) : Type 0 where
    pub holds : (p : Point) → IsPoint p → conjs_hold h out p ≡ (conjs_hold h done p && not (conjs_hold h taken p))
    pub made : AllByRecursion (IsMadeOf m l cell atoms) out
    pub cells : (IsWide m l atoms → ⊥) → IsListForEach (λ pieces. HasCells cell atoms (length pieces) × AllByRecursion (λ c. HoldsSomewhere (conj_holds h c)) pieces) done out

  for_each-push : (P : List (List A) → Type 0) (done out pieces : List (List A)) (c : List A) → IsListForEach P done out → P pieces → IsListForEach P (done ++ c ∷ []) (out ++ pieces)
  for_each-push P [] out pieces c e k = (pieces, [], ap (λ xs. xs ++ pieces) e ∙ sym (append-nil pieces), k, refl)
  for_each-push P (d ∷ done) out pieces c e k = (e.0, e.1 ++ pieces, ap (λ xs. xs ++ pieces) e.2 ∙ append_assoc e.0 e.1 pieces, e.3, for_each-push P done e.1 pieces c e.4 k)

  pub subtracting_none : (atoms : List A) (taken : List (List A)) → Subtracting atoms taken [] []
  subtracting_none atoms taken = record { holds = λ p i. refl; made = tt; cells = λ n. refl }

  pub subtracting_more : CellsTell h cell → (atoms : List A) (taken done next out new pieces : List (List A)) (c piece : List A) → next ≡ done ++ c ∷ [] → new ≡ out ++ pieces → piece ≡ c → Subtracting atoms taken done out
      → ArePieces h m l cell atoms (λ p. conj_holds h piece p && not (conjs_hold h taken p)) pieces → Subtracting atoms taken next new
  subtracting_more tell atoms taken done next out new pieces c piece e f g s a = subst (λ xs. Subtracting atoms taken xs new) (sym e) (subst (Subtracting atoms taken (done ++ c ∷ [])) (sym f) (record {
    holds = λ p i. conjs_hold-append h out pieces p ∙ ap₂ (λ x y. x || y) (s.holds p i) (a.holds p i ∙ ap (λ xs. conj_holds h xs p && not (conjs_hold h taken p)) g)
        ∙ or_not (conjs_hold h done p) (conj_holds h c p) (conjs_hold h taken p) ∙ ap (λ b. b && not (conjs_hold h taken p)) (sym (conjs_push h m l cell done c p));
    made = all-append (IsMadeOf m l cell atoms) out pieces s.made a.made;
    cells = λ n. for_each-push (λ ps. HasCells cell atoms (length ps) × AllByRecursion (λ d. HoldsSomewhere (conj_holds h d)) ps) done out pieces c (s.cells n) (has_cells h m l cell tell atoms pieces (a.inhabited n) a.disjoint a.made, a.inhabited n);
  }))

  -- the conjunction is made of the atoms of a list that it stands in
  among_at : (xs : List (Vec A Global)) (i : ℕ) (x : Vec A Global) → i < length xs → x ≡ get_or xs i x → AreAmong (all_atoms (conjs_of xs)) x.items
  among_at [] i x lt e = absurd (omega (arith, lt))
  among_at (y ∷ xs) zero x lt e =
      all_weaker (λ a. IsAmong x.items a) (λ a. IsAmong (y.items ++ all_atoms (conjs_of xs)) a) x.items (λ a k. among_left y.items (all_atoms (conjs_of xs)) a (subst (λ (z : Vec A Global). IsAmong z.items a) e k)) (among_self x.items)
  among_at (y ∷ xs) (suc i) x lt e =
      all_weaker (λ a. IsAmong (all_atoms (conjs_of xs)) a) (λ a. IsAmong (y.items ++ all_atoms (conjs_of xs)) a) x.items (λ a k. among_right y.items (all_atoms (conjs_of xs)) a k) (among_at xs i x (omega (arith, lt)) e)

  pub from_made : (from taken : List (List A)) (xs : List (Vec A Global)) (i : ℕ) (x : Vec A Global) (piece : List A) → i < length xs → x ≡ get_or xs i x → conjs_of xs ≡ from → piece ≡ x.items
      → IsMadeOf m l cell (all_atoms from ++ all_atoms taken) piece
  from_made from taken xs i x piece lt e f g =
      subst (IsMadeOf m l cell (all_atoms from ++ all_atoms taken)) (sym g) (made_among m l cell (all_atoms from ++ all_atoms taken) x.items
      (among_front (all_atoms from) (all_atoms taken) x.items (subst (λ ys. AreAmong (all_atoms ys) x.items) f (among_at xs i x lt e))))

  pub taken_among : (from taken : List (List A)) → AreAmong (all_atoms from ++ all_atoms taken) (all_atoms taken)
  taken_among from taken = among_back (all_atoms from) (all_atoms taken) (all_atoms taken) (among_self (all_atoms taken))

  -- the difference is an operation
  pub minus_is : (from taken out : List (List A)) → Subtracting (all_atoms from ++ all_atoms taken) taken from out
      → IsOperation h m l (λ p. conjs_hold h from p && not (conjs_hold h taken p)) (λ s. conjs_mention m from s || conjs_mention m taken s) (conjs_lines l from ++ conjs_lines l taken) out
  minus_is from taken out s = record {
    holds = s.holds;
    slots = λ t i. sym (conj_mentions-append m (all_atoms from) (all_atoms taken) t ∙ ap₂ (λ a b. a || b) (all_atoms-mention m from t) (all_atoms-mention m taken t)) ∙ made_slots (all_atoms from ++ all_atoms taken) out t s.made i;
    lines = λ x i. subst (In x) (conj_lines-append l (all_atoms from) (all_atoms taken) ∙ ap₂ (λ xs ys. xs ++ ys) (all_atoms-lines l from) (all_atoms-lines l taken)) (made_lines (all_atoms from ++ all_atoms taken) out s.made x i);
  }
