-- Parts that are cut by texts.
--
-- What of the part satisfies an atom that fixes the slot to a text is a piece of its own, and what is left doesn't satisfy it. The
-- texts of such atoms ascend, so no point satisfies two of them. A conjunction whose atom holds only where one of these does takes
-- nothing away from what is left.
use Rattle.std.specs.Borrow.{Bor}
use Rattle.std.proofs.Common.{◌≡◌, ℕ, zero, suc, ◌<◌, ◌≤◌, ℤ, Bool, true, false, not, ◌&&◌, ◌||◌, List, [], ◌∷◌, ◌++◌, length, Vec, Global, inl, inr, arith, refl, sym, ap, ap₂, ◌∙◌, subst, true≢false}
use Rattle.std.specs.Prelude.{Option, Some, None}
use Rattle.std.specs.List.{AllByRecursion}
use Rattle.std.specs.Ordering.{nat_cmp, ordering_index, is_gt, ordering_reverse}
use Rattle.std.specs.declared.cmp.Ordering.{Ordering}
use Rattle.std.specs.declared.cmp.Ordering.TheVariants.{Less, Equal, Greater}
use Rattle.std.specs.Cmp.Lexicographic.{slice_cmp}
use Rattle.std.proofs.lemmas.Cmp.{nat_list_cmp_total, upto}
use Rattle.std.proofs.lemmas.Bool.{false_from_ne_true}
use Rattle.ded_model.specs.declared.slot.Slot.{Slot}
use Rattle.ded_model.specs.declared.tuple.Negated.{Negated}
use Rattle.ded_model.specs.declared.tuple.Negated.TheVariants.{One}
use Rattle.ded_model.specs.Point.{slot, Point, IsPoint, text_at}
use Rattle.ded_model.specs.Cell.{conj_holds}
use Rattle.ded_model.specs.Lines.{Line}
use Rattle.ded_model.proofs.Bools.{or_false_left, or_false_right}
use Rattle.ded_model.proofs.Points.{and_left, and_right}
use Rattle.ded_model.proofs.Rows.{or_right}
use Rattle.ded_model.proofs.Members.{or_split}
use Rattle.ded_genrel.specs.Lists.{conjs_hold}
use Rattle.ded_genrel.proofs.Items.{all-append, all-push}
use Rattle.ded_complement.specs.declared.boxed.Boxed.{Boxed}
use Rattle.ded_complement.specs.declared.by_texts.Cut.{Cut}
use Rattle.ded_complement.specs.declared.by_texts.Near.{Near}
use Rattle.ded_complement.specs.declared.keys.KeyedPlace.{KeyedPlace}
use Rattle.ded_complement.specs.declared.parts.BoxedPiece.{BoxedPiece}
use Rattle.ded_complement.specs.Boxed.{conjs_in, IsBoxed, AreBoxed}
use Rattle.ded_complement.specs.Cuts.{IsNear, IsBehind, IsNew, IsUpToLast, IsLastIn, IsCutFrom, IsCutOn, IsOwnCarved}
use Rattle.ded_complement.specs.Keys.{rank, IsKeyed, places_with, AreInOrder}
use Rattle.ded_complement.specs.Parts.{conj_at, conjs_at, ArePlaces, IsSameOutside, IsPart, AreCarved}
use Rattle.ded_complement.specs.Pieces.{all_atoms, IsAmong, AreAmong, IsMadeOf, IsAlike}
use Rattle.ded_complement.proofs.Cutting.{IsNegation, not_or}
use Rattle.ded_complement.proofs.PieceLaws.{all_among, made_append, made_piece, made_among, made_alike, conj_push, among_left, among_right, more_none, more_same, more_trans}
use Rattle.ded_complement.proofs.SameText.{under, hold_at-append, hold_at-push, keyed_hold-push, place_atom, rank_self, text_outside, part_is}
use Rattle.std.proofs.Math.Bool.{or-false, and-true, and-false}

-- ---- tests

narrow : (d c x y : Bool) → (d ≡ true → c ≡ true) → (c && not x) ≡ (c && not y) → (d && not x) ≡ (d && not y)
narrow true true x y f e = e
narrow true false x y f e = absurd (true≢false (sym (f refl)))
narrow false c x y f e = refl

not_both : (x y : Bool) → (x ≡ true → y ≡ true → ⊥) → (x && y) ≡ false
not_both true true n = absurd (n refl refl)
not_both true false n = refl
not_both false y n = refl

parts_apart : (c d a t : Bool) → (d && a) ≡ false → (((c && d) && t) && ((c && a) && t)) ≡ false
parts_apart true true true t e = absurd (true≢false e)
parts_apart true true false t e = and-false t
parts_apart true false a t e = refl
parts_apart false d a t e = refl

parts_sum : (c d a t : Bool) → ((c && (d || a)) && t) ≡ (((c && d) && t) || ((c && a) && t))
parts_sum true true true true = refl
parts_sum true true true false = refl
parts_sum true true false true = refl
parts_sum true true false false = refl
parts_sum true false a t = refl
parts_sum false d a t = refl

rest_apart : (c d t : Bool) → (((c && d) && t) && ((c && not d) && t)) ≡ false
rest_apart true true true = refl
rest_apart true true false = refl
rest_apart true false t = refl
rest_apart false d t = refl

rest_sum : (c d t : Bool) → (c && t) ≡ (((c && d) && t) || ((c && not d) && t))
rest_sum true true true = refl
rest_sum true true false = refl
rest_sum true false t = refl
rest_sum false d t = refl

rest_holds : (c d : Bool) → (c && not d) ≡ true → d ≡ false
rest_holds true true e = absurd (true≢false (sym e))
rest_holds true false e = refl
rest_holds false d e = absurd (true≢false (sym e))

-- ---- orders of texts

is_gt_from : (o : Ordering) → ordering_index o ≤ 1 → is_gt o ≡ false
is_gt_from Less h = refl
is_gt_from Equal h = refl
is_gt_from Greater h = absurd (omega (arith, h))

is_gt_to : (o : Ordering) → is_gt o ≡ false → ordering_index o ≤ 1
is_gt_to Less h = omega arith
is_gt_to Equal h = omega arith
is_gt_to Greater h = absurd (true≢false h)

is_less : (o : Ordering) → ordering_index o ≡ 0 → o ≡ Less
is_less Less e = refl
is_less Equal e = absurd (omega (arith, e))
is_less Greater e = absurd (omega (arith, e))

-- a text that comes after another one doesn't come before it and isn't the same
above : (t u : List ℕ) → rank u t ≡ 0 → rank t u ≤ 1 → ⊥
above t u e h =
    let less : slice_cmp nat_cmp u t ≡ Less = is_less (slice_cmp nat_cmp u t) e in
    let back : slice_cmp nat_cmp t u ≡ Greater = nat_list_cmp_total.antisymm t u ∙ ap ordering_reverse less in
    true≢false (sym (ap is_gt back) ∙ is_gt_from (slice_cmp nat_cmp t u) h)

up_to : (t u v : List ℕ) → rank t u ≤ 1 → rank u v ≡ 0 → rank t v ≤ 1
up_to t u v h e = is_gt_to (slice_cmp nat_cmp t v) (upto nat_list_cmp_total t u v (is_gt_from (slice_cmp nat_cmp t u) h) (ap is_gt (is_less (slice_cmp nat_cmp u v) e)))

module _ {A : Type 0} where
  -- the text of the last keyed place and one that comes after it
  last_up_to : (o : Option (Bor (KeyedPlace A))) (e : KeyedPlace A) (t : List ℕ) → IsUpToLast o t → IsNew o e → rank t e.text.now ≤ 1
  last_up_to None e t u w = absurd u
  last_up_to (Some o) e t u w = up_to t o.now.text.now e.text.now u w

  last_above : (o : Option (Bor (KeyedPlace A))) (e : KeyedPlace A) (t : List ℕ) → IsUpToLast o t → IsNew o e → t ≡ e.text.now → ⊥
  last_above None e t u w k = absurd u
  last_above (Some o) e t u w k = above t o.now.text.now (ap (rank o.now.text.now) k ∙ w) u

  last_holds : (h : A → Point → Bool) (o : Option (Bor (KeyedPlace A))) (e : KeyedPlace A) (done : Point → Bool) → IsBehind h o e → IsLastIn h o done → (p : Point) → IsPoint p → h e.atom.now p ≡ true → done p ≡ true
  last_holds h None e done b l p i k = absurd b
  last_holds h (Some o) e done b l p i k = l p i (b p i k)

module _ {A : Type 0} (h : A → Point → Bool) (m : A → Slot → Bool) (l : A → List Line) (cell : A → Point → ℤ) (n : A → Type 0) (k : Near A) where
  abbrev piece : List A
  piece = k.part.now.piece.conj.items

  abbrev taken : List (Boxed A)
  taken = k.taken.now

  abbrev Given : List A → Type 0
  Given atoms = IsMadeOf m l cell atoms piece × AreAmong atoms (all_atoms (conjs_in taken))

  -- nothing is cut off
  pub cut_none : (rest : Vec A Global) (left : Vec ℕ Global) (out : List (List A)) → rest.items ≡ piece → left.items ≡ [] → AllByRecursion n piece → IsCutFrom h m l cell n k [] out out (record { rest = rest; last = None; left = left })
  cut_none rest left out e f w = record {
    done = λ p. false;
    more = more_none h m l cell Given (λ p. (conj_holds h piece p && false) && not (conjs_hold h (conjs_in taken) p)) out out refl (λ p i. ap (λ b. b && not (conjs_hold h (conjs_in taken) p)) (and-false (conj_holds h piece p)));
    holds = λ p i. ap (λ c. conj_holds h c p) e ∙ sym (and-true (conj_holds h piece p));
    made = λ atoms g t. subst (IsMadeOf m l cell atoms) (sym e) g;
    normal = subst (AllByRecursion n) (sym e) w;
    below = λ p i d. absurd (true≢false (sym d));
    last = tt;
    places = subst (ArePlaces taken) (sym f) tt;
    left = λ p i d. sym (ap (λ is. conjs_hold h (conjs_at taken is) p) f);
  }

  module _ (e : KeyedPlace A) (keyed : IsKeyed h k.keys.now.slot taken e) where
    -- its conjunction holds only where its atom does
    only_there : (p : Point) → (h e.atom.now p ≡ true → ⊥) → conjs_hold h (conj_at taken e.place) p ≡ false
    only_there p w = false_from_ne_true (conjs_hold h (conj_at taken e.place) p) (λ b. w (place_atom h taken e.place e.atom.now p keyed.among b))

    -- its atom holds only where that of the last one does
    pub cut_behind : (mid : List (List A)) (cut : Cut A) → IsBehind h cut.last e → IsCutOn h m l cell n k e mid cut mid cut
    cut_behind mid cut b es old x = record {
      done = x.done;
      more = x.more;
      holds = x.holds;
      made = x.made;
      normal = x.normal;
      below = x.below;
      last = x.last;
      places = x.places;
      left = λ p i d. keyed_hold-push h taken es (es ++ e ∷ []) e p refl ∙ ap₂ (λ y z. y || z) (x.left p i d) (only_there p (λ t. true≢false (sym (last_holds h cut.last e x.done b x.last p i t) ∙ d)))
          ∙ or-false (conjs_hold h (conjs_at taken cut.left.items) p);
    }

    -- its place stays
    pub cut_left : (mid : List (List A)) (rest : Vec A Global) (last : Option (Bor (KeyedPlace A))) (left next : Vec ℕ Global) → next.items ≡ left.items ++ e.place ∷ []
        → IsCutOn h m l cell n k e mid (record { rest = rest; last = last; left = left }) mid (record { rest = rest; last = last; left = next })
    cut_left mid rest last left next f es old x = record {
      done = x.done;
      more = x.more;
      holds = x.holds;
      made = x.made;
      normal = x.normal;
      below = x.below;
      last = x.last;
      places = subst (ArePlaces taken) (sym f) (all-push (λ i. i < length taken) left.items e.place x.places keyed.inside);
      left = λ p i d. keyed_hold-push h taken es (es ++ e ∷ []) e p refl ∙ ap (λ y. y || conjs_hold h (conj_at taken e.place) p) (x.left p i d) ∙ sym (hold_at-push h taken left.items next.items e.place p f);
    }

    -- what has its text is cut off
    pub cut_off : (mid out : List (List A)) (rest longer : Vec A Global) (last : Option (Bor (KeyedPlace A))) (left : Vec ℕ Global) (o : Bor (KeyedPlace A)) (b : A) (g : Negated A) → o.now ≡ e → g ≡ One b → IsNegation h m l cell e.atom.now g → n b
        → IsAmong (all_atoms (conjs_in taken)) e.atom.now → longer.items ≡ rest.items ++ b ∷ [] → IsNew last e → IsOwnCarved h m l cell k e mid out
        → IsCutOn h m l cell n k e mid (record { rest = rest; last = last; left = left }) out (record { rest = longer; last = Some o; left = left })
    cut_off mid out rest longer last left o b g same is negation w among f new own es old x =
        let a = e.atom.now in
        let i = subst (IsNegation h m l cell a) is negation in
        let outside = λ (p : Point). not (conjs_hold h (conjs_in taken) p) in
        record {
          done = λ p. x.done p || h a p;
          more = more_trans h m l cell Given Given Given (λ p. (conj_holds h piece p && x.done p) && outside p) (λ p. (conj_holds h piece p && h a p) && outside p) (λ p. (conj_holds h piece p && (x.done p || h a p)) && outside p) old mid out x.more own
              (λ atoms t. t) (λ atoms t. t)
              (λ p j. parts_apart (conj_holds h piece p) (x.done p) (h a p) (outside p) (not_both (x.done p) (h a p) (λ d t. last_above last e (text_at p (slot k.keys.now.slot)) (x.below p j d) new (keyed.fixed p t))))
              (λ p j. parts_sum (conj_holds h piece p) (x.done p) (h a p) (outside p));
          holds = λ p j. ap (λ c. conj_holds h c p) f ∙ conj_push h m l cell rest.items b p ∙ ap₂ (λ y z. y && z) (x.holds p j) (i.holds p j.positive) ∙ not_or (conj_holds h piece p) (x.done p) (h a p);
          made = λ atoms t u. subst (IsMadeOf m l cell atoms) (sym f) (made_append m l cell atoms rest.items (b ∷ []) (x.made atoms t u)
              (made_piece m l cell atoms a b (all_among (λ z. IsAmong atoms z) (all_atoms (conjs_in taken)) a u among) i.cells i.slots i.lines));
          normal = subst (AllByRecursion n) (sym f) (all-push n rest.items b x.normal w);
          below = λ p j d. subst (λ (z : KeyedPlace A). rank (text_at p (slot k.keys.now.slot)) z.text.now ≤ 1) (sym same) (elim (or_split (x.done p) (h a p) d) [
            | inl t ↦ last_up_to last e (text_at p (slot k.keys.now.slot)) (x.below p j t) new
            | inr t ↦ same_rank (text_at p (slot k.keys.now.slot)) e.text.now (keyed.fixed p t)
          ]);
          last = λ p j t. or_right (x.done p) (h a p) (subst (λ (z : KeyedPlace A). h z.atom.now p ≡ true) same t);
          places = x.places;
          left = λ p j d. keyed_hold-push h taken es (es ++ e ∷ []) e p refl ∙ ap₂ (λ y z. y || z) (x.left p j (or_false_left (x.done p) (h a p) d))
              (only_there p (λ t. true≢false (sym t ∙ or_false_right (x.done p) (h a p) d))) ∙ or-false (conjs_hold h (conjs_at taken left.items) p);
        }
      where
        same_rank : (t u : List ℕ) → t ≡ u → rank t u ≤ 1
        same_rank t u e = subst (λ z. z ≤ 1) (sym (ap (λ y. rank y u) e ∙ rank_self u)) (omega arith)

    -- ---- what has its text

    pub own_part : (near : IsNear h n k) (js : List ℕ) (own : List A) (r : BoxedPiece A) → AreInOrder (places_with e.text.now k.keys.now) js → IsAlike h (piece ++ e.atom.now ∷ []) own
        → r.piece.conj.items ≡ own → IsBoxed h n k.slots.now r.piece → ArePlaces taken r.near.items → IsSameOutside h own (conjs_at taken js) (conjs_at taken r.near.items) → IsPart h n k.slots.now taken r
    own_part near js own r order alike f boxed places same =
        let both = λ (p : Point) (i : IsPoint p). alike.holds p i ∙ conj_push h m l cell piece e.atom.now p in
        part_is h n k.slots.now taken r own js f boxed places
        (text_outside h taken (conjs_at taken k.part.now.near.items) k.keys.now near.keys e.text.now js order own (conjs_in taken)
        (λ p i. narrow (conj_holds h own p) (conj_holds h piece p) (conjs_hold h (conjs_in taken) p) (conjs_hold h (conjs_at taken k.part.now.near.items) p) (λ b. and_left (conj_holds h piece p) (h e.atom.now p) (sym (both p i) ∙ b)) (near.part.near p i))
        (λ p i b. keyed.fixed p (and_right (conj_holds h piece p) (h e.atom.now p) (sym (both p i) ∙ b)))) same

    pub own_carved : (old new : List (List A)) (own c : List A) → IsAmong (all_atoms (conjs_in taken)) e.atom.now → IsAlike h (piece ++ e.atom.now ∷ []) own → c ≡ own → AreCarved h m l cell taken c old new → IsOwnCarved h m l cell k e old new
    own_carved old new own c among alike f x =
        let y = subst (λ d. AreCarved h m l cell taken d old new) f x in
        more_same h m l cell _ Given (λ p. conj_holds h own p && not (conjs_hold h (conjs_in taken) p)) (λ p. (conj_holds h piece p && h e.atom.now p) && not (conjs_hold h (conjs_in taken) p)) old new y
        (λ atoms g. (
          made_alike m l cell h atoms (piece ++ e.atom.now ∷ []) own (made_append m l cell atoms piece (e.atom.now ∷ []) g.0
              (made_among m l cell atoms (e.atom.now ∷ []) (all_among (λ z. IsAmong atoms z) (all_atoms (conjs_in taken)) e.atom.now g.1 among, tt))) alike,
          g.1,
        ))
        (λ p i. ap (λ b. b && not (conjs_hold h (conjs_in taken) p)) (sym (alike.holds p i ∙ conj_push h m l cell piece e.atom.now p)))

  -- ---- what is left at the end

  module _ (near : IsNear h n k) (old out : List (List A)) (cut : Cut A) (x : IsCutFrom h m l cell n k k.keys.now.keyed.items old out cut) where
    pub rest_part : (is : List ℕ) (r : BoxedPiece A) → is ≡ cut.left.items ++ k.keys.now.others.items → r.piece.conj.items ≡ cut.rest.items → IsBoxed h n k.slots.now r.piece → ArePlaces taken r.near.items
        → IsSameOutside h cut.rest.items (conjs_at taken is) (conjs_at taken r.near.items) → IsPart h n k.slots.now taken r
    rest_part is r e f boxed places same =
        part_is h n k.slots.now taken r cut.rest.items is f boxed places
        (λ p i. narrow (conj_holds h cut.rest.items p) (conj_holds h piece p) (conjs_hold h (conjs_in taken) p) (conjs_hold h (conjs_at taken k.part.now.near.items) p) (λ b. and_left (conj_holds h piece p) (not (x.done p)) (sym (x.holds p i) ∙ b)) (near.part.near p i)
        ∙ under (conj_holds h cut.rest.items p) (conjs_hold h (conjs_at taken k.part.now.near.items) p) (conjs_hold h (conjs_at taken is) p) (λ b. near.keys.all p ∙ ap (λ y. y || conjs_hold h (conjs_at taken k.keys.now.others.items) p) (x.left p i (rest_holds (conj_holds h piece p) (x.done p) (sym (x.holds p i) ∙ b)))
        ∙ sym (ap (λ js. conjs_hold h (conjs_at taken js) p) e ∙ hold_at-append h taken cut.left.items k.keys.now.others.items p))) same

    pub rest_places : (is : List ℕ) → is ≡ cut.left.items ++ k.keys.now.others.items → ArePlaces taken is
    rest_places is e = subst (ArePlaces taken) (sym e) (all-append (λ i. i < length taken) cut.left.items k.keys.now.others.items x.places near.keys.others)

    pub rest_carved : (new : List (List A)) (c : List A) → c ≡ cut.rest.items → AreCarved h m l cell taken c out new → AreCarved h m l cell taken piece old new
    rest_carved new c e y =
        let z = subst (λ d. AreCarved h m l cell taken d out new) e y in
        let outside = λ (p : Point). not (conjs_hold h (conjs_in taken) p) in
        more_trans h m l cell Given _ Given (λ p. (conj_holds h piece p && x.done p) && outside p) (λ p. conj_holds h cut.rest.items p && outside p) (λ p. conj_holds h piece p && outside p) old out new x.more z
        (λ atoms t. t) (λ atoms t. (x.made atoms t.0 t.1, t.1))
        (λ p i. ap (λ b. ((conj_holds h piece p && x.done p) && outside p) && (b && outside p)) (x.holds p i) ∙ rest_apart (conj_holds h piece p) (x.done p) (outside p))
        (λ p i. rest_sum (conj_holds h piece p) (x.done p) (outside p) ∙ ap (λ b. ((conj_holds h piece p && x.done p) && outside p) || (b && outside p)) (sym (x.holds p i)))

-- an atom of a keyed place is one of the list
pub keyed_among : {A : Type 0} (bs : List (Boxed A)) (i : ℕ) (a : A) → IsAmong (all_atoms (conj_at bs i)) a → IsAmong (all_atoms (conjs_in bs)) a
keyed_among [] i a k = absurd k
keyed_among (b ∷ bs) zero a k = among_left b.conj.items (all_atoms (conjs_in bs)) a (among_whole b.conj.items a k)
  where
    among_whole : {A : Type 0} (c : List A) (a : A) → IsAmong (c ++ []) a → IsAmong c a
    among_whole [] a k = absurd k
    among_whole (x ∷ c) a (inl e) = inl e
    among_whole (x ∷ c) a (inr j) = inr (among_whole c a j)
keyed_among (b ∷ bs) (suc i) a k = among_right b.conj.items (all_atoms (conjs_in bs)) a (keyed_among bs i a k)

-- so it is in normal form
pub keyed_normal : {A : Type 0} (h : A → Point → Bool) (n : A → Type 0) (ss : List Slot) (bs : List (Boxed A)) (a : A) → AreBoxed h n ss bs → IsAmong (all_atoms (conjs_in bs)) a → n a
keyed_normal h n ss bs a boxed i = all_among n (all_atoms (conjs_in bs)) a (all_normal bs boxed) i
  where
    all_normal : (bs : List (Boxed _)) → AreBoxed h n ss bs → AllByRecursion n (all_atoms (conjs_in bs))
    all_normal [] k = tt
    all_normal (b ∷ bs) k = all-append n b.conj.items (all_atoms (conjs_in bs)) k.0.normal (all_normal bs k.1)
