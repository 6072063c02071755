-- What a visit may pass over.
--
-- A range in which all intervals end before the window begins holds no near entry, and neither do entries that begin after it
-- ends. What stands before an entry that begins before the window ends does so too.
use Rattle.std.proofs.Common.{◌≡◌, ℕ, zero, suc, ◌+◌, ◌<◌, ◌≤◌, ◌-◌, ◌/◌, true, false, cond, List, [], ◌∷◌, ◌++◌, length, take, drop, get_or, inl, inr, arith, refl, sym, ap, ◌∙◌, subst, true≢false, add-one}
use Rattle.std.specs.List.{AllByRecursion}
use Rattle.std.proofs.lemmas.List.{take_all, length-drop}
use Rattle.ded_model.specs.declared.bound.Bound.{Bound}
use Rattle.ded_model.proofs.Points.{and_left}
use Rattle.ded_box.specs.Intervals.{may_meet, has_value, intervals_meet}
use Rattle.ded_box.specs.Boxes.{AreIntervals, boxes_meet}
use Rattle.ded_box.proofs.Insides.{may_meet_decides}
use Rattle.ded_box.proofs.Shares.{parts_of, from_parts}
use Rattle.ded_index.specs.declared.entry.BoxEntry.{BoxEntry}
use Rattle.ded_index.specs.declared.tree.BoxNode.{BoxNode}
use Rattle.ded_index.specs.Entries.{Box, first_of, low, high, SomeEntry, ids_in, near_first}
use Rattle.ded_index.specs.Trees.{entries_of, NotAfter, InOrder, IsGreatest, AreFull, AreSound, IsTree}
use Rattle.ded_index.specs.Costs.{Begins}
use Rattle.ded_index.proofs.Greatest.{low-positive, high-positive, EndsBy}
use Rattle.ded_index.proofs.Members.{all-left, all-right, all-weaker, all-both, entries_of-append}
use Rattle.ded_index.proofs.Orders.{entry_follows, earlier_meets}
use Rattle.std.proofs.lemmas.Bool.{false_from_ne_true}

-- ---- boxes that meet, meet in their first intervals

boxes_first : (a w : Box) → boxes_meet a w ≡ true → intervals_meet (first_of a) (first_of w) ≡ true
boxes_first [] [] h = refl
boxes_first [] (j ∷ js) h = absurd (true≢false (sym h))
boxes_first (i ∷ is) [] h = absurd (true≢false (sym h))
boxes_first (i ∷ is) (j ∷ js) h = and_left (intervals_meet i j) (boxes_meet is js) h

-- entries whose first intervals don't meet that of the window
abbrev pub IsFar : Box → BoxEntry → Type 0
IsFar w e = intervals_meet (first_of e.bounds) (first_of w) ≡ false

pub far_found : (w : Box) (es : List BoxEntry) → AllByRecursion (IsFar w) es → ids_in w es ≡ []
far_found w [] h = refl
far_found w (e ∷ es) h =
    ap (λ b. cond b (e.id ∷ ids_in w es) (ids_in w es)) (false_from_ne_true (boxes_meet e.bounds w) (λ m. true≢false (sym (boxes_first e.bounds w m) ∙ h.0))) ∙ far_found w es h.1

-- ---- ends

module _ (w : Box) where
  -- what ends before the window begins
  far_behind : (e : BoxEntry) → may_meet (first_of w).0 (high e) ≡ false → IsFar w e
  far_behind e h = false_from_ne_true (intervals_meet (first_of e.bounds) (first_of w)) (λ m. true≢false (sym (parts_of (first_of e.bounds) (first_of w) m).back ∙ h))

  -- what begins after it ends
  far_ahead : (e : BoxEntry) → may_meet (low e) (first_of w).1 ≡ false → IsFar w e
  far_ahead e h = false_from_ne_true (intervals_meet (first_of e.bounds) (first_of w)) (λ m. true≢false (sym (parts_of (first_of e.bounds) (first_of w) m).forth ∙ h))

  -- an entry without values
  pub far_empty : (e : BoxEntry) → has_value (first_of e.bounds) ≡ false → IsFar w e
  far_empty e h = false_from_ne_true (intervals_meet (first_of e.bounds) (first_of w)) (λ m. true≢false (sym (parts_of (first_of e.bounds) (first_of w) m).first ∙ h))

  -- a window without values
  pub far_window : (e : BoxEntry) → has_value (first_of w) ≡ false → IsFar w e
  far_window e h = false_from_ne_true (intervals_meet (first_of e.bounds) (first_of w)) (λ m. true≢false (sym (parts_of (first_of e.bounds) (first_of w) m).second ∙ h))

  -- a range whose greatest end is before the window
  pub dead_found : (es : List BoxEntry) (b : Bound) → AreIntervals w → IsGreatest es b → may_meet (first_of w).0 b ≡ false → ids_in w es ≡ []
  dead_found es b iw g h = far_found w es (all-weaker (EndsBy b) (IsFar w) es
      (λ e f. far_behind e (false_from_ne_true (may_meet (first_of w).0 (high e)) (λ m. true≢false (sym (f (first_of w).0 (low-positive w iw) m) ∙ h)))) g.upper)

  near_one : (e : BoxEntry) → intervals_meet (first_of e.bounds) (first_of w) ≡ true → (es : List BoxEntry) → near_first w (e ∷ es) ≡ 1 + near_first w es
  near_one e h es = ap (λ b. cond b 1 0 + near_first w es) h

  -- else, where all begin before the window ends, some entry is near
  pub some_near : (es : List BoxEntry) (b : Bound) → has_value (first_of w) ≡ true → AreFull es → AllByRecursion (Begins w) es → SomeEntry (λ e. high e ≡ b) es → may_meet (first_of w).0 b ≡ true → 1 ≤ near_first w es
  some_near [] b hw f a h m = absurd h
  some_near (e ∷ es) b hw f a (inl h) m =
      let near = from_parts (first_of e.bounds) (first_of w) (record { first = f.0; second = hw; forth = a.0; back = ap (may_meet (first_of w).0) h ∙ m }) in
      let n = near_one e near es in omega arith
  some_near (e ∷ es) b hw f a (inr h) m =
      let rest = some_near es b hw f.1 a.1 h m in at_least (cond (intervals_meet (first_of e.bounds) (first_of w)) 1 0) (near_first w es) rest
    where
      at_least : (x y : ℕ) → 1 ≤ y → 1 ≤ x + y
      at_least x y h = omega arith

  -- ---- order

  begins_before : (x e : BoxEntry) → AreIntervals w → AreIntervals x.bounds → AreIntervals e.bounds → NotAfter x e → Begins w e → Begins w x
  begins_before x e iw ix ie n b =
      let px = low-positive x.bounds ix in
      let pe = low-positive e.bounds ie in
      (may_meet_decides (low x) (first_of w).1).1 (earlier_meets (low x) (low e) (first_of w).1 px pe (high-positive w iw) (entry_follows e x pe px n) ((may_meet_decides (low e) (first_of w).1).0 b))

  -- what stands before an entry that begins before the window ends
  pub left_begins : (e : BoxEntry) (xs : List BoxEntry) → AreIntervals w → AreIntervals e.bounds → AreSound xs → AllByRecursion (λ x. NotAfter x e) xs → Begins w e → AllByRecursion (Begins w) xs
  left_begins e xs iw ie s n b = all-both (λ x. AreIntervals x.bounds) (λ x. NotAfter x e) (Begins w) xs (λ x ix nx. begins_before x e iw ix ie nx b) s n

  -- what stands from an entry on that begins after the window ends
  pub right_far : (e : BoxEntry) (xs : List BoxEntry) → AreIntervals w → AreIntervals e.bounds → AreSound xs → AllByRecursion (NotAfter e) xs → may_meet (low e) (first_of w).1 ≡ false → AllByRecursion (IsFar w) (e ∷ xs)
  right_far e xs iw ie s n h = (
    far_ahead e h,
    all-both (λ x. AreIntervals x.bounds) (NotAfter e) (IsFar w) xs (λ x ix nx. far_ahead x (false_from_ne_true (may_meet (low x) (first_of w).1) (λ m. true≢false (sym (begins_before e x iw ie ix nx m) ∙ h)))) s n,
  )

-- ---- a list in order, round one of its entries

pub inorder-left : (xs ys : List BoxEntry) → InOrder (xs ++ ys) → InOrder xs
inorder-left [] ys h = tt
inorder-left (x ∷ xs) ys h = (all-left (NotAfter x) xs ys h.0, inorder-left xs ys h.1)

pub inorder-right : (xs ys : List BoxEntry) → InOrder (xs ++ ys) → InOrder ys
inorder-right [] ys h = h
inorder-right (x ∷ xs) ys h = inorder-right xs ys h.1

inorder-before : (xs : List BoxEntry) (e : BoxEntry) (ys : List BoxEntry) → InOrder (xs ++ e ∷ ys) → AllByRecursion (λ x. NotAfter x e) xs
inorder-before [] e ys h = tt
inorder-before (x ∷ xs) e ys h = ((all-right (NotAfter x) xs (e ∷ ys) h.0).0, inorder-before xs e ys h.1)

-- ---- a tree round a node

split_suc : (ns : List BoxNode) (i : ℕ) (n : BoxNode) → i < length ns → n ≡ get_or ns i n → ns ≡ take i ns ++ n ∷ drop (suc i) ns
split_suc [] i n h e = absurd (omega (arith, h))
split_suc (x ∷ ns) zero n h e = ap (λ y. y ∷ ns) (sym e)
split_suc (x ∷ ns) (suc i) n h e = ap (λ ys. x ∷ ys) (split_suc ns i n (omega (arith, h)) e)

split_at : (ns : List BoxNode) (i : ℕ) (n : BoxNode) → i < length ns → n ≡ get_or ns i n → ns ≡ take i ns ++ n ∷ drop (i + 1) ns
split_at ns i n h e = split_suc ns i n h e ∙ ap (λ k. take i ns ++ n ∷ drop k ns) (sym (add-one i))

pub record IsRound (ns : List BoxNode) (n : BoxNode) (ls rs : List BoxNode) : Type 0 where
  pub split : entries_of ns ≡ entries_of ls ++ n.entry ∷ entries_of rs
  pub left : IsTree ls
  pub right : IsTree rs
  pub sound : AreIntervals n.entry.bounds
  pub before : AllByRecursion (λ x. NotAfter x n.entry) (entries_of ls)
  pub after : AllByRecursion (NotAfter n.entry) (entries_of rs)
  pub greatest : IsGreatest (entries_of ns) n.end

pub tree_round : (ns : List BoxNode) (n : BoxNode) → 0 < length ns → n ≡ get_or ns (length ns / 2) n → IsTree ns → IsRound ns n (take (length ns / 2) ns) (drop (length ns / 2 + 1) ns)
tree_round ns n p e t =
    let m : ℕ = length ns / 2 in
    let ls = take m ns in
    let rs = drop (m + 1) ns in
    let s : entries_of ns ≡ entries_of ls ++ n.entry ∷ entries_of rs = ap entries_of (split_at ns m n (half (length ns) p) e) ∙ entries_of-append ls (n ∷ rs) in
    let order : InOrder (entries_of ls ++ n.entry ∷ entries_of rs) = subst InOrder s t.order in
    let full : AreFull (entries_of ls ++ n.entry ∷ entries_of rs) = subst AreFull s t.full in
    let sound : AreSound (entries_of ls ++ n.entry ∷ entries_of rs) = subst AreSound s t.sound in
    let later = inorder-right (entries_of ls) (n.entry ∷ entries_of rs) order in
    let full_later = all-right (λ x. has_value (first_of x.bounds) ≡ true) (entries_of ls) (n.entry ∷ entries_of rs) full in
    let sound_later = all-right (λ x. AreIntervals x.bounds) (entries_of ls) (n.entry ∷ entries_of rs) sound in record {
      split = s;
      left = record {
        order = inorder-left (entries_of ls) (n.entry ∷ entries_of rs) order;
        full = all-left (λ x. has_value (first_of x.bounds) ≡ true) (entries_of ls) (n.entry ∷ entries_of rs) full;
        sound = all-left (λ x. AreIntervals x.bounds) (entries_of ls) (n.entry ∷ entries_of rs) sound;
        ends = λ h. (t.ends (suc h)).1;
      };
      right = record { order = later.1; full = full_later.1; sound = sound_later.1; ends = λ h. (t.ends (suc h)).2 };
      sound = sound_later.0;
      before = inorder-before (entries_of ls) n.entry (entries_of rs) order;
      after = later.0;
      greatest = subst (λ (x : BoxNode). IsGreatest (entries_of ns) x.end) (sym e) ((t.ends 1).0 n p);
    }
  where
    half : (k : ℕ) → 0 < k → k / 2 < k
    half k h = omega arith

-- the list from a place on, as a slice has it
pub tail_is : (ns : List BoxNode) (k : ℕ) → take (length ns - k) (drop k ns) ≡ drop k ns
tail_is ns k = take_all (length ns - k) (drop k ns) (simp length-drop (at_most (length ns - k)))
  where
    at_most : (n : ℕ) → n ≤ n
    at_most n = omega arith
