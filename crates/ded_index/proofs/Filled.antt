-- A range whose halves have their ends: with the greatest end at the node it has its own.
use Rattle.std.proofs.Common.{◌≡◌, ℕ, zero, suc, ◌+◌, ◌-◌, min, ◌<◌, ◌≤◌, ◌/◌, List, [], ◌∷◌, ◌++◌, length, take, drop, get_or, Option, arith, refl, sym, ap, ap₂, ◌∙◌, subst, append_assoc, append-nil, add-one, length-append}
use Rattle.std.specs.Prelude.{slice_set}
use Rattle.std.specs.Option.{MatchOption}
use Rattle.std.proofs.Math.Seq.{drop-cons, set-append_seam}
use Rattle.std.proofs.lemmas.List.{take_at, drop_at, drop_all, length-take}
use borrow.Rule.Slice.PartMut.{put_mid, post_of}
use Rattle.ded_model.specs.declared.bound.Bound.{Bound}
use Rattle.ded_model.specs.Bound.{upper}
use Rattle.ded_box.specs.Intervals.{wider}
use Rattle.ded_box.specs.Boxes.{AreIntervals}
use Rattle.ded_index.specs.declared.entry.BoxEntry.{BoxEntry}
use Rattle.ded_index.specs.declared.tree.BoxNode.{BoxNode}
use Rattle.ded_index.specs.Entries.{high}
use Rattle.ded_index.specs.Trees.{entries_of, IsGreatest, AreEnds, AreSound}
use Rattle.ded_index.proofs.Members.{all-left, all-right, entries_of-append, entries_of-length}
use Rattle.ded_index.proofs.Greatest.{greatest_of_one, greatest_before, greatest_after}

-- ---- lists round an element

get_seam : (xs : List BoxNode) (y : BoxNode) (ys : List BoxNode) (d : BoxNode) → get_or (xs ++ y ∷ ys) (length xs) d ≡ y
get_seam [] y ys d = refl
get_seam (x ∷ xs) y ys d = get_seam xs y ys d

get_at : (xs : List BoxNode) (y : BoxNode) (ys : List BoxNode) (k : ℕ) (d : BoxNode) → length xs ≡ k → get_or (xs ++ y ∷ ys) k d ≡ y
get_at xs y ys k d e = ap (λ i. get_or (xs ++ y ∷ ys) i d) (sym e) ∙ get_seam xs y ys d

drop_past : (xs : List BoxNode) (y : BoxNode) (ys : List BoxNode) (k : ℕ) → length xs ≡ k → drop (k + 1) (xs ++ y ∷ ys) ≡ ys
drop_past xs y ys k e = ap (drop (k + 1)) (sym (append_assoc xs (y ∷ []) ys)) ∙ drop_at (xs ++ y ∷ []) ys (k + 1) (length-append xs (y ∷ []) ∙ ap (λ n. n + 1) e)

take_past : (xs : List BoxNode) (y : BoxNode) (ys : List BoxNode) (k : ℕ) → length xs ≡ k → take (k + 1) (xs ++ y ∷ ys) ≡ xs ++ y ∷ []
take_past xs y ys k e = ap (take (k + 1)) (sym (append_assoc xs (y ∷ []) ys)) ∙ take_at (xs ++ y ∷ []) ys (k + 1) (length-append xs (y ∷ []) ∙ ap (λ n. n + 1) e)

-- the left half is put back, and what lies from the node on is as it was
pub after_left : (ns ls : List BoxNode) (m : ℕ) (d : BoxNode) → m < length ns → length ls ≡ m → ls ++ drop m ns ≡ ls ++ get_or ns m d ∷ drop (m + 1) ns
after_left ns ls m d h e = ap (λ ys. ls ++ ys) (drop-cons ns m d h ∙ ap (λ k. get_or ns m d ∷ drop k ns) (sym (add-one m)))

length-seam : (ls : List BoxNode) (x : BoxNode) (rs : List BoxNode) (m : ℕ) → length ls ≡ m → length (ls ++ x ∷ rs) ≡ m + 1 + length rs
length-seam ls x rs m e = length-append ls (x ∷ rs) ∙ ap (λ k. k + suc (length rs)) e ∙ regroup m (length rs)
  where
    regroup : (a b : ℕ) → a + suc b ≡ a + 1 + b
    regroup a b = omega arith

-- so the right half is what it was
pub right_part : (ns ls : List BoxNode) (m : ℕ) (d : BoxNode) → m < length ns → length ls ≡ m → take (length (ls ++ drop m ns) - (m + 1)) (drop (m + 1) (ls ++ drop m ns)) ≡ drop (m + 1) ns
right_part ns ls m d h e =
    let s = after_left ns ls m d h e in
    let x = get_or ns m d in
    let rs = drop (m + 1) ns in
    ap (λ xs. take (length xs - (m + 1)) (drop (m + 1) xs)) s ∙ ap₂ take (ap (λ k. k - (m + 1)) (length-seam ls x rs m e) ∙ less m (length rs)) (drop_past ls x rs m e) ∙ ap (take (length rs)) (sym (append-nil rs)) ∙ take_at rs [] (length rs) refl
  where
    less : (a b : ℕ) → a + 1 + b - (a + 1) ≡ b
    less a b = omega arith

-- and it is put back behind the node
put_right : (ls : List BoxNode) (x : BoxNode) (rs rs' : List BoxNode) (m : ℕ) → length ls ≡ m → put_mid (m + 1) (length (ls ++ x ∷ rs) - (m + 1)) (ls ++ x ∷ rs) rs' ≡ ls ++ x ∷ rs'
put_right ls x rs rs' m e =
    let k : ℕ = length (ls ++ x ∷ rs) - (m + 1) in
    let none : post_of (m + 1) k (ls ++ x ∷ rs) ≡ [] = ap (drop k) (drop_past ls x rs m e) ∙ drop_all k rs (enough (length rs) (length (ls ++ x ∷ rs)) m (length-seam ls x rs m e)) in
    ap₂ (λ (xs ys : List BoxNode). xs ++ (rs' ++ ys)) (take_past ls x rs m e) none ∙ ap (λ ys. (ls ++ x ∷ []) ++ ys) (append-nil rs') ∙ append_assoc ls (x ∷ []) rs'
  where
    enough : (r l m : ℕ) → l ≡ m + 1 + r → r ≤ l - (m + 1)
    enough r l m e = omega arith

-- ---- the range

-- the list that fill leaves: ns with its halves filled and its node closed
pub record IsFilled (ns out : List BoxNode) (m : ℕ) (ls : List BoxNode) (n : BoxNode) (rs : List BoxNode) : Type 0 where
  pub is : out ≡ ls ++ n ∷ rs
  pub place : length ls ≡ m
  pub left : entries_of ls ≡ entries_of (take m ns)
  pub right : entries_of rs ≡ entries_of (drop (m + 1) ns)
  pub split : entries_of ns ≡ entries_of ls ++ n.entry ∷ entries_of rs

split_here : (ns : List BoxNode) (m : ℕ) (d : BoxNode) → m < length ns → ns ≡ take m ns ++ get_or ns m d ∷ drop (m + 1) ns
split_here [] m d h = absurd (omega (arith, h))
split_here (x ∷ ns) zero d h = refl
split_here (x ∷ ns) (suc m) d h = ap (λ ys. x ∷ ys) (split_here ns m d (omega (arith, h)) ∙ ap (λ k. take m ns ++ get_or ns m d ∷ drop k ns) (add-one m)) ∙ ap (λ k. x ∷ (take m ns ++ get_or ns m d ∷ drop k (x ∷ ns))) (sym (add-one (suc m)))

least : (a b : ℕ) → a < b → min a b ≡ a
least a b h = omega arith

pub place_of : (ns ls : List BoxNode) (m : ℕ) → m < length ns → entries_of ls ≡ entries_of (take m ns) → length ls ≡ m
place_of ns ls m h el = sym (entries_of-length ls) ∙ ap length el ∙ entries_of-length (take m ns) ∙ length-take m ns ∙ least m (length ns) h

pub filled : (ns ls rs : List BoxNode) (m : ℕ) (n n' : BoxNode) → m < length ns → entries_of ls ≡ entries_of (take m ns) → entries_of rs ≡ entries_of (take (length (ls ++ drop m ns) - (m + 1)) (drop (m + 1) (ls ++ drop m ns)))
    → n ≡ get_or (put_mid (m + 1) (length (ls ++ drop m ns) - (m + 1)) (ls ++ drop m ns) rs) m n → n'.entry ≡ n.entry
    → IsFilled ns (slice_set (put_mid (m + 1) (length (ls ++ drop m ns) - (m + 1)) (ls ++ drop m ns) rs) m n') m ls n' rs
filled ns ls rs m n n' h el er en ec =
    let x = get_or ns m n in
    let place : length ls ≡ m = place_of ns ls m h el in
    let s = after_left ns ls m n h place in
    let whole : put_mid (m + 1) (length (ls ++ drop m ns) - (m + 1)) (ls ++ drop m ns) rs ≡ ls ++ x ∷ rs = ap (λ xs. put_mid (m + 1) (length xs - (m + 1)) xs rs) s ∙ put_right ls x (drop (m + 1) ns) rs m place in
    let same : n ≡ x = en ∙ ap (λ xs. get_or xs m n) whole ∙ get_at ls x rs m n place in
    let right : entries_of rs ≡ entries_of (drop (m + 1) ns) = er ∙ ap entries_of (right_part ns ls m n h place) in record {
      is = ap (λ xs. slice_set xs m n') whole ∙ ap (λ k. slice_set (ls ++ x ∷ rs) k n') (sym place) ∙ set-append_seam ls x rs n';
      place = place;
      left = el;
      right = right;
      split = ap entries_of (split_here ns m n h) ∙ entries_of-append (take m ns) (x ∷ drop (m + 1) ns)
          ∙ ap₂ (λ (xs ys : List BoxEntry). xs ++ x.entry ∷ ys) (sym el) (sym right) ∙ ap (λ e. entries_of ls ++ e ∷ entries_of rs) (sym (ec ∙ ap (λ (y : BoxNode). y.entry) same));
    }

module _ (ns out : List BoxNode) (m : ℕ) (ls : List BoxNode) (n : BoxNode) (rs : List BoxNode) (f : IsFilled ns out m ls n rs) where
  pub filled_entries : entries_of out ≡ entries_of ns
  filled_entries = ap entries_of f.is ∙ entries_of-append ls (n ∷ rs) ∙ sym f.split

  -- the greatest end is that of the node and of those of the halves
  pub filled_greatest : (first last : Bound) (o1 o2 : Option Bound) → AreSound (entries_of ns)
      → MatchOption o1 (length (entries_of (take m ns)) ≡ 0) (λ b. IsGreatest (entries_of (take m ns)) b) → MatchOption o2 (length (entries_of (drop (m + 1) ns)) ≡ 0) (λ b. IsGreatest (entries_of (drop (m + 1) ns)) b)
      → MatchOption o1 (first ≡ high n.entry) (λ b. first ≡ wider upper (high n.entry) b) → MatchOption o2 (last ≡ first) (λ b. last ≡ wider upper first b) → IsGreatest (entries_of ns) last
  filled_greatest first last o1 o2 s g1 g2 h1 h2 =
      let e = n.entry in
      let el = entries_of ls in
      let er = entries_of rs in
      let sound : AreSound (el ++ e ∷ er) = subst AreSound f.split s in
      let sl = all-left (λ x. AreIntervals x.bounds) el (e ∷ er) sound in
      let sr = all-right (λ x. AreIntervals x.bounds) el (e ∷ er) sound in
      let here = greatest_before (e ∷ []) el (high e) first o1 (sr.0, tt) sl (greatest_of_one e (high e) refl) (subst (λ es. MatchOption o1 (length es ≡ 0) (λ b. IsGreatest es b)) (sym f.left) g1) h1 in
      let both_sound : AreSound (el ++ e ∷ []) = all-left (λ x. AreIntervals x.bounds) (el ++ e ∷ []) er (subst AreSound (sym (append_assoc el (e ∷ []) er)) sound) in
      let all = greatest_after (el ++ e ∷ []) er first last o2 both_sound sr.1 here (subst (λ es. MatchOption o2 (length es ≡ 0) (λ b. IsGreatest es b)) (sym f.right) g2) h2 in
      subst (λ es. IsGreatest es last) (append_assoc el (e ∷ []) er ∙ sym f.split) all

  pub filled_ends : m ≡ length ns / 2 → IsGreatest (entries_of ns) n.end → ((h : ℕ) → AreEnds h ls) → ((h : ℕ) → AreEnds h rs) → (h : ℕ) → AreEnds h out
  filled_ends e g l r zero = tt
  filled_ends e g l r (suc h) =
      let same : length out ≡ length ns = sym (entries_of-length out) ∙ ap length filled_entries ∙ entries_of-length ns in
      let middle : m ≡ length out / 2 = e ∙ ap (λ k. k / 2) (sym same) in
      subst (λ k. ((d : BoxNode) → 0 < length out → IsGreatest (entries_of out) (get_or out k d).end) × AreEnds h (take k out) × AreEnds h (drop (k + 1) out)) middle (
        λ d p. subst (λ (y : BoxNode). IsGreatest (entries_of out) y.end) (sym (ap (λ xs. get_or xs m d) f.is ∙ get_at ls n rs m d f.place)) (subst (λ es. IsGreatest es n.end) (sym filled_entries) g),
        subst (AreEnds h) (sym (ap (take m) f.is ∙ take_at ls (n ∷ rs) m f.place)) (l h),
        subst (AreEnds h) (sym (ap (drop (m + 1)) f.is ∙ drop_past ls n rs m f.place)) (r h),
      )

-- nothing has no nodes
pub no_ends : (ns : List BoxNode) → length ns ≡ 0 → (h : ℕ) → AreEnds h ns
no_ends [] e zero = tt
no_ends [] e (suc h) = (λ d p. absurd (omega (arith, p)), no_ends [] e h, no_ends [] e h)
no_ends (n ∷ ns) e h = absurd (omega arith)

pub sound_take : (ns : List BoxNode) (m : ℕ) → AreSound (entries_of ns) → AreSound (entries_of (take m ns))
sound_take [] zero h = tt
sound_take [] (suc m) h = tt
sound_take (n ∷ ns) zero h = tt
sound_take (n ∷ ns) (suc m) h = (h.0, sound_take ns m h.1)

sound_from : (ns : List BoxNode) (m : ℕ) → AreSound (entries_of ns) → AreSound (entries_of (drop m ns))
sound_from [] zero h = tt
sound_from [] (suc m) h = tt
sound_from (n ∷ ns) zero h = h
sound_from (n ∷ ns) (suc m) h = sound_from ns m h.1

-- of the right half, after the left one is put back
pub sound_right : (ns ls : List BoxNode) (m : ℕ) (d : BoxNode) → m < length ns → entries_of ls ≡ entries_of (take m ns) → AreSound (entries_of ns) → AreSound (entries_of (take (length (ls ++ drop m ns) - (m + 1)) (drop (m + 1) (ls ++ drop m ns))))
sound_right ns ls m d h e s = subst (λ xs. AreSound (entries_of xs)) (sym (right_part ns ls m d h (place_of ns ls m h e))) (sound_from ns (m + 1) s)

-- the same, with any node for one that is missing
pub sound_right_any : (ns ls : List BoxNode) (m : ℕ) → m < length ns → entries_of ls ≡ entries_of (take m ns) → AreSound (entries_of ns) → AreSound (entries_of (take (length (ls ++ drop m ns) - (m + 1)) (drop (m + 1) (ls ++ drop m ns))))
sound_right_any [] ls m h e s = absurd (omega (arith, h))
sound_right_any (n ∷ ns) ls m h e s = sound_right (n ∷ ns) ls m n h e s

pub half_below : (k : ℕ) → 0 < k → k / 2 < k
half_below k h = omega arith
