-- Lines of a goal that only one name loses.
--
-- Where the lines of the name before are those after and some others, those of an atom of the name are those after and these others, read
-- at its arguments. A connective puts lines together. Past a quantifier whose slot none of the others mentions they stay, and no
-- combination is made of them; so they go through the whole goal.
use Rattle.std.proofs.Common.{◌≡◌, ℕ, Bool, true, false, cond, not, ◌&&◌, inl, inr, List, [], ◌∷◌, ◌++◌, refl, sym, ap, ◌∙◌, subst, true≢false, bytes_eq}
use Rattle.std.specs.List.{AllByRecursion}
use Rattle.std.proofs.lemmas.Slice.Eq.{bytes_eq-Decides}
use Rattle.ded_model.specs.declared.goal.Place.{Place}
use Rattle.ded_model.specs.declared.slot.Slot.{Slot}
use Rattle.ded_model.specs.declared.slot.Sort.{Sort}
use Rattle.ded_model.specs.declared.slot.Sort.TheVariants.{Rat, Text}
use Rattle.ded_model.specs.Goal.{GoalAtom, linear, theme, member, GoalForm}
use Rattle.ded_model.specs.Lines.{Line, In, IsSubset, both_mention, lines_clash, combination, combined, elim_at, elim_past, elim_past_all, line_with, renamed_coefs, renamed_lines, lines, all_lines, atoms_lines}
use Rattle.ded_model.specs.Logic.{Logic, atom, always, never, negation, every_of, some_of, implies, minus, exists, forall, Logics, none, also, AllAtoms, AllAtomsOf}
use Rattle.ded_model.specs.Measure.{Measures, scanned_lines, goal_atom_lines}
use Rattle.ded_model.specs.Point.{Key, slot, name}
use Rattle.ded_model.specs.Row.{row_mentions}
use Rattle.ded_model.specs.Scanned.{scanned, scanned_slots, tied_atoms, fresh_slots}
use Rattle.ded_model.specs.Uses.{goal_atom_uses}
use Rattle.ded_model.proofs.Bools.{or_false_left, or_false_right, bytes_eq-refl}
use Rattle.ded_model.proofs.Growth.{renamed-In, renamed-grows, elim_past_all-grows}
use Rattle.ded_model.proofs.Members.{In-left, In-right, In-split, elim-In, In-elim-kept, In-elim-pair, subset_refl, subset_append}
use Rattle.ded_model.proofs.Points.{and_left, and_right}
use Rattle.ded_database.specs.Lost.{lines_mention, binds_one, binds, any_binds, with_arguments, with_all, with_all_of, AreReadAmong}

-- ---- past a quantifier

-- a combination is one of two lines that mention the slot
combined_both : (s : Slot) (l m x : Line) → In x (combined s l m) → both_mention s l m ≡ true
combined_both s l m x h = by (both_mention s l m) (lines_clash s l m) h
  where
    by : (b c : Bool) → In x (cond (b && not c) (combination s l m) []) → b ≡ true
    by true c i = refl
    by false c i = absurd i

-- a line that mentions a slot isn't among lines of which none does
others_not : (more : List Line) (s : Slot) (l : Line) → lines_mention more s ≡ false → In l more → row_mentions l s ≡ true → ⊥
others_not [] s l e i m = i
others_not (x ∷ more) s l e (inl i) m = true≢false (sym m ∙ ap (λ y. row_mentions y s) i ∙ or_false_left (row_mentions x s) (lines_mention more s) e)
others_not (x ∷ more) s l e (inr i) m = others_not more s l (or_false_right (row_mentions x s) (lines_mention more s) e) i m

-- so it is one of the first lines
is_first : (ls more : List Line) (s : Slot) (l : Line) → lines_mention more s ≡ false → In l (ls ++ more) → row_mentions l s ≡ true → In l ls
is_first ls more s l e i m = elim (In-split l ls more i) [ inl a ↦ a | inr b ↦ absurd (others_not more s l e b m) ]

elim-beside : (s : Slot) (xs ys more : List Line) → lines_mention more s ≡ false → IsSubset xs (ys ++ more) → IsSubset (elim_at s xs) (elim_at s ys ++ more)
elim-beside s xs ys more e f l h = elim (elim-In s xs l h) [
  | inl a ↦ elim (In-split l ys more (f l a.0)) [
    | inl b ↦ In-left l (elim_at s ys) more (In-elim-kept s ys l b a.1)
    | inr b ↦ In-right l (elim_at s ys) more b
  ]
  | inr p ↦
      let both = combined_both s p.first p.second l p.combined in
      In-left l (elim_at s ys) more (In-elim-pair s ys l (record {
        first = p.first;
        second = p.second;
        in_first = is_first ys more s p.first e (f p.first p.in_first) (and_left (row_mentions p.first s) (row_mentions p.second s) both);
        in_second = is_first ys more s p.second e (f p.second p.in_second) (and_right (row_mentions p.first s) (row_mentions p.second s) both);
        combined = p.combined;
      }))
]

past-beside : (s : Sort) (k : Key) (xs ys more : List Line) → binds_one (lines_mention more) s k ≡ false → IsSubset xs (ys ++ more) → IsSubset (elim_past s k xs) (elim_past s k ys ++ more)
past-beside Rat (slot s) xs ys more e f = elim-beside s xs ys more e f
past-beside Rat (name x) xs ys more e f = f
past-beside Text k xs ys more e f = f

-- ---- formulas

-- two parts
both-beside : (xs ys xs' ys' more : List Line) → IsSubset xs (xs' ++ more) → IsSubset ys (ys' ++ more) → IsSubset (xs ++ ys) ((xs' ++ ys') ++ more)
both-beside xs ys xs' ys' more f g l h = elim (In-split l xs ys h) [
  | inl a ↦ elim (In-split l xs' more (f l a)) [
    | inl b ↦ In-left l (xs' ++ ys') more (In-left l xs' ys' b)
    | inr b ↦ In-right l (xs' ++ ys') more b
  ]
  | inr a ↦ elim (In-split l ys' more (g l a)) [
    | inl b ↦ In-left l (xs' ++ ys') more (In-right l xs' ys' b)
    | inr b ↦ In-right l (xs' ++ ys') more b
  ]
]

-- lines that the atoms have besides are all that the formula has besides
module _ {L : Type 0} (of of' : L → List Line) (more : List Line) where
  mutual
    pub lines-beside : (f : Logic L) → AllAtoms (λ a. IsSubset (of a) (of' a ++ more)) f → binds (lines_mention more) f ≡ false → IsSubset (lines of f) (lines of' f ++ more)
    lines-beside (atom a) k e = k
    lines-beside always k e = λ l h. absurd h
    lines-beside never k e = λ l h. absurd h
    lines-beside (negation f) k e = lines-beside f k e
    lines-beside (every_of fs) k e = all_lines-beside fs k e
    lines-beside (some_of fs) k e = all_lines-beside fs k e
    lines-beside (implies f g) k e =
        both-beside (lines of f) (lines of g) (lines of' f) (lines of' g) more (lines-beside f k.0 (or_false_left (binds (lines_mention more) f) (binds (lines_mention more) g) e)) (lines-beside g k.1 (or_false_right (binds (lines_mention more) f) (binds (lines_mention more) g) e))
    lines-beside (minus f g) k e =
        both-beside (lines of f) (lines of g) (lines of' f) (lines of' g) more (lines-beside f k.0 (or_false_left (binds (lines_mention more) f) (binds (lines_mention more) g) e)) (lines-beside g k.1 (or_false_right (binds (lines_mention more) f) (binds (lines_mention more) g) e))
    lines-beside (exists s j f) k e =
        past-beside s j (lines of f) (lines of' f) more (or_false_left (binds_one (lines_mention more) s j) (binds (lines_mention more) f) e)
        (lines-beside f k (or_false_right (binds_one (lines_mention more) s j) (binds (lines_mention more) f) e))
    lines-beside (forall s j f) k e =
        past-beside s j (lines of f) (lines of' f) more (or_false_left (binds_one (lines_mention more) s j) (binds (lines_mention more) f) e)
        (lines-beside f k (or_false_right (binds_one (lines_mention more) s j) (binds (lines_mention more) f) e))

    -- of a list
    all_lines-beside : (fs : Logics L) → AllAtomsOf (λ a. IsSubset (of a) (of' a ++ more)) fs → any_binds (lines_mention more) fs ≡ false → IsSubset (all_lines of fs) (all_lines of' fs ++ more)
    all_lines-beside none k e = λ l h. absurd h
    all_lines-beside (also f fs) k e =
        both-beside (lines of f) (all_lines of fs) (lines of' f) (all_lines of' fs) more (lines-beside f k.0 (or_false_left (binds (lines_mention more) f) (any_binds (lines_mention more) fs) e))
        (all_lines-beside fs k.1 (or_false_right (binds (lines_mention more) f) (any_binds (lines_mention more) fs) e))

-- ---- atoms

-- an atom of a name: where its arguments are read among the others
abbrev pub IsReadIn : List ℕ → List Line → List Line → GoalAtom → Type 0
IsReadIn n ls more (linear r) = Unit {0}
IsReadIn n ls more (theme a) = Unit {0}
IsReadIn n ls more (member m ts) = bytes_eq m n ≡ true → AreReadAmong ls more ts

-- renamed lines of two lists
one_of : (m : Line) (ys : List Line) → In m ys → IsSubset (m ∷ []) ys
one_of m ys h l (inl e) = subst (λ x. In x ys) (sym e) h
one_of m ys h l (inr i) = absurd i

renamed-both : (ss : List Slot) (xs ys zs : List Line) → IsSubset xs (ys ++ zs) → IsSubset (renamed_lines ss xs) (renamed_lines ss ys ++ renamed_lines ss zs)
renamed-both ss xs ys zs f l h =
    let r = renamed-In ss xs l h in
    let here : In l (renamed_lines ss (r.0 ∷ [])) = In-left l (line_with (renamed_coefs ss r.0.coefs) r.0.constant) [] r.2 in
    elim (In-split r.0 ys zs (f r.0 r.1)) [
      | inl a ↦ In-left l (renamed_lines ss ys) (renamed_lines ss zs) (renamed-grows ss (r.0 ∷ []) ys (one_of r.0 ys a) l here)
      | inr b ↦ In-right l (renamed_lines ss ys) (renamed_lines ss zs) (renamed-grows ss (r.0 ∷ []) zs (one_of r.0 zs b) l here)
    ]

module _ (M N : Measures) (n : List ℕ) (ls more : List Line) (lost : IsSubset (M n).lines ((N n).lines ++ ls)) where
  -- of the name itself
  own-beside : (ts : List Place) → AreReadAmong ls more ts → IsSubset (goal_atom_lines M (member n ts)) (goal_atom_lines N (member n ts) ++ more)
  own-beside ts k = subst (λ ss. IsSubset (elim_past_all ss (scanned_lines M n (scanned ts))) (elim_past_all ss (scanned_lines N n (scanned ts)) ++ more)) (sym k.fresh)
      (λ l h. elim (In-split l (renamed_lines (scanned_slots (scanned ts)) (M n).lines) (atoms_lines (tied_atoms (scanned ts))) h) [
        | inl a ↦ elim (In-split l (renamed_lines (scanned_slots (scanned ts)) (N n).lines) (renamed_lines (scanned_slots (scanned ts)) ls) (renamed-both (scanned_slots (scanned ts)) (M n).lines (N n).lines ls lost l a)) [
          | inl b ↦ In-left l (scanned_lines N n (scanned ts)) more (In-left l (renamed_lines (scanned_slots (scanned ts)) (N n).lines) (atoms_lines (tied_atoms (scanned ts))) b)
          | inr b ↦ In-right l (scanned_lines N n (scanned ts)) more (k.read l b)
        ]
        | inr a ↦ In-left l (scanned_lines N n (scanned ts)) more (In-right l (renamed_lines (scanned_slots (scanned ts)) (N n).lines) (atoms_lines (tied_atoms (scanned ts))) a)
      ])

  -- of an atom
  pub atom-beside : (a : GoalAtom) → IsReadIn n ls more a → ((m : List ℕ) → goal_atom_uses m a ≡ true → bytes_eq m n ≡ false → IsSubset (M m).lines (N m).lines)
      → IsSubset (goal_atom_lines M a) (goal_atom_lines N a ++ more)
  atom-beside (linear r) k u = λ l h. In-left l (goal_atom_lines N (linear r)) more h
  atom-beside (theme a) k u = λ l h. absurd h
  atom-beside (member m ts) k u = by (bytes_eq m n) refl
    where
      by : (b : Bool) → bytes_eq m n ≡ b → IsSubset (goal_atom_lines M (member m ts)) (goal_atom_lines N (member m ts) ++ more)
      by true e = subst (λ o. IsSubset (goal_atom_lines M (member o ts)) (goal_atom_lines N (member o ts) ++ more)) (sym ((bytes_eq-Decides m n).0 e)) (own-beside ts (k e))
      by false e = λ l h. In-left l (goal_atom_lines N (member m ts)) more
          (elim_past_all-grows (fresh_slots (scanned ts)) _ _
          (subset_append _ _ _ _ (renamed-grows (scanned_slots (scanned ts)) _ _ (u m (bytes_eq-refl m) e)) (subset_refl _)) l h)

-- ---- the arguments that are gathered

all_front : (P : List Place → Type 0) (done : List (List Place)) (ts : List Place) → AllByRecursion P (done ++ ts ∷ []) → AllByRecursion P done
all_front P [] ts h = tt
all_front P (x ∷ done) ts h = (h.0, all_front P done ts h.1)

all_last : (P : List Place → Type 0) (done : List (List Place)) (ts : List Place) → AllByRecursion P (done ++ ts ∷ []) → P ts
all_last P [] ts h = h.0
all_last P (x ∷ done) ts h = all_last P done ts h.1

module _ (n : List ℕ) (ls more : List Line) where
  abbrev All : List (List Place) → Type 0
  All tss = AllByRecursion (AreReadAmong ls more) tss

  -- an atom of the name is among them
  one_gathered : (a : GoalAtom) (done : List (List Place)) → All (with_arguments n done a) → All done × IsReadIn n ls more a
  one_gathered (linear r) done h = (h, tt)
  one_gathered (theme a) done h = (h, tt)
  one_gathered (member m ts) done h = by (bytes_eq m n) h
    where
      by : (b : Bool) → All (cond b (done ++ ts ∷ []) done) → All done × (b ≡ true → AreReadAmong ls more ts)
      by true h = (all_front (AreReadAmong ls more) done ts h, λ e. all_last (AreReadAmong ls more) done ts h)
      by false h = (h, λ e. absurd (true≢false (sym e)))

  mutual
    -- and so are all of a goal
    pub all_gathered : (g : GoalForm) (done : List (List Place)) → All (with_all n done g) → All done × AllAtoms (IsReadIn n ls more) g
    all_gathered (atom a) done h = one_gathered a done h
    all_gathered always done h = (h, tt)
    all_gathered never done h = (h, tt)
    all_gathered (negation f) done h = all_gathered f done h
    all_gathered (every_of fs) done h = all_gathered_of fs done h
    all_gathered (some_of fs) done h = all_gathered_of fs done h
    all_gathered (implies f g) done h = let second = all_gathered g (with_all n done f) h in let first = all_gathered f done second.0 in (first.0, (first.1, second.1))
    all_gathered (minus f g) done h = let second = all_gathered g (with_all n done f) h in let first = all_gathered f done second.0 in (first.0, (first.1, second.1))
    all_gathered (exists s k f) done h = all_gathered f done h
    all_gathered (forall s k f) done h = all_gathered f done h

    all_gathered_of : (fs : Logics GoalAtom) (done : List (List Place)) → All (with_all_of n done fs) → All done × AllAtomsOf (IsReadIn n ls more) fs
    all_gathered_of none done h = (h, tt)
    all_gathered_of (also f fs) done h = let second = all_gathered_of fs (with_all n done f) h in let first = all_gathered f done second.0 in (first.0, (first.1, second.1))

-- ---- lines that are read

pub read_more : (ls old new : List Line) → IsSubset old new → (tss : List (List Place)) → AllByRecursion (AreReadAmong ls old) tss → AllByRecursion (AreReadAmong ls new) tss
read_more ls old new f [] k = tt
read_more ls old new f (ts ∷ tss) k = (record { fresh = k.0.fresh; read = λ l h. f l (k.0.read l h) }, read_more ls old new f tss k.1)
