-- Plans whose lines are the same are the same.
use Rattle.std.proofs.Common.{◌≡◌, ℕ, ◌+◌, ◌⊎◌, inl, inr, List, [], ◌∷◌, ◌++◌, length, map, drop, refl, sym, ap, ap₂, subst, ◌∙◌, arith, append_assoc, append-nil}
use Rattle.std.specs.Prelude.{codes}
use Rattle.std.specs.List.{AllByRecursion}
use Rattle.ded_model.specs.declared.slot.Slot.{Slot}
use Rattle.ded_model.specs.declared.slot.Sort.{Sort}
use Rattle.ded_model.specs.declared.slot.Sort.TheVariants.{Rat, Text}
use Rattle.ded_model.specs.Logic.{atom, always, never, negation, every_of, some_of, implies, minus, exists, forall, Logics, none, also}
use Rattle.ded_model.specs.PlanForm.{PlanAtom, scan, rows, PlanForm}
use Rattle.ded_model.specs.Point.{Key, slot, name, IsSlotOf}
use Rattle.ded_model.proofs.SlotLists.{slot_same_parts}
use Rattle.ded_print.specs.Numbers.{number_text, count_text}
use Rattle.ded_print.specs.Plans.{indent, later_slots_text, slots_text, plan_atom_text, key_text, sort_text, parts, node_lines, part_lines, plan_text}
use Rattle.ded_print.specs.Quiet.{IsQuiet, IsQuietPlan, AreQuietPlans}
use Rattle.ded_print.specs.Told.{IsToldAtom, IsToldPlan, AreToldPlans}
use Rattle.ded_print.specs.Tuples.{slot_names}
use Rattle.ded_print.proofs.Numerals.{same_number}
use Rattle.ded_print.proofs.QuotedLines.{number_quiet, closed_written, counted_lines}
use Rattle.ded_print.proofs.QuotedTexts.{inner_nodes}
use Rattle.ded_print.proofs.Runs.{tails, no_byte, first, behind, Ends, Digit, number_run, same_slots}
use Rattle.ded_print.proofs.TuplesTold.{same_tuples}

-- ---- scans

slots_end : (ss : List Slot) → Ends Digit (later_slots_text ss ++ codes ")")
slots_end [] = λ d. omega (arith, d.0)
slots_end (s ∷ ss) = λ d. omega (arith, d.0)

abbrev sorts_of : List Slot → List Sort
sorts_of ss = map (λ (s : Slot). s.sort) ss

sort_tails : (s t : Sort) (ss us : List Sort) → s ∷ ss ≡ t ∷ us → (s ≡ t) × (ss ≡ us)
sort_tails s t ss us e = (cc, cc)

same_later_slots : (ss us : List Slot) → sorts_of ss ≡ sorts_of us → later_slots_text ss ++ codes ")" ≡ later_slots_text us ++ codes ")" → ss ≡ us
same_later_slots [] [] k e = refl
same_later_slots [] (u ∷ us) k e = absurd (omega (arith, ap first e))
same_later_slots (s ∷ ss) [] k e = absurd (omega (arith, ap first e))
same_later_slots (s ∷ ss) (u ∷ us) k e =
    let sorts = sort_tails s.sort u.sort (sorts_of ss) (sorts_of us) k in
    let r = same_slots s u (later_slots_text ss ++ codes ")") (later_slots_text us ++ codes ")") (slots_end ss) (slots_end us)
    (sym (append_assoc (slot_names s) (later_slots_text ss) (codes ")")) ∙ ap (drop 2) e ∙ append_assoc (slot_names u) (later_slots_text us) (codes ")")) in
    ap₂ (λ (x : Slot) (l : List Slot). x ∷ l) (slot_same_parts s u r.0 sorts.0) (same_later_slots ss us sorts.1 r.1)

same_slot_lists : (ss us : List Slot) → sorts_of ss ≡ sorts_of us → slots_text ss ++ codes ")" ≡ slots_text us ++ codes ")" → ss ≡ us
same_slot_lists [] [] k e = refl
same_slot_lists [] (u ∷ us) k e = absurd (omega (arith, ap first e))
same_slot_lists (s ∷ ss) [] k e = absurd (omega (arith, ap first e))
same_slot_lists (s ∷ ss) (u ∷ us) k e =
    let sorts = sort_tails s.sort u.sort (sorts_of ss) (sorts_of us) k in
    let r = same_slots s u (later_slots_text ss ++ codes ")") (later_slots_text us ++ codes ")") (slots_end ss) (slots_end us)
    (sym (append_assoc (slot_names s) (later_slots_text ss) (codes ")")) ∙ e ∙ append_assoc (slot_names u) (later_slots_text us) (codes ")")) in
    ap₂ (λ (x : Slot) (l : List Slot). x ∷ l) (slot_same_parts s u r.0 sorts.0) (same_later_slots ss us sorts.1 r.1)

-- none of the bytes opens a parenthesis
abbrev OpensNone : List ℕ → Type 0
OpensNone = AllByRecursion (λ b. b ≡ 40 → ⊥)

none_behind : (p q : List ℕ) → OpensNone p → OpensNone q → OpensNone (p ++ q)
none_behind [] q h k = k
none_behind (b ∷ p) q h k = (h.0, none_behind p q h.1 k)

digits_open : (ds : List ℕ) → AllByRecursion Digit ds → OpensNone ds
digits_open [] h = tt
digits_open (d ∷ ds) h = ((λ e. omega (arith, e, h.0.0)), digits_open ds h.1)

slot_opens : (s : Slot) → OpensNone (slot_names s)
slot_opens s = ((λ e. omega (arith, e)), digits_open (number_text s.number) (number_run s.number))

later_closed : (ss : List Slot) → OpensNone (later_slots_text ss ++ codes ")")
later_closed [] = ((λ e. omega (arith, e)), tt)
later_closed (s ∷ ss) = (
  (λ e. omega (arith, e)),
  ((λ e. omega (arith, e)), subst OpensNone (sym (append_assoc (slot_names s) (later_slots_text ss) (codes ")"))) (none_behind (slot_names s) (later_slots_text ss ++ codes ")") (slot_opens s) (later_closed ss))),
)

slots_closed : (ss : List Slot) → OpensNone (slots_text ss ++ codes ")")
slots_closed [] = ((λ e. omega (arith, e)), tt)
slots_closed (s ∷ ss) = subst OpensNone (sym (append_assoc (slot_names s) (later_slots_text ss) (codes ")"))) (none_behind (slot_names s) (later_slots_text ss ++ codes ")") (slot_opens s) (later_closed ss))

-- a parenthesis opens within
not_among : (p q : List ℕ) → OpensNone (p ++ 40 ∷ q) → ⊥
not_among [] q h = h.0 refl
not_among (b ∷ p) q h = not_among p q h.1

-- what stands before the last parenthesis that opens, and behind it
same_fronts : (n m p q : List ℕ) → OpensNone p → OpensNone q → n ++ 40 ∷ p ≡ m ++ 40 ∷ q → (n ≡ m) × (p ≡ q)
same_fronts [] [] p q h k e = (refl, (tails e).1)
same_fronts [] (c ∷ m) p q h k e = absurd (not_among m q (subst OpensNone (tails e).1 h))
same_fronts (b ∷ n) [] p q h k e = absurd (not_among n p (subst OpensNone (sym (tails e).1) k))
same_fronts (b ∷ n) (c ∷ m) p q h k e =
    let t = tails e in
    let r = same_fronts n m p q h k t.1 in
    (ap₂ (λ (x : ℕ) (l : List ℕ). x ∷ l) t.0 r.0, r.1)

same_scans : (sorts : List ℕ → List Sort) (n m : List ℕ) (ss us : List Slot) → IsToldAtom sorts (scan n ss) → IsToldAtom sorts (scan m us) → plan_atom_text (scan n ss) ≡ plan_atom_text (scan m us) → scan n ss ≡ scan m us
same_scans sorts n m ss us h k e =
    let r = same_fronts n m (slots_text ss ++ codes ")") (slots_text us ++ codes ")") (slots_closed ss) (slots_closed us) (ap (drop 5) e) in
    ap₂ scan r.0 (same_slot_lists ss us (h.1 ∙ ap sorts r.0 ∙ sym k.1) r.1)

same_plan_atoms : (sorts : List ℕ → List Sort) (a b : PlanAtom) → IsToldAtom sorts a → IsToldAtom sorts b → plan_atom_text a ≡ plan_atom_text b → a ≡ b
same_plan_atoms sorts (scan n ss) (scan m us) h k e = same_scans sorts n m ss us h k e
same_plan_atoms sorts (scan n ss) (rows u) h k e = absurd (omega (arith, ap first e))
same_plan_atoms sorts (rows t) (scan m us) h k e = absurd (omega (arith, ap first e))
same_plan_atoms sorts (rows t) (rows u) h k e = ap rows (same_tuples t u h k (ap (drop 5) e))

-- ---- what is projected away

sort_ends : (s : Sort) → Ends Digit (sort_text s)
sort_ends Rat = tt
sort_ends Text = λ d. omega (arith, d.0)

same_sorts : (s t : Sort) → sort_text s ≡ sort_text t → s ≡ t
same_sorts Rat Rat e = refl
same_sorts Rat Text e = absurd (no_byte e)
same_sorts Text Rat e = absurd (no_byte (sym e))
same_sorts Text Text e = refl

-- the sort and the key
same_keys : (s t : Sort) (k j : Key) → IsSlotOf s k → IsSlotOf t j → key_text k ++ sort_text s ≡ key_text j ++ sort_text t → (s ≡ t) × (k ≡ j)
same_keys s t (slot u) (slot w) h i e =
    let r = same_slots u w (sort_text s) (sort_text t) (sort_ends s) (sort_ends t) e in
    let sort = same_sorts s t r.1 in
    (sort, ap slot (slot_same_parts u w r.0 (h ∙ sort ∙ sym i)))
same_keys s t (slot u) (name y) h i e = absurd i
same_keys s t (name x) j h i e = absurd h

-- ---- nodes

line_tails : {a b : List ℕ} {p q : List (List ℕ)} → a ∷ p ≡ b ∷ q → (a ≡ b) × (p ≡ q)
line_tails e = (cc, cc)

-- the first lines, behind the same indentation, and the other ones
same_node : (d : ℕ) (l m : List ℕ) (ls ms : List (List ℕ)) → (indent d ++ l) ∷ ls ≡ (indent d ++ m) ∷ ms → (l ≡ m) × (ls ≡ ms)
same_node d l m ls ms e = let t = line_tails e in (behind (indent d) l m t.0, t.1)

other_node : (d : ℕ) (l m : List ℕ) (ls ms : List (List ℕ)) → (first l ≡ first m → ⊥) → (indent d ++ l) ∷ ls ≡ (indent d ++ m) ∷ ms → ⊥
other_node d l m ls ms h e = h (ap first (same_node d l m ls ms e).0)

flat_lines : (ls ms xs : List (List ℕ)) → (ls ++ ms) ++ xs ≡ ls ++ (ms ++ xs)
flat_lines ls ms xs = append_assoc ls ms xs

-- the first byte of a scan or of a list of atoms
atom_byte : (a : PlanAtom) → (first (plan_atom_text a) ≡ 115) ⊎ (first (plan_atom_text a) ≡ 114)
atom_byte (scan n ss) = inl refl
atom_byte (rows t) = inr refl

mutual
  same_tree : (sorts : List ℕ → List Sort) (d : ℕ) (f g : PlanForm) (xs ys : List (List ℕ)) → IsToldPlan sorts f → IsToldPlan sorts g → node_lines d f ++ xs ≡ node_lines d g ++ ys → (f ≡ g) × (xs ≡ ys)
  same_tree sorts d (atom f) (atom g) xs ys h k e =
      let n = same_node d (plan_atom_text f) (plan_atom_text g) xs ys e in
      (ap (λ (a : PlanAtom). atom a) (same_plan_atoms sorts f g h k n.0), n.1)
  same_tree sorts d (atom f) (negation g) xs ys h k e = absurd (other_node d (plan_atom_text f) (codes "not") ([] ++ xs) (node_lines (d + 1) g ++ ys) (λ z. let a = atom_byte f in elim a [ inl x ↦ omega (arith, x, z) | inr x ↦ omega (arith, x, z) ]) e)
  same_tree sorts d (atom f) (every_of gs) xs ys h k e = absurd (other_node d (plan_atom_text f) (codes "join " ++ number_text (parts gs)) ([] ++ xs) (part_lines (d + 1) gs ++ ys) (λ z. let a = atom_byte f in elim a [ inl x ↦ omega (arith, x, z) | inr x ↦ omega (arith, x, z) ]) e)
  same_tree sorts d (atom f) (some_of gs) xs ys h k e = absurd (other_node d (plan_atom_text f) (codes "union " ++ number_text (parts gs)) ([] ++ xs) (part_lines (d + 1) gs ++ ys) (λ z. let a = atom_byte f in elim a [ inl x ↦ omega (arith, x, z) | inr x ↦ omega (arith, x, z) ]) e)
  same_tree sorts d (atom f) (minus g g2) xs ys h k e = absurd (other_node d (plan_atom_text f) (codes "minus") ([] ++ xs) ((node_lines (d + 1) g ++ node_lines (d + 1) g2) ++ ys) (λ z. let a = atom_byte f in elim a [ inl x ↦ omega (arith, x, z) | inr x ↦ omega (arith, x, z) ]) e)
  same_tree sorts d (atom f) (exists gs gk g) xs ys h k e = absurd (other_node d (plan_atom_text f) (codes "project " ++ (key_text gk ++ sort_text gs)) ([] ++ xs) (node_lines (d + 1) g ++ ys) (λ z. let a = atom_byte f in elim a [ inl x ↦ omega (arith, x, z) | inr x ↦ omega (arith, x, z) ]) e)
  same_tree sorts d (atom f) always xs ys h k e = absurd k
  same_tree sorts d (atom f) never xs ys h k e = absurd k
  same_tree sorts d (atom f) (implies g g2) xs ys h k e = absurd k
  same_tree sorts d (atom f) (forall gs gk g) xs ys h k e = absurd k
  same_tree sorts d (negation f) (atom g) xs ys h k e = absurd (other_node d (codes "not") (plan_atom_text g) (node_lines (d + 1) f ++ xs) ([] ++ ys) (λ z. let a = atom_byte g in elim a [ inl x ↦ omega (arith, x, z) | inr x ↦ omega (arith, x, z) ]) e)
  same_tree sorts d (negation f) (negation g) xs ys h k e =
      let n = same_node d (codes "not") (codes "not") (node_lines (d + 1) f ++ xs) (node_lines (d + 1) g ++ ys) e in
      let r = same_tree sorts (d + 1) f g xs ys h k n.1 in
      (ap (λ (z : PlanForm). negation z) r.0, r.1)
  same_tree sorts d (negation f) (every_of gs) xs ys h k e = absurd (other_node d (codes "not") (codes "join " ++ number_text (parts gs)) (node_lines (d + 1) f ++ xs) (part_lines (d + 1) gs ++ ys) (λ z. omega (arith, z)) e)
  same_tree sorts d (negation f) (some_of gs) xs ys h k e = absurd (other_node d (codes "not") (codes "union " ++ number_text (parts gs)) (node_lines (d + 1) f ++ xs) (part_lines (d + 1) gs ++ ys) (λ z. omega (arith, z)) e)
  same_tree sorts d (negation f) (minus g g2) xs ys h k e = absurd (other_node d (codes "not") (codes "minus") (node_lines (d + 1) f ++ xs) ((node_lines (d + 1) g ++ node_lines (d + 1) g2) ++ ys) (λ z. omega (arith, z)) e)
  same_tree sorts d (negation f) (exists gs gk g) xs ys h k e = absurd (other_node d (codes "not") (codes "project " ++ (key_text gk ++ sort_text gs)) (node_lines (d + 1) f ++ xs) (node_lines (d + 1) g ++ ys) (λ z. omega (arith, z)) e)
  same_tree sorts d (negation f) always xs ys h k e = absurd k
  same_tree sorts d (negation f) never xs ys h k e = absurd k
  same_tree sorts d (negation f) (implies g g2) xs ys h k e = absurd k
  same_tree sorts d (negation f) (forall gs gk g) xs ys h k e = absurd k
  same_tree sorts d (every_of fs) (atom g) xs ys h k e = absurd (other_node d (codes "join " ++ number_text (parts fs)) (plan_atom_text g) (part_lines (d + 1) fs ++ xs) ([] ++ ys) (λ z. let a = atom_byte g in elim a [ inl x ↦ omega (arith, x, z) | inr x ↦ omega (arith, x, z) ]) e)
  same_tree sorts d (every_of fs) (negation g) xs ys h k e = absurd (other_node d (codes "join " ++ number_text (parts fs)) (codes "not") (part_lines (d + 1) fs ++ xs) (node_lines (d + 1) g ++ ys) (λ z. omega (arith, z)) e)
  same_tree sorts d (every_of fs) (every_of gs) xs ys h k e =
      let n = same_node d (codes "join " ++ number_text (parts fs)) (codes "join " ++ number_text (parts gs)) (part_lines (d + 1) fs ++ xs) (part_lines (d + 1) gs ++ ys) e in
      let r = same_trees sorts (d + 1) fs gs xs ys h k (same_number (parts fs) (parts gs) (ap (drop 5) n.0)) n.1 in
      (ap (λ (z : Logics PlanAtom). every_of z) r.0, r.1)
  same_tree sorts d (every_of fs) (some_of gs) xs ys h k e = absurd (other_node d (codes "join " ++ number_text (parts fs)) (codes "union " ++ number_text (parts gs)) (part_lines (d + 1) fs ++ xs) (part_lines (d + 1) gs ++ ys) (λ z. omega (arith, z)) e)
  same_tree sorts d (every_of fs) (minus g g2) xs ys h k e = absurd (other_node d (codes "join " ++ number_text (parts fs)) (codes "minus") (part_lines (d + 1) fs ++ xs) ((node_lines (d + 1) g ++ node_lines (d + 1) g2) ++ ys) (λ z. omega (arith, z)) e)
  same_tree sorts d (every_of fs) (exists gs gk g) xs ys h k e = absurd (other_node d (codes "join " ++ number_text (parts fs)) (codes "project " ++ (key_text gk ++ sort_text gs)) (part_lines (d + 1) fs ++ xs) (node_lines (d + 1) g ++ ys) (λ z. omega (arith, z)) e)
  same_tree sorts d (every_of fs) always xs ys h k e = absurd k
  same_tree sorts d (every_of fs) never xs ys h k e = absurd k
  same_tree sorts d (every_of fs) (implies g g2) xs ys h k e = absurd k
  same_tree sorts d (every_of fs) (forall gs gk g) xs ys h k e = absurd k
  same_tree sorts d (some_of fs) (atom g) xs ys h k e = absurd (other_node d (codes "union " ++ number_text (parts fs)) (plan_atom_text g) (part_lines (d + 1) fs ++ xs) ([] ++ ys) (λ z. let a = atom_byte g in elim a [ inl x ↦ omega (arith, x, z) | inr x ↦ omega (arith, x, z) ]) e)
  same_tree sorts d (some_of fs) (negation g) xs ys h k e = absurd (other_node d (codes "union " ++ number_text (parts fs)) (codes "not") (part_lines (d + 1) fs ++ xs) (node_lines (d + 1) g ++ ys) (λ z. omega (arith, z)) e)
  same_tree sorts d (some_of fs) (every_of gs) xs ys h k e = absurd (other_node d (codes "union " ++ number_text (parts fs)) (codes "join " ++ number_text (parts gs)) (part_lines (d + 1) fs ++ xs) (part_lines (d + 1) gs ++ ys) (λ z. omega (arith, z)) e)
  same_tree sorts d (some_of fs) (some_of gs) xs ys h k e =
      let n = same_node d (codes "union " ++ number_text (parts fs)) (codes "union " ++ number_text (parts gs)) (part_lines (d + 1) fs ++ xs) (part_lines (d + 1) gs ++ ys) e in
      let r = same_trees sorts (d + 1) fs gs xs ys h k (same_number (parts fs) (parts gs) (ap (drop 6) n.0)) n.1 in
      (ap (λ (z : Logics PlanAtom). some_of z) r.0, r.1)
  same_tree sorts d (some_of fs) (minus g g2) xs ys h k e = absurd (other_node d (codes "union " ++ number_text (parts fs)) (codes "minus") (part_lines (d + 1) fs ++ xs) ((node_lines (d + 1) g ++ node_lines (d + 1) g2) ++ ys) (λ z. omega (arith, z)) e)
  same_tree sorts d (some_of fs) (exists gs gk g) xs ys h k e = absurd (other_node d (codes "union " ++ number_text (parts fs)) (codes "project " ++ (key_text gk ++ sort_text gs)) (part_lines (d + 1) fs ++ xs) (node_lines (d + 1) g ++ ys) (λ z. omega (arith, z)) e)
  same_tree sorts d (some_of fs) always xs ys h k e = absurd k
  same_tree sorts d (some_of fs) never xs ys h k e = absurd k
  same_tree sorts d (some_of fs) (implies g g2) xs ys h k e = absurd k
  same_tree sorts d (some_of fs) (forall gs gk g) xs ys h k e = absurd k
  same_tree sorts d (minus f f2) (atom g) xs ys h k e = absurd (other_node d (codes "minus") (plan_atom_text g) ((node_lines (d + 1) f ++ node_lines (d + 1) f2) ++ xs) ([] ++ ys) (λ z. let a = atom_byte g in elim a [ inl x ↦ omega (arith, x, z) | inr x ↦ omega (arith, x, z) ]) e)
  same_tree sorts d (minus f f2) (negation g) xs ys h k e = absurd (other_node d (codes "minus") (codes "not") ((node_lines (d + 1) f ++ node_lines (d + 1) f2) ++ xs) (node_lines (d + 1) g ++ ys) (λ z. omega (arith, z)) e)
  same_tree sorts d (minus f f2) (every_of gs) xs ys h k e = absurd (other_node d (codes "minus") (codes "join " ++ number_text (parts gs)) ((node_lines (d + 1) f ++ node_lines (d + 1) f2) ++ xs) (part_lines (d + 1) gs ++ ys) (λ z. omega (arith, z)) e)
  same_tree sorts d (minus f f2) (some_of gs) xs ys h k e = absurd (other_node d (codes "minus") (codes "union " ++ number_text (parts gs)) ((node_lines (d + 1) f ++ node_lines (d + 1) f2) ++ xs) (part_lines (d + 1) gs ++ ys) (λ z. omega (arith, z)) e)
  same_tree sorts d (minus f f2) (minus g g2) xs ys h k e =
      let n = same_node d (codes "minus") (codes "minus") ((node_lines (d + 1) f ++ node_lines (d + 1) f2) ++ xs) ((node_lines (d + 1) g ++ node_lines (d + 1) g2) ++ ys) e in
      let r = same_tree sorts (d + 1) f g (node_lines (d + 1) f2 ++ xs) (node_lines (d + 1) g2 ++ ys) h.0 k.0 (sym (flat_lines (node_lines (d + 1) f) (node_lines (d + 1) f2) xs) ∙ n.1 ∙ flat_lines (node_lines (d + 1) g) (node_lines (d + 1) g2) ys) in
      let q = same_tree sorts (d + 1) f2 g2 xs ys h.1 k.1 r.1 in
      (ap₂ (λ (y z : PlanForm). minus y z) r.0 q.0, q.1)
  same_tree sorts d (minus f f2) (exists gs gk g) xs ys h k e = absurd (other_node d (codes "minus") (codes "project " ++ (key_text gk ++ sort_text gs)) ((node_lines (d + 1) f ++ node_lines (d + 1) f2) ++ xs) (node_lines (d + 1) g ++ ys) (λ z. omega (arith, z)) e)
  same_tree sorts d (minus f f2) always xs ys h k e = absurd k
  same_tree sorts d (minus f f2) never xs ys h k e = absurd k
  same_tree sorts d (minus f f2) (implies g g2) xs ys h k e = absurd k
  same_tree sorts d (minus f f2) (forall gs gk g) xs ys h k e = absurd k
  same_tree sorts d (exists fs fk f) (atom g) xs ys h k e = absurd (other_node d (codes "project " ++ (key_text fk ++ sort_text fs)) (plan_atom_text g) (node_lines (d + 1) f ++ xs) ([] ++ ys) (λ z. let a = atom_byte g in elim a [ inl x ↦ omega (arith, x, z) | inr x ↦ omega (arith, x, z) ]) e)
  same_tree sorts d (exists fs fk f) (negation g) xs ys h k e = absurd (other_node d (codes "project " ++ (key_text fk ++ sort_text fs)) (codes "not") (node_lines (d + 1) f ++ xs) (node_lines (d + 1) g ++ ys) (λ z. omega (arith, z)) e)
  same_tree sorts d (exists fs fk f) (every_of gs) xs ys h k e = absurd (other_node d (codes "project " ++ (key_text fk ++ sort_text fs)) (codes "join " ++ number_text (parts gs)) (node_lines (d + 1) f ++ xs) (part_lines (d + 1) gs ++ ys) (λ z. omega (arith, z)) e)
  same_tree sorts d (exists fs fk f) (some_of gs) xs ys h k e = absurd (other_node d (codes "project " ++ (key_text fk ++ sort_text fs)) (codes "union " ++ number_text (parts gs)) (node_lines (d + 1) f ++ xs) (part_lines (d + 1) gs ++ ys) (λ z. omega (arith, z)) e)
  same_tree sorts d (exists fs fk f) (minus g g2) xs ys h k e = absurd (other_node d (codes "project " ++ (key_text fk ++ sort_text fs)) (codes "minus") (node_lines (d + 1) f ++ xs) ((node_lines (d + 1) g ++ node_lines (d + 1) g2) ++ ys) (λ z. omega (arith, z)) e)
  same_tree sorts d (exists fs fk f) (exists gs gk g) xs ys h k e =
      let n = same_node d (codes "project " ++ (key_text fk ++ sort_text fs)) (codes "project " ++ (key_text gk ++ sort_text gs)) (node_lines (d + 1) f ++ xs) (node_lines (d + 1) g ++ ys) e in
      let u = same_keys fs gs fk gk h.0 k.0 (ap (drop 8) n.0) in
      let r = same_tree sorts (d + 1) f g xs ys h.1 k.1 n.1 in
      (ap₂ (λ (s : Sort) (y : Key). exists s y f) u.0 u.1 ∙ ap (λ (z : PlanForm). exists gs gk z) r.0, r.1)
  same_tree sorts d (exists fs fk f) always xs ys h k e = absurd k
  same_tree sorts d (exists fs fk f) never xs ys h k e = absurd k
  same_tree sorts d (exists fs fk f) (implies g g2) xs ys h k e = absurd k
  same_tree sorts d (exists fs fk f) (forall gs gk g) xs ys h k e = absurd k
  same_tree sorts d always g xs ys h k e = absurd h
  same_tree sorts d never g xs ys h k e = absurd h
  same_tree sorts d (implies f f2) g xs ys h k e = absurd h
  same_tree sorts d (forall fs fk f) g xs ys h k e = absurd h

  same_trees : (sorts : List ℕ → List Sort) (d : ℕ) (fs gs : Logics PlanAtom) (xs ys : List (List ℕ)) → AreToldPlans sorts fs → AreToldPlans sorts gs → parts fs ≡ parts gs → part_lines d fs ++ xs ≡ part_lines d gs ++ ys → (fs ≡ gs) × (xs ≡ ys)
  same_trees sorts d none none xs ys h k n e = (refl, e)
  same_trees sorts d none (also g gs) xs ys h k n e = absurd (omega (arith, n))
  same_trees sorts d (also f fs) none xs ys h k n e = absurd (omega (arith, n))
  same_trees sorts d (also f fs) (also g gs) xs ys h k n e =
      let r = same_tree sorts d f g (part_lines d fs ++ xs) (part_lines d gs ++ ys) h.0 k.0 (sym (flat_lines (node_lines d f) (part_lines d fs) xs) ∙ e ∙ flat_lines (node_lines d g) (part_lines d gs) ys) in
      let q = same_trees sorts d fs gs xs ys h.1 k.1 (omega (arith, n)) r.1 in
      (ap₂ (λ (y : PlanForm) (z : Logics PlanAtom). also y z) r.0 q.0, q.1)

pub same_plans : (sorts : List ℕ → List Sort) (f g : PlanForm) → IsToldPlan sorts f → IsToldPlan sorts g → node_lines 0 f ≡ node_lines 0 g → f ≡ g
same_plans sorts f g h k e = (same_tree sorts 0 f g [] [] h k (append-nil (node_lines 0 f) ∙ e ∙ sym (append-nil (node_lines 0 g)))).0

-- ---- whole texts

quiet_key : (s : Sort) (k : Key) → IsSlotOf s k → IsQuiet (key_text k)
quiet_key s (slot u) h = (omega arith, number_quiet u.number)
quiet_key s (name x) h = absurd h

mutual
  quiet_plan : (sorts : List ℕ → List Sort) (f : PlanForm) → IsToldPlan sorts f → IsQuietPlan f
  quiet_plan sorts (atom (scan n ss)) h = h.0
  quiet_plan sorts (atom (rows t)) h = tt
  quiet_plan sorts always h = tt
  quiet_plan sorts never h = tt
  quiet_plan sorts (negation f) h = quiet_plan sorts f h
  quiet_plan sorts (every_of fs) h = quiet_plans sorts fs h
  quiet_plan sorts (some_of fs) h = quiet_plans sorts fs h
  quiet_plan sorts (implies f g) h = tt
  quiet_plan sorts (minus f g) h = (quiet_plan sorts f h.0, quiet_plan sorts g h.1)
  quiet_plan sorts (exists s k f) h = (quiet_key s k h.0, quiet_plan sorts f h.1)
  quiet_plan sorts (forall s k f) h = tt

  quiet_plans : (sorts : List ℕ → List Sort) (fs : Logics PlanAtom) → AreToldPlans sorts fs → AreQuietPlans fs
  quiet_plans sorts none h = tt
  quiet_plans sorts (also f fs) h = (quiet_plan sorts f h.0, quiet_plans sorts fs h.1)

-- two texts of plans that begin the same bytes are of one plan
pub same_texts : (sorts : List ℕ → List Sort) (f g : PlanForm) (xs ys : List ℕ) → IsToldPlan sorts f → IsToldPlan sorts g → plan_text f ++ xs ≡ plan_text g ++ ys → (f ≡ g) × (xs ≡ ys)
same_texts sorts f g xs ys h k e =
    let r = counted_lines (codes "plan") (count_text (length (node_lines 0 f))) (count_text (length (node_lines 0 g))) (node_lines 0 f) (node_lines 0 g) xs ys (λ zs. refl) (closed_written (length (node_lines 0 f))) (closed_written (length (node_lines 0 g)))
    (inner_nodes 0 f (quiet_plan sorts f h)) (inner_nodes 0 g (quiet_plan sorts g k)) e in
    (same_plans sorts f g h k r.0, r.1)
