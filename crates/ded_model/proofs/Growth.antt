-- Lines and clashes of goals and plans grow with the tuples of the catalogue.
--
-- The lines of a name grow with those of its tuples; renamed, and past the new slots of an atom, they grow with the name's.
-- So goals and plans grow with the names that they use (`IsMore`), and a view, which is measured on its goal, with the
-- names before it. That goes from each entry to the next.
use Rattle.std.proofs.Common.{◌≡◌, ℕ, ◌+◌, ◌*◌, ◌^◌, ◌≤◌, nat_lt, pow_mono, Bool, true, false, List, [], ◌∷◌, inl, inr, arith, refl, sym, ap, ◌∙◌, subst, cond, bytes_eq, true≢false}
use Rattle.std.proofs.lemmas.Bool.Decides.{nat_tests}
use Rattle.std.proofs.Math.Nat.{mul-le-mul}
use Rattle.ded_model.specs.declared.slot.Slot.{Slot}
use Rattle.ded_model.specs.declared.name.Column.{Column}
use Rattle.ded_model.specs.Form.{Form}
use Rattle.ded_model.specs.Goal.{GoalAtom, linear, theme, member, GoalForm}
use Rattle.ded_model.specs.Point.{slot}
use Rattle.ded_model.specs.PlanForm.{PlanAtom, scan, rows, PlanForm}
use Rattle.ded_model.specs.Catalogue.{Entry, relation, view, Catalogue, entry_name}
use Rattle.ded_model.specs.Slotted.{goal_of}
use Rattle.ded_model.specs.Scanned.{Scanned, scanned, scanned_slots, fresh_slots}
use Rattle.ded_model.specs.Lines.{Line, In, IsSubset, line_with, renamed_coefs, renamed_lines, elim_past_all, clash_past_all}
use Rattle.ded_model.specs.Made.{Reading, itself, closure_of, interior_of, reading}
use Rattle.ded_model.specs.Width.{rational_columns}
use Rattle.ded_model.specs.Measure.{Measure, Measures, is_wide_with, near_measure, measure_as, read_measure, stored_measures, goal_atom_b, goal_atom_rank, goal_b, goal_rank, scanned_lines, goal_atom_lines, goal_atom_clash, goal_lines, goal_clashes, plan_atom_lines, plan_atom_clash, plan_lines, plan_clashes, entry_measure, with_measure, measures_from, measures, IsTight}
use Rattle.ded_model.specs.Grown.{HasMoreLines, HaveMoreLines}
use Rattle.ded_model.proofs.Members.{In-left, In-right, In-split, subset_refl, subset_append}
use Rattle.ded_model.proofs.Monotone.{past-grows, clash_past-grows, or-grows, lines-grow, clashes-grow, max-grows, greatest-grows, rank-grows}

-- ---- renamed lines

-- a renamed line is that of a line
pub renamed-In : (ss : List Slot) (xs : List Line) (l : Line) → In l (renamed_lines ss xs) → (m : Line) × In m xs × In l (line_with (renamed_coefs ss m.coefs) m.constant)
renamed-In ss [] l h = absurd h
renamed-In ss (x ∷ xs) l h = elim (In-split l (line_with (renamed_coefs ss x.coefs) x.constant) (renamed_lines ss xs) h) [
  | inl a ↦ (x, inl refl, a)
  | inr b ↦ (let r = renamed-In ss xs l b in (r.0, inr r.1, r.2))
]

-- and back
In-renamed : (ss : List Slot) (m : Line) (xs : List Line) (l : Line) → In m xs → In l (line_with (renamed_coefs ss m.coefs) m.constant) → In l (renamed_lines ss xs)
In-renamed ss m [] l h c = absurd h
In-renamed ss m (x ∷ xs) l (inl e) c = In-left l (line_with (renamed_coefs ss x.coefs) x.constant) (renamed_lines ss xs) (subst (λ y. In l (line_with (renamed_coefs ss y.coefs) y.constant)) e c)
In-renamed ss m (x ∷ xs) l (inr h) c = In-right l (line_with (renamed_coefs ss x.coefs) x.constant) (renamed_lines ss xs) (In-renamed ss m xs l h c)

-- renamed lines grow
pub renamed-grows : (ss : List Slot) (xs ys : List Line) → IsSubset xs ys → IsSubset (renamed_lines ss xs) (renamed_lines ss ys)
renamed-grows ss xs ys f l h = let r = renamed-In ss xs l h in In-renamed ss r.0 ys l (f r.0 r.1) r.2

-- ---- the new slots of an atom

-- past several quantifiers
pub elim_past_all-grows : (ss : List Slot) (xs ys : List Line) → IsSubset xs ys → IsSubset (elim_past_all ss xs) (elim_past_all ss ys)
elim_past_all-grows [] xs ys f = f
elim_past_all-grows (s ∷ ss) xs ys f = elim_past_all-grows ss _ _ (past-grows s.sort (slot s) xs ys f)

-- and the clashes there
pub clash_past_all-grows : (ss : List Slot) (xs ys : List Line) → IsSubset xs ys → clash_past_all ss xs ≡ true → clash_past_all ss ys ≡ true
clash_past_all-grows [] xs ys f h = h
clash_past_all-grows (s ∷ ss) xs ys f h =
    or-grows _ _ _ _ (clash_past-grows s.sort (slot s) xs ys f) (clash_past_all-grows ss _ _ (past-grows s.sort (slot s) xs ys f)) h

-- ---- names

-- each name has the lines and the clash that it has in the first, no lesser length and rank, and as many columns
pub record IsMore (M N : Measures) : Type 0 where
  pub b : (n : List ℕ) → (M n).b ≤ (N n).b
  pub rank : (n : List ℕ) → (M n).rank ≤ (N n).rank
  pub columns : (n : List ℕ) → (M n).columns ≡ (N n).columns
  pub lines : (n : List ℕ) → IsSubset (M n).lines (N n).lines
  pub clash : (n : List ℕ) → (M n).clash ≡ true → (N n).clash ≡ true

module _ (M N : Measures) (more : (n : List ℕ) → IsSubset (M n).lines (N n).lines) where
  -- the lines of a name and its arguments
  scanned-grows : (n : List ℕ) (gs : List Scanned) → IsSubset (scanned_lines M n gs) (scanned_lines N n gs)
  scanned-grows n gs = subset_append _ _ _ _ (renamed-grows (scanned_slots gs) _ _ (more n)) (subset_refl _)

  -- the lines of an atom of a goal
  goal_atom_lines-grow : (a : GoalAtom) → IsSubset (goal_atom_lines M a) (goal_atom_lines N a)
  goal_atom_lines-grow (linear r) = subset_refl _
  goal_atom_lines-grow (theme a) = subset_refl []
  goal_atom_lines-grow (member n ts) = elim_past_all-grows (fresh_slots (scanned ts)) _ _ (scanned-grows n (scanned ts))

  -- the lines of a goal
  pub goal_lines-grow : (g : GoalForm) → IsSubset (goal_lines M g) (goal_lines N g)
  goal_lines-grow g = lines-grow (goal_atom_lines M) (goal_atom_lines N) goal_atom_lines-grow g

  -- the lines of an atom of a plan
  plan_atom_lines-grow : (a : PlanAtom) → IsSubset (plan_atom_lines M a) (plan_atom_lines N a)
  plan_atom_lines-grow (scan n ss) = renamed-grows ss _ _ (more n)
  plan_atom_lines-grow (rows t) = subset_refl _

  -- the lines of a plan
  pub plan_lines-grow : (f : PlanForm) → IsSubset (plan_lines M f) (plan_lines N f)
  plan_lines-grow f = lines-grow (plan_atom_lines M) (plan_atom_lines N) plan_atom_lines-grow f

  module _ (clash : (n : List ℕ) → (M n).clash ≡ true → (N n).clash ≡ true) where
    -- the clashes of an atom of a goal
    goal_atom_clash-grows : (a : GoalAtom) → goal_atom_clash M a ≡ true → goal_atom_clash N a ≡ true
    goal_atom_clash-grows (linear r) h = h
    goal_atom_clash-grows (theme a) h = h
    goal_atom_clash-grows (member n ts) h =
        or-grows _ _ _ _ (clash n) (clash_past_all-grows (fresh_slots (scanned ts)) _ _ (scanned-grows n (scanned ts))) h

    -- the clashes of a goal
    pub goal_clashes-grow : (g : GoalForm) → goal_clashes M g ≡ true → goal_clashes N g ≡ true
    goal_clashes-grow g = clashes-grow (goal_atom_lines M) (goal_atom_lines N) goal_atom_lines-grow (goal_atom_clash M) (goal_atom_clash N) goal_atom_clash-grows g

    -- the clashes of an atom of a plan
    plan_atom_clash-grows : (a : PlanAtom) → plan_atom_clash M a ≡ true → plan_atom_clash N a ≡ true
    plan_atom_clash-grows (scan n ss) h = clash n h
    plan_atom_clash-grows (rows t) h = h

    -- the clashes of a plan
    pub plan_clashes-grow : (f : PlanForm) → plan_clashes M f ≡ true → plan_clashes N f ≡ true
    plan_clashes-grow f = clashes-grow (plan_atom_lines M) (plan_atom_lines N) plan_atom_lines-grow (plan_atom_clash M) (plan_atom_clash N) plan_atom_clash-grows f

-- the lengths of a goal
goal_b-grows : (M N : Measures) → ((n : List ℕ) → (M n).b ≤ (N n).b) → (g : GoalForm) → goal_b M g ≤ goal_b N g
goal_b-grows M N more g = greatest-grows (goal_atom_b M) (goal_atom_b N) atoms g
  where
    atoms : (a : GoalAtom) → goal_atom_b M a ≤ goal_atom_b N a
    atoms (linear r) = omega arith
    atoms (theme a) = omega arith
    atoms (member n ts) = max-grows _ _ _ _ (more n) (omega arith)

-- its rank
goal_rank-grows : (M N : Measures) → ((n : List ℕ) → (M n).rank ≤ (N n).rank) → (g : GoalForm) → goal_rank M g ≤ goal_rank N g
goal_rank-grows M N more g = rank-grows (goal_atom_rank M) (goal_atom_rank N) atoms g
  where
    atoms : (a : GoalAtom) → goal_atom_rank M a ≤ goal_atom_rank N a
    atoms (linear r) = omega arith
    atoms (theme a) = omega arith
    atoms (member n ts) = let h = more n in omega arith

-- ---- catalogues with more tuples

-- the lines and the clash of one name are in those of another, its length and its rank are no greater, and it has as many
-- columns
abbrev IsMoreOf : Measure → Measure → Type 0
IsMoreOf x y = IsSubset x.lines y.lines × (x.clash ≡ true → y.clash ≡ true) × (x.b ≤ y.b) × (x.rank ≤ y.rank) × (x.columns ≡ y.columns)

-- what is wide is wide with a greater length and rank
wide-grows : (b c q r : ℕ) → b ≤ c → q ≤ r → is_wide_with b q ≡ true → is_wide_with c r ≡ true
wide-grows b c q r h k e = above (b + 1) (c + 1) (2 ^ q) (2 ^ r) (omega arith) (pow_mono k) e
  where
    above : (a a' p p' : ℕ) → a ≤ a' → p ≤ p' → nat_lt 128 (a * p) ≡ true → nat_lt 128 (a' * p') ≡ true
    above a a' p p' h k e = let s = mul-le-mul h k in grind (arith, nat_tests)

-- so are closures and interiors
near-more : (x y : Measure) → IsMoreOf x y → IsMoreOf (near_measure x) (near_measure y)
near-more x y h =
    let q : x.rank + x.columns ≤ y.rank + y.columns = let e = h.4 in let l = h.3 in omega arith in
    (h.0, or-grows _ _ _ _ h.1 (wide-grows x.b y.b (x.rank + x.columns) (y.rank + y.columns) h.2 q), h.2, q, h.4)

-- and all names
read_measure-more : (M N : Measures) → IsMore M N → IsMore (read_measure M) (read_measure N)
read_measure-more M N more = record { b = λ n. (each n).2; rank = λ n. (each n).3; columns = λ n. (each n).4; lines = λ n. (each n).0; clash = λ n. (each n).1 }
  where
    of : (n : List ℕ) → IsMoreOf (M n) (N n)
    of n = (more.lines n, more.clash n, more.b n, more.rank n, more.columns n)

    by : (n : List ℕ) (r : Reading) → IsMoreOf (measure_as M n r) (measure_as N n r)
    by n itself = of n
    by n (closure_of m) = near-more (M m) (N m) (of m)
    by n (interior_of m) = near-more (M m) (N m) (of m)

    each : (n : List ℕ) → IsMoreOf (read_measure M n) (read_measure N n)
    each n = by n (reading n)

-- an entry, over the names before it
entry_measure-grows : (M N : Measures) → IsMore M N → (e d : Entry) → HasMoreLines e d → IsMoreOf (entry_measure M e) (entry_measure N d)
entry_measure-grows M N more (relation n h m ts) (relation n' h' m' ts') e = (e.2, λ x. x, e.3, omega arith, ap rational_columns e.1)
entry_measure-grows M N more (relation n h m ts) (view n' h' f') e = absurd e
entry_measure-grows M N more (view n h f) (relation n' h' m' ts') e = absurd e
entry_measure-grows M N more (view n h f) (view n' h' f') e =
    let M' = read_measure M in
    let N' = read_measure N in
    let r = read_measure-more M N more in
    let s = same h h' f f' e.1 e.2 in (
      subst (λ g. IsSubset (goal_lines M' (goal_of h f)) (goal_lines N' g)) s (goal_lines-grow M' N' r.lines (goal_of h f)),
      subst (λ g. goal_clashes M' (goal_of h f) ≡ true → goal_clashes N' g ≡ true) s (goal_clashes-grow M' N' r.lines r.clash (goal_of h f)),
      subst (λ g. goal_b M' (goal_of h f) ≤ goal_b N' g) s (goal_b-grows M' N' r.b (goal_of h f)),
      subst (λ g. goal_rank M' (goal_of h f) ≤ goal_rank N' g) s (goal_rank-grows M' N' r.rank (goal_of h f)),
      ap rational_columns e.1,
    )
  where
    same : (h h' : List Column) (f f' : Form) → h ≡ h' → f ≡ f' → goal_of h f ≡ goal_of h' f'
    same h h' f f' e e' = rw (e, e')

-- the entries have one name
same_name : (e d : Entry) → HasMoreLines e d → entry_name e ≡ entry_name d
same_name (relation n h m ts) (relation n' h' m' ts') e = e.0
same_name (relation n h m ts) (view n' h' f') e = absurd e
same_name (view n h f) (relation n' h' m' ts') e = absurd e
same_name (view n h f) (view n' h' f') e = e.0

-- a choice of two measures
choose : (b : Bool) (x y v w : Measure) → IsMoreOf x y → IsMoreOf v w → IsMoreOf (cond b x v) (cond b y w)
choose true x y v w f g = f
choose false x y v w f g = g

-- with one entry more
with_measure-grows : (M N : Measures) → IsMore M N → (e d : Entry) → HasMoreLines e d → IsMore (with_measure M e) (with_measure N d)
with_measure-grows M N more e d h = record { b = λ n. (both n).2; rank = λ n. (both n).3; columns = λ n. (both n).4; lines = λ n. (both n).0; clash = λ n. (both n).1 }
  where
    both : (n : List ℕ) → IsMoreOf (with_measure M e n) (with_measure N d n)
    both n = subst (λ m. IsMoreOf (with_measure M e n) (cond (bytes_eq n m) (entry_measure N d) (N n))) (same_name e d h)
        (choose (bytes_eq n (entry_name e)) _ _ _ _ (entry_measure-grows M N more e d h) (more.lines n, more.clash n, more.b n, more.rank n, more.columns n))

-- with all entries
measures_from-grow : (es ds : List Entry) (M N : Measures) → HaveMoreLines es ds → IsMore M N → IsMore (measures_from M es) (measures_from N ds)
measures_from-grow [] [] M N h more = more
measures_from-grow [] (d ∷ ds) M N h more = absurd h
measures_from-grow (e ∷ es) [] M N h more = absurd h
measures_from-grow (e ∷ es) (d ∷ ds) M N h more = measures_from-grow es ds _ _ h.1 (with_measure-grows M N more e d h.0)

-- of the entries
pub stored_measures-grow : (c d : Catalogue) → HaveMoreLines c.entries d.entries → IsMore (stored_measures c) (stored_measures d)
unfolding stored_measures
stored_measures-grow c d h =
    measures_from-grow c.entries d.entries _ _ h
    (record { b = λ n. omega arith; rank = λ n. omega arith; columns = λ n. refl; lines = λ n. subset_refl []; clash = λ n x. x })

-- the law: with more tuples each name has more lines, and with goal_lines-grow .. so does each goal and plan
pub measures-grow : (c d : Catalogue) → HaveMoreLines c.entries d.entries → IsMore (measures c) (measures d)
unfolding measures
measures-grow c d h = read_measure-more (stored_measures c) (stored_measures d) (stored_measures-grow c d h)

-- what is tight over more lines is tight over fewer
pub tight-grows : (c d : Catalogue) → HaveMoreLines c.entries d.entries → (h : List Column) (f : Form) → IsTight d h f → IsTight c h f
unfolding IsTight
tight-grows c d more h f t = go (goal_clashes (measures c) (goal_of h f)) refl
  where
    go : (b : Bool) → goal_clashes (measures c) (goal_of h f) ≡ b → goal_clashes (measures c) (goal_of h f) ≡ false
    go true e = absurd (true≢false (sym (goal_clashes-grow (measures c) (measures d) (measures-grow c d more).lines (measures-grow c d more).clash (goal_of h f) e) ∙ t))
    go false e = e
