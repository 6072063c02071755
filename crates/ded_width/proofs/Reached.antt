-- The lines of an orderly goal are order lines, and none of its eliminations clashes.
use Rattle.std.proofs.Common.{◌≡◌, ℕ, Bool, true, false, ◌||◌, List, [], ◌∷◌, ◌++◌, refl}
use Rattle.std.specs.Prelude.{ℤ}
use Rattle.std.proofs.lemmas.Bool.{or_from}
use Rattle.ded_model.specs.declared.slot.Slot.{Slot}
use Rattle.ded_model.specs.declared.slot.Sort.{Sort}
use Rattle.ded_model.specs.declared.slot.Sort.TheVariants.{Rat, Text}
use Rattle.ded_model.specs.declared.tuple.BothAtom.TheVariants.{First, Second}
use Rattle.ded_model.specs.Point.{Key, slot, name}
use Rattle.ded_model.specs.Row.{Atom}
use Rattle.ded_model.specs.Logic.{atom, always, never, negation, every_of, some_of, implies, minus, exists, forall, Logics, none, also, AllAtomsOf}
use Rattle.ded_model.specs.Goal.{GoalAtom, linear, theme, member, GoalForm}
use Rattle.ded_model.specs.Scanned.{scanned, scanned_slots, tied_atoms, fresh_slots}
use Rattle.ded_model.specs.Lines.{Line, renamed_lines, atoms_lines, elim_past, clash_past, elim_past_all, clash_past_all, all_lines, any_clashes}
use Rattle.ded_model.specs.Made.{base}
use Rattle.ded_model.specs.Known.{KnownNames, columns_with}
use Rattle.ded_model.specs.Measure.{Measures, scanned_lines, goal_atom_lines, goal_atom_clash, goal_lines, goal_clashes}
use Rattle.ded_model.proofs.LineLengths.{no_clash}
use Rattle.ded_model.proofs.Points.{and_left, and_right}
use Rattle.ded_width.specs.Reach.{IsAscendingGoalAtom, IsAscendingGoal}
use Rattle.ded_width.proofs.ArgumentSlots.{arguments_distinct}
use Rattle.ded_width.specs.Orderly.{Order, Orders, both, row_reach, no_rows, atoms_reach, goal_atom_reach, reach_of_all, goal_reach}
use Rattle.ded_width.proofs.Shapes.{AreShapes, shapes_both, shapes_within}
use Rattle.ded_width.proofs.Combinations.{elim_shapes}
use Rattle.ded_width.proofs.Rows.{row_shapes}
use Rattle.ded_width.proofs.Renamed.{AreOver, renamed_shapes}
use Rattle.ded_width.proofs.Ties.{AreGoodRows, ties_good}
use Rattle.ded_width.proofs.Fits.{FitsAtom, Fits}

-- ---- lines without a clash

pub record IsCalm (ps : List (ℤ × ℤ)) (ls : List Line) (clash : Bool) : Type 0 where
  pub shapes : AreShapes ps ls
  pub tight : clash ≡ false

-- where the rows that are reached are orderly and short
abbrev pub IsCalmWhere : Order → List Line → Bool → Type 0
IsCalmWhere o ls clash = o.orderly ≡ true → o.short ≡ true → IsCalm o.points ls clash

pub nothing : IsCalmWhere no_rows [] false
nothing h k = record { shapes = λ l i. absurd i; tight = refl }

pub two_calm : (a b : Order) (xs ys : List Line) (c d : Bool) → IsCalmWhere a xs c → IsCalmWhere b ys d → IsCalmWhere (both a b) (xs ++ ys) (c || d)
two_calm a b xs ys c d h k o s =
    let m = h (and_left a.orderly b.orderly o) (and_left a.short b.short s) in
    let n = k (and_right a.orderly b.orderly o) (and_right a.short b.short s) in
    record { shapes = shapes_both a.points b.points xs ys m.shapes n.shapes; tight = or_from c d m.tight n.tight }

calm_past : (ps : List (ℤ × ℤ)) (s : Sort) (k : Key) (ls : List Line) (c : Bool) → IsCalm ps ls c → IsCalm ps (elim_past s k ls) (c || clash_past s k ls)
calm_past ps Rat (slot s) ls c h = record { shapes = elim_shapes ps s ls h.shapes; tight = or_from c _ h.tight (no_clash s ls (shapes_within ps ls h.shapes)) }
calm_past ps Rat (name x) ls c h = record { shapes = h.shapes; tight = or_from c false h.tight refl }
calm_past ps Text k ls c h = record { shapes = h.shapes; tight = or_from c false h.tight refl }

past_all : (ps : List (ℤ × ℤ)) (ss : List Slot) (ls : List Line) → AreShapes ps ls → IsCalm ps (elim_past_all ss ls) (clash_past_all ss ls)
past_all ps [] ls h = record { shapes = h; tight = refl }
past_all ps (s ∷ ss) ls h =
    let one = calm_past ps s.sort (slot s) ls false (record { shapes = h; tight = refl }) in
    let rest = past_all ps ss (elim_past s.sort (slot s) ls) one.shapes in
    record { shapes = rest.shapes; tight = or_from (clash_past s.sort (slot s) ls) _ one.tight rest.tight }

-- ---- atoms

pub atoms_calm : (atoms : List Atom) → AreGoodRows atoms → IsCalmWhere (atoms_reach atoms) (atoms_lines atoms) false
atoms_calm [] g = nothing
atoms_calm (First r ∷ atoms) g = two_calm (row_reach r) (atoms_reach atoms) _ (atoms_lines atoms) false false (λ o s. record { shapes = row_shapes r g.0 o s; tight = refl }) (atoms_calm atoms g.1)
atoms_calm (Second a ∷ atoms) g = atoms_calm atoms g

-- what the names of a catalogue reach: their lines are over their columns, and calm
pub record AreReached (K : KnownNames) (M : Measures) (O : Orders) : Type 0 where
  pub over : (n : List ℕ) → AreOver (columns_with (K n)) (M n).lines
  pub calm : (n : List ℕ) → IsCalmWhere (O n) (M n).lines (M n).clash

module _ (K : KnownNames) (M : Measures) (O : Orders) (reached : AreReached (λ n. K (base n)) M O) where
  goal_atom_calm : (a : GoalAtom) → IsAscendingGoalAtom a → FitsAtom K a → IsCalmWhere (goal_atom_reach O a) (goal_atom_lines M a) (goal_atom_clash M a)
  goal_atom_calm (linear r) a f o s = record { shapes = row_shapes r (record { ascending = a; nonzero = f.0; normal = f.1 }) o s; tight = refl }
  goal_atom_calm (theme t) a f o s = nothing o s
  goal_atom_calm (member x ts) a f o s =
      let ss = scanned_slots (scanned ts) in
      let atoms = tied_atoms (scanned ts) in
      let own = reached.calm x (and_left (O x).orderly _ o) (and_left (O x).short _ s) in
      let named : IsCalm (O x).points (renamed_lines ss (M x).lines) (M x).clash =
      record { shapes = renamed_shapes (O x).points (columns_with (K (base x))) ss (arguments_distinct ts) f.0 (M x).lines own.shapes (reached.over x); tight = own.tight } in
      let tied = atoms_calm atoms (ties_good ts a f.1) (and_right (O x).orderly _ o) (and_right (O x).short _ s) in
      let all = past_all ((O x).points ++ (atoms_reach atoms).points) (fresh_slots (scanned ts)) (scanned_lines M x (scanned ts))
      (shapes_both (O x).points (atoms_reach atoms).points (renamed_lines ss (M x).lines) (atoms_lines atoms) named.shapes tied.shapes) in
      record { shapes = all.shapes; tight = or_from (M x).clash _ own.tight all.tight }

  mutual
    pub goal_calm : (g : GoalForm) → IsAscendingGoal g → Fits K g → IsCalmWhere (goal_reach O g) (goal_lines M g) (goal_clashes M g)
    goal_calm (atom x) a f = goal_atom_calm x a f
    goal_calm always a f = nothing
    goal_calm never a f = nothing
    goal_calm (negation g) a f = goal_calm g a f
    goal_calm (every_of gs) a f = goals_calm gs a f
    goal_calm (some_of gs) a f = goals_calm gs a f
    goal_calm (implies g k) a f = two_calm (goal_reach O g) (goal_reach O k) (goal_lines M g) (goal_lines M k) (goal_clashes M g) (goal_clashes M k) (goal_calm g a.0 f.0) (goal_calm k a.1 f.1)
    goal_calm (minus g k) a f = two_calm (goal_reach O g) (goal_reach O k) (goal_lines M g) (goal_lines M k) (goal_clashes M g) (goal_clashes M k) (goal_calm g a.0 f.0) (goal_calm k a.1 f.1)
    goal_calm (exists s k g) a f = λ o r. calm_past (goal_reach O g).points s k (goal_lines M g) (goal_clashes M g) (goal_calm g a f o r)
    goal_calm (forall s k g) a f = λ o r. calm_past (goal_reach O g).points s k (goal_lines M g) (goal_clashes M g) (goal_calm g a f o r)

    -- of a list
    goals_calm : (gs : Logics GoalAtom) → AllAtomsOf IsAscendingGoalAtom gs → AllAtomsOf (FitsAtom K) gs
        → IsCalmWhere (reach_of_all (goal_atom_reach O) gs) (all_lines (goal_atom_lines M) gs) (any_clashes (goal_atom_lines M) (goal_atom_clash M) gs)
    goals_calm none a f = nothing
    goals_calm (also g gs) a f =
        two_calm (goal_reach O g) (reach_of_all (goal_atom_reach O) gs) (goal_lines M g) (all_lines (goal_atom_lines M) gs) (goal_clashes M g) (any_clashes (goal_atom_lines M) (goal_atom_clash M) gs)
        (goal_calm g a.0 f.0) (goals_calm gs a.1 f.1)
