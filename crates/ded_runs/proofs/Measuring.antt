-- The greatest length and the rank of formulas go by those of names.
use Rattle.std.proofs.Common.{◌≡◌, ℕ, ◌+◌, max, List, refl, ap, ◌∙◌}
use Rattle.ded_model.specs.Logic.{Logic, atom, always, never, negation, every_of, some_of, implies, minus, exists, forall, Logics, none, also, rank, greatest_rank, one_more, greatest, greatest_of}
use Rattle.ded_model.specs.Goal.{GoalAtom, linear, theme, member, GoalForm}
use Rattle.ded_model.specs.Made.{Reading, itself, closure_of, interior_of, reading}
use Rattle.ded_model.specs.Measure.{Measure, Measures, measure_as, read_measure, goal_atom_b, goal_atom_rank, goal_b, goal_rank}
use Rattle.ded_model.specs.Scanned.{scanned, tied_atoms, fresh_slots, rational_count}
use Rattle.ded_model.specs.Width.{tuple_length}

module _ {L : Type 0} (F G : L → ℕ) (e : (a : L) → F a ≡ G a) where
  mutual
    pub greatest_same : (f : Logic L) → greatest F f ≡ greatest G f
    greatest_same (atom a) = e a
    greatest_same always = refl
    greatest_same never = refl
    greatest_same (negation f) = greatest_same f
    greatest_same (every_of fs) = greatest_all fs
    greatest_same (some_of fs) = greatest_all fs
    greatest_same (implies f g) = ap (λ n. max n (greatest F g)) (greatest_same f) ∙ ap (max (greatest G f)) (greatest_same g)
    greatest_same (minus f g) = ap (λ n. max n (greatest F g)) (greatest_same f) ∙ ap (max (greatest G f)) (greatest_same g)
    greatest_same (exists s k f) = greatest_same f
    greatest_same (forall s k f) = greatest_same f

    greatest_all : (fs : Logics L) → greatest_of F fs ≡ greatest_of G fs
    greatest_all none = refl
    greatest_all (also f fs) = ap (λ n. max n (greatest_of F fs)) (greatest_same f) ∙ ap (max (greatest G f)) (greatest_all fs)

  mutual
    pub rank_same : (f : Logic L) → rank F f ≡ rank G f
    rank_same (atom a) = e a
    rank_same always = refl
    rank_same never = refl
    rank_same (negation f) = rank_same f
    rank_same (every_of fs) = rank_all fs
    rank_same (some_of fs) = rank_all fs
    rank_same (implies f g) = ap (λ n. max n (rank F g)) (rank_same f) ∙ ap (max (rank G f)) (rank_same g)
    rank_same (minus f g) = ap (λ n. max n (rank F g)) (rank_same f) ∙ ap (max (rank G f)) (rank_same g)
    rank_same (exists s k f) = ap (one_more s) (rank_same f)
    rank_same (forall s k f) = ap (one_more s) (rank_same f)

    rank_all : (fs : Logics L) → greatest_rank F fs ≡ greatest_rank G fs
    rank_all none = refl
    rank_all (also f fs) = ap (λ n. max n (greatest_rank F fs)) (rank_same f) ∙ ap (max (rank G f)) (rank_all fs)

-- the same greatest length, rank and number of rational columns
pub record IsMeasuredAs (m k : Measure) : Type 0 where
  pub b : m.b ≡ k.b
  pub rank : m.rank ≡ k.rank
  pub columns : m.columns ≡ k.columns

abbrev pub AreMeasuredAs : Measures → Measures → Type 0
AreMeasuredAs M N = (n : List ℕ) → IsMeasuredAs (M n) (N n)

pub measured_itself : (m : Measure) → IsMeasuredAs m m
measured_itself m = record { b = refl; rank = refl; columns = refl }

module _ (M N : Measures) (same : AreMeasuredAs M N) where
  by_reading : (n : List ℕ) (r : Reading) → IsMeasuredAs (measure_as M n r) (measure_as N n r)
  by_reading n itself = same n
  by_reading n (closure_of m) = record { b = (same m).b; rank = ap (λ r. r + (M m).columns) (same m).rank ∙ ap (λ c. (N m).rank + c) (same m).columns; columns = (same m).columns }
  by_reading n (interior_of m) = record { b = (same m).b; rank = ap (λ r. r + (M m).columns) (same m).rank ∙ ap (λ c. (N m).rank + c) (same m).columns; columns = (same m).columns }

  pub read_measured : AreMeasuredAs (read_measure M) (read_measure N)
  read_measured n = by_reading n (reading n)

module _ (M N : Measures) (same : AreMeasuredAs M N) where
  atom_b : (a : GoalAtom) → goal_atom_b M a ≡ goal_atom_b N a
  atom_b (linear r) = refl
  atom_b (theme a) = refl
  atom_b (member n ts) = ap (λ b. max b (tuple_length (tied_atoms (scanned ts)))) (same n).b

  atom_rank : (a : GoalAtom) → goal_atom_rank M a ≡ goal_atom_rank N a
  atom_rank (linear r) = refl
  atom_rank (theme a) = refl
  atom_rank (member n ts) = ap (λ q. q + rational_count (fresh_slots (scanned ts))) (same n).rank

  pub goal_b_same : (g : GoalForm) → goal_b M g ≡ goal_b N g
  goal_b_same g = greatest_same (goal_atom_b M) (goal_atom_b N) atom_b g

  pub goal_rank_same : (g : GoalForm) → goal_rank M g ≡ goal_rank N g
  goal_rank_same g = rank_same (goal_atom_rank M) (goal_atom_rank N) atom_rank g
