-- Atoms, tuples and lists of tuples as atoms, conjunctions and lists of conjunctions of a theory.
use Rattle.std.specs.Prelude.{◌≡◌, Bool, List, [], ◌∷◌}
use Rattle.ded_model.specs.declared.slot.Slot.{Slot}
use Rattle.ded_model.specs.Point.{Point}
use Rattle.ded_model.specs.Row.{Atom, atom_holds, atom_mentions, tuple_holds, tuple_mentions, tuples_hold, tuples_mention}
use Rattle.ded_model.specs.Cell.{conj_holds}
use Rattle.ded_model.specs.Lines.{Line, IsSubset, atoms_lines, tuples_lines}
use Rattle.ded_theory.specs.Conjunctions.{conj_mentions, conj_lines}
use Rattle.ded_genrel.specs.Lists.{conjs_hold, conjs_mention, conjs_lines}
use Rattle.ded_model.specs.declared.tuple.BothAtom.TheVariants.{First, Second}
use Rattle.ded_atoms.specs.declared.reading.AtomRef.{AtomRef}
use Rattle.ded_atoms.specs.declared.reading.AtomRef.TheVariants.{Linear, Theme}

-- the atom that is lent
abbrev pub atom_of : AtomRef → Atom
atom_of (Linear r) = First r.now
atom_of (Theme a) = Second a.now

module _ {A : Type 0} (h : A → Point → Bool) (m : A → Slot → Bool) (l : A → List Line) where
  -- the atom of the theory holds where the row or text atom does, mentions what it mentions and has its lines
  pub record StandsFor (a : A) (b : Atom) : Type 0 where
    pub holds : (p : Point) → h a p ≡ atom_holds b p
    pub slots : (s : Slot) → m a s ≡ atom_mentions b s
    pub lines : IsSubset (l a) (atoms_lines (b ∷ []))

  -- so does the conjunction for the tuple
  pub record IsConjunctionOf (c : List A) (t : List Atom) : Type 0 where
    pub holds : (p : Point) → conj_holds h c p ≡ tuple_holds t p
    pub slots : (s : Slot) → conj_mentions m c s ≡ tuple_mentions t s
    pub lines : IsSubset (conj_lines l c) (atoms_lines t)

  -- and the list of conjunctions for the list of tuples
  pub record IsListOf (cs : List (List A)) (ts : List (List Atom)) : Type 0 where
    pub holds : (p : Point) → conjs_hold h cs p ≡ tuples_hold ts p
    pub slots : (s : Slot) → conjs_mention m cs s ≡ tuples_mention ts s
    pub lines : IsSubset (conjs_lines l cs) (tuples_lines ts)
