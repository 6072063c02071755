use Rattle.std.proofs.Common.{◌≡◌, sym, subst}
use Rattle.ded_model.specs.Row.{atom_holds}
use Rattle.ded_atoms.specs.Reading.{atom_of}
use Rattle.ded_eval.proofs.Attained.{row_atom, theme_atom}
use Rattle.ded_eval.proofs.attaining.is_over.Goals as goal

pub returns-in-Linear : goal.returns-in-Linear
returns-in-Linear c = λ e p q i j h.
    subst (λ a. atom_holds (atom_of a) p ≡ atom_holds (atom_of a) q) (sym c.in-Linear.is) (row_atom c.in-Linear.row.now p q (c.is_row_over.ensures e p q i j h))

pub returns-in-Theme : goal.returns-in-Theme
returns-in-Theme c = λ e p q i j h.
    subst (λ a. atom_holds (atom_of a) p ≡ atom_holds (atom_of a) q) (sym c.in-Theme.is) (theme_atom c.in-Theme.atom.now p q (c.is_theme_over.ensures e p q h))
