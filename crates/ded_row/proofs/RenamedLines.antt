-- The lines of a renamed row.
--
-- A row is a multiple of its line, and a multiple is renamed as the row is: so the renamed row has the line of the renamed
-- line.
use Rattle.std.proofs.Common.{◌≡◌, ◌≢◌, List, [], ◌∷◌, inl, refl, sym, ap, ap₂, ◌∙◌}
use Rattle.std.specs.Prelude.{ℤ, pos, ◌*ℤ◌}
use Rattle.ded_num.proofs.Tests.{append_none}
use Rattle.ded_model.specs.declared.slot.Slot.{Slot}
use Rattle.ded_model.specs.declared.row.RowOp.TheVariants.{Zero}
use Rattle.ded_model.specs.Constraint.{LinearConstraint}
use Rattle.ded_model.specs.Coefs.{AreCoefs, put, cut, nonzero, with_coef}
use Rattle.ded_model.specs.Normal.{normal_row}
use Rattle.ded_model.specs.Lines.{line_with, row_lines}
use Rattle.ded_model.specs.Renaming.{renamed, renamed_onto, mapped_lines}
use Rattle.ded_model.proofs.LineCoefs.{nonzero-nonzero}
use Rattle.ded_row.specs.Multiples.{coefs_times}
use Rattle.ded_row.specs.Renaming.{renamed_row}
use Rattle.ded_row.proofs.Scaling.{BeginsNonzero}
use Rattle.ded_row.proofs.Forms.{begins, row_lines-times, row_lines-normal}
use Rattle.ded_row.proofs.MixedLines.{times-put, times-cut, times-nonzero, nonzero_begins, line_of}

-- ---- multiples

-- a multiple is set as its coefficient is
times-with_coef : (k : ℤ) (s : Slot) (a : ℤ) (cs : List (Slot × ℤ)) → k ≢ pos 0 → coefs_times k (with_coef s a cs) ≡ with_coef s (k *ℤ a) (coefs_times k cs)
times-with_coef k s a cs n = times-nonzero k (put s a (cut s cs)) n ∙ ap nonzero (times-put k s a (cut s cs) ∙ ap (put s (k *ℤ a)) (times-cut k s cs))

-- so is a list of them
times-onto : (k : ℤ) (map : List (Slot × Slot)) (out cs : List (Slot × ℤ)) → k ≢ pos 0 → renamed_onto map (coefs_times k out) (coefs_times k cs) ≡ coefs_times k (renamed_onto map out cs)
times-onto k map out [] n = refl
times-onto k map out (c ∷ cs) n =
    ap (λ xs. renamed_onto map xs (coefs_times k cs)) (sym (times-with_coef k (renamed map c.0) c.1 out n)) ∙ times-onto k map (with_coef (renamed map c.0) c.1 out) cs n

-- ---- lines

-- what is set begins with no zero
onto_begins : (map : List (Slot × Slot)) (out cs : List (Slot × ℤ)) → BeginsNonzero out → BeginsNonzero (renamed_onto map out cs)
onto_begins map out [] h = h
onto_begins map out (c ∷ cs) h =
    onto_begins map (with_coef (renamed map c.0) c.1 out) cs (nonzero_begins (with_coef (renamed map c.0) c.1 out) (nonzero-nonzero (put (renamed map c.0) c.1 (cut (renamed map c.0) out))))

-- the renamed row has the row's lines over the new slots
pub renamed-lines : (map : List (Slot × Slot)) (r : LinearConstraint) → AreCoefs r.coefs → row_lines (normal_row (renamed_row map r)) ≡ mapped_lines map (row_lines r)
renamed-lines map r k = row_lines-normal (renamed_row map r) (onto_begins map [] r.coefs tt) ∙ go r.coefs r.constant k
  where
    go : (cs : List (Slot × ℤ)) (m : ℤ) → AreCoefs cs → line_with (renamed_onto map [] cs) m ≡ mapped_lines map (line_with cs m)
    go [] m k = refl
    go (c ∷ cs) m k =
        let q : LinearConstraint = record { coefs = c ∷ cs; constant = m; op = Zero } in
        let l = normal_row q in
        let f = line_of q l (begins (c ∷ cs) k) (inl refl) in
        let there : LinearConstraint = record { coefs = renamed_onto map [] l.coefs; constant = l.constant; op = Zero } in
        ap₂ (λ xs z. line_with (renamed_onto map [] xs) z) f.coefs f.constant
        ∙ ap (λ xs. line_with xs (f.times *ℤ l.constant)) (times-onto f.times map [] l.coefs f.nonzero_times)
        ∙ row_lines-times f.times there f.nonzero_times (onto_begins map [] l.coefs tt)
        ∙ sym (append_none (row_lines there))
