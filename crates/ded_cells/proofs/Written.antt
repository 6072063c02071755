-- Lines that are written one after another.
use Rattle.std.proofs.Common.{◌≡◌, ◌<◌, ◌≤◌, ◌+◌, ℕ, zero, suc, arith, List, [], ◌∷◌, ◌++◌, length, take, get_or, sym, ap, ◌∙◌, subst, append_assoc, append-nil}
use Rattle.std.proofs.lemmas.List.{take_all, take_more}
use Rattle.std.specs.List.{AllByRecursion}
use Rattle.ded_model.specs.declared.name.Column.{Column}
use Rattle.ded_model.specs.Catalogue.{tuples_of}
use Rattle.ded_model.specs.Known.{IsTupleOver}
use Rattle.ded_model.specs.Row.{Atom}
use Rattle.ded_print.proofs.Plans.{lines_both}
use Rattle.ded_print.specs.Lines.{line_text, lines_text}
use Rattle.ded_cells.specs.Tables.{AreLines}
use Rattle.ded_cells.specs.Writing.{WritesLine, WritesLines}

module _ {A : Type 0} (IsLine : A → List ℕ → Type 0) where
  are_behind : (xs ys : List A) (ls ks : List (List ℕ)) → AreLines IsLine xs ls → AreLines IsLine ys ks → AreLines IsLine (xs ++ ys) (ls ++ ks)
  are_behind [] ys [] ks h k = k
  are_behind [] ys (l ∷ ls) ks h k = absurd h
  are_behind (x ∷ xs) ys [] ks h k = absurd h
  are_behind (x ∷ xs) ys (l ∷ ls) ks h k = (h.0, are_behind xs ys ls ks h.1 k)

  -- nothing was written
  pub writes_none : (before now : List ℕ) → now ≡ before → WritesLines IsLine before now []
  writes_none before now same = record { lines = []; are = tt; is = same ∙ sym (append-nil before) }

  -- one more line, and its end
  pub writes_more : (before now next last : List ℕ) (xs : List A) (x : A) → WritesLines IsLine before now xs → WritesLine (IsLine x) now next → last ≡ next ++ 10 ∷ [] → WritesLines IsLine before last (xs ++ x ∷ [])
  writes_more before now next last xs x h k e = record {
    lines = h.lines ++ k.line ∷ [];
    are = are_behind xs (x ∷ []) h.lines (k.line ∷ []) h.are (k.is_line, tt);
    is =
        e ∙ ap (λ (t : List ℕ). t ++ 10 ∷ []) (k.is ∙ ap (λ (t : List ℕ). t ++ k.line) h.is)
        ∙ append_assoc (before ++ lines_text h.lines) k.line (10 ∷ [])
        ∙ append_assoc before (lines_text h.lines) (line_text k.line)
        ∙ ap (λ (t : List ℕ). before ++ t) (ap (λ (t : List ℕ). lines_text h.lines ++ t) (sym (append-nil (line_text k.line))) ∙ sym (lines_both h.lines (k.line ∷ [])));
  }

  -- the next of a list
  pub writes_next : (before now next last : List ℕ) (xs : List A) (i : ℕ) (x : A) → i < length xs → x ≡ get_or xs i x → WritesLines IsLine before now (take i xs)
      → WritesLine (IsLine x) now next → last ≡ next ++ 10 ∷ [] → WritesLines IsLine before last (take (i + 1) xs)
  writes_next before now next last xs i x there is h k e =
      subst (WritesLines IsLine before last) (sym (take_more xs i x there ∙ ap (λ (y : A). take i xs ++ y ∷ []) (sym is)))
      (writes_more before now next last (take i xs) x h k e)

  pub writes_all : (before now : List ℕ) (xs : List A) (i : ℕ) → length xs ≤ i → WritesLines IsLine before now (take i xs) → WritesLines IsLine before now xs
  writes_all before now xs i end h = subst (WritesLines IsLine before now) (take_all i xs end) h

-- each of some numbered tuples is over the columns
pub stored_over : (h : List Column) (ts : List (ℕ × List Atom)) (i : ℕ) (t : ℕ × List Atom) → i < length ts → t ≡ get_or ts i t → AllByRecursion (IsTupleOver h) (tuples_of ts) → IsTupleOver h t.1
stored_over h [] i t there is over = absurd (omega (arith, there))
stored_over h (u ∷ ts) zero t there is over = subst (λ (v : ℕ × List Atom). IsTupleOver h v.1) (sym is) over.0
stored_over h (u ∷ ts) (suc i) t there is over = stored_over h ts i t (omega (arith, there)) is over.1
