-- The statement that is made of printed lines is worded as `verify`.
use Rattle.std.proofs.Common.{◌≡◌, inr, inl, ℕ, List, [], ◌∷◌, ◌++◌, map, refl, sym, subst, append_assoc, arith}
use Rattle.std.specs.Prelude.{codes}
use Rattle.std.specs.List.{AllByRecursion}
use Rattle.ded_model.specs.declared.certificate.Entry.{Entry}
use Rattle.ded_print.specs.Certificates.{entry_line}
use Rattle.ded_terminals.specs.declared.item.Keyword.TheVariants as words
use Rattle.ded_terminals.specs.Symbols.{Symbol, Word, Name, OpenBrace, CloseBrace, Comma}
use Rattle.ded_terminals.specs.Atoms.{spell_rest}
use Rattle.ded_syntax.specs.Certificates.{spell_entry}
use Rattle.ded_syntax.specs.Commands.{spell_plain}
use Rattle.ded_reread.specs.ScriptWords.{IsName}
use Rattle.ded_reread.proofs.TerminalsWords.{spaced}
use Rattle.ded_reread.proofs.Worded.{Worded, Loose, Fits, Any, then_any, then_fitting, blank, name, lone_sign}
use Rattle.ded_runs.specs.Lines.{AreBlanks, later_lines, closed_lines, verify_text}
use Rattle.ded_runs.proofs.Blanks.{blanks_worded, fits_blanks}
use Rattle.ded_runs.proofs.Entries.{IsSmallEntry, entry_worded}
use Rattle.ded_runs.proofs.Trees.{entry_tree, verify_tree}
use Rattle.ded_reread.proofs.TuplesRead.{closed}

-- a comma without a blank, as it stands between lines
comma : Loose (codes ",") (Comma ∷ [])
comma = lone_sign (codes ",") (inr (inr (inr (inr (inl refl))))) refl

opened : Loose (codes " {") (OpenBrace ∷ [])
opened = then_any Any (codes " ") (codes "{") [] (OpenBrace ∷ []) blank (lone_sign (codes "{") (inr (inr (inl refl))) refl)

-- the entries and the brace behind them
abbrev closed_symbols : List Entry → List Symbol
closed_symbols [] = CloseBrace ∷ []
closed_symbols (e ∷ es) = spell_entry (entry_tree e) ++ (spell_rest spell_entry (map entry_tree es) ++ CloseBrace ∷ [])

spelled : (n m : List ℕ) (es : List Entry) → (Word words.Verify ∷ Name n ∷ Name m ∷ OpenBrace ∷ closed_symbols es) ≡ spell_plain (verify_tree n m es)
spelled n m [] = refl
spelled n m (e ∷ es) = refl

module _ (blanks : List ℕ) (are : AreBlanks blanks) where
  fits_later : (lines : List (List ℕ)) → Fits (later_lines blanks lines)
  fits_later [] = refl
  fits_later (line ∷ lines) = refl

  later_worded : (es : List Entry) → AllByRecursion IsSmallEntry es → Worded (later_lines blanks (map entry_line es)) (spell_rest spell_entry (map entry_tree es) ++ CloseBrace ∷ [])
  later_worded [] h = closed
  later_worded (e ∷ es) h =
      let line = entry_line e in
      let later = later_lines blanks (map entry_line es) in
      let one = spell_entry (entry_tree e) in
      let rest = spell_rest spell_entry (map entry_tree es) in
      let all = one ++ (rest ++ CloseBrace ∷ []) in
      subst (λ (ts : List Symbol). Worded (codes "," ++ (blanks ++ (line ++ (blanks ++ later)))) (Comma ∷ ts)) (sym (append_assoc one rest (CloseBrace ∷ [])))
      (then_any Fits (codes ",") (blanks ++ (line ++ (blanks ++ later))) (Comma ∷ []) all comma
      (then_any Fits blanks (line ++ (blanks ++ later)) [] all (blanks_worded blanks are)
      (then_fitting line (blanks ++ later) one (rest ++ CloseBrace ∷ []) (entry_worded e h.0) (fits_blanks blanks later are (fits_later (map entry_line es)))
      (then_any Fits blanks later [] (rest ++ CloseBrace ∷ []) (blanks_worded blanks are) (later_worded es h.1)))))

  closed_worded : (es : List Entry) → AllByRecursion IsSmallEntry es → Worded (closed_lines blanks (map entry_line es)) (closed_symbols es)
  closed_worded [] h = closed
  closed_worded (e ∷ es) h =
      let later = later_lines blanks (map entry_line es) in
      let rest = spell_rest spell_entry (map entry_tree es) ++ CloseBrace ∷ [] in
      then_fitting (entry_line e) (blanks ++ later) (spell_entry (entry_tree e)) rest (entry_worded e h.0) (fits_blanks blanks later are (fits_later (map entry_line es)))
      (then_any Fits blanks later [] rest (blanks_worded blanks are) (later_worded es h.1))

  pub verify_worded : (n m : List ℕ) (es : List Entry) → IsName n → IsName m → AllByRecursion IsSmallEntry es → Worded (verify_text blanks n m (map entry_line es)) (spell_plain (verify_tree n m es))
  verify_worded n m es first second h =
      let inside = closed_lines blanks (map entry_line es) in
      let entries = closed_symbols es in
      let from_brace = codes " {" ++ (blanks ++ inside) in
      let from_second = codes " " ++ (m ++ from_brace) in
      subst (λ (ts : List Symbol). Worded (verify_text blanks n m (map entry_line es)) ts) (spelled n m es)
      (then_any Fits blanks (codes "verify " ++ (n ++ from_second)) [] (Word words.Verify ∷ Name n ∷ Name m ∷ OpenBrace ∷ entries) (blanks_worded blanks are)
      (then_any Fits (codes "verify ") (n ++ from_second) (Word words.Verify ∷ []) (Name n ∷ Name m ∷ OpenBrace ∷ entries) (spaced (codes "verify") refl refl (omega arith))
      (then_fitting n from_second (Name n ∷ []) (Name m ∷ OpenBrace ∷ entries) (name n first) refl
      (then_any Fits (codes " ") (m ++ from_brace) [] (Name m ∷ OpenBrace ∷ entries) blank
      (then_fitting m from_brace (Name m ∷ []) (OpenBrace ∷ entries) (name m second) refl
      (then_any Fits (codes " {") (blanks ++ inside) (OpenBrace ∷ []) entries opened
      (then_any Fits blanks inside [] entries (blanks_worded blanks are) (closed_worded es h))))))))
