-- The statement that is made of printed lines is read as `verify` with the certificates that were printed.
use Rattle.std.proofs.Common.{◌≡◌, inl, ℕ, List, [], ◌∷◌, map, refl, sym, subst, ◌∙◌, append-nil, arith}
use Rattle.std.specs.Prelude.{flat_map}
use Rattle.std.specs.List.{AllByRecursion}
use Rattle.ded_lex.specs.Pieces.{IsWhole}
use Rattle.ded_lex.specs.Tokens.{Cell, cell_bytes, IsCell, AreCells, lexemes_of, AreLexemes}
use Rattle.ded_model.specs.declared.certificate.Entry.{Entry}
use Rattle.ded_model.specs.declared.command.Language.{Language}
use Rattle.ded_model.specs.Command.{verify}
use Rattle.ded_print.specs.Certificates.{entry_line}
use Rattle.ded_terminals.specs.Symbols.{Symbol}
use Rattle.ded_terminals.specs.Literals.{Reader, exact, marked}
use Rattle.ded_syntax.specs.Commands.{spell_plain, SpellsCommand}
use Rattle.ded_syntax.specs.Spelling.{IsRead}
use Rattle.ded_reread.specs.ScriptWords.{IsName}
use Rattle.ded_reread.proofs.Worded.{AreCellsBefore, Worded}
use Rattle.ded_runs.specs.Lines.{AreBlanks, verify_text}
use Rattle.ded_runs.proofs.Accepting.{is_read}
use Rattle.ded_runs.proofs.Entries.{IsSmallEntry}
use Rattle.ded_runs.proofs.Languages.{AreShared, same_symbols, numbers_short, verify_shared}
use Rattle.ded_runs.proofs.Statements.{verify_worded}
use Rattle.ded_runs.proofs.Trees.{verify_tree, verify_back}

-- ---- cells with nothing behind them

cells_end : (cs : List Cell) → AreCellsBefore cs [] → AreCells cs
cells_end [] h = tt
cells_end (c ∷ cs) h = (subst (IsCell c) (append-nil (flat_map cell_bytes cs)) h.0, cells_end cs h.1)

lexemes_are : (text : List ℕ) (ts : List Symbol) (w : Worded text ts) → AreLexemes text (lexemes_of w.cells)
lexemes_are text ts w = record { cells = w.cells; is = w.bytes; each = cells_end w.cells (w.each [] tt); lexemes_are = refl }

-- ---- the statement

module _ (blanks : List ℕ) (are : AreBlanks blanks) (n m : List ℕ) (first : IsName n) (second : IsName m) (es : List Entry) (small : AllByRecursion IsSmallEntry es) where
  pub verify_whole : (after : List ℕ) → IsWhole (verify_text blanks n m (map entry_line es)) (59 ∷ after)
  verify_whole after =
      let w = verify_worded blanks are n m es first second small in
      record { parts = w.parts; is = w.spells; each = w.whole (59 ∷ after) refl }

  spelled : (value : Reader) → ((k : ℕ) → value.number k ≡ k) → SpellsCommand value (spell_plain (verify_tree n m es)) (verify n m es) 0
  spelled value same = inl (record { plain = verify_tree n m es; spelled = refl; means = verify_back value same n m es; flat = refl })

  pub verify_read : (language : Language) → IsRead language (verify_text blanks n m (map entry_line es)) (verify n m es)
  verify_read language =
      let ts = spell_plain (verify_tree n m es) in
      let w = verify_worded blanks are n m es first second small in
      let ls = lexemes_of w.cells in
      let shared = subst AreShared (sym w.symbols_are) (verify_shared n m es) in
      let same = same_symbols language ls shared ∙ w.symbols_are in
      is_read language (verify_text blanks n m (map entry_line es)) ls (lexemes_are (verify_text blanks n m (map entry_line es)) ts w) (verify n m es) 0
      (subst (λ (us : List Symbol). SpellsCommand exact us (verify n m es) 0) (sym same) (spelled exact (λ k. refl)))
      (subst (λ (us : List Symbol). SpellsCommand marked us (verify n m es) 0) (sym same) (spelled marked (λ k. refl)))
      w.words (numbers_short language ls w.numbers) refl refl (omega arith)
