-- The line of a view is read as the view of what is read back.
use Rattle.std.proofs.Common.{◌≡◌, inr, ℕ, Bool, true, false, List, [], ◌∷◌, ◌++◌, map, refl, sym, subst, ap, arith}
use Rattle.ded_lex.specs.Tokens.{lexemes_of}
use Rattle.ded_model.specs.declared.command.Language.{Language}
use Rattle.ded_model.specs.declared.command.Refusal.TheVariants.{LongNumber}
use Rattle.ded_model.specs.declared.name.Column.{Column}
use Rattle.ded_model.specs.Command.{view}
use Rattle.ded_model.specs.Form.{Form}
use Rattle.ded_model.specs.Known.{KnownNames, IsAccepted}
use Rattle.ded_model.specs.Logic.{AllAtoms, some_atom}
use Rattle.ded_model.specs.LongRows.{is_long_atom}
use Rattle.ded_model.specs.Plain.{IsPlain}
use Rattle.ded_grammar.specs.Trees.{TerminalForm, nay, conjunct, disjunct, arrow, opening, closing, binder, leaf, spell, meaning, nesting}
use Rattle.ded_grammar.proofs.Carried.{TerminalHas, TerminalsHave, spelled_has}
use Rattle.ded_terminals.specs.Symbols.{Symbol, symbol}
use Rattle.ded_terminals.specs.Literals.{Reader, exact, marked}
use Rattle.ded_terminals.specs.Atoms.{Atom, truth, relates, belongs, atom_form, IsTerminal, AreTerminals}
use Rattle.ded_syntax.specs.Commands.{views, spell_prefix, SpellsCommand}
use Rattle.ded_syntax.specs.Spelling.{IsRead}
use Rattle.ded_syntax.proofs.PlainSums.{spelled_plain}
use Rattle.ded_dump.specs.Formulas.{formula_text}
use Rattle.ded_reread.specs.Formulas.{restored}
use Rattle.ded_reread.proofs.Accepted.{written_restored}
use Rattle.ded_reread.specs.Lines.{view_text, IsLine}
use Rattle.ded_reread.specs.ScriptWords.{IsName, IsMember, IsText, IsHeading}
use Rattle.ded_reread.proofs.Worded.{line_lexemes, line_whole}
use Rattle.ded_reread.proofs.Trees.{printed, printed_means}
use Rattle.ded_reread.proofs.NestingRestored.{view_formula, restored_low}
use Rattle.ded_reread.proofs.TerminalsAtoms.{HasArguments, IsReadable, formula_said, formula_unmarked}
use Rattle.ded_reread.proofs.ViewsAccepted.{is_read}
use Rattle.ded_reread.proofs.ViewsHeading.{IsWordedHeading, worded_heading, view_worded}
use Rattle.ded_reread.proofs.WordsRead.{views_good}

-- ---- what was read

atom_arguments : (value : Reader) (a : Atom) → AllAtoms HasArguments (atom_form value a)
atom_arguments value (truth true) = tt
atom_arguments value (truth false) = tt
atom_arguments value (relates c) = tt
atom_arguments value (belongs n s ss) = omega arith

terminal_arguments : (value : Reader) (ts : List Symbol) (p : TerminalForm) → IsTerminal value ts p → TerminalHas HasArguments p
terminal_arguments value ts nay h = tt
terminal_arguments value ts conjunct h = tt
terminal_arguments value ts disjunct h = tt
terminal_arguments value ts arrow h = tt
terminal_arguments value ts opening h = tt
terminal_arguments value ts closing h = tt
terminal_arguments value ts (binder q c) h = tt
terminal_arguments value ts (leaf f) h = subst (AllAtoms HasArguments) h.2 (atom_arguments value h.0)

terminals_arguments : (value : Reader) (ts : List Symbol) (ps : List TerminalForm) → AreTerminals value ts ps → TerminalsHave HasArguments ps
terminals_arguments value ts [] h = tt
terminals_arguments value ts (p ∷ ps) h = (terminal_arguments value h.0 p h.3, terminals_arguments value h.1 ps h.4)

view_arguments : (value : Reader) (ts : List Symbol) (n : List ℕ) (h : List Column) (f : Form) (depth : ℕ) → SpellsCommand value ts (view n h f) depth → AllAtoms HasArguments f
view_arguments value ts n h f depth s =
    let x = view_formula value ts n h f depth s in
    spelled_has HasArguments x.1.terminals f depth x.1.spells (terminals_arguments value x.0 x.1.terminals x.1.are)

view_short : (language : Language) (bytes n : List ℕ) (h : List Column) (f : Form) → IsRead language bytes (view n h f) → some_atom is_long_atom f ≡ false
view_short language bytes n h f r = by (some_atom is_long_atom f) refl
  where
    by : (b : Bool) → some_atom is_long_atom f ≡ b → some_atom is_long_atom f ≡ false
    by true e = absurd (r.accepted LongNumber (inr (inr (record { command = view n h f; depth = r.depth; spells = r.spells; long = e }))))
    by false e = e

-- ---- the line

spelled_view : (value : Reader) (n : List ℕ) (h : List Column) (k : IsWordedHeading h) (f : Form) (rest : List Symbol) → AreTerminals value rest (spell (printed f)) → meaning (printed f) ≡ f
    → SpellsCommand value (spell_prefix (views n k.columns) ++ rest) (view n h f) (nesting (printed f))
spelled_view value n h k f rest are means =
    inr (record {
      before = views n k.columns;
      rest = rest;
      spelled = refl;
      formula = f;
      spells = record { terminals = spell (printed f); are = are; spells = record { tree = printed f; is = refl; means = means; nests = refl } };
      means = ap (λ (cs : List Column). view n cs f) (sym k.is);
    })

line_by : (K : KnownNames) (language : Language) (bytes n : List ℕ) (h : List Column) (f : Form) → IsRead language bytes (view n h f) → IsReadable K h f → IsName n → IsHeading h → IsLine (view_text n h f) (view n h (restored h f))
line_by K language bytes n h f r ready named headed =
    let back = restored h f in
    let k = worded_heading h headed in
    let s = formula_said K h f ready in
    let w = view_worded n h (formula_text h f) s.symbols named k s.worded in
    let means = printed_means IsName IsMember IsText back ready.still_written in
    let spelled = λ (value : Reader) (are : AreTerminals value s.symbols (spell (printed back))).
    subst (λ (ts : List Symbol). SpellsCommand value ts (view n h back) (nesting (printed back))) (sym w.symbols_are) (spelled_view value n h k back s.symbols are means) in
    record {
      read =
          is_read (10 ∷ view_text n h f) (lexemes_of w.cells) (line_lexemes (view_text n h f) _ w) (view n h back) (nesting (printed back)) (spelled exact s.exactly) (spelled marked s.marking) w.words w.numbers
          (formula_unmarked K h f ready) ready.still_short (restored_low language bytes n h f r);
      whole = line_whole (view_text n h f) _ w;
    }

-- where these hold of what is read back
pub view_line : ((K : KnownNames) (h : List Column) (f : Form) → IsAccepted K h f → IsPlain f → IsPlain (restored h f))
    → ((K : KnownNames) (h : List Column) (f : Form) → IsAccepted K h f → IsPlain f → some_atom is_long_atom f ≡ false → some_atom is_long_atom (restored h f) ≡ false)
    → (K : KnownNames) (language : Language) (bytes n : List ℕ) (h : List Column) (f : Form) → IsRead language bytes (view n h f) → IsAccepted K h f → IsLine (view_text n h f) (view n h (restored h f))
view_line plain short K language bytes n h f r a =
    let good = views_good language bytes n h f r in
    let is_plain : IsPlain f = spelled_plain language bytes (view n h f) r.depth r.spells in
    let is_short = view_short language bytes n h f r in
    line_by K language bytes n h f r
    (record {
      accepted = a;
      written = good.2;
      plain = is_plain;
      short = is_short;
      arguments = view_arguments exact (map (symbol language) r.spells.lexemes) n h f r.depth r.spells.command;
      still_written = written_restored K h f a IsName IsMember IsText good.2;
      still_plain = plain K h f a is_plain;
      still_short = short K h f a is_plain is_short;
    })
    good.0 good.1
