-- Tuples are read back.
use Rattle.std.proofs.Common.{◌≡◌, ℕ, zero, suc, ◌<◌, ◌≤◌, List, [], ◌∷◌, ◌++◌, length, map, refl, sym, ap, ◌∙◌, subst, arith, Bool, true, false, append_assoc, append-nil, length-append}
use Rattle.std.specs.Prelude.{ℤ, pos, int_lt, unsigned_abs, Option, Some, None, codes, if◌then◌else◌, ◌==◌}
use Rattle.std.specs.List.{AllByRecursion}
use Rattle.std.proofs.lemmas.Bool.Decides.{nat_tests}
use Rattle.ded_num.specs.Length.{IsShort}
use Rattle.ded_model.specs.declared.slot.Slot.{Slot}
use Rattle.ded_model.specs.declared.row.RowOp.{RowOp}
use Rattle.ded_model.specs.declared.name.Column.{Column}
use Rattle.ded_model.specs.declared.tuple.ThemeAtom.TheVariants.{EqText, NeText, EqSlot, NeSlot}
use Rattle.ded_model.specs.declared.tuple.BothAtom.TheVariants.{First, Second}
use Rattle.ded_model.specs.Row.{Atom}
use Rattle.ded_model.proofs.Rows.{or_right}
use Rattle.ded_model.specs.Normal.{IsNormalAtom, BeginsAfter, IsNormalTuple, place_atom, ordered_atoms}
use Rattle.ded_tuple.specs.TrueRows.{without_true}
use Rattle.ded_tuple.proofs.Shared.{not_true}
use Rattle.ded_lex.specs.Lexemes.{digit_byte, letter_byte, word_byte, quote_byte, BeginsWith, BeginsNot}
use Rattle.ded_lex.proofs.FrontReads.{letter_is_word}
use Rattle.ded_print.specs.Lines.{line_text, lines_text}
use Rattle.ded_print.specs.Numbers.{number_text}
use Rattle.ded_print.specs.Tuples.{column_names, term_text, signed, row_with_text, atom_text, later_atoms_text, tuple_text}
use Rattle.ded_readback.specs.Plain.{IsWord, IsPlainHeading}
use Rattle.ded_readback.specs.Reading.{◌>>=◌, behind, atom_at, atoms_by, atoms_from, tuple_at, tuples_by, tuples_from}
use Rattle.ded_readback.proofs.Digits.{number_begins}
use Rattle.ded_readback.proofs.Names.{IsNamed}
use Rattle.ded_readback.proofs.RowsRead.{row_read}
use Rattle.ded_readback.proofs.ThemesRead.{IsNamedTheme, theme_read}

-- ---- atoms

-- the slots are named, and the constant of a row is short
abbrev pub IsReadable : List Column → Atom → Type 0
IsReadable h (First r) = AllByRecursion (λ c. IsNamed h c.0) r.coefs × IsShort r.constant
IsReadable h (Second a) = IsNamedTheme h a

atom_read : (h : List Column) (a : Atom) (rest : List ℕ) → IsPlainHeading h → IsNormalAtom a → IsReadable h a → BeginsNot word_byte rest → BeginsNot quote_byte rest
    → atom_at h (atom_text (column_names h) a ++ rest) ≡ Some (a, rest)
atom_read h (First r) rest plain normal readable stops closed = row_read h r.coefs r.op r.constant rest plain normal.0 normal.1 normal.2 readable.1 readable.0 stops
atom_read h (Second a) rest plain normal readable stops closed = theme_read h a rest normal readable stops closed

-- ---- what an atom begins with

begins_word : (w rest : List ℕ) → IsWord w → BeginsWith word_byte (w ++ rest)
begins_word [] rest h = absurd h.0
begins_word (b ∷ w) rest h = letter_is_word b h.0

begins_number : (ds rest : List ℕ) → BeginsWith digit_byte ds → BeginsWith word_byte (ds ++ rest)
begins_number [] rest h = absurd h
begins_number (b ∷ ds) rest h = or_right (letter_byte b) (digit_byte b) h

begins_either : (t : Bool) (xs ys rest : List ℕ) → BeginsWith word_byte (xs ++ rest) → BeginsWith word_byte (ys ++ rest) → BeginsWith word_byte ((if t then xs else ys) ++ rest)
begins_either true xs ys rest f g = f
begins_either false xs ys rest f g = g

begins_term : (h : List Column) (s : Slot) (z : ℤ) (rest : List ℕ) → IsNamed h s → BeginsWith word_byte (term_text (column_names h) s z ++ rest)
begins_term h s z rest named =
    begins_either (unsigned_abs z == 1) (column_names h s) (number_text (unsigned_abs z) ++ (42 ∷ column_names h s)) rest (begins_word (column_names h s) rest named.word)
    (subst (BeginsWith word_byte) (sym (append_assoc (number_text (unsigned_abs z)) (42 ∷ column_names h s) rest)) (begins_number (number_text (unsigned_abs z)) (42 ∷ (column_names h s ++ rest)) (number_begins (unsigned_abs z))))

begins_named : (h : List Column) (s : Slot) (xs rest : List ℕ) → IsNamed h s → BeginsWith word_byte ((column_names h s ++ xs) ++ rest)
begins_named h s xs rest named = subst (BeginsWith word_byte) (sym (append_assoc (column_names h s) xs rest)) (begins_word (column_names h s) (xs ++ rest) named.word)

begins_row : (h : List Column) (cs : List (Slot × ℤ)) (op : RowOp) (m : ℤ) (rest : List ℕ) → AllByRecursion (λ c. IsNamed h c.0) cs → BeginsWith word_byte (row_with_text (column_names h) cs op m ++ rest)
begins_row h [] op m rest each = refl
begins_row h (c ∷ cs) op m rest each =
    let z = signed (int_lt c.1 (pos 0)) c.1 in
    subst (BeginsWith word_byte) (sym (append_assoc (term_text (column_names h) c.0 z) _ rest)) (begins_term h c.0 z _ each.0)

begins_atom : (h : List Column) (a : Atom) (rest : List ℕ) → IsReadable h a → BeginsWith word_byte (atom_text (column_names h) a ++ rest)
begins_atom h (First r) rest readable = begins_row h r.coefs r.op r.constant rest readable.0
begins_atom h (Second (EqText s t)) rest readable = begins_named h s _ rest readable
begins_atom h (Second (NeText s t)) rest readable = begins_named h s _ rest readable
begins_atom h (Second (EqSlot s t)) rest readable = begins_named h s _ rest readable.0
begins_atom h (Second (NeSlot s t)) rest readable = begins_named h s _ rest readable.0

no_brace_byte : (b : ℕ) → word_byte b ≡ true → (b == 125) ≡ false
no_brace_byte b h = grind (arith, nat_tests)

no_brace : (bs : List ℕ) → BeginsWith word_byte bs → behind (32 ∷ 125 ∷ 10 ∷ []) (32 ∷ bs) ≡ None
no_brace [] h = absurd h
no_brace (b ∷ bs) h = rw (no_brace_byte b h) refl

-- ---- the atoms of a tuple

-- a normal atom that can be read
abbrev pub IsGood : List Column → Atom → Type 0
IsGood h a = IsNormalAtom a × IsReadable h a

later_word : (h : List Column) (atoms : List Atom) (rest : List ℕ) → BeginsNot word_byte (later_atoms_text (column_names h) atoms ++ (32 ∷ rest))
later_word h [] rest = refl
later_word h (a ∷ atoms) rest = refl

later_quote : (h : List Column) (atoms : List Atom) (rest : List ℕ) → BeginsNot quote_byte (later_atoms_text (column_names h) atoms ++ (32 ∷ rest))
later_quote h [] rest = refl
later_quote h (a ∷ atoms) rest = refl

-- one more atom, and those behind it
atoms_read : (h : List Column) (atoms : List Atom) (k : ℕ) (done : List Atom) (rest : List ℕ) → IsPlainHeading h → AllByRecursion (IsGood h) atoms → length atoms < k
    → atoms_from h k done (later_atoms_text (column_names h) atoms ++ (32 ∷ 125 ∷ 10 ∷ rest)) ≡ Some (done ++ atoms, rest)
atoms_read h atoms zero done rest plain good few = absurd (omega (arith, few))
atoms_read h [] (suc k) done rest plain good few = ap (λ (l : List Atom). Some (l, rest)) (sym (append-nil done))
atoms_read h (a ∷ atoms) (suc k) done rest plain good few =
    let text = atom_text (column_names h) a in
    let more = later_atoms_text (column_names h) atoms in
    let end = 32 ∷ 125 ∷ 10 ∷ rest in
    ap (λ (l : List ℕ). atom_at h l >>= λ x. atoms_from h k (done ++ x.0 ∷ []) x.1) (append_assoc text more end)
    ∙ ap (λ (o : Option (Atom × List ℕ)). o >>= λ x. atoms_from h k (done ++ x.0 ∷ []) x.1) (atom_read h a (more ++ end) plain good.0.0 good.0.1 (later_word h atoms (125 ∷ 10 ∷ rest)) (later_quote h atoms (125 ∷ 10 ∷ rest)))
    ∙ atoms_read h atoms k (done ++ a ∷ []) rest plain good.1 (omega (arith, few))
    ∙ ap (λ (l : List Atom). Some (l, rest)) (append_assoc done (a ∷ []) atoms)

atoms_length : (h : List Column) (atoms : List Atom) → length atoms ≤ length (later_atoms_text (column_names h) atoms)
atoms_length h [] = omega arith
atoms_length h (a ∷ atoms) = omega (arith, atoms_length h atoms, length-append (atom_text (column_names h) a) (later_atoms_text (column_names h) atoms))

-- ---- tuples

placed_first : (a : Atom) (atoms : List Atom) → BeginsAfter a atoms → place_atom a atoms ≡ a ∷ atoms
placed_first a [] h = refl
placed_first a (b ∷ bs) h = rw h refl

-- the normal tuple of a normal tuple's atoms is itself
normal_same : (t : List Atom) → IsNormalTuple t → ordered_atoms (without_true t) ≡ t
normal_same [] h = refl
normal_same (a ∷ atoms) h =
    let kept : without_true (a ∷ atoms) ≡ a ∷ without_true atoms = rw (not_true a h.0) refl in
    ap ordered_atoms kept ∙ ap (place_atom a) (normal_same atoms h.2) ∙ placed_first a atoms h.1

-- the first atom, and those behind it
first_read : (h : List Column) (a : Atom) (atoms : List Atom) (rest : List ℕ) → IsPlainHeading h → AllByRecursion (IsGood h) (a ∷ atoms)
    → let text = 32 ∷ (atom_text (column_names h) a ++ (later_atoms_text (column_names h) atoms ++ (32 ∷ 125 ∷ 10 ∷ rest))) in atoms_from h (length text) [] text ≡ Some (a ∷ atoms, rest)
first_read h a atoms rest plain good =
    let text = atom_text (column_names h) a in
    let more = later_atoms_text (column_names h) atoms in
    let end = 32 ∷ 125 ∷ 10 ∷ rest in
    let after = text ++ (more ++ end) in
    let few : length atoms < length after = omega (arith, atoms_length h atoms, length-append text (more ++ end), length-append more end) in
    ap (atoms_by h (atoms_from h (length after)) [] (32 ∷ after)) (no_brace after (begins_atom h a (more ++ end) good.0.1))
    ∙ ap (λ (o : Option (Atom × List ℕ)). o >>= λ x. atoms_from h (length after) (x.0 ∷ []) x.1) (atom_read h a (more ++ end) plain good.0.0 good.0.1 (later_word h atoms (125 ∷ 10 ∷ rest)) (later_quote h atoms (125 ∷ 10 ∷ rest)))
    ∙ atoms_read h atoms (length after) (a ∷ []) rest plain good.1 few

-- what stands behind the opening brace of a tuple's line, and that it is read
record LineRead (h : List Column) (t : List Atom) (rest : List ℕ) : Type 0 where
  inner : List ℕ
  begins : behind (codes "{") (line_text (tuple_text (column_names h) t) ++ rest) ≡ Some inner
  read : tuple_at h inner ≡ Some (t, rest)

abbrev ordered : List Atom × List ℕ → Option (List Atom × List ℕ)
ordered t = Some (ordered_atoms (without_true t.0), t.1)

ordered_read : (h : List Column) (t : List Atom) (inner rest : List ℕ) → IsNormalTuple t → atoms_from h (length inner) [] inner ≡ Some (t, rest) → tuple_at h inner ≡ Some (t, rest)
ordered_read h t inner rest normal read =
    ap (λ (o : Option (List Atom × List ℕ)). o >>= ordered) read ∙ ap (λ (l : List Atom). Some (l, rest)) (normal_same t normal)

line_read : (h : List Column) (t : List Atom) (rest : List ℕ) → IsPlainHeading h → IsNormalTuple t → AllByRecursion (IsGood h) t → LineRead h t rest
line_read h [] rest plain normal good = record {
  inner = 32 ∷ 125 ∷ 10 ∷ rest;
  begins = refl;
  read = ordered_read h [] (32 ∷ 125 ∷ 10 ∷ rest) rest normal (atoms_read h [] (suc (suc (suc (length rest)))) [] rest plain good (omega arith));
}
line_read h (a ∷ atoms) rest plain normal good =
    let text = atom_text (column_names h) a in
    let more = later_atoms_text (column_names h) atoms in
    let split : ((text ++ (more ++ codes " }")) ++ 10 ∷ []) ++ rest ≡ text ++ (more ++ (32 ∷ 125 ∷ 10 ∷ rest)) =
    append_assoc (text ++ (more ++ codes " }")) (10 ∷ []) rest
    ∙ append_assoc text (more ++ codes " }") (10 ∷ rest)
    ∙ ap (λ (l : List ℕ). text ++ l) (append_assoc more (codes " }") (10 ∷ rest)) in
    record {
      inner = 32 ∷ (text ++ (more ++ (32 ∷ 125 ∷ 10 ∷ rest)));
      begins = ap (λ (l : List ℕ). Some (32 ∷ l)) split;
      read = ordered_read h (a ∷ atoms) (32 ∷ (text ++ (more ++ (32 ∷ 125 ∷ 10 ∷ rest)))) rest normal (first_read h a atoms rest plain good);
    }

-- ---- lists of tuples

-- a normal tuple of atoms that can be read
abbrev pub IsGoodTuple : List Column → List Atom → Type 0
IsGoodTuple h t = IsNormalTuple t × AllByRecursion (IsGood h) t

pub tuples_read : (h : List Column) (ts : List (List Atom)) (k : ℕ) (done : List (List Atom)) → IsPlainHeading h → AllByRecursion (IsGoodTuple h) ts → length ts < k
    → tuples_from h k done (lines_text (map (tuple_text (column_names h)) ts) ++ line_text (codes "end")) ≡ Some (done ++ ts)
tuples_read h ts zero done plain good few = absurd (omega (arith, few))
tuples_read h [] (suc k) done plain good few = ap (λ (l : List (List Atom)). Some l) (sym (append-nil done))
tuples_read h (t ∷ ts) (suc k) done plain good few =
    let text = line_text (tuple_text (column_names h) t) in
    let more = lines_text (map (tuple_text (column_names h)) ts) in
    let end = line_text (codes "end") in
    let line = line_read h t (more ++ end) plain good.0.0 good.0.1 in
    ap (λ (l : List ℕ). tuples_by h (tuples_from h k) done (behind (codes "{") l)) (append_assoc text more end)
    ∙ ap (tuples_by h (tuples_from h k) done) line.begins
    ∙ ap (λ (o : Option (List Atom × List ℕ)). o >>= λ x. tuples_from h k (done ++ x.0 ∷ []) x.1) line.read
    ∙ tuples_read h ts k (done ++ t ∷ []) plain good.1 (omega (arith, few))
    ∙ ap (λ (l : List (List Atom)). Some l) (append_assoc done (t ∷ []) ts)

pub lines_length : (h : List Column) (ts : List (List Atom)) → length ts ≤ length (lines_text (map (tuple_text (column_names h)) ts))
lines_length h [] = omega arith
lines_length h (t ∷ ts) =
    let text = tuple_text (column_names h) t in
    omega (arith, lines_length h ts, length-append text (10 ∷ []), length-append (text ++ 10 ∷ []) (lines_text (map (tuple_text (column_names h)) ts)))
