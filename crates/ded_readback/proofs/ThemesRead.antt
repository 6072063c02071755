-- Text atoms are read back.
use Rattle.std.proofs.Common.{◌≡◌, ℕ, ◌<◌, List, [], ◌∷◌, ◌++◌, refl, sym, ap, ◌∙◌, arith, Bool, true, false, append_assoc, append-nil}
use Rattle.std.specs.Prelude.{Option, Some, None, codes, if◌then◌else◌, ◌==◌}
use Rattle.std.proofs.lemmas.Bool.Decides.{nat_tests}
use Rattle.std.proofs.lemmas.Bool.{eqb-true, lt-ltb}
use Rattle.ded_model.specs.declared.slot.Slot.{Slot}
use Rattle.ded_model.specs.declared.slot.Sort.{Sort}
use Rattle.ded_model.specs.declared.slot.Sort.TheVariants.{Text}
use Rattle.ded_model.specs.declared.name.Column.{Column}
use Rattle.ded_model.specs.declared.tuple.ThemeAtom.{ThemeAtom}
use Rattle.ded_model.specs.declared.tuple.ThemeAtom.TheVariants.{EqText, NeText, EqSlot, NeSlot}
use Rattle.ded_model.specs.declared.tuple.BothAtom.TheVariants.{Second}
use Rattle.ded_model.proofs.Points.{cond_true}
use Rattle.ded_model.specs.Quoting.{doubled, doubled_byte, quoted}
use Rattle.ded_model.specs.Point.{same_sort}
use Rattle.ded_model.specs.Row.{Atom}
use Rattle.ded_model.specs.Normal.{IsNormalTheme}
use Rattle.ded_lex.specs.Lexemes.{letter_byte, word_byte, quote_byte, BeginsNot}
use Rattle.ded_print.specs.Tuples.{column_names, theme_text}
use Rattle.ded_readback.specs.Plain.{IsWord}
use Rattle.ded_readback.specs.Reading.{◌>>=◌, behind, with_rest, unquoted, text_atom, text_at, slots_atom, side_by, theme_at, atom_by, atom_at}
use Rattle.ded_readback.proofs.Names.{IsNamed, slot_read}
use Rattle.ded_readback.proofs.TermsRead.{lone_read}
use Rattle.ded_readback.proofs.Loops.{byte_kept}

-- ---- quoted texts

quote_closed : (text : List ℕ) (bs : List ℕ) → BeginsNot quote_byte bs → unquoted text true bs ≡ Some (text, bs)
quote_closed text [] h = refl
quote_closed text (b ∷ bs) h = rw h refl

both_quotes : (text : List ℕ) (b : ℕ) (bs : List ℕ) (t : Bool) → (b == 39) ≡ t → unquoted text false ((if t then 39 ∷ 39 ∷ [] else b ∷ []) ++ bs) ≡ unquoted (text ++ b ∷ []) false bs
both_quotes text b bs true e = ap (λ (c : ℕ). unquoted (text ++ c ∷ []) false bs) (sym (eqb-true b 39 e))
both_quotes text b bs false e = byte_kept text false b bs e

pub unquoted_read : (text t rest : List ℕ) → BeginsNot quote_byte rest → unquoted text false (doubled t ++ (39 ∷ rest)) ≡ Some (text ++ t, rest)
unquoted_read text [] rest h = quote_closed text rest h ∙ ap (λ (l : List ℕ). Some (l, rest)) (sym (append-nil text))
unquoted_read text (b ∷ t) rest h =
    ap (unquoted text false) (append_assoc (doubled_byte b) (doubled t) (39 ∷ rest))
    ∙ both_quotes text b (doubled t ++ (39 ∷ rest)) (b == 39) refl
    ∙ unquoted_read (text ++ b ∷ []) t rest h
    ∙ ap (λ (l : List ℕ). Some (l, rest)) (append_assoc text (b ∷ []) t)

-- ---- sides

quoted_read : (h : List Column) (s : Slot) (equal : Bool) (t rest : List ℕ) → BeginsNot quote_byte rest → side_by h s equal (quoted t ++ rest) (behind (codes "'") (quoted t ++ rest)) ≡ Some (text_atom equal s t, rest)
quoted_read h s equal t rest stops =
    ap (text_at equal s) (append_assoc (doubled t) (39 ∷ []) rest)
    ∙ ap (λ (o : Option (List ℕ × List ℕ)). o >>= λ x. Some (text_atom equal s x.0, x.1)) (unquoted_read [] t rest stops)

letter_no_quote : (b : ℕ) → letter_byte b ≡ true → (b == 39) ≡ false
letter_no_quote b h = grind (arith, nat_tests)

word_no_quote : (w rest : List ℕ) → IsWord w → behind (codes "'") (w ++ rest) ≡ None
word_no_quote [] rest h = absurd h.0
word_no_quote (b ∷ w) rest h = rw (letter_no_quote b h.0) refl

is_text : (s : Sort) → s ≡ Text → same_sort s Text ≡ true
is_text s e = rw e refl

two_slots : (equal : Bool) (s t : Slot) → t.sort ≡ Text → s.number < t.number → slots_atom equal s t ≡ Some (if equal then EqSlot s t else NeSlot s t)
two_slots equal s t e l = rw (is_text t.sort e, lt-ltb s.number t.number l) refl

slots_read : (h : List Column) (s : Slot) (equal : Bool) (t : Slot) (rest : List ℕ) → IsNamed h t → t.sort ≡ Text → s.number < t.number → BeginsNot word_byte rest
    → side_by h s equal (column_names h t ++ rest) (behind (codes "'") (column_names h t ++ rest)) ≡ Some ((if equal then EqSlot s t else NeSlot s t), rest)
slots_read h s equal t rest named text less stops =
    let name = column_names h t in
    ap (side_by h s equal (name ++ rest)) (word_no_quote name rest named.word)
    ∙ ap (λ (o : Option (Slot × List ℕ)). o >>= λ u. with_rest u.1 (slots_atom equal s u.0)) (slot_read h t rest named stops)
    ∙ ap (with_rest rest) (two_slots equal s t text less)

-- ---- text atoms

abbrev as_theme : ThemeAtom × List ℕ → Option (Atom × List ℕ)
as_theme a = Some (Second a.0, a.1)

begun : (h : List Column) (s : Slot) (a : ThemeAtom) (after rest : List ℕ) → IsNamed h s → s.sort ≡ Text → BeginsNot word_byte after → theme_at h s after ≡ Some (a, rest) → atom_at h (column_names h s ++ after) ≡ Some (Second a, rest)
begun h s a after rest named text stops read =
    ap (atom_by h (column_names h s ++ after)) (lone_read h s false after named stops)
    ∙ cond_true (same_sort s.sort Text) (theme_at h s after >>= as_theme) _ (is_text s.sort text)
    ∙ ap (λ (o : Option (ThemeAtom × List ℕ)). o >>= as_theme) read

-- the slots of a text atom are named
abbrev pub IsNamedTheme : List Column → ThemeAtom → Type 0
IsNamedTheme h (EqText s t) = IsNamed h s
IsNamedTheme h (NeText s t) = IsNamed h s
IsNamedTheme h (EqSlot s t) = IsNamed h s × IsNamed h t
IsNamedTheme h (NeSlot s t) = IsNamed h s × IsNamed h t

pub theme_read : (h : List Column) (a : ThemeAtom) (rest : List ℕ) → IsNormalTheme a → IsNamedTheme h a → BeginsNot word_byte rest → BeginsNot quote_byte rest
    → atom_at h (theme_text (column_names h) a ++ rest) ≡ Some (Second a, rest)
theme_read h (EqText s t) rest normal named stops closed =
    ap (atom_at h) (append_assoc (column_names h s) (codes " = " ++ quoted t) rest)
    ∙ begun h s (EqText s t) (codes " = " ++ (quoted t ++ rest)) rest named normal.0 refl (quoted_read h s true t rest closed)
theme_read h (NeText s t) rest normal named stops closed =
    ap (atom_at h) (append_assoc (column_names h s) (codes " != " ++ quoted t) rest)
    ∙ begun h s (NeText s t) (codes " != " ++ (quoted t ++ rest)) rest named normal.0 refl (quoted_read h s false t rest closed)
theme_read h (EqSlot s t) rest normal named stops closed =
    ap (atom_at h) (append_assoc (column_names h s) (codes " = " ++ column_names h t) rest)
    ∙ begun h s (EqSlot s t) (codes " = " ++ (column_names h t ++ rest)) rest named.0 normal.0 refl (slots_read h s true t rest named.1 normal.1 normal.2 stops)
theme_read h (NeSlot s t) rest normal named stops closed =
    ap (atom_at h) (append_assoc (column_names h s) (codes " != " ++ column_names h t) rest)
    ∙ begun h s (NeSlot s t) (codes " != " ++ (column_names h t ++ rest)) rest named.0 normal.0 refl (slots_read h s false t rest named.1 normal.1 normal.2 stops)
