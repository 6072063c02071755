-- The names of slots are read back.
use Rattle.std.proofs.Common.{◌≡◌, ℕ, zero, suc, ◌+◌, ◌^◌, ◌<◌, ◌≤◌, List, [], ◌∷◌, ◌++◌, length, take, drop, refl, sym, ap, ◌∙◌, subst, arith, true, false, bytes_eq, ⊎_elim}
use Rattle.std.specs.Prelude.{Some, None, ◌==◌, nat_lt}
use Rattle.std.specs.List.{list_any, AllByRecursion}
use Rattle.std.proofs.lemmas.Bool.Decides.{nat_tests}
use Rattle.std.proofs.lemmas.Bool.{or_cases, or_parts}
use Rattle.std.proofs.Math.Seq.{take-append_seam, drop-append_seam}
use Rattle.ded_model.specs.declared.slot.Sort.{Sort}
use Rattle.ded_model.specs.declared.slot.Slot.{Slot}
use Rattle.ded_model.specs.declared.name.Column.{Column}
use Rattle.ded_model.specs.Point.{same_slot, stands_in}
use Rattle.ded_model.proofs.Points.{same_slot_is}
use Rattle.ded_model.specs.Known.{has_twice, heading_slots}
use Rattle.ded_lex.specs.Lexemes.{digit_byte, letter_byte, word_byte, BeginsWith, BeginsNot}
use Rattle.ded_lex.proofs.Rests.{word_found}
use Rattle.ded_print.specs.Tuples.{column_at, column_names}
use Rattle.ded_readback.specs.Plain.{IsWord, IsPlainHeading}
use Rattle.ded_readback.specs.Reading.{with_rest, numbered, column_slot, slot_at}
use Rattle.ded_model.proofs.Bools.{bytes_eq-refl}
use Rattle.ded_print.proofs.Shared.{other_name}

-- ---- columns

-- the slot is column number k of these, counted from i on, and found by its name
pub record IsColumn (i : ℕ) (h : List Column) (s : Slot) : Type 0 where
  pub place : ℕ
  pub number : s.number ≡ i + place
  pub within : place < length h
  pub found : column_slot i h (column_at h place) ≡ Some s

numbered_is : (i : ℕ) (x : Sort) → i < 2 ^ 32 → numbered i x ≡ Some (record { number = i; sort = x })
numbered_is i x l = let e : nat_lt i (2 ^ 32) ≡ true = grind (arith, nat_tests) in rw e refl

here : (i : ℕ) (c : Column) (cs : List Column) (s : Slot) → i < 2 ^ 32 → record { number = i; sort = c.sort } ≡ s → IsColumn i (c ∷ cs) s
here i c cs s l e = record {
  place = 0;
  number = ap (λ (t : Slot). t.number) (sym e) ∙ omega arith;
  within = omega arith;
  found = rw (bytes_eq-refl c.name) (numbered_is i c.sort l ∙ ap (λ (t : Slot). Some t) e);
}

further : (i : ℕ) (c : Column) (cs : List Column) (s : Slot) → list_any (λ d. bytes_eq c.name d.name) cs ≡ false → IsColumn (i + 1) cs s → IsColumn i (c ∷ cs) s
further i c cs s once k = record {
  place = suc k.place;
  number = omega (arith, k.number);
  within = omega (arith, k.within);
  found = rw (other_name c.name cs k.place k.within once) k.found;
}

pub is_column : (i : ℕ) (h : List Column) (s : Slot) → has_twice h ≡ false → i + length h ≤ 2 ^ 32 → stands_in (heading_slots i h) s ≡ true → IsColumn i h s
is_column i [] s once few e = absurd cc
is_column i (c ∷ cs) s once few e =
    let parts = or_parts (list_any (λ d. bytes_eq c.name d.name) cs) (has_twice cs) once in
    ⊎_elim
    (λ e. here i c cs s (omega (arith, few)) (same_slot_is (record { number = i; sort = c.sort }) s e))
    (λ e. further i c cs s parts.0 (is_column (i + 1) cs s parts.1 (omega (arith, few)) e))
    (or_cases (same_slot (record { number = i; sort = c.sort }) s) (stands_in (heading_slots (i + 1) cs) s) e)

-- ---- words

word_there : (h : List Column) (k : ℕ) → k < length h → AllByRecursion (λ c. IsWord c.name) h → IsWord (column_at h k)
word_there [] k l words = absurd (omega (arith, l))
word_there (c ∷ cs) zero l words = words.0
word_there (c ∷ cs) (suc k) l words = word_there cs k (omega (arith, l)) words.1

-- the slot has a word for a name, by which it is found
pub record IsNamed (h : List Column) (s : Slot) : Type 0 where
  pub word : IsWord (column_names h s)
  pub found : column_slot 0 h (column_names h s) ≡ Some s

pub named : (h : List Column) (s : Slot) → IsPlainHeading h → stands_in (heading_slots 0 h) s ≡ true → IsNamed h s
named h s plain over =
    let c = is_column 0 h s plain.once (omega (arith, plain.few)) over in
    let same : c.place ≡ s.number = sym (omega (arith, c.number)) in
    record {
      word = subst (λ k. IsWord (column_at h k)) same (word_there h c.place c.within plain.words);
      found = subst (λ k. column_slot 0 h (column_at h k) ≡ Some s) same c.found;
    }

-- the name of a slot is read
pub slot_read : (h : List Column) (s : Slot) (rest : List ℕ) → IsNamed h s → BeginsNot word_byte rest → slot_at h (column_names h s ++ rest) ≡ Some (s, rest)
slot_read h s rest n stops =
    let name = column_names h s in
    ap (λ (k : ℕ). with_rest (drop k (name ++ rest)) (column_slot 0 h (take k (name ++ rest)))) (word_found name rest n.word.1 stops)
    ∙ ap (λ (w : List ℕ). with_rest (drop (length name) (name ++ rest)) (column_slot 0 h w)) (take-append_seam name rest)
    ∙ ap (λ (l : List ℕ). with_rest l (column_slot 0 h name)) (drop-append_seam name rest)
    ∙ ap (with_rest rest) n.found

-- ---- what begins with a digit is no name

no_letter : (b c : ℕ) → letter_byte c ≡ true → digit_byte b ≡ true → (c == b) ≡ false
no_letter b c h k = grind (arith, nat_tests)

pub other_word : (w ds : List ℕ) → IsWord w → BeginsWith digit_byte ds → bytes_eq w ds ≡ false
other_word [] ds word begins = absurd word.0
other_word (c ∷ cs) [] word begins = absurd begins
other_word (c ∷ cs) (b ∷ bs) word begins = rw (no_letter b c word.0 begins) refl

pub no_column : (i : ℕ) (h : List Column) (ds : List ℕ) → AllByRecursion (λ c. IsWord c.name) h → BeginsWith digit_byte ds → column_slot i h ds ≡ None
no_column i [] ds words begins = refl
no_column i (c ∷ cs) ds words begins = rw (other_word c.name ds words.0 begins) (no_column (i + 1) cs ds words.1 begins)
