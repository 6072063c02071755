-- Entries of certificates: what is read is spelled.
use Rattle.std.proofs.Common.{◌≡◌, ℕ, true, false, List, [], ◌∷◌, ◌++◌, map, refl, ap, subst, ◌∙◌}
use Rattle.std.specs.Prelude.{ℤ, Some}
use Rattle.ded_model.specs.declared.certificate.Entry.{Entry}
use Rattle.ded_model.specs.declared.certificate.Proof.{Proof}
use Rattle.ded_model.specs.declared.certificate.Proof.TheVariants.{Multipliers}
use Rattle.ded_grammar.specs.Building.{◌>>=◌}
use Rattle.ded_terminals.specs.declared.item.Keyword.TheVariants as words
use Rattle.ded_terminals.specs.Symbols.{Symbol, number_of, Word, Number, Minus, Colon, CloseBrace}
use Rattle.ded_terminals.specs.Literals.{Reader}
use Rattle.ded_terminals.specs.Operands.{signed}
use Rattle.ded_terminals.specs.OperandReading.{number_at}
use Rattle.ded_terminals.specs.AtomReading.{brace_at}
use Rattle.ded_syntax.specs.Certificates.{Integer, spell_integers, integer_of, ProofTree, by_text, by_rows, spell_proof, proof_of, EntryTree, spell_entry, entry_of}
use Rattle.ded_syntax.specs.CertificateReading.{integers_at, proof_at, entry_by, entry_at}
use Rattle.ded_terminals.proofs.Binds.{bind_some, some_same}
use Rattle.ded_terminals.proofs.ListsRead.{SoundItems}
use Rattle.ded_terminals.proofs.TerminalsSound.{brace_end}

pub number_sound : (ts : List Symbol) (x : List ℕ × List Symbol) → number_at ts ≡ Some x → ts ≡ Number x.0 ∷ x.1
number_sound (Number d ∷ ts) x e = ap (λ (y : List ℕ × List Symbol). Number y.0 ∷ y.1) (some_same _ x e)
number_sound ts x e = absurd cc

-- the integers that are read are spelled
abbrev AreIntegers : Reader → List Symbol → Type 0
AreIntegers value ts = (is : List Integer) × (ts ≡ spell_integers is ++ (integers_at value ts).1) × ((integers_at value ts).0 ≡ map (integer_of value) is)

integers_sound : (value : Reader) (ts : List Symbol) → AreIntegers value ts
integers_sound value (Minus ∷ Number d ∷ ts) =
    let s = integers_sound value ts in
    ((true, d) ∷ s.0, ap (λ (l : List Symbol). Minus ∷ Number d ∷ l) s.1, ap (λ (zs : List ℤ). signed true (value.number (number_of d)) ∷ zs) s.2)
integers_sound value (Number d ∷ ts) =
    let s = integers_sound value ts in
    ((false, d) ∷ s.0, ap (λ (l : List Symbol). Number d ∷ l) s.1, ap (λ (zs : List ℤ). signed false (value.number (number_of d)) ∷ zs) s.2)
integers_sound value ts = ([], refl, refl)

abbrev IsProof : Reader → List Symbol → Proof × List Symbol → Type 0
IsProof value ts x = (p : ProofTree) × (ts ≡ spell_proof p ++ x.1) × (x.0 ≡ proof_of value p)

proof_sound : (value : Reader) (ts : List Symbol) (x : Proof × List Symbol) → proof_at value ts ≡ Some x → IsProof value ts x
proof_sound value (Word words.Text ∷ ts) x e = subst (IsProof value (Word words.Text ∷ ts)) (some_same _ x e) (by_text, refl, refl)
proof_sound value (Colon ∷ ts) x e =
    let s = integers_sound value ts in
    subst (IsProof value (Colon ∷ ts)) (some_same _ x e) (by_rows s.0, ap (λ (l : List Symbol). Colon ∷ l) s.1, ap Multipliers s.2)
proof_sound value ts x e = absurd cc

abbrev IsEntry : Reader → List Symbol → Entry × List Symbol → Type 0
IsEntry value ts x = (e : EntryTree) × (ts ≡ spell_entry e ++ x.1) × (x.0 ≡ entry_of value e)

entry_sound : (value : Reader) (ts : List Symbol) (x : Entry × List Symbol) → entry_at value ts ≡ Some x → IsEntry value ts x
entry_sound value ts x e =
    let m = bind_some (number_at ts) (λ m. number_at m.1 >>= λ n. proof_at value n.1 >>= λ p. Some (entry_by value m.0 n.0 p.0, p.1)) x e in
    let n = bind_some (number_at m.0.1) (λ n. proof_at value n.1 >>= λ p. Some (entry_by value m.0.0 n.0 p.0, p.1)) x m.2 in
    let p = bind_some (proof_at value n.0.1) (λ p. Some (entry_by value m.0.0 n.0.0 p.0, p.1)) x n.2 in
    let s = proof_sound value n.0.1 p.0 p.1 in
    subst (IsEntry value ts) (some_same _ x p.2) (
      record { first = m.0.0; second = n.0.0; proof = s.0 },
      number_sound ts m.0 m.1 ∙ ap (λ (l : List Symbol). Number m.0.0 ∷ l) (number_sound m.0.1 n.0 n.1 ∙ ap (λ (l : List Symbol). Number n.0.0 ∷ l) s.1),
      ap (entry_by value m.0.0 n.0.0) s.2,
    )

pub entries_sound : (value : Reader) → SoundItems spell_entry (entry_of value) (entry_at value) brace_at CloseBrace
entries_sound value = record { item = λ ts x e. entry_sound value ts x e; end = brace_end }
