-- Reading the entries of certificates, as functions on symbols.
use Rattle.std.specs.Prelude.{ℕ, ℤ, true, false, List, [], ◌∷◌, length, Option, Some, None}
use Rattle.ded_model.specs.declared.certificate.Entry.{Entry}
use Rattle.ded_model.specs.declared.certificate.Proof.{Proof}
use Rattle.ded_model.specs.declared.certificate.Proof.TheVariants.{Text, Multipliers}
use Rattle.ded_grammar.specs.Building.{◌>>=◌}
use Rattle.ded_terminals.specs.declared.item.Keyword.TheVariants as words
use Rattle.ded_terminals.specs.Symbols.{Symbol, number_of, Word, Number, Minus, Colon}
use Rattle.ded_terminals.specs.Literals.{Reader}
use Rattle.ded_terminals.specs.Operands.{signed}
use Rattle.ded_terminals.specs.OperandReading.{number_at}
use Rattle.ded_terminals.specs.AtomReading.{brace_at, list_at}

-- reads an integer
abbrev pub integer_at : Reader → List Symbol → Option (ℤ × List Symbol)
integer_at value (Minus ∷ Number d ∷ ts) = Some (signed true (value.number (number_of d)), ts)
integer_at value (Number d ∷ ts) = Some (signed false (value.number (number_of d)), ts)
integer_at value ts = None

-- an integer before others
abbrev pub before : ℤ → List ℤ × List Symbol → List ℤ × List Symbol
before z x = (z ∷ x.0, x.1)

-- as many integers as stand there
abbrev pub integers_at : Reader → List Symbol → List ℤ × List Symbol
integers_at value (Minus ∷ Number d ∷ ts) = before (signed true (value.number (number_of d))) (integers_at value ts)
integers_at value (Number d ∷ ts) = before (signed false (value.number (number_of d))) (integers_at value ts)
integers_at value ts = ([], ts)

-- the integers that were read, as the multipliers of a proof
abbrev pub as_proof : List ℤ × List Symbol → Proof × List Symbol
as_proof x = (Multipliers x.0, x.1)

-- reads a proof: `text`, or a colon and multipliers, of which there may be none
abbrev pub proof_at : Reader → List Symbol → Option (Proof × List Symbol)
proof_at value (Word words.Text ∷ ts) = Some (Text, ts)
proof_at value (Colon ∷ ts) = Some (as_proof (integers_at value ts))
proof_at value ts = None

-- the entry of the digits of two numbers and a proof
abbrev pub entry_by : Reader → List ℕ → List ℕ → Proof → Entry
entry_by value m n p = record { first = value.number (number_of m); second = value.number (number_of n); proof = p }

-- reads an entry: two numbers and a proof
abbrev pub entry_at : Reader → List Symbol → Option (Entry × List Symbol)
entry_at value ts = number_at ts >>= λ m. number_at m.1 >>= λ n. proof_at value n.1 >>= λ p. Some (entry_by value m.0 n.0 p.0, p.1)

-- reads the entries of a certificate, of which there is one at least, and the closing brace
abbrev pub entries_at : Reader → List Symbol → Option (List Entry × List Symbol)
entries_at value ts = list_at (entry_at value) brace_at (length ts) ts
