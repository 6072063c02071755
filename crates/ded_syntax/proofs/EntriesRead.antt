-- Entries of certificates: what is spelled is read.
use Rattle.std.proofs.Common.{◌≡◌, true, false, List, [], ◌∷◌, ◌++◌, length, map, refl, ap}
use Rattle.std.specs.Prelude.{ℤ, Option, Some}
use Rattle.ded_model.specs.declared.certificate.Proof.{Proof}
use Rattle.ded_grammar.specs.Building.{◌>>=◌}
use Rattle.ded_terminals.specs.Symbols.{Symbol, number_of, OpenBrace, CloseBrace, Comma}
use Rattle.ded_terminals.specs.Literals.{Reader}
use Rattle.ded_terminals.specs.Operands.{signed}
use Rattle.ded_terminals.specs.Atoms.{spell_rest}
use Rattle.ded_terminals.specs.AtomReading.{brace_at}
use Rattle.ded_syntax.specs.Certificates.{Integer, spell_integers, integer_of, ProofTree, by_text, by_rows, spell_proof, proof_of, EntryTree, spell_entry, entry_of}
use Rattle.ded_syntax.specs.CertificateReading.{before, integers_at, as_proof, proof_at, entry_by, entry_at}
use Rattle.ded_syntax.specs.CommandReading.{certificate_at}
use Rattle.ded_terminals.proofs.ListsRead.{ReadsItems, list_read, few_items}

-- before a symbol with which no integer begins
module _ (value : Reader) (t : Symbol) (rest : List Symbol) (stops : integers_at value (t ∷ rest) ≡ ([], t ∷ rest)) where
  integers_read : (is : List Integer) → integers_at value (spell_integers is ++ (t ∷ rest)) ≡ (map (integer_of value) is, t ∷ rest)
  integers_read [] = stops
  integers_read ((true, d) ∷ is) = ap (before (signed true (value.number (number_of d)))) (integers_read is)
  integers_read ((false, d) ∷ is) = ap (before (signed false (value.number (number_of d)))) (integers_read is)

  proof_read : (p : ProofTree) → proof_at value (spell_proof p ++ (t ∷ rest)) ≡ Some (proof_of value p, t ∷ rest)
  proof_read by_text = refl
  proof_read (by_rows is) = ap (λ (x : List ℤ × List Symbol). Some (as_proof x)) (integers_read is)

  entry_read : (e : EntryTree) → entry_at value (spell_entry e ++ (t ∷ rest)) ≡ Some (entry_of value e, t ∷ rest)
  entry_read e = ap (λ (o : Option (Proof × List Symbol)). o >>= λ p. Some (entry_by value e.first e.second p.0, p.1)) (proof_read e.proof)

entries_listed : (value : Reader) → ReadsItems spell_entry (entry_of value) (entry_at value) brace_at CloseBrace
entries_listed value = record {
  before_comma = λ e rest. entry_read value Comma rest refl e;
  before_close = λ e rest. entry_read value CloseBrace rest refl e;
  goes_on = λ rest. refl;
  stops = λ rest. refl;
}

pub certificate_read : (value : Reader) (e : EntryTree) (es : List EntryTree) → certificate_at value (OpenBrace ∷ spell_entry e ++ (spell_rest spell_entry es ++ CloseBrace ∷ [])) ≡ Some (entry_of value e ∷ map (entry_of value) es, [])
certificate_read value e es =
    list_read spell_entry (entry_of value) (entry_at value) brace_at CloseBrace (entries_listed value) es e []
    (length (spell_entry e ++ (spell_rest spell_entry es ++ CloseBrace ∷ [])))
    (few_items spell_entry (entry_of value) (entry_at value) brace_at CloseBrace e es [])
