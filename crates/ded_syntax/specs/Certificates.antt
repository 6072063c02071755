-- The grammar of the entries of certificates.
use Rattle.std.specs.Prelude.{ℕ, ℤ, Bool, true, false, List, [], ◌∷◌, ◌++◌, map}
use Rattle.ded_model.specs.declared.certificate.Entry.{Entry}
use Rattle.ded_model.specs.declared.certificate.Proof.{Proof}
use Rattle.ded_model.specs.declared.certificate.Proof.TheVariants.{Text, Multipliers}
use Rattle.ded_terminals.specs.declared.item.Keyword.TheVariants as words
use Rattle.ded_terminals.specs.Symbols.{Symbol, number_of, Word, Number, Minus, Colon}
use Rattle.ded_terminals.specs.Literals.{Reader}
use Rattle.ded_terminals.specs.Operands.{signed}

-- integer = [ "-" ] number
-- A number with true has the sign.
abbrev pub Integer : Type 0
Integer = Bool × List ℕ

-- the symbols of an integer
abbrev pub spell_integer : Integer → List Symbol
spell_integer (true, d) = Minus ∷ Number d ∷ []
spell_integer (false, d) = Number d ∷ []

-- the value of an integer
abbrev pub integer_of : Reader → Integer → ℤ
integer_of value i = signed i.0 (value.number (number_of i.1))

-- the symbols of integers, one integer after another
abbrev pub spell_integers : List Integer → List Symbol
spell_integers [] = []
spell_integers (i ∷ is) = spell_integer i ++ spell_integers is

-- proof = "text" | ":" integer*
pub data ProofTree : Type 0 where
  by_text : ProofTree
  by_rows : List Integer → ProofTree

-- the symbols of a proof
abbrev pub spell_proof : ProofTree → List Symbol
spell_proof by_text = Word words.Text ∷ []
spell_proof (by_rows is) = Colon ∷ spell_integers is

-- the proof that is spelled
abbrev pub proof_of : Reader → ProofTree → Proof
proof_of value by_text = Text
proof_of value (by_rows is) = Multipliers (map (integer_of value) is)

-- entry = number number proof
pub record EntryTree : Type 0 where
  pub first : List ℕ
  pub second : List ℕ
  pub proof : ProofTree

-- the symbols of an entry
abbrev pub spell_entry : EntryTree → List Symbol
spell_entry e = Number e.first ∷ Number e.second ∷ spell_proof e.proof

-- the entry that is spelled
abbrev pub entry_of : Reader → EntryTree → Entry
entry_of value e = record { first = value.number (number_of e.first); second = value.number (number_of e.second); proof = proof_of value e.proof }
