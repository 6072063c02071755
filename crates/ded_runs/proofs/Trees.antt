-- The trees of the grammar that certificates are printed as, and what is read of these.
use Rattle.std.proofs.Common.{◌≡◌, ℕ, suc, true, false, List, [], ◌∷◌, map, refl, sym, ap, ap₂, ◌∙◌}
use Rattle.std.specs.Prelude.{ℤ, pos, negsuc}
use Rattle.ded_model.specs.declared.certificate.Entry.{Entry}
use Rattle.ded_model.specs.declared.certificate.Proof.{Proof}
use Rattle.ded_model.specs.declared.certificate.Proof.TheVariants.{Text, Multipliers}
use Rattle.ded_model.specs.Command.{verify}
use Rattle.ded_print.specs.Numbers.{number_text}
use Rattle.ded_terminals.specs.Symbols.{number_of}
use Rattle.ded_terminals.specs.Literals.{Reader}
use Rattle.ded_terminals.specs.Operands.{signed}
use Rattle.ded_syntax.specs.Certificates.{Integer, integer_of, ProofTree, by_text, by_rows, proof_of, EntryTree, entry_of}
use Rattle.ded_syntax.specs.Commands.{Plain, verifies_none, verifies, plain_form}
use Rattle.ded_reread.proofs.Digits.{number_back}

abbrev pub integer_tree : ℤ → Integer
integer_tree (pos n) = (false, number_text n)
integer_tree (negsuc n) = (true, number_text (suc n))

abbrev pub proof_tree : Proof → ProofTree
proof_tree Text = by_text
proof_tree (Multipliers ms) = by_rows (map integer_tree ms)

abbrev pub entry_tree : Entry → EntryTree
entry_tree e = record { first = number_text e.first; second = number_text e.second; proof = proof_tree e.proof }

abbrev pub verify_tree : List ℕ → List ℕ → List Entry → Plain
verify_tree n m [] = verifies_none n m
verify_tree n m (e ∷ es) = verifies n m (entry_tree e) (map entry_tree es)

-- ---- what is read of them

abbrev pub entry_with : ℕ → ℕ → Proof → Entry
entry_with i j p = record { first = i; second = j; proof = p }

module _ (value : Reader) (same : (n : ℕ) → value.number n ≡ n) where
  number_same : (n : ℕ) → value.number (number_of (number_text n)) ≡ n
  number_same n = same (number_of (number_text n)) ∙ number_back n

  integer_back : (z : ℤ) → integer_of value (integer_tree z) ≡ z
  integer_back (pos n) = ap (signed false) (number_same n)
  integer_back (negsuc n) = ap (signed true) (number_same (suc n))

  integers_back : (ms : List ℤ) → map (integer_of value) (map integer_tree ms) ≡ ms
  integers_back [] = refl
  integers_back (m ∷ ms) = ap₂ (λ (z : ℤ) (zs : List ℤ). z ∷ zs) (integer_back m) (integers_back ms)

  proof_back : (p : Proof) → proof_of value (proof_tree p) ≡ p
  proof_back Text = refl
  proof_back (Multipliers ms) = ap (λ (zs : List ℤ). Multipliers zs) (integers_back ms)

  entry_back : (e : Entry) → entry_of value (entry_tree e) ≡ e
  entry_back e =
      ap (λ (k : ℕ). entry_with k (value.number (number_of (number_text e.second))) (proof_of value (proof_tree e.proof))) (number_same e.first)
      ∙ ap₂ (λ (k : ℕ) (p : Proof). entry_with e.first k p) (number_same e.second) (proof_back e.proof)

  entries_back : (es : List Entry) → map (entry_of value) (map entry_tree es) ≡ es
  entries_back [] = refl
  entries_back (e ∷ es) = ap₂ (λ (x : Entry) (xs : List Entry). x ∷ xs) (entry_back e) (entries_back es)

  pub verify_back : (n m : List ℕ) (es : List Entry) → verify n m es ≡ plain_form value (verify_tree n m es)
  verify_back n m [] = refl
  verify_back n m (e ∷ es) = ap (verify n m) (sym (ap₂ (λ (x : Entry) (xs : List Entry). x ∷ xs) (entry_back e) (entries_back es)))
