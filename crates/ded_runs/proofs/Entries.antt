-- The lines of certificates are worded as entries of the grammar.
use Rattle.std.proofs.Common.{inl, ℕ, suc, ◌^◌, ◌<◌, List, [], ◌∷◌, ◌++◌, map, refl, arith}
use Rattle.std.specs.Prelude.{ℤ, pos, negsuc, unsigned_abs, ◌==◌, ◌||◌, codes}
use Rattle.std.specs.List.{AllByRecursion}
use Rattle.std.proofs.lemmas.Bool.{or_parts}
use Rattle.ded_lex.specs.Lexemes.{word_byte, numeral_byte, BeginsNot, equals_byte, dash_byte}
use Rattle.ded_model.specs.declared.certificate.Entry.{Entry}
use Rattle.ded_model.specs.declared.certificate.Proof.{Proof}
use Rattle.ded_model.specs.declared.certificate.Proof.TheVariants.{Text, Multipliers}
use Rattle.ded_print.specs.Certificates.{multipliers_text, proof_text, entry_line}
use Rattle.ded_print.specs.Numbers.{number_text, integer_text}
use Rattle.ded_terminals.specs.Symbols.{Number, Minus, Colon}
use Rattle.ded_syntax.specs.Certificates.{spell_integer, spell_integers, spell_proof, spell_entry}
use Rattle.ded_cert.specs.Certified.{magnitudes, HasSmallSum}
use Rattle.ded_reread.proofs.Digits.{number_worded, number_begins}
use Rattle.ded_reread.proofs.Worded.{WordedBefore, Worded, Fits, append, then_fitting, then_any, nothing, blank, open_sign, dash, word, each_of}
use Rattle.ded_runs.proofs.Trees.{integer_tree, proof_tree, entry_tree}
use Rattle.ded_reread.proofs.Products.{digit_no_dash}

-- ---- small numbers

abbrev AreSmall : List ℤ → Type 0
AreSmall = AllByRecursion (λ z. unsigned_abs z < 2 ^ 63)

abbrev IsSmallProof : Proof → Type 0
IsSmallProof Text = Unit {0}
IsSmallProof (Multipliers ms) = AreSmall ms

pub record IsSmallEntry (e : Entry) : Type 0 where
  pub first : e.first < 2 ^ 63
  pub second : e.second < 2 ^ 63
  pub proof : HasSmallSum e.proof

each_small : (ms : List ℤ) → magnitudes ms < 2 ^ 63 → AreSmall ms
each_small [] h = tt
each_small (m ∷ ms) h = (omega (arith, h), each_small ms (omega (arith, h)))

small_proof : (p : Proof) → HasSmallSum p → IsSmallProof p
small_proof Text h = tt
small_proof (Multipliers ms) h = each_small ms h

-- ---- integers

integer_worded : (z : ℤ) → unsigned_abs z < 2 ^ 63 → Worded (integer_text z) (spell_integer (integer_tree z))
integer_worded (pos n) h = number_worded n h
integer_worded (negsuc n) h =
    append (BeginsNot dash_byte) Fits (45 ∷ []) (number_text (suc n)) (Minus ∷ []) (Number (number_text (suc n)) ∷ []) dash (λ next k. digit_no_dash (number_text (suc n)) next (number_begins (suc n)))
    (number_worded (suc n) h)

fits_integers : (ms : List ℤ) → Fits (multipliers_text ms)
fits_integers [] = tt
fits_integers (m ∷ ms) = refl

integers_worded : (ms : List ℤ) → AreSmall ms → Worded (multipliers_text ms) (spell_integers (map integer_tree ms))
integers_worded [] h = nothing Fits
integers_worded (m ∷ ms) h =
    then_any Fits (32 ∷ []) (integer_text m ++ multipliers_text ms) [] (spell_integer (integer_tree m) ++ spell_integers (map integer_tree ms)) blank
    (then_fitting (integer_text m) (multipliers_text ms) (spell_integer (integer_tree m)) (spell_integers (map integer_tree ms)) (integer_worded m h.0) (fits_integers ms) (integers_worded ms h.1))

-- ---- proofs

colon : WordedBefore (BeginsNot equals_byte) (codes ":") (Colon ∷ [])
colon = open_sign (codes ":") (inl refl) refl

fits_equals : (next : List ℕ) → Fits next → BeginsNot equals_byte next
fits_equals [] h = tt
fits_equals (b ∷ next) h = (or_parts (b == 61) ((b == 45) || (b == 39)) (or_parts (numeral_byte b) ((b == 61) || ((b == 45) || (b == 39))) h).1).0

no_equals : (ms : List ℤ) (next : List ℕ) → Fits next → BeginsNot equals_byte (multipliers_text ms ++ next)
no_equals [] next h = fits_equals next h
no_equals (m ∷ ms) next h = refl

proof_worded : (p : Proof) → IsSmallProof p → Worded (proof_text p) (spell_proof (proof_tree p))
proof_worded Text h = word (codes "text") refl (each_of word_byte (codes "text") refl) (omega arith)
proof_worded (Multipliers ms) h =
    append (BeginsNot equals_byte) Fits (codes ":") (multipliers_text ms) (Colon ∷ []) (spell_integers (map integer_tree ms)) colon (no_equals ms) (integers_worded ms h)

-- ---- entries

pub entry_worded : (e : Entry) → IsSmallEntry e → Worded (entry_line e) (spell_entry (entry_tree e))
entry_worded e h =
    let p = spell_proof (proof_tree e.proof) in
    let second = Number (number_text e.second) in
    then_fitting (number_text e.first) (32 ∷ (number_text e.second ++ (32 ∷ proof_text e.proof))) (Number (number_text e.first) ∷ []) (second ∷ p) (number_worded e.first h.first) refl
    (then_any Fits (32 ∷ []) (number_text e.second ++ (32 ∷ proof_text e.proof)) [] (second ∷ p) blank
    (then_fitting (number_text e.second) (32 ∷ proof_text e.proof) (second ∷ []) p (number_worded e.second h.second) refl
    (then_any Fits (32 ∷ []) (proof_text e.proof) [] p blank (proof_worded e.proof (small_proof e.proof h.proof)))))
