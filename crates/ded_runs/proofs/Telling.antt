-- The lines of a reply are told, and what is printed of certificates tells them.
use Rattle.std.proofs.Common.{◌≡◌, ℕ, true, List, [], ◌∷◌, ◌++◌, length, length-append, map, refl, sym, subst, ap, ap₂, ◌∙◌, append_assoc, arith}
use Rattle.std.specs.Prelude.{ℤ, codes}
use Rattle.std.specs.List.{AllByRecursion}
use Rattle.ded_model.specs.declared.certificate.Entry.{Entry}
use Rattle.ded_model.specs.declared.certificate.Proof.{Proof}
use Rattle.ded_model.specs.declared.certificate.Proof.TheVariants.{Text, Multipliers}
use Rattle.ded_print.specs.Certificates.{multipliers_text, proof_text, entry_line, apart_text}
use Rattle.ded_print.specs.Lines.{line_text, lines_text, is_one_line}
use Rattle.ded_print.specs.Numbers.{number_text}
use Rattle.ded_print.proofs.LineReplies.{number_line, same_line}
use Rattle.ded_print.proofs.Runs.{Ends, Digit, behind, first, no_byte, same_integers, same_numbers, tails}
use Rattle.ded_print.proofs.CertificatesTold.{entry_is_line}
use Rattle.ded_runs.specs.Lines.{HasLines}
use Rattle.ded_runs.proofs.Trees.{entry_with}

-- ---- lines without line feeds

entries_are_lines : (es : List Entry) → AllByRecursion (λ line. is_one_line line ≡ true) (map entry_line es)
entries_are_lines [] = tt
entries_are_lines (e ∷ es) = (entry_is_line e, entries_are_lines es)

pub printed : (es : List Entry) → HasLines (apart_text es) (map entry_line es)
printed es = record {
  first = codes "apart" ++ (32 ∷ number_text (length es));
  is = refl;
  one = number_line (length es);
  each = entries_are_lines es;
}

-- ---- one list of lines

first_same : (k l xs ys : List ℕ) → is_one_line k ≡ true → is_one_line l ≡ true → line_text k ++ xs ≡ line_text l ++ ys → (k ≡ l) × (xs ≡ ys)
first_same k l xs ys one other e = same_line k l xs ys one other (sym (append_assoc k (10 ∷ []) xs) ∙ e ∙ append_assoc l (10 ∷ []) ys)

not_longer : (l : List ℕ) (ls : List (List ℕ)) (end : List ℕ) → end ≡ lines_text (l ∷ ls) ++ end → ⊥
not_longer l ls end e =
    let lengths = ap length e in
    let whole = length-append (line_text l ++ lines_text ls) end in
    let front = length-append (line_text l) (lines_text ls) in
    let line = length-append l (10 ∷ []) in
    absurd (omega (arith, lengths, whole, front, line))

rest_same : (ks ls : List (List ℕ)) (end : List ℕ) → AllByRecursion (λ line. is_one_line line ≡ true) ks → AllByRecursion (λ line. is_one_line line ≡ true) ls → lines_text ks ++ end ≡ lines_text ls ++ end → ks ≡ ls
rest_same [] [] end p q e = refl
rest_same [] (l ∷ ls) end p q e = absurd (not_longer l ls end e)
rest_same (k ∷ ks) [] end p q e = absurd (not_longer k ks end (sym e))
rest_same (k ∷ ks) (l ∷ ls) end p q e =
    let one = first_same k l (lines_text ks ++ end) (lines_text ls ++ end) p.0 q.0 (sym (append_assoc (line_text k) (lines_text ks) end) ∙ e ∙ append_assoc (line_text l) (lines_text ls) end) in
    ap₂ (λ (x : List ℕ) (xs : List (List ℕ)). x ∷ xs) one.0 (rest_same ks ls end p.1 q.1 one.1)

pub one_list : (text : List ℕ) (these those : List (List ℕ)) → HasLines text these → HasLines text those → these ≡ those
one_list text these those h k =
    let end = line_text (codes "end") in
    let rest = first_same h.first k.first (lines_text these ++ end) (lines_text those ++ end) h.one k.one (sym h.is ∙ k.is) in
    rest_same these those end h.each k.each rest.1

-- ---- what the lines tell

ends : (ms : List ℤ) → Ends Digit (multipliers_text ms)
ends [] = tt
ends (m ∷ ms) = λ d. omega (arith, d.0)

same_multipliers : (ms ks : List ℤ) → multipliers_text ms ≡ multipliers_text ks → ms ≡ ks
same_multipliers [] [] e = refl
same_multipliers [] (k ∷ ks) e = absurd (no_byte e)
same_multipliers (m ∷ ms) [] e = absurd (no_byte (sym e))
same_multipliers (m ∷ ms) (k ∷ ks) e =
    let r = same_integers m k (multipliers_text ms) (multipliers_text ks) (ends ms) (ends ks) (tails e).1 in
    ap₂ (λ (z : ℤ) (zs : List ℤ). z ∷ zs) r.0 (same_multipliers ms ks r.1)

same_proof : (p q : Proof) → proof_text p ≡ proof_text q → p ≡ q
same_proof Text Text e = refl
same_proof Text (Multipliers ks) e = absurd (omega (arith, ap first e))
same_proof (Multipliers ms) Text e = absurd (omega (arith, ap first e))
same_proof (Multipliers ms) (Multipliers ks) e = ap (λ (zs : List ℤ). Multipliers zs) (same_multipliers ms ks (behind (codes ":") (multipliers_text ms) (multipliers_text ks) e))

same_entry : (e f : Entry) → entry_line e ≡ entry_line f → e ≡ f
same_entry e f h =
    let one = same_numbers e.first f.first (32 ∷ (number_text e.second ++ (32 ∷ proof_text e.proof))) (32 ∷ (number_text f.second ++ (32 ∷ proof_text f.proof))) (λ d. omega (arith, d.0)) (λ d. omega (arith, d.0)) h in
    let two = same_numbers e.second f.second (32 ∷ proof_text e.proof) (32 ∷ proof_text f.proof) (λ d. omega (arith, d.0)) (λ d. omega (arith, d.0)) (tails one.1).1 in
    let three = same_proof e.proof f.proof (tails two.1).1 in
    ap₂ (λ (i j : ℕ). entry_with i j e.proof) one.0 two.0 ∙ ap (entry_with f.first f.second) three

same_entries : (es fs : List Entry) → map entry_line es ≡ map entry_line fs → es ≡ fs
same_entries [] [] e = refl
same_entries [] (f ∷ fs) e = cc
same_entries (e ∷ es) [] h = cc
same_entries (e ∷ es) (f ∷ fs) h =
    let one : entry_line e ≡ entry_line f = cc in
    let more : map entry_line es ≡ map entry_line fs = cc in
    ap₂ (λ (x : Entry) (xs : List Entry). x ∷ xs) (same_entry e f one) (same_entries es fs more)

pub told : (es fs : List Entry) → apart_text es ≡ apart_text fs → es ≡ fs
told es fs e = same_entries es fs (one_list (apart_text fs) (map entry_line es) (map entry_line fs) (subst (λ (t : List ℕ). HasLines t (map entry_line es)) e (printed es)) (printed fs))
