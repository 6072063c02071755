-- Lists of certificates are told line by line.
use Rattle.std.proofs.Common.{◌≡◌, ℕ, suc, arith, List, [], ◌∷◌, ◌++◌, length, map, true, refl, sym, ap, ap₂, ◌∙◌, append_assoc}
use Rattle.std.specs.Prelude.{ℤ, pos, negsuc, codes}
use Rattle.std.proofs.lemmas.List.{append_cancel_left}
use Rattle.ded_model.specs.declared.certificate.Entry.{Entry}
use Rattle.ded_model.specs.declared.certificate.Proof.{Proof}
use Rattle.ded_model.specs.declared.certificate.Proof.TheVariants.{Text, Multipliers}
use Rattle.ded_print.specs.Certificates.{multipliers_text, proof_text, entry_line, apart_text}
use Rattle.ded_print.specs.Lines.{line_text, lines_text, meeting_text, is_one_line}
use Rattle.ded_print.specs.Numbers.{number_text, integer_text}
use Rattle.ded_print.proofs.LineReplies.{both_lines, number_line, same_line}
use Rattle.ded_print.proofs.Numerals.{same_number}
use Rattle.ded_print.proofs.Runs.{first}

-- ---- lines without line feeds

pub integer_line : (z : ℤ) → is_one_line (integer_text z) ≡ true
integer_line (pos n) = number_line n
integer_line (negsuc n) = number_line (suc n)

pub multipliers_line : (ms : List ℤ) → is_one_line (multipliers_text ms) ≡ true
multipliers_line [] = refl
multipliers_line (m ∷ ms) = both_lines (integer_text m) (multipliers_text ms) (integer_line m) (multipliers_line ms)

pub proof_line : (proof : Proof) → is_one_line (proof_text proof) ≡ true
proof_line Text = refl
proof_line (Multipliers ms) = multipliers_line ms

pub entry_is_line : (e : Entry) → is_one_line (entry_line e) ≡ true
entry_is_line e =
    both_lines (number_text e.first) (32 ∷ (number_text e.second ++ (32 ∷ proof_text e.proof))) (number_line e.first)
    (both_lines (number_text e.second) (32 ∷ proof_text e.proof) (number_line e.second) (proof_line e.proof))

-- as many lines that begin the same bytes are the same
same_lines : (es fs : List Entry) (xs ys : List ℕ) → length es ≡ length fs → lines_text (map entry_line es) ++ xs ≡ lines_text (map entry_line fs) ++ ys
    → (lines_text (map entry_line es) ≡ lines_text (map entry_line fs)) × (xs ≡ ys)
same_lines [] [] xs ys k e = (refl, e)
same_lines [] (f ∷ fs) xs ys k e = absurd (omega (arith, k))
same_lines (e ∷ es) [] xs ys k t = absurd (omega (arith, k))
same_lines (e ∷ es) (f ∷ fs) xs ys k t =
    let left = append_assoc (line_text (entry_line e)) (lines_text (map entry_line es)) xs ∙ append_assoc (entry_line e) (10 ∷ []) (lines_text (map entry_line es) ++ xs) in
    let right = append_assoc (line_text (entry_line f)) (lines_text (map entry_line fs)) ys ∙ append_assoc (entry_line f) (10 ∷ []) (lines_text (map entry_line fs) ++ ys) in
    let one = same_line (entry_line e) (entry_line f) (lines_text (map entry_line es) ++ xs) (lines_text (map entry_line fs) ++ ys) (entry_is_line e) (entry_is_line f) (sym left ∙ t ∙ right) in
    let rest = same_lines es fs xs ys (omega (arith, k)) one.1 in
    (ap₂ (λ (a b : List ℕ). line_text a ++ b) one.0 rest.0, rest.1)

-- ---- whole lists

head_line : ℕ → List ℕ
head_line n = codes "apart" ++ (32 ∷ number_text n)

head_is_line : (n : ℕ) → is_one_line (head_line n) ≡ true
unfolding head_line
head_is_line n = number_line n

split : (es : List Entry) (xs : List ℕ) → apart_text es ++ xs ≡ head_line (length es) ++ (10 ∷ (lines_text (map entry_line es) ++ (line_text (codes "end") ++ xs)))
unfolding head_line
split es xs =
    let body = lines_text (map entry_line es) in
    let ending = line_text (codes "end") in
    append_assoc (line_text (head_line (length es))) (body ++ ending) xs
    ∙ append_assoc (head_line (length es)) (10 ∷ []) ((body ++ ending) ++ xs)
    ∙ ap (λ z. head_line (length es) ++ (10 ∷ z)) (append_assoc body ending xs)

pub one_list : (es fs : List Entry) (xs ys : List ℕ) → apart_text es ++ xs ≡ apart_text fs ++ ys → (apart_text es ≡ apart_text fs) × (xs ≡ ys)
unfolding head_line
one_list es fs xs ys e =
    let ending = line_text (codes "end") in
    let heads = same_line (head_line (length es)) (head_line (length fs)) _ _ (head_is_line (length es)) (head_is_line (length fs)) (sym (split es xs) ∙ e ∙ split fs ys) in
    let count : length es ≡ length fs = same_number (length es) (length fs) (append_cancel_left (codes "apart ") (number_text (length es)) (number_text (length fs)) heads.0) in
    let bodies = same_lines es fs (ending ++ xs) (ending ++ ys) count heads.1 in
    (ap₂ (λ (a b : List ℕ). line_text a ++ (b ++ ending)) heads.0 bodies.0, append_cancel_left ending xs ys bodies.1)

pub no_meeting : (es : List Entry) (i j : ℕ) (xs ys : List ℕ) → apart_text es ++ xs ≡ meeting_text i j ++ ys → ⊥
no_meeting es i j xs ys e = absurd (omega (arith, ap first e))
