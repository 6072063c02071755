-- Lines that are added one after another.
use Rattle.std.proofs.Common.{◌≡◌, ℕ, ◌+◌, ◌<◌, ◌≤◌, Bool, true, false, List, [], ◌∷◌, ◌++◌, length, drop, get_or, refl, sym, ap, ◌∙◌, subst, append_assoc, arith}
use Rattle.std.specs.Prelude.{◌==◌, if◌then◌else◌, map, Result, Ok, Err, OnOk}
use Rattle.std.proofs.lemmas.List.{append-nil, drop_all}
use Rattle.ded_print.proofs.Plans.{left_after}
use Rattle.ded_dump.proofs.Loops.{one_part}
use Rattle.ded_session.specs.declared.reply.Reply.{Reply}
use Rattle.ded_session.specs.Answered.{reply_form}
use Rattle.ded_figures.specs.declared.axes.Look.{Look}
use Rattle.ded_picture.proofs.Showing.{none_more}
use Rattle.ded_drawing.specs.Descriptions.{counted, is_unseen, lines_from, lines_of, lines_told, unseen_in}

-- ---- counts

sum_assoc : (a b c : ℕ) → a + (b + c) ≡ (a + b) + c
sum_assoc a b c = omega arith

pub next_count : (look : Look) (rs : List Reply) (i : ℕ) (r : Reply) (whole now next : ℕ) → i < length rs → r ≡ get_or rs i r
    → now + unseen_in look (map reply_form (drop i rs)) ≡ whole → next ≡ now + counted (is_unseen look (reply_form r)) → next + unseen_in look (map reply_form (drop (i + 1) rs)) ≡ whole
next_count look rs i r whole now next there is e put =
    ap (λ (n : ℕ). n + unseen_in look (map reply_form (drop (i + 1) rs))) put
    ∙ sym (sum_assoc now (counted (is_unseen look (reply_form r))) (unseen_in look (map reply_form (drop (i + 1) rs))))
    ∙ subst (λ (l : List Reply). now + unseen_in look (map reply_form l) ≡ whole) (left_after rs i r there is) e

pub all_counted : (look : Look) (rs : List Reply) (i whole now : ℕ) → length rs ≤ i → now + unseen_in look (map reply_form (drop i rs)) ≡ whole → now ≡ whole
all_counted look rs i whole now end e = sym (none_more now) ∙ subst (λ (l : List Reply). now + unseen_in look (map reply_form l) ≡ whole) (drop_all i rs end) e

-- ---- lines

pub next_lines : (rs : List Reply) (i : ℕ) (r : Reply) (whole now next : List (List ℕ)) → i < length rs → r ≡ get_or rs i r
    → now ++ lines_told (map reply_form (drop i rs)) ≡ whole → next ≡ now ++ lines_of (reply_form r) → next ++ lines_told (map reply_form (drop (i + 1) rs)) ≡ whole
next_lines rs i r whole now next there is e put =
    one_part whole now next (lines_of (reply_form r)) (lines_told (map reply_form (drop (i + 1) rs)))
    (subst (λ (l : List Reply). now ++ lines_told (map reply_form l) ≡ whole) (left_after rs i r there is) e) put

pub all_told : (rs : List Reply) (i : ℕ) (whole now : List (List ℕ)) → length rs ≤ i → now ++ lines_told (map reply_form (drop i rs)) ≡ whole → now ≡ whole
all_told rs i whole now end e = sym (append-nil now) ∙ subst (λ (l : List Reply). now ++ lines_told (map reply_form l) ≡ whole) (drop_all i rs end) e

-- lines that are done stand before
pub lines_behind : (done lines : List (List ℕ)) (line text : List ℕ) → lines_from (done ++ lines) line text ≡ done ++ lines_from lines line text
lines_behind done lines [] [] = refl
lines_behind done lines (b ∷ bs) [] = append_assoc done lines ((b ∷ bs) ∷ [])
lines_behind done lines line (b ∷ bs) = by (b == 10) (lines_behind done (lines ++ line ∷ []) [] bs) (lines_behind done lines (line ++ b ∷ []) bs)
  where
    by : (ends : Bool) → lines_from (done ++ (lines ++ line ∷ [])) [] bs ≡ done ++ lines_from (lines ++ line ∷ []) [] bs → lines_from (done ++ lines) (line ++ b ∷ []) bs ≡ done ++ lines_from lines (line ++ b ∷ []) bs
        → (if ends then lines_from ((done ++ lines) ++ line ∷ []) [] bs else lines_from (done ++ lines) (line ++ b ∷ []) bs) ≡ done ++ (if ends then lines_from (lines ++ line ∷ []) [] bs else lines_from lines (line ++ b ∷ []) bs)
    by true e f = ap (λ (l : List (List ℕ)). lines_from l [] bs) (append_assoc done lines (line ∷ [])) ∙ e
    by false e f = f

pub lines_after : (done : List (List ℕ)) (text : List ℕ) → lines_from done [] text ≡ done ++ lines_from [] [] text
lines_after done text = ap (λ (l : List (List ℕ)). lines_from l [] text) (sym (append-nil done)) ∙ lines_behind done [] [] text

-- where the call that cuts the text went well
pub text_lines : {A E : Type 0} (r : Result A E) (done now : List (List ℕ)) (text whole : List ℕ) → text ≡ whole → OnOk r (now ≡ lines_from done [] text) → OnOk r (now ≡ done ++ lines_from [] [] whole)
text_lines (Ok x) done now text whole is e = e ∙ lines_after done text ∙ ap (λ (t : List ℕ). done ++ lines_from [] [] t) is
text_lines (Err x) done now text whole is e = tt
