-- A reply's text ends at its one line feed.
use Rattle.std.proofs.Common.{◌≡◌, ◌≢◌, ℕ, zero, suc, ◌+◌, ◌/◌, ◌%◌, ◌^◌, ◌<◌, List, [], ◌∷◌, ◌++◌, refl, sym, ap, ◌∙◌, ⊎_elim, append_assoc, arith, Bool, true, false}
use Rattle.std.specs.Prelude.{if◌then◌else◌, ◌==◌, nat_lt}
use Rattle.std.specs.Fmt.{digit_glyph, digits_onto}
use Rattle.std.proofs.lemmas.Bool.Decides.{eqb_tells}
use Rattle.ded_model.specs.declared.command.Refusal.{Refusal}
use Rattle.ded_model.specs.declared.command.Refusal.TheVariants.{LongStatement, Unfinished, Syntax, LongName, LongNumber, Deep, Many, Twice, Unknown, Taken, Kind, Arity, Unbound, WrongSort, Used, NoTuple, Full, Spent, Level, Wide, Memory}
use Rattle.ded_print.specs.Lines.{LineReply, done, truth, numbered, met, refused, reply_line, reply_text, refusal_line, meeting_line, is_one_line}
use Rattle.ded_print.specs.Numbers.{number_text}
use Rattle.ded_print.proofs.Runs.{tails}
use Rattle.ded_print.proofs.Gathering.{differ}

-- ---- what has no line feed

-- a byte that is no line feed, before bytes that have none
one_more : (b : ℕ) (bs : List ℕ) → (b == 10) ≡ false → is_one_line bs ≡ true → is_one_line (b ∷ bs) ≡ true
one_more b bs other line = rw other line

no_feed : (b : ℕ) → 10 < b → (b == 10) ≡ false
no_feed b more = ⊎_elim (λ e. absurd (omega (arith, more, e.1))) (λ e. e.0) (eqb_tells b 10)

glyph_above : (t : Bool) (d : ℕ) → 10 < (if t then 48 + d else (if false then 55 + d else 87 + d))
glyph_above true d = omega arith
glyph_above false d = omega arith

either_line : (t : Bool) (a b : List ℕ) → is_one_line a ≡ true → is_one_line b ≡ true → is_one_line (if t then a else b) ≡ true
either_line true a b ha hb = ha
either_line false a b ha hb = hb

digits_line : (k n : ℕ) (acc : List ℕ) → is_one_line acc ≡ true → is_one_line (digits_onto k 10 false n acc) ≡ true
digits_line zero n acc line = line
digits_line (suc k) n acc line =
    let more : is_one_line (digit_glyph false (n % 10) ∷ acc) ≡ true = one_more (digit_glyph false (n % 10)) acc (no_feed (digit_glyph false (n % 10)) (glyph_above (nat_lt (n % 10) 10) (n % 10))) line in
    either_line (n / 10 == 0) _ _ more (digits_line k (n / 10) _ more)

pub number_line : (n : ℕ) → is_one_line (number_text n) ≡ true
unfolding number_text
number_line n = digits_line (64 + n / 10 ^ 64) n [] refl

refusal_lines : (r : Refusal) → is_one_line (refusal_line r) ≡ true
unfolding number_text
refusal_lines LongStatement = refl
refusal_lines Unfinished = refl
refusal_lines Syntax = refl
refusal_lines LongName = refl
refusal_lines LongNumber = refl
refusal_lines Deep = refl
refusal_lines Many = refl
refusal_lines Twice = refl
refusal_lines Unknown = refl
refusal_lines Taken = refl
refusal_lines Kind = refl
refusal_lines Arity = refl
refusal_lines Unbound = refl
refusal_lines WrongSort = refl
refusal_lines Used = refl
refusal_lines NoTuple = refl
refusal_lines Full = refl
refusal_lines Spent = refl
refusal_lines Level = refl
refusal_lines Wide = refl
refusal_lines Memory = refl

not_feed : (b : ℕ) (bs : List ℕ) → is_one_line (b ∷ bs) ≡ true → (b ≢ 10) × (is_one_line bs ≡ true)
not_feed b bs h = ⊎_elim (λ e. let f = rw e.0 at h in absurd (differ f)) (λ e. let f = rw e.0 at h in (e.1, f)) (eqb_tells b 10)

pub both_lines : (p q : List ℕ) → is_one_line p ≡ true → is_one_line q ≡ true → is_one_line (p ++ q) ≡ true
both_lines [] q hp hq = hq
both_lines (b ∷ p) q hp hq = let h = not_feed b p hp in one_more b (p ++ q) (other b h.0) (both_lines p q h.1 hq)
  where
    other : (b : ℕ) → b ≢ 10 → (b == 10) ≡ false
    other b n = ⊎_elim (λ e. absurd (n e.1)) (λ e. e.0) (eqb_tells b 10)

pub meeting_is_line : (i j : ℕ) → is_one_line (meeting_line i j) ≡ true
meeting_is_line i j = both_lines (number_text i) (32 ∷ number_text j) (number_line i) (number_line j)

pub lines : (reply : LineReply) → is_one_line (reply_line reply) ≡ true
lines done = refl
lines (truth true) = refl
lines (truth false) = refl
lines (numbered k) = number_line k
lines (met i j) = meeting_is_line i j
lines (refused r) = refusal_lines r

-- ---- where lines end

-- two lines that begin the same bytes are the same
pub same_line : (p q xs ys : List ℕ) → is_one_line p ≡ true → is_one_line q ≡ true → p ++ 10 ∷ xs ≡ q ++ 10 ∷ ys → (p ≡ q) × (xs ≡ ys)
same_line [] [] xs ys hp hq e = (refl, (tails e).1)
same_line [] (b ∷ q) xs ys hp hq e = absurd ((not_feed b q hq).0 (sym (tails e).0))
same_line (a ∷ p) [] xs ys hp hq e = absurd ((not_feed a p hp).0 (tails e).0)
same_line (a ∷ p) (b ∷ q) xs ys hp hq e =
    let t = tails e in
    let more = same_line p q xs ys (not_feed a p hp).1 (not_feed b q hq).1 t.1 in
    (ap (λ (x : ℕ). x ∷ p) t.0 ∙ ap (λ (l : List ℕ). b ∷ l) more.0, more.1)

pub first_line : (r s : LineReply) (xs ys : List ℕ) → reply_text r ++ xs ≡ reply_text s ++ ys → (reply_line r ≡ reply_line s) × (xs ≡ ys)
first_line r s xs ys e = same_line (reply_line r) (reply_line s) xs ys (lines r) (lines s) (sym (append_assoc (reply_line r) (10 ∷ []) xs) ∙ e ∙ append_assoc (reply_line s) (10 ∷ []) ys)
