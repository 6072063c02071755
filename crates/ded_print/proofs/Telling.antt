-- Replies of one line that are written alike are the same.
use Rattle.std.proofs.Common.{◌≡◌, ℕ, List, [], ◌∷◌, ◌++◌, length, map, refl, sym, ap, ap₂, ◌∙◌, append_assoc, drop, arith, true, false}
use Rattle.std.specs.Prelude.{Option, None, Some, if◌then◌else◌, codes}
use Rattle.std.specs.Str.{bytes_eq}
use Rattle.ded_model.specs.declared.command.Refusal.{Refusal}
use Rattle.ded_model.specs.declared.command.Refusal.TheVariants.{LongStatement, Unfinished, Syntax, LongName, LongNumber, Deep, Many, Twice, Unknown, Taken, Kind, Arity, Unbound, WrongSort, Used, NoTuple, Full, Spent, Level, Wide, Memory}
use Rattle.ded_print.specs.Lines.{LineReply, done, truth, numbered, met, refused, reply_line, reply_text, refusal_line, line_text, lines_text}
use Rattle.ded_print.specs.Numbers.{number_text}
use Rattle.ded_model.specs.declared.name.Column.{Column}
use Rattle.ded_model.specs.Row.{Atom}
use Rattle.ded_print.specs.Tuples.{column_names, stored_line, stored_text}
use Rattle.ded_print.proofs.LineReplies.{first_line, lines, number_line, same_line}
use Rattle.ded_print.proofs.Numerals.{same_number}
use Rattle.ded_print.proofs.Refusals.{written, as_written}
use Rattle.ded_print.proofs.Runs.{first, same_numbers, tails}

-- ---- refusals

-- the first of these refusals that is written so
refusal_at : List ℕ → List Refusal → Option Refusal
refusal_at text [] = None
refusal_at text (r ∷ rs) = if bytes_eq text (line_text (written r)) then Some r else refusal_at text rs

all : List Refusal
all = LongStatement ∷ Unfinished ∷ Syntax ∷ LongName ∷ LongNumber ∷ Deep ∷ Many ∷ Twice ∷ Unknown ∷ Taken ∷ Kind ∷ Arity ∷ Unbound ∷ WrongSort ∷ Used ∷ NoTuple ∷ Full ∷ Spent ∷ Level ∷ Wide ∷ Memory ∷ []

reads : (r : Refusal) → refusal_at (line_text (written r)) all ≡ Some r
unfolding refusal_at all
reads LongStatement = refl
reads Unfinished = refl
reads Syntax = refl
reads LongName = refl
reads LongNumber = refl
reads Deep = refl
reads Many = refl
reads Twice = refl
reads Unknown = refl
reads Taken = refl
reads Kind = refl
reads Arity = refl
reads Unbound = refl
reads WrongSort = refl
reads Used = refl
reads NoTuple = refl
reads Full = refl
reads Spent = refl
reads Level = refl
reads Wide = refl
reads Memory = refl

same_some : {A : Type 0} {x y : A} → Some x ≡ Some y → x ≡ y
same_some e = cc

same_refusal : (r q : Refusal) → refusal_line r ≡ refusal_line q → r ≡ q
same_refusal r q e =
    let texts : line_text (written r) ≡ line_text (written q) = as_written r ∙ ap line_text e ∙ sym (as_written q) in
    same_some (sym (reads r) ∙ ap (λ (t : List ℕ). refusal_at t all) texts ∙ reads q)

-- ---- replies

same_reply : (r s : LineReply) → reply_line r ≡ reply_line s → r ≡ s
same_reply done done e = refl
same_reply done (truth true) e = absurd (omega (arith, ap first e))
same_reply done (truth false) e = absurd (omega (arith, ap first e))
same_reply done (numbered j) e = absurd (omega (arith, ap first e))
same_reply done (met i j) e = absurd (omega (arith, ap first e))
same_reply done (refused t) e = absurd (omega (arith, ap first e))
same_reply (truth true) done e = absurd (omega (arith, ap first e))
same_reply (truth true) (truth true) e = refl
same_reply (truth true) (truth false) e = absurd (omega (arith, ap first e))
same_reply (truth true) (numbered j) e = absurd (omega (arith, ap first e))
same_reply (truth true) (met i j) e = absurd (omega (arith, ap first e))
same_reply (truth true) (refused t) e = absurd (omega (arith, ap first e))
same_reply (truth false) done e = absurd (omega (arith, ap first e))
same_reply (truth false) (truth true) e = absurd (omega (arith, ap first e))
same_reply (truth false) (truth false) e = refl
same_reply (truth false) (numbered j) e = absurd (omega (arith, ap first e))
same_reply (truth false) (met i j) e = absurd (omega (arith, ap first e))
same_reply (truth false) (refused t) e = absurd (omega (arith, ap first e))
same_reply (numbered k) done e = absurd (omega (arith, ap first e))
same_reply (numbered k) (truth true) e = absurd (omega (arith, ap first e))
same_reply (numbered k) (truth false) e = absurd (omega (arith, ap first e))
same_reply (numbered k) (numbered j) e = ap numbered (same_number k j (ap (drop 6) e))
same_reply (numbered k) (met i j) e = absurd (omega (arith, ap first e))
same_reply (numbered k) (refused t) e = absurd (omega (arith, ap first e))
same_reply (met i j) done e = absurd (omega (arith, ap first e))
same_reply (met i j) (truth true) e = absurd (omega (arith, ap first e))
same_reply (met i j) (truth false) e = absurd (omega (arith, ap first e))
same_reply (met i j) (numbered k) e = absurd (omega (arith, ap first e))
same_reply (met i j) (met k l) e =
    let both = same_numbers i k (32 ∷ number_text j) (32 ∷ number_text l) (λ d. absurd (omega (arith, d.0))) (λ d. absurd (omega (arith, d.0))) (ap (drop 5) e) in
    ap₂ (λ (a b : ℕ). met a b) both.0 (same_number j l (tails both.1).1)
same_reply (met i j) (refused t) e = absurd (omega (arith, ap first e))
same_reply (refused r) done e = absurd (omega (arith, ap first e))
same_reply (refused r) (truth true) e = absurd (omega (arith, ap first e))
same_reply (refused r) (truth false) e = absurd (omega (arith, ap first e))
same_reply (refused r) (numbered j) e = absurd (omega (arith, ap first e))
same_reply (refused r) (met i j) e = absurd (omega (arith, ap first e))
same_reply (refused r) (refused t) e = ap refused (same_refusal r t e)

pub first_reply : (r s : LineReply) (xs ys : List ℕ) → reply_text r ++ xs ≡ reply_text s ++ ys → (r ≡ s) × (xs ≡ ys)
first_reply r s xs ys e =
    let both = first_line r s xs ys e in
    (same_reply r s both.0, both.1)

-- ---- stored tuples

tuples_line : ℕ → List ℕ
tuples_line n = codes "tuples" ++ (32 ∷ number_text n)

-- the first line counts tuples, which no reply of one line does
counts_tuples : (n : ℕ) (reply : LineReply) → tuples_line n ≡ reply_line reply → ⊥
unfolding tuples_line
counts_tuples n done e = absurd (omega (arith, ap first e))
counts_tuples n (truth true) e = absurd (omega (arith, ap first e))
counts_tuples n (truth false) e = absurd (omega (arith, ap first e))
counts_tuples n (numbered k) e = absurd (omega (arith, ap (λ (l : List ℕ). first (drop 5 l)) e))
counts_tuples n (met i j) e = absurd (omega (arith, ap first e))
counts_tuples n (refused r) e = absurd (omega (arith, ap first e))

pub no_line : (columns : List Column) (ts : List (ℕ × List Atom)) (reply : LineReply) (xs ys : List ℕ) → stored_text columns ts ++ xs ≡ reply_text reply ++ ys → ⊥
unfolding tuples_line
no_line columns ts reply xs ys e =
    let rest = lines_text (map (stored_line (column_names columns)) ts) ++ line_text (codes "end") in
    let whole = append_assoc (tuples_line (length ts) ++ 10 ∷ []) rest xs ∙ append_assoc (tuples_line (length ts)) (10 ∷ []) (rest ++ xs) in
    counts_tuples (length ts) reply
    (same_line (tuples_line (length ts)) (reply_line reply) (rest ++ xs) ys (number_line (length ts)) (lines reply)
    (sym whole ∙ e ∙ append_assoc (reply_line reply) (10 ∷ []) ys)).0
