-- Where lines end in which texts stand between quotes.
--
-- A quoted text may contain line feeds, but each quote in it stands twice. So behind a line that has its quotes in pairs the
-- first line feed outside of quotes is its end, and two such lines that begin the same bytes are the same.
use Rattle.std.proofs.Common.{◌≡◌, ℕ, zero, suc, ◌+◌, ◌<◌, ◌/◌, ◌%◌, ◌^◌, List, [], ◌∷◌, ◌++◌, length, refl, sym, ap, ap₂, ◌∙◌, ⊎_elim, append_assoc, append-nil, arith, Bool, true, false, not, cond, subst}
use Rattle.std.specs.Prelude.{Option, None, Some, if◌then◌else◌, ◌==◌, nat_lt, codes}
use Rattle.std.specs.Fmt.{digit_glyph, digits_onto}
use Rattle.std.specs.List.{AllByRecursion}
use Rattle.std.proofs.lemmas.Bool.Decides.{eqb_tells}
use Rattle.ded_model.specs.Quoting.{doubled, doubled_byte, quoted}
use Rattle.ded_print.specs.Lines.{line_text, lines_text, counted_text}
use Rattle.ded_print.specs.Numbers.{number_text, count_text}
use Rattle.ded_print.specs.Quiet.{IsQuiet}
use Rattle.ded_print.proofs.Runs.{tails}

-- whether the bytes end between quotes; None where a line feed stands outside of quotes
abbrev pub after : Bool → List ℕ → Option Bool
after q [] = Some q
after q (b ∷ bs) = cond (b == 39) (after (not q) bs) (cond (b == 10) (cond q (after q bs) None) (after q bs))

-- outside of quotes the bytes lead outside of quotes, whatever follows
abbrev pub IsClosed : List ℕ → Type 0
IsClosed xs = (ys : List ℕ) → after false (xs ++ ys) ≡ after false ys

pub closed_both : (xs ys : List ℕ) → IsClosed xs → IsClosed ys → IsClosed (xs ++ ys)
closed_both xs ys p q zs = ap (after false) (append_assoc xs ys zs) ∙ p (ys ++ zs) ∙ q zs

pub closed_end : (xs : List ℕ) → IsClosed xs → after false xs ≡ Some false
closed_end xs p = ap (after false) (sym (append-nil xs)) ∙ p []

-- ---- names and numbers

quiet_byte : (b : ℕ) (bs : List ℕ) → 39 < b → after false (b ∷ bs) ≡ after false bs
quiet_byte b bs h = rw (unlike b 39 (omega (arith, h))) (rw (unlike b 10 (omega (arith, h))) refl)
  where
    unlike : (b n : ℕ) → n < b → (b == n) ≡ false
    unlike b n m = ⊎_elim (λ e. absurd (omega (arith, m, e.1))) (λ e. e.0) (eqb_tells b n)

pub closed_quiet : (n : List ℕ) → IsQuiet n → IsClosed n
closed_quiet [] h ys = refl
closed_quiet (b ∷ bs) h ys = quiet_byte b (bs ++ ys) h.0 ∙ closed_quiet bs h.1 ys

glyph_above : (t : Bool) (d : ℕ) → 39 < (if t then 48 + d else (if false then 55 + d else 87 + d))
glyph_above true d = omega arith
glyph_above false d = omega arith

either_quiet : (t : Bool) (a b : List ℕ) → IsQuiet a → IsQuiet b → IsQuiet (if t then a else b)
either_quiet true a b p q = p
either_quiet false a b p q = q

digits_quiet : (k n : ℕ) (acc : List ℕ) → IsQuiet acc → IsQuiet (digits_onto k 10 false n acc)
digits_quiet zero n acc h = h
digits_quiet (suc k) n acc h =
    let more : IsQuiet (digit_glyph false (n % 10) ∷ acc) = (glyph_above (nat_lt (n % 10) 10) (n % 10), h) in
    either_quiet (n / 10 == 0) _ _ more (digits_quiet k (n / 10) _ more)

pub number_quiet : (n : ℕ) → IsQuiet (number_text n)
unfolding number_text
number_quiet n = digits_quiet (64 + n / 10 ^ 64) n [] tt

pub closed_number : (n : ℕ) → IsClosed (number_text n)
closed_number n = closed_quiet (number_text n) (number_quiet n)

pub closed_written : (n : ℕ) → IsClosed (count_text n)
unfolding count_text
closed_written n = closed_quiet (count_text n) (digits_quiet 64 n [] tt)

-- ---- quoted texts

in_quotes : (z : Bool) (w : List ℕ) → cond z (cond true (after true w) None) (after true w) ≡ after true w
in_quotes true w = refl
in_quotes false w = refl

inside_byte : (z : Bool) (b : ℕ) (w : List ℕ) → (b == 39) ≡ z → after true ((if z then 39 ∷ 39 ∷ [] else b ∷ []) ++ w) ≡ after true w
inside_byte true b w e = refl
inside_byte false b w e = ap (λ z. cond z (after false w) (cond (b == 10) (cond true (after true w) None) (after true w))) e ∙ in_quotes (b == 10) w

inside : (t ys : List ℕ) → after true ((doubled t ++ 39 ∷ []) ++ ys) ≡ after false ys
inside [] ys = refl
inside (b ∷ t) ys =
    ap (λ z. after true (z ++ ys)) (append_assoc (doubled_byte b) (doubled t) (39 ∷ []))
    ∙ ap (after true) (append_assoc (doubled_byte b) (doubled t ++ 39 ∷ []) ys)
    ∙ inside_byte (b == 39) b ((doubled t ++ 39 ∷ []) ++ ys) refl ∙ inside t ys

pub closed_quoted : (t : List ℕ) → IsClosed (quoted t)
closed_quoted t ys = inside t ys

-- ---- where lines end

none_some : {A : Type 0} {x : A} → None ≡ Some x → ⊥
none_some e = cc

open_ends : (q : Bool) → Some q ≡ Some false → q ≡ false
open_ends true e = cc
open_ends false e = refl

-- the state behind a byte
next : Bool → ℕ → Bool
next q b = cond (b == 39) (not q) q

goes_on : (x y q : Bool) (bs : List ℕ) → cond x (after (not q) bs) (cond y (cond q (after q bs) None) (after q bs)) ≡ Some false → after (cond x (not q) q) bs ≡ Some false
goes_on true y q bs h = h
goes_on false true true bs h = h
goes_on false true false bs h = absurd (none_some h)
goes_on false false q bs h = h

not_feed : (q : Bool) (b : ℕ) (bs : List ℕ) → q ≡ false → b ≡ 10 → after q (b ∷ bs) ≡ Some false → ⊥
not_feed q b bs out e h = none_some (sym (ap (λ z. after z (b ∷ bs)) out ∙ ap (λ z. after false (z ∷ bs)) e) ∙ h)

-- two lines with their quotes in pairs that begin the same bytes are the same
ends_alike : (q : Bool) (l m xs ys : List ℕ) → after q l ≡ Some false → after q m ≡ Some false → l ++ 10 ∷ xs ≡ m ++ 10 ∷ ys → (l ≡ m) × (xs ≡ ys)
unfolding next
ends_alike q [] [] xs ys p r e = (refl, (tails e).1)
ends_alike q [] (b ∷ m) xs ys p r e = absurd (not_feed q b m (open_ends q p) (sym (tails e).0) r)
ends_alike q (a ∷ l) [] xs ys p r e = absurd (not_feed q a l (open_ends q r) (tails e).0 p)
ends_alike q (a ∷ l) (b ∷ m) xs ys p r e =
    let t = tails e in
    let same = subst (λ x. after (next q x) m ≡ Some false) (sym t.0) (goes_on (b == 39) (b == 10) q m r) in
    let more = ends_alike (next q a) l m xs ys (goes_on (a == 39) (a == 10) q l p) same t.1 in
    (ap (λ x. x ∷ l) t.0 ∙ ap (λ z. b ∷ z) more.0, more.1)

pub same_line : (l m xs ys : List ℕ) → IsClosed l → IsClosed m → line_text l ++ xs ≡ line_text m ++ ys → (l ≡ m) × (xs ≡ ys)
same_line l m xs ys p r e =
    ends_alike false l m xs ys (closed_end l p) (closed_end m r) (sym (append_assoc l (10 ∷ []) xs) ∙ e ∙ append_assoc m (10 ∷ []) ys)

-- ---- lists of lines

-- a line before the last one of a list
pub record IsInner (l : List ℕ) : Type 0 where
  pub closed : IsClosed l
  pub other : l ≡ codes "end" → ⊥

abbrev pub AreInner : List (List ℕ) → Type 0
AreInner = AllByRecursion IsInner

end_closed : IsClosed (codes "end")
end_closed ys = refl

-- one line before others
line_first : (l : List ℕ) (ls : List (List ℕ)) (rest : List ℕ) → lines_text (l ∷ ls) ++ rest ≡ line_text l ++ (lines_text ls ++ rest)
line_first l ls rest = append_assoc (line_text l) (lines_text ls) rest

-- lines up to `end`
pub same_ended : (ls ms : List (List ℕ)) (xs ys : List ℕ) → AreInner ls → AreInner ms
    → lines_text ls ++ (line_text (codes "end") ++ xs) ≡ lines_text ms ++ (line_text (codes "end") ++ ys) → (ls ≡ ms) × (xs ≡ ys)
same_ended [] [] xs ys p q e = (refl, (same_line (codes "end") (codes "end") xs ys end_closed end_closed e).1)
same_ended [] (m ∷ ms) xs ys p q e =
    absurd (q.0.other (sym (same_line (codes "end") m xs (lines_text ms ++ (line_text (codes "end") ++ ys)) end_closed q.0.closed (e ∙ line_first m ms _)).0))
same_ended (l ∷ ls) [] xs ys p q e =
    absurd (p.0.other (same_line l (codes "end") (lines_text ls ++ (line_text (codes "end") ++ xs)) ys p.0.closed end_closed (sym (line_first l ls _) ∙ e)).0)
same_ended (l ∷ ls) (m ∷ ms) xs ys p q e =
    let one = same_line l m _ _ p.0.closed q.0.closed (sym (line_first l ls _) ∙ e ∙ line_first m ms _) in
    let more = same_ended ls ms xs ys p.1 q.1 one.1 in
    (ap₂ (λ x xs. x ∷ xs) one.0 more.0, more.1)

-- the first line of a counted list, before what follows
pub counted_first : (kind n : List ℕ) (ls : List (List ℕ)) (xs : List ℕ) → counted_text kind n ls ++ xs ≡ line_text (kind ++ (32 ∷ n)) ++ (lines_text ls ++ (line_text (codes "end") ++ xs))
counted_first kind n ls xs =
    append_assoc (line_text (kind ++ (32 ∷ n))) (lines_text ls ++ line_text (codes "end")) xs
    ∙ ap (λ z. line_text (kind ++ (32 ∷ n)) ++ z) (append_assoc (lines_text ls) (line_text (codes "end")) xs)

pub header_closed : (kind n : List ℕ) → IsClosed kind → IsClosed n → IsClosed (kind ++ (32 ∷ n))
header_closed kind n p q = closed_both kind (32 ∷ n) p (λ ys. q ys)

-- two counted lists that begin the same bytes have the same lines
pub counted_lines : (kind n m : List ℕ) (ls ms : List (List ℕ)) (xs ys : List ℕ) → IsClosed kind → IsClosed n → IsClosed m → AreInner ls → AreInner ms
    → counted_text kind n ls ++ xs ≡ counted_text kind m ms ++ ys → (ls ≡ ms) × (xs ≡ ys)
counted_lines kind n m ls ms xs ys k cn cm p q e =
    same_ended ls ms xs ys p q (same_line (kind ++ (32 ∷ n)) (kind ++ (32 ∷ m)) _ _ (header_closed kind n k cn) (header_closed kind m k cm) (sym (counted_first kind n ls xs) ∙ e ∙ counted_first kind m ms ys)).1

-- and are the same
pub same_counted : (kind n m : List ℕ) (ls ms : List (List ℕ)) (xs ys : List ℕ) → IsClosed kind → IsClosed n → IsClosed m → AreInner ls → AreInner ms
    → counted_text kind n ls ++ xs ≡ counted_text kind m ms ++ ys → (counted_text kind n ls ≡ counted_text kind m ms) × (xs ≡ ys)
same_counted kind n m ls ms xs ys k cn cm p q e =
    let one = same_line (kind ++ (32 ∷ n)) (kind ++ (32 ∷ m)) _ _ (header_closed kind n k cn) (header_closed kind m k cm) (sym (counted_first kind n ls xs) ∙ e ∙ counted_first kind m ms ys) in
    let more = counted_lines kind n m ls ms xs ys k cn cm p q e in
    (ap₂ (λ h zs. line_text h ++ (lines_text zs ++ line_text (codes "end"))) one.0 more.0, more.1)

-- as many lines
pub same_many : (ls ms : List (List ℕ)) (xs ys : List ℕ) → length ls ≡ length ms → AllByRecursion IsClosed ls → AllByRecursion IsClosed ms
    → lines_text ls ++ xs ≡ lines_text ms ++ ys → (ls ≡ ms) × (xs ≡ ys)
same_many [] [] xs ys n p q e = (refl, e)
same_many [] (m ∷ ms) xs ys n p q e = absurd (omega (arith, n))
same_many (l ∷ ls) [] xs ys n p q e = absurd (omega (arith, n))
same_many (l ∷ ls) (m ∷ ms) xs ys n p q e =
    let one = same_line l m _ _ p.0 q.0 (sym (line_first l ls _) ∙ e ∙ line_first m ms _) in
    let more = same_many ls ms xs ys (omega (arith, n)) p.1 q.1 one.1 in
    (ap₂ (λ x xs. x ∷ xs) one.0 more.0, more.1)
