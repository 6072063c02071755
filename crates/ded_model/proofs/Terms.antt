-- Linear forms, words and literals over keys, what they say at a point, and substitution.
--
-- A conjunction is two lists: lines, each a linear form that is below 0 or at most 0, and claims, each a test of texts and
-- the value that it has. So eliminating a number never meets a text, and eliminating a text never meets a number. There is no
-- line for `=`, which is two lines, nor for `!=`, which is `not`; so the opposite of a literal is a literal again.
use Rattle.std.proofs.Common.{◌≡◌, ℕ, ◌*◌, Bool, true, false, ◌&&◌, List, [], ◌∷◌, ◌++◌, map, arith, refl, sym, ap, ◌∙◌, subst, bytes_eq}
use Rattle.std.specs.Prelude.{ℤ, pos, ◌+ℤ◌, ◌*ℤ◌, ◌↔◌}
use lib.Dec.{ltb}
use lib.IntN.{+ℤ_assoc, +ℤ_idl}
use Rattle.std.proofs.lemmas.Int.{ints}
use Rattle.std.proofs.Math.IntN.{zero-*ℤ}
use Rattle.ded_model.specs.declared.row.RowOp.{RowOp}
use Rattle.ded_model.specs.declared.row.RowOp.TheVariants.{AtMost, Below}
use Rattle.ded_model.specs.Point.{Key, Point, number_at, text_at}
use Rattle.ded_num.proofs.Ring.{parts, ring_pos, diff_same}
use Rattle.ded_model.proofs.Core.{Meets}
use Rattle.ded_model.proofs.Lists.{Every, Some, every_weaker, every-map, every-unmap}

-- ---- linear forms
pub record Linear : Type 0 where
  pub coefs : List (Key × ℤ)
  pub constant : ℤ

abbrev pub keys_at : List (Key × ℤ) → Point → ℤ
keys_at [] p = pos 0
keys_at (c ∷ cs) p = c.1 *ℤ number_at p c.0 +ℤ keys_at cs p

abbrev pub linear_at : Linear → Point → ℤ
linear_at f p = keys_at f.coefs p +ℤ f.constant *ℤ pos p.den

abbrev pub plus : Linear → Linear → Linear
plus f g = record { coefs = f.coefs ++ g.coefs; constant = f.constant +ℤ g.constant }

abbrev pub coefs_times : ℤ → List (Key × ℤ) → List (Key × ℤ)
coefs_times a [] = []
coefs_times a (c ∷ cs) = (c.0, a *ℤ c.1) ∷ coefs_times a cs

abbrev pub scale : ℤ → Linear → Linear
scale a f = record { coefs = coefs_times a f.coefs; constant = a *ℤ f.constant }

abbrev pub unit : Key → Linear
unit k = record { coefs = (k, pos 1) ∷ []; constant = pos 0 }

abbrev pub const : ℤ → Linear
const z = record { coefs = []; constant = z }

keys-append : (xs ys : List (Key × ℤ)) (p : Point) → keys_at (xs ++ ys) p ≡ keys_at xs p +ℤ keys_at ys p
keys-append [] ys p = sym (+ℤ_idl (keys_at ys p))
keys-append (c ∷ xs) ys p = ap (λ z. c.1 *ℤ number_at p c.0 +ℤ z) (keys-append xs ys p) ∙ sym (+ℤ_assoc (c.1 *ℤ number_at p c.0) (keys_at xs p) (keys_at ys p))

plus_law : (x y a b d : ℤ) → (x +ℤ y) +ℤ (a +ℤ b) *ℤ d ≡ (x +ℤ a *ℤ d) +ℤ (y +ℤ b *ℤ d)
plus_law x y a b d = rw (parts x, parts y, parts a, parts b, parts d) (simp ring_pos (diff_same _ _ _ _ (omega arith)))

pub linear-plus : (f g : Linear) (p : Point) → linear_at (plus f g) p ≡ linear_at f p +ℤ linear_at g p
linear-plus f g p = ap (λ z. z +ℤ (f.constant +ℤ g.constant) *ℤ pos p.den) (keys-append f.coefs g.coefs p) ∙ plus_law (keys_at f.coefs p) (keys_at g.coefs p) f.constant g.constant (pos p.den)

pub scale_step : (a c n x : ℤ) → (a *ℤ c) *ℤ n +ℤ a *ℤ x ≡ a *ℤ (c *ℤ n +ℤ x)
scale_step a c n x = rw (parts a, parts c, parts n, parts x) (simp ring_pos (diff_same _ _ _ _ (omega arith)))

times_zero : (a z : ℤ) → z ≡ pos 0 → z ≡ a *ℤ z
times_zero a z e = rw e (rw (parts a) (omega (arith, ints)))

keys-times : (a : ℤ) (cs : List (Key × ℤ)) (p : Point) → keys_at (coefs_times a cs) p ≡ a *ℤ keys_at cs p
keys-times a [] p = times_zero a (pos 0) refl
keys-times a (c ∷ cs) p = ap (λ z. (a *ℤ c.1) *ℤ number_at p c.0 +ℤ z) (keys-times a cs p) ∙ scale_step a c.1 (number_at p c.0) (keys_at cs p)

pub scale_law : (a x c d : ℤ) → a *ℤ x +ℤ (a *ℤ c) *ℤ d ≡ a *ℤ (x +ℤ c *ℤ d)
scale_law a x c d = rw (parts a, parts x, parts c, parts d) (simp ring_pos (diff_same _ _ _ _ (omega arith)))

pub linear-scale : (a : ℤ) (f : Linear) (p : Point) → linear_at (scale a f) p ≡ a *ℤ linear_at f p
linear-scale a f p = ap (λ z. z +ℤ (a *ℤ f.constant) *ℤ pos p.den) (keys-times a f.coefs p) ∙ scale_law a (keys_at f.coefs p) f.constant (pos p.den)

unit_law : (n d o z : ℤ) → o ≡ pos 1 → z ≡ pos 0 → (o *ℤ n +ℤ z) +ℤ z *ℤ d ≡ n
unit_law n d o z e f = rw (e, f) (rw (parts n, parts d) (simp ring_pos (diff_same _ _ _ _ (omega arith))))

pub linear-unit : (k : Key) (p : Point) → linear_at (unit k) p ≡ number_at p k
linear-unit k p = unit_law (number_at p k) (pos p.den) (pos 1) (pos 0) refl refl

pub linear-const : (z : ℤ) (p : Point) → linear_at (const z) p ≡ z *ℤ pos p.den
linear-const z p = +ℤ_idl (z *ℤ pos p.den)

pub linear-zero : (p : Point) → linear_at (const (pos 0)) p ≡ pos 0
linear-zero p = linear-const (pos 0) p ∙ zero-*ℤ (pos p.den)

-- ---- words and tests on them
pub data Word : Type 0 where
  at : Key → Word
  quoted : List ℕ → Word

abbrev pub word_at : Word → Point → List ℕ
word_at (at k) p = text_at p k
word_at (quoted t) p = t

abbrev pub all_bytes : List ℕ → Bool
all_bytes [] = true
all_bytes (b ∷ bs) = ltb b 256 && all_bytes bs

pub data Test : Type 0 where
  same : Word → Word → Test
  bytes : Word → Test
  fixed : Bool → Test

abbrev pub test_at : Test → Point → Bool
test_at (same v w) p = bytes_eq (word_at v p) (word_at w p)
test_at (bytes w) p = all_bytes (word_at w p)
test_at (fixed b) p = b

-- ---- lines and claims, and what holds at a point
pub record Line : Type 0 where
  pub strict : Bool
  pub sum : Linear

pub record Claim : Type 0 where
  pub test : Test
  pub value : Bool

pub record Conj : Type 0 where
  pub lines : List Line
  pub claims : List Claim

abbrev pub op_of : Bool → RowOp
op_of true = Below
op_of false = AtMost

abbrev pub LineHolds : Point → Line → Type 0
LineHolds p l = Meets (op_of l.strict) (linear_at l.sum p)

abbrev pub ClaimHolds : Point → Claim → Type 0
ClaimHolds p c = test_at c.test p ≡ c.value

pub record ConjHolds (p : Point) (c : Conj) : Type 0 where
  pub lines : Every (LineHolds p) c.lines
  pub claims : Every (ClaimHolds p) c.claims

abbrev pub SomeHolds : List Conj → Point → Type 0
SomeHolds cs p = Some (ConjHolds p) cs

-- ---- substitution: what stands for each key
pub record Put : Type 0 where
  pub number : Linear
  pub word : Word

abbrev pub put_coefs : (Key → Put) → List (Key × ℤ) → Linear
put_coefs s [] = const (pos 0)
put_coefs s (c ∷ cs) = plus (scale c.1 (s c.0).number) (put_coefs s cs)

-- m is the factor of the denominator
abbrev pub put_line : (Key → Put) → ℕ → Line → Line
put_line s m l = record { strict = l.strict; sum = plus (put_coefs s l.sum.coefs) (const (l.sum.constant *ℤ pos m)) }

abbrev pub put_word : (Key → Put) → Word → Word
put_word s (at k) = (s k).word
put_word s (quoted t) = quoted t

abbrev pub put_test : (Key → Put) → Test → Test
put_test s (same v w) = same (put_word s v) (put_word s w)
put_test s (bytes w) = bytes (put_word s w)
put_test s (fixed b) = fixed b

abbrev pub put_claim : (Key → Put) → Claim → Claim
put_claim s c = record { test = put_test s c.test; value = c.value }

abbrev pub put : (Key → Put) → ℕ → Conj → Conj
put s m c = record { lines = map (put_line s m) c.lines; claims = map (put_claim s) c.claims }

-- the numbers of q are those that s says at p, over the denominator of p times m
pub record PutsNumbers (s : Key → Put) (m : ℕ) (p q : Point) : Type 0 where
  pub den : q.den ≡ p.den * m
  pub number : (k : Key) → number_at q k ≡ linear_at (s k).number p

pub record PutsTexts (s : Key → Put) (p q : Point) : Type 0 where
  pub text : (k : Key) → text_at q k ≡ word_at (s k).word p

coefs-put : (s : Key → Put) (m : ℕ) (p q : Point) → PutsNumbers s m p q → (cs : List (Key × ℤ)) → linear_at (put_coefs s cs) p ≡ keys_at cs q
coefs-put s m p q h [] = linear-zero p
coefs-put s m p q h (c ∷ cs) =
    linear-plus (scale c.1 (s c.0).number) (put_coefs s cs) p
    ∙ rw (linear-scale c.1 (s c.0).number p, coefs-put s m p q h cs) (ap (λ z. c.1 *ℤ z +ℤ keys_at cs q) (sym (h.number c.0)))

factor_law : (x c m d : ℤ) → x +ℤ (c *ℤ m) *ℤ d ≡ x +ℤ c *ℤ (d *ℤ m)
factor_law x c m d = rw (parts x, parts c, parts m, parts d) (simp ring_pos (diff_same _ _ _ _ (omega arith)))

pub line-put : (s : Key → Put) (m : ℕ) (p q : Point) → PutsNumbers s m p q → (l : Line) → linear_at (put_line s m l).sum p ≡ linear_at l.sum q
line-put s m p q h l =
    linear-plus (put_coefs s l.sum.coefs) (const (l.sum.constant *ℤ pos m)) p
    ∙ rw (linear-const (l.sum.constant *ℤ pos m) p, coefs-put s m p q h l.sum.coefs)
    (factor_law (keys_at l.sum.coefs q) l.sum.constant (pos m) (pos p.den) ∙ ap (λ d. keys_at l.sum.coefs q +ℤ l.sum.constant *ℤ pos d) (sym h.den))

pub word-put : (s : Key → Put) (p q : Point) → PutsTexts s p q → (w : Word) → word_at (put_word s w) p ≡ word_at w q
word-put s p q h (at k) = sym (h.text k)
word-put s p q h (quoted t) = refl

pub test-put : (s : Key → Put) (p q : Point) → PutsTexts s p q → (t : Test) → test_at (put_test s t) p ≡ test_at t q
test-put s p q h (same v w) = rw (word-put s p q h v, word-put s p q h w)
test-put s p q h (bytes w) = ap all_bytes (word-put s p q h w)
test-put s p q h (fixed b) = refl

pub lines_put : (s : Key → Put) (m : ℕ) (p q : Point) → PutsNumbers s m p q → (ls : List Line) → Every (LineHolds p) (map (put_line s m) ls) → Every (LineHolds q) ls
lines_put s m p q h ls e = every_weaker (λ l. LineHolds p (put_line s m l)) (LineHolds q) ls (λ l k. subst (Meets (op_of l.strict)) (line-put s m p q h l) k) (every-unmap (put_line s m) (LineHolds p) ls e)

pub lines_unput : (s : Key → Put) (m : ℕ) (p q : Point) → PutsNumbers s m p q → (ls : List Line) → Every (LineHolds q) ls → Every (LineHolds p) (map (put_line s m) ls)
lines_unput s m p q h ls e = every-map (put_line s m) (LineHolds p) ls (every_weaker (LineHolds q) (λ l. LineHolds p (put_line s m l)) ls (λ l k. subst (Meets (op_of l.strict)) (sym (line-put s m p q h l)) k) e)

pub claims_put : (s : Key → Put) (p q : Point) → PutsTexts s p q → (cs : List Claim) → Every (ClaimHolds p) (map (put_claim s) cs) → Every (ClaimHolds q) cs
claims_put s p q h cs e = every_weaker (λ c. ClaimHolds p (put_claim s c)) (ClaimHolds q) cs (λ c k. sym (test-put s p q h c.test) ∙ k) (every-unmap (put_claim s) (ClaimHolds p) cs e)

pub claims_unput : (s : Key → Put) (p q : Point) → PutsTexts s p q → (cs : List Claim) → Every (ClaimHolds q) cs → Every (ClaimHolds p) (map (put_claim s) cs)
claims_unput s p q h cs e = every-map (put_claim s) (ClaimHolds p) cs (every_weaker (ClaimHolds q) (λ c. ClaimHolds p (put_claim s c)) cs (λ c k. test-put s p q h c.test ∙ k) e)

pub conj_put : (s : Key → Put) (m : ℕ) (p q : Point) → PutsNumbers s m p q → PutsTexts s p q → (c : Conj) → ConjHolds p (put s m c) ↔ ConjHolds q c
conj_put s m p q n t c = (
  λ h. record { lines = lines_put s m p q n c.lines h.lines; claims = claims_put s p q t c.claims h.claims },
  λ h. record { lines = lines_unput s m p q n c.lines h.lines; claims = claims_unput s p q t c.claims h.claims },
)
