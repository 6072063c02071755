-- Numbers and texts that are put on a stack and read from it.
use Rattle.std.proofs.Common.{◌≡◌, ◌≢◌, ℕ, ◌+◌, ◌-◌, ◌*◌, ◌/◌, ◌%◌, ◌^◌, ◌<◌, ◌≤◌, List, [], ◌∷◌, ◌++◌, length, take, drop, reverse, arith, to_z, of_z, refl, sym, ap, ◌∙◌}
use Rattle.std.specs.Prelude.{ℤ, pos, negsuc, unsigned_abs, ◌<ℤ◌, ◌≤ℤ◌, ◌-ℤ◌}
use Rattle.std.specs.Int.{w128}
use Rattle.std.proofs.lemmas.Int.{ints}
use Rattle.std.proofs.lemmas.Bool.{cond_below, cond_above}
use Rattle.std.proofs.lemmas.List.{reverse-append, reverse-reverse, length-reverse, length-append, length-drop, take_at, drop_at, take-append-drop}
use Rattle.ded_packed.specs.Numbers.{byte_in, natural_in, after_natural, whole_of}

-- a last group
pub natural_last : (n : ℕ) (s : List ℕ) → n < 128 → natural_in (n ∷ s) ≡ n
natural_last n s h = sym (cond_below n 128 n _ h)

pub after_last : (n : ℕ) (s : List ℕ) → n < 128 → after_natural (n ∷ s) ≡ s
after_last n s h = sym (cond_below n 128 s _ h)

-- a group with more behind it
pub natural_more : (n : ℕ) (s : List ℕ) → natural_in s ≡ n / 128 → natural_in ((n % 128 + 128) ∷ s) ≡ n
natural_more n s e = sym (cond_above (n % 128 + 128) 128 _ _ n (omega arith) (rw e (omega arith)))

pub after_more : (n : ℕ) (s rest : List ℕ) → after_natural s ≡ rest → after_natural ((n % 128 + 128) ∷ s) ≡ rest
after_more n s rest e = sym (cond_above (n % 128 + 128) 128 _ _ rest (omega arith) (sym e))

-- what is behind a group that isn't the last one
pub natural_rest : (s : List ℕ) → 128 ≤ byte_in s → natural_in s < 2 ^ 128 → natural_in (drop 1 s) < 2 ^ 128
natural_rest [] h l = absurd (omega (arith, h))
natural_rest (b ∷ s) h l =
    let e : natural_in (b ∷ s) ≡ 128 * natural_in s + (b - 128) = sym (cond_above b 128 _ _ _ h refl) in
    omega (arith, e, l)

pub rest_shorter : (s : List ℕ) → 128 ≤ byte_in s → length (drop 1 s) < length s
rest_shorter [] h = absurd (omega (arith, h))
rest_shorter (b ∷ s) h = omega arith

-- the places of whole numbers
pub whole_even : (n : ℕ) → whole_of (2 * n) ≡ pos n
unfolding whole_of
whole_even n =
    let e : (2 * n) % 2 ≡ 0 = omega arith in
    let d : (2 * n) / 2 ≡ n = omega arith in
    rw (e, d) refl

pub whole_odd : (n : ℕ) → whole_of (2 * n + 1) ≡ negsuc n
unfolding whole_of
whole_odd n =
    let e : (2 * n + 1) % 2 ≡ 1 = omega arith in
    let d : (2 * n + 1) / 2 ≡ n = omega arith in
    rw (e, d) refl

pub place_below : (z : ℤ) (m : ℕ) → z <ℤ pos 0 → m ≡ unsigned_abs z → whole_of (2 * m - 1) ≡ z
place_below (pos n) m h e = absurd (omega (arith, ints))
place_below (negsuc n) m h e =
    let f : 2 * m - 1 ≡ 2 * n + 1 = omega (arith, e) in
    ap whole_of f ∙ whole_odd n

pub place_above : (z : ℤ) (m : ℕ) → pos 0 ≤ℤ z → m ≡ unsigned_abs z → whole_of (2 * m) ≡ z
place_above (pos n) m h e = ap (λ (k : ℕ). whole_of (2 * k)) e ∙ whole_even n
place_above (negsuc n) m h e = absurd (omega (arith, ints))

pub half_even : (n : ℕ) → n < 2 ^ 128 → n % 2 ≡ 0 → to_z w128 (n / 2) ≡ whole_of n
unfolding whole_of
half_even n l e =
    let f : to_z w128 (n / 2) ≡ pos (n / 2) = omega (arith, ints) in
    rw e f

pub half_odd : (n : ℕ) → n < 2 ^ 128 → n % 2 ≢ 0 → to_z w128 (of_z w128 (negsuc 0 -ℤ to_z w128 (n / 2))) ≡ whole_of n
unfolding whole_of
half_odd n l h =
    let e : n % 2 ≡ 1 = omega (arith, h) in
    let f : to_z w128 (of_z w128 (negsuc 0 -ℤ to_z w128 (n / 2))) ≡ negsuc (n / 2) = omega (arith, ints) in
    rw e f

-- a text behind others, read back
pub text_back : (old text : List ℕ) → reverse (take (length text) (reverse (old ++ text))) ≡ text
text_back old text =
    ap (λ s. reverse (take (length text) s)) (reverse-append old text)
    ∙ ap reverse (take_at (reverse text) (reverse old) (length text) (length-reverse text))
    ∙ reverse-reverse text

pub text_left : (old text : List ℕ) → drop (length text) (reverse (old ++ text)) ≡ reverse old
text_left old text = ap (drop (length text)) (reverse-append old text) ∙ drop_at (reverse text) (reverse old) (length text) (length-reverse text)

pub text_length : (old text : List ℕ) → length text ≤ length (reverse (old ++ text))
text_length old text = omega (arith, length-reverse (old ++ text), length-append old text)

-- the last bytes
module _ (xs : List ℕ) (count : ℕ) (h : count ≤ length xs) where
  parts : take (length xs - count) xs ++ drop (length xs - count) xs ≡ xs
  parts = take-append-drop (length xs - count) xs

  size : length (drop (length xs - count) xs) ≡ count
  size = omega (arith, h, length-drop (length xs - count) xs)

  pub last_bytes : drop (length xs - count) xs ≡ reverse (take count (reverse xs))
  last_bytes =
      sym (text_back (take (length xs - count) xs) (drop (length xs - count) xs))
      ∙ ap (λ (n : ℕ). reverse (take n (reverse (take (length xs - count) xs ++ drop (length xs - count) xs)))) size
      ∙ ap (λ s. reverse (take count (reverse s))) parts

  pub before_last : reverse (take (length xs - count) xs) ≡ drop count (reverse xs)
  before_last =
      sym (text_left (take (length xs - count) xs) (drop (length xs - count) xs))
      ∙ ap (λ (n : ℕ). drop n (reverse (take (length xs - count) xs ++ drop (length xs - count) xs))) size
      ∙ ap (λ s. drop count (reverse s)) parts
