-- Eliminating a text key: conjunctions of which one holds where some extension at the key satisfies the given one.
--
-- Tests of texts are equalities, so a text that satisfies the conjunction is either one of the words that stand in it, or any
-- text that is none of them does as well. So the candidates are tried: the conjunction with the key replaced by each word,
-- claiming that the word is a byte string, and the conjunction in which the key differs from every word. A text that is none
-- of them always exists: zeros, more of them than all the words together have bytes.
use Rattle.std.proofs.Common.{◌≡◌, ℕ, zero, suc, ◌+◌, ◌<◌, ◌⊎◌, inl, inr, ⊎_elim, Bool, true, false, cond, List, [], ◌∷◌, ◌++◌, map, length, arith, refl, sym, ap, ◌∙◌, subst, true≢false, bytes_eq}
use Rattle.std.specs.Prelude.{pos}
use Rattle.std.proofs.lemmas.Slice.Eq.{bytes_eq-Decides}
use Rattle.std.proofs.lemmas.Bool.Decides.{Decides-ltb, not_from_Decides}
use lib.Dec.{ltb}
use Rattle.ded_model.specs.Point.{Key, Point, text, AllBytes, IsTextExtension, same_key, number_at, text_at}
use Rattle.ded_model.proofs.Points.{number_at-text_extended, number_at-text_kept, text_at-extended, text_at-kept, and_left, and_right}
use Rattle.ded_model.proofs.Lists.{Every, Some, every-left, every-right, some_weaker, some-map, some-unmap, from_some}
use Rattle.ded_model.proofs.Terms.{linear_at, unit, const, linear-unit, linear-zero, Word, at, quoted, word_at, all_bytes, Test, same, bytes, fixed, test_at, Claim, Conj, ClaimHolds, ConjHolds, SomeHolds, Put, put_line, put_word, put, PutsNumbers, PutsTexts, lines_put, lines_unput, conj_put}
use Rattle.ded_model.proofs.Numbers.{silent}
use Rattle.std.proofs.lemmas.Bool.{and_from}

-- ---- byte strings

bytes_to : (t : List ℕ) → AllBytes t → all_bytes t ≡ true
bytes_to [] h = refl
bytes_to (b ∷ bs) h = and_from (ltb b 256) (all_bytes bs) ((Decides-ltb b 256).1 h.0) (bytes_to bs h.1)

bytes_from : (t : List ℕ) → all_bytes t ≡ true → AllBytes t
bytes_from [] e = tt
bytes_from (b ∷ bs) e = ((Decides-ltb b 256).0 (and_left (ltb b 256) (all_bytes bs) e), bytes_from bs (and_right (ltb b 256) (all_bytes bs) e))

-- ---- a text that is far from given words: zeros, and more of them than any word has
pub zeros : ℕ → List ℕ
zeros zero = []
zeros (suc n) = 0 ∷ zeros n

pub zeros-bytes : (n : ℕ) → AllBytes (zeros n)
unfolding zeros
zeros-bytes zero = tt
zeros-bytes (suc n) = (omega arith, zeros-bytes n)

pub zeros-length : (n : ℕ) → length (zeros n) ≡ n
unfolding zeros
zeros-length zero = refl
zeros-length (suc n) = ap suc (zeros-length n)

abbrev pub sizes : List Word → Point → ℕ
sizes [] p = 0
sizes (w ∷ ws) p = length (word_at w p) + sizes ws p

abbrev pub IsFar : Point → List ℕ → Word → Type 0
IsFar p t w = ¬ (word_at w p ≡ t)

too_long : (n m : ℕ) (t : List ℕ) → length t + m < n → ¬ (t ≡ zeros n)
too_long n m t h e = let k : length t ≡ n = ap length e ∙ zeros-length n in absurd (omega arith)

zeros-far : (ws : List Word) (p : Point) (n : ℕ) → sizes ws p < n → Every (IsFar p (zeros n)) ws
zeros-far [] p n h = tt
zeros-far (w ∷ ws) p n h = (too_long n (sizes ws p) (word_at w p) h, zeros-far ws p n (omega (arith, h)))

-- a text is one of the words, or far from all
near_or_far : (ws : List Word) (p : Point) (t : List ℕ) → Some (λ w. word_at w p ≡ t) ws ⊎ Every (IsFar p t) ws
near_or_far [] p t = inr tt
near_or_far (w ∷ ws) p t = by (bytes_eq (word_at w p) t) refl (near_or_far ws p t)
  where
    by : (b : Bool) → bytes_eq (word_at w p) t ≡ b → Some (λ w. word_at w p ≡ t) ws ⊎ Every (IsFar p t) ws → Some (λ w. word_at w p ≡ t) (w ∷ ws) ⊎ Every (IsFar p t) (w ∷ ws)
    by true e h = inl (inl ((bytes_eq-Decides (word_at w p) t).0 e))
    by false e (inl h) = inl (inr h)
    by false e (inr h) = inr (not_from_Decides (bytes_eq (word_at w p) t) (bytes_eq-Decides (word_at w p) t) e, h)

-- ---- the words of a conjunction, the key without a text
abbrev pub test_words : Test → List Word
test_words (same v w) = v ∷ w ∷ []
test_words (bytes w) = []
test_words (fixed b) = []

abbrev pub candidates : Key → List Claim → List Word
candidates k [] = []
candidates k (c ∷ cs) = map (put_word (silent k)) (test_words c.test) ++ candidates k cs

-- ---- at one of the words
abbrev pub says_if : Bool → Word → Key → Put
says_if true w j = record { number = const (pos 0); word = w }
says_if false w j = record { number = unit j; word = at j }

abbrev pub says : Key → Word → Key → Put
says k w j = says_if (same_key j k) w j

abbrev pub at_word : Key → Conj → Word → Conj
at_word k c w = let d = put (says k w) 1 c in record { lines = d.lines; claims = record { test = bytes w; value = true } ∷ d.claims }

module _ (k : Key) (p q : Point) (x : IsTextExtension p k q) where
  says-numbers : (w : Word) → PutsNumbers (says k w) 1 p q
  says-numbers w = record { den = let d = x.den in omega arith; number = λ j. by j (same_key j k) refl }
    where
      by : (j : Key) (b : Bool) → same_key j k ≡ b
          → number_at q j ≡ linear_at (says_if b w j).number p
      by j true e = number_at-text_extended p k q x j e ∙ sym (linear-zero p)
      by j false e = number_at-text_kept p k q x j e ∙ sym (linear-unit j p)

  says-texts : (w : Word) → word_at w p ≡ x.value → PutsTexts (says k w) p q
  says-texts w f = record { text = λ j. by j (same_key j k) refl }
    where
      by : (j : Key) (b : Bool) → same_key j k ≡ b → text_at q j ≡ word_at (says_if b w j).word p
      by j true e = text_at-extended p k q x j e ∙ sym f
      by j false e = text_at-kept p k q x j e

  word_sound : (c : Conj) (w : Word) → word_at w p ≡ x.value → ConjHolds q c → ConjHolds p (at_word k c w)
  word_sound c w f h =
      let d = (conj_put (says k w) 1 p q (says-numbers w) (says-texts w f) c).1 h in
      record { lines = d.lines; claims = (ap all_bytes f ∙ bytes_to x.value x.bytes, d.claims) }

  word_exact : (c : Conj) (w : Word) → word_at w p ≡ x.value → ConjHolds p (at_word k c w) → ConjHolds q c
  word_exact c w f h = (conj_put (says k w) 1 p q (says-numbers w) (says-texts w f) c).0 (record { lines = h.lines; claims = h.claims.1 })

-- ---- at a text that is none of the words
abbrev pub is_key : Key → Word → Bool
is_key k (at j) = same_key j k
is_key k (quoted t) = false

abbrev pub fresh_same : Bool → Bool → Word → Word → Test
fresh_same true true v w = fixed true
fresh_same true false v w = fixed false
fresh_same false true v w = fixed false
fresh_same false false v w = same v w

abbrev pub fresh_test : Key → Test → Test
fresh_test k (same v w) = fresh_same (is_key k v) (is_key k w) v w
fresh_test k (bytes w) = cond (is_key k w) (fixed true) (bytes w)
fresh_test k (fixed b) = fixed b

abbrev pub fresh_claim : Key → Claim → Claim
fresh_claim k c = record { test = fresh_test k c.test; value = c.value }

abbrev pub fresh : Key → Conj → Conj
fresh k c = record { lines = map (put_line (says k (quoted [])) 1) c.lines; claims = map (fresh_claim k) c.claims }

abbrev pub without_text : Key → Conj → List Conj
without_text k c = fresh k c ∷ map (at_word k c) (candidates k c.claims)

not_same : (s t : List ℕ) → ¬ (s ≡ t) → false ≡ bytes_eq s t
not_same s t n = by (bytes_eq s t) refl
  where
    by : (b : Bool) → bytes_eq s t ≡ b → false ≡ b
    by true e = absurd (n ((bytes_eq-Decides s t).0 e))
    by false e = refl

module _ (k : Key) (p q : Point) (x : IsTextExtension p k q) where
  word_here : (w : Word) → is_key k w ≡ true → word_at w q ≡ x.value
  word_here (at j) e = text_at-extended p k q x j e
  word_here (quoted t) e = absurd (true≢false (sym e))

  word_away : (w : Word) → is_key k w ≡ false → word_at w q ≡ word_at w p
  word_away (at j) e = text_at-kept p k q x j e
  word_away (quoted t) e = refl

  put_away : (w : Word) → is_key k w ≡ false → put_word (silent k) w ≡ w
  put_away (at j) e = rw e refl
  put_away (quoted t) e = refl

  far_away : (w : Word) → is_key k w ≡ false → IsFar p x.value (put_word (silent k) w) → ¬ (word_at w p ≡ x.value)
  far_away w e f = subst (IsFar p x.value) (put_away w e) f

  fresh-same : (v w : Word) → IsFar p x.value (put_word (silent k) v) → IsFar p x.value (put_word (silent k) w) → (a b : Bool) → is_key k v ≡ a → is_key k w ≡ b
      → test_at (fresh_same a b v w) p ≡ bytes_eq (word_at v q) (word_at w q)
  fresh-same v w f g true true d e = rw (word_here v d, word_here w e) (sym ((bytes_eq-Decides x.value x.value).1 refl))
  fresh-same v w f g true false d e = rw (word_here v d, word_away w e) (not_same x.value (word_at w p) (λ z. far_away w e g (sym z)))
  fresh-same v w f g false true d e = rw (word_away v d, word_here w e) (not_same (word_at v p) x.value (far_away v d f))
  fresh-same v w f g false false d e = rw (word_away v d, word_away w e) refl

  fresh-bytes : (w : Word) (b : Bool) → is_key k w ≡ b → test_at (cond b (fixed true) (bytes w)) p ≡ all_bytes (word_at w q)
  fresh-bytes w true e = sym (ap all_bytes (word_here w e) ∙ bytes_to x.value x.bytes)
  fresh-bytes w false e = ap all_bytes (sym (word_away w e))

  fresh-test : (t : Test) → Every (IsFar p x.value) (map (put_word (silent k)) (test_words t)) → test_at (fresh_test k t) p ≡ test_at t q
  fresh-test (same v w) f = fresh-same v w f.0 f.1.0 (is_key k v) (is_key k w) refl refl
  fresh-test (bytes w) f = fresh-bytes w (is_key k w) refl
  fresh-test (fixed b) f = refl

  claims_fresh : (cs : List Claim) → Every (IsFar p x.value) (candidates k cs) → Every (ClaimHolds q) cs → Every (ClaimHolds p) (map (fresh_claim k) cs)
  claims_fresh [] f h = tt
  claims_fresh (c ∷ cs) f h =
      let ws = map (put_word (silent k)) (test_words c.test) in
      (fresh-test c.test (every-left (IsFar p x.value) ws (candidates k cs) f) ∙ h.0, claims_fresh cs (every-right (IsFar p x.value) ws (candidates k cs) f) h.1)

  claims_unfresh : (cs : List Claim) → Every (IsFar p x.value) (candidates k cs) → Every (ClaimHolds p) (map (fresh_claim k) cs) → Every (ClaimHolds q) cs
  claims_unfresh [] f h = tt
  claims_unfresh (c ∷ cs) f h =
      let ws = map (put_word (silent k)) (test_words c.test) in
      (sym (fresh-test c.test (every-left (IsFar p x.value) ws (candidates k cs) f)) ∙ h.0, claims_unfresh cs (every-right (IsFar p x.value) ws (candidates k cs) f) h.1)

  fresh_sound : (c : Conj) → Every (IsFar p x.value) (candidates k c.claims) → ConjHolds q c → ConjHolds p (fresh k c)
  fresh_sound c f h = record {
    lines = lines_unput (says k (quoted [])) 1 p q (says-numbers k p q x (quoted [])) c.lines h.lines;
    claims = claims_fresh c.claims f h.claims;
  }

  fresh_exact : (c : Conj) → Every (IsFar p x.value) (candidates k c.claims) → ConjHolds p (fresh k c) → ConjHolds q c
  fresh_exact c f h = record {
    lines = lines_put (says k (quoted [])) 1 p q (says-numbers k p q x (quoted [])) c.lines h.lines;
    claims = claims_unfresh c.claims f h.claims;
  }

  pub text_sound : (c : Conj) → ConjHolds q c → SomeHolds (without_text k c) p
  text_sound c h = ⊎_elim
      (λ (s : Some (λ w. word_at w p ≡ x.value) (candidates k c.claims)). inr (some-map (at_word k c) (ConjHolds p) (candidates k c.claims)
      (some_weaker (λ w. word_at w p ≡ x.value) (λ w. ConjHolds p (at_word k c w)) (candidates k c.claims) (λ w e. word_sound k p q x c w e h) s)))
      (λ f. inl (fresh_sound c f h))
      (near_or_far (candidates k c.claims) p x.value)

abbrev pub text_extended : Key → List ℕ → Point → Point
text_extended k t p = record { den = p.den; coords = p.coords ++ (k, text t) ∷ [] }

abbrev pub text_extended_is : (k : Key) (t : List ℕ) (p : Point) → AllBytes t → IsTextExtension p k (text_extended k t p)
text_extended_is k t p h = record { value = t; bytes = h; den = refl; coords = refl }

abbrev pub ExtensionHolds : Key → Point → Conj → Type 0
ExtensionHolds k p c = (q : Point) × (IsTextExtension p k q) × ConjHolds q c

pub text_exact : (k : Key) (p : Point) (c : Conj) → SomeHolds (without_text k c) p → ExtensionHolds k p c
text_exact k p c (inl h) =
    let n = suc (sizes (candidates k c.claims) p) in
    let q = text_extended k (zeros n) p in
    let x : IsTextExtension p k q = text_extended_is k (zeros n) p (zeros-bytes n) in
    (q, x, fresh_exact k p q x c (zeros-far (candidates k c.claims) p n (omega arith)) h)
text_exact k p c (inr s) = from_some (λ w. ConjHolds p (at_word k c w)) (ExtensionHolds k p c) (candidates k c.claims) each (some-unmap (at_word k c) (ConjHolds p) (candidates k c.claims) s)
  where
    each : (w : Word) → ConjHolds p (at_word k c w) → ExtensionHolds k p c
    each w h =
        let q = text_extended k (word_at w p) p in
        let x : IsTextExtension p k q = text_extended_is k (word_at w p) p (bytes_from (word_at w p) h.claims.0) in
        (q, x, word_exact k p q x c w refl h)
