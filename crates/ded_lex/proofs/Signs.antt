-- The rests of signs are those of the definition, and each sign is read.
use Rattle.std.proofs.Common.{◌≡◌, ◌⊎◌, ℕ, ◌+◌, List, [], ◌∷◌, ◌++◌, length, refl, sym, ap, ◌∙◌, subst, inl, inr, ⊎_elim, Bool, true, false}
use Rattle.std.specs.Prelude.{Some, None, ◌==◌, ◌||◌, ◌&&◌}
use Rattle.std.proofs.lemmas.Bool.{eqb-true}
use Rattle.ded_lex.specs.declared.token.TokenKind.TheVariants.{Sign as SignKind}
use Rattle.ded_lex.specs.Lexemes.{BeginsNot, equals_byte, dash_byte, IsOneOf, lone_signs, open_signs, IsSign}
use Rattle.ded_lex.specs.Fronts.{begins_with, lone_sign, open_sign, sign_rest, front_of}
use Rattle.ded_lex.proofs.Cases.{same_some, none_some}
use Rattle.ded_model.proofs.Members.{or_split}

or_byte : {C : Type 0} (b k : ℕ) (y : Bool) → (b ≡ k → C) → (y ≡ true → C) → ((b == k) || y) ≡ true → C
or_byte b k y here there e = ⊎_elim (λ h. here (eqb-true b k h)) there (or_split (b == k) y e)

single : (b k : ℕ) → b ≡ k → b ∷ [] ≡ k ∷ []
single b k e = ap (λ (x : ℕ). x ∷ []) e

abbrev IsLone : ℕ → Type 0
IsLone b = IsOneOf (b ∷ []) lone_signs ⊎ (b ≡ 45)

lone_is : (b : ℕ) → lone_sign b ≡ true → IsLone b
lone_is b h =
    or_byte b 40 _ (λ e. inl (inl (single b 40 e)))
    (λ h1. or_byte b 41 _ (λ e. inl (inr (inl (single b 41 e))))
    (λ h2. or_byte b 123 _ (λ e. inl (inr (inr (inl (single b 123 e)))))
    (λ h3. or_byte b 125 _ (λ e. inl (inr (inr (inr (inl (single b 125 e))))))
    (λ h4. or_byte b 44 _ (λ e. inl (inr (inr (inr (inr (inl (single b 44 e)))))))
    (λ h5. or_byte b 61 _ (λ e. inl (inr (inr (inr (inr (inr (inl (single b 61 e))))))))
    (λ h6. or_byte b 43 _ (λ e. inl (inr (inr (inr (inr (inr (inr (inl (single b 43 e)))))))))
    (λ h7. or_byte b 42 _ (λ e. inl (inr (inr (inr (inr (inr (inr (inr (inl (single b 42 e))))))))))
    (λ h8. or_byte b 47 _ (λ e. inl (inr (inr (inr (inr (inr (inr (inr (inr (inl (single b 47 e)))))))))))
    (λ h9. inr (eqb-true b 45 h9)) h8) h7) h6) h5) h4) h3) h2) h1) h

open_is : (b : ℕ) → open_sign b ≡ true → IsOneOf (b ∷ []) open_signs
open_is b h =
    or_byte b 58 _ (λ e. inl (single b 58 e))
    (λ h1. or_byte b 60 _ (λ e. inr (inl (single b 60 e))) (λ h2. inr (inr (inl (single b 62 (eqb-true b 62 h2))))) h1) h

double : (b k c : ℕ) → b ≡ k → c ≡ 61 → b ∷ c ∷ [] ≡ k ∷ 61 ∷ []
double b k c e f = ap (λ (x : ℕ). x ∷ c ∷ []) e ∙ ap (λ (x : ℕ). k ∷ x ∷ []) f

two_is : (b c : ℕ) → (open_sign b || (b == 33)) ≡ true → c ≡ 61 → IsOneOf (b ∷ c ∷ []) lone_signs
two_is b c h f = ⊎_elim
    (λ (o : open_sign b ≡ true).
    or_byte b 58 _ (λ e. at_nine (double b 58 c e f))
    (λ o1. or_byte b 60 _ (λ e. at_ten (double b 60 c e f)) (λ o2. at_eleven (double b 62 c (eqb-true b 62 o2) f)) o1) o)
    (λ (n : (b == 33) ≡ true). at_twelve (double b 33 c (eqb-true b 33 n) f))
    (or_split (open_sign b) (b == 33) h)
  where
    at_nine : b ∷ c ∷ [] ≡ 58 ∷ 61 ∷ [] → IsOneOf (b ∷ c ∷ []) lone_signs
    at_nine e = inr (inr (inr (inr (inr (inr (inr (inr (inr (inl e)))))))))

    at_ten : b ∷ c ∷ [] ≡ 60 ∷ 61 ∷ [] → IsOneOf (b ∷ c ∷ []) lone_signs
    at_ten e = inr (inr (inr (inr (inr (inr (inr (inr (inr (inr (inl e))))))))))

    at_eleven : b ∷ c ∷ [] ≡ 62 ∷ 61 ∷ [] → IsOneOf (b ∷ c ∷ []) lone_signs
    at_eleven e = inr (inr (inr (inr (inr (inr (inr (inr (inr (inr (inr (inl e)))))))))))

    at_twelve : b ∷ c ∷ [] ≡ 33 ∷ 61 ∷ [] → IsOneOf (b ∷ c ∷ []) lone_signs
    at_twelve e = inr (inr (inr (inr (inr (inr (inr (inr (inr (inr (inr (inr (inl e))))))))))))

-- A sign of so many bytes behind the first one.
pub record SignRead (b : ℕ) (bs : List ℕ) (n : ℕ) : Type 0 where
  pub text : List ℕ
  pub rest : List ℕ
  pub is : b ∷ bs ≡ text ++ rest
  pub sign : IsSign text rest
  pub count : n + 1 ≡ length text

begins_not : (c : ℕ) (bs : List ℕ) → begins_with c bs ≡ false → BeginsNot (λ x. x == c) bs
begins_not c [] h = tt
begins_not c (b ∷ bs) h = h

lone_read : (b : ℕ) (bs : List ℕ) → ((b == 45) && begins_with 45 bs) ≡ false → IsLone b → SignRead b bs 0
lone_read b bs free (inl one) = record { text = b ∷ []; rest = bs; is = refl; sign = inl one; count = refl }
lone_read b bs free (inr dash) =
    let no_dash : begins_with 45 bs ≡ false = subst (λ (x : ℕ). ((x == 45) && begins_with 45 bs) ≡ false) dash free in
    record { text = b ∷ []; rest = bs; is = refl; sign = inr (inr (single b 45 dash, begins_not 45 bs no_dash)); count = refl }

two_read : (b : ℕ) (bs : List ℕ) → (open_sign b || (b == 33)) ≡ true → begins_with 61 bs ≡ true → SignRead b bs 1
two_read b [] h e = absurd cc
two_read b (c ∷ cs) h e = record { text = b ∷ c ∷ []; rest = cs; is = refl; sign = inl (two_is b c h (eqb-true c 61 e)); count = refl }

open_read : (b : ℕ) (bs : List ℕ) → open_sign b ≡ true → begins_with 61 bs ≡ false → SignRead b bs 0
open_read b bs h free = record { text = b ∷ []; rest = bs; is = refl; sign = inr (inl (open_is b h, begins_not 61 bs free)); count = refl }

pub sign_sound : (b : ℕ) (bs : List ℕ) (n : ℕ) → ((b == 45) && begins_with 45 bs) ≡ false → sign_rest b bs ≡ Some n → SignRead b bs n
sign_sound b bs n free e = by_tests (lone_sign b) (open_sign b) (begins_with 61 bs) refl refl refl e
  where
    by_tests : (lone opens equals : Bool) → lone_sign b ≡ lone → open_sign b ≡ opens → begins_with 61 bs ≡ equals → sign_rest b bs ≡ Some n → SignRead b bs n
    by_tests true opens equals l o q h =
        let h1 : Some 0 ≡ Some n = rw l at h in
        subst (λ (k : ℕ). SignRead b bs k) (same_some h1) (lone_read b bs free (lone_is b l))
    by_tests false true true l o q h =
        let h1 : Some 1 ≡ Some n = rw (l, o, q) at h in
        let either : (open_sign b || (b == 33)) ≡ true = rw o refl in
        subst (λ (k : ℕ). SignRead b bs k) (same_some h1) (two_read b bs either q)
    by_tests false true false l o q h =
        let h1 : Some 0 ≡ Some n = rw (l, o, q) at h in
        subst (λ (k : ℕ). SignRead b bs k) (same_some h1) (open_read b bs o q)
    by_tests false false equals l o q h = by_not (b == 33) equals refl q h
      where
        by_not : (nots equals : Bool) → (b == 33) ≡ nots → begins_with 61 bs ≡ equals → sign_rest b bs ≡ Some n → SignRead b bs n
        by_not true true t q h =
            let h1 : Some 1 ≡ Some n = rw (l, o, t, q) at h in
            let either : (open_sign b || (b == 33)) ≡ true = rw (o, t) refl in
            subst (λ (k : ℕ). SignRead b bs k) (same_some h1) (two_read b bs either q)
        by_not true false t q h = let h1 : None ≡ Some n = rw (l, o, t, q) at h in absurd (none_some h1)
        by_not false equals t q h = let h1 : None ≡ Some n = rw (l, o, t) at h in absurd (none_some h1)

-- Each sign is read at the front.
abbrev pub ReadsSign : List ℕ → List ℕ → Type 0
ReadsSign bs next = front_of (bs ++ next) ≡ Some (record { kind = Some SignKind; length = length bs })

lone_found : (bs next : List ℕ) → IsOneOf bs lone_signs → ReadsSign bs next
lone_found bs next (inl e) = subst (λ (l : List ℕ). ReadsSign l next) (sym e) refl
lone_found bs next (inr (inl e)) = subst (λ (l : List ℕ). ReadsSign l next) (sym e) refl
lone_found bs next (inr (inr (inl e))) = subst (λ (l : List ℕ). ReadsSign l next) (sym e) refl
lone_found bs next (inr (inr (inr (inl e)))) = subst (λ (l : List ℕ). ReadsSign l next) (sym e) refl
lone_found bs next (inr (inr (inr (inr (inl e))))) = subst (λ (l : List ℕ). ReadsSign l next) (sym e) refl
lone_found bs next (inr (inr (inr (inr (inr (inl e)))))) = subst (λ (l : List ℕ). ReadsSign l next) (sym e) refl
lone_found bs next (inr (inr (inr (inr (inr (inr (inl e))))))) = subst (λ (l : List ℕ). ReadsSign l next) (sym e) refl
lone_found bs next (inr (inr (inr (inr (inr (inr (inr (inl e)))))))) = subst (λ (l : List ℕ). ReadsSign l next) (sym e) refl
lone_found bs next (inr (inr (inr (inr (inr (inr (inr (inr (inl e))))))))) = subst (λ (l : List ℕ). ReadsSign l next) (sym e) refl
lone_found bs next (inr (inr (inr (inr (inr (inr (inr (inr (inr (inl e)))))))))) = subst (λ (l : List ℕ). ReadsSign l next) (sym e) refl
lone_found bs next (inr (inr (inr (inr (inr (inr (inr (inr (inr (inr (inl e))))))))))) = subst (λ (l : List ℕ). ReadsSign l next) (sym e) refl
lone_found bs next (inr (inr (inr (inr (inr (inr (inr (inr (inr (inr (inr (inl e)))))))))))) = subst (λ (l : List ℕ). ReadsSign l next) (sym e) refl
lone_found bs next (inr (inr (inr (inr (inr (inr (inr (inr (inr (inr (inr (inr (inl e))))))))))))) = subst (λ (l : List ℕ). ReadsSign l next) (sym e) refl
lone_found bs next (inr (inr (inr (inr (inr (inr (inr (inr (inr (inr (inr (inr (inr (none)))))))))))))) = absurd none

colon_found : (next : List ℕ) → BeginsNot equals_byte next → ReadsSign (58 ∷ []) next
colon_found [] free = refl
colon_found (c ∷ cs) free = rw free refl

less_found : (next : List ℕ) → BeginsNot equals_byte next → ReadsSign (60 ∷ []) next
less_found [] free = refl
less_found (c ∷ cs) free = rw free refl

greater_found : (next : List ℕ) → BeginsNot equals_byte next → ReadsSign (62 ∷ []) next
greater_found [] free = refl
greater_found (c ∷ cs) free = rw free refl

open_found : (bs next : List ℕ) → IsOneOf bs open_signs → BeginsNot equals_byte next → ReadsSign bs next
open_found bs next (inl e) free = subst (λ (l : List ℕ). ReadsSign l next) (sym e) (colon_found next free)
open_found bs next (inr (inl e)) free = subst (λ (l : List ℕ). ReadsSign l next) (sym e) (less_found next free)
open_found bs next (inr (inr (inl e))) free = subst (λ (l : List ℕ). ReadsSign l next) (sym e) (greater_found next free)
open_found bs next (inr (inr (inr none))) free = absurd none

dash_found : (next : List ℕ) → BeginsNot dash_byte next → ReadsSign (45 ∷ []) next
dash_found [] free = refl
dash_found (c ∷ cs) free = rw free refl

pub sign_found : (bs next : List ℕ) → IsSign bs next → ReadsSign bs next
sign_found bs next (inl one) = lone_found bs next one
sign_found bs next (inr (inl one)) = open_found bs next one.0 one.1
sign_found bs next (inr (inr dash)) = subst (λ (l : List ℕ). ReadsSign l next) (sym dash.0) (dash_found next dash.1)
