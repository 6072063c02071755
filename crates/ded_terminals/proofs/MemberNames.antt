-- The name of a member is a word, or made of one.
use Rattle.std.proofs.Common.{◌≡◌, ◌⊎◌, ◌==◌, ◌||◌, ℕ, Bool, true, false, List, [], ◌∷◌, refl, sym, ap, subst, ◌∙◌, true≢false, arith, inl, inr}
use Rattle.std.specs.List.{list_any}
use Rattle.std.proofs.lemmas.Bool.Decides.{nat_tests}
use Rattle.ded_lex.specs.Lexemes.{Each, word_byte}
use Rattle.ded_model.specs.Made.{base, base_by, is_made, closure_name, interior_name}
use Rattle.ded_model.proofs.Made.{plain_name, plain_base, reading-closure, reading-interior}
use Rattle.ded_terminals.specs.Atoms.{Named, plain, closed, inner, name_of}
use Rattle.ded_terminals.specs.MemberNames.{IsWordName, IsMemberName, word_of}

forty : (b : ℕ) → (b == 40) ≡ true → b ≡ 40
forty b e = grind (arith, nat_tests, e)

no_parenthesis : (b : ℕ) → word_byte b ≡ true → (b == 40) ≡ false
no_parenthesis b h = by (b == 40) refl
  where
    by : (t : Bool) → (b == 40) ≡ t → (b == 40) ≡ false
    by true e = absurd (true≢false (sym h ∙ ap word_byte (forty b e)))
    by false e = e

none_of : (n : List ℕ) → Each word_byte n → list_any (λ b. b == 40) n ≡ false
none_of [] h = refl
none_of (b ∷ n) h = λ i. no_parenthesis b h.0 i || none_of n h.1 i

-- a word is not made of another name
pub unmade_word : (n : List ℕ) → IsWordName n → is_made n ≡ false
unmade_word n h = plain_name n (none_of n h.1)

pub word_member : (n : List ℕ) → IsWordName n → IsMemberName n
word_member n h =
    let same = plain_base n (unmade_word n h) in
    record { word = subst IsWordName (sym same) h; is = inl (sym same) }

pub closure_member : (n : List ℕ) → IsWordName n → IsMemberName (closure_name n)
closure_member n h =
    let same : base (closure_name n) ≡ n = ap (base_by (closure_name n)) (reading-closure n) in
    record { word = subst IsWordName (sym same) h; is = inr (inl (ap closure_name (sym same))) }

pub interior_member : (n : List ℕ) → IsWordName n → IsMemberName (interior_name n)
interior_member n h =
    let same : base (interior_name n) ≡ n = ap (base_by (interior_name n)) (reading-interior n) in
    record { word = subst IsWordName (sym same) h; is = inr (inr (ap interior_name (sym same))) }

-- the name that is spelled, of a word
pub named_member : (m : Named) → IsWordName (word_of m) → IsMemberName (name_of m)
named_member (plain n) h = word_member n h
named_member (closed n) h = closure_member n h
named_member (inner n) h = interior_member n h

-- a name that a member may have is spelled
pub member_named : (n : List ℕ) → IsMemberName n → (m : Named) × IsWordName (word_of m) × (n ≡ name_of m)
member_named n h = by h.is
  where
    by : (n ≡ base n) ⊎ (n ≡ closure_name (base n)) ⊎ (n ≡ interior_name (base n)) → (m : Named) × IsWordName (word_of m) × (n ≡ name_of m)
    by (inl e) = (plain (base n), h.word, e)
    by (inr (inl e)) = (closed (base n), h.word, e)
    by (inr (inr e)) = (inner (base n), h.word, e)
