-- Copies of entries are made one after another, and have the same numbers.
use Rattle.std.proofs.Common.{◌≡◌, ℕ, Bool, true, false, cond, Some, IfSome, option_map, List, [], ◌∷◌, ◌++◌, append_assoc, append-nil, refl, sym, ap, ◌∙◌, subst, bytes_eq, None}
use Rattle.std.specs.List.{AllByRecursion, IsDistinct}
use Rattle.std.specs.Map.{keys_of, lookup}
use Rattle.std.proofs.lemmas.Map.Keys.{IsDistinct-head, IsDistinct-tail}
use Rattle.ded_model.specs.Form.{speaks_of}
use Rattle.ded_catalog.specs.declared.entries.NameEntry.{NameEntry}
use Rattle.ded_catalog.specs.declared.stored.Stored.{Stored}
use Rattle.ded_catalog.specs.declared.stored.Stored.TheVariants.{Relation, View}
use Rattle.ded_catalog.specs.Copies.{IsCopy, AreCopies}
use Rattle.ded_catalog.specs.State.{stored_uses}
use Rattle.ded_catalog.specs.Users.{AreCopied, AreCounted, more, users_at, users_in, without_users}
use Rattle.ded_catalog.proofs.Keeping.{turned}
use Rattle.ded_catalog.proofs.WithoutUsers.{none_among}

-- ---- entry by entry

-- what is done of them has copies, in their order
pub record AreUnderCopy (all rest new : List (List ℕ × NameEntry)) : Type 0 where
  pub done : List (List ℕ × NameEntry)
  pub split : all ≡ done ++ rest
  pub copied : AreCopied done new

pub copy_none : (all rest new : List (List ℕ × NameEntry)) → rest ≡ all → new ≡ [] → AreUnderCopy all rest new
copy_none all rest new d e = record { done = []; split = sym d; copied = subst (AreCopied []) (sym e) tt }

copied_push : (es fs : List (List ℕ × NameEntry)) (p q : List ℕ × NameEntry) → (q.0 ≡ p.0) × IsCopy p.1.stored q.1.stored × (q.1.users ≡ p.1.users) → AreCopied es fs → AreCopied (es ++ p ∷ []) (fs ++ q ∷ [])
copied_push [] [] p q h c = (h, tt)
copied_push [] (f ∷ fs) p q h c = absurd c
copied_push (e ∷ es) [] p q h c = absurd c
copied_push (e ∷ es) (f ∷ fs) p q h c = (c.0, copied_push es fs p q h c.1)

-- with one copy more
pub copy_more : (all left rest new next : List (List ℕ × NameEntry)) (p q : List ℕ × NameEntry) → left ≡ p ∷ rest → next ≡ new ++ q ∷ [] → (q.0 ≡ p.0) × IsCopy p.1.stored q.1.stored × (q.1.users ≡ p.1.users)
    → AreUnderCopy all left new → AreUnderCopy all rest next
copy_more all left rest new next p q step e same h = record {
  done = h.done ++ p ∷ [];
  split = h.split ∙ ap (λ l. h.done ++ l) step ∙ sym (append_assoc h.done (p ∷ []) rest);
  copied = subst (AreCopied (h.done ++ p ∷ [])) (sym e) (copied_push h.done new p q same h.copied);
}

-- with none left
pub copy_all : (all rest new : List (List ℕ × NameEntry)) → rest ≡ [] → AreUnderCopy all rest new → AreCopied all new
copy_all all rest new e h = subst (λ l. AreCopied l new) (sym (h.split ∙ ap (λ l. h.done ++ l) e ∙ append-nil h.done)) h.copied

keys_copied : (es fs : List (List ℕ × NameEntry)) → AreCopied es fs → keys_of fs ≡ keys_of es
keys_copied [] [] c = refl
keys_copied [] (f ∷ fs) c = absurd c
keys_copied (e ∷ es) [] c = absurd c
keys_copied (e ∷ es) (f ∷ fs) c = λ i. c.0.0 i ∷ keys_copied es fs c.1 i

-- a name stands nowhere before its place
not_before : (n : List ℕ) (x : NameEntry) (done rest : List (List ℕ × NameEntry)) → IsDistinct bytes_eq (keys_of (done ++ (n, x) ∷ rest)) → AllByRecursion (λ k. bytes_eq n k ≡ false) (keys_of done)
not_before n x [] rest h = tt
not_before n x (e ∷ done) rest h = (
  turned n e.0 (bytes_eq n e.0) refl (among done (IsDistinct-head bytes_eq e.0 (keys_of (done ++ (n, x) ∷ rest)) h)),
  not_before n x done rest (IsDistinct-tail bytes_eq e.0 (keys_of (done ++ (n, x) ∷ rest)) h),
)
  where
    among : (es : List (List ℕ × NameEntry)) → AllByRecursion (λ k. bytes_eq e.0 k ≡ false) (keys_of (es ++ (n, x) ∷ rest)) → bytes_eq e.0 n ≡ false
    among [] a = a.0
    among (f ∷ es) a = among es a.1

-- the next name has no copy yet, as each stands once
pub copy_new : (all left rest new : List (List ℕ × NameEntry)) (n m : List ℕ) (x : NameEntry) → left ≡ (n, x) ∷ rest → m ≡ n → IsDistinct bytes_eq (keys_of all) → AreUnderCopy all left new → lookup (bytes_eq m) new ≡ None
copy_new all left rest new n m x step e d h =
    none_among m new
    (subst (λ k. AllByRecursion (λ j. bytes_eq k j ≡ false) (keys_of new)) (sym e)
    (subst (AllByRecursion (λ j. bytes_eq n j ≡ false)) (sym (keys_copied h.done new h.copied))
    (not_before n x h.done rest (subst (λ l. IsDistinct bytes_eq (keys_of l)) (h.split ∙ ap (λ l. h.done ++ l) step) d))))

-- ---- their numbers

pub plain_copied : (es fs : List (List ℕ × NameEntry)) → AreCopied es fs → AreCopies (without_users es) (without_users fs)
plain_copied [] [] c = tt
plain_copied [] (f ∷ fs) c = absurd c
plain_copied (e ∷ es) [] c = absurd c
plain_copied (e ∷ es) (f ∷ fs) c = ((c.0.0, c.0.1), plain_copied es fs c.1)

uses_copied : (s w : Stored) (n : List ℕ) → IsCopy s w → stored_uses n w ≡ stored_uses n s
uses_copied (Relation r) (Relation s) n c = refl
uses_copied (Relation r) (View w) n c = absurd c
uses_copied (View v) (Relation s) n c = absurd c
uses_copied (View v) (View w) n c = ap (speaks_of n) c.1

users_copied : (es fs : List (List ℕ × NameEntry)) (n : List ℕ) → AreCopied es fs → users_in (without_users fs) n ≡ users_in (without_users es) n
users_copied [] [] n c = refl
users_copied [] (f ∷ fs) n c = absurd c
users_copied (e ∷ es) [] n c = absurd c
users_copied (e ∷ es) (f ∷ fs) n c = λ i. more (uses_copied e.1.stored f.1.stored n c.0.1 i) (users_copied es fs n c.1 i)

found_copied : (es fs : List (List ℕ × NameEntry)) (n : List ℕ) → AreCopied es fs → users_at n fs ≡ users_at n es
found_copied [] [] n c = refl
found_copied [] (f ∷ fs) n c = absurd c
found_copied (e ∷ es) [] n c = absurd c
found_copied (e ∷ es) (f ∷ fs) n c = ap (λ k. option_map (λ x. x.users) (cond (bytes_eq n k) (Some f.1) (lookup (bytes_eq n) fs))) c.0.0 ∙ by (bytes_eq n e.0) (found_copied es fs n c.1)
  where
    by : (b : Bool) → users_at n fs ≡ users_at n es → option_map (λ x. x.users) (cond b (Some f.1) (lookup (bytes_eq n) fs)) ≡ option_map (λ x. x.users) (cond b (Some e.1) (lookup (bytes_eq n) es))
    by true h = ap Some c.0.2
    by false h = h

-- numbers that count do so in copies
pub counted_copy : (es fs : List (List ℕ × NameEntry)) → AreCopied es fs → AreCounted (λ n. false) es → AreCounted (λ n. false) fs
counted_copy es fs c h = record { each = λ n. subst (λ o. IfSome o (λ k. k ≡ users_in (without_users fs) n)) (sym (found_copied es fs n c)) (subst (λ u. IfSome (users_at n es) (λ k. k ≡ u)) (sym (users_copied es fs n c)) (h.each n)) }
