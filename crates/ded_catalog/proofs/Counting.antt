-- The number kept with each name is that of the views that speak of it.
use Rattle.std.proofs.Common.{◌≡◌, ℕ, zero, suc, ◌+◌, ◌-◌, ◌<◌, ◌≤◌, ◌^◌, nat_lt, Bool, true, false, ◌||◌, cond, List, [], ◌∷◌, ◌++◌, length, take, get_or, map, Option, None, Some, IfSome, refl, sym, ap, ◌∙◌, subst, true≢false, bytes_eq, option_map, arith}
use Rattle.std.specs.List.{list_any}
use Rattle.std.specs.Map.{lookup, set_value, remove_entry}
use Rattle.std.proofs.lemmas.Bool.Decides.{nat_tests}
use Rattle.std.proofs.lemmas.List.{take_all}
use Rattle.std.proofs.lemmas.List.Folds.{list_any_more, list_any_at}
use Rattle.std.proofs.lemmas.Option.{none-some, same_Some}
use Rattle.ded_num.proofs.Tests.{from_same_texts}
use Rattle.ded_model.proofs.Bools.{bytes_eq-refl}
use Rattle.ded_model.specs.Form.{Form, speaks_of}
use Rattle.ded_catalog.specs.declared.entries.NameEntry.{NameEntry}
use Rattle.ded_relation.specs.declared.relation.Relation.{Relation}
use Rattle.ded_catalog.specs.declared.stored.Stored.{Stored}
use Rattle.ded_catalog.specs.declared.stored.Stored.TheVariants as stored
use Rattle.ded_catalog.specs.Mentions.{AreMentions, AreOnce}
use Rattle.ded_catalog.specs.State.{stored_uses}
use Rattle.ded_catalog.specs.Users.{Alters, AreCounted, AreUsed, HaveRoom, Raises, more, users_at, users_in, without_users}
use Rattle.ded_catalog.proofs.WithoutUsers.{append-plain, apart, lookup-set, remove-other, changes_plain}

-- ---- numbers that may be there

through : (o : Option ℕ) (f : ℕ → ℕ) (P Q : ℕ → Type 0) → ((k : ℕ) → P k → Q (f k)) → IfSome o P → IfSome (option_map f o) Q
through None f P Q g h = tt
through (Some k) f P Q g h = g k h

back : (o : Option ℕ) (f : ℕ → ℕ) (P Q : ℕ → Type 0) → ((k : ℕ) → Q (f k) → P k) → IfSome (option_map f o) Q → IfSome o P
back None f P Q g h = tt
back (Some k) f P Q g h = g k h

weaker : (o : Option ℕ) (P Q : ℕ → Type 0) → ((k : ℕ) → P k → Q k) → IfSome o P → IfSome o Q
weaker None P Q g h = tt
weaker (Some k) P Q g h = g k h

cancel : (b : Bool) (k u : ℕ) → more b k ≡ more b u → k ≡ u
cancel true k u e = omega (arith, e)
cancel false k u e = e

swap : (a b : Bool) (k : ℕ) → more a (more b k) ≡ more b (more a k)
swap true true k = refl
swap true false k = refl
swap false true k = refl
swap false false k = refl

-- ---- more numbers than one

pub raises_none : (es : List (List ℕ × NameEntry)) → Raises (λ n. false) es es
raises_none es = record { stored = refl; users = λ n. same (users_at n es) }
  where
    same : (o : Option ℕ) → o ≡ option_map (more false) o
    same None = refl
    same (Some k) = refl

-- those of one test, and then those of another
raises_then : (p q r : List ℕ → Bool) (es fs gs : List (List ℕ × NameEntry)) → ((n : List ℕ) (k : ℕ) → more (r n) k ≡ more (q n) (more (p n) k)) → Raises p es fs → Raises q fs gs → Raises r es gs
raises_then p q r es fs gs both a b = record {
  stored = b.stored ∙ a.stored;
  users = λ n. b.users n ∙ ap (option_map (more (q n))) (a.users n) ∙ by n (users_at n es);
}
  where
    by : (n : List ℕ) (o : Option ℕ) → option_map (more (q n)) (option_map (more (p n)) o) ≡ option_map (more (r n)) o
    by n None = refl
    by n (Some k) = ap Some (sym (both n k))

-- a name of a list stands nowhere before its place
pub once_before : (ns : List (List ℕ)) (i : ℕ) (m : List ℕ) → AreOnce ns → i < length ns → list_any (bytes_eq (get_or ns i m)) (take i ns) ≡ false
once_before [] zero m o lt = refl
once_before [] (suc i) m o lt = refl
once_before (n ∷ ns) zero m o lt = refl
once_before (n ∷ ns) (suc i) m o lt = both (bytes_eq x n) (list_any (bytes_eq x) (take i ns)) (other (bytes_eq x n) refl) (once_before ns i m o.1 (omega (arith, lt)))
  where
    x : List ℕ
    x = get_or ns i m

    both : (a b : Bool) → a ≡ false → b ≡ false → (a || b) ≡ false
    both a b p q = λ j. p j || q j

    other : (b : Bool) → bytes_eq x n ≡ b → b ≡ false
    other false e = refl
    other true e =
        let same : x ≡ n = from_same_texts x n e in
        absurd (true≢false (sym (list_any_at (bytes_eq n) ns i m (omega (arith, lt)) (ap (bytes_eq n) same ∙ bytes_eq-refl n)) ∙ o.0))

module _ (ns : List (List ℕ)) (i : ℕ) (m : List ℕ) (once : AreOnce ns) (inside : i < length ns) (is : m ≡ get_or ns i m) where
  -- the name stands nowhere before its place
  pub before : list_any (bytes_eq m) (take i ns) ≡ false
  before = ap (λ x. list_any (bytes_eq x) (take i ns)) is ∙ once_before ns i m once inside

  -- with one name more
  one_more : (n : List ℕ) (k : ℕ) → more (list_any (bytes_eq n) (take (i + 1) ns)) k ≡ more (bytes_eq n m) (more (list_any (bytes_eq n) (take i ns)) k)
  one_more n k =
      ap (λ b. more b k) (list_any_more (bytes_eq n) ns i m inside ∙ ap (λ x. list_any (bytes_eq n) (take i ns) || bytes_eq n x) (sym is))
      ∙ by (list_any (bytes_eq n) (take i ns)) (bytes_eq n m) refl (λ e. ap (λ x. list_any (bytes_eq x) (take i ns)) (from_same_texts n m e) ∙ before)
    where
      by : (a b : Bool) → list_any (bytes_eq n) (take i ns) ≡ a → (b ≡ true → list_any (bytes_eq n) (take i ns) ≡ false) → more (a || b) k ≡ more b (more a k)
      by true true e f = absurd (true≢false (sym e ∙ f refl))
      by true false e f = refl
      by false true e f = refl
      by false false e f = refl

  pub raises_more : (es fs gs : List (List ℕ × NameEntry)) → Raises (λ n. list_any (bytes_eq n) (take i ns)) es fs → Raises (λ n. bytes_eq n m) fs gs → Raises (λ n. list_any (bytes_eq n) (take (i + 1) ns)) es gs
  raises_more es fs gs a b = raises_then (λ n. list_any (bytes_eq n) (take i ns)) (λ n. bytes_eq n m) (λ n. list_any (bytes_eq n) (take (i + 1) ns)) es fs gs one_more a b

  pub lowers_more : (es fs gs : List (List ℕ × NameEntry)) → Raises (λ n. list_any (bytes_eq n) (take i ns)) fs es → Raises (λ n. bytes_eq n m) gs fs → Raises (λ n. list_any (bytes_eq n) (take (i + 1) ns)) gs es
  lowers_more es fs gs a b =
      raises_then (λ n. bytes_eq n m) (λ n. list_any (bytes_eq n) (take i ns)) (λ n. list_any (bytes_eq n) (take (i + 1) ns)) gs fs es
      (λ n k. one_more n k ∙ swap (bytes_eq n m) (list_any (bytes_eq n) (take i ns)) k) b a

  -- there is room for one more
  pub has_room : (es fs : List (List ℕ × NameEntry)) → HaveRoom es → Raises (λ n. list_any (bytes_eq n) (take i ns)) es fs → IfSome (users_at m fs) (λ k. k < 2 ^ 64 - 1)
  has_room es fs room a =
      subst (λ o. IfSome o (λ k. k < 2 ^ 64 - 1)) (sym (a.users m ∙ ap (λ b. option_map (more b) (users_at m es)) before))
      (through (users_at m es) (more false) (λ k. k < 2 ^ 63) (λ k. k < 2 ^ 64 - 1) (λ k h. omega (arith, h)) (room.each m))

  -- there is one that may be taken away
  pub is_used : (es fs : List (List ℕ × NameEntry)) → AreUsed ns es → Raises (λ n. list_any (bytes_eq n) (take i ns)) fs es → IfSome (users_at m fs) (λ k. 0 < k)
  is_used es fs used a =
      let here : list_any (bytes_eq m) ns ≡ true = list_any_at (bytes_eq m) ns i m inside (ap (bytes_eq m) (sym is) ∙ bytes_eq-refl m) in
      back (users_at m fs) (more false) (λ k. 0 < k) (λ k. 0 < k) (λ k h. h)
      (subst (λ o. IfSome o (λ k. 0 < k)) (a.users m ∙ ap (λ b. option_map (more b) (users_at m fs)) before) (used.each m here))

-- with none left
pub raises_all : (ns left : List (List ℕ)) (i : ℕ) (es fs : List (List ℕ × NameEntry)) → left ≡ ns → length left ≤ i → Raises (λ n. list_any (bytes_eq n) (take i left)) es fs → Raises (λ n. list_any (bytes_eq n) ns) es fs
raises_all ns left i es fs e le a = subst (λ l. Raises (λ n. list_any (bytes_eq n) l) es fs) (take_all i left le ∙ e) a

-- ---- all numbers

users-length : (es : List (List ℕ × Stored)) (n : List ℕ) → users_in es n ≤ length es
users-length [] n = omega arith
users-length (e ∷ es) n = by (stored_uses n e.1) (users-length es n)
  where
    by : (b : Bool) → users_in es n ≤ length es → more b (users_in es n) ≤ suc (length es)
    by true h = omega (arith, h)
    by false h = omega (arith, h)

plain-length : (es : List (List ℕ × NameEntry)) → length (without_users es) ≡ length es
plain-length [] = refl
plain-length (e ∷ es) = ap suc (plain-length es)

-- numbers that count have room, as there are fewer views than that
pub room : (es : List (List ℕ × NameEntry)) → length es < 2 ^ 63 → AreCounted (λ n. false) es → HaveRoom es
room es few c = record {
  each = λ n. weaker (users_at n es) (λ k. k ≡ users_in (without_users es) n) (λ k. k < 2 ^ 63)
      (λ k e. omega (arith, e, few, users-length (without_users es) n, plain-length es)) (c.each n);
}

module _ (f : Form) (ns : List (List ℕ)) (names : AreMentions ns f) (es fs : List (List ℕ × NameEntry)) where
  -- with one view more that speaks of the names
  pub counted_more : AreCounted (λ n. false) es → Raises (λ n. list_any (bytes_eq n) ns) es fs → AreCounted (λ n. speaks_of n f) fs
  counted_more c a = record {
    each = λ n.
        subst (λ o. IfSome o (λ k. k ≡ more (speaks_of n f) (users_in (without_users fs) n))) (sym (a.users n))
        (through (users_at n es) (more (list_any (bytes_eq n) ns)) (λ k. k ≡ users_in (without_users es) n) (λ k. k ≡ more (speaks_of n f) (users_in (without_users fs) n))
        (λ k e. (λ i. more (names.all n i) (e i)) ∙ ap (λ l. more (speaks_of n f) (users_in l n)) (sym a.stored))
        (c.each n));
  }

  -- and with one less
  pub counted_less : AreCounted (λ n. speaks_of n f) es → Raises (λ n. list_any (bytes_eq n) ns) fs es → AreCounted (λ n. false) fs
  counted_less c a = record {
    each = λ n.
        back (users_at n fs) (more (list_any (bytes_eq n) ns)) (λ k. k ≡ users_in (without_users fs) n) (λ k. k ≡ more (speaks_of n f) (users_in (without_users es) n))
        (λ k e.
        cancel (speaks_of n f) k (users_in (without_users fs) n)
        (ap (λ b. more b k) (sym (names.all n)) ∙ e ∙ ap (λ l. more (speaks_of n f) (users_in l n)) a.stored))
        (subst (λ o. IfSome o (λ k. k ≡ more (speaks_of n f) (users_in (without_users es) n))) (a.users n) (c.each n));
  }

  -- no number of a name that it speaks of is 0
  pub used_names : AreCounted (λ n. speaks_of n f) es → AreUsed ns es
  used_names c = record {
    each = λ n h. weaker (users_at n es) (λ k. k ≡ more (speaks_of n f) (users_in (without_users es) n)) (λ k. 0 < k)
        (λ k e. above k (users_in (without_users es) n) (e ∙ ap (λ b. more b (users_in (without_users es) n)) (sym (names.all n) ∙ h))) (c.each n);
  }
    where
      above : (k u : ℕ) → k ≡ u + 1 → 0 < k
      above k u e = omega (arith, e)

-- ---- one entry more, and one less

lookup-last : (n m : List ℕ) (es : List (List ℕ × NameEntry)) (x : NameEntry) → lookup (bytes_eq n) es ≡ None → lookup (bytes_eq n) (es ++ (m, x) ∷ []) ≡ cond (bytes_eq n m) (Some x) None
lookup-last n m [] x h = refl
lookup-last n m (e ∷ es) x h = by (bytes_eq n e.0) h (lookup-last n m es x)
  where
    by : (b : Bool) → cond b (Some e.1) (lookup (bytes_eq n) es) ≡ None → (lookup (bytes_eq n) es ≡ None → lookup (bytes_eq n) (es ++ (m, x) ∷ []) ≡ cond (bytes_eq n m) (Some x) None)
        → cond b (Some e.1) (lookup (bytes_eq n) (es ++ (m, x) ∷ [])) ≡ cond (bytes_eq n m) (Some x) None
    by true g next = absurd (none-some e.1 (sym g))
    by false g next = next g

lookup-first : (n m : List ℕ) (es : List (List ℕ × NameEntry)) (x y : NameEntry) → lookup (bytes_eq n) es ≡ Some y → lookup (bytes_eq n) (es ++ (m, x) ∷ []) ≡ Some y
lookup-first n m [] x y h = absurd (none-some y h)
lookup-first n m (e ∷ es) x y h = by (bytes_eq n e.0) h (lookup-first n m es x y)
  where
    by : (b : Bool) → cond b (Some e.1) (lookup (bytes_eq n) es) ≡ Some y → (lookup (bytes_eq n) es ≡ Some y → lookup (bytes_eq n) (es ++ (m, x) ∷ []) ≡ Some y)
        → cond b (Some e.1) (lookup (bytes_eq n) (es ++ (m, x) ∷ [])) ≡ Some y
    by true g next = g
    by false g next = next g

users-append : (es : List (List ℕ × Stored)) (m : List ℕ) (s : Stored) (n : List ℕ) → users_in (es ++ (m, s) ∷ []) n ≡ more (stored_uses n s) (users_in es n)
users-append [] m s n = refl
users-append (e ∷ es) m s n = ap (more (stored_uses n e.1)) (users-append es m s n) ∙ swap (stored_uses n e.1) (stored_uses n s) (users_in es n)

-- the number says whether there are any
any_users : (es : List (List ℕ × Stored)) (n : List ℕ) → nat_lt 0 (users_in es n) ≡ list_any (stored_uses n) (map (λ e. e.1) es)
any_users [] n = refl
any_users (e ∷ es) n = by (stored_uses n e.1) (any_users es n)
  where
    some : (k : ℕ) → nat_lt 0 (k + 1) ≡ true
    some k = grind (arith, nat_tests)

    by : (b : Bool) → nat_lt 0 (users_in es n) ≡ list_any (stored_uses n) (map (λ x. x.1) es) → nat_lt 0 (more b (users_in es n)) ≡ (b || list_any (stored_uses n) (map (λ x. x.1) es))
    by true h = some (users_in es n)
    by false h = h

no_users : (es : List (List ℕ × Stored)) (n : List ℕ) → list_any (stored_uses n) (map (λ e. e.1) es) ≡ false → users_in es n ≡ 0
no_users es n h = by (users_in es n) (any_users es n ∙ h)
  where
    by : (k : ℕ) → nat_lt 0 k ≡ false → k ≡ 0
    by k e = grind (arith, nat_tests)

-- a new entry that nothing speaks of, and that was counted
pub counted_push : (es fs : List (List ℕ × NameEntry)) (m : List ℕ) (s : Stored) → fs ≡ es ++ (m, record { stored = s; users = 0 }) ∷ []
    → list_any (stored_uses m) (map (λ e. e.1) (without_users es)) ≡ false → stored_uses m s ≡ false → AreCounted (λ n. stored_uses n s) es → AreCounted (λ n. false) fs
counted_push es fs m s is unused own c = subst (AreCounted (λ n. false)) (sym is) (record { each = λ n. at n (lookup (bytes_eq n) es) refl })
  where
    x : NameEntry
    x = record { stored = s; users = 0 }

    all : (n : List ℕ) → users_in (without_users (es ++ (m, x) ∷ [])) n ≡ more (stored_uses n s) (users_in (without_users es) n)
    all n = ap (λ l. users_in l n) (append-plain es ((m, x) ∷ [])) ∙ users-append (without_users es) m s n

    zero_there : (n : List ℕ) → bytes_eq n m ≡ true → 0 ≡ users_in (without_users (es ++ (m, x) ∷ [])) n
    zero_there n e =
        sym (all n
        ∙ ap (λ k. more (stored_uses k s) (users_in (without_users es) k)) (from_same_texts n m e)
        ∙ (λ i. more (own i) (no_users (without_users es) m unused i)))

    new : (n : List ℕ) (b : Bool) → bytes_eq n m ≡ b → IfSome (option_map (λ e. e.users) (cond b (Some x) None)) (λ k. k ≡ users_in (without_users (es ++ (m, x) ∷ [])) n)
    new n true e = zero_there n e
    new n false e = tt

    at : (n : List ℕ) (o : Option NameEntry) → lookup (bytes_eq n) es ≡ o → IfSome (users_at n (es ++ (m, x) ∷ [])) (λ k. k ≡ users_in (without_users (es ++ (m, x) ∷ [])) n)
    at n None e =
        subst (λ o. IfSome (option_map (λ y. y.users) o) (λ k. k ≡ users_in (without_users (es ++ (m, x) ∷ [])) n)) (sym (lookup-last n m es x e)) (new n (bytes_eq n m) refl)
    at n (Some y) e =
        let was : y.users ≡ more (stored_uses n s) (users_in (without_users es) n) =
        subst (λ o. IfSome (option_map (λ z. z.users) o) (λ k. k ≡ more (stored_uses n s) (users_in (without_users es) n))) e (c.each n) in
        subst (λ o. IfSome (option_map (λ z. z.users) o) (λ k. k ≡ users_in (without_users (es ++ (m, x) ∷ [])) n)) (sym (lookup-first n m es x y e)) (was ∙ sym (all n))

users-without : (es : List (List ℕ × NameEntry)) (m : List ℕ) (e : NameEntry) (n : List ℕ) → lookup (bytes_eq m) es ≡ Some e
    → users_in (without_users es) n ≡ more (stored_uses n e.stored) (users_in (without_users (remove_entry (bytes_eq m) es)) n)
users-without [] m e n h = absurd (none-some e h)
users-without (f ∷ es) m e n h = by (bytes_eq m f.0) h (users-without es m e n)
  where
    by : (b : Bool) → cond b (Some f.1) (lookup (bytes_eq m) es) ≡ Some e
        → (lookup (bytes_eq m) es ≡ Some e → users_in (without_users es) n ≡ more (stored_uses n e.stored) (users_in (without_users (remove_entry (bytes_eq m) es)) n))
        → more (stored_uses n f.1.stored) (users_in (without_users es) n) ≡ more (stored_uses n e.stored) (users_in (without_users (cond b es (f ∷ remove_entry (bytes_eq m) es))) n)
    by true g next = ap (λ x. more (stored_uses n x.stored) (users_in (without_users es) n)) (same_Some f.1 e g)
    by false g next = ap (more (stored_uses n f.1.stored)) (next g) ∙ swap (stored_uses n f.1.stored) (stored_uses n e.stored) (users_in (without_users (remove_entry (bytes_eq m) es)) n)

-- what is taken out is counted yet
pub counted_taken : (es fs : List (List ℕ × NameEntry)) (m : List ℕ) (e : NameEntry) → lookup (bytes_eq m) es ≡ Some e → fs ≡ remove_entry (bytes_eq m) es → lookup (bytes_eq m) fs ≡ None
    → AreCounted (λ n. false) es → AreCounted (λ n. stored_uses n e.stored) fs
counted_taken es fs m e found is gone c = record { each = λ n. by n (bytes_eq n m) refl }
  where
    all : (n : List ℕ) → users_in (without_users es) n ≡ more (stored_uses n e.stored) (users_in (without_users fs) n)
    all n = users-without es m e n found ∙ ap (λ l. more (stored_uses n e.stored) (users_in (without_users l) n)) (sym is)

    by : (n : List ℕ) (b : Bool) → bytes_eq n m ≡ b → IfSome (users_at n fs) (λ k. k ≡ more (stored_uses n e.stored) (users_in (without_users fs) n))
    by n true h = subst (λ o. IfSome (option_map (λ x. x.users) o) (λ k. k ≡ more (stored_uses n e.stored) (users_in (without_users fs) n))) (sym (ap (λ k. lookup (bytes_eq k) fs) (from_same_texts n m h) ∙ gone)) tt
    by n false h =
        let same : lookup (bytes_eq n) fs ≡ lookup (bytes_eq n) es = ap (lookup (bytes_eq n)) is ∙ remove-other (bytes_eq m) (bytes_eq n) (apart n m h) es in
        subst (λ o. IfSome (option_map (λ x. x.users) o) (λ k. k ≡ more (stored_uses n e.stored) (users_in (without_users fs) n))) (sym same)
        (weaker (users_at n es) (λ k. k ≡ users_in (without_users es) n) (λ k. k ≡ more (stored_uses n e.stored) (users_in (without_users fs) n)) (λ k g. g ∙ all n) (c.each n))

-- ---- another relation

users-set : (es : List (List ℕ × Stored)) (test : List ℕ → Bool) (r s : Relation) (n : List ℕ) → lookup test es ≡ Some (stored.Relation r) → users_in (set_value test es (stored.Relation s)) n ≡ users_in es n
users-set [] test r s n h = refl
users-set (e ∷ es) test r s n h = by (test e.0) h (users-set es test r s n)
  where
    by : (b : Bool) → cond b (Some e.1) (lookup test es) ≡ Some (stored.Relation r) → (lookup test es ≡ Some (stored.Relation r) → users_in (set_value test es (stored.Relation s)) n ≡ users_in es n)
        → users_in (cond b ((e.0, stored.Relation s) ∷ es) (e ∷ set_value test es (stored.Relation s))) n ≡ users_in (e ∷ es) n
    by true g next = ap (λ x. more (stored_uses n x) (users_in es n)) (sym (same_Some e.1 (stored.Relation r) g))
    by false g next = ap (more (stored_uses n e.1)) (next g)

-- a relation in the place of another changes no number
pub counted_altered : (es fs : List (List ℕ × NameEntry)) (m : List ℕ) (Fact : Relation → Relation → Type 0) → Alters es fs m Fact → AreCounted (λ n. false) es → AreCounted (λ n. false) fs
counted_altered es fs m Fact h c = record { each = λ n. subst (λ o. IfSome o (λ k. k ≡ users_in (without_users fs) n)) (sym (at n)) (weaker (users_at n es) _ _ (λ k g. g ∙ sym (all n)) (c.each n)) }
  where
    all : (n : List ℕ) → users_in (without_users fs) n ≡ users_in (without_users es) n
    all n =
        let p = changes_plain es fs m Fact h in
        ap (λ l. users_in l n) p.is ∙ users-set (without_users es) (bytes_eq m) p.old p.new n p.was

    by : (n : List ℕ) (b : Bool) → bytes_eq n m ≡ b → option_map (λ e. e.users) (cond b (Some h.new) (lookup (bytes_eq n) es)) ≡ users_at n es
    by n true e = ap Some h.users ∙ sym (ap (λ k. users_at k es) (from_same_texts n m e) ∙ ap (option_map (λ x. x.users)) h.was)
    by n false e = refl

    at : (n : List ℕ) → users_at n fs ≡ users_at n es
    at n = ap (users_at n) h.is ∙ ap (option_map (λ e. e.users)) (lookup-set n m es h.old h.new h.was) ∙ by n (bytes_eq n m) refl

-- ---- what the numbers tell

-- whether some view speaks of a name that is defined
pub tells_users : (es : List (List ℕ × NameEntry)) (n : List ℕ) (e : NameEntry) → Some e ≡ lookup (bytes_eq n) es → AreCounted (λ m. false) es
    → nat_lt 0 e.users ≡ list_any (stored_uses n) (map (λ x. x.1) (without_users es))
tells_users es n e found c =
    let is : e.users ≡ users_in (without_users es) n = subst (λ o. IfSome (option_map (λ x. x.users) o) (λ k. k ≡ users_in (without_users es) n)) (sym found) (c.each n) in
    ap (nat_lt 0) is ∙ any_users (without_users es) n
