-- Reading what is spelled.
use Rattle.std.proofs.Common.{◌≡◌, ℕ, zero, suc, ◌+◌, ◌≤◌, ◌<◌, List, [], ◌∷◌, ◌++◌, length, refl, sym, ap, subst, ◌∙◌, append_assoc, arith, length-append}
use Rattle.std.specs.Prelude.{Option, Some, None, max, Bool, true, false, nat_lt, if◌then◌else◌}
use Rattle.std.proofs.lemmas.Bool.Decides.{nat_tests}
use Rattle.std.proofs.lemmas.List.{append-nil}
use Rattle.ded_model.specs.Form.{Form}
use Rattle.ded_model.specs.Logic.{negation, implies}
use Rattle.ded_grammar.specs.Trees.{TerminalForm, nay, conjunct, disjunct, arrow, opening, closing, binder, leaf, Whole, only, follows, Either, either_last, either_more, Both, both_last, both_more, One, negated, bound, grouped, plain, Body, bound_again, around, spell, spell_either, spell_both, spell_one, spell_body, meaning, members_either, members_both, meaning_one, meaning_body, nesting, nesting_either, nesting_both, nesting_one, nesting_body, quantified, all_of, any_of}
use Rattle.ded_grammar.specs.Spelling.{Spells, SpellsDeep}
use Rattle.ded_grammar.specs.Building.{◌>>=◌, Found, Reader, Chain, onto, chain, closed, after_conjunct, after_disjunct, after_arrow, read_one, read_body, read_whole, both_by, either_by}
use Rattle.ded_grammar.proofs.Levels.{one_level, body_level, whole_level, one_none, body_none, whole_none}

-- with k levels left a formula of nesting n is read where n is below k
abbrev pub Told : {A : Type 0} → ℕ → ℕ → A → List TerminalForm → Option (A × ℕ × List TerminalForm) → Type 0
Told k n f rest None = k ≤ n
Told k n f rest (Some x) = (x ≡ (f, n, rest)) × (n < k)

pub bind_told : {A B : Type 0} (k n : ℕ) (f : A) (rest : List TerminalForm) (o : Option (A × ℕ × List TerminalForm)) (g : A × ℕ × List TerminalForm → Option B) (P : Option B → Type 0) → Told k n f rest o → (n < k → P (g (f, n, rest))) → (k ≤ n → P None) → P (o >>= g)
bind_told k n f rest None g P h so nope = nope h
bind_told k n f rest (Some x) g P h so nope = subst (λ y. P (g y)) (sym h.0) (so h.1)

nonempty : (u : One) → 0 < length (spell_one u)
nonempty (negated u) = omega arith
nonempty (bound q c b) = omega arith
nonempty (grouped w) = omega arith
nonempty (plain f) = omega arith

some_both : (b : Both) → 0 < length (spell_both b)
some_both (both_last u) = nonempty u
some_both (both_more u b) = omega (arith, nonempty u, length-append (spell_one u) (conjunct ∷ spell_both b))

-- a chain with one more in front
more_told : (k a n : ℕ) (f : Form) (fs : List Form) (here rest : List TerminalForm) (o : Option Chain) → a < k → Told k n fs rest o → Told k (max a n) (f ∷ fs) rest (o >>= λ c. Some (onto (f, a, here) c))
more_told k a n f fs here rest None lt h = omega (arith, h)
more_told k a n f fs here rest (Some c) lt h = (ap (λ (x : Chain). onto (f, a, here) x) h.0, omega (arith, lt, h.1))

-- one step of a chain
chain_last : (k n m : ℕ) (f : Form) (rest ps : List TerminalForm) (read : Reader) (sign : List TerminalForm → Option (List TerminalForm)) → sign rest ≡ None → Told k n f rest (read ps) → Told k n (f ∷ []) rest (chain read sign (suc m) ps)
chain_last k n m f rest ps read sign stop h =
    bind_told k n f rest (read ps)
    (λ x. elim (sign x.2) as (λ _. Option Chain) [ None ↦ Some (x.0 ∷ [], x.1, x.2) | Some more ↦ chain read sign m more >>= λ c. Some (onto x c) ])
    (Told k n (f ∷ []) rest) h
    (λ lt. rw stop (refl, lt))
    (λ le. le)

chain_more : (k a n m : ℕ) (f : Form) (fs : List Form) (here after rest ps : List TerminalForm) (read : Reader) (sign : List TerminalForm → Option (List TerminalForm)) → sign here ≡ Some after → Told k a f here (read ps) → Told k n fs rest (chain read sign m after) → Told k (max a n) (f ∷ fs) rest (chain read sign (suc m) ps)
chain_more k a n m f fs here after rest ps read sign goes h more =
    bind_told k a f here (read ps)
    (λ x. elim (sign x.2) as (λ _. Option Chain) [ None ↦ Some (x.0 ∷ [], x.1, x.2) | Some more ↦ chain read sign m more >>= λ c. Some (onto x c) ])
    (Told k (max a n) (f ∷ fs) rest) h
    (λ lt. rw goes (more_told k a n f fs here rest (chain read sign m after) lt more))
    (λ le. omega (arith, le))

-- what is made of a chain
made_told : {A B : Type 0} (k n : ℕ) (f : A) (rest : List TerminalForm) (o : Option (A × ℕ × List TerminalForm)) (make : A → B) → Told k n f rest o → Told k n (make f) rest (o >>= λ c. Some (make c.0, c.1, c.2))
made_told k n f rest None make h = h
made_told k n f rest (Some x) make h = (ap (λ y. (make y.0, y.1, y.2)) h.0, h.1)

-- and one level up
deeper_told : (k n : ℕ) (f : Form) (rest : List TerminalForm) (o : Option Found) (make : Form → Form) → Told k n f rest o → Told (suc k) (n + 1) (make f) rest (o >>= λ x. Some (make x.0, x.1 + 1, x.2))
deeper_told k n f rest None make h = omega (arith, h)
deeper_told k n f rest (Some x) make h = (ap (λ (y : Found). (make y.0, y.1 + 1, y.2)) h.0, omega (arith, h.1))

closed_told : (k n : ℕ) (f : Form) (rest : List TerminalForm) (o : Option Found) → Told k n f (closing ∷ rest) o → Told k n f rest (o >>= closed)
closed_told k n f rest None h = h
closed_told k n f rest (Some x) h = rw h.0 (refl, h.1)

enclosed_told : (k n : ℕ) (f : Form) (rest : List TerminalForm) (o : Option Found) → Told k n f (closing ∷ rest) o → Told (suc k) (n + 1) f rest (o >>= λ x. closed x >>= λ y. Some (y.0, y.1 + 1, y.2))
enclosed_told k n f rest None h = omega (arith, h)
enclosed_told k n f rest (Some x) h = rw h.0 (refl, omega (arith, h.1))

none_told : (n : ℕ) (f : Form) (rest ps : List TerminalForm) (read : Reader) → read ps ≡ None → Told 0 n f rest (read ps)
none_told n f rest ps read h = rw h (omega arith)

-- a formula to the right of an arrow
arrow_told : (k a n : ℕ) (f g : Form) (after rest : List TerminalForm) (right : Reader) → Told k n g rest (right after) → (b : Bool) → nat_lt (a + 1) (suc k) ≡ b → Told (suc k) (max a n + 1) (implies f g) rest (if b then (right after >>= λ y. Some (implies f y.0, max a y.1 + 1, y.2)) else None)
arrow_told k a n f g after rest right h true e = step (right after) h
  where
    low : a < k
    low = grind (arith, nat_tests)

    step : (o : Option Found) → Told k n g rest o → Told (suc k) (max a n + 1) (implies f g) rest (o >>= λ y. Some (implies f y.0, max a y.1 + 1, y.2))
    step None h = omega (arith, h)
    step (Some x) h = (ap (λ (y : Found). (implies f y.0, max a y.1 + 1, y.2)) h.0, omega (arith, h.1, low))
arrow_told k a n f g after rest right h false e = high
  where
    high : suc k ≤ max a n + 1
    high = let ge : k ≤ a = grind (arith, nat_tests) in omega (arith, ge)

pub both_read : (b : Both) (k : ℕ) (rest : List TerminalForm) → ((m : ℕ) → length (spell_both b) ≤ m → Told k (nesting_both b) (members_both b) rest (chain (read_one k) after_conjunct m (spell_both b ++ rest))) → Told k (nesting_both b) (all_of (members_both b)) rest (both_by (read_one k) (spell_both b ++ rest))
both_read b k rest h = (made_told k (nesting_both b) (members_both b) rest _ all_of (h (length (spell_both b ++ rest)) (omega (arith, length-append (spell_both b) rest))))

either_read : (e : Either) (k : ℕ) (rest : List TerminalForm) → ((m : ℕ) → length (spell_either e) ≤ m → Told k (nesting_either e) (members_either e) rest (chain (both_by (read_one k)) after_disjunct m (spell_either e ++ rest))) → Told k (nesting_either e) (any_of (members_either e)) rest (either_by (read_one k) (spell_either e ++ rest))
either_read e k rest h = (made_told k (nesting_either e) (members_either e) rest _ any_of (h (length (spell_either e ++ rest)) (omega (arith, length-append (spell_either e) rest))))

mutual
  pub told_whole : (w : Whole) (k : ℕ) (rest : List TerminalForm) → after_conjunct rest ≡ None → after_disjunct rest ≡ None → after_arrow rest ≡ None → Told k (nesting w) (meaning w) rest (read_whole k (spell w ++ rest))
  told_whole w zero rest sa so sr = none_told (nesting w) (meaning w) rest (spell w ++ rest) (read_whole 0) (whole_none (spell w ++ rest))
  told_whole (only e) (suc k) rest sa so sr =
      rw (whole_level k (spell_either e ++ rest))
      (bind_told (suc k) (nesting_either e) (any_of (members_either e)) rest (either_by (read_one (suc k)) (spell_either e ++ rest)) _ (Told (suc k) (nesting_either e) (any_of (members_either e)) rest)
      (either_read e (suc k) rest (λ m le. told_either e (suc k) rest m sa so le))
      (λ lt. rw sr (refl, lt))
      (λ le. le))
  told_whole (follows e w) (suc k) rest sa so sr =
      rw (whole_level k ((spell_either e ++ arrow ∷ spell w) ++ rest), append_assoc (spell_either e) (arrow ∷ spell w) rest)
      (bind_told (suc k) (nesting_either e) (any_of (members_either e)) (arrow ∷ spell w ++ rest) (either_by (read_one (suc k)) (spell_either e ++ (arrow ∷ spell w ++ rest))) _ (Told (suc k) (max (nesting_either e) (nesting w) + 1) (implies (any_of (members_either e)) (meaning w)) rest)
      (either_read e (suc k) (arrow ∷ spell w ++ rest) (λ m le. told_either e (suc k) (arrow ∷ spell w ++ rest) m refl refl le))
      (λ lt. arrow_told k (nesting_either e) (nesting w) (any_of (members_either e)) (meaning w) (spell w ++ rest) rest (read_whole k) (told_whole w k rest sa so sr) _ refl)
      (λ le. omega (arith, le)))

  told_either : (e : Either) (k : ℕ) (rest : List TerminalForm) (m : ℕ) → after_conjunct rest ≡ None → after_disjunct rest ≡ None → length (spell_either e) ≤ m → Told k (nesting_either e) (members_either e) rest (chain (both_by (read_one k)) after_disjunct m (spell_either e ++ rest))
  told_either (either_last b) k rest zero sa so le = absurd (omega (arith, le, some_both b))
  told_either (either_last b) k rest (suc m) sa so le =
      chain_last k (nesting_both b) m (all_of (members_both b)) rest (spell_both b ++ rest) (both_by (read_one k)) after_disjunct so
      (both_read b k rest (λ m le. told_both b k rest m sa le))
  told_either (either_more b e) k rest zero sa so le = absurd (omega (arith, le, length-append (spell_both b) (disjunct ∷ spell_either e)))
  told_either (either_more b e) k rest (suc m) sa so le =
      rw (append_assoc (spell_both b) (disjunct ∷ spell_either e) rest)
      (chain_more k (nesting_both b) (nesting_either e) m (all_of (members_both b)) (members_either e) (disjunct ∷ spell_either e ++ rest) (spell_either e ++ rest) rest _ (both_by (read_one k)) after_disjunct refl
      (both_read b k (disjunct ∷ spell_either e ++ rest) (λ m le. told_both b k (disjunct ∷ spell_either e ++ rest) m refl le))
      (told_either e k rest m sa so (omega (arith, le, length-append (spell_both b) (disjunct ∷ spell_either e)))))

  told_both : (b : Both) (k : ℕ) (rest : List TerminalForm) (m : ℕ) → after_conjunct rest ≡ None → length (spell_both b) ≤ m → Told k (nesting_both b) (members_both b) rest (chain (read_one k) after_conjunct m (spell_both b ++ rest))
  told_both (both_last u) k rest zero sa le = absurd (omega (arith, le, nonempty u))
  told_both (both_last u) k rest (suc m) sa le =
      chain_last k (nesting_one u) m (meaning_one u) rest (spell_one u ++ rest) (read_one k) after_conjunct sa (told_one u k rest)
  told_both (both_more u b) k rest zero sa le = absurd (omega (arith, le, length-append (spell_one u) (conjunct ∷ spell_both b)))
  told_both (both_more u b) k rest (suc m) sa le =
      rw (append_assoc (spell_one u) (conjunct ∷ spell_both b) rest)
      (chain_more k (nesting_one u) (nesting_both b) m (meaning_one u) (members_both b) (conjunct ∷ spell_both b ++ rest) (spell_both b ++ rest) rest _ (read_one k) after_conjunct refl
      (told_one u k (conjunct ∷ spell_both b ++ rest))
      (told_both b k rest m sa (omega (arith, le, length-append (spell_one u) (conjunct ∷ spell_both b)))))

  told_one : (u : One) (k : ℕ) (rest : List TerminalForm) → Told k (nesting_one u) (meaning_one u) rest (read_one k (spell_one u ++ rest))
  told_one u zero rest = none_told (nesting_one u) (meaning_one u) rest (spell_one u ++ rest) (read_one 0) (one_none (spell_one u ++ rest))
  told_one (negated u) (suc k) rest =
      rw (one_level k (nay ∷ spell_one u ++ rest))
      (deeper_told k (nesting_one u) (meaning_one u) rest (read_one k (spell_one u ++ rest)) negation (told_one u k rest))
  told_one (bound q c b) (suc k) rest =
      rw (one_level k (binder q c ∷ spell_body b ++ rest))
      (deeper_told k (nesting_body b) (meaning_body b) rest (read_body k (spell_body b ++ rest)) (quantified q c) (told_body b k rest))
  told_one (grouped w) (suc k) rest =
      rw (one_level k (opening ∷ (spell w ++ closing ∷ []) ++ rest), append_assoc (spell w) (closing ∷ []) rest)
      (enclosed_told k (nesting w) (meaning w) rest (read_whole k (spell w ++ closing ∷ rest)) (told_whole w k (closing ∷ rest) refl refl refl))
  told_one (plain f) (suc k) rest = rw (one_level k (leaf f ∷ rest)) (refl, omega arith)

  told_body : (b : Body) (k : ℕ) (rest : List TerminalForm) → Told k (nesting_body b) (meaning_body b) rest (read_body k (spell_body b ++ rest))
  told_body b zero rest = none_told (nesting_body b) (meaning_body b) rest (spell_body b ++ rest) (read_body 0) (body_none (spell_body b ++ rest))
  told_body (bound_again q c b) (suc k) rest =
      rw (body_level k (binder q c ∷ spell_body b ++ rest))
      (deeper_told k (nesting_body b) (meaning_body b) rest (read_body k (spell_body b ++ rest)) (quantified q c) (told_body b k rest))
  told_body (around w) (suc k) rest =
      rw (body_level k (opening ∷ (spell w ++ closing ∷ []) ++ rest), append_assoc (spell w) (closing ∷ []) rest)
      (closed_told (suc k) (nesting w) (meaning w) rest (read_whole (suc k) (spell w ++ closing ∷ rest)) (told_whole w (suc k) (closing ∷ rest) refl refl refl))

-- terminals spell one formula at most
abbrev Same : Whole → Whole → Type 0
Same w v = (meaning w ≡ meaning v) × (nesting w ≡ nesting v)

whole_told : (w : Whole) (k : ℕ) → Told k (nesting w) (meaning w) [] (read_whole k (spell w))
whole_told w k = subst (λ (l : List TerminalForm). Told k (nesting w) (meaning w) [] (read_whole k l)) (append-nil (spell w)) (told_whole w k [] refl refl refl)

both_told : (k n m : ℕ) (f g : Form) (o : Option Found) → n < k → m < k → Told k n f [] o → Told k m g [] o → (f ≡ g) × (n ≡ m)
both_told k n m f g None low lower a b = absurd (omega (arith, low, a))
both_told k n m f g (Some x) low lower a b =
    let e : (f, n, []) ≡ x = sym a.0 in
    (ap (λ (y : Found). y.0) e ∙ ap (λ (y : Found). y.0) b.0, ap (λ (y : Found). y.1) e ∙ ap (λ (y : Found). y.1) b.0)

pub one_whole : (w v : Whole) → spell w ≡ spell v → Same w v
one_whole w v e =
    let k = suc (nesting w + nesting v) in
    both_told k (nesting w) (nesting v) (meaning w) (meaning v) (read_whole k (spell v)) (omega arith) (omega arith)
    (subst (λ (l : List TerminalForm). Told k (nesting w) (meaning w) [] (read_whole k l)) e (whole_told w k))
    (whole_told v k)

pub one_spelled : (ps : List TerminalForm) (f g : Form) (m n : ℕ) → Spells ps f m → Spells ps g n → (f ≡ g) × (m ≡ n)
one_spelled ps f g m n s r =
    let same = one_whole s.tree r.tree (s.is ∙ sym r.is) in
    (sym s.means ∙ same.0 ∙ r.means, sym s.nests ∙ same.1 ∙ r.nests)

-- what is read with 65 levels
pub read_deep : (ps : List TerminalForm) → ((w : Whole) × (spell w ≡ ps)) → read_whole 65 ps ≡ None → SpellsDeep ps
read_deep ps (w, e) h = record { formula = meaning w; depth = nesting w; spells = record { tree = w; is = e; means = refl; nests = refl }; above = high }
  where
    high : 64 < nesting w
    high = subst (Told 65 (nesting w) (meaning w) []) (ap (read_whole 65) e ∙ h) (whole_told w 65)

pub read_right : (ps : List TerminalForm) (x : Found) → ((w : Whole) × (spell w ≡ ps)) → read_whole 65 ps ≡ Some x → (depth : ℕ) × Spells ps x.0 depth × (depth ≤ 64)
read_right ps x (w, e) h = (nesting w, record { tree = w; is = e; means = sym (ap (λ (y : Found). y.0) right.0); nests = refl }, omega (arith, right.1))
  where
    right : Told 65 (nesting w) (meaning w) [] (Some x)
    right = subst (Told 65 (nesting w) (meaning w) []) (ap (read_whole 65) e ∙ h) (whole_told w 65)
