-- Sums of lists without a slot are sums of the lists without the slot, where these are in ascending order.
use Rattle.std.proofs.Common.{◌≡◌, ℕ, ◌+◌, ◌<◌, nat_lt, Bool, true, false, cond, List, [], ◌∷◌, arith, refl, sym, ap, ap₂, ◌∙◌, true≢false}
use Rattle.std.specs.Prelude.{ℤ, ◌+ℤ◌, ◌*ℤ◌}
use Rattle.ded_model.specs.declared.slot.Slot.{Slot}
use Rattle.ded_model.specs.declared.slot.Sort.TheVariants.{Rat}
use Rattle.ded_model.specs.Point.{same_slot}
use Rattle.ded_model.specs.Coefs.{AllAbove, AreCoefs, put, put_all, mixed, cut}
use Rattle.ded_model.proofs.Points.{same_slot_is, same_slot_refl}
use Rattle.ded_model.proofs.CoefLemmas.{above_lesser, put-above, is_lesser}
use Rattle.ded_model.proofs.SlotLists.{above_by_tests}
use Rattle.ded_model.proofs.CoefLists.{AllAbove-put}

-- rational slots in ascending order
abbrev pub Ascend : List (Slot × ℤ) → Type 0
Ascend [] = Unit {0}
Ascend (c ∷ cs) = (c.0.sort ≡ Rat) × AllAbove c.0.number cs × Ascend cs

pub ascend-kept : (cs : List (Slot × ℤ)) → AreCoefs cs → Ascend cs
ascend-kept [] h = tt
ascend-kept (c ∷ cs) h = (h.0, h.3, ascend-kept cs h.4)

ascend-put : (s : Slot) (z : ℤ) (cs : List (Slot × ℤ)) → s.sort ≡ Rat → Ascend cs → Ascend (put s z cs)
ascend-put s z [] r h = (r, tt, tt)
ascend-put s z (c ∷ cs) r h = go (same_slot c.0 s) refl (nat_lt s.number c.0.number) refl (ascend-put s z cs r h.2)
  where
    go : (b : Bool) → same_slot c.0 s ≡ b → (d : Bool) → nat_lt s.number c.0.number ≡ d → Ascend (put s z cs)
        → Ascend (cond b ((c.0, z +ℤ c.1) ∷ cs) (cond d ((s, z) ∷ c ∷ cs) (c ∷ put s z cs)))
    go true e d f i = h
    go false e true f i = let l : s.number < c.0.number = is_lesser s.number c.0.number f in (r, (l, above_lesser s.number c.0.number cs (omega (arith, l)) h.1), h)
    go false e false f i = (h.0, AllAbove-put c.0.number s z cs (above_by_tests c.0 s h.0 r e f) h.1, i)

ascend-put_all : (k : ℤ) (xs ys : List (Slot × ℤ)) → Ascend xs → Ascend ys → Ascend (put_all k xs ys)
ascend-put_all k [] ys r h = h
ascend-put_all k (x ∷ xs) ys r h = ascend-put x.0 (k *ℤ x.1) (put_all k xs ys) r.0 (ascend-put_all k xs ys r.2 h)

pub above-cut : (n : ℕ) (s : Slot) (cs : List (Slot × ℤ)) → AllAbove n cs → AllAbove n (cut s cs)
above-cut n s [] h = tt
above-cut n s (c ∷ cs) h = go (same_slot c.0 s) (above-cut n s cs h.1)
  where
    go : (b : Bool) → AllAbove n (cut s cs) → AllAbove n (cond b (cut s cs) (c ∷ cut s cs))
    go true i = i
    go false i = (h.0, i)

-- ---- a number put at the slot that is cut out

cut-put_here : (s : Slot) (z : ℤ) (cs : List (Slot × ℤ)) → cut s (put s z cs) ≡ cut s cs
cut-put_here s z [] = ap (λ b. cond b [] ((s, z) ∷ [])) (same_slot_refl s)
cut-put_here s z (c ∷ cs) = go (same_slot c.0 s) refl (nat_lt s.number c.0.number) (cut-put_here s z cs)
  where
    go : (b : Bool) → same_slot c.0 s ≡ b → (d : Bool) → cut s (put s z cs) ≡ cut s cs
        → cut s (cond b ((c.0, z +ℤ c.1) ∷ cs) (cond d ((s, z) ∷ c ∷ cs) (c ∷ put s z cs))) ≡ cond (same_slot c.0 s) (cut s cs) (c ∷ cut s cs)
    go true e d i = ap (λ b. cond b (cut s cs) ((c.0, z +ℤ c.1) ∷ cut s cs)) e ∙ sym (ap (λ b. cond b (cut s cs) (c ∷ cut s cs)) e)
    go false e true i = ap (λ b. cond b (cut s (c ∷ cs)) ((s, z) ∷ cut s (c ∷ cs))) (same_slot_refl s)
    go false e false i = ap (λ xs. cond (same_slot c.0 s) xs (c ∷ xs)) i

-- ---- at another slot

cut-put_there : (s t : Slot) (z : ℤ) (cs : List (Slot × ℤ)) → same_slot t s ≡ false → Ascend cs → cut s (put t z cs) ≡ put t z (cut s cs)
cut-put_there s t z [] n h = ap (λ b. cond b [] ((t, z) ∷ [])) n
cut-put_there s t z (c ∷ cs) n h = go (same_slot c.0 t) refl (nat_lt t.number c.0.number) refl (cut-put_there s t z cs n h.2)
  where
    -- the rest of the list is past the slot
    past : nat_lt t.number c.0.number ≡ true → AllAbove t.number (c ∷ cs)
    past f = let l : t.number < c.0.number = is_lesser t.number c.0.number f in (l, above_lesser t.number c.0.number cs (omega (arith, l)) h.1)

    same : (b : Bool) → same_slot c.0 t ≡ true → same_slot c.0 s ≡ b → cond b (cut s cs) ((c.0, z +ℤ c.1) ∷ cut s cs) ≡ put t z (cond b (cut s cs) (c ∷ cut s cs))
    same true e f = absurd (true≢false (sym f ∙ ap (λ u. same_slot u s) (same_slot_is c.0 t e) ∙ n))
    same false e f = sym (ap (λ d. cond d ((c.0, z +ℤ c.1) ∷ cut s cs) (cond (nat_lt t.number c.0.number) ((t, z) ∷ c ∷ cut s cs) (c ∷ put t z (cut s cs)))) e)

    after : (b : Bool) → same_slot c.0 t ≡ false → nat_lt t.number c.0.number ≡ false → cut s (put t z cs) ≡ put t z (cut s cs)
        → cond b (cut s (put t z cs)) (c ∷ cut s (put t z cs)) ≡ put t z (cond b (cut s cs) (c ∷ cut s cs))
    after true e f i = i
    after false e f i = ap (λ xs. c ∷ xs) i ∙ sym (ap₂ (λ d g. cond d ((c.0, z +ℤ c.1) ∷ cut s cs) (cond g ((t, z) ∷ c ∷ cut s cs) (c ∷ put t z (cut s cs)))) e f)

    go : (b : Bool) → same_slot c.0 t ≡ b → (d : Bool) → nat_lt t.number c.0.number ≡ d → cut s (put t z cs) ≡ put t z (cut s cs)
        → cut s (cond b ((c.0, z +ℤ c.1) ∷ cs) (cond d ((t, z) ∷ c ∷ cs) (c ∷ put t z cs))) ≡ put t z (cut s (c ∷ cs))
    go true e d f i = same (same_slot c.0 s) e refl
    go false e true f i = ap (λ b. cond b (cut s (c ∷ cs)) ((t, z) ∷ cut s (c ∷ cs))) n ∙ sym (put-above t z (cut s (c ∷ cs)) (above-cut t.number s (c ∷ cs) (past f)))
    go false e false f i = after (same_slot c.0 s) e f i

-- ---- multiples

cut-put_all : (s : Slot) (k : ℤ) (xs zs : List (Slot × ℤ)) → Ascend xs → Ascend zs → cut s (put_all k xs zs) ≡ put_all k (cut s xs) (cut s zs)
cut-put_all s k [] zs h l = refl
cut-put_all s k (x ∷ xs) zs h l = go (same_slot x.0 s) refl (cut-put_all s k xs zs h.2 l)
  where
    go : (b : Bool) → same_slot x.0 s ≡ b → cut s (put_all k xs zs) ≡ put_all k (cut s xs) (cut s zs)
        → cut s (put x.0 (k *ℤ x.1) (put_all k xs zs)) ≡ put_all k (cond b (cut s xs) (x ∷ cut s xs)) (cut s zs)
    go true e i = ap (λ t. cut s (put t (k *ℤ x.1) (put_all k xs zs))) (same_slot_is x.0 s e) ∙ cut-put_here s (k *ℤ x.1) (put_all k xs zs) ∙ i
    go false e i = cut-put_there s x.0 (k *ℤ x.1) (put_all k xs zs) e (ascend-put_all k xs zs h.2 l) ∙ ap (put x.0 (k *ℤ x.1)) i

pub cut-mixed : (s : Slot) (k : ℤ) (xs : List (Slot × ℤ)) (m : ℤ) (ys : List (Slot × ℤ)) → Ascend xs → Ascend ys → cut s (mixed k xs m ys) ≡ mixed k (cut s xs) m (cut s ys)
cut-mixed s k xs m ys h l = cut-put_all s k xs (put_all m ys []) h (ascend-put_all m ys [] l tt) ∙ ap (put_all k (cut s xs)) (cut-put_all s m ys [] l tt)
