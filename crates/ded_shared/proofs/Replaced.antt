-- What a change makes of the entries of a well formed catalogue: one name has another entry or none, and each other name the same.
use Rattle.std.proofs.Common.{◌≡◌, ℕ, Bool, true, false, not, ◌||◌, cond, List, [], ◌∷◌, ◌++◌, Option, Some, None, is_some, refl, sym, ap, ◌∙◌, subst, true≢false, bytes_eq, append-nil}
use Rattle.std.proofs.lemmas.Option.{none-some}
use Rattle.std.proofs.lemmas.Slice.Eq.{bytes_eq-Decides}
use Rattle.ded_model.specs.Catalogue.{Entry, Catalogue, entry_name}
use Rattle.ded_model.specs.Entries.{entry_of}
use Rattle.ded_model.specs.Known.{KnownNames, AreEntriesOver, IsWellFormed, entry_known, with_known}
use Rattle.ded_model.proofs.Bools.{or_false_left, or_false_right, bytes_eq-refl}
use Rattle.ded_sorts.specs.Changes.{AddsEntry, ChangesEntry, DropsEntry}
use Rattle.ded_sorts.proofs.KnownEntries.{absent}
use Rattle.ded_views.proofs.Placing.{none_known}
use Rattle.ded_session.proofs.OneCatalogue.{is_named, alone_before}
use Rattle.ded_shared.specs.Agreeing.{Agree}
use Rattle.ded_shared.specs.Touching.{uses_name}

-- ---- lists of entries

-- an entry is that of its name where none before it has the name
pub entry_at : (n : List ℕ) (before after : List Entry) (e : Entry) (m : List ℕ) → entry_name e ≡ n → is_named n before ≡ false
    → entry_of (before ++ e ∷ after) m ≡ cond (bytes_eq m n) (Some e) (entry_of (before ++ after) m)
entry_at n [] after e m named h = ap (λ k. cond (bytes_eq m k) (Some e) (entry_of after m)) named
entry_at n (d ∷ before) after e m named h =
    by (bytes_eq m (entry_name d)) refl (bytes_eq m n) refl (entry_at n before after e m named (or_false_right (bytes_eq n (entry_name d)) _ h))
  where
    by : (b : Bool) → bytes_eq m (entry_name d) ≡ b → (a : Bool) → bytes_eq m n ≡ a → entry_of (before ++ e ∷ after) m ≡ cond a (Some e) (entry_of (before ++ after) m)
        → cond b (Some d) (entry_of (before ++ e ∷ after) m) ≡ cond a (Some e) (cond b (Some d) (entry_of (before ++ after) m))
    by true p true q later =
        absurd (true≢false (sym ((bytes_eq-Decides n (entry_name d)).1 (sym ((bytes_eq-Decides m n).0 q) ∙ (bytes_eq-Decides m (entry_name d)).0 p)) ∙ or_false_left _ _ h))
    by true p false q later = refl
    by false p a q later = later

-- entries before others that don't have the name
entry_behind : (n : List ℕ) (before after : List Entry) → is_named n before ≡ false → entry_of (before ++ after) n ≡ entry_of after n
entry_behind n [] after h = refl
entry_behind n (d ∷ before) after h =
    ap (λ b. cond b (Some d) (entry_of (before ++ after) n)) (or_false_left _ _ h) ∙ entry_behind n before after (or_false_right (bytes_eq n (entry_name d)) _ h)

-- a name without an entry is that of none
none_named : (es : List Entry) (n : List ℕ) → entry_of es n ≡ None → is_named n es ≡ false
none_named [] n h = refl
none_named (e ∷ es) n h = by (bytes_eq n (entry_name e)) h (none_named es n)
  where
    by : (b : Bool) → cond b (Some e) (entry_of es n) ≡ None → (entry_of es n ≡ None → is_named n es ≡ false) → (b || is_named n es) ≡ false
    by true h later = absurd (none-some e (sym h))
    by false h later = later h

-- no entry after one has its name
none_after : (limit : ℕ) (K : KnownNames) (before after : List Entry) (e : Entry) → AreEntriesOver limit K (before ++ e ∷ after) → entry_of after (entry_name e) ≡ None
none_after limit K [] after e w = absent limit (with_known K e) after (entry_name e) w.2 (ap (λ b. is_some (cond b (Some (entry_known K e)) (K (entry_name e)))) (bytes_eq-refl (entry_name e)))
none_after limit K (d ∷ before) after e w = none_after limit (with_known K d) before after e w.2

-- of the parts of a well formed catalogue
alone_after : (c : Catalogue) (n : List ℕ) (before after : List Entry) (e : Entry) → IsWellFormed c → c.entries ≡ before ++ e ∷ after → entry_name e ≡ n → entry_of after n ≡ None
alone_after c n before after e w p named = subst (λ m. entry_of after m ≡ None) named (none_after c.limit none_known before after e (subst (AreEntriesOver c.limit none_known) p w))

-- where the entry of a name stands
pub record IsFound (es : List Entry) (n : List ℕ) (e : Entry) : Type 0 where
  pub before : List Entry
  pub after : List Entry
  pub parts : es ≡ before ++ e ∷ after
  pub named : entry_name e ≡ n

pub found : (es : List Entry) (n : List ℕ) (e : Entry) → entry_of es n ≡ Some e → IsFound es n e
found [] n e h = absurd (none-some e h)
found (d ∷ es) n e h = by (bytes_eq n (entry_name d)) refl h (found es n e)
  where
    same : Some d ≡ Some e → d ≡ e
    same p = cc

    by : (b : Bool) → bytes_eq n (entry_name d) ≡ b → cond b (Some d) (entry_of es n) ≡ Some e → (entry_of es n ≡ Some e → IsFound es n e) → IsFound (d ∷ es) n e
    by true b h later =
        let is : d ≡ e = same h in
        record { before = []; after = es; parts = ap (λ x. x ∷ es) is; named = ap entry_name (sym is) ∙ sym ((bytes_eq-Decides n (entry_name d)).0 b) }
    by false b h later = let r = later h in record { before = d ∷ r.before; after = r.after; parts = ap (λ x. d ∷ x) r.parts; named = r.named }

-- ---- catalogues

-- over e the name has this entry, or none, and all else is as over c
pub record Replaces (c e : Catalogue) (n : List ℕ) (o : Option Entry) : Type 0 where
  pub limit : e.limit ≡ c.limit
  pub entries : (m : List ℕ) → entry_of e.entries m ≡ cond (bytes_eq m n) o (entry_of c.entries m)

pub added : (c e : Catalogue) (x : Entry) → entry_of c.entries (entry_name x) ≡ None → AddsEntry c e x → Replaces c e (entry_name x) (Some x)
added c e x new a = record {
  limit = ap (λ y. y.limit) a;
  entries = λ m.
      ap (λ y. entry_of y.entries m) a
      ∙ entry_at (entry_name x) c.entries [] x m refl (none_named c.entries (entry_name x) new)
      ∙ ap (λ es. cond (bytes_eq m (entry_name x)) (Some x) (entry_of es m)) (append-nil c.entries);
}

pub changed : (c e : Catalogue) (n : List ℕ) (old new : Entry) → IsWellFormed c → entry_name new ≡ n → ChangesEntry c e n old new → Replaces c e n (Some new)
changed c e n old new w named x =
    let alone = alone_before c n x.before x.after old w x.was x.named in
    record {
      limit = ap (λ y. y.limit) x.is;
      entries = λ m.
          ap (λ y. entry_of y.entries m) x.is ∙ entry_at n x.before x.after new m named alone
          ∙ by (bytes_eq m n) (entry_of (x.before ++ x.after) m) (entry_of c.entries m) (ap (λ es. entry_of es m) x.was ∙ entry_at n x.before x.after old m x.named alone);
    }
  where
    by : (b : Bool) (o was : Option Entry) → was ≡ cond b (Some old) o → cond b (Some new) o ≡ cond b (Some new) was
    by true o was h = refl
    by false o was h = sym h

pub dropped : (c e : Catalogue) (n : List ℕ) → IsWellFormed c → DropsEntry c e n → Replaces c e n None
dropped c e n w x =
    let alone = alone_before c n x.before x.after x.old w x.was x.named in
    record {
      limit = ap (λ y. y.limit) x.is;
      entries = λ m.
          ap (λ y. entry_of y.entries m) x.is
          ∙ by m (bytes_eq m n) refl (ap (λ es. entry_of es m) x.was ∙ entry_at n x.before x.after x.old m x.named alone);
    }
  where
    gone : entry_of (x.before ++ x.after) n ≡ None
    gone = entry_behind n x.before x.after (alone_before c n x.before x.after x.old w x.was x.named) ∙ alone_after c n x.before x.after x.old w x.was x.named

    by : (m : List ℕ) (b : Bool) → bytes_eq m n ≡ b → entry_of c.entries m ≡ cond b (Some x.old) (entry_of (x.before ++ x.after) m)
        → entry_of (x.before ++ x.after) m ≡ cond b None (entry_of c.entries m)
    by m true e h = subst (λ k. entry_of (x.before ++ x.after) k ≡ None) (sym ((bytes_eq-Decides m n).0 e)) gone
    by m false e h = sym h

-- ---- agreement

-- catalogues that agree do so where the same is changed of both
pub agree_after : (c d e f : Catalogue) (among : List ℕ → Bool) (n : List ℕ) (o : Option Entry) → Replaces c e n o → Replaces d f n o → Agree c d among → Agree e f among
agree_after c d e f among n o p q a = record {
  limit = q.limit ∙ a.limit ∙ sym p.limit;
  same = λ m h. q.entries m ∙ ap (λ x. cond (bytes_eq m n) o x) (a.same m h) ∙ sym (p.entries m);
  users = λ k m h.
      ap (λ x. uses_name x k) (q.entries m) ∙ by k (bytes_eq m n) (entry_of d.entries m) (entry_of c.entries m) (a.users k m h) ∙ sym (ap (λ x. uses_name x k) (p.entries m));
}
  where
    by : (k : List ℕ) (b : Bool) (y z : Option Entry) → uses_name y k ≡ uses_name z k → uses_name (cond b o y) k ≡ uses_name (cond b o z) k
    by k true y z h = refl
    by k false y z h = h

-- a change leaves the names that are other ones, and that no view has begun or ceased to use
pub agree_beside : (c e : Catalogue) (n : List ℕ) (o : Option Entry) (changed_name : List ℕ → Bool) → Replaces c e n o
    → ((k : List ℕ) → not (changed_name k) ≡ true → (bytes_eq k n ≡ false) × (uses_name o k ≡ uses_name (entry_of c.entries n) k)) → Agree c e (λ k. not (changed_name k))
agree_beside c e n o changed_name p other = record {
  limit = p.limit;
  same = λ k h. p.entries k ∙ ap (λ b. cond b o (entry_of c.entries k)) (other k h).0;
  users = λ k m h. ap (λ x. uses_name x k) (p.entries m) ∙ by k m (other k h).1 (bytes_eq m n) refl;
}
  where
    by : (k m : List ℕ) → uses_name o k ≡ uses_name (entry_of c.entries n) k → (b : Bool) → bytes_eq m n ≡ b → uses_name (cond b o (entry_of c.entries m)) k ≡ uses_name (entry_of c.entries m) k
    by k m h true e = h ∙ ap (λ j. uses_name (entry_of c.entries j) k) (sym ((bytes_eq-Decides m n).0 e))
    by k m h false e = refl

-- a catalogue agrees with itself
pub agree_itself : (c : Catalogue) (among : List ℕ → Bool) → Agree c c among
agree_itself c among = record { limit = refl; same = λ n h. refl; users = λ n m h. refl }
