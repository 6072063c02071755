-- Another entry in the place of one of the name, of which the same is known.
use Rattle.std.proofs.Common.{◌≡◌, ℕ, Bool, true, false, List, [], ◌∷◌, ◌++◌, Some, refl, sym, ap, ◌∙◌, subst, bytes_eq}
use Rattle.std.specs.Prelude.{if◌then◌else◌}
use Rattle.std.specs.Option.{option_map}
use Rattle.std.proofs.lemmas.Option.{same_Some, none-some}
use Rattle.std.proofs.lemmas.Slice.Eq.{bytes_eq-Decides}
use Rattle.ded_model.specs.Catalogue.{Entry, entry_name}
use Rattle.ded_model.specs.Entries.{entry_of}
use Rattle.ded_model.specs.Known.{KnownNames, IsEntryOver, AreEntriesOver, entry_known, with_known, known_from}
use Rattle.ded_model.specs.Made.{is_made}
use Rattle.ded_catalog.specs.Changing.{changed_under}
use Rattle.ded_catalog.proofs.Keeping.{turned}

-- where the entry stands, and what stands there of the changed ones
pub record IsSplit (n : List ℕ) (f : Entry → Entry) (es : List Entry) (e : Entry) : Type 0 where
  pub before : List Entry
  pub after : List Entry
  pub was : es ≡ before ++ e ∷ after
  pub is : changed_under n f es ≡ before ++ f e ∷ after
  pub named : entry_name e ≡ n

module _ (n : List ℕ) (f : Entry → Entry) where
  changed-step : (e : Entry) (es : List Entry) (b : Bool) → bytes_eq n (entry_name e) ≡ b → changed_under n f (e ∷ es) ≡ (if b then f e ∷ es else e ∷ changed_under n f es)
  changed-step e es b h = ap (λ c. if c then f e ∷ es else e ∷ changed_under n f es) h

  found-step : (e : Entry) (es : List Entry) (b : Bool) → bytes_eq n (entry_name e) ≡ b → entry_of (e ∷ es) n ≡ (if b then Some e else entry_of es n)
  found-step e es b h = ap (λ c. if c then Some e else entry_of es n) h

  pub split : (es : List Entry) (e : Entry) → entry_of es n ≡ Some e → IsSplit n f es e
  split [] e h = absurd (none-some e h)
  split (d ∷ es) e h = by (bytes_eq n (entry_name d)) refl (split es e)
    where
      by : (b : Bool) → bytes_eq n (entry_name d) ≡ b → (entry_of es n ≡ Some e → IsSplit n f es e) → IsSplit n f (d ∷ es) e
      by true b next = subst (IsSplit n f (d ∷ es)) (same_Some d e (sym (found-step d es true b) ∙ h))
          (record { before = []; after = es; was = refl; is = changed-step d es true b; named = sym ((bytes_eq-Decides n (entry_name d)).0 b) })
      by false b next =
          let rest = next (sym (found-step d es false b) ∙ h) in
          record { before = d ∷ rest.before; after = rest.after; was = ap (λ l. d ∷ l) rest.was; is = changed-step d es false b ∙ ap (λ l. d ∷ l) rest.is; named = rest.named }

  -- some entries over which the entry is well formed
  pub over_at : (limit : ℕ) (K : KnownNames) (es : List Entry) (e : Entry) → entry_of es n ≡ Some e → AreEntriesOver limit K es → (J : KnownNames) × IsEntryOver limit J e
  over_at limit K [] e h w = absurd (none-some e h)
  over_at limit K (d ∷ es) e h w = by (bytes_eq n (entry_name d)) refl (λ k. over_at limit (with_known K d) es e k w.2)
    where
      by : (b : Bool) → bytes_eq n (entry_name d) ≡ b → (entry_of es n ≡ Some e → (J : KnownNames) × IsEntryOver limit J e) → (J : KnownNames) × IsEntryOver limit J e
      by true b next = (K, subst (IsEntryOver limit K) (same_Some d e (sym (found-step d es true b) ∙ h)) w.1)
      by false b next = next (sym (found-step d es false b) ∙ h)

  module _ (named : (e : Entry) → entry_name (f e) ≡ entry_name e) (same : (K : KnownNames) (e : Entry) → entry_known K (f e) ≡ entry_known K e) where
    with_same : (K : KnownNames) (e : Entry) → with_known K (f e) ≡ with_known K e
    with_same K e = λ i m. if bytes_eq m (named e i) then Some (same K e i) else K m

    -- the same is known
    pub known_from-changed : (K : KnownNames) (es : List Entry) → known_from K (changed_under n f es) ≡ known_from K es
    known_from-changed K [] = refl
    known_from-changed K (e ∷ es) = by (bytes_eq n (entry_name e)) refl (known_from-changed (with_known K e) es)
      where
        by : (b : Bool) → bytes_eq n (entry_name e) ≡ b → known_from (with_known K e) (changed_under n f es) ≡ known_from (with_known K e) es → known_from K (changed_under n f (e ∷ es)) ≡ known_from K (e ∷ es)
        by true b next = ap (known_from K) (changed-step e es true b) ∙ ap (λ J. known_from J es) (with_same K e)
        by false b next = ap (known_from K) (changed-step e es false b) ∙ next

    -- the entry of the name is changed
    pub own_entry : (es : List Entry) → entry_of (changed_under n f es) n ≡ option_map f (entry_of es n)
    own_entry [] = refl
    own_entry (e ∷ es) = by (bytes_eq n (entry_name e)) refl (own_entry es)
      where
        by : (b : Bool) → bytes_eq n (entry_name e) ≡ b → entry_of (changed_under n f es) n ≡ option_map f (entry_of es n) → entry_of (changed_under n f (e ∷ es)) n ≡ option_map f (entry_of (e ∷ es) n)
        by true b next =
            ap (λ l. entry_of l n) (changed-step e es true b)
            ∙ ap (λ c. if c then Some (f e) else entry_of es n) (ap (bytes_eq n) (named e) ∙ b)
            ∙ ap (option_map f) (sym (found-step e es true b))
        by false b next =
            ap (λ l. entry_of l n) (changed-step e es false b)
            ∙ ap (λ c. if c then Some e else entry_of (changed_under n f es) n) b
            ∙ next
            ∙ ap (option_map f) (sym (found-step e es false b))

    -- that of another name isn't
    pub other_entry : (m : List ℕ) → bytes_eq n m ≡ false → (es : List Entry) → entry_of (changed_under n f es) m ≡ entry_of es m
    other_entry m o [] = refl
    other_entry m o (e ∷ es) = by (bytes_eq n (entry_name e)) refl (other_entry m o es)
      where
        by : (b : Bool) → bytes_eq n (entry_name e) ≡ b → entry_of (changed_under n f es) m ≡ entry_of es m → entry_of (changed_under n f (e ∷ es)) m ≡ entry_of (e ∷ es) m
        by true b next =
            let apart : bytes_eq m (entry_name e) ≡ false = ap (bytes_eq m) (sym ((bytes_eq-Decides n (entry_name e)).0 b)) ∙ turned m n (bytes_eq m n) refl o in
            ap (λ l. entry_of l m) (changed-step e es true b)
            ∙ ap (λ c. if c then Some (f e) else entry_of es m) (ap (bytes_eq m) (named e) ∙ apart)
            ∙ sym (ap (λ c. if c then Some e else entry_of es m) apart)
        by false b next = ap (λ l. entry_of l m) (changed-step e es false b) ∙ ap (λ x. if bytes_eq m (entry_name e) then Some e else x) next

    -- entries stay well formed where the changed one is
    pub over-changed : (limit : ℕ) (K : KnownNames) (es : List Entry) (e : Entry) → entry_of es n ≡ Some e → ((J : KnownNames) → IsEntryOver limit J e → IsEntryOver limit J (f e))
        → AreEntriesOver limit K es → AreEntriesOver limit K (changed_under n f es)
    over-changed limit K [] e h over w = absurd (none-some e h)
    over-changed limit K (d ∷ es) e h over w = by (bytes_eq n (entry_name d)) refl (λ k. over-changed limit (with_known K d) es e k over w.2)
      where
        by : (b : Bool) → bytes_eq n (entry_name d) ≡ b → (entry_of es n ≡ Some e → AreEntriesOver limit (with_known K d) (changed_under n f es)) → AreEntriesOver limit K (changed_under n f (d ∷ es))
        by true b next =
            let is : e ≡ d = sym (same_Some d e (sym (found-step d es true b) ∙ h)) in
            subst (AreEntriesOver limit K) (sym (changed-step d es true b)) (
              (ap K (named d) ∙ w.0.0, ap is_made (named d) ∙ w.0.1),
              subst (λ x. IsEntryOver limit K x → IsEntryOver limit K (f x)) is (over K) w.1,
              subst (λ J. AreEntriesOver limit J es) (sym (with_same K d)) w.2,
            )
        by false b next = subst (AreEntriesOver limit K) (sym (changed-step d es false b)) (w.0, w.1, next (sym (found-step d es false b) ∙ h))
