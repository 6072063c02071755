-- In a well formed catalogue what is known of a name is so of its entry.
--
-- What is known of names is a fold over the entries in order, which the last entry of a name decides; the entry of a name is
-- the first that has it. Each entry has a new name, so both are the same entry.
use Rattle.std.proofs.Common.{◌≡◌, ℕ, Bool, true, false, List, [], ◌∷◌, Option, Some, None, is_some, refl, sym, ap, ◌∙◌, subst, true≢false, bytes_eq}
use Rattle.std.specs.Prelude.{if◌then◌else◌}
use Rattle.std.proofs.lemmas.Slice.Eq.{bytes_eq-Decides}
use Rattle.ded_model.specs.Catalogue.{Entry, Catalogue, entry_name, entry_columns}
use Rattle.ded_model.specs.Catalogue as entry
use Rattle.ded_model.specs.Known.{Known, KnownNames, AreEntriesOver, IsWellFormed, columns_with, entry_known, with_known, known_from, known_of}
use Rattle.ded_sorts.specs.Causes.{is_relation_with, is_view_with}
use Rattle.ded_model.specs.Entries.{entry_of, relation_in, view_in, known, columns_in}

-- what is known where the entry of the name is this one: what was known before, or what is known of the entry
abbrev pub KnownFrom : Option Entry → Option Known → Option Known → Type 0
KnownFrom None before k = k ≡ before
KnownFrom (Some e) before k = (J : KnownNames) × (k ≡ Some (entry_known J e))

-- a name of which something is known isn't one of a later entry
pub absent : (limit : ℕ) (K : KnownNames) (es : List Entry) (n : List ℕ) → AreEntriesOver limit K es → is_some (K n) ≡ true → entry_of es n ≡ None
absent limit K [] n h k = refl
absent limit K (e ∷ es) n h k = by (bytes_eq n (entry_name e)) refl (absent limit (with_known K e) es n h.2)
  where
    by : (b : Bool) → bytes_eq n (entry_name e) ≡ b → (is_some (with_known K e n) ≡ true → entry_of es n ≡ None) → (if bytes_eq n (entry_name e) then Some e else entry_of es n) ≡ None
    by true b next = absurd (true≢false (sym k ∙ ap is_some (ap K ((bytes_eq-Decides n (entry_name e)).0 b) ∙ h.0.0)))
    by false b next =
        ap (λ c. if c then Some e else entry_of es n) b ∙ next (ap (λ c. is_some (if c then Some (entry_known K e) else K n)) b ∙ k)

known_from-entry : (limit : ℕ) (K : KnownNames) (es : List Entry) (n : List ℕ) → AreEntriesOver limit K es → KnownFrom (entry_of es n) (K n) (known_from K es n)
known_from-entry limit K [] n h = refl
known_from-entry limit K (e ∷ es) n h = by (bytes_eq n (entry_name e)) refl (known_from-entry limit (with_known K e) es n h.2)
  where
    by : (b : Bool) → bytes_eq n (entry_name e) ≡ b → KnownFrom (entry_of es n) (with_known K e n) (known_from (with_known K e) es n)
        → KnownFrom (if bytes_eq n (entry_name e) then Some e else entry_of es n) (K n) (known_from (with_known K e) es n)
    by true b next =
        let here : with_known K e n ≡ Some (entry_known K e) = ap (λ c. if c then Some (entry_known K e) else K n) b in
        let none : entry_of es n ≡ None = absent limit (with_known K e) es n h.2 (ap is_some here) in
        subst (λ c. KnownFrom (if c then Some e else entry_of es n) (K n) (known_from (with_known K e) es n)) (sym b)
        (K, subst (λ o. KnownFrom o (with_known K e n) (known_from (with_known K e) es n)) none next ∙ here)
    by false b next =
        subst (λ c. KnownFrom (if c then Some e else entry_of es n) (K n) (known_from (with_known K e) es n)) (sym b)
        (subst (λ o. KnownFrom (entry_of es n) o (known_from (with_known K e) es n)) (ap (λ c. if c then Some (entry_known K e) else K n) b) next)

-- what is known of a name, by its entry
pub known_entry : (c : Catalogue) (n : List ℕ) → IsWellFormed c → KnownFrom (entry_of c.entries n) None (known c n)
unfolding known_of
known_entry c n h = known_from-entry c.limit (λ m. None) c.entries n h

-- ---- by kind

relation_by : (o : Option Entry) (k : Option Known) → KnownFrom o None k → is_relation_with k ≡ true → is_some (relation_in o) ≡ true
relation_by None k f h = absurd (true≢false (sym h ∙ ap is_relation_with f))
relation_by (Some (entry.relation n columns m ts)) k f h = refl
relation_by (Some (entry.view n columns g)) k f h = absurd (true≢false (sym h ∙ ap is_relation_with f.1))

view_by : (o : Option Entry) (k : Option Known) → KnownFrom o None k → is_view_with k ≡ true → is_some (view_in o) ≡ true
view_by None k f h = absurd (true≢false (sym h ∙ ap is_view_with f))
view_by (Some (entry.relation n columns m ts)) k f h = absurd (true≢false (sym h ∙ ap is_view_with f.1))
view_by (Some (entry.view n columns g)) k f h = refl

columns_by : (e : Entry) (k : Option Known) → KnownFrom (Some e) None k → columns_with k ≡ entry_columns e
columns_by (entry.relation n columns m ts) k f = ap columns_with f.1
columns_by (entry.view n columns g) k f = ap columns_with f.1

-- a name that is known as a relation has a relation
pub relation_there : (c : Catalogue) (n : List ℕ) → IsWellFormed c → is_relation_with (known c n) ≡ true → is_some (relation_in (entry_of c.entries n)) ≡ true
relation_there c n w h = relation_by (entry_of c.entries n) (known c n) (known_entry c n w) h

-- one that is known as a view has a view
pub view_there : (c : Catalogue) (n : List ℕ) → IsWellFormed c → is_view_with (known c n) ≡ true → is_some (view_in (entry_of c.entries n)) ≡ true
view_there c n w h = view_by (entry_of c.entries n) (known c n) (known_entry c n w) h

-- its columns are those of its entry
pub columns_there : (c : Catalogue) (n : List ℕ) (e : Entry) → IsWellFormed c → entry_of c.entries n ≡ Some e → columns_in c n ≡ entry_columns e
columns_there c n e w h = columns_by e (known c n) (subst (λ o. KnownFrom o None (known c n)) h (known_entry c n w))
