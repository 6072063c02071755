-- No view speaks of a name that isn't defined, and each view has the names that it speaks of.
use Rattle.std.proofs.Common.{◌≡◌, ℕ, Bool, true, false, cond, List, [], ◌∷◌, map, Option, None, Some, IfSome, is_none, refl, sym, ap, ◌∙◌, true≢false, bytes_eq}
use Rattle.std.specs.List.{list_any}
use Rattle.std.specs.Map.{lookup}
use Rattle.std.proofs.lemmas.Option.{none-some}
use Rattle.ded_num.proofs.Tests.{from_same_texts, or_false_both}
use Rattle.ded_model.specs.Form.{Form, FormAtom, compare, member, form, speaks_of, atom_speaks_of}
use Rattle.ded_model.specs.Known.{Known, KnownNames, IsEntryOver, is_unknown_atom, uses_unknown, known_from, with_known}
use Rattle.ded_model.specs.Made.{base}
use Rattle.ded_catalog.specs.declared.stored.Stored.{Stored}
use Rattle.ded_catalog.specs.declared.stored.Stored.TheVariants.{Relation, View}
use Rattle.ded_catalog.specs.Conditions.{IsRight, AreKept, IsKept}
use Rattle.ded_catalog.specs.State.{entry_form, entry_forms, known_with, stored_uses}
use Rattle.ded_catalog.specs.Users.{HasMentions}
use Rattle.ded_catalog.proofs.Agreeing.{some_atom-agree}
use Rattle.ded_catalog.proofs.Lookups.{known_from-lookup}

-- a formula whose names are known doesn't speak of one that isn't
pub unspoken : (K : KnownNames) (f : Form) (n : List ℕ) → uses_unknown K f ≡ false → K n ≡ None → speaks_of n f ≡ false
unspoken K f n h none = some_atom-agree (is_unknown_atom K) (atom_speaks_of n) (is_unknown_atom K) step f h ∙ h
  where
    other : (m : List ℕ) (b : Bool) → is_none (K m) ≡ false → bytes_eq n m ≡ b → b ≡ false
    other m false e g = refl
    other m true e g = absurd (true≢false (sym (ap is_none (ap K (sym (from_same_texts n m g)) ∙ none)) ∙ e))

    step : (a : FormAtom) → is_unknown_atom K a ≡ false → atom_speaks_of n a ≡ is_unknown_atom K a
    step (compare l op r) e = refl
    step (member m ts) e = other (base m) (bytes_eq n (base m)) e refl ∙ sym e

unknown_before : (o : Option Stored) (k : Option Known) → known_with o k ≡ None → k ≡ None
unknown_before None k h = h
unknown_before (Some s) k h = absurd (none-some _ (sym h))

unused_kept : (limit : ℕ) (K : KnownNames) (es : List (List ℕ × Stored)) (n : List ℕ) → AreKept limit K es → known_from K (entry_forms es) n ≡ None → list_any (stored_uses n) (map (λ e. e.1) es) ≡ false
unused_kept limit K [] n h none = refl
unused_kept limit K (e ∷ es) n h none = or_false_both (stored_uses n e.1) (list_any (stored_uses n) (map (λ x. x.1) es)) (own e.1 h.1) (unused_kept limit (with_known K (entry_form e.0 e.1)) es n h.3 none)
  where
    before : K n ≡ None
    before = unknown_before (lookup (bytes_eq n) (e ∷ es)) (K n) (sym (known_from-lookup limit K (e ∷ es) n h) ∙ none)

    own : (s : Stored) → IsEntryOver limit K (entry_form e.0 s) → stored_uses n s ≡ false
    own (Relation r) o = refl
    own (View v) o = unspoken K (form v.formula) n o.0.known before

-- no view of the table speaks of a name that isn't there
pub unused_there : (limit : ℕ) (es : List (List ℕ × Stored)) (n : List ℕ) → IsKept limit es → lookup (bytes_eq n) es ≡ None → list_any (stored_uses n) (map (λ e. e.1) es) ≡ false
unused_there limit es n h none = unused_kept limit (λ m. None) es n h.entries (known_from-lookup limit (λ m. None) es n h.entries ∙ ap (λ o. known_with o None) none)

-- ---- mentions

mentions_right : (K : KnownNames) (s : Stored) → IsRight K s → HasMentions s
mentions_right K (Relation r) h = tt
mentions_right K (View v) h = h.4

mentions_kept : (limit : ℕ) (K : KnownNames) (es : List (List ℕ × Stored)) (n : List ℕ) → AreKept limit K es → IfSome (lookup (bytes_eq n) es) HasMentions
mentions_kept limit K [] n h = tt
mentions_kept limit K (e ∷ es) n h = by (bytes_eq n e.0) (mentions_kept limit (with_known K (entry_form e.0 e.1)) es n h.3)
  where
    by : (b : Bool) → IfSome (lookup (bytes_eq n) es) HasMentions → IfSome (cond b (Some e.1) (lookup (bytes_eq n) es)) HasMentions
    by true g = mentions_right K e.1 h.2
    by false g = g

-- what stands under a name has its mentions
pub mentions_there : (limit : ℕ) (es : List (List ℕ × Stored)) (n : List ℕ) → IsKept limit es → IfSome (lookup (bytes_eq n) es) HasMentions
mentions_there limit es n h = mentions_kept limit (λ m. None) es n h.entries
