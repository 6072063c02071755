-- Names that are gathered one after another, each once.
use Rattle.std.proofs.Common.{◌≡◌, ℕ, ◌+◌, ◌<◌, Bool, true, false, ◌||◌, List, [], ◌∷◌, ◌++◌, length, drop, get_or, refl, sym, ap, ◌∙◌, subst, true≢false, bytes_eq}
use Rattle.std.specs.Prelude.{if◌then◌else◌}
use Rattle.std.specs.List.{list_any}
use Rattle.std.proofs.lemmas.List.{at_drop_more}
use Rattle.std.proofs.lemmas.List.Folds.{list_any-append}
use Rattle.std.proofs.lemmas.Slice.Eq.{bytes_eq-Decides}
use Rattle.indexmap.specs.IndexSet.{insert_key}
use Rattle.ded_model.specs.declared.formula.Formula.{Formula}
use Rattle.ded_model.specs.Form.{Form, form, forms, speaks_of, atom_speaks_of}
use Rattle.ded_model.specs.Logic.{implies, some_atom_of}
use Rattle.ded_catalog.specs.Mentions.{AreOnce, AreMentions, Gathers}
use Rattle.std.proofs.Math.Bool.{or-false}
use Rattle.ded_model.proofs.Bools.{or_assoc, or_known}
use Rattle.ded_catalog.proofs.Keeping.{turned}

-- nothing more is gathered
pub gathers_none : (ks : List (List ℕ)) → Gathers (λ n. false) ks ks
gathers_none ks = record { all = λ n. sym (or-false (list_any (bytes_eq n) ks)); once = λ h. h }

-- those of two formulas are gathered one after the other
pub gathers_both : (f g h : Form) (ks ls ms : List (List ℕ)) → h ≡ implies f g → Gathers (λ n. speaks_of n f) ks ls → Gathers (λ n. speaks_of n g) ls ms → Gathers (λ n. speaks_of n h) ks ms
gathers_both f g h ks ls ms e a b = record {
  all = λ n.
      b.all n
      ∙ ap (λ x. x || speaks_of n g) (a.all n)
      ∙ or_assoc (list_any (bytes_eq n) ks) (speaks_of n f) (speaks_of n g)
      ∙ ap (λ x. list_any (bytes_eq n) ks || speaks_of n x) (sym e);
  once = λ o. b.once (a.once o);
}

-- ---- one name

once-push : (ks : List (List ℕ)) (k : List ℕ) → list_any (bytes_eq k) ks ≡ false → AreOnce ks → AreOnce (ks ++ k ∷ [])
once-push [] k e o = (refl, tt)
once-push (n ∷ ns) k e o = (
  list_any-append (bytes_eq n) ns (k ∷ []) ∙ (λ i. o.0 i || (turned n k (bytes_eq n k) refl (first (bytes_eq k n) (list_any (bytes_eq k) ns) e) i || false)),
  once-push ns k (rest (bytes_eq k n) (list_any (bytes_eq k) ns) e) o.1,
)
  where
    first : (a b : Bool) → (a || b) ≡ false → a ≡ false
    first true b h = absurd (true≢false h)
    first false b h = refl

    rest : (a b : Bool) → (a || b) ≡ false → b ≡ false
    rest true b h = absurd (true≢false h)
    rest false b h = h

-- a name that is inserted is gathered
pub gathers_name : (ks ls : List (List ℕ)) (k : List ℕ) → ls ≡ insert_key bytes_eq ks k → Gathers (λ n. bytes_eq n k) ks ls
gathers_name ks ls k e = by (list_any (bytes_eq k) ks) refl
  where
    there : list_any (bytes_eq k) ks ≡ true → (n : List ℕ) → bytes_eq n k ≡ true → list_any (bytes_eq n) ks ≡ true
    there h n i = subst (λ m. list_any (bytes_eq m) ks ≡ true) (sym ((bytes_eq-Decides n k).0 i)) h

    by : (b : Bool) → list_any (bytes_eq k) ks ≡ b → Gathers (λ n. bytes_eq n k) ks ls
    by true h =
        let same = e ∙ ap (λ c. if c then ks else ks ++ k ∷ []) h in
        subst (Gathers (λ n. bytes_eq n k) ks) (sym same)
        (record { all = λ n. or_known (list_any (bytes_eq n) ks) (bytes_eq n k) (there h n); once = λ o. o })
    by false h =
        let same = e ∙ ap (λ c. if c then ks else ks ++ k ∷ []) h in
        subst (Gathers (λ n. bytes_eq n k) ks) (sym same)
        (record { all = λ n. list_any-append (bytes_eq n) ks (k ∷ []) ∙ ap (λ b. list_any (bytes_eq n) ks || b) (or-false (bytes_eq n k)); once = λ o. once-push ks k h o })

-- ---- formula by formula

-- what is gathered before the formulas that are left, of all that are there
pub record IsUnderWay (fs left : List Formula) (start now : List (List ℕ)) : Type 0 where
  pub all : (n : List ℕ) → (list_any (bytes_eq n) now || some_atom_of (atom_speaks_of n) (forms left)) ≡ (list_any (bytes_eq n) start || some_atom_of (atom_speaks_of n) (forms fs))
  pub once : AreOnce start → AreOnce now

-- with one formula more
pub way-more : (fs : List Formula) (i : ℕ) (f : Formula) (start now next : List (List ℕ)) → i < length fs → f ≡ get_or fs i f → Gathers (λ n. speaks_of n (form f)) now next
    → IsUnderWay fs (drop i fs) start now → IsUnderWay fs (drop (i + 1) fs) start next
way-more fs i f start now next lt is g w = record {
  all = λ n.
      ap (λ b. b || some_atom_of (atom_speaks_of n) (forms (drop (i + 1) fs))) (g.all n)
      ∙ or_assoc (list_any (bytes_eq n) now) (speaks_of n (form f)) (some_atom_of (atom_speaks_of n) (forms (drop (i + 1) fs)))
      ∙ ap (λ x. list_any (bytes_eq n) now || (speaks_of n (form x) || some_atom_of (atom_speaks_of n) (forms (drop (i + 1) fs)))) is
      ∙ ap (λ b. list_any (bytes_eq n) now || b) (sym (at_drop_more (λ gs. some_atom_of (atom_speaks_of n) (forms gs)) fs i f lt))
      ∙ w.all n;
  once = λ o. g.once (w.once o);
}

-- with none left
pub way-all : (fs left : List Formula) (start now : List (List ℕ)) → left ≡ [] → IsUnderWay fs left start now → Gathers (λ n. some_atom_of (atom_speaks_of n) (forms fs)) start now
way-all fs left start now e w = record {
  all = λ n.
      sym (or-false (list_any (bytes_eq n) now))
      ∙ ap (λ gs. list_any (bytes_eq n) now || some_atom_of (atom_speaks_of n) (forms gs)) (sym e)
      ∙ w.all n;
  once = w.once;
}

-- what is gathered from nothing on is what the formula speaks of
pub all_mentions : (f : Form) (start ks ns : List (List ℕ)) → start ≡ [] → Gathers (λ n. speaks_of n f) start ks → ns ≡ ks → AreMentions ns f
all_mentions f start ks ns none g same =
    subst (λ l. AreMentions l f) (sym same)
    (record {
      all = λ n. g.all n ∙ ap (λ l. list_any (bytes_eq n) l || speaks_of n f) none;
      once = g.once (subst AreOnce (sym none) tt);
    })
