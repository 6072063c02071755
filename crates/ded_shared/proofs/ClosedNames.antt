-- Closed lists of names, as names are added with what they touch.
use Rattle.std.proofs.Common.{◌≡◌, ℕ, ◌+◌, ◌<◌, ◌≤◌, arith, Bool, ◌||◌, true, false, inl, inr, List, [], ◌∷◌, ◌++◌, Option, Some, None, take, length, get_or, refl, sym, ap, ◌∙◌, subst, true≢false, bytes_eq}
use Rattle.std.specs.Prelude.{is_none, IfSome}
use Rattle.std.specs.Cmp.{both_ways}
use Rattle.std.specs.List.{list_any}
use Rattle.std.proofs.Math.Bool.{or-false}
use Rattle.std.proofs.lemmas.List.Folds.{list_any-append, list_any_more, list_any_at}
use Rattle.std.proofs.lemmas.Slice.Eq.{bytes_eq-Decides}
use Rattle.ded_num.proofs.Tests.{bytes_eq-swap}
use Rattle.ded_model.specs.declared.name.Column.{Column}
use Rattle.ded_model.specs.Catalogue.{Entry, relation, view, Catalogue}
use Rattle.ded_model.specs.Command.{CommandForm}
use Rattle.ded_model.specs.Entries.{known, entry_of, view_in}
use Rattle.ded_model.specs.Form.{Form, FormAtom, compare, member, atom_speaks_of, speaks_of}
use Rattle.ded_model.specs.Known.{IsWellFormed, level_with}
use Rattle.ded_model.specs.Logic.{some_atom}
use Rattle.ded_model.specs.Made.{base}
use Rattle.ded_model.proofs.Bools.{bytes_eq-refl, or_assoc, or_known}
use Rattle.ded_model.proofs.Members.{or_split}
use Rattle.ded_model.proofs.Rows.{or_left, or_right}
use Rattle.ded_catalog.specs.Mentions.{AreMentions}
use Rattle.ded_sorts.specs.Causes.{formula_in, passes_with}
use Rattle.ded_views.specs.Reaching.{atom_reaches, reaches}
use Rattle.ded_views.proofs.Atoms.{some_passes}
use Rattle.ded_views.proofs.Named.{some_named, named_passes}
use Rattle.ded_views.proofs.Placing.{unreached}
use Rattle.ded_views.proofs.Views.{name_level, lesser_level, relation_reaches, view_reaches, used_reaches}
use Rattle.ded_shared.specs.Touching.{names_beside, name_touches, touches}
use Rattle.ded_shared.proofs.Reach.{some_reached, used_itself}
use Rattle.ded_shared.specs.Gathering.{AreBelow, AreNamed, IsClosed, Touches, TouchesAll}
use Rattle.ded_shared.specs.State.{is_among}

-- one name more
pub among_more : (ns : List (List ℕ)) (n m : List ℕ) → is_among (ns ++ n ∷ []) m ≡ (is_among ns m || bytes_eq m n)
among_more ns n m = list_any-append (bytes_eq m) ns (n ∷ []) ∙ ap (λ b. is_among ns m || b) (or-false (bytes_eq m n))

-- a name of the list stands there
pub stands_there : (ns : List (List ℕ)) (i : ℕ) (n : List ℕ) → i < length ns → n ≡ get_or ns i n → is_among ns n ≡ true
stands_there ns i n l e = list_any_at (bytes_eq n) ns i n l (sym (ap (bytes_eq n) e) ∙ bytes_eq-refl n)

-- the name is that of a view, whose formula speaks of these names
pub record IsViewOf (c : Catalogue) (n : List ℕ) (ms : List (List ℕ)) : Type 0 where
  pub own : List ℕ
  pub columns : List Column
  pub formula : Form
  pub entry : entry_of c.entries n ≡ Some (view own columns formula)
  pub names : (k : List ℕ) → is_among ms k ≡ speaks_of k formula

pub view_of : (c : Catalogue) (n : List ℕ) (ms : List (List ℕ)) → is_none (view_in (entry_of c.entries n)) ≡ false → IfSome (view_in (entry_of c.entries n)) (λ v. AreMentions ms v.1) → IsViewOf c n ms
view_of c n ms s a = by (entry_of c.entries n) refl s a
  where
    by : (o : Option Entry) → entry_of c.entries n ≡ o → is_none (view_in o) ≡ false → IfSome (view_in o) (λ v. AreMentions ms v.1) → IsViewOf c n ms
    by None e s a = absurd (true≢false s)
    by (Some (relation m h i ts)) e s a = absurd (true≢false s)
    by (Some (view m h f)) e s a = record { own = m; columns = h; formula = f; entry = e; names = a.all }

module _ (c : Catalogue) where
  -- ---- formulas

  -- a formula touches what a name does of which it speaks
  spoken_touches : (f : Form) (k m : List ℕ) → speaks_of k f ≡ true → name_touches c k m ≡ true → some_atom (atom_reaches (name_touches c) m) f ≡ true
  spoken_touches f k m u t = some_passes (atom_speaks_of k) (atom_reaches (name_touches c) m) step f u
    where
      step : (a : FormAtom) → atom_speaks_of k a ≡ true → atom_reaches (name_touches c) m a ≡ true
      step (compare l op r) e = absurd (true≢false (sym e))
      step (member j ts) e = subst (λ x. name_touches c x m ≡ true) ((bytes_eq-Decides k (base j)).0 e) t

  passing_touches : (o : Option Form) (k m : List ℕ) → passes_with o (speaks_of k) ≡ true → name_touches c k m ≡ true → passes_with o (λ f. some_atom (atom_reaches (name_touches c) m) f) ≡ true
  passing_touches None k m u t = absurd (true≢false (sym u))
  passing_touches (Some f) k m u t = spoken_touches f k m u t

  -- and nothing else
  passing_touched : (o : Option Form) (m : List ℕ) (X : Type 0) → ((k : List ℕ) → passes_with o (speaks_of k) ≡ true → name_touches c k m ≡ true → X)
      → passes_with o (λ f. some_atom (atom_reaches (name_touches c) m) f) ≡ true → X
  passing_touched None m X h e = absurd (true≢false (sym e))
  passing_touched (Some f) m X h e = some_reached (name_touches c) m X f h e

  -- a command touches what the names do that it has
  pub named_touches : (x : CommandForm) (ns : List (List ℕ)) → AreNamed x ns → (m : List ℕ) → list_any (λ k. name_touches c k m) ns ≡ touches c x m
  named_touches x ns a m = both_ways (list_any (λ k. name_touches c k m) ns) (touches c x m)
      (some_named (λ k. name_touches c k m) ns (touches c x m ≡ true) (λ k i t. elim (or_split (is_among (names_beside x) k) (passes_with (formula_in x) (speaks_of k)) (sym (a.all k) ∙ i)) [
        | inl b ↦ or_left (list_any (λ j. name_touches c j m) (names_beside x)) _ (named_passes (λ j. name_touches c j m) (names_beside x) k b t)
        | inr s ↦ or_right (list_any (λ j. name_touches c j m) (names_beside x)) _ (passing_touches (formula_in x) k m s t)
      ]))
      (λ e. elim (or_split (list_any (λ j. name_touches c j m) (names_beside x)) (passes_with (formula_in x) (λ f. some_atom (atom_reaches (name_touches c) m) f)) e) [
        | inl b ↦ some_named (λ j. name_touches c j m) (names_beside x) (list_any (λ k. name_touches c k m) ns ≡ true)
            (λ k i t. named_passes (λ j. name_touches c j m) ns k (a.all k ∙ or_left (is_among (names_beside x) k) _ i) t) b
        | inr s ↦ passing_touched (formula_in x) m (list_any (λ k. name_touches c k m) ns ≡ true)
            (λ k u t. named_passes (λ j. name_touches c j m) ns k (a.all k ∙ or_right (is_among (names_beside x) k) _ u) t) s
      ])

  -- so the names are touched that these touch, from none on
  pub touched_names : (x : CommandForm) (ns old new : List (List ℕ)) → old ≡ [] → AreNamed x ns → TouchesAll c ns old new → (m : List ℕ) → is_among new m ≡ touches c x m
  touched_names x ns old new e a t m = t.all m ∙ ap (λ l. is_among l m || list_any (λ k. name_touches c k m) ns) e ∙ named_touches x ns a m

  pub none_closed : (old : List (List ℕ)) → old ≡ [] → IsClosed c old
  none_closed old e n m i t = absurd (true≢false (sym i ∙ ap (λ l. is_among l n) e))

  -- ---- levels

  pub all_below : IsWellFormed c → (ns : List (List ℕ)) → AreBelow c ns 17
  all_below w ns n i = let l = name_level c w n in omega arith

  pub mentions_below : IsWellFormed c → (n : List ℕ) (ms : List (List ℕ)) (level : ℕ) → IsViewOf c n ms → level_with (known c n) ≤ level → AreBelow c ms level
  mentions_below w n ms level v l k i = let less = lesser_level c w n v.own v.columns v.formula v.entry k (sym (v.names k) ∙ i) in omega arith

  -- ---- lists of names

  pub touches_none : (old : List (List ℕ)) → IsClosed c old → TouchesAll c [] old old
  touches_none old k = record { closed = k; all = λ m. sym (or-false (is_among old m)) }

  -- one name more
  pub touches_more : (ns : List (List ℕ)) (i : ℕ) (n : List ℕ) (old mid new : List (List ℕ)) → i < length ns → n ≡ get_or ns i n → TouchesAll c (take i ns) old mid → Touches c n mid new
      → TouchesAll c (take (i + 1) ns) old new
  touches_more ns i n old mid new l e f a = record {
    closed = a.closed;
    all = λ m.
        a.all m
        ∙ ap (λ b. b || name_touches c n m) (f.all m)
        ∙ or_assoc (is_among old m) (list_any (λ k. name_touches c k m) (take i ns)) (name_touches c n m)
        ∙ ap (λ b. is_among old m || b) (ap (λ k. list_any (λ j. name_touches c j m) (take i ns) || name_touches c k m) e ∙ sym (list_any_more (λ k. name_touches c k m) ns i n l));
  }

  -- ---- one name

  -- nothing is added where the name stands there
  pub touched_before : (n : List ℕ) (old : List (List ℕ)) → IsClosed c old → is_among old n ≡ true → Touches c n old old
  touched_before n old k h = record { closed = k; all = λ m. or_known (is_among old m) (name_touches c n m) (k n m h) }

  module _ (n : List ℕ) (ms old mid : List (List ℕ)) (is : (m : List ℕ) → name_touches c n m ≡ (bytes_eq n m || list_any (λ k. name_touches c k m) ms)) (t : TouchesAll c ms old mid) where
    -- the name stands behind what its mentions touch
    regroup : (a b x : Bool) → ((a || b) || x) ≡ (a || (x || b))
    regroup true b x = refl
    regroup false true true = refl
    regroup false true false = refl
    regroup false false true = refl
    regroup false false false = refl

    all_last : (m : List ℕ) → is_among (mid ++ n ∷ []) m ≡ (is_among old m || name_touches c n m)
    all_last m =
        among_more mid n m
        ∙ ap (λ b. b || bytes_eq m n) (t.all m)
        ∙ regroup (is_among old m) (list_any (λ k. name_touches c k m) ms) (bytes_eq m n)
        ∙ ap (λ b. is_among old m || (b || list_any (λ k. name_touches c k m) ms)) (bytes_eq-swap m n)
        ∙ ap (λ b. is_among old m || b) (sym (is m))

    closed_last : IsClosed c (mid ++ n ∷ [])
    closed_last k m i r = elim (or_split (is_among mid k) (bytes_eq k n) (sym (among_more mid n k) ∙ i)) [
      | inl e ↦ among_more mid n m ∙ or_left (is_among mid m) (bytes_eq m n) (t.closed k m e r)
      | inr e ↦ all_last m ∙ or_right (is_among old m) (name_touches c n m) (subst (λ x. name_touches c x m ≡ true) ((bytes_eq-Decides k n).0 e) r)
    ]

    touched_last : Touches c n old (mid ++ n ∷ [])
    touched_last = record { closed = closed_last; all = all_last }

  -- a view touches itself, and what the names do that its formula speaks of
  view_touches : IsWellFormed c → (n : List ℕ) (ms : List (List ℕ)) → IsViewOf c n ms → (m : List ℕ) → name_touches c n m ≡ (bytes_eq n m || list_any (λ k. name_touches c k m) ms)
  view_touches w n ms v m =
      let is : reaches c n m ≡ _ = view_reaches c w n v.own v.columns v.formula v.entry m in
      both_ways (name_touches c n m) (bytes_eq n m || list_any (λ k. name_touches c k m) ms)
      (λ e. elim (or_split (bytes_eq n m) (reaches c n m) e) [
        | inl s ↦ or_left (bytes_eq n m) _ s
        | inr r ↦ elim (or_split (bytes_eq n m) (some_atom (atom_reaches (reaches c) m) v.formula) (sym is ∙ r)) [
          | inl s ↦ or_left (bytes_eq n m) _ s
          | inr a ↦ or_right (bytes_eq n m) _ (some_reached (reaches c) m (list_any (λ k. name_touches c k m) ms ≡ true) v.formula
              (λ k u t. named_passes (λ j. name_touches c j m) ms k (v.names k ∙ u) (or_right (bytes_eq k m) _ t)) a)
        ]
      ])
      (λ e. elim (or_split (bytes_eq n m) (list_any (λ k. name_touches c k m) ms) e) [
        | inl s ↦ or_left (bytes_eq n m) _ s
        | inr a ↦ or_right (bytes_eq n m) _ (some_named (λ k. name_touches c k m) ms (reaches c n m ≡ true) (λ k i t. further k (sym (v.names k) ∙ i) t) a)
      ])
    where
      further : (k : List ℕ) → speaks_of k v.formula ≡ true → name_touches c k m ≡ true → reaches c n m ≡ true
      further k u t = used_reaches c w n v.own v.columns v.formula v.entry k m u (elim (or_split (bytes_eq k m) (reaches c k m) t) [
        | inl s ↦ subst (λ x. reaches c k x ≡ true) ((bytes_eq-Decides k m).0 s) (used_itself c w n v.own v.columns v.formula v.entry k u)
        | inr r ↦ r
      ])

  pub touched_view : IsWellFormed c → (n : List ℕ) (ms old mid : List (List ℕ)) → IsViewOf c n ms → TouchesAll c ms old mid → Touches c n old (mid ++ n ∷ [])
  touched_view w n ms old mid v t = touched_last n ms old mid (view_touches w n ms v) t

  -- a name that isn't that of a view touches itself alone
  other_touches : IsWellFormed c → (n : List ℕ) → is_none (view_in (entry_of c.entries n)) ≡ true → (m : List ℕ) → name_touches c n m ≡ (bytes_eq n m || false)
  other_touches w n e m = by (entry_of c.entries n) refl e
    where
      twice : (b : Bool) → (b || b) ≡ (b || false)
      twice true = refl
      twice false = refl

      by : (o : Option Entry) → entry_of c.entries n ≡ o → is_none (view_in o) ≡ true → name_touches c n m ≡ (bytes_eq n m || false)
      by None f e = ap (λ t. bytes_eq n m || t m) (unreached c n f)
      by (Some (relation j h i ts)) f e = ap (λ b. bytes_eq n m || b) (relation_reaches c w n j h i ts f m) ∙ twice (bytes_eq n m)
      by (Some (view j h g)) f e = absurd (true≢false (sym e))

  pub touched_other : IsWellFormed c → (n : List ℕ) (old : List (List ℕ)) → is_none (view_in (entry_of c.entries n)) ≡ true → IsClosed c old → Touches c n old (old ++ n ∷ [])
  touched_other w n old e k = touched_last n [] old old (other_touches w n e) (touches_none old k)
