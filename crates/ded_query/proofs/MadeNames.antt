-- Closures and interiors of what stands for a name, and their names.
use Rattle.std.proofs.Common.{◌≡◌, ◌≢◌, ℕ, ◌<◌, ◌+◌, ◌*◌, arith, Bool, true, false, ◌&&◌, ◌||◌, inl, inr, List, [], ◌∷◌, ◌++◌, length, map, Option, Some, None, is_some, refl, sym, ap, ◌∙◌, subst, true≢false}
use Rattle.std.specs.Prelude.{◌↔◌, ◌⊎◌, IsTrue, codes, if◌then◌else◌}
use Rattle.std.specs.List.{list_all, AllByRecursion}
use Rattle.std.specs.Option.{option_map}
use Rattle.std.proofs.lemmas.Option.{none-some}
use Rattle.ded_model.specs.declared.name.Column.{Column}
use Rattle.ded_model.proofs.Sublists.{sublist_all}
use Rattle.ded_model.specs.Catalogue.{Entry, Catalogue, tuples_of, at_slots, meaning}
use Rattle.ded_model.specs.Entries.{known, columns_in, entry_of, relation_in}
use Rattle.ded_model.specs.Known.{Known, IsTupleOver, IsWellFormed}
use Rattle.ded_model.specs.Lines.{In, IsSubset, tuples_lines, atoms_lines}
use Rattle.ded_model.specs.Made.{Reading, itself, closure_of, interior_of, between, reading_by, reading, base_by, base, is_made_by, is_made}
use Rattle.ded_model.specs.Measure.{Measure, measure_as, measures, stored_measures}
use Rattle.ded_model.specs.Near.{IsCloseAt, IsInsideAt}
use Rattle.ded_model.specs.Point.{Point, IsPoint}
use Rattle.ded_model.specs.Width.{IsNarrowList}
use Rattle.ded_complement.specs.Pieces.{all_atoms}
use Rattle.ded_genrel.specs.Lists.{SomeConj}
use Rattle.ded_model.specs.Row.{Atom, tuple_holds, tuples_hold}
use Rattle.ded_model.specs.Sublists.{IsSublistWithout}
use Rattle.ded_model.proofs.Rows.{or_left}
use Rattle.ded_model.proofs.Members.{In-left, In-right, In-split}
use Rattle.ded_model.proofs.Made.{behind_none, between_none, plain_base}
use Rattle.ded_model.proofs.Entries.{measure-plain}
use Rattle.ded_algebra.specs.Evaluation.{given_tuples}
use Rattle.ded_algebra.specs.declared.given.GivenRelation.{GivenRelation}
use Rattle.ded_algebra.specs.Given.{given_catalogue, given_entry, has_name}
use Rattle.ded_algebra.proofs.Names.{tuples-unnumbered}
use Rattle.ded_ranges.specs.declared.window.Window.{Window}
use Rattle.ded_ranges.specs.Limits.{are_met}
use Rattle.ded_ranges.specs.Windows.{column_value, is_text_met, is_within, IsMissed, IsNear, AreLent}
use Rattle.ded_query.specs.Gathering.{IsGivenOf}
use Rattle.ded_query.specs.Made.{IsStanding, HoldsNear, IsMadeBy, IsTooWide}
use Rattle.ded_query.proofs.GivenNames.{found_of}
use Rattle.ded_topology.specs.Names.{HoldsAsTuples, StandsForName}
use Rattle.ded_views.proofs.Placing.{unknown}
use Rattle.ded_views.proofs.Views.{plain_there}
use Rattle.ded_views.proofs.MadeNames.{plain_same}
use Rattle.ded_topology.proofs.Arguments.{arguments_point}

-- ---- names

made_some : (m i : Option (List ℕ)) → is_made_by (reading_by m i) ≡ true → (x : Option (List ℕ)) → m ≡ None → i ≡ None → ⊥
made_some m i h x e f = true≢false (sym h ∙ ap (λ o. is_made_by (reading_by o i)) e ∙ ap (λ o. is_made_by (reading_by None o)) f)

-- a made name with this front is a closure's
pub reads_closure : (n rest : List ℕ) → n ≡ codes "closure(" ++ rest → is_made n ≡ true → reading n ≡ closure_of (base n)
unfolding reading
reads_closure n rest e h = by (between (codes "closure(") n) refl
  where
    other : between (codes "interior(") n ≡ None
    other = ap (between (codes "interior(")) e

    by : (o : Option (List ℕ)) → between (codes "closure(") n ≡ o → reading_by (between (codes "closure(") n) (between (codes "interior(") n) ≡ closure_of (base_by n (reading_by (between (codes "closure(") n) (between (codes "interior(") n)))
    by (Some m) f = ap (λ o. reading_by o (between (codes "interior(") n)) f ∙ ap closure_of (sym (ap (λ o. base_by n (reading_by o (between (codes "interior(") n))) f))
    by None f = absurd (made_some (between (codes "closure(") n) (between (codes "interior(") n) h None f other)

-- and one without it is an interior's
pub reads_interior : (n : List ℕ) → ((rest : List ℕ) → n ≢ codes "closure(" ++ rest) → is_made n ≡ true → reading n ≡ interior_of (base n)
unfolding reading
reads_interior n k h = by (between (codes "interior(") n) refl
  where
    other : between (codes "closure(") n ≡ None
    other = between_none (codes "closure(") n (behind_none (codes "closure(") n k)

    by : (o : Option (List ℕ)) → between (codes "interior(") n ≡ o → reading_by (between (codes "closure(") n) (between (codes "interior(") n) ≡ interior_of (base_by n (reading_by (between (codes "closure(") n) (between (codes "interior(") n)))
    by (Some m) f =
        let e : reading_by (between (codes "closure(") n) (between (codes "interior(") n) ≡ interior_of m = ap (λ o. reading_by o (between (codes "interior(") n)) other ∙ ap (reading_by None) f in
        e ∙ ap interior_of (sym (ap (base_by n) e))
    by None f = absurd (made_some (between (codes "closure(") n) (between (codes "interior(") n) h None other f)

-- how a made name is read, by whether it has the front
pub reads_as : (n : List ℕ) (b : Bool) (back : List ℕ) → (b ≡ true → n ≡ codes "closure(" ++ back) → ((rest : List ℕ) → n ≡ codes "closure(" ++ rest → b ≡ true) → is_made n ≡ true
    → reading n ≡ (if b then closure_of (base n) else interior_of (base n))
reads_as n true back some none h = reads_closure n back (some refl) h
reads_as n false back some none h = reads_interior n (λ rest e. true≢false (sym (none rest e))) h

-- ---- windows that ask nothing

module _ (w : Window) (limits : w.limits.items ≡ []) (texts : w.texts.items ≡ []) where
  within_all : (p : Point) → is_within w p ≡ true
  within_all p = ap (λ ls. are_met (column_value p) p.den ls && list_all (is_text_met p) w.texts.items) limits ∙ ap (λ ts. list_all (is_text_met p) ts) texts

  near_hold : (p : Point) → IsPoint p → (us ts : List (List Atom)) → IsSublistWithout (IsMissed w) us ts → tuples_hold us p ≡ tuples_hold ts p
  unfolding tuples_hold
  near_hold p i us [] k = ap (λ xs. tuples_hold xs p) k
  near_hold p i us (t ∷ ts) (inl m) = near_hold p i us ts m.1 ∙ ap (λ b. b || tuples_hold ts p) (sym (m.0 p i (within_all p)))
  near_hold p i us (t ∷ ts) (inr m) = ap (λ xs. tuples_hold xs p) m.1 ∙ ap (λ b. tuple_holds t p || b) (near_hold p i m.0 ts m.2)

  near_lines : (us ts : List (List Atom)) → IsSublistWithout (IsMissed w) us ts → IsSubset (tuples_lines us) (tuples_lines ts)
  near_lines us [] k = λ l x. subst (λ xs. In l (tuples_lines xs)) k x
  near_lines us (t ∷ ts) (inl m) = λ l x. In-right l (atoms_lines t) (tuples_lines ts) (near_lines us ts m.1 l x)
  near_lines us (t ∷ ts) (inr m) = λ l x.
      elim (In-split l (atoms_lines t) (tuples_lines m.0) (subst (λ xs. In l (tuples_lines xs)) m.1 x)) [
        | inl a ↦ In-left l (atoms_lines t) (tuples_lines ts) a
        | inr b ↦ In-right l (atoms_lines t) (tuples_lines ts) (near_lines m.0 ts m.2 l b)
      ]

-- ---- what stands for a name

-- the name of a relation or a view is no made one
pub known_plain : (c : Catalogue) (n : List ℕ) → IsWellFormed c → is_some (known c n) ≡ true → is_made n ≡ false
known_plain c n w k = by (entry_of c.entries n) refl
  where
    by : (o : Option Entry) → entry_of c.entries n ≡ o → is_made n ≡ false
    by None e = absurd (true≢false (sym k ∙ ap is_some (unknown c n e)))
    by (Some x) e = plain_there c w n x e

given_from : (rs : List GivenRelation) (n : List ℕ) (r : GivenRelation) → entry_of (map given_entry rs) n ≡ Some (given_entry r) → given_tuples (given_catalogue rs) n ≡ Some r.tuples
given_from rs n r e = ap (λ (x : Option Entry). option_map tuples_of (relation_in x)) e ∙ ap (λ ts. Some ts) (tuples-unnumbered r.tuples)

module _ (c : Catalogue) (rs : List GivenRelation) (n : List ℕ) (w : Window) (limits : w.limits.items ≡ []) (texts : w.texts.items ≡ []) (unmade : is_made n ≡ false) where
  -- of a relation of the name
  stands_as : (r : GivenRelation) → IsGivenOf c r → r.name ≡ n → (us : List (List Atom)) → IsNear w us r.tuples → IsStanding c n us
  stands_as r g e us k =
      let columns : columns_in c n ≡ r.heading = ap (columns_in c) (sym (plain_base n unmade) ∙ ap base (sym e)) ∙ g.columns in record {
        stands = record {
          means = λ d xs p b l.
              let h = columns_in c n in
              let at : Point = record { den = d; coords = at_slots 0 h xs } in
              let given : meaning c n d xs ↔ IsTrue (tuples_hold r.tuples at) =
              subst (λ k. meaning c n d xs ↔ IsTrue (tuples_hold r.tuples (record { den = d; coords = at_slots 0 k xs }))) (sym columns)
              (subst (λ (m : List ℕ). meaning c m d xs ↔ IsTrue (tuples_hold r.tuples (record { den = d; coords = at_slots 0 r.heading xs }))) e (g.means d xs p b (l ∙ ap length columns))) in
              let near = near_hold w limits texts at (arguments_point d h xs p b) us r.tuples k in
              let plain = plain_same c n unmade d xs in
              (λ s. subst IsTrue (sym near) (given.0 (plain.1 s)), λ t. plain.0 (given.1 (subst IsTrue near t)));
          over = subst (λ k. AllByRecursion (IsTupleOver k) us) (sym columns) (sublist_all (IsMissed w) (IsTupleOver r.heading) us r.tuples k g.over);
        };
        lines = λ l x. subst (λ (m : Measure). In l m.lines) (measure-plain c n unmade) (subst (λ (m : List ℕ). In l (measures c m).lines) e (g.lines l (near_lines w limits texts us r.tuples k l x)));
      }

  -- of what is found under the name
  pub stands_found : AllByRecursion (IsGivenOf c) rs → has_name n rs ≡ true → (us : List (List Atom)) → AreLent w (Some us) (given_tuples (given_catalogue rs) n) → IsStanding c n us
  stands_found g there us k =
      let f = found_of (IsGivenOf c) rs n g there in
      stands_as f.relation f.of f.named us (subst (AreLent w (Some us)) (given_from rs n f.relation f.entry) k)

  pub never_none : AllByRecursion (IsGivenOf c) rs → has_name n rs ≡ true → AreLent w None (given_tuples (given_catalogue rs) n) → ⊥
  never_none g there k = let f = found_of (IsGivenOf c) rs n g there in subst (AreLent w None) (given_from rs n f.relation f.entry) k

-- ---- what is made of it

module _ (c : Catalogue) (m n : List ℕ) where
  made_lines : (r : Reading) → reading m ≡ r → is_made_by r ≡ true → n ≡ base_by m r → (measures c m).lines ≡ (stored_measures c n).lines
  unfolding measures
  made_lines itself e k i = absurd (true≢false (sym k))
  made_lines (closure_of x) e k i = ap (λ q. (measure_as (stored_measures c) m q).lines) e ∙ ap (λ y. (stored_measures c y).lines) (sym i)
  made_lines (interior_of x) e k i = ap (λ q. (measure_as (stored_measures c) m q).lines) e ∙ ap (λ y. (stored_measures c y).lines) (sym i)

module _ (c : Catalogue) (m n : List ℕ) where
  clash_by : (r : Reading) → reading m ≡ r → is_made_by r ≡ true → n ≡ base_by m r → (stored_measures c n).clash ≡ true → (measures c m).clash ≡ true
  unfolding measures
  clash_by itself e i k s = absurd (true≢false (sym i))
  clash_by (closure_of x) e i k s = ap (λ q. (measure_as (stored_measures c) m q).clash) e ∙ or_left (stored_measures c x).clash _ (ap (λ y. (stored_measures c y).clash) (sym k) ∙ s)
  clash_by (interior_of x) e i k s = ap (λ q. (measure_as (stored_measures c) m q).clash) e ∙ or_left (stored_measures c x).clash _ (ap (λ y. (stored_measures c y).clash) (sym k) ∙ s)

-- what the laws of closures and interiors say
pub record Laws : Type 0 where
  pub closure : (c : Catalogue) (m n : List ℕ) (h : List Column) (ts us : List (List Atom)) → reading m ≡ closure_of n → StandsForName c n h ts
      → ((p : Point) → IsPoint p → IsCloseAt (tuples_hold ts) p ↔ IsTrue (tuples_hold us p)) → AllByRecursion (IsTupleOver h) us → HoldsAsTuples (meaning c m) h us
  pub interior : (c : Catalogue) (m n : List ℕ) (h : List Column) (ts us : List (List Atom)) → reading m ≡ interior_of n → StandsForName c n h ts
      → ((p : Point) → IsPoint p → IsInsideAt (tuples_hold ts) p ↔ IsTrue (tuples_hold us p)) → AllByRecursion (IsTupleOver h) us → HoldsAsTuples (meaning c m) h us
  pub each : (c : Catalogue) → IsWellFormed c → (m n : List ℕ) → (reading m ≡ closure_of n) ⊎ (reading m ≡ interior_of n)
      → (ts : List (List Atom)) → AllByRecursion (IsTupleOver (columns_in c n)) ts → IsSubset (tuples_lines ts) (stored_measures c n).lines
      → SomeConj (λ t. IsNarrowList t → ⊥) ts → (measures c m).clash ≡ true
  pub together : (c : Catalogue) → IsWellFormed c → (m n : List ℕ) → (reading m ≡ closure_of n) ⊎ (reading m ≡ interior_of n)
      → (ts : List (List Atom)) → AllByRecursion (IsTupleOver (columns_in c n)) ts → IsSubset (tuples_lines ts) (stored_measures c n).lines
      → (IsNarrowList (all_atoms ts) → ⊥) → (measures c m).clash ≡ true

module _ (laws : Laws) (c : Catalogue) (w : IsWellFormed c) (m n : List ℕ) (made : is_made m ≡ true) (inner : n ≡ base m) (ts : List (List Atom)) (s : IsStanding c n ts) where
  near_means : (us : List (List Atom)) (r : Reading) → reading m ≡ r → HoldsNear r ts us → AllByRecursion (IsTupleOver (columns_in c n)) us → HoldsAsTuples (meaning c m) (columns_in c n) us
  near_means us itself e k o = absurd k
  near_means us (closure_of x) e k o =
      let same : n ≡ x = inner ∙ ap (base_by m) e in
      laws.closure c m n (columns_in c n) ts us (e ∙ ap closure_of (sym same)) s.stands k o
  near_means us (interior_of x) e k o =
      let same : n ≡ x = inner ∙ ap (base_by m) e in
      laws.interior c m n (columns_in c n) ts us (e ∙ ap interior_of (sym same)) s.stands k o

  pub made_given : (us : List (List Atom)) → IsMadeBy (reading m) ts us → IsGivenOf c (record { name = m; heading = columns_in c n; tuples = us })
  made_given us k =
      let over = k.over (columns_in c n) s.stands.over in record {
        columns = ap (columns_in c) (sym inner);
        over = over;
        means = near_means us (reading m) refl k.holds over;
        lines = λ l x. subst (In l) (sym (made_lines c m n (reading m) refl made inner)) (s.lines l (k.lines l x));
      }

  pub made_clash : (r : Reading) → reading m ≡ r → IsTooWide r ts → (measures c m).clash ≡ true
  made_clash itself e k = absurd k
  made_clash (closure_of x) e k =
      let same : n ≡ x = inner ∙ ap (base_by m) e in
      laws.each c w m n (inl (e ∙ ap closure_of (sym same))) ts s.stands.over s.lines k
  made_clash (interior_of x) e k =
      let same : n ≡ x = inner ∙ ap (base_by m) e in
      laws.together c w m n (inr (e ∙ ap interior_of (sym same))) ts s.stands.over s.lines k

-- ---- of code

-- a name that has a heading is known, and one that has none isn't
pub headed_known : {A : Type 0} (now : A → List Column) (o : Option A) (k : Option Known) → option_map now o ≡ option_map (λ x. x.columns) k → is_some o ≡ is_some k
headed_known now None None e = refl
headed_known now None (Some k) e = absurd (none-some k.columns e)
headed_known now (Some h) None e = absurd (none-some (now h) (sym e))
headed_known now (Some h) (Some k) e = refl

-- a name that isn't known, and is made of a known one
module _ (c : Catalogue) (w : IsWellFormed c) (m n : List ℕ) (inner : n ≡ base m) (unknown_name : is_some (known c m) ≡ false) (known_base : is_some (known c (base m)) ≡ true) where
  pub is_other : is_made m ≡ true
  is_other = by (is_made m) refl
    where
      by : (b : Bool) → is_made m ≡ b → b ≡ true
      by true e = refl
      by false e = absurd (true≢false (sym known_base ∙ ap (λ x. is_some (known c x)) (plain_base m e) ∙ unknown_name))

  pub inner_known : is_some (known c n) ≡ true
  inner_known = ap (λ x. is_some (known c x)) inner ∙ known_base

  pub inner_plain : is_made n ≡ false
  inner_plain = known_plain c n w inner_known

  pub inner_base : base n ≡ base m
  inner_base = plain_base n inner_plain ∙ inner

  -- it clashes where that does
  pub inner_clash : (measures c n).clash ≡ true → (measures c m).clash ≡ true
  inner_clash k = by (reading m) refl is_other
    where
      stored_clash : (stored_measures c n).clash ≡ true
      stored_clash = ap (λ (x : Measure). x.clash) (sym (measure-plain c n inner_plain)) ∙ k

      by : (r : Reading) → reading m ≡ r → is_made_by r ≡ true → (measures c m).clash ≡ true
      by r e i = clash_by c m n r e i (inner ∙ ap (base_by m) e) stored_clash

-- a name that isn't made is given at a lower step than one that is
pub lower : (l : ℕ) (a b : Bool) → a ≡ false → b ≡ true → 9 * l + (if a then 3 else 1) < 9 * l + (if b then 2 else 0)
lower l true b e f = absurd (true≢false e)
lower l false true e f = omega arith
lower l false false e f = absurd (true≢false (sym f))
