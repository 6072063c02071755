-- What the names of given relations mean and measure, where these hold what the names do over a catalogue.
use Rattle.std.proofs.Common.{◌≡◌, ℕ, ◌<◌, Bool, true, false, cond, ◌||◌, ◌⊎◌, inl, inr, List, [], ◌∷◌, ◌++◌, length, map, Some, None, refl, sym, ap, ◌∙◌, subst, true≢false, bytes_eq}
use Rattle.std.specs.Prelude.{◌↔◌, IsTrue, MatchBool}
use Rattle.std.specs.List.{AllByRecursion}
use Rattle.std.proofs.lemmas.Slice.Eq.{bytes_eq-Decides}
use Rattle.ded_model.specs.Row.{Atom, tuples_hold}
use Rattle.ded_model.specs.Catalogue.{Catalogue, tuples_of, at_slots, with_entry, meaning_from, stored, meaning}
use Rattle.ded_model.specs.Entries.{entry_of, columns_in}
use Rattle.ded_model.proofs.Rows.{or_left, or_right}
use Rattle.ded_model.specs.Lines.{IsSubset, tuples_lines}
use Rattle.ded_model.specs.Measure.{Measures, with_measure, measures_from, stored_measures, measures}
use Rattle.ded_model.specs.Made.{base}
use Rattle.ded_model.specs.Value.{Argument, Meaning}
use Rattle.ded_algebra.specs.declared.given.GivenRelation.{GivenRelation}
use Rattle.ded_algebra.specs.Given.{unnumbered, given_entry, given_catalogue, has_name}
use Rattle.ded_views.specs.Same.{AreByteArguments, IsSameOf}
use Rattle.ded_genrel.proofs.Items.{all_weaker}
use Rattle.ded_query.specs.Gathering.{IsGivenOf}
use Rattle.ded_query.specs.Windows.{IsShapedOf}
use Rattle.ded_algebra.proofs.Names.{tuples-unnumbered}

pub same_name : (n m : List ℕ) → bytes_eq n m ≡ true → m ≡ n
same_name n m e = sym ((bytes_eq-Decides n m).0 e)

-- ---- shapes

-- what is given of a name is over its columns, with lines among its
pub shaped : (c : Catalogue) (rs : List GivenRelation) → AllByRecursion (IsGivenOf c) rs → AllByRecursion (IsShapedOf c) rs
shaped c rs g = all_weaker (IsGivenOf c) (IsShapedOf c) rs (λ r own. record { columns = own.columns; over = own.over; lines = own.lines }) g

-- ---- meanings

module _ (c : Catalogue) (n : List ℕ) (d : ℕ) (xs : List Argument) where
  -- a relation of the name holds where the name does over the catalogue
  abbrev pub MeansThere : GivenRelation → Type 0
  MeansThere r = r.name ≡ n → meaning c n d xs ↔ IsTrue (tuples_hold r.tuples (record { den = d; coords = at_slots 0 r.heading xs }))

  -- of the relation's own name
  own_means : (r : GivenRelation) → MeansThere r → bytes_eq n r.name ≡ true → (I : Meaning) → meaning c n d xs ↔ with_entry I (given_entry r) n d xs
  own_means r g e I =
      subst (λ (b : Bool). meaning c n d xs ↔ MatchBool b (IsTrue (tuples_hold (tuples_of (unnumbered r.tuples)) (record { den = d; coords = at_slots 0 r.heading xs }))) (I n d xs)) (sym e)
      (subst (λ (ts : List (List Atom)). meaning c n d xs ↔ IsTrue (tuples_hold ts (record { den = d; coords = at_slots 0 r.heading xs }))) (sym (tuples-unnumbered r.tuples)) (g (same_name n r.name e)))

  -- of another name
  other_means : (r : GivenRelation) → bytes_eq n r.name ≡ false → (I : Meaning) → meaning c n d xs ↔ I n d xs → meaning c n d xs ↔ with_entry I (given_entry r) n d xs
  other_means r e I h =
      subst (λ (b : Bool). meaning c n d xs ↔ MatchBool b (IsTrue (tuples_hold (tuples_of (unnumbered r.tuples)) (record { den = d; coords = at_slots 0 r.heading xs }))) (I n d xs)) (sym e) h

  -- a name that is given, or that means so already
  means_from : (rs : List GivenRelation) (I : Meaning) → AllByRecursion MeansThere rs → (has_name n rs ≡ true) ⊎ (meaning c n d xs ↔ I n d xs) → meaning c n d xs ↔ meaning_from I (map given_entry rs) n d xs
  means_from [] I g (inl e) = absurd (true≢false (sym e))
  means_from [] I g (inr h) = h
  means_from (r ∷ rs) I g h = means_from rs (with_entry I (given_entry r)) g.1 (by (bytes_eq n r.name) refl h)
    where
      by : (b : Bool) → bytes_eq n r.name ≡ b → ((b || has_name n rs) ≡ true) ⊎ (meaning c n d xs ↔ I n d xs) → (has_name n rs ≡ true) ⊎ (meaning c n d xs ↔ with_entry I (given_entry r) n d xs)
      by true e h = inr (own_means r g.0 e I)
      by false e (inl f) = inl f
      by false e (inr f) = inr (other_means r e I f)

  -- over what is given it means the same
  pub means_there : (rs : List GivenRelation) → AllByRecursion MeansThere rs → has_name n rs ≡ true → stored (given_catalogue rs) n d xs ↔ meaning c n d xs
  unfolding stored
  means_there rs g e = let h = means_from rs (λ n d xs. ⊥) g (inl e) in (h.1, h.0)

-- a name that is given means the same of as many arguments as it has columns
pub given_means : (c : Catalogue) (rs : List GivenRelation) (n : List ℕ) → AllByRecursion (IsGivenOf c) rs → has_name n rs ≡ true
    → IsSameOf (length (columns_in c (base n))) (stored (given_catalogue rs) n) (meaning c n)
given_means c rs n g e = λ d xs i k l. means_there c n d xs rs (all_weaker (IsGivenOf c) (MeansThere c n d xs) rs (λ r own. there d xs i k l r own) g) e
  where
    there : (d : ℕ) (xs : List Argument) → 0 < d → AreByteArguments xs → length xs ≡ length (columns_in c (base n)) → (r : GivenRelation) → IsGivenOf c r → MeansThere c n d xs r
    there d xs i k l r own = λ named.
        subst (λ (m : List ℕ). meaning c m d xs ↔ IsTrue (tuples_hold r.tuples (record { den = d; coords = at_slots 0 r.heading xs }))) named
        (own.means d xs i k (l ∙ ap (λ m. length (columns_in c (base m))) (sym named) ∙ ap length own.columns))

-- ---- lines

module _ (c : Catalogue) (n : List ℕ) where
  own_lines : (r : GivenRelation) (M : Measures) → IsShapedOf c r → IsSubset (M n).lines (measures c n).lines → IsSubset (with_measure M (given_entry r) n).lines (measures c n).lines
  own_lines r M g h = by (bytes_eq n r.name) refl
    where
      by : (b : Bool) → bytes_eq n r.name ≡ b → IsSubset (with_measure M (given_entry r) n).lines (measures c n).lines
      by true e =
          rw e (subst (λ ts. IsSubset (tuples_lines ts) (measures c n).lines) (sym (tuples-unnumbered r.tuples)) (subst (λ (m : List ℕ). IsSubset (tuples_lines r.tuples) (measures c m).lines) (same_name n r.name e) g.lines))
      by false e = rw e h

  own_clash : (r : GivenRelation) (M : Measures) → (M n).clash ≡ false → (with_measure M (given_entry r) n).clash ≡ false
  own_clash r M h = by (bytes_eq n r.name) refl
    where
      by : (b : Bool) → bytes_eq n r.name ≡ b → (with_measure M (given_entry r) n).clash ≡ false
      by true e = rw e refl
      by false e = rw e h

  pub lines_from : (rs : List GivenRelation) (M : Measures) → AllByRecursion (IsShapedOf c) rs → IsSubset (M n).lines (measures c n).lines → IsSubset (measures_from M (map given_entry rs) n).lines (measures c n).lines
  lines_from [] M g h = h
  lines_from (r ∷ rs) M g h = lines_from rs (with_measure M (given_entry r)) g.1 (own_lines r M g.0 h)

  pub clash_from : (rs : List GivenRelation) (M : Measures) → (M n).clash ≡ false → (measures_from M (map given_entry rs) n).clash ≡ false
  clash_from [] M h = h
  clash_from (r ∷ rs) M h = clash_from rs (with_measure M (given_entry r)) (own_clash r M h)

-- each name has lines among those that it has over the catalogue
pub given_lines : (c : Catalogue) (rs : List GivenRelation) → AllByRecursion (IsShapedOf c) rs → (n : List ℕ) → IsSubset (stored_measures (given_catalogue rs) n).lines (measures c n).lines
unfolding stored_measures
given_lines c rs g n = lines_from c n rs _ g (λ l i. absurd i)

-- and no clash
pub given_clash : (rs : List GivenRelation) (n : List ℕ) → (stored_measures (given_catalogue rs) n).clash ≡ false
unfolding stored_measures
given_clash rs n = clash_from (given_catalogue rs) n rs _ refl

-- ---- entries

-- a relation of the name, which is found
pub record IsFoundOf (P : GivenRelation → Type 0) (rs : List GivenRelation) (n : List ℕ) : Type 0 where
  pub relation : GivenRelation
  pub of : P relation
  pub named : relation.name ≡ n
  pub entry : entry_of (map given_entry rs) n ≡ Some (given_entry relation)

pub found_of : (P : GivenRelation → Type 0) (rs : List GivenRelation) (n : List ℕ) → AllByRecursion P rs → has_name n rs ≡ true → IsFoundOf P rs n
found_of P [] n g e = absurd (true≢false (sym e))
found_of P (r ∷ rs) n g e = by (bytes_eq n r.name) refl e (found_of P rs n g.1)
  where
    by : (b : Bool) → bytes_eq n r.name ≡ b → (b || has_name n rs) ≡ true → (has_name n rs ≡ true → IsFoundOf P rs n) → IsFoundOf P (r ∷ rs) n
    by true f h next = record { relation = r; of = g.0; named = same_name n r.name f; entry = ap (λ b. cond b (Some (given_entry r)) (entry_of (map given_entry rs) n)) f }
    by false f h next =
        let found = next h in
        record { relation = found.relation; of = found.of; named = found.named; entry = ap (λ b. cond b (Some (given_entry r)) (entry_of (map given_entry rs) n)) f ∙ found.entry }

-- no entry has a name that isn't given
pub no_entry : (n : List ℕ) (rs : List GivenRelation) → has_name n rs ≡ false → entry_of (given_catalogue rs).entries n ≡ None
no_entry n [] h = refl
no_entry n (r ∷ rs) h = by (bytes_eq n r.name) h (no_entry n rs)
  where
    by : (b : Bool) → (b || has_name n rs) ≡ false → (has_name n rs ≡ false → entry_of (map given_entry rs) n ≡ None) → cond b (Some (given_entry r)) (entry_of (map given_entry rs) n) ≡ None
    by true h next = absurd (true≢false h)
    by false h next = next h

-- ---- of code

-- the last one of a list is given
pub has_last : (rs : List GivenRelation) (r : GivenRelation) → has_name r.name (rs ++ r ∷ []) ≡ true
has_last [] r = or_left (bytes_eq r.name r.name) false ((bytes_eq-Decides r.name r.name).1 refl)
has_last (x ∷ rs) r = or_right (bytes_eq r.name x.name) (has_name r.name (rs ++ r ∷ [])) (has_last rs r)
