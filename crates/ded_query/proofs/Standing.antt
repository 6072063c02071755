-- The relations of a catalogue behind what is given: which names there are, what stands under a name, and that all is right.
use Rattle.std.proofs.Common.{◌≡◌, ℕ, Bool, true, false, not, ◌||◌, ◌&&◌, cond, inl, inr, Option, Some, None, is_some, List, [], ◌∷◌, ◌++◌, append_assoc, map, refl, sym, ap, ◌∙◌, true≢false, bytes_eq}
use Rattle.std.specs.List.{list_any, AllByRecursion}
use Rattle.std.specs.Option.{option_map}
use Rattle.std.proofs.Math.Bool.{and-false}
use Rattle.std.proofs.lemmas.Bool.{or_from, or_parts, false_from_ne_true}
use Rattle.std.proofs.lemmas.List.Folds.{list_any-append}
use Rattle.std.proofs.lemmas.Option.{none-some}
use Rattle.std.proofs.lemmas.Slice.Eq.{bytes_eq-Decides}
use Rattle.ded_model.specs.Catalogue.{Entry, relation, view, Catalogue, entry_name, tuples_of}
use Rattle.ded_model.specs.Entries.{entry_of, relation_in}
use Rattle.ded_model.specs.Known.{KnownNames, AreEntriesOver, IsWellFormed, entry_known, with_known}
use Rattle.ded_model.proofs.Bools.{bytes_eq-refl}
use Rattle.ded_model.proofs.Members.{or_split}
use Rattle.ded_model.proofs.Rows.{or_left, or_right}
use Rattle.ded_sorts.proofs.KnownEntries.{absent}
use Rattle.ded_genrel.proofs.Items.{all-append, all_weaker}
use Rattle.ded_algebra.specs.Evaluation.{AreGiven, given_tuples}
use Rattle.ded_algebra.specs.declared.given.GivenRelation.{GivenRelation}
use Rattle.ded_algebra.specs.Given.{given_entry, given_catalogue, has_name, AreNamedApart}
use Rattle.ded_algebra.proofs.Names.{tuples-unnumbered, found_in, are_given}
use Rattle.ded_views.proofs.Changing.{entry_there}
use Rattle.ded_query.specs.Gathering.{IsGivenOf}
use Rattle.ded_query.specs.Over.{relations_among, not_named, is_hidden, over_relations}
use Rattle.ded_query.proofs.Entries.{relation_given}
use Rattle.ded_query.proofs.GivenNames.{no_entry}

-- ---- names

passed_or_kept : (b u t x s : Bool) → (b ≡ true → u ≡ t) → x ≡ (not t && s) → cond u x (b || x) ≡ (not t && (b || s))
passed_or_kept true true true x s k h = h
passed_or_kept true true false x s k h = absurd (true≢false (k refl))
passed_or_kept true false true x s k h = absurd (true≢false (sym (k refl)))
passed_or_kept true false false x s k h = refl
passed_or_kept false true t x s k h = h
passed_or_kept false false t x s k h = h

-- one relation is passed or kept
named_with : (n : List ℕ) (r : GivenRelation) (rs : List GivenRelation) (u : Bool) → has_name n (cond u rs (r ∷ rs)) ≡ cond u (has_name n rs) (bytes_eq n r.name || has_name n rs)
named_with n r rs true = refl
named_with n r rs false = refl

named_rest : (test : List ℕ → Bool) (n : List ℕ) (rs : List GivenRelation) → has_name n (not_named test rs) ≡ (not (test n) && has_name n rs)
named_rest test n [] = sym (and-false (not (test n)))
named_rest test n (r ∷ rs) =
    named_with n r (not_named test rs) (test r.name)
    ∙ passed_or_kept (bytes_eq n r.name) (test r.name) (test n) (has_name n (not_named test rs)) (has_name n rs) (λ e. ap test (sym ((bytes_eq-Decides n r.name).0 e))) (named_rest test n rs)

-- a name is there where it is given, or else is one of a relation, and not the hidden one
over_named : (c : Catalogue) (h : Option (List ℕ)) (gs : List GivenRelation) (n : List ℕ) → has_name n (over_relations c h gs) ≡ (has_name n gs || (not (is_hidden h n) && has_name n (relations_among c.entries)))
unfolding over_relations
over_named c h gs n =
    list_any-append (λ (r : GivenRelation). bytes_eq n r.name) gs (not_named (λ m. has_name m gs || is_hidden h m) (relations_among c.entries))
    ∙ ap (λ b. has_name n gs || b) (named_rest (λ m. has_name m gs || is_hidden h m) n (relations_among c.entries))
    ∙ given_first (has_name n gs) (is_hidden h n) (has_name n (relations_among c.entries))
  where
    given_first : (g x s : Bool) → (g || (not (g || x) && s)) ≡ (g || (not x && s))
    given_first true x s = refl
    given_first false x s = refl

-- a relation's name is one of the relations
named_among : (es : List Entry) (n : List ℕ) → is_some (relation_in (entry_of es n)) ≡ true → has_name n (relations_among es) ≡ true
named_among [] n k = absurd (true≢false (sym k))
named_among (relation m h i ts ∷ es) n k = by (bytes_eq n m) k (named_among es n)
  where
    by : (b : Bool) → is_some (relation_in (cond b (Some (relation m h i ts)) (entry_of es n))) ≡ true → (is_some (relation_in (entry_of es n)) ≡ true → has_name n (relations_among es) ≡ true) → (b || has_name n (relations_among es)) ≡ true
    by true k next = refl
    by false k next = next k
named_among (view m h f ∷ es) n k = by (bytes_eq n m) k (named_among es n)
  where
    by : (b : Bool) → is_some (relation_in (cond b (Some (view m h f)) (entry_of es n))) ≡ true → (is_some (relation_in (entry_of es n)) ≡ true → has_name n (relations_among es) ≡ true) → has_name n (relations_among es) ≡ true
    by true k next = absurd (true≢false (sym k))
    by false k next = next k

-- what is given is there
pub given_there : (c : Catalogue) (h : Option (List ℕ)) (gs : List GivenRelation) (n : List ℕ) → has_name n gs ≡ true → has_name n (over_relations c h gs) ≡ true
given_there c h gs n k = over_named c h gs n ∙ or_left (has_name n gs) _ k

-- a relation is there that isn't hidden
pub stored_there : (c : Catalogue) (h : Option (List ℕ)) (gs : List GivenRelation) (n : List ℕ) → is_hidden h n ≡ false → is_some (relation_in (entry_of c.entries n)) ≡ true → has_name n (over_relations c h gs) ≡ true
stored_there c h gs n o k = over_named c h gs n ∙ or_right (has_name n gs) _ (ap (λ b. not b && has_name n (relations_among c.entries)) o ∙ named_among c.entries n k)

-- a name that is there stays where no name that is given goes, unless it is hidden
pub still_there : (c : Catalogue) (g h : Option (List ℕ)) (old new : List GivenRelation) (n : List ℕ) → (has_name n old ≡ true → has_name n new ≡ true) → is_hidden h n ≡ false → has_name n (over_relations c g old) ≡ true
    → has_name n (over_relations c h new) ≡ true
still_there c g h old new n k o e = elim (or_split (has_name n old) _ (sym (over_named c g old n) ∙ e)) [
  | inl i ↦ given_there c h new n (k i)
  | inr i ↦ over_named c h new n ∙ or_right (has_name n new) _ (ap (λ b. not b && has_name n (relations_among c.entries)) o ∙ second (not (is_hidden g n)) _ i)
]
  where
    second : (a b : Bool) → (a && b) ≡ true → b ≡ true
    second true b i = i
    second false b i = absurd (true≢false (sym i))

-- the hidden name isn't there
pub hidden_gone : (c : Catalogue) (n : List ℕ) (gs : List GivenRelation) → has_name n gs ≡ false → has_name n (over_relations c (Some n) gs) ≡ false
hidden_gone c n gs k = over_named c (Some n) gs n ∙ or_from (has_name n gs) _ k (ap (λ b. not b && has_name n (relations_among c.entries)) (bytes_eq-refl n))

-- ---- what stands under a name

found_front : (n : List ℕ) (gs bs : List GivenRelation) → has_name n gs ≡ true → found_in n (gs ++ bs) ≡ found_in n gs
found_front n [] bs k = absurd (true≢false (sym k))
found_front n (r ∷ gs) bs k = by (bytes_eq n r.name) k (found_front n gs bs)
  where
    by : (b : Bool) → (b || has_name n gs) ≡ true → (has_name n gs ≡ true → found_in n (gs ++ bs) ≡ found_in n gs)
        → option_map tuples_of (relation_in (cond b (Some (given_entry r)) (entry_of (map given_entry (gs ++ bs)) n))) ≡ option_map tuples_of (relation_in (cond b (Some (given_entry r)) (entry_of (map given_entry gs) n)))
    by true k next = refl
    by false k next = next k

found_behind : (n : List ℕ) (gs bs : List GivenRelation) → has_name n gs ≡ false → found_in n (gs ++ bs) ≡ found_in n bs
found_behind n [] bs k = refl
found_behind n (r ∷ gs) bs k =
    let parts = or_parts (bytes_eq n r.name) (has_name n gs) k in
    ap (λ b. option_map tuples_of (relation_in (cond b (Some (given_entry r)) (entry_of (map given_entry (gs ++ bs)) n)))) parts.0 ∙ found_behind n gs bs parts.1

-- of a name that doesn't pass the test
found_rest : (test : List ℕ → Bool) (n : List ℕ) (rs : List GivenRelation) → test n ≡ false → found_in n (not_named test rs) ≡ found_in n rs
found_rest test n [] k = refl
found_rest test n (r ∷ rs) k = by (test r.name) refl (found_rest test n rs k)
  where
    by : (u : Bool) → test r.name ≡ u → found_in n (not_named test rs) ≡ found_in n rs → found_in n (cond u (not_named test rs) (r ∷ not_named test rs)) ≡ found_in n (r ∷ rs)
    by true e next =
        next
        ∙ sym (ap (λ b. option_map tuples_of (relation_in (cond b (Some (given_entry r)) (entry_of (map given_entry rs) n))))
        (false_from_ne_true (bytes_eq n r.name) (λ i. true≢false (sym e ∙ ap test (sym ((bytes_eq-Decides n r.name).0 i)) ∙ k))))
    by false e next = same (bytes_eq n r.name)
      where
        same : (b : Bool) → option_map tuples_of (relation_in (cond b (Some (given_entry r)) (entry_of (map given_entry (not_named test rs)) n))) ≡ option_map tuples_of (relation_in (cond b (Some (given_entry r)) (entry_of (map given_entry rs) n)))
        same true = refl
        same false = next

-- of the relations of well formed entries it is what they have
found_among : (limit : ℕ) (K : KnownNames) (es : List Entry) (n : List ℕ) → AreEntriesOver limit K es → found_in n (relations_among es) ≡ option_map tuples_of (relation_in (entry_of es n))
found_among limit K [] n w = refl
found_among limit K (relation m h i ts ∷ es) n w = by (bytes_eq n m) (found_among limit (with_known K (relation m h i ts)) es n w.2)
  where
    by : (b : Bool) → found_in n (relations_among es) ≡ option_map tuples_of (relation_in (entry_of es n))
        → option_map tuples_of (relation_in (cond b (Some (given_entry (record { name = m; heading = h; tuples = tuples_of ts }))) (entry_of (map given_entry (relations_among es)) n)))
        ≡ option_map tuples_of (relation_in (cond b (Some (relation m h i ts)) (entry_of es n)))
    by true next = ap Some (tuples-unnumbered (tuples_of ts))
    by false next = next
found_among limit K (view m h f ∷ es) n w = by (bytes_eq n m) refl (found_among limit (with_known K (view m h f)) es n w.2)
  where
    by : (b : Bool) → bytes_eq n m ≡ b → found_in n (relations_among es) ≡ option_map tuples_of (relation_in (entry_of es n)) → found_in n (relations_among es) ≡ option_map tuples_of (relation_in (cond b (Some (view m h f)) (entry_of es n)))
    by true e next =
        next
        ∙ ap (λ o. option_map tuples_of (relation_in o)) (absent limit (with_known K (view m h f)) es n w.2 (ap (λ b. is_some (cond b (Some (entry_known K (view m h f))) (K n))) e))
    by false e next = next

module _ (c : Catalogue) (h : Option (List ℕ)) (gs : List GivenRelation) (n : List ℕ) where
  -- what is given under the name
  pub found_given : has_name n gs ≡ true → given_tuples (given_catalogue (over_relations c h gs)) n ≡ given_tuples (given_catalogue gs) n
  unfolding over_relations
  found_given k = found_front n gs (not_named (λ m. has_name m gs || is_hidden h m) (relations_among c.entries)) k

  -- nothing under the hidden one
  pub found_hidden : has_name n gs ≡ false → is_hidden h n ≡ true → given_tuples (given_catalogue (over_relations c h gs)) n ≡ None
  found_hidden k o =
      ap (λ e. option_map tuples_of (relation_in e))
      (no_entry n (over_relations c h gs) (over_named c h gs n ∙ or_from (has_name n gs) _ k (ap (λ b. not b && has_name n (relations_among c.entries)) o)))

  -- and else the relation's tuples
  pub found_stored : IsWellFormed c → has_name n gs ≡ false → is_hidden h n ≡ false → given_tuples (given_catalogue (over_relations c h gs)) n ≡ option_map tuples_of (relation_in (entry_of c.entries n))
  unfolding over_relations
  found_stored w k o =
      found_behind n gs (not_named (λ m. has_name m gs || is_hidden h m) (relations_among c.entries)) k
      ∙ found_rest (λ m. has_name m gs || is_hidden h m) n (relations_among c.entries) (or_from (has_name n gs) (is_hidden h n) k o)
      ∙ found_among c.limit (λ m. None) c.entries n w

-- ---- distinct names

-- a name without an entry isn't one of the relations
unstored : (es : List Entry) (n : List ℕ) → entry_of es n ≡ None → has_name n (relations_among es) ≡ false
unstored [] n e = refl
unstored (relation m h i ts ∷ es) n e = by (bytes_eq n m) e (unstored es n)
  where
    by : (b : Bool) → cond b (Some (relation m h i ts)) (entry_of es n) ≡ None → (entry_of es n ≡ None → has_name n (relations_among es) ≡ false) → (b || has_name n (relations_among es)) ≡ false
    by true e next = absurd (none-some _ (sym e))
    by false e next = next e
unstored (view m h f ∷ es) n e = by (bytes_eq n m) e (unstored es n)
  where
    by : (b : Bool) → cond b (Some (view m h f)) (entry_of es n) ≡ None → (entry_of es n ≡ None → has_name n (relations_among es) ≡ false) → has_name n (relations_among es) ≡ false
    by true e next = absurd (none-some _ (sym e))
    by false e next = next e

among_apart : (limit : ℕ) (K : KnownNames) (es : List Entry) → AreEntriesOver limit K es → AreNamedApart (relations_among es)
among_apart limit K [] w = tt
among_apart limit K (relation m h i ts ∷ es) w = (
  unstored es m (absent limit (with_known K (relation m h i ts)) es m w.2 (ap (λ b. is_some (cond b (Some (entry_known K (relation m h i ts))) (K m))) (bytes_eq-refl m))),
  among_apart limit (with_known K (relation m h i ts)) es w.2,
)
among_apart limit K (view m h f ∷ es) w = among_apart limit (with_known K (view m h f)) es w.2

rest_apart : (test : List ℕ → Bool) (rs : List GivenRelation) → AreNamedApart rs → AreNamedApart (not_named test rs)
rest_apart test [] a = tt
rest_apart test (r ∷ rs) a = by (test r.name) (rest_apart test rs a.1)
  where
    by : (u : Bool) → AreNamedApart (not_named test rs) → AreNamedApart (cond u (not_named test rs) (r ∷ not_named test rs))
    by true next = next
    by false next = (named_rest test r.name rs ∙ ap (λ b. not (test r.name) && b) a.0 ∙ and-false (not (test r.name)), next)

both_apart : (gs bs : List GivenRelation) → AreNamedApart gs → AreNamedApart bs → ((n : List ℕ) → has_name n gs ≡ true → has_name n bs ≡ false) → AreNamedApart (gs ++ bs)
both_apart [] bs a b k = b
both_apart (r ∷ gs) bs a b k = (
  list_any-append (λ (x : GivenRelation). bytes_eq r.name x.name) gs bs ∙ or_from (has_name r.name gs) (has_name r.name bs) a.0 (k r.name (or_left (bytes_eq r.name r.name) _ (bytes_eq-refl r.name))),
  both_apart gs bs a.1 b (λ n e. k n (or_right (bytes_eq n r.name) _ e)),
)

-- relations that are given have names of their own
names_apart : (n : List ℕ) (rs : List GivenRelation) → list_any (λ e. bytes_eq n (entry_name e)) (map given_entry rs) ≡ false → has_name n rs ≡ false
names_apart n [] k = refl
names_apart n (r ∷ rs) k =
    let parts = or_parts (bytes_eq n r.name) _ k in
    or_from (bytes_eq n r.name) (has_name n rs) parts.0 (names_apart n rs parts.1)

given_apart : (rs : List GivenRelation) → AreGiven (map given_entry rs) → AreNamedApart rs
given_apart [] k = tt
given_apart (r ∷ rs) k = (names_apart r.name rs k.0, given_apart rs k.1)

-- the law
pub over_given : (c : Catalogue) (h : Option (List ℕ)) (gs : List GivenRelation) → IsWellFormed c → AreGiven (given_catalogue gs).entries → AreGiven (given_catalogue (over_relations c h gs)).entries
unfolding over_relations
over_given c h gs w k =
    are_given (gs ++ not_named (λ m. has_name m gs || is_hidden h m) (relations_among c.entries))
    (both_apart gs (not_named (λ m. has_name m gs || is_hidden h m) (relations_among c.entries)) (given_apart gs k)
    (rest_apart (λ m. has_name m gs || is_hidden h m) (relations_among c.entries) (among_apart c.limit (λ m. None) c.entries w))
    (λ n e. named_rest (λ m. has_name m gs || is_hidden h m) n (relations_among c.entries) ∙ ap (λ b. not b && has_name n (relations_among c.entries)) (or_left (has_name n gs) (is_hidden h n) e)))

-- ---- what holds of all

all_rest : (P : GivenRelation → Type 0) (test : List ℕ → Bool) (rs : List GivenRelation) → AllByRecursion P rs → AllByRecursion P (not_named test rs)
all_rest P test [] k = tt
all_rest P test (r ∷ rs) k = by (test r.name) (all_rest P test rs k.1)
  where
    by : (u : Bool) → AllByRecursion P (not_named test rs) → AllByRecursion P (cond u (not_named test rs) (r ∷ not_named test rs))
    by true next = next
    by false next = (k.0, next)

-- each relation is right
all_among : (c : Catalogue) → IsWellFormed c → (before es : List Entry) → c.entries ≡ before ++ es → AllByRecursion (IsGivenOf c) (relations_among es)
all_among c w before [] e = tt
all_among c w before (relation n h i ts ∷ es) e = (
  relation_given c n h i ts w (entry_there c before es (relation n h i ts) n w e refl),
  all_among c w (before ++ relation n h i ts ∷ []) es (e ∙ sym (append_assoc before (relation n h i ts ∷ []) es)),
)
all_among c w before (view n h f ∷ es) e = all_among c w (before ++ view n h f ∷ []) es (e ∙ sym (append_assoc before (view n h f ∷ []) es))

-- what follows of what is right, and holds of what is given, holds of all
pub over_all : (c : Catalogue) (h : Option (List ℕ)) (gs : List GivenRelation) (P : GivenRelation → Type 0) → IsWellFormed c → ((r : GivenRelation) → IsGivenOf c r → P r) → AllByRecursion P gs → AllByRecursion P (over_relations c h gs)
unfolding over_relations
over_all c h gs P w f k =
    all-append P gs (not_named (λ m. has_name m gs || is_hidden h m) (relations_among c.entries)) k
    (all_rest P (λ m. has_name m gs || is_hidden h m) (relations_among c.entries) (all_weaker (IsGivenOf c) P (relations_among c.entries) f (all_among c w [] c.entries refl)))

-- so all is right, where what is given is
pub over_right : (c : Catalogue) (h : Option (List ℕ)) (gs : List GivenRelation) → IsWellFormed c → AllByRecursion (IsGivenOf c) gs → AllByRecursion (IsGivenOf c) (over_relations c h gs)
over_right c h gs w k = over_all c h gs (IsGivenOf c) w (λ r own. own) k
