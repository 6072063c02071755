-- Rows without those that the others imply: they hold at the same points, and have no new slots and lines.
use Rattle.std.proofs.Common.{◌≡◌, ℕ, ◌+◌, ◌<◌, length, get_or, drop, Bool, true, false, not, ◌&&◌, List, [], ◌∷◌, ◌++◌, ◌⊎◌, inl, inr, refl, sym, ap, ◌∙◌, subst, true≢false}
use Rattle.std.specs.List.{AllByRecursion}
use Rattle.std.proofs.lemmas.List.{drop_more}
use Rattle.ded_model.specs.declared.slot.Slot.{Slot}
use Rattle.ded_model.specs.declared.tuple.Negated.{Negated}
use Rattle.ded_model.specs.declared.tuple.Negated.TheVariants.{One}
use Rattle.ded_model.specs.Constraint.{LinearConstraint}
use Rattle.ded_model.specs.Cell.{conj_holds, HoldsNowhere}
use Rattle.ded_model.specs.Coefs.{AreCoefs}
use Rattle.ded_model.specs.Lines.{In, IsSubset, row_lines}
use Rattle.ded_model.specs.Negation.{some_piece_holds}
use Rattle.ded_model.specs.Point.{Point}
use Rattle.ded_model.specs.Row.{row_holds, row_mentions}
use Rattle.ded_model.specs.Sublists.{IsSublist}
use Rattle.ded_model.proofs.Sublists.{sublist_refl, sublist_append, sublist_trans, sublist_all}
use Rattle.ded_model.proofs.Points.{and_left, and_right}
use Rattle.ded_theory.specs.Conjunctions.{conj_mentions, conj_lines}
use Rattle.ded_theory.proofs.Conjunctions.{conj_holds-append}
use Rattle.ded_elimination.specs.LinearAtoms.{IsLinearAtom}
use Rattle.ded_elimination.proofs.Conjunctions.{In-at, conj-In, In-mentions, mentions-In, In-lines, lines-In}
use Rattle.ded_linear.specs.Prunings.{IsPruned, Imply}

abbrev Rows : Type 0
Rows = List LinearConstraint

-- ---- some of the rows

sublist_In : (xs ys : Rows) (x : LinearConstraint) → IsSublist xs ys → In x xs → In x ys
sublist_In xs [] x n i = subst (In x) n i
sublist_In xs (y ∷ ys) x (inl n) i = inr (sublist_In xs ys x n.1 i)
sublist_In xs (y ∷ ys) x (inr n) i = elim (subst (In x) n.1 i) [
  | inl e ↦ inl e
  | inr j ↦ inr (sublist_In n.0 ys x n.2 j)
]

pub part_mentions : (xs ys : Rows) (s : Slot) → IsSublist xs ys → conj_mentions row_mentions xs s ≡ true → conj_mentions row_mentions ys s ≡ true
part_mentions xs ys s n h = let m = mentions-In xs s h in In-mentions ys m.0 s (sublist_In xs ys m.0 n m.1) m.2

pub part_lines : (xs ys : Rows) → IsSublist xs ys → IsSubset (conj_lines row_lines xs) (conj_lines row_lines ys)
part_lines xs ys n l h = let m = lines-In xs l h in In-lines ys m.0 l (sublist_In xs ys m.0 n m.1) m.2

-- ---- row after row

pub pruned_none : (rows : Rows) → IsPruned rows rows
pruned_none rows = record { part = sublist_refl _ rows; same = λ p i. refl }

pub pruned_then : (new mid old : Rows) → IsPruned new mid → IsPruned mid old → IsPruned new old
pruned_then new mid old n m = record { part = sublist_trans _ new mid old n.part m.part; same = λ p i. n.same p i ∙ m.same p i }

pub pruned_before : (new old rest : Rows) → IsPruned new old → IsPruned (new ++ rest) (old ++ rest)
pruned_before new old rest s = record {
  part = sublist_append _ new old rest rest s.part (sublist_refl _ rest);
  same = λ p i. conj_holds-append row_holds new rest p ∙ ap (λ b. b && conj_holds row_holds rest p) (s.same p i) ∙ sym (conj_holds-append row_holds old rest p);
}

without_same : (a x b : Bool) → (a ≡ true → b ≡ true → x ≡ true) → (a && b) ≡ (a && (x && b))
without_same false x b f = refl
without_same true x false f = sym (and_none x)
  where
    and_none : (x : Bool) → (x && false) ≡ false
    and_none true = refl
    and_none false = refl
without_same true x true f = sym (ap (λ y. y && true) (f refl refl))

-- a row that these and the ones behind imply, or these alone, is left out
pub pruned_left_out : (kept rows behind : Rows) (i : ℕ) (x : LinearConstraint) → i < length rows → x ≡ get_or rows i x → (behind ≡ []) ⊎ (behind ≡ drop (i + 1) rows) → Imply kept behind x
    → IsPruned (kept ++ drop i rows) rows → IsPruned (kept ++ drop (i + 1) rows) rows
pruned_left_out kept rows behind i x lt at f h s =
    let after = drop (i + 1) rows in
    let e : drop i rows ≡ x ∷ after = drop_more rows i x lt ∙ ap (λ y. y ∷ after) (sym at) in
    pruned_then (kept ++ after) (kept ++ drop i rows) rows (subst (λ ys. IsPruned (kept ++ after) (kept ++ ys)) (sym e) (record {
      part = sublist_append _ kept kept after (x ∷ after) (sublist_refl _ kept) (inl (tt, sublist_refl _ after));
      same = λ p i. conj_holds-append row_holds kept after p
          ∙ without_same (conj_holds row_holds kept p) (row_holds x p) (conj_holds row_holds after p) (λ a b. h p i a (others p f b))
          ∙ sym (conj_holds-append row_holds kept (x ∷ after) p);
    })) s
  where
    others : (p : Point) → (behind ≡ []) ⊎ (behind ≡ drop (i + 1) rows) → conj_holds row_holds (drop (i + 1) rows) p ≡ true → conj_holds row_holds behind p ≡ true
    others p (inl e) b = ap (λ ys. conj_holds row_holds ys p) e
    others p (inr e) b = ap (λ ys. conj_holds row_holds ys p) e ∙ b

-- ---- a row that the others imply

-- where they hold, and nowhere together with its negation, the row holds
pub implied : (these those : Rows) (r n : LinearConstraint) (pieces : Negated LinearConstraint) → pieces ≡ One n → ((p : Point) → 0 < p.den → some_piece_holds row_holds pieces p ≡ not (row_holds r p))
    → HoldsNowhere (conj_holds row_holds ((these ++ those) ++ n ∷ [])) → Imply these those r
implied these those r n pieces e f h p i a b =
    let not_both : (conj_holds row_holds these p && conj_holds row_holds those p) && (row_holds n p && true) ≡ false =
    ap (λ x. x && (row_holds n p && true)) (sym (conj_holds-append row_holds these those p)) ∙ sym (conj_holds-append row_holds (these ++ those) (n ∷ []) p) ∙ h p i in
    holds (row_holds r p) (row_holds n p) (sym (ap (λ x. some_piece_holds row_holds x p) e) ∙ f p i.positive) (sym (ap (λ x. x && (row_holds n p && true)) (ap (λ x. x && conj_holds row_holds those p) a ∙ b)) ∙ not_both)
  where
    holds : (x y : Bool) → y ≡ not x → (y && true) ≡ false → x ≡ true
    holds true y e h = refl
    holds false true e h = sym h
    holds false false e h = e

-- where two of the kept rows hold nowhere together with a row, all of them don't, nor with others
pub apart_by_two : (kept behind : Rows) (i j : ℕ) (a b r : LinearConstraint) → i < length kept → j < length kept → a ≡ get_or kept i a → b ≡ get_or kept j b
    → HoldsNowhere (conj_holds row_holds (a ∷ b ∷ r ∷ [])) → HoldsNowhere (conj_holds row_holds ((kept ++ behind) ++ r ∷ []))
apart_by_two kept behind i j a b r lt lu at au h p k = fails (conj_holds row_holds ((kept ++ behind) ++ r ∷ []) p) never
  where
    fails : (x : Bool) → (x ≡ true → ⊥) → x ≡ false
    fails true f = absurd (f refl)
    fails false f = refl

    all : row_holds a p ≡ true → row_holds b p ≡ true → (row_holds r p && true) ≡ true → conj_holds row_holds (a ∷ b ∷ r ∷ []) p ≡ true
    all e f g = ap (λ x. x && (row_holds b p && (row_holds r p && true))) e ∙ (ap (λ x. x && (row_holds r p && true)) f ∙ g)

    never : conj_holds row_holds ((kept ++ behind) ++ r ∷ []) p ≡ true → ⊥
    never t =
        let both = conj_holds row_holds (kept ++ behind) p in
        let last = row_holds r p && true in
        let parts : (both && last) ≡ true = sym (conj_holds-append row_holds (kept ++ behind) (r ∷ []) p) ∙ t in
        let own : conj_holds row_holds kept p ≡ true =
        and_left (conj_holds row_holds kept p) (conj_holds row_holds behind p) (sym (conj_holds-append row_holds kept behind p) ∙ and_left both last parts) in
        true≢false (sym (all (conj-In kept p a own (In-at kept i a lt at)) (conj-In kept p b own (In-at kept j b lu au)) (and_right both last parts)) ∙ h p k)

-- ---- normal rows

all_left : (xs ys : Rows) → AllByRecursion IsLinearAtom (xs ++ ys) → AllByRecursion IsLinearAtom xs
all_left [] ys h = tt
all_left (x ∷ xs) ys h = (h.0, all_left xs ys h.1)

pub kept_normal : (kept after rows : Rows) → IsPruned (kept ++ after) rows → AllByRecursion IsLinearAtom rows → AllByRecursion IsLinearAtom kept
kept_normal kept after rows s n = all_left kept after (sublist_all _ IsLinearAtom (kept ++ after) rows s.part n)

-- the rows that are looked at together have coefficients in order
pub all_coefs : (these those : Rows) (r : LinearConstraint) → AllByRecursion IsLinearAtom these → AllByRecursion IsLinearAtom those → AreCoefs r.coefs → AllByRecursion (λ (x : LinearConstraint). AreCoefs x.coefs) ((these ++ those) ++ r ∷ [])
all_coefs [] [] r m n h = (h, tt)
all_coefs [] (x ∷ those) r m n h = (n.0.coefs, all_coefs [] those r tt n.1 h)
all_coefs (x ∷ these) those r m n h = (m.0.coefs, all_coefs these those r m.1 n h)

-- what is left of normal rows is normal
pub part_normal : (new old : Rows) → IsSublist new old → AllByRecursion IsLinearAtom old → AllByRecursion IsLinearAtom new
part_normal new old s n = sublist_all _ IsLinearAtom new old s n
