-- What is left of kept tuples where a relation loses a tuple.
--
-- A kept tuple that meets no lost one lies within what the plan gives after, as before is after or what is lost. Of another one only
-- the points count at which the plan holds after.
use Rattle.std.proofs.Common.{◌≡◌, Bool, true, false, ◌||◌, ◌&&◌, ◌⊎◌, List, [], ◌∷◌, ◌++◌, inl, inr, refl, sym, ap, ap₂, ◌∙◌, subst, true≢false, append_assoc, append-nil}
use Rattle.std.specs.Prelude.{◌↔◌, IsTrue}
use Rattle.std.specs.List.{AllByRecursion}
use Rattle.std.proofs.Math.Bool.{and-false}
use Rattle.ded_num.proofs.Tests.{or_swap}
use Rattle.ded_model.specs.Catalogue.{Catalogue, GivenHolds}
use Rattle.ded_model.specs.Lines.{In, atoms_lines, tuples_lines}
use Rattle.ded_model.specs.Measure.{stored_measures, plan_lines}
use Rattle.ded_model.specs.Normal.{IsNormalTuple}
use Rattle.ded_model.specs.PlanForm.{PlanForm}
use Rattle.ded_model.specs.Point.{Point, IsPoint}
use Rattle.ded_model.specs.Row.{Atom, tuple_holds, tuple_mentions, tuples_hold, tuples_mention}
use Rattle.ded_model.proofs.Members.{In-left, In-right, In-split, or_split, subset_refl}
use Rattle.ded_model.proofs.Points.{and_left, and_right}
use Rattle.ded_model.proofs.Rows.{or_left, or_right}
use Rattle.ded_model.proofs.Bools.{or_assoc}
use Rattle.ded_model.proofs.TupleLists.{none_hold, tuples_hold-push, tuples_lines-push}
use Rattle.ded_model.proofs.SlotLists.{tuples_mention-push}
use Rattle.ded_algebra.specs.Evaluation.{IsEvaluation, IsEvaluationWithin, IsOfBoth}
use Rattle.ded_keep.specs.Behind.{IsPutBehind}
use Rattle.ded_keep.specs.Remaining.{IsApart, AreApart, IsParted, AreOfBoth, IsWithin, AreJoined, AddsWithin, AreLeft, IsRemaining}
use Rattle.ded_keep.proofs.Appended.{tuples_hold-append, tuples_mention-append, tuples_lines-append}
use Rattle.ded_keep.proofs.Covered.{none_mention, all-more, all-front, all-last, all-both}

-- ---- parted tuples

pub parted_none : (lost : List (List Atom)) → IsParted lost [] [] []
unfolding tuples_hold tuples_mention
parted_none lost = record { holds = λ p. refl; apart = λ p i h. absurd (true≢false (sym h)); slots = λ s u. u; lines = subset_refl []; normal = λ h. (tt, tt) }

pub parted_apart : (lost kept apart near new : List (List Atom)) (t : List Atom) → new ≡ apart ++ t ∷ [] → IsApart t lost → IsParted lost kept apart near → IsParted lost (kept ++ t ∷ []) new near
parted_apart lost kept apart near new t e a k = record {
  holds = λ p.
      tuples_hold-push kept t p ∙ ap (λ b. b || tuple_holds t p) (k.holds p) ∙ or_swap (tuples_hold apart p) (tuples_hold near p) (tuple_holds t p)
      ∙ ap (λ b. b || tuples_hold near p) (sym (ap (λ ts. tuples_hold ts p) e ∙ tuples_hold-push apart t p));
  apart = λ p i h. elim (or_split _ _ (sym (ap (λ ts. tuples_hold ts p) e ∙ tuples_hold-push apart t p) ∙ h)) [ inl x ↦ k.apart p i x | inr x ↦ a p i x ];
  slots = λ s u. tuples_mention-push kept t s ∙ elim (or_split _ _ u) [
    | inl x ↦ elim (or_split _ _ (sym (ap (λ ts. tuples_mention ts s) e ∙ tuples_mention-push apart t s) ∙ x)) [
      | inl y ↦ or_left _ _ (k.slots s (or_left _ _ y))
      | inr y ↦ or_right (tuples_mention kept s) _ y
    ]
    | inr x ↦ or_left _ _ (k.slots s (or_right (tuples_mention apart s) _ x))
  ];
  lines = λ l i. subst (In l) (sym (tuples_lines-push kept t)) (elim (In-split l (tuples_lines new) (tuples_lines near) i) [
    | inl x ↦ elim (In-split l (tuples_lines apart) (atoms_lines t) (subst (In l) (ap tuples_lines e ∙ tuples_lines-push apart t) x)) [
      | inl y ↦ In-left l _ _ (k.lines l (In-left l _ _ y))
      | inr y ↦ In-right l (tuples_lines kept) _ y
    ]
    | inr x ↦ In-left l _ _ (k.lines l (In-right l (tuples_lines apart) _ x))
  ]);
  normal = λ h. let both = k.normal (all-front IsNormalTuple kept t h) in (subst (AllByRecursion IsNormalTuple) (sym e) (all-more IsNormalTuple apart t both.0 (all-last IsNormalTuple kept t h)), both.1);
}

pub parted_near : (lost kept apart near new : List (List Atom)) (t : List Atom) → new ≡ near ++ t ∷ [] → IsParted lost kept apart near → IsParted lost (kept ++ t ∷ []) apart new
parted_near lost kept apart near new t e k = record {
  holds = λ p.
      tuples_hold-push kept t p ∙ ap (λ b. b || tuple_holds t p) (k.holds p) ∙ or_assoc (tuples_hold apart p) (tuples_hold near p) (tuple_holds t p)
      ∙ ap (λ b. tuples_hold apart p || b) (sym (ap (λ ts. tuples_hold ts p) e ∙ tuples_hold-push near t p));
  apart = k.apart;
  slots = λ s u. tuples_mention-push kept t s ∙ elim (or_split _ _ u) [
    | inl x ↦ or_left _ _ (k.slots s (or_left _ _ x))
    | inr x ↦ elim (or_split _ _ (sym (ap (λ ts. tuples_mention ts s) e ∙ tuples_mention-push near t s) ∙ x)) [
      | inl y ↦ or_left _ _ (k.slots s (or_right (tuples_mention apart s) _ y))
      | inr y ↦ or_right (tuples_mention kept s) _ y
    ]
  ];
  lines = λ l i. subst (In l) (sym (tuples_lines-push kept t)) (elim (In-split l (tuples_lines apart) (tuples_lines new) i) [
    | inl x ↦ In-left l _ _ (k.lines l (In-left l _ _ x))
    | inr x ↦ elim (In-split l (tuples_lines near) (atoms_lines t) (subst (In l) (ap tuples_lines e ∙ tuples_lines-push near t) x)) [
      | inl y ↦ In-left l _ _ (k.lines l (In-right l (tuples_lines apart) _ y))
      | inr y ↦ In-right l (tuples_lines kept) _ y
    ]
  ]);
  normal = λ h. let both = k.normal (all-front IsNormalTuple kept t h) in (both.0, subst (AllByRecursion IsNormalTuple) (sym e) (all-more IsNormalTuple near t both.1 (all-last IsNormalTuple kept t h)));
}

-- ---- a tuple apart

pub apart_none : (t : List Atom) → IsApart t []
apart_none t = λ p i h. none_hold p

pub apart_more : (t : List Atom) (lost : List (List Atom)) (u : List Atom) → ((p : Point) → IsPoint p → (tuple_holds t p && tuple_holds u p) ≡ false) → IsApart t lost → IsApart t (lost ++ u ∷ [])
apart_more t lost u k a = λ p i h. tuples_hold-push lost u p ∙ ap₂ (λ x y. x || y) (a p i h) (second (tuple_holds t p) (tuple_holds u p) h (k p i))
  where
    second : (x y : Bool) → x ≡ true → (x && y) ≡ false → y ≡ false
    second true y h k = k
    second false y h k = absurd (true≢false (sym h))

-- ---- pieces

pub pieces_none : (t : List Atom) → AreOfBoth t [] []
pieces_none t = record {
  holds = λ p i. none_hold p ∙ sym (ap (λ b. tuple_holds t p && b) (none_hold p) ∙ and-false (tuple_holds t p));
  slots = λ s u. absurd (true≢false (sym u ∙ none_mention s));
  lines = λ l i. absurd i;
  normal = tt;
}

or_of_both : (t a b : Bool) → ((t && a) || (t && b)) ≡ (t && (a || b))
or_of_both true a b = refl
or_of_both false a b = refl

pub pieces_more : (t : List Atom) (done ts new : List (List Atom)) (u v : List Atom) → new ≡ ts ++ v ∷ [] → IsOfBoth t u v → AreOfBoth t done ts → AreOfBoth t (done ++ u ∷ []) new
pieces_more t done ts new u v e b k = record {
  holds = λ p i.
      ap (λ xs. tuples_hold xs p) e ∙ tuples_hold-push ts v p ∙ ap₂ (λ x y. x || y) (k.holds p i) (b.holds p i)
      ∙ or_of_both (tuple_holds t p) (tuples_hold done p) (tuple_holds u p) ∙ ap (λ y. tuple_holds t p && y) (sym (tuples_hold-push done u p));
  slots = λ s h. elim (or_split _ _ (sym (ap (λ xs. tuples_mention xs s) e ∙ tuples_mention-push ts v s) ∙ h)) [
    | inl x ↦ elim (or_split (tuple_mentions t s) (tuples_mention done s) (k.slots s x)) [
      | inl y ↦ or_left (tuple_mentions t s) (tuples_mention (done ++ u ∷ []) s) y
      | inr y ↦ or_right (tuple_mentions t s) (tuples_mention (done ++ u ∷ []) s) (tuples_mention-push done u s ∙ or_left (tuples_mention done s) (tuple_mentions u s) y)
    ]
    | inr x ↦ elim (or_split (tuple_mentions t s) (tuple_mentions u s) (b.slots s x)) [
      | inl y ↦ or_left (tuple_mentions t s) (tuples_mention (done ++ u ∷ []) s) y
      | inr y ↦ or_right (tuple_mentions t s) (tuples_mention (done ++ u ∷ []) s) (tuples_mention-push done u s ∙ or_right (tuples_mention done s) (tuple_mentions u s) y)
    ]
  ];
  lines = λ l i. elim (In-split l (tuples_lines ts) (atoms_lines v) (subst (In l) (ap tuples_lines e ∙ tuples_lines-push ts v) i)) [
    | inl x ↦ elim (In-split l (atoms_lines t) (tuples_lines done) (k.lines l x)) [
      | inl y ↦ In-left l _ _ y
      | inr y ↦ In-right l (atoms_lines t) _ (subst (In l) (sym (tuples_lines-push done u)) (In-left l _ _ y))
    ]
    | inr x ↦ elim (In-split l (atoms_lines t) (atoms_lines u) (b.lines l x)) [
      | inl y ↦ In-left l _ _ y
      | inr y ↦ In-right l (atoms_lines t) _ (subst (In l) (sym (tuples_lines-push done u)) (In-right l (tuples_lines done) _ y))
    ]
  ];
  normal = subst (AllByRecursion IsNormalTuple) (sym e) (all-more IsNormalTuple ts v k.normal b.normal);
}

pub pieces_skip : (t : List Atom) (done ts : List (List Atom)) (u : List Atom) → ((p : Point) → IsPoint p → (tuple_holds t p && tuple_holds u p) ≡ false) → AreOfBoth t done ts → AreOfBoth t (done ++ u ∷ []) ts
pieces_skip t done ts u n k = record {
  holds = λ p i.
      k.holds p i ∙ or_false_with (tuple_holds t p && tuples_hold done p) (tuple_holds t p && tuple_holds u p) (n p i)
      ∙ or_of_both (tuple_holds t p) (tuples_hold done p) (tuple_holds u p) ∙ ap (λ y. tuple_holds t p && y) (sym (tuples_hold-push done u p));
  slots = λ s h. elim (or_split (tuple_mentions t s) (tuples_mention done s) (k.slots s h)) [
    | inl y ↦ or_left (tuple_mentions t s) (tuples_mention (done ++ u ∷ []) s) y
    | inr y ↦ or_right (tuple_mentions t s) (tuples_mention (done ++ u ∷ []) s) (tuples_mention-push done u s ∙ or_left (tuples_mention done s) (tuple_mentions u s) y)
  ];
  lines = λ l i. elim (In-split l (atoms_lines t) (tuples_lines done) (k.lines l i)) [
    | inl y ↦ In-left l _ _ y
    | inr y ↦ In-right l (atoms_lines t) _ (subst (In l) (sym (tuples_lines-push done u)) (In-left l _ _ y))
  ];
  normal = k.normal;
}
  where
    or_false_with : (a b : Bool) → b ≡ false → a ≡ (a || b)
    or_false_with true b h = refl
    or_false_with false b h = sym h

-- ---- what the plan gives within a tuple

module _ (e : Catalogue) (f : PlanForm) (t : List Atom) (found : List (List Atom)) (v : IsEvaluationWithin e f (tuple_holds t) (tuples_hold found) (tuples_mention found) (tuples_lines found)) where
  -- its pieces
  pub within_pieces : (ts : List (List Atom)) → AreOfBoth t found ts → IsWithin e f t ts
  within_pieces ts k = record {
    holds = λ p i. (
      λ h. let both = sym (k.holds p i) ∙ h in
          let inside = and_left (tuple_holds t p) _ both in (inside, (v.holds p i inside).0 (and_right (tuple_holds t p) _ both)),
      λ h. k.holds p i ∙ ap₂ (λ a b. a && b) h.0 ((v.holds p i h.0).1 h.1),
    );
    slots = λ s h. elim (or_split _ _ (k.slots s h)) [ inl y ↦ inl y | inr y ↦ inr (v.slots s y) ];
    lines = λ l i. elim (In-split l (atoms_lines t) (tuples_lines found) (k.lines l i)) [
      | inl y ↦ In-left l _ _ y
      | inr y ↦ In-right l (atoms_lines t) _ (v.lines l y)
    ];
    normal = λ n. k.normal;
  }

  -- the tuple, where they cover it
  pub within_whole : (ts one : List (List Atom)) → AreOfBoth t found ts → ((p : Point) → tuple_holds t p ≡ true → tuples_hold ts p ≡ true) → one ≡ t ∷ [] → IsWithin e f t one
  within_whole ts one k all e' = subst (IsWithin e f t) (sym e') (record {
    holds = λ p i. (
      λ h. let here = sym (tuples_hold-push [] t p ∙ ap (λ b. b || tuple_holds t p) (none_hold p)) ∙ h in (here, (((within_pieces ts k).holds p i).0 (all p here)).1),
      λ h. tuples_hold-push [] t p ∙ or_right (tuples_hold [] p) _ h.0,
    );
    slots = λ s h. inl (sym (tuples_mention-push [] t s ∙ ap (λ b. b || tuple_mentions t s) (none_mention s)) ∙ h);
    lines = λ l i. In-left l _ _ (subst (In l) (append-nil (atoms_lines t)) i);
    normal = λ n. (n, tt);
  })

-- ---- joined lists

all-parts : (P : List Atom → Type 0) (ts us : List (List Atom)) → AllByRecursion P (ts ++ us) → AllByRecursion P ts × AllByRecursion P us
all-parts P [] us h = (tt, h)
all-parts P (t ∷ ts) us h = let rest = all-parts P ts us h.1 in ((h.0, rest.0), rest.1)

-- what is put behind a list
pub joined_behind : (ts us new : List (List Atom)) → IsPutBehind ts us new → AreJoined ts us new
joined_behind ts us new b = record {
  holds = b.holds;
  slots = λ s h. elim (or_split _ _ (sym (ap (λ xs. tuples_mention xs s) b.is ∙ tuples_mention-append ts b.rest s) ∙ h)) [
    | inl x ↦ or_left _ _ x
    | inr x ↦ or_right (tuples_mention ts s) _ (b.slots s x)
  ];
  lines = λ l i. elim (In-split l (tuples_lines ts) (tuples_lines b.rest) (subst (In l) (ap tuples_lines b.is ∙ tuples_lines-append ts b.rest) i)) [
    | inl x ↦ In-left l _ _ x
    | inr x ↦ In-right l (tuples_lines ts) _ (b.lines l x)
  ];
  normal = λ n m. subst (AllByRecursion IsNormalTuple) (sym b.is) (all-both IsNormalTuple ts b.rest n (b.normal m));
}

-- before other tuples
pub joined_before : (ts us new rest : List (List Atom)) → AreJoined ts us new → AreJoined (ts ++ rest) us (new ++ rest)
joined_before ts us new rest k = record {
  holds = λ p i.
      tuples_hold-append new rest p ∙ ap (λ b. b || tuples_hold rest p) (k.holds p i) ∙ or_swap (tuples_hold ts p) (tuples_hold us p) (tuples_hold rest p)
      ∙ ap (λ b. b || tuples_hold us p) (sym (tuples_hold-append ts rest p));
  slots = λ s h. ap (λ b. b || tuples_mention us s) (tuples_mention-append ts rest s) ∙ or_swap (tuples_mention ts s) (tuples_mention rest s) (tuples_mention us s)
      ∙ elim (or_split _ _ (sym (tuples_mention-append new rest s) ∙ h)) [
        | inl x ↦ or_left _ _ (k.slots s x)
        | inr x ↦ or_right (tuples_mention ts s || tuples_mention us s) _ x
      ];
  lines = λ l i. elim (In-split l (tuples_lines new) (tuples_lines rest) (subst (In l) (tuples_lines-append new rest) i)) [
    | inl x ↦ elim (In-split l (tuples_lines ts) (tuples_lines us) (k.lines l x)) [
      | inl y ↦ In-left l _ _ (subst (In l) (sym (tuples_lines-append ts rest)) (In-left l _ _ y))
      | inr y ↦ In-right l (tuples_lines (ts ++ rest)) _ y
    ]
    | inr x ↦ In-left l _ _ (subst (In l) (sym (tuples_lines-append ts rest)) (In-right l (tuples_lines ts) _ x))
  ];
  normal = λ n m. let both = all-parts IsNormalTuple ts rest n in all-both IsNormalTuple new rest (k.normal both.0 m) both.1;
}

-- behind all
pub joined_all : (ts us : List (List Atom)) → AreJoined ts us (ts ++ us)
joined_all ts us = record {
  holds = λ p i. tuples_hold-append ts us p;
  slots = λ s h. sym (tuples_mention-append ts us s) ∙ h;
  lines = λ l i. subst (In l) (tuples_lines-append ts us) i;
  normal = λ n m. all-both IsNormalTuple ts us n m;
}

-- ---- what is left

module _ (e : Catalogue) (f : PlanForm) (lost : List (List Atom)) where
  -- the tuples apart, as they are
  pub left_apart : (apart : List (List Atom)) → AreApart apart lost → AreLeft e f lost (apart ++ []) apart
  left_apart apart k = subst (λ ts. AreLeft e f lost ts apart) (sym (append-nil apart)) (record {
    within = λ p i h. h;
    right = λ p i h. inr (k p i h);
    all = λ p i h a. h;
    slots = λ s h. inl h;
    lines = λ l i. In-left l _ _ i;
    normal = λ n. n;
  })

  -- one more of the others
  pub left_more : (done now new pieces : List (List Atom)) (t : List Atom) → IsWithin e f t pieces → AreJoined now pieces new → AreLeft e f lost done now → AreLeft e f lost (done ++ t ∷ []) new
  left_more done now new pieces t w b k = record {
    within = λ p i h. tuples_hold-push done t p ∙ elim (or_split _ _ (sym (b.holds p i) ∙ h)) [
      | inl x ↦ or_left _ _ (k.within p i x)
      | inr x ↦ or_right (tuples_hold done p) _ ((w.holds p i).0 x).0
    ];
    right = λ p i h. elim (or_split _ _ (sym (b.holds p i) ∙ h)) [
      | inl x ↦ k.right p i x
      | inr x ↦ inl ((w.holds p i).0 x).1
    ];
    all = λ p i h a. b.holds p i ∙ elim (or_split _ _ (sym (tuples_hold-push done t p) ∙ h)) [
      | inl x ↦ or_left _ _ (k.all p i x a)
      | inr x ↦ or_right (tuples_hold now p) _ ((w.holds p i).1 (x, a))
    ];
    slots = λ s h. elim (or_split (tuples_mention now s) (tuples_mention pieces s) (b.slots s h)) [
      | inl x ↦ elim (k.slots s x) [ inl y ↦ inl (tuples_mention-push done t s ∙ or_left _ _ y) | inr y ↦ inr y ]
      | inr x ↦ elim (w.slots s x) [ inl y ↦ inl (tuples_mention-push done t s ∙ or_right (tuples_mention done s) _ y) | inr y ↦ inr y ]
    ];
    lines = λ l i. elim (In-split l (tuples_lines now) (tuples_lines pieces) (b.lines l i)) [
      | inl x ↦ elim (In-split l (tuples_lines done) (plan_lines (stored_measures e) f) (k.lines l x)) [
        | inl y ↦ In-left l _ _ (subst (In l) (sym (tuples_lines-push done t)) (In-left l _ _ y))
        | inr y ↦ In-right l (tuples_lines (done ++ t ∷ [])) _ y
      ]
      | inr x ↦ elim (In-split l (atoms_lines t) (plan_lines (stored_measures e) f) (w.lines l x)) [
        | inl y ↦ In-left l _ _ (subst (In l) (sym (tuples_lines-push done t)) (In-right l (tuples_lines done) _ y))
        | inr y ↦ In-right l (tuples_lines (done ++ t ∷ [])) _ y
      ]
    ];
    normal = λ n. b.normal (k.normal (all-front IsNormalTuple done t n)) (w.normal (all-last IsNormalTuple done t n));
  }

  -- the pieces put behind the list
  pub left_put : (done list cut new : List (List Atom)) → IsPutBehind list cut new → AreLeft e f lost done (list ++ cut) → AreLeft e f lost done new
  left_put done list cut new b k =
      let same : (p : Point) → IsPoint p → tuples_hold new p ≡ tuples_hold (list ++ cut) p = λ p i. b.holds p i ∙ sym (tuples_hold-append list cut p) in
      record {
        within = λ p i h. k.within p i (sym (same p i) ∙ h);
        right = λ p i h. k.right p i (sym (same p i) ∙ h);
        all = λ p i h a. same p i ∙ k.all p i h a;
        slots = λ s h. k.slots s (tuples_mention-append list cut s ∙ elim (or_split _ _ (sym (ap (λ ts. tuples_mention ts s) b.is ∙ tuples_mention-append list b.rest s) ∙ h)) [
          | inl x ↦ or_left _ _ x
          | inr x ↦ or_right (tuples_mention list s) _ (b.slots s x)
        ]);
        lines = λ l i. k.lines l (subst (In l) (sym (tuples_lines-append list cut)) (elim (In-split l (tuples_lines list) (tuples_lines b.rest) (subst (In l) (ap tuples_lines b.is ∙ tuples_lines-append list b.rest) i)) [
          | inl x ↦ In-left l _ _ x
          | inr x ↦ In-right l (tuples_lines list) _ (b.lines l x)
        ]));
        normal = λ n. let both = all-parts IsNormalTuple list cut (k.normal n) in subst (AllByRecursion IsNormalTuple) (sym b.is) (all-both IsNormalTuple list b.rest both.0 (b.normal both.1));
      }

  -- of all
  pub left_all : (kept apart near ts : List (List Atom)) → IsParted lost kept apart near → AreLeft e f lost (apart ++ near) ts → AreLeft e f lost kept ts
  left_all kept apart near ts x k = record {
    within = λ p i h. x.holds p ∙ sym (tuples_hold-append apart near p) ∙ k.within p i h;
    right = k.right;
    all = λ p i h a. k.all p i (tuples_hold-append apart near p ∙ sym (x.holds p) ∙ h) a;
    slots = λ s h. elim (k.slots s h) [ inl y ↦ inl (x.slots s (sym (tuples_mention-append apart near s) ∙ y)) | inr y ↦ inr y ];
    lines = λ l i. elim (In-split l (tuples_lines (apart ++ near)) (plan_lines (stored_measures e) f) (k.lines l i)) [
      | inl y ↦ In-left l _ _ (x.lines l (subst (In l) (tuples_lines-append apart near) y))
      | inr y ↦ In-right l (tuples_lines kept) _ y
    ];
    normal = λ n. let both = x.normal n in k.normal (all-both IsNormalTuple apart near both.0 both.1);
  }

  -- where what is lost is what the plan gives over other relations
  pub remaining : (c : Catalogue) (kept ts : List (List Atom)) → IsEvaluation c f (tuples_hold lost) (tuples_mention lost) (tuples_lines lost) → AreLeft e f lost kept ts → IsRemaining c e f kept ts
  remaining c kept ts v k = record {
    within = k.within;
    right = λ p i h. elim (k.right p i h) [ inl a ↦ inl a | inr n ↦ inr (λ g. true≢false (sym ((v.holds p i refl).1 g) ∙ n)) ];
    all = k.all;
    slots = k.slots;
    lines = k.lines;
    normal = k.normal;
  }

-- before is after or what is lost: so what is left holds where the plan does after
pub right_after : (c e : Catalogue) (f : PlanForm) (kept ts : List (List Atom)) → IsRemaining c e f kept ts → (p : Point) → IsPoint p → (before after : Type 0) → before ↔ (after ⊎ GivenHolds c f p)
    → GivenHolds e f p ↔ after → IsTrue (tuples_hold kept p) ↔ before → IsTrue (tuples_hold ts p) ↔ after
right_after c e f kept ts k p i before after law is was = (
  λ h. elim (k.right p i h) [
    | inl a ↦ is.0 a
    | inr n ↦ elim (law.0 (was.0 (k.within p i h))) [ inl a ↦ a | inr g ↦ absurd (n g) ]
  ],
  λ a. k.all p i (was.1 (law.1 (inl a))) (is.1 a),
)

-- ---- one more, as it is or in pieces

pub adds_whole : (e : Catalogue) (f : PlanForm) (t : List Atom) (list cut new pieces : List (List Atom)) → IsWithin e f t pieces → IsPutBehind list pieces new → AddsWithin e f t list cut new cut
adds_whole e f t list cut new pieces w b = λ lost done k. left_more e f lost done (list ++ cut) (new ++ cut) pieces t w (joined_before list pieces new cut (joined_behind list pieces new b)) k

pub adds_pieces : (e : Catalogue) (f : PlanForm) (t : List Atom) (list cut new pieces : List (List Atom)) → IsWithin e f t pieces → new ≡ cut ++ pieces → AddsWithin e f t list cut list new
adds_pieces e f t list cut new pieces w is = λ lost done k.
    left_more e f lost done (list ++ cut) (list ++ new) pieces t w (subst (AreJoined (list ++ cut) pieces) (append_assoc list cut pieces ∙ ap (λ us. list ++ us) (sym is)) (joined_all (list ++ cut) pieces)) k
