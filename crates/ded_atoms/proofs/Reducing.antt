-- Tuples without those that hold nowhere and those that are known.
--
-- Each loop over a list of tuples keeps parts of those that it has passed, which hold where those do.
use Rattle.std.proofs.Common.{◌≡◌, ◌≢◌, ℕ, ◌+◌, ◌<◌, ◌≤◌, Bool, true, ◌||◌, Some, List, [], ◌∷◌, ◌++◌, length, get_or, drop, drop-cons, add-one, refl, sym, ap, ap₂, ◌∙◌, subst}
use Rattle.std.specs.Cmp.{IsEquivalence}
use Rattle.std.specs.List.{AllByRecursion, AllPairs, IsDistinct}
use Rattle.std.proofs.lemmas.List.{drop_all}
use Rattle.std.proofs.lemmas.Map.Made.{AllPairs-from_IsDistinct}
use Rattle.indexmap.specs.IndexSet.{insert_all}
use Rattle.ded_model.specs.Point.{Point}
use Rattle.ded_model.specs.Row.{Atom, tuple_holds, tuples_hold}
use Rattle.ded_model.specs.Normal.{IsNormalTuple}
use Rattle.ded_model.specs.Cell.{HoldsNowhere}
use Rattle.ded_theme.proofs.Lists.{all-append}
use Rattle.std.proofs.Math.Bool.{or-false}
use Rattle.ded_model.specs.Sublists.{IsSublist}
use Rattle.ded_model.proofs.Sublists.{sublist_refl}
use Rattle.ded_model.proofs.TupleLists.{tuples_hold-push}
use Rattle.ded_genrel.proofs.Items.{all_weaker}
use Rattle.ded_atoms.specs.Kept.{ArePartsOf, IsReducedTuple, IsReducedOrder, IsReducedPart, AreReducedParts}
use Rattle.ded_atoms.specs.Own.{HaveOwnSlots}
use Rattle.ded_atoms.proofs.Once.{once_all, told}
use Rattle.ded_atoms.proofs.OwnSlots.{own_reduced}
use Rattle.ded_atoms.proofs.TupleParts.{parts_push, parts_skip, parts_after, parts_before, sublist_parts}

-- ---- tuples that are known

-- the tuples that are kept of a list hold where it does, and none stands twice
pub record IsDistinctPart (ts us : List (List Atom)) : Type 0 where
  pub kept : IsSublist ts us
  pub holds : (p : Point) → tuples_hold ts p ≡ tuples_hold us p
  pub once : AllPairs (λ t u. t ≢ u) ts

pub distinct_listed : (eq : List Atom → List Atom → Bool) → IsEquivalence eq → ((t u : List Atom) → eq t u ≡ true → t ≡ u) → (us ts : List (List Atom)) → ts ≡ insert_all eq [] us → IsDistinct eq ts → IsDistinctPart ts us
unfolding tuples_hold
distinct_listed eq laws same us ts is apart =
    let part = once_all eq same us in
    record {
      kept = subst (λ vs. IsSublist vs us) (sym is) part.kept;
      holds = λ p. ap (λ vs. tuples_hold vs p) is ∙ part.some (λ t. tuple_holds t p);
      once = AllPairs-from_IsDistinct (λ t u. (same t u, told laws t u)) ts apart;
    }

-- ---- tuples without superfluous atoms

pub reduced_none : AreReducedParts [] []
reduced_none = record { holds = λ p i. refl; parts = refl; normal = tt; reduced = tt; orders = tt }

pub reduced_gone : (us ts : List (List Atom)) (u : List Atom) → HoldsNowhere (tuple_holds u) → AreReducedParts ts us → AreReducedParts ts (us ++ u ∷ [])
reduced_gone us ts u z r = record {
  holds = λ p i. sym (or-false (tuples_hold ts p)) ∙ ap₂ (λ a b. a || b) (r.holds p i) (sym (z p i)) ∙ sym (tuples_hold-push us u p);
  parts = parts_skip ts us u r.parts;
  normal = r.normal;
  reduced = r.reduced;
  orders = r.orders;
}

pub reduced_more : (us ts : List (List Atom)) (u t : List Atom) → IsReducedPart u (Some t) → AreReducedParts ts us → AreReducedParts (ts ++ t ∷ []) (us ++ u ∷ [])
reduced_more us ts u t k r = record {
  holds = λ p i. tuples_hold-push ts t p ∙ ap₂ (λ a b. a || b) (r.holds p i) (k.0 p i) ∙ sym (tuples_hold-push us u p);
  parts = parts_push ts us t u k.1 r.parts;
  normal = all-append IsNormalTuple ts t r.normal k.2;
  reduced = all-append IsReducedTuple ts t r.reduced k.3;
  orders = all-append IsReducedOrder ts t r.orders k.4;
}

-- ---- tuples whose atoms have slots of their own

-- a normal tuple whose atoms have slots of their own
abbrev pub IsOwnTuple : List Atom → Type 0
IsOwnTuple t = IsNormalTuple t × HaveOwnSlots t

-- such tuples stay as they are
pub own_parts : (us : List (List Atom)) → AllByRecursion IsOwnTuple us → AreReducedParts us us
own_parts us o = record {
  holds = λ p i. refl;
  parts = sublist_parts us us (sublist_refl _ us);
  normal = all_weaker IsOwnTuple IsNormalTuple us (λ t k. k.0) o;
  reduced = all_weaker IsOwnTuple IsReducedTuple us (λ t k narrow. own_reduced t k.0 k.1) o;
  orders = all_weaker IsOwnTuple IsReducedOrder us (λ t k orders. own_reduced t k.0 k.1) o;
}

-- one more of them
pub own_more : (us : List (List Atom)) (i : ℕ) (u : List Atom) → i < length us → u ≡ get_or us i u → IsOwnTuple u
    → (AllByRecursion IsOwnTuple (drop i us) → AllByRecursion IsOwnTuple us) → AllByRecursion IsOwnTuple (drop (i + 1) us) → AllByRecursion IsOwnTuple us
own_more us i u l is o h k = h (subst (AllByRecursion IsOwnTuple) (sym (drop-cons us i u l ∙ ap₂ (λ x j. x ∷ drop j us) (sym is) (sym (add-one i)))) (o, k))

pub own_done : (us : List (List Atom)) (i : ℕ) → length us ≤ i → (AllByRecursion IsOwnTuple (drop i us) → AllByRecursion IsOwnTuple us) → AreReducedParts us us
own_done us i l h = own_parts us (h (subst (AllByRecursion IsOwnTuple) (sym (drop_all i us l)) tt))

-- ---- one after another

-- some of the parts of some of the tuples
pub parts_distinct : (vs us ts fs : List (List Atom)) → IsSublist us vs → ArePartsOf ts us → IsSublist fs ts → ArePartsOf fs vs
parts_distinct vs us ts fs s r z = parts_before fs us vs (parts_after fs ts us z r) s
