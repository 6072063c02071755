-- Parts of tuples and of lists of tuples, in the same order.
--
-- A part of a normal tuple is normal: its atoms are in order, as the order of atoms is transitive. A list of parts mentions
-- nothing new and has no new lines.
use Rattle.std.proofs.Common.{◌≡◌, true, List, [], ◌∷◌, ◌++◌, inl, inr, refl, sym, ap, subst}
use Rattle.std.specs.declared.cmp.Ordering.TheVariants.{Less}
use Rattle.ded_model.specs.declared.slot.Slot.{Slot}
use Rattle.ded_model.specs.Row.{Atom, atom_mentions, tuple_mentions, tuples_mention}
use Rattle.ded_model.specs.Lines.{In, IsSubset, row_lines, atoms_lines, tuples_lines}
use Rattle.ded_model.specs.Normal.{atom_order, BeginsAfter, IsNormalTuple}
use Rattle.ded_model.proofs.Rows.{or_left, or_right}
use Rattle.ded_model.proofs.Members.{In-split, In-left, In-right, or_split}
use Rattle.ded_theory.specs.Both.{by_kind}
use Rattle.ded_theory.specs.Conjunctions.{conj_lines}
use Rattle.ded_model.specs.Sublists.{IsSublist}
use Rattle.ded_model.proofs.Sublists.{sublist_refl}
use Rattle.ded_reduce.proofs.Sublists.{sublist_slots, sublist_lines}
use Rattle.ded_atoms.proofs.Conjunctive.{atoms_lines-is}
use Rattle.ded_atoms.specs.Kept.{ArePartsOf}
use Rattle.ded_tuple.proofs.Chains.{atom-chains}

-- ---- lists with one element more

pub parts_push : (ts us : List (List Atom)) (t u : List Atom) → IsSublist t u → ArePartsOf ts us → ArePartsOf (ts ++ t ∷ []) (us ++ u ∷ [])
parts_push ts [] t u s h = subst (λ xs. ArePartsOf (xs ++ t ∷ []) (u ∷ [])) (sym h) (inr (t, [], refl, s, refl))
parts_push ts (v ∷ us) t u s (inl h) = inl (parts_push ts us t u s h)
parts_push ts (v ∷ us) t u s (inr h) = inr (h.0, h.1 ++ t ∷ [], ap (λ xs. xs ++ t ∷ []) h.2, h.3, parts_push h.1 us t u s h.4)

pub parts_skip : (ts us : List (List Atom)) (u : List Atom) → ArePartsOf ts us → ArePartsOf ts (us ++ u ∷ [])
parts_skip ts [] u h = inl h
parts_skip ts (v ∷ us) u (inl h) = inl (parts_skip ts us u h)
parts_skip ts (v ∷ us) u (inr h) = inr (h.0, h.1, h.2, h.3, parts_skip h.1 us u h.4)

-- ---- lists that are left out of

-- some of the parts
pub parts_after : (fs ts us : List (List Atom)) → IsSublist fs ts → ArePartsOf ts us → ArePartsOf fs us
parts_after fs ts [] h k = subst (λ xs. IsSublist fs xs) k h
parts_after fs ts (u ∷ us) h (inl k) = inl (parts_after fs ts us h k)
parts_after fs ts (u ∷ us) h (inr k) = elim (subst (λ xs. IsSublist fs xs) k.2 h) [
  | inl i ↦ inl (parts_after fs k.1 us i.1 k.4)
  | inr j ↦ inr (k.0, j.0, j.1, k.3, parts_after j.0 k.1 us j.2 k.4)
]

-- parts of some
pub parts_before : (ts us vs : List (List Atom)) → ArePartsOf ts us → IsSublist us vs → ArePartsOf ts vs
parts_before ts us [] h k = subst (λ xs. ArePartsOf ts xs) k h
parts_before ts us (v ∷ vs) h (inl k) = inl (parts_before ts us vs h k.1)
parts_before ts us (v ∷ vs) h (inr k) = elim (subst (λ xs. ArePartsOf ts xs) k.1 h) [
  | inl i ↦ inl (parts_before ts k.0 vs i k.2)
  | inr j ↦ inr (j.0, j.1, j.2, j.3, parts_before j.1 k.0 vs j.4 k.2)
]

-- each list is made of parts of itself
pub sublist_parts : (ts us : List (List Atom)) → IsSublist ts us → ArePartsOf ts us
sublist_parts ts [] h = h
sublist_parts ts (u ∷ us) (inl h) = inl (sublist_parts ts us h.1)
sublist_parts ts (u ∷ us) (inr h) = inr (u, h.0, h.1, sublist_refl _ u, sublist_parts h.0 us h.2)

-- ---- what parts mention, and their lines

pub part_slots : (t u : List Atom) → IsSublist t u → (s : Slot) → tuple_mentions t s ≡ true → tuple_mentions u s ≡ true
unfolding tuple_mentions
part_slots t u h s = sublist_slots atom_mentions s t u h

pub parts_slots : (ts us : List (List Atom)) → ArePartsOf ts us → (s : Slot) → tuples_mention ts s ≡ true → tuples_mention us s ≡ true
unfolding tuple_mentions tuples_mention
parts_slots ts [] h s e = subst (λ xs. tuples_mention xs s ≡ true) h e
parts_slots ts (u ∷ us) (inl h) s e = or_right (tuple_mentions u s) (tuples_mention us s) (parts_slots ts us h s e)
parts_slots ts (u ∷ us) (inr h) s e = elim (or_split (tuple_mentions h.0 s) (tuples_mention h.1 s) (subst (λ xs. tuples_mention xs s ≡ true) h.2 e)) [
  | inl a ↦ or_left (tuple_mentions u s) (tuples_mention us s) (part_slots h.0 u h.3 s a)
  | inr b ↦ or_right (tuple_mentions u s) (tuples_mention us s) (parts_slots h.1 us h.4 s b)
]

pub part_lines : (t u : List Atom) → IsSublist t u → IsSubset (atoms_lines t) (atoms_lines u)
part_lines t u h = subst (λ ls. IsSubset ls (atoms_lines u)) (atoms_lines-is t)
    (subst (IsSubset (conj_lines (by_kind row_lines (λ a. [])) t)) (atoms_lines-is u) (sublist_lines (by_kind row_lines (λ a. [])) t u h))

pub parts_lines : (ts us : List (List Atom)) → ArePartsOf ts us → IsSubset (tuples_lines ts) (tuples_lines us)
parts_lines ts [] h l i = subst (λ xs. In l (tuples_lines xs)) h i
parts_lines ts (u ∷ us) (inl h) l i = In-right l (atoms_lines u) (tuples_lines us) (parts_lines ts us h l i)
parts_lines ts (u ∷ us) (inr h) l i = elim (In-split l (atoms_lines h.0) (tuples_lines h.1) (subst (λ xs. In l (tuples_lines xs)) h.2 i)) [
  | inl a ↦ In-left l (atoms_lines u) (tuples_lines us) (part_lines h.0 u h.3 l a)
  | inr b ↦ In-right l (atoms_lines u) (tuples_lines us) (parts_lines h.1 us h.4 l b)
]

-- ---- parts of normal tuples

begins_rest : (a b : Atom) (bs : List Atom) → atom_order a b ≡ Less → BeginsAfter b bs → BeginsAfter a bs
begins_rest a b [] e h = tt
begins_rest a b (c ∷ cs) e h = (atom-chains a b c).less e h

-- what stands before a normal tuple stands before its parts
begins_part : (a : Atom) (t u : List Atom) → IsSublist t u → BeginsAfter a u → IsNormalTuple u → BeginsAfter a t
begins_part a t [] h b n = subst (BeginsAfter a) (sym h) tt
begins_part a t (c ∷ u) (inl h) b n = begins_part a t u h.1 (begins_rest a c u b n.1) n.2
begins_part a t (c ∷ u) (inr h) b n = subst (BeginsAfter a) (sym h.1) b

pub normal_part : (t u : List Atom) → IsSublist t u → IsNormalTuple u → IsNormalTuple t
normal_part t [] h n = subst IsNormalTuple (sym h) tt
normal_part t (c ∷ u) (inl h) n = normal_part t u h.1 n.2
normal_part t (c ∷ u) (inr h) n = subst IsNormalTuple (sym h.1) (n.0, begins_part c h.0 u h.2 n.1 n.2, normal_part h.0 u h.2 n.2)
