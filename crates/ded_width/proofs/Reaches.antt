-- Lengths at a rank: what is narrow does not clash.
--
-- With a greatest length b, the lines at the rank q have at most (b + 1) * 2 ^ q - 1 digits: an elimination makes of k digits at
-- most 2k + 1. Where (b + 1) * 2 ^ (q + 1) is at most 128, that is at most 63, so that an elimination does not clash.
use Rattle.std.proofs.Common.{◌≡◌, ℕ, suc, ◌+◌, ◌-◌, ◌*◌, ◌^◌, ◌<◌, ◌≤◌, Bool, false, ◌||◌, List, [], ◌++◌, inl, inr, refl, sym, ◌∙◌, ap, subst, arith}
use Rattle.std.specs.Prelude.{max}
use lib.Pow.{pow_pos}
use Rattle.std.proofs.Math.Pow.{pow-add, pow_mono}
use Rattle.ded_model.specs.declared.slot.Slot.{Slot}
use Rattle.ded_model.specs.declared.slot.Sort.{Sort}
use Rattle.ded_model.specs.declared.slot.Sort.TheVariants.{Rat, Text}
use Rattle.ded_model.specs.Point.{Key, slot, name}
use Rattle.ded_model.specs.Logic.{Logic, atom, always, never, negation, every_of, some_of, implies, minus, exists, forall, Logics, none, also, AllAtoms, AllAtomsOf, rank, greatest_rank, greatest, greatest_of, one_more}
use Rattle.ded_model.specs.Lines.{Line, AreWithin, elim_at, elim_past, clash_past, lines, all_lines, clashes, any_clashes}
use Rattle.ded_model.specs.Width.{IsNarrowWith}
use Rattle.ded_model.proofs.Members.{In-split}
use Rattle.ded_model.proofs.LineLengths.{within_more, elim-within, no_clash}
use Rattle.ded_model.proofs.LineSlots.{elim_slots}
use Rattle.ded_width.specs.Reach.{AreWithinReach, AreRationalLines}
use Rattle.std.proofs.lemmas.Bool.{or_from}

-- ---- numbers

-- the greatest length at a rank
abbrev pub reach : ℕ → ℕ → ℕ
reach b q = (b + 1) * 2 ^ q - 1

power_step : (q : ℕ) → 2 ^ suc q ≡ 2 ^ q + 2 ^ q
power_step q = let e : suc q ≡ q + 1 = omega arith in ap (λ n. 2 ^ n) e ∙ double q
  where
    double : (q : ℕ) → 2 ^ (q + 1) ≡ 2 ^ q + 2 ^ q
    double q = rw (pow-add 2 q 1) (omega arith)

pub some_power : (b q : ℕ) → 0 < (b + 1) * 2 ^ q
some_power b q = let h = pow_pos q in grind arith

-- one more rational quantifier doubles it
twice : (b q : ℕ) → (b + 1) * 2 ^ suc q ≡ (b + 1) * 2 ^ q + (b + 1) * 2 ^ q
twice b q = let e = power_step q in rw e (omega arith)

double_reach : (b q : ℕ) → reach b (suc q) ≡ 2 * reach b q + 1
double_reach b q = let h = some_power b q in let f = twice b q in omega arith

times_up : (b x y : ℕ) → x ≤ y → (b + 1) * x ≤ (b + 1) * y
times_up b x y h = grind arith

factor_up : (b d x : ℕ) → b ≤ d → (b + 1) * x ≤ (d + 1) * x
factor_up b d x h = grind arith

product_up : (b d i j : ℕ) → b ≤ d → i ≤ j → (b + 1) * 2 ^ i ≤ (d + 1) * 2 ^ j
product_up b d i j h k =
    let p : 2 ^ i ≤ 2 ^ j = pow_mono k in
    let q = times_up b (2 ^ i) (2 ^ j) p in
    let r = factor_up b d (2 ^ j) h in omega arith

-- what is narrow is narrow with less
pub narrow_with_less : (b d i j : ℕ) → b ≤ d → i ≤ j → IsNarrowWith d j → IsNarrowWith b i
narrow_with_less b d i j h k n = let p = product_up b d i j h k in omega (arith, p, n)

-- below one more quantifier all is short
short_below : (b q : ℕ) → IsNarrowWith b (suc q) → reach b q ≤ 63
short_below b q n = let f = twice b q in omega arith

max_left : (i j : ℕ) → i ≤ max i j
max_left i j = omega arith

max_right : (i j : ℕ) → j ≤ max i j
max_right i j = omega arith

-- ---- lines at a rank

-- the lines are over rational slots and have the lengths of the rank, and where that is narrow there is no clash
pub record IsInReach (b q : ℕ) (ls : List Line) (clash : Bool) : Type 0 where
  pub lines : AreWithin (reach b q) ls
  pub rational : AreRationalLines ls
  pub tight : IsNarrowWith b q → clash ≡ false

-- no lines
pub nothing : (b q : ℕ) → IsInReach b q [] false
nothing b q = record { lines = λ l i. absurd i; rational = λ l i. absurd i; tight = λ n. refl }

-- lines of rows, before any elimination
pub of_length : (b : ℕ) (ls : List Line) → AreWithin b ls → AreRationalLines ls → IsInReach b 0 ls false
of_length b ls h r = record { lines = λ l i. within_more b (reach b 0) l (same b) (h l i); rational = r; tight = λ n. refl }
  where
    same : (b : ℕ) → b ≤ (b + 1) * 2 ^ 0 - 1
    same b = omega arith

-- where more is allowed
pub higher : (b d i j : ℕ) (ls : List Line) (c : Bool) → b ≤ d → i ≤ j → IsInReach b i ls c → IsInReach d j ls c
higher b d i j ls c h k n =
    let p = product_up b d i j h k in
    record { lines = λ l x. within_more _ _ l (less p) (n.lines l x); rational = n.rational; tight = λ a. n.tight (omega (arith, p, a)) }
  where
    less : (b + 1) * 2 ^ i ≤ (d + 1) * 2 ^ j → reach b i ≤ reach d j
    less p = omega (arith, p)

-- two sets of lines
pub both : (b d i j : ℕ) (xs ys : List Line) (c e : Bool) → IsInReach b i xs c → IsInReach d j ys e → IsInReach (max b d) (max i j) (xs ++ ys) (c || e)
both b d i j xs ys c e m n =
    let m' = higher b (max b d) i (max i j) xs c (max_left b d) (max_left i j) m in
    let n' = higher d (max b d) j (max i j) ys e (max_right b d) (max_right i j) n in
    record {
      lines = λ l x. elim (In-split l xs ys x) [ inl a ↦ m'.lines l a | inr a ↦ n'.lines l a ];
      rational = λ l x. elim (In-split l xs ys x) [ inl a ↦ m.rational l a | inr a ↦ n.rational l a ];
      tight = λ a. or_from c e (m'.tight a) (n'.tight a);
    }

-- an elimination mentions slots that its lines mention
elim_rational : (s : Slot) (ls : List Line) → AreRationalLines ls → AreRationalLines (elim_at s ls)
elim_rational s ls h l i t m = let r = elim_slots s ls l t i m in h r.1.0 r.1.1 t r.1.2

-- past a quantifier
pub past : (b q : ℕ) (s : Sort) (k : Key) (ls : List Line) (c : Bool) → IsInReach b q ls c → IsInReach b (one_more s q) (elim_past s k ls) (c || clash_past s k ls)
past b q Rat (slot s) ls c n =
    let m = higher b b q (suc q) ls c (omega arith) (omega arith) n in
    record {
      lines = subst (λ m. AreWithin m (elim_at s ls)) (sym (double_reach b q)) (elim-within s ls (reach b q) n.lines);
      rational = elim_rational s ls n.rational;
      tight = λ a. or_from c _ (m.tight a) (no_clash s ls (λ l i. within_more _ _ l (short_below b q a) (n.lines l i)));
    }
past b q Rat (name x) ls c n = let m = higher b b q (suc q) ls c (omega arith) (omega arith) n in record { lines = m.lines; rational = m.rational; tight = λ a. or_from c false (m.tight a) refl }
past b q Text k ls c n = record { lines = n.lines; rational = n.rational; tight = λ a. or_from c false (n.tight a) refl }

-- ---- formulas

module _ {L : Type 0} (of : L → List Line) (in_atom : L → Bool) (of_b : L → ℕ) (of_rank : L → ℕ) (P : L → Type 0) (atoms : (a : L) → P a → IsInReach (of_b a) (of_rank a) (of a) (in_atom a)) where
  mutual
    -- a formula has the lengths of its rank where its atoms have those of their own
    pub in_reach : (f : Logic L) → AllAtoms P f → IsInReach (greatest of_b f) (rank of_rank f) (lines of f) (clashes of in_atom f)
    in_reach (atom a) h = atoms a h
    in_reach always h = nothing 0 0
    in_reach never h = nothing 0 0
    in_reach (negation f) h = in_reach f h
    in_reach (every_of fs) h = all_in_reach fs h
    in_reach (some_of fs) h = all_in_reach fs h
    in_reach (implies f g) h = both _ _ _ _ _ _ _ _ (in_reach f h.0) (in_reach g h.1)
    in_reach (minus f g) h = both _ _ _ _ _ _ _ _ (in_reach f h.0) (in_reach g h.1)
    in_reach (exists s k f) h = past _ _ s k _ _ (in_reach f h)
    in_reach (forall s k f) h = past _ _ s k _ _ (in_reach f h)

    -- of a list
    pub all_in_reach : (fs : Logics L) → AllAtomsOf P fs → IsInReach (greatest_of of_b fs) (greatest_rank of_rank fs) (all_lines of fs) (any_clashes of in_atom fs)
    all_in_reach none h = nothing 0 0
    all_in_reach (also f fs) h = both _ _ _ _ _ _ _ _ (in_reach f h.0) (all_in_reach fs h.1)

-- ---- what the laws say

-- the length is one less than the product
pub within : (b q : ℕ) (ls : List Line) (c : Bool) → IsInReach b q ls c → AreWithinReach b q ls
within b q ls c h k e = subst (λ m. AreWithin m ls) (same k e) h.lines
  where
    same : (k : ℕ) → k + 1 ≡ (b + 1) * 2 ^ q → reach b q ≡ k
    same k e = omega (arith, e)

-- and back
pub from_within : (b q : ℕ) (ls : List Line) → AreWithinReach b q ls → AreWithin (reach b q) ls
from_within b q ls h = h (reach b q) (let p = some_power b q in omega (arith, p))
