use Rattle.std.proofs.Common.{◌≡◌, ℕ, ◌+◌, ◌-◌, ◌/◌, ◌<◌, ◌≤◌, length, get_or, arith}
use Rattle.std.specs.declared.cmp.Ordering.TheVariants.{Less, Equal, Greater}
use Rattle.ded_model.specs.Normal.{atom_order}
use Rattle.ded_tuple.specs.Places.{atom_place}
use Rattle.ded_tuple.proofs.Places.{place-within}
use Rattle.ded_tuple.proofs.Halving.{less_at, greater_at, equal_at, not_there, read_at, behind_at}
use Rattle.ded_tuple.proofs.placing.find.Goals as goal

-- the middle lies between
middle : (m n k : ℕ) → m < n → n ≤ k → m + (n - m) / 2 < k
middle m n k h l = omega (arith, h, l)

itself : (n : ℕ) → n < n → ⊥
itself n h = omega (arith, h)

pub loop-low-init : goal.loop-low-init
loop-low-init c = record {
  low = omega arith;
  high = place-within c.args.atom.now c.args.atoms.now;
  within = omega arith;
  behind = λ h d. absurd (itself (length c.args.atoms.now) h);
}

pub loop-low-preserved-in-Less : goal.loop-low-preserved-in-Less
loop-low-preserved-in-Less c =
    let a = c.args.atom.now in
    let b = c.index-atoms-middle.result in
    let xs = c.args.atoms.now in
    let i : ℕ = c.loop-low.low + (c.loop-low.high - c.loop-low.low) / 2 in
    let there : i < length xs = middle c.loop-low.low c.loop-low.high (length xs) c.loop-low-test.true c.loop-low.invariant.within in
    let found : atom_order a (get_or xs i b) ≡ Less = read_at a b xs i c.order.result Less c.index-atoms-middle.is c.order.ensures c.in-Less.is in
    record {
      low = c.loop-low.invariant.low;
      high = less_at a xs i b there found;
      within = omega (arith, there);
      behind = behind_at a b xs i found;
    }

pub returns-in-Equal-clause-at : goal.returns-in-Equal-clause-at
returns-in-Equal-clause-at c =
    let a = c.args.atom.now in
    let b = c.index-atoms-middle.result in
    let xs = c.args.atoms.now in
    let i : ℕ = c.loop-low.low + (c.loop-low.high - c.loop-low.low) / 2 in
    (equal_at a xs i b c.requires (middle c.loop-low.low c.loop-low.high (length xs) c.loop-low-test.true c.loop-low.invariant.within)
    (read_at a b xs i c.order.result Equal c.index-atoms-middle.is c.order.ensures c.in-Equal.is)).0

pub returns-in-Equal-clause-taken : goal.returns-in-Equal-clause-taken
returns-in-Equal-clause-taken c =
    let a = c.args.atom.now in
    let b = c.index-atoms-middle.result in
    let xs = c.args.atoms.now in
    let i : ℕ = c.loop-low.low + (c.loop-low.high - c.loop-low.low) / 2 in
    (equal_at a xs i b c.requires (middle c.loop-low.low c.loop-low.high (length xs) c.loop-low-test.true c.loop-low.invariant.within)
    (read_at a b xs i c.order.result Equal c.index-atoms-middle.is c.order.ensures c.in-Equal.is)).1

pub loop-low-preserved : goal.loop-low-preserved
loop-low-preserved c =
    let a = c.args.atom.now in
    let b = c.index-atoms-middle.result in
    let xs = c.args.atoms.now in
    let i : ℕ = c.loop-low.low + (c.loop-low.high - c.loop-low.low) / 2 in
    record {
      low = greater_at a xs i b c.requires (middle c.loop-low.low c.loop-low.high (length xs) c.loop-low-test.true c.loop-low.invariant.within)
          (read_at a b xs i c.order.result Greater c.index-atoms-middle.is c.order.ensures c.in-Greater.is);
      high = c.loop-low.invariant.high;
      within = c.loop-low.invariant.within;
      behind = c.loop-low.invariant.behind;
    }

pub returns-clause-taken : goal.returns-clause-taken
returns-clause-taken c =
    let a = c.args.atom.now in
    let xs = c.args.atoms.now in
    let same : c.loop-low.high ≡ atom_place a xs = between c.loop-low.low c.loop-low.high (atom_place a xs) c.loop-low-test.false c.loop-low.invariant.low c.loop-low.invariant.high in
    not_there a xs c.loop-low.high same c.loop-low.invariant.behind
  where
    between : (m n k : ℕ) → n ≤ m → m ≤ k → k ≤ n → n ≡ k
    between m n k f g h = omega (arith, f, g, h)
