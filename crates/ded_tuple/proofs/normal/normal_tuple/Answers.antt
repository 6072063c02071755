use Rattle.std.proofs.Common.{◌≡◌, ◌∷◌, [], ◌++◌, sym, ap, ◌∙◌, subst, rules}
use Rattle.std.specs.List.{AllByRecursion}
use Rattle.ded_model.specs.Lines.{atoms_lines, IsSubset}
use Rattle.ded_model.specs.Row.{tuple_holds, tuple_mentions}
use Rattle.ded_model.specs.Normal.{IsNormalTuple, ordered_atoms}
use Rattle.ded_tuple.specs.Places.{placed}
use Rattle.ded_tuple.specs.TrueRows.{IsNormalOrTrue, without_true}
use Rattle.ded_tuple.proofs.Ordered.{holds-normal, mentions-normal, lines-normal, normal-normal, last_placed, placed_none, all-last, all-others}
use Rattle.ded_tuple.proofs.normal.normal_tuple.Goals as goal
use Rattle.ded_tuple.proofs.normal.normal_tuple.Goals.{After-drop-atoms-2}

pub loop-atom-init : goal.loop-atom-init
loop-atom-init c = record { normal = c.requires; done = ap (placed (without_true c.args.atoms.items)) c.in_ok-with_capacity.ensures.items ∙ placed_none (without_true c.args.atoms.items) }

pub add-requires : goal.add-requires
add-requires c = all-last IsNormalOrTrue c.pop.new.self.items c.in-Some.atom (subst (AllByRecursion IsNormalOrTrue) c.in-Some.ensures.items c.loop-atom.invariant.normal)

pub loop-atom-preserved : goal.loop-atom-preserved
loop-atom-preserved c =
    let rest = c.pop.new.self.items in
    let atom = c.in-Some.atom in
    let is : c.loop-atom.atoms.items ≡ rest ++ atom ∷ [] = c.in-Some.ensures.items in
    record {
      normal = all-others IsNormalOrTrue rest atom (subst (AllByRecursion IsNormalOrTrue) is c.loop-atom.invariant.normal);
      done = ap (placed (without_true rest)) c.in_ok-add.ensures ∙ sym (last_placed rest atom c.loop-atom.tuple) ∙ ap (λ xs. placed (without_true xs) c.loop-atom.tuple) (sym is) ∙ c.loop-atom.invariant.done;
    }

-- the tuple at the end
value : (c : After-drop-atoms-2) → c.loop-atom.tuple ≡ ordered_atoms (without_true c.args.atoms.items)
value c = search rules

pub returns-clause-value : goal.returns-clause-value
returns-clause-value c = value c

pub returns-clause-normal : goal.returns-clause-normal
returns-clause-normal c = subst IsNormalTuple (sym (value c)) (normal-normal c.args.atoms.items c.requires)

pub returns-clause-holds : goal.returns-clause-holds
returns-clause-holds c = λ p. ap (λ t. tuple_holds t p) (value c) ∙ holds-normal c.args.atoms.items p c.requires

pub returns-clause-slots : goal.returns-clause-slots
returns-clause-slots c = λ s m. mentions-normal c.args.atoms.items s (ap (λ t. tuple_mentions t s) (sym (value c)) ∙ m)

pub returns-clause-lines : goal.returns-clause-lines
returns-clause-lines c = subst (λ t. IsSubset (atoms_lines t) (atoms_lines c.args.atoms.items)) (sym (value c)) (lines-normal c.args.atoms.items)
