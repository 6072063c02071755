use Rattle.std.proofs.Common.{◌≡◌, ◌∙◌, true, false, ap, sym, subst, take}
use Rattle.std.specs.Prelude.{nat_le}
use Rattle.std.specs.List.Sorted.{IsNonDecreasingBy, IsPartitionPoint}
use Rattle.std.proofs.lemmas.List.Sorted.{IsNonDecreasingBy-drop}
use Rattle.ded_complement.proofs.SameText.{rest_is}
use Rattle.ded_join.proofs.Owed.{rank_between}
use Rattle.ded_join.proofs.OtherTexts.{rank_of, by_rank}
use Rattle.ded_join.proofs.texts.of_text.Goals as goal

pub count_before-requires : goal.count_before-requires
count_before-requires c = by_rank c.args.text.now c.args.placed.now c.requires

pub count_up_to-requires : goal.count_up_to-requires
count_up_to-requires c =
    let t = c.args.text.now in
    let es = c.args.placed.now in
    subst (IsNonDecreasingBy (rank_of t)) (sym (rest_is c.count_before.result es)) (IsNonDecreasingBy-drop (rank_of t) c.count_before.result es (by_rank t es c.requires))

pub returns : goal.returns
returns c =
    let t = c.args.text.now in
    let es = c.args.placed.now in
    let i = c.count_before.result in
    let j = c.count_up_to.result in
    ap (take j) (rest_is i es)
    ∙ sym (rank_between (rank_of t) es i j c.count_before.ensures.point (subst (λ xs. IsPartitionPoint (λ e. nat_le (rank_of t e) 1 ≡ true) (λ e. nat_le (rank_of t e) 1 ≡ false) xs j) (rest_is i es) c.count_up_to.ensures.point))
